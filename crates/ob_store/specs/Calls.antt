-- What each call on a store does to its state.
use Rattle.std.specs.Prelude.{◌≡◌, ◌≢◌, ◌⊎◌, ◌<◌, ◌≤◌, ◌+◌, ◌==◌, ◌&&◌, not, ℕ, Bool, IsTrue, false, List, [], ◌∷◌, ◌++◌, length, nat_lt, true, Option, Some, None, Result, Ok, Err}
use Rattle.std.specs.List.{list_all}
use Rattle.ob_base.specs.Counts.{Rises}
use Rattle.ob_base.specs.declared.access.Access.{Access}
use Rattle.ob_base.specs.declared.fault.Failed.{Failed}
use Rattle.ob_base.specs.declared.fault.StoreErr.{StoreErr}
use Rattle.ob_base.specs.declared.fault.StoreErr.TheVariants as StoreErrs
use Rattle.ob_store.specs.State.{Shape, KeptRegion, FalseRead, Disturbance, StoreState}

pub record IsLive (s : StoreState) (region : ℕ) : Type 0 where
  pub shape : Shape
  pub live : s.live region ≡ Some shape

-- a place of a live region whose blocks have this length in bytes: a tag of 32 and at least one more,
-- and at most 16 rows of 1,024 beside it
pub record IsPlace (s : StoreState) (region place len : ℕ) : Type 0 where
  pub shape : Shape
  pub live : s.live region ≡ Some shape
  pub within : place < shape.blocks
  pub same_len : len ≡ shape.len
  pub small : 33 ≤ len
  pub large : len ≤ 16416

-- a live region of this size
pub record IsRegion (region blocks len : ℕ) (s : StoreState) : Type 0 where
  pub live : s.live region ≡ Some (record { blocks = blocks; len = len })

-- all of it comes only after so many accesses
abbrev pub IsBefore : Option (List Disturbance) → ℕ → Type 0
IsBefore None n = ⊥
IsBefore (Some list) n = list_all (λ d. nat_lt n d.before) list ≡ true

-- no call failed, and no read gave anything except what was written last
pub record IsQuiet (s : StoreState) : Type 0 where
  pub faults : s.faults ≡ 0
  pub slips : s.slips ≡ 0
  pub lie : s.lie ≡ None

-- nothing shows before the first access that others disturb, and a read that lied came after it
pub record IsSteady (s : StoreState) : Type 0 where
  pub quiet : IsBefore s.disturbed (length s.asked) → IsQuiet s
  pub lied : (lie : FalseRead) → s.lie ≡ Some lie → IsBefore s.disturbed (length lie.before + 1) → ⊥

-- one access was asked, whatever was answered; a lie stays
pub record Asks (access : Access) (old new : StoreState) : Type 0 where
  pub asked : new.asked ≡ old.asked ++ access ∷ []
  pub log : new.let_go ≡ old.let_go
  pub spare : old.spare ≤ new.spare + 1
  pub faults : old.faults ≤ new.faults
  pub slips : old.slips ≤ new.slips
  pub tells : new.tells ≡ old.tells
  pub lie : (lie : FalseRead) → old.lie ≡ Some lie → new.lie ≡ Some lie
  pub disturbed : new.disturbed ≡ old.disturbed
  pub steady : IsSteady new

-- `Failed` comes only where the count rose, and any other answer leaves it
abbrev pub CountsFault : {T : Type 0} → Result T Failed → StoreState → StoreState → Type 0
CountsFault (Ok _) old new = new.faults ≡ old.faults
CountsFault (Err _) old new = Rises old.faults new.faults

-- the same of a discard
abbrev pub CountsSlip : {T : Type 0} → Result T Failed → StoreState → StoreState → Type 0
CountsSlip (Ok _) old new = new.slips ≡ old.slips
CountsSlip (Err _) old new = Rises old.slips new.slips

abbrev pub CountsMakeFault : {T : Type 0} → Result T StoreErr → StoreState → StoreState → Type 0
CountsMakeFault (Ok _) old new = new.faults ≡ old.faults
CountsMakeFault (Err StoreErrs.NoMemory) old new = new.faults ≡ old.faults
CountsMakeFault (Err StoreErrs.Failed) old new = Rises old.faults new.faults

-- the regions and what they hold stay
pub record Keeps (old new : StoreState) : Type 0 where
  pub live : (q : ℕ) → new.live q ≡ old.live q
  pub last : (q x : ℕ) → new.last q x ≡ old.last q x
  pub kept : (q : ℕ) → new.kept q ≡ old.kept q

-- nothing except this region may have changed
pub record OnlyRegion (region : ℕ) (old new : StoreState) : Type 0 where
  pub live : (q : ℕ) → q ≢ region → new.live q ≡ old.live q
  pub last : (q x : ℕ) → q ≢ region → new.last q x ≡ old.last q x
  pub kept : (q : ℕ) → q ≢ region → new.kept q ≡ old.kept q

-- a region is live, and nothing was written there
pub record Makes (region blocks len : ℕ) (old new : StoreState) : Type 0 where
  pub here : IsRegion region blocks len new
  pub empty : (x : ℕ) → new.last region x ≡ None
  pub others : OnlyRegion region old new

-- a read that gave these bytes: the first that are other than `last` are the lie
pub record ReadGives (region place : ℕ) (bytes : List ℕ) (old new : StoreState) : Type 0 where
  pub unwritten : old.lie ≡ None → old.last region place ≡ None → new.lie ≡ None
  pub honest : old.lie ≡ None → old.last region place ≡ Some bytes → new.lie ≡ None
  pub caught : (block : List ℕ) → old.lie ≡ None → old.last region place ≡ Some block
      → block ≢ bytes
      → new.lie ≡ Some (record { region = region; place = place; bytes = bytes; before = old.asked })

-- nothing except this place may have changed
pub record OnlyAt (region place : ℕ) (old new : StoreState) : Type 0 where
  pub live : (q : ℕ) → new.live q ≡ old.live q
  pub elsewhere : (q x : ℕ) → (q ≡ region → x ≡ place → ⊥) → new.last q x ≡ old.last q x
  pub kept : (q : ℕ) → q ≢ region → new.kept q ≡ old.kept q

-- the block is what was written last
pub record Holds (region place : ℕ) (block : List ℕ) (old new : StoreState) : Type 0 where
  pub last : IsTrue old.tells → new.last region place ≡ Some block

-- the block is what was written last, or what was there stands
pub record MayHold (region place : ℕ) (block : List ℕ) (old new : StoreState) : Type 0 where
  pub last : (new.last region place ≡ old.last region place) ⊎ (new.last region place ≡ Some block)

-- `reserve` changes nothing else, and takes none away
pub record ChangesNothing (old new : StoreState) : Type 0 where
  pub spare : old.spare ≤ new.spare
  pub asked : new.asked ≡ old.asked
  pub log : new.let_go ≡ old.let_go
  pub faults : new.faults ≡ old.faults
  pub slips : new.slips ≡ old.slips
  pub tells : new.tells ≡ old.tells
  pub lie : new.lie ≡ old.lie
  pub gave : new.gave ≡ old.gave
  pub disturbed : new.disturbed ≡ old.disturbed
  pub keeps : Keeps old new

-- the list has let go of the accesses so far, and there is room for so many more; nothing else has changed
abbrev pub without_list : (spare : ℕ) → StoreState → StoreState
without_list spare s = record s { let_go = length s.asked; spare = spare }

-- ---- regions of earlier runs
-- a live region is kept as it stands
pub record KeepsLive (number : ℕ) (shape : Shape) (s : StoreState) : Type 0 where
  pub region : KeptRegion
  pub is : s.kept number ≡ Some region
  pub same : region.shape ≡ shape
  pub whole : region.given_up ≡ false
  pub last : (x : ℕ) → region.last x ≡ s.last number x

-- a block that is kept of a region lies at one of its places
pub record IsBounded (region : KeptRegion) : Type 0 where
  pub below : (x : ℕ) (block : List ℕ) → region.last x ≡ Some block → x < region.shape.blocks

-- a region that was taken out is kept as one that was given up, if it is kept
abbrev pub IsGivenUp : ℕ → StoreState → Type 0
IsGivenUp number s = (region : KeptRegion) → s.kept number ≡ Some region → region.given_up ≡ true

-- whether a region is kept with this size, and was not given up
abbrev pub is_kept : (blocks len : ℕ) → Option KeptRegion → Bool
is_kept blocks len None = false
is_kept blocks len (Some region) = not region.given_up && ((region.shape.blocks == blocks) && (region.shape.len == len))

-- whether the store failed
abbrev pub is_failed : {T : Type 0} → Result T StoreErr → Bool
is_failed (Ok t) = false
is_failed (Err StoreErrs.NoMemory) = false
is_failed (Err StoreErrs.Failed) = true

-- an earlier run's region was asked for, whatever was answered; from here on nothing is told of what others do
pub record Reopens (access : Access) (old new : StoreState) : Type 0 where
  pub asked : new.asked ≡ old.asked ++ access ∷ []
  pub log : new.let_go ≡ old.let_go
  pub spare : old.spare ≤ new.spare + 1
  pub faults : old.faults ≤ new.faults
  pub slips : new.slips ≡ old.slips
  pub tells : new.tells ≡ old.tells
  pub lie : new.lie ≡ old.lie
  pub disturbed : new.disturbed ≡ None
  -- what is kept of each region stays
  pub kept : (q : ℕ) → new.kept q ≡ old.kept q

-- it is live again, with this size and what was written there last
pub record Resumes (number blocks len : ℕ) (old new : StoreState) : Type 0 where
  pub here : IsRegion number blocks len new
  pub last : (region : KeptRegion) → IsTrue old.tells → old.kept number ≡ Some region
      → (x : ℕ) → new.last number x ≡ region.last x
  pub others : OnlyRegion number old new

-- ---- a store that saves
-- nothing has changed but that the store may have failed
pub record Syncs (old new : StoreState) : Type 0 where
  pub asked : new.asked ≡ old.asked
  pub log : new.let_go ≡ old.let_go
  pub spare : new.spare ≡ old.spare
  pub faults : old.faults ≤ new.faults
  pub slips : new.slips ≡ old.slips
  pub tells : new.tells ≡ old.tells
  pub lie : new.lie ≡ old.lie
  pub disturbed : new.disturbed ≡ old.disturbed
  pub gave : new.gave ≡ old.gave
  pub keeps : Keeps old new
  pub steady : IsSteady old → IsSteady new

-- no region is kept
pub record IsBare (s : StoreState) : Type 0 where
  pub none : (q : ℕ) → s.kept q ≡ None

-- each region that is live stays, and of those that aren't none is kept but as one that was given up
pub record Sweeps (old new : StoreState) : Type 0 where
  pub asked : new.asked ≡ old.asked
  pub log : new.let_go ≡ old.let_go
  pub spare : new.spare ≡ old.spare
  pub faults : new.faults ≡ old.faults
  pub slips : old.slips ≤ new.slips
  pub tells : new.tells ≡ old.tells
  pub lie : new.lie ≡ old.lie
  pub disturbed : new.disturbed ≡ old.disturbed
  pub live : (q : ℕ) → new.live q ≡ old.live q
  pub last : (q x : ℕ) → old.live q ≢ None → new.last q x ≡ old.last q x
  pub kept : (q : ℕ) → old.live q ≢ None → new.kept q ≡ old.kept q
  pub gone : (q : ℕ) → old.live q ≡ None → IsGivenUp q new
  pub steady : IsSteady old → IsSteady new
