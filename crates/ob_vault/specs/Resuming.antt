-- Regions of an earlier run that are made live again.
use Rattle.std.specs.Prelude.{◌≡◌, ◌≢◌, ◌⊎◌, ◌≤◌, ◌<◌, ◌+◌, ℕ, Bool, IsTrue, List, [], ◌∷◌, Some, None, Result, IfErr, OnOk, OnErr, length}
use Rattle.ob_base.specs.Accesses.{region_of}
use Rattle.ob_base.specs.declared.access.Access.{Access}
use Rattle.ob_base.specs.declared.access.Access.TheVariants.{Open}
use Rattle.ob_store.specs.State.{KeptRegion, FalseRead}
use Rattle.ob_store.specs.Calls.{IsSteady, Keeps, Resumes}
use Rattle.ob_store.specs.Runs.{Did, Began}
use Rattle.ob_seal.specs.KeySet.{KeySet}
use Rattle.ob_seal.specs.Sealed.{sealed}
use Rattle.ob_vault.specs.declared.region.Region.{Region}
use Rattle.ob_vault.specs.declared.fault.VaultErr.{VaultErr}
use Rattle.ob_vault.specs.declared.fault.VaultErr.TheVariants.{Failed, NoMemory}
use Rattle.ob_vault.specs.State.{Start, World}
use Rattle.ob_vault.specs.Tied.{Ready, Lives, OnTurn, Untampered, at_of}
use Rattle.ob_vault.specs.Calls.{Apart, Cause, Seals, one}

-- a region whose blocks hold rows of this width together, and a tag of 32 bytes, is opened
abbrev pub open_at : ℕ → ℕ → ℕ → List Access
open_at region blocks width = Open region blocks (width + 32) ∷ []

-- no access is one at this region
abbrev pub Unasked : ℕ → List Access → Type 0
Unasked region [] = Unit {0}
Unasked region (a ∷ rest) = (region_of a ≢ region) × Unasked region rest

-- an earlier run's region, which no access of this one was at, and whose places have the numbers from this one
-- on: those of earlier writes, and of no other place
pub record MayResume (region blocks number : ℕ) (w : World) : Type 0 where
  pub earlier : region ≤ w.vault.start.region
  pub unasked : Unasked region w.store.asked
  pub gone : w.store.live region ≡ None
  pub some : 1 ≤ number
  pub within : number + blocks ≤ w.vault.start.writes + 1
  pub apart : (q x : ℕ) → number ≤ w.vault.start.given q x
      → w.vault.start.given q x < number + blocks → ⊥

-- the places of a region have the numbers from this one on, and nothing else has changed
pub record Gives (number : ℕ) (q : ℕ) (blocks : ℕ) (old new : Start) : Type 0 where
  pub writes : new.writes ≡ old.writes
  pub region : new.region ≡ old.region
  pub here : (x : ℕ) → x < blocks → new.given q x ≡ number + x
  pub others : (r x : ℕ) → (r ≡ q → x < blocks → ⊥) → new.given r x ≡ old.given r x
  pub linked : (r : ℕ) → new.linked r ≡ old.linked r

-- what lasts over calls of which some may open an earlier run's region, whatever they answer
pub record Stays (some : ℕ → Type 0) (old new : World) : Type 0 where
  pub ready : Ready new
  pub keys : new.vault.keys ≡ old.vault.keys
  pub writes : new.vault.start.writes ≡ old.vault.start.writes
  pub region : new.vault.start.region ≡ old.vault.start.region
  pub given : (q x : ℕ) → (some q → ⊥) → new.vault.start.given q x ≡ old.vault.start.given q x
  pub linked : (q : ℕ) → new.vault.start.linked q ≡ old.vault.start.linked q
  pub next : old.vault.next ≤ new.vault.next
  pub log : new.store.let_go ≡ old.store.let_go
  pub faults : old.store.faults ≤ new.store.faults
  pub tells : new.store.tells ≡ old.store.tells
  pub lie : (lie : FalseRead) → old.store.lie ≡ Some lie → new.store.lie ≡ Some lie
  pub steady : IsSteady old.store → IsSteady new.store
  pub apart : Apart some old new

-- the region is live with what was kept of it, its places have numbers from this one on, and the first of them is
-- the next one
pub record Reopened (q : ℕ) (shape : Region) (number : ℕ) (old new : World) : Type 0 where
  pub did : Did (open_at q shape.blocks shape.width) old.store new.store
  pub gives : Gives number q shape.blocks old.vault.start new.vault.start
  pub lives : Lives q shape new
  pub numbers : (x : ℕ) → x < shape.blocks → new.vault.revs.number q x ≡ number + x
  pub turn : OnTurn q shape 0 new
  pub resumes : Resumes q shape.blocks (shape.width + 32) old.store new.store

-- it is not live, and has no numbers; the store was asked unless memory was wanted
pub record StaysShut (e : VaultErr) (q : ℕ) (shape : Region) (old new : World) : Type 0 where
  pub began : Began (open_at q shape.blocks shape.width) old.store new.store
  pub asks : (e ≡ NoMemory → ⊥) → length old.store.asked < length new.store.asked
  pub cause : Cause e old new
  pub start : new.vault.start ≡ old.vault.start
  pub gone : new.vault.revs.live q ≡ None
  pub keeps : Keeps old.store new.store

-- a block is some rows' that are good for its region, sealed for its place under this number
pub record SealedUnder (good : ℕ → List ℕ → Bool) (keys : KeySet) (q x number : ℕ)
    (block : List ℕ) : Type 0 where
  pub rows : List ℕ
  pub is : block ≡ sealed keys (at_of q x number) rows
  pub fine : IsTrue (good q rows)

-- a region is kept, and each block of it is such a one, under the number of its place
pub record KeptSealed (good : ℕ → List ℕ → Bool) (q number : ℕ) (w : World) : Type 0 where
  pub kept : KeptRegion
  pub is : w.store.kept q ≡ Some kept
  pub all : (x : ℕ) (block : List ℕ) → kept.last x ≡ Some block
      → SealedUnder good w.vault.keys q x (number + x) block

-- an earlier run's region is live again, or stays shut
pub record ResumesRegion {T : Type 0} (q : ℕ) (shape : Region) (number : ℕ)
    (result : Result T VaultErr) (old new : World) : Type 0 where
  pub stays : Stays (one q) old new
  pub lie : new.store.lie ≡ old.store.lie
  pub kept : (r : ℕ) → new.store.kept r ≡ old.store.kept r
  pub spare : old.store.spare ≤ new.store.spare + 1
  pub next : new.vault.next ≡ old.vault.next
  pub calm : Untampered old → Untampered new
  pub ok : OnOk result (Reopened q shape number old new)
  pub err : IfErr result (λ e. StaysShut e q shape old new)
  pub never : IfErr result (λ e. (e ≡ Failed) ⊎ (e ≡ NoMemory))
  pub seals : (good : ℕ → List ℕ → Bool) → KeptSealed good q number old
      → Seals good old new
  pub unsealed : OnErr result ((good : ℕ → List ℕ → Bool) → Seals good old new)
