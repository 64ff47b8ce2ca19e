-- What opening a closing and its tables does to a vault and its store.
use Rattle.std.specs.Prelude.{◌≡◌, ◌≢◌, ◌⊎◌, ◌<◌, ◌≤◌, ◌+◌, ◌-◌, ◌^◌, ℕ, zero, suc, Bool, IsTrue, List, [], ◌∷◌, ◌++◌, Some, None, Result, Err, IfOk, IfErr, OnOk, MatchResult, length, slice_get, slice_index_or}
use Rattle.ob_base.specs.Accesses.{read_at}
use Rattle.ob_base.specs.Counts.{Rises}
use Rattle.ob_base.specs.declared.access.Access.{Access}
use Rattle.ob_base.specs.Lists.{each}
use Rattle.ob_store.specs.State.{KeptRegion}
use Rattle.ob_store.specs.Runs.{Did, Began}
use Rattle.ob_vault.specs.declared.fault.VaultErr.{VaultErr}
use Rattle.ob_vault.specs.declared.fault.VaultErr.TheVariants as VaultErrs
use Rattle.ob_vault.specs.State.{World, from_earlier}
use Rattle.ob_vault.specs.Numbers.{spent}
use Rattle.ob_vault.specs.Tied.{Ready, Lives, Written, OnTurn, Holds, Untampered, EndsAt}
use Rattle.ob_vault.specs.Calls.{Seals, EndsRead, Unfit, Unsealed, none, one}
use Rattle.ob_vault.specs.Resuming.{Unasked, Stays, KeptSealed, open_at}
use Rattle.ob_vault.specs.Words.{IsHonest, SealsAll}
use Rattle.ob_reopen.specs.declared.closing.Closing.{Closing}
use Rattle.ob_reopen.specs.declared.fault.OpenErr.{OpenErr}
use Rattle.ob_reopen.specs.declared.fault.OpenErr.TheVariants.{Failed, Tampered, NoMemory}
use Rattle.ob_reopen.specs.declared.listed.Listed.{Listed}
use Rattle.ob_reopen.specs.Limits.{AreListed, GoesOn, IsCatalogue, blocks_of}
use Rattle.ob_reopen.specs.Spelling.{table_text, head_text, catalogue_rows}
use Rattle.ob_reopen.specs.Closings.{KeepsRows, closing_region, listed_region, read_script, open_script}

-- the same error of an opening
abbrev pub open_error : VaultErr → OpenErr
open_error VaultErrs.Failed = Failed
open_error (VaultErrs.Tampered region place) = Tampered region place
open_error VaultErrs.NoMemory = NoMemory

-- each error's cause: `Failed` comes only where the store's faults rose, and no other where they did
abbrev pub OpenCause : OpenErr → World → World → Type 0
OpenCause Failed old new = Rises old.store.faults new.store.faults × (Untampered old → Untampered new)
OpenCause (Tampered q x) old new =
    (new.store.faults ≡ old.store.faults) × EndsRead q x new
    × (Untampered old → Untampered new ⊎ EndsAt q x new)
OpenCause NoMemory old new = (new.store.faults ≡ old.store.faults) × (Untampered old → Untampered new)

-- all of the script was asked, and nothing except these regions has changed
pub record OpensAll (script : List Access) (some : ℕ → Type 0) (old new : World) : Type 0 where
  pub stays : Stays some old new
  pub did : Did script old.store new.store
  pub spare : old.store.spare ≤ new.store.spare + length script
  pub calm : Untampered old → Untampered new

-- a first part of it was asked, an access at least unless memory was wanted
pub record OpensPart (e : OpenErr) (script : List Access) (some : ℕ → Type 0)
    (old new : World) : Type 0 where
  pub stays : Stays some old new
  pub began : Began script old.store new.store
  pub asks : (e ≡ NoMemory → ⊥) → length old.store.asked < length new.store.asked
  pub cause : OpenCause e old new

-- on `Ok` all of the script was asked, and on an error a first part of it
pub record Opens {T : Type 0} (script : List Access) (some : ℕ → Type 0) (result : Result T OpenErr)
    (old new : World) : Type 0 where
  pub ok : OnOk result (OpensAll script some old new)
  pub err : IfErr result (λ e. OpensPart e script some old new)

-- ---- the closing
-- a vault that goes on from the run that was closed so, and a store of which nothing was asked
pub record Follows (closing : Closing) (w : World) : Type 0 where
  pub ready : Ready w
  pub start : w.vault.start ≡ from_earlier (closing.number + closing.blocks - 1) closing.region
  pub asked : w.store.asked ≡ []
  pub spare : 1 + closing.blocks ≤ w.store.spare

-- it is open, and none of its blocks was read
pub record IsOpen (closing : Closing) (w : World) : Type 0 where
  pub ready : Ready w
  pub lives : Lives closing.region (closing_region closing) w
  pub written : (p : ℕ) → p < closing.blocks → Written closing.region p w
  pub spare : closing.blocks ≤ w.store.spare

-- only the closing was opened so far
pub record AwaitsTables (closing : Closing) (w : World) : Type 0 where
  pub ready : Ready w
  pub region : w.vault.start.region ≡ closing.region
  pub writes : w.vault.start.writes + 1 ≡ closing.number + closing.blocks
  pub few : spent w < 2 ^ 63 + 2 ^ 59
  pub given : (q x : ℕ) → (w.vault.start.given q x ≡ 0) ⊎ (closing.number ≤ w.vault.start.given q x)
  pub unasked : (q : ℕ) → q ≢ closing.region → Unasked q w.store.asked
  pub gone : (q : ℕ) → q ≢ closing.region → w.store.live q ≡ None

-- bytes of a row that may stand at a place of the closing after those that list these tables
abbrev pub IsRowAt : Closing → List Listed → ℕ → List ℕ → Type 0
IsRowAt closing before zero bytes = bytes ≡ head_text (closing.region + 1) (closing.blocks - 1)
IsRowAt closing before (suc p) bytes =
    (t : Listed) × GoesOn closing before t × (bytes ≡ table_text t)

-- the head was read, which lists no table
pub record AddsHead (closing : Closing) (bytes : List ℕ) (before after : List Listed) : Type 0 where
  pub is : bytes ≡ head_text (closing.region + 1) (closing.blocks - 1)
  pub same : after ≡ before

-- a table was read that may be listed after these, and the bytes are those of no other such table
pub record AddsTable (closing : Closing) (bytes : List ℕ) (before after : List Listed) : Type 0 where
  pub table : Listed
  pub on : GoesOn closing before table
  pub is : bytes ≡ table_text table
  pub more : after ≡ before ++ table ∷ []
  pub only : (u : Listed) → GoesOn closing before u → bytes ≡ table_text u → u ≡ table

-- what the row at a place adds to the tables of those before it
abbrev pub AddsRow : Closing → ℕ → List ℕ → (before after : List Listed) → Type 0
AddsRow closing zero bytes before after = AddsHead closing bytes before after
AddsRow closing (suc p) bytes before after = AddsTable closing bytes before after

-- under the number of the place something was sealed for it that spells no closing: its rows before it list these
-- tables, and what it lists can't go on them
pub record IsNoRow (closing : Closing) (place : ℕ) (w : World) : Type 0 where
  pub bytes : List ℕ
  pub opened : Unsealed closing.region place bytes w
  pub before : List Listed
  pub listed : AreListed closing before
  pub count : length before ≡ place - 1
  pub none : IsRowAt closing before place bytes → ⊥

-- the block that was read at a place of the closing hasn't the tag of its number, or spells no closing
pub record ClosingTampered (closing : Closing) (e : OpenErr) (w : World) : Type 0 where
  pub place : ℕ
  pub below : place < closing.blocks
  pub is : e ≡ Tampered closing.region place
  pub why : Unfit closing.region place w ⊎ IsNoRow closing place w

-- what rows were read as: those of the tables that are answered, and where they are those of a catalogue, of that
pub record ReadsRows (closing : Closing) (rows : List (List ℕ))
    (result : Result (List Listed) OpenErr) : Type 0 where
  pub spelled : IfOk result (λ listed. rows ≡ catalogue_rows closing.region listed)
  pub read : (listed : List Listed) → IsCatalogue closing listed
      → rows ≡ catalogue_rows closing.region listed
      → MatchResult result (λ found. found ≡ listed) (λ e. (e ≡ Failed) ⊎ (e ≡ NoMemory))

-- the blocks of a closing are those of these rows
pub record HoldsRows (closing : Closing) (rows : List (List ℕ)) (w : World) : Type 0 where
  pub count : length rows ≡ closing.blocks
  pub sizes : (p : ℕ) → p < closing.blocks → length (slice_index_or rows p []) ≡ 1024
  pub holds : (p : ℕ) → p < closing.blocks → Holds closing.region p (slice_index_or rows p []) w

-- each block of a closing was read once, in order
pub record ReadsBlocks (closing : Closing) (result : Result (List Listed) OpenErr)
    (old new : World) : Type 0 where
  pub opens : Opens (each closing.blocks (read_at closing.region)) none result old new
  pub never : IfErr result (λ e. (e ≡ Failed) ⊎ ClosingTampered closing e new)
  pub catalogue : IfOk result (IsCatalogue closing)
  pub seals : SealsAll old new
  pub told : IsHonest old new → (rows : List (List ℕ)) → HoldsRows closing rows old
      → ReadsRows closing rows result

-- the places of a closing have its numbers, and no other place has one
pub record IsNumbered (closing : Closing) (w : World) : Type 0 where
  pub here : (x : ℕ) → x < closing.blocks
      → w.vault.start.given closing.region x ≡ closing.number + x
  pub others : (q x : ℕ) → (q ≡ closing.region → x < closing.blocks → ⊥)
      → w.vault.start.given q x ≡ 0

-- a closing was opened and read
pub record ReadsClosing (closing : Closing) (result : Result (List Listed) OpenErr)
    (old new : World) : Type 0 where
  pub opens : Opens (read_script closing) (one closing.region) result old new
  pub never : IfErr result (λ e. (e ≡ Failed) ⊎ (e ≡ NoMemory) ⊎ ClosingTampered closing e new)
  -- memory is wanted before the first read: the opening alone was asked, or nothing
  pub memory : result ≡ Err NoMemory
      → Began (open_at closing.region closing.blocks 1024) old.store new.store
  pub catalogue : IfOk result (IsCatalogue closing)
  pub lives : OnOk result (Lives closing.region (closing_region closing) new)
  pub awaits : OnOk result (AwaitsTables closing new)
  pub kept : (q : ℕ) → new.store.kept q ≡ old.store.kept q
  -- its places have their numbers, unless none of them was read
  pub numbered : MatchResult result (λ listed. IsNumbered closing new)
      (λ e. IsNumbered closing new ⊎ (new.store.lie ≡ old.store.lie))
  pub seals : (good : ℕ → List ℕ → Bool)
      → KeptSealed good closing.region closing.number old → Seals good old new
  pub told : IsHonest old new → (rows : List (List ℕ))
      → KeepsRows old.vault.keys closing rows old.store.kept → ReadsRows closing rows result

-- ---- the tables
-- their regions
pub record IsOf (listed : List Listed) (q : ℕ) : Type 0 where
  pub place : ℕ
  pub table : Listed
  pub is : slice_get listed place ≡ Some table
  pub region : table.table.region ≡ q

-- a table is live again, as it was kept, under the numbers of its places
pub record IsReopened (pack : ℕ) (t : Listed) (old new : World) : Type 0 where
  pub lives : Lives t.table.region (listed_region pack t) new
  pub turn : OnTurn t.table.region (listed_region pack t) 0 new
  pub numbers : (x : ℕ) → x < blocks_of pack t
      → new.vault.revs.number t.table.region x ≡ t.number + x
  pub given : (x : ℕ) → x < blocks_of pack t
      → new.vault.start.given t.table.region x ≡ t.number + x
  pub beyond : (x : ℕ) → blocks_of pack t ≤ x
      → new.vault.start.given t.table.region x ≡ old.vault.start.given t.table.region x
  pub last : (region : KeptRegion) → IsTrue old.store.tells
      → old.store.kept t.table.region ≡ Some region
      → (x : ℕ) → new.store.last t.table.region x ≡ region.last x

-- the tables of a closing were opened, in order
pub record ReopensTables {T : Type 0} (closing : Closing) (listed : List Listed)
    (result : Result T OpenErr) (old new : World) : Type 0 where
  pub opens : Opens (open_script closing.pack listed) (IsOf listed) result old new
  pub never : IfErr result (λ e. (e ≡ Failed) ⊎ (e ≡ NoMemory))
  pub lie : new.store.lie ≡ old.store.lie
  pub kept : (q : ℕ) → new.store.kept q ≡ old.store.kept q
  pub tables : OnOk result ((i : ℕ) (t : Listed) → slice_get listed i ≡ Some t
      → IsReopened closing.pack t old new)
  pub seals : (good : ℕ → List ℕ → Bool)
      → ((i : ℕ) (t : Listed) → slice_get listed i ≡ Some t
      → KeptSealed good t.table.region t.number old)
      → Seals good old new
