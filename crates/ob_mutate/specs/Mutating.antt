-- What INSERT, UPDATE and DELETE do to a table.
use Rattle.std.specs.Prelude.{◌≡◌, ◌⊎◌, ◌*◌, ◌++◌, ℕ, IsTrue, List, [], None, ⊤, Result, OnOk, OnErr, IfErr, MatchResult, map, count_by}
use Rattle.std.specs.Option.{option_map}
use Rattle.ob_base.specs.declared.access.Access.{Access}
use Rattle.ob_base.specs.Accesses.{discard_at}
use Rattle.ob_base.specs.Schemas.{width}
use Rattle.ob_script.specs.Parts.{count_part, copy_part, insert_part, rewrite_part}
use Rattle.ob_vault.specs.declared.region.Order.TheVariants.{Round}
use Rattle.ob_store.specs.State.{StoreState}
use Rattle.ob_vault.specs.State.{World}
use Rattle.ob_vault.specs.Tied.{Lives}
use Rattle.ob_vault.specs.Calls.{Went, one, two}
use Rattle.ob_vault.specs.Words.{IsHonest, SealsAll}
use Rattle.ob_row.specs.declared.cell.Cell.{Cell}
use Rattle.ob_row.specs.Condition.{Condition}
use Rattle.ob_row.specs.Rows.{Row}
use Rattle.ob_row.specs.Slots.{Slots, rows, emptied}
use Rattle.ob_row.specs.Truth.{is_true, updated}
use Rattle.ob_flat.specs.declared.flat.Flat.{Flat}
use Rattle.ob_flat.specs.declared.fault.OpErr.{OpErr}
use Rattle.ob_flat.specs.declared.fault.OpErr.TheVariants.{Failed, NoMemory}
use Rattle.ob_flat.specs.Flats.{IsFlat, HoldsRows, Represents, table_region}
use Rattle.ob_flat.specs.Passes.{PassCut}
use Rattle.ob_flat.specs.Words.{PassRan, TamperedIn, SealsTable, NoMemoryBehind, blocks_of, moved}
use Rattle.ob_flat.specs.Creates.{make_script}
use Rattle.ob_mutate.specs.declared.inserting.Inserted.{Inserted}
use Rattle.ob_mutate.specs.declared.settling.Former.{Former}
use Rattle.ob_mutate.specs.declared.settling.Former.TheVariants.{Discard, Keep}
use Rattle.ob_mutate.specs.Inserting.{insert_answer}
use Rattle.ob_mutate.specs.Batches.{answered, insert_answers, inserted_all, inserted_one}

-- what is asked to fill the fresh region: the table is read whole first where a row is inserted
abbrev pub copy_script : ℕ → Flat → ℕ → List Access
copy_script pack flat to = copy_part flat.region to (blocks_of pack flat)

abbrev pub place_script : ℕ → Flat → ℕ → List Access
place_script pack flat to = count_part flat.region (blocks_of pack flat) ++ copy_script pack flat to

-- what is asked for the region that a table had
abbrev pub former_script : Former → ℕ → List Access
former_script Discard region = discard_at region
former_script Keep region = []

-- the fresh region is made, filled, and the old one discarded, where it isn't kept
abbrev pub rewrite_script : Former → ℕ → Flat → ℕ → List Access
rewrite_script former pack flat to =
    rewrite_part flat.region to (blocks_of pack flat) (pack * width flat.schema)
    (former_script former flat.region)

abbrev pub insert_script : Former → ℕ → Flat → ℕ → List Access
insert_script former pack flat to =
    insert_part flat.region to (blocks_of pack flat) (pack * width flat.schema)
    (former_script former flat.region)

-- ---- the region that a table had
-- it lies in the store as it did
pub record StaysStored (region : ℕ) (old new : StoreState) : Type 0 where
  pub live : new.live region ≡ old.live region
  pub last : (x : ℕ) → new.last region x ≡ old.last region x
  pub kept : new.kept region ≡ old.kept region

-- where it is kept
abbrev pub StaysFormer : Former → (region : ℕ) → (old new : StoreState) → Type 0
StaysFormer Discard region old new = ⊤
StaysFormer Keep region old new = StaysStored region old new

-- a fresh region was filled with the changed slots of a table
pub record FillsFresh {T : Type 0} (pack : ℕ) (flat : Flat) (to : ℕ) (script : List Access)
    (answer : Slots → T) (after : Slots → Slots)
    (result : Result T OpErr) (old new : World) : Type 0 where
  pub ran : PassRan script (one to) result old new
  pub never : IfErr result (λ e. (e ≡ Failed) ⊎ TamperedIn pack flat e new)
  pub seals : SealsTable pack flat.schema to old new
  pub table : OnOk result (IsFlat pack (moved flat to) new)
  pub holds : OnOk result (IsTrue old.store.tells → HoldsRows pack (moved flat to) new)
  pub told : IsHonest old new → (slots : Slots) → Represents pack flat slots old
      → MatchResult result
      (λ x. (x ≡ answer slots) × Represents pack (moved flat to) (after slots) new)
      (λ e. e ≡ Failed)

-- a region is gone from the vault; from the store, too, whatever it answered to that, or it stays there
pub record LeavesFormer (former : Former) (region : ℕ) (old new : World) : Type 0 where
  pub went : Went (former_script former region) (one region) old new
  pub gone : new.vault.revs.live region ≡ None
  pub stays : StaysFormer former region old.store new.store
  pub seals : SealsAll old new

-- a table has a fresh region, with its changed slots, and its old one is gone, or kept in the store; or it is as it was,
-- and the fresh region is gone
pub record Mutates {T : Type 0} (former : Former) (pack : ℕ) (flat left : Flat)
    (script : List Access) (answer : Slots → T) (after : Slots → Slots)
    (result : Result T OpErr) (old new : World) : Type 0 where
  pub ok : OnOk result (Went script (two flat.region old.vault.next) old new)
  pub err : IfErr result (λ e. PassCut e script (one old.vault.next) old new)
  pub never : IfErr result (λ e. (e ≡ Failed) ⊎ (e ≡ NoMemory) ⊎ TamperedIn pack flat e new)
  pub memory : NoMemoryBehind (make_script pack (moved flat old.vault.next)) result old new
  pub gone : MatchResult result
      (λ _. new.vault.revs.live flat.region ≡ None)
      (λ _. new.vault.revs.live old.vault.next ≡ None)
  pub stays : OnOk result (StaysFormer former flat.region old.store new.store)
  pub seals : SealsTable pack flat.schema old.vault.next old new
  pub moves : OnOk result (left ≡ moved flat old.vault.next)
  pub same : OnErr result (left ≡ flat)
  pub lives : OnOk result
      (Lives old.vault.next (table_region Round pack flat.schema flat.capacity) new)
  pub table : IsFlat pack left new
  pub holds : MatchResult result
      (λ _. IsTrue old.store.tells → HoldsRows pack left new)
      (λ _. HoldsRows pack flat old → HoldsRows pack left new)
  pub told : IsHonest old new → (slots : Slots) → Represents pack flat slots old
      → MatchResult result
      (λ x. (x ≡ answer slots) × Represents pack left (after slots) new)
      (λ e. ((e ≡ Failed) ⊎ (e ≡ NoMemory)) × Represents pack left slots new)

-- the slots that are counted were changed
abbrev pub Rewrites : Former → ℕ → Flat → Flat → (Slots → ℕ) → (Slots → Slots)
    → Result ℕ OpErr → World → World → Type 0
Rewrites former pack flat left count after result old new =
    Mutates former pack flat left (rewrite_script former pack flat old.vault.next) count after
    result old new

-- each row that makes the condition true has these cells
abbrev pub Updates : Former → ℕ → Flat → Flat → Condition → List (ℕ × Cell)
    → Result ℕ OpErr → World → World → Type 0
Updates former pack flat left p sets result old new =
    Rewrites former pack flat left (λ slots. count_by (is_true p) (rows slots))
    (map (option_map (updated p sets))) result old new

-- or is gone
abbrev pub Deletes : Former → ℕ → Flat → Flat → Condition → Result ℕ OpErr → World → World
    → Type 0
Deletes former pack flat left p result old new =
    Rewrites former pack flat left (λ slots. count_by (is_true p) (rows slots))
    (map (emptied (is_true p))) result old new

-- what the slots become where a row is inserted
abbrev pub inserted_slots : Flat → Row → Slots → Slots
inserted_slots flat cells slots = inserted_one flat.schema cells slots

-- a row was inserted into the first empty slot, or refused
abbrev pub Inserts : Former → ℕ → Flat → Flat → Row → Result Inserted OpErr → World → World
    → Type 0
Inserts former pack flat left cells result old new =
    Mutates former pack flat left (insert_script former pack flat old.vault.next)
    (insert_answer flat.schema cells) (inserted_slots flat cells) result old new

-- rows were inserted one after the other, and the answers are theirs
abbrev pub InsertsAll : {T : Type 0} → Former → ℕ → Flat → Flat → List Row → List Inserted
    → Result T OpErr → World → World → Type 0
InsertsAll former pack flat left batch answers result old new =
    Mutates former pack flat left (insert_script former pack flat old.vault.next)
    (insert_answers flat.schema batch) (inserted_all flat.schema batch)
    (answered answers result) old new
