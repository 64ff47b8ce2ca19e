-- What the two passes of a Large selection do, and both together.
use Rattle.std.specs.Prelude.{◌≡◌, ◌*◌, ◌++◌, ◌⊎◌, ℕ, Bool, List, IsTrue, Result, OnOk, IfOk, IfErr, MatchResult}
use Rattle.ob_base.specs.declared.access.Access.{Access}
use Rattle.ob_base.specs.Schemas.{width}
use Rattle.ob_script.specs.Parts.{copy_part, large_part}
use Rattle.ob_row.specs.Rows.{Row}
use Rattle.ob_row.specs.Slots.{Slots}
use Rattle.ob_row.specs.Results.{large_slots}
use Rattle.ob_vault.specs.declared.region.Order.TheVariants.{Round}
use Rattle.ob_vault.specs.State.{World}
use Rattle.ob_vault.specs.Calls.{one}
use Rattle.ob_flat.specs.declared.flat.Flat.{Flat}
use Rattle.ob_flat.specs.declared.fault.OpErr.{OpErr}
use Rattle.ob_flat.specs.declared.fault.OpErr.TheVariants.{Failed, NoMemory}
use Rattle.ob_flat.specs.Flats.{IsMade, IsFlat, HoldsRows, Represents}
use Rattle.ob_vault.specs.Words.{IsHonest}
use Rattle.ob_flat.specs.Words.{PassRan, TamperedIn, SealsTable, Makes, NoMemoryBehind, blocks_of, moved}
use Rattle.ob_flat.specs.Creates.{make_script}

-- what is asked to copy a table, and then to go through the copy
abbrev pub fill_script : ℕ → Flat → ℕ → List Access
fill_script pack flat to =
    copy_part flat.region to (blocks_of pack flat) ++ copy_part to to (blocks_of pack flat)

-- and all of it
abbrev pub large_script : ℕ → Flat → ℕ → List Access
large_script pack flat to =
    large_part flat.region to (blocks_of pack flat) (pack * width flat.schema)

-- each slot of a table whose row isn't selected was emptied, in place
pub record Empties {T : Type 0} (pack : ℕ) (flat : Flat) (p : Row → Bool)
    (result : Result T OpErr) (old new : World) : Type 0 where
  pub ran : PassRan (copy_part flat.region flat.region (blocks_of pack flat)) (one flat.region)
      result old new
  pub never : IfErr result (λ e. (e ≡ Failed) ⊎ TamperedIn pack flat e new)
  pub seals : SealsTable pack flat.schema flat.region old new
  pub table : OnOk result (IsFlat pack flat new)
  pub holds : OnOk result (IsTrue old.store.tells
      → HoldsRows pack flat old → HoldsRows pack flat new)
  pub told : IsHonest old new → (slots : Slots) → Represents pack flat slots old
      → MatchResult result (λ _. Represents pack flat (large_slots p slots) new) (λ e. e ≡ Failed)

-- a new table is the same as another, except for its region, which has no blocks yet
pub record IsNew (pack : ℕ) (flat to : Flat) (w : World) : Type 0 where
  pub same : to ≡ moved flat to.region
  pub made : IsMade pack to w
  pub apart : flat.region ≡ to.region → ⊥

-- the selected rows of a table were copied to a new region, each to its slot
pub record Fills {T : Type 0} (pack : ℕ) (flat : Flat) (to : ℕ) (p : Row → Bool)
    (result : Result T OpErr) (old new : World) : Type 0 where
  pub ran : PassRan (fill_script pack flat to) (one to) result old new
  pub never : IfErr result (λ e. (e ≡ Failed)
      ⊎ TamperedIn pack flat e new ⊎ TamperedIn pack (moved flat to) e new)
  pub seals : SealsTable pack flat.schema to old new
  pub table : OnOk result (IsFlat pack (moved flat to) new)
  pub holds : OnOk result (IsTrue old.store.tells → HoldsRows pack (moved flat to) new)
  pub told : IsHonest old new → (slots : Slots) → Represents pack flat slots old
      → MatchResult result
      (λ _. Represents pack (moved flat to) (large_slots p slots) new) (λ e. e ≡ Failed)

-- and that region was made before
pub record Selects (pack : ℕ) (flat : Flat) (p : Row → Bool)
    (result : Result Flat OpErr) (old new : World) : Type 0 where
  pub ran : PassRan (large_script pack flat old.vault.next) (one old.vault.next) result old new
  pub never : IfErr result (λ e. (e ≡ Failed) ⊎ (e ≡ NoMemory)
      ⊎ TamperedIn pack flat e new ⊎ TamperedIn pack (moved flat old.vault.next) e new)
  pub memory : NoMemoryBehind (make_script pack (moved flat old.vault.next)) result old new
  pub makes : Makes Round pack (moved flat old.vault.next) result old new
  pub holds : IfOk result (λ fresh. IsTrue old.store.tells → HoldsRows pack fresh new)
  pub source : IsFlat pack flat new
  pub told : IsHonest old new → (slots : Slots) → Represents pack flat slots old
      → MatchResult result
      (λ fresh. Represents pack fresh (large_slots p slots) new)
      (λ e. (e ≡ Failed) ⊎ (e ≡ NoMemory))
