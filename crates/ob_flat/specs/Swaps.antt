-- What a pass does that writes a table anew.
use Rattle.std.specs.Prelude.{◌≡◌, ◌⊎◌, ◌≤◌, ◌*◌, ℕ, Bool, IsTrue, Option, Result, OnOk, IfOk, IfErr, MatchResult, count_by}
use Rattle.ob_script.specs.Parts.{copy_part}
use Rattle.ob_vault.specs.State.{World}
use Rattle.ob_vault.specs.Calls.{one}
use Rattle.ob_vault.specs.Words.{IsHonest}
use Rattle.ob_row.specs.Rows.{Row}
use Rattle.ob_row.specs.Slots.{Slots}
use Rattle.ob_blocks.specs.Blocks.{map_at}
use Rattle.ob_flat.specs.declared.flat.Flat.{Flat}
use Rattle.ob_flat.specs.declared.fault.OpErr.{OpErr}
use Rattle.ob_flat.specs.declared.fault.OpErr.TheVariants.{Failed}
use Rattle.ob_flat.specs.Flats.{IsFlat, HoldsRows, Represents}
use Rattle.ob_flat.specs.Words.{PassRan, TamperedIn, SealsTable, blocks_of, moved}

-- each block was read, in order, and written, changed or not, to the same place of another region;
-- what is written there is rows or dummies, whatever the store gave
pub record Swaps (pack : ℕ) (flat : Flat) (to : ℕ) (picks : Option Row → Bool)
    (f : ℕ → Option Row → Option Row) (result : Result ℕ OpErr) (old new : World) : Type 0 where
  pub ran : PassRan (copy_part flat.region to (blocks_of pack flat)) (one to) result old new
  pub never : IfErr result (λ e. (e ≡ Failed) ⊎ TamperedIn pack flat e new)
  pub seals : SealsTable pack flat.schema to old new
  pub table : OnOk result (IsFlat pack (moved flat to) new)
  pub holds : OnOk result (IsTrue old.store.tells → HoldsRows pack (moved flat to) new)
  pub most : IfOk result (λ k. k ≤ blocks_of pack flat * pack)
  pub told : IsHonest old new → (slots : Slots) → Represents pack flat slots old
      → MatchResult result
      (λ k. (k ≡ count_by picks slots)
      × Represents pack (moved flat to) (map_at f 0 slots) new)
      (λ e. e ≡ Failed)
