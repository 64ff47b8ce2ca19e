use Rattle.std.proofs.Common.{◌≡◌, ◌≤◌, ◌<◌, ℕ, Option, None, take, slice_index_or}
use Rattle.ob_vault.specs.Rows.{row_at, SameSizes}
use Rattle.ob_row.specs.Rows.{Row}
use Rattle.ob_row.specs.Spelling.{Begins}
use Rattle.ob_row.specs.Slots.{Slots}
use Rattle.ob_flat.specs.Slots.{Spelt}
use Rattle.ob_hash.specs.Waiting.{waits_after, filled_with}
use Rattle.ob_hash.proofs.filling.FillingRework.rework.Given as goal

abbrev pub invariant-loop-z : goal.invariant-loop-z
invariant-loop-z l =
    record {
      same : SameSizes l.initial.rows l.rows;
      row : l.self.row.now ≡ l.initial.self.row.now;
      rest : (j : ℕ) → l.z ≤ j → row_at l.rows j ≡ row_at l.initial.rows j;
      spells : (j : ℕ) → j < l.z → (slot : Option Row) × Begins l.schema slot (row_at l.rows j);
      told : (slots : Slots) → Spelt l.schema slots l.initial.rows → (own : Option Row) → Begins l.schema own l.initial.self.row.now
          → (l.self.waits ≡ waits_after l.initial.self.waits (take l.z slots))
          × ((j : ℕ) → j < l.z → Begins l.schema (slice_index_or (filled_with l.initial.self.waits own slots) j None) (row_at l.rows j));
    }
