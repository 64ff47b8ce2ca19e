use Rattle.std.proofs.Common.{◌≡◌, ◌≤◌, ◌<◌, ◌+◌, ℕ, Option, None, count_by, take, slice_index_or}
use Rattle.ob_vault.specs.Rows.{row_at, SameSizes}
use Rattle.ob_row.specs.Rows.{Row}
use Rattle.ob_row.specs.Spelling.{Begins}
use Rattle.ob_row.specs.Slots.{Slots}
use Rattle.ob_flat.specs.Slots.{Spelt}
use Rattle.ob_flat.proofs.change.change_rows.Given as goal

abbrev pub invariant-loop-z : goal.invariant-loop-z
invariant-loop-z g l =
    record {
      few : l.n ≤ l.z;
      same : SameSizes l.initial.rows l.rows;
      rest : (j : ℕ) → l.z ≤ j → row_at l.rows j ≡ row_at l.initial.rows j;
      spells : (j : ℕ) → j < l.z → (slot : Option Row) × Begins l.schema slot (row_at l.rows j);
      told : (slots : Slots) → Spelt l.schema slots l.initial.rows
          → (l.n ≡ count_by (g.C.Change.picks l.change) (take l.z slots))
          × ((j : ℕ) → j < l.z → Begins l.schema (g.C.Change.to l.change (l.first + j) (slice_index_or slots j None)) (row_at l.rows j));
    }
