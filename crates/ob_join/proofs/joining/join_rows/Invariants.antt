use Rattle.std.proofs.Common.{◌++◌, ◌+◌, ◌<◌, ℕ, Option, None, slice_index_or}
use Rattle.ob_vault.specs.Rows.{row_at, SameSizes}
use Rattle.ob_row.specs.Rows.{Row}
use Rattle.ob_row.specs.Slots.{Slots, rows}
use Rattle.ob_row.specs.Spelling.{Begins}
use Rattle.ob_flat.specs.Slots.{Spelt}
use Rattle.ob_join.specs.Joining.{joined_below}
use Rattle.ob_join.proofs.joining.join_rows.Given as goal

abbrev pub invariant-loop-z : goal.invariant-loop-z
invariant-loop-z l =
    record {
      same : SameSizes l.initial.to l.to;
      read : (j : ℕ) → j < l.z → (slot : Option Row) × Begins l.sides.right.now.schema slot (row_at l.rows j);
      told : (slots block : Slots) → Spelt l.sides.left.now.schema slots l.kept → Spelt l.sides.right.now.schema block l.rows
          → (j : ℕ) → j < l.z → Begins (l.sides.left.now.schema ++ l.sides.right.now.schema) (joined_below l.sides.lcol l.sides.rcol (rows slots) l.sides.right.now.capacity (l.fn.first + j) (slice_index_or block j None)) (row_at l.to j);
    }
