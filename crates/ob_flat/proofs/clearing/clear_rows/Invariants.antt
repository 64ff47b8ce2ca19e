use Rattle.std.proofs.Common.{◌<◌, ℕ, None}
use Rattle.ob_base.specs.Schemas.{Columns, width}
use Rattle.ob_vault.specs.Rows.{row_at, SameSizes, Wide}
use Rattle.ob_row.specs.Spelling.{Begins}
use Rattle.ob_flat.proofs.clearing.clear_rows.Given as goal

abbrev pub invariant-loop-z : goal.invariant-loop-z
invariant-loop-z l =
    record {
      same : SameSizes l.initial.rows l.rows;
      none : (columns : Columns) → Wide (width columns) l.initial.rows → (i : ℕ) → i < l.z → Begins columns None (row_at l.rows i);
    }
