use Rattle.std.proofs.Common.{◌≡◌, Some, take, length}
use Rattle.ob_row.specs.Rows.{Row}
use Rattle.ob_row.specs.Spelling.{Begins}
use Rattle.ob_oram.proofs.serving.cells_of.Given as goal

abbrev pub invariant-loop-i : goal.invariant-loop-i
invariant-loop-i l = record {
  few : length l.cells ≡ l.i;
  cells : (cells : Row) → Begins l.schema (Some cells) l.row → l.cells ≡ take l.i cells;
}
