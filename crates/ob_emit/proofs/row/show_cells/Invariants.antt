use Rattle.std.proofs.Common.{◌≡◌, Some, length, take}
use Rattle.ob_row.specs.Rows.{Row}
use Rattle.ob_row.specs.Spelling.{Begins}
use Rattle.ob_row.specs.Totals.{printed}
use Rattle.ob_emit.proofs.row.show_cells.Given as goal

abbrev pub invariant-loop-z : goal.invariant-loop-z
invariant-loop-z l = record {
  size : length l.cells ≡ length l.initial.cells;
  told : (own : Row) → Begins l.schema (Some own) l.row → take l.z l.cells ≡ take l.z (printed l.cols own);
}
