use Rattle.std.proofs.Common.{◌≡◌, Some, take, length}
use Rattle.ob_row.specs.Rows.{Row, with_cells}
use Rattle.ob_row.specs.Spelling.{Begins}
use Rattle.ob_oram.proofs.serving.set_cells.Given as goal

abbrev pub invariant-loop-set : goal.invariant-loop-set
invariant-loop-set l = record {
  size : length l.row ≡ length l.initial.row;
  told : (cells : Row) → Begins l.schema (Some cells) l.initial.row → Begins l.schema (Some (with_cells (take l.set-index l.sets) cells)) l.row;
}
