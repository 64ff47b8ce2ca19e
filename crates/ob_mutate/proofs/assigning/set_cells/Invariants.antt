use Rattle.std.proofs.Common.{◌≡◌, Some, length, drop}
use Rattle.ob_row.specs.Rows.{Row, with_cells}
use Rattle.ob_row.specs.Spelling.{Begins}
use Rattle.ob_mutate.specs.Changing.{FitsSets}
use Rattle.ob_mutate.proofs.assigning.set_cells.Given as goal

abbrev pub invariant-loop-place : goal.invariant-loop-place
invariant-loop-place l = record {
  size : length l.row ≡ length l.initial.row;
  fits : FitsSets l.schema (drop l.place-index l.sets);
  told : (cells : Row) → Begins l.schema (Some cells) l.initial.row → (now : Row) × Begins l.schema (Some now) l.row × (with_cells (drop l.place-index l.sets) now ≡ with_cells l.sets cells);
}
