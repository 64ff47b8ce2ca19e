use Rattle.std.proofs.Common.{◌≡◌, length, take}
use Rattle.std.specs.List.{All}
use Rattle.ob_row.specs.Totals.{printed}
use Rattle.ob_keyed.specs.Emitting.{IsNumber}
use Rattle.ob_keyed.proofs.emitting.show_cells.Given as goal

abbrev pub invariant-loop-z : goal.invariant-loop-z
invariant-loop-z l = record {
  size : length l.shown ≡ length l.initial.shown;
  told : All IsNumber l.cells → take l.z l.shown ≡ take l.z (printed l.cols l.cells);
}
