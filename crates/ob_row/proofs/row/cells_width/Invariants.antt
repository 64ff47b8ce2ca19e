use Rattle.std.proofs.Common.{◌≡◌, ◌*◌, ◌≤◌, take}
use Rattle.ob_row.specs.Spelling.{cells_width}
use Rattle.ob_row.proofs.row.cells_width.Given as goal

abbrev pub invariant-loop-column : goal.invariant-loop-column
invariant-loop-column l = record { sum : l.sum ≡ cells_width (take l.column-index l.columns); few : l.sum ≤ 256 * l.column-index }
