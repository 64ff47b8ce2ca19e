use Rattle.std.proofs.Common.{◌≡◌, ◌*◌, ◌+◌, ◌≤◌, take}
use Rattle.ob_base.specs.Schemas.{width}
use Rattle.ob_row.proofs.value.offset.Given as goal

abbrev pub invariant-loop-column : goal.invariant-loop-column
invariant-loop-column l = record { sum : l.at ≡ width (take l.column-index l.before); few : l.at ≤ 256 * l.column-index + 1 }
