use Rattle.std.proofs.Common.{◌≡◌, ◌≤◌, ◌+◌, ◌*◌, take}
use Rattle.ob_base.specs.Schemas.{width}
use Rattle.ob_base.proofs.schema.Schema.width.Given as goal

abbrev pub invariant-loop-column : goal.invariant-loop-column
invariant-loop-column l = (l.bytes ≡ width (take l.column-index l.column-items)) × (l.bytes ≤ 1 + 256 * l.column-index)
