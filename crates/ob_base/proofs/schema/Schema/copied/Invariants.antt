use Rattle.std.proofs.Common.{◌≡◌, take}
use Rattle.ob_base.proofs.schema.Schema.copied.Given as goal

abbrev pub invariant-loop-column : goal.invariant-loop-column
invariant-loop-column l = l.schema ≡ take l.column-index l.column-items
