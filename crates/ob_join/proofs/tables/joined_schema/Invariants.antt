use Rattle.std.proofs.Common.{◌≡◌, ◌++◌, take}
use Rattle.ob_join.proofs.tables.joined_schema.Given as goal

abbrev pub invariant-loop-column : goal.invariant-loop-column
invariant-loop-column l = l.schema ≡ l.left ++ take l.column-index l.column-items
