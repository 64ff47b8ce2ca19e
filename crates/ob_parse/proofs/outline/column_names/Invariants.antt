use Rattle.std.proofs.Common.{◌≡◌, take}
use Rattle.ob_parse.proofs.outline.column_names.Given as goal

abbrev pub invariant-loop-column : goal.invariant-loop-column
invariant-loop-column l = l.found.items ≡ take l.column-index l.columns
