use Rattle.std.proofs.Common.{◌≡◌, drop}
use Rattle.ob_parse.specs.Statements.{all_columns}
use Rattle.ob_parse.proofs.select.are_plain.Given as goal

abbrev pub invariant-loop-item : goal.invariant-loop-item
invariant-loop-item l = all_columns l.items ≡ all_columns (drop l.item-index l.items)
