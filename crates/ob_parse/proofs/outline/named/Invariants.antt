use Rattle.std.proofs.Common.{◌≡◌, take}
use Rattle.std.specs.List.{flat_map}
use Rattle.ob_sql.specs.Skeleton.{named_by}
use Rattle.ob_parse.proofs.outline.named.Given as goal

abbrev pub invariant-loop-item : goal.invariant-loop-item
invariant-loop-item l = l.found.items ≡ flat_map named_by (take l.item-index l.items)
