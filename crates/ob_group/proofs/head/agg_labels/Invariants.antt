use Rattle.std.proofs.Common.{◌≡◌, map, length, take}
use Rattle.ob_group.specs.Labels.{agg_label}
use Rattle.ob_group.proofs.head.agg_labels.Given as goal

abbrev pub invariant-loop-i : goal.invariant-loop-i
invariant-loop-i l = record {
  size : length l.labels ≡ 32;
  told : take l.i l.labels ≡ map (agg_label l.schema) (take l.i l.aggs);
}
