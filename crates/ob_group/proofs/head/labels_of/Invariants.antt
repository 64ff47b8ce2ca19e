use Rattle.std.proofs.Common.{◌≡◌, map, length, take}
use Rattle.ob_group.specs.Labels.{item_label}
use Rattle.ob_group.proofs.head.labels_of.Given as goal

abbrev pub invariant-loop-i : goal.invariant-loop-i
invariant-loop-i l = record {
  size : length l.labels ≡ 32;
  told : take l.i l.labels ≡ map (item_label l.schema l.key) (take l.i l.items);
}
