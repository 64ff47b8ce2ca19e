use Rattle.std.proofs.Common.{◌≡◌, length, take}
use Rattle.ob_emit.specs.Emitting
use Rattle.ob_emit.proofs.head.labels_of.Given as goal

abbrev pub invariant-loop-i : goal.invariant-loop-i
invariant-loop-i l = record {
  size : length l.labels ≡ 32;
  told : take l.i l.labels ≡ take l.i (Emitting.labels_of l.schema l.cols);
}
