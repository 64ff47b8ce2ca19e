use Rattle.std.proofs.Common.{◌≡◌, length, take}
use Rattle.ob_group.specs.Running.{AreUpTo, starts}
use Rattle.ob_group.proofs.totals.starts.Given as goal

abbrev pub invariant-loop-i : goal.invariant-loop-i
invariant-loop-i l = record {
  size : length l.totals ≡ 32;
  few : AreUpTo 0 l.totals;
  told : take l.i l.totals ≡ starts (take l.i l.aggs);
}
