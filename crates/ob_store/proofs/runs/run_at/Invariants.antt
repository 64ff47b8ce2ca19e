use Rattle.std.proofs.Common.{◌<◌, ◌≤◌, ◌-◌, length}
use Rattle.ob_store.specs.Kept.{start_of}
use Rattle.ob_store.proofs.runs.run_at.Given as goal

abbrev pub invariant-loop-high : goal.invariant-loop-high
invariant-loop-high l = record {
  order : l.low < l.high;
  within : l.high ≤ length l.starts;
  begins : (start_of l.starts l.low).access ≤ l.i;
  last : l.high < length l.starts → l.i < (start_of l.starts l.high).access;
}

abbrev pub decreases-loop-high : goal.decreases-loop-high
decreases-loop-high l = l.high - l.low
