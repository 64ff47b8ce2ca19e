use Rattle.std.proofs.Common.{ℕ, ◌<◌, ◌≤◌, None, get_or}
use Rattle.std.specs.Prelude.{IsSome}
use Rattle.ob_oram.proofs.placing.gap.Given as goal

abbrev pub invariant-loop-q : goal.invariant-loop-q
invariant-loop-q l = (k : ℕ) → l.from ≤ k → k < l.q → IsSome (get_or l.buffer k None)
