use Rattle.std.proofs.Common.{◌≤◌, ◌^◌, ℕ}
use Rattle.ob_base.proofs.height.tree_height.Given as goal

abbrev pub invariant-loop-height : goal.invariant-loop-height
invariant-loop-height l = (lower : ℕ) → l.keys ≤ 2 ^ lower → l.height ≤ lower
