use Rattle.std.proofs.Common.{ℕ, ◌≤◌, drop}
use Rattle.ob_seal.specs.KeySet.{NoneAbove}
use Rattle.ob_seal.proofs.greatest.Given as goal

abbrev pub invariant-each : goal.invariant-each
invariant-each l = record { left : (n : ℕ) → l.most ≤ n → NoneAbove n (drop l.i l.held) → NoneAbove n l.held }
