use Rattle.std.specs.Prelude.{MatchOption}
use Rattle.ob_oram.specs.Buffers.{held_key, held_leaf}
use Rattle.ob_tree.specs.Places.{IsLeast, NoneLies}
use Rattle.ob_oram.proofs.placing.least.Given as goal

abbrev pub invariant-loop-q : goal.invariant-loop-q
invariant-loop-q l = MatchOption l.best (NoneLies held_leaf l.leaf l.height l.buffer l.from l.q) (λ b. IsLeast held_key held_leaf l.leaf l.height l.buffer l.from l.q b.0 b.1)
