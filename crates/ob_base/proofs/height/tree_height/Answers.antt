use Rattle.std.proofs.Common.{arith}
use Rattle.ob_base.proofs.IndexLemmas.{height_last, height_same, not_lower, shifted}
use Rattle.ob_base.proofs.height.tree_height.Goals as goal

pub returns-then-height-keys-clause-value : goal.returns-then-height-keys-clause-value
returns-then-height-keys-clause-value c = height_same c.args.keys c.loop-height.height (record {
  enough = omega (arith, c.if-height-keys.true, shifted c.loop-height.height (omega (arith, c.loop-height-test.true)));
  least = c.loop-height.invariant;
})

pub loop-height-preserved : goal.loop-height-preserved
loop-height-preserved c =
    not_lower c.args.keys c.loop-height.height (omega (arith, c.if-height-keys.false, shifted c.loop-height.height (omega (arith, c.loop-height-test.true)))) c.loop-height.invariant

pub returns-clause-value : goal.returns-clause-value
returns-clause-value c =
    height_last c.args.keys c.loop-height.height c.requires (omega (arith, c.loop-height-test.false, c.loop-height.auto.height-end)) c.loop-height.invariant
