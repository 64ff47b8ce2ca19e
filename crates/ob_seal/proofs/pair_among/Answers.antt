use Rattle.std.proofs.Common.{sym, ◌∙◌, arith}
use Rattle.ob_seal.proofs.LookedUp.{pair_here, pair_next, pair_none}
use Rattle.ob_seal.proofs.pair_among.Goals as goal

pub returns-then-each-region : goal.returns-then-each-region
returns-then-each-region c =
    sym (c.each.invariant.left ∙ pair_here c.args.own.now c.args.held.now c.args.region c.each.i _ (omega arith) c.index-held-i.is c.if-each-region.true)

pub each-preserved : goal.each-preserved
each-preserved c = record {
  left = c.each.invariant.left ∙ pair_next c.args.own.now c.args.held.now c.args.region c.each.i _ (omega arith) c.index-held-i.is c.if-each-region.false;
}

pub returns : goal.returns
returns c = sym (c.each.invariant.left ∙ pair_none c.args.own.now c.args.held.now c.args.region c.each.i (omega arith))
