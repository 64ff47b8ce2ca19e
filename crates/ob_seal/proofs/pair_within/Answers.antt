use Rattle.std.proofs.Common.{sym, ◌∙◌, arith}
use Rattle.ob_seal.proofs.Spans.{span_here, span_next, span_none}
use Rattle.ob_seal.proofs.pair_within.Goals as goal

pub returns-then-is_within : goal.returns-then-is_within
returns-then-is_within c =
    sym (c.each.invariant.left ∙ span_here c.args.found.now c.args.spans.now c.args.region c.args.number c.each.i _ (omega arith) c.index-spans-i.is (sym c.is_within.ensures ∙ c.if-is_within.true))

pub each-preserved : goal.each-preserved
each-preserved c = record {
  left = c.each.invariant.left ∙ span_next c.args.found.now c.args.spans.now c.args.region c.args.number c.each.i _ (omega arith) c.index-spans-i.is (sym c.is_within.ensures ∙ c.if-is_within.false);
}

pub returns : goal.returns
returns c = sym (c.each.invariant.left ∙ span_none c.args.found.now c.args.spans.now c.args.region c.args.number c.each.i (omega arith))
