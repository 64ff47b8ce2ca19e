use Rattle.ob_token.proofs.Digits.{kept_next, kept_end}
use Rattle.ob_token.proofs.lex.number.Goals as goal

pub loop-d-preserved : goal.loop-d-preserved
loop-d-preserved c =
    kept_next c.args.digits.now c.loop-d.d-index c.loop-d.value c.saturating_mul.result c.saturating_add-value.result c.loop-d-test.true c.loop-d.invariant c.saturating_mul.ensures
    c.saturating_add-value.ensures

pub returns : goal.returns
returns c = kept_end c.args.digits.now c.loop-d.d-index c.loop-d.value c.loop-d-test.false c.loop-d.invariant
