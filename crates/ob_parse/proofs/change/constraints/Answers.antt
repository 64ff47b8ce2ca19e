use Rattle.std.proofs.Common.{sym, ◌∙◌}
use Rattle.ob_parse.specs.StatementReading.{constraint, constraints}
use Rattle.ob_parse.proofs.Constraints.{all_read, fewer_left, one_more, stuck_there}
use Rattle.ob_condition.proofs.Faults.{through}
use Rattle.ob_parse.proofs.change.constraints.Goals as goal

pub parts-smaller : goal.parts-smaller
parts-smaller c = fewer_left c.parts.keys c.parts.rest.now c.in-Ok.more c.in-Ok.next.now c.in-Ok.ensures

pub parts-preserved : goal.parts-preserved
parts-preserved c =
    one_more c.args.tokens.now c.parts.keys c.parts.rest.now c.in-Ok.more c.in-Ok.next.now c.parts.invariant (sym c.begins_constraint.ensures ∙ c.parts-test.true) c.in-Ok.ensures

pub returns-in-Err : goal.returns-in-Err
returns-in-Err c =
    through c.in-Err.fault (constraint c.parts.keys c.parts.rest.now) (constraints c.args.tokens.now)
    (λ rest e. stuck_there c.args.tokens.now c.parts.keys c.parts.rest.now rest c.parts.invariant (sym c.begins_constraint.ensures ∙ c.parts-test.true) e) c.in-Err.ensures

pub returns : goal.returns
returns c = all_read c.args.tokens.now c.parts.keys c.parts.rest.now c.parts.invariant (sym c.begins_constraint.ensures ∙ c.parts-test.false)
