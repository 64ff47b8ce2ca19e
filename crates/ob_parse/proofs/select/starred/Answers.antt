use Rattle.std.proofs.Common.{ℕ, List, Option, None, ◌∙◌}
use Rattle.ob_grammar.specs.Reader as R
use Rattle.ob_base.specs.declared.skeleton.Source.{Source}
use Rattle.ob_sql.specs.Search.{Search}
use Rattle.ob_sql.specs.declared.stmt.Stmt.{Stmt}
use Rattle.ob_token.specs.declared.token.Mark.TheVariants as M
use Rattle.ob_token.specs.declared.token.Token.{Token}
use Rattle.ob_condition.specs.Marks.{key, name_of}
use Rattle.ob_condition.specs.Reading.{Read, where_part}
use Rattle.ob_condition.proofs.Faults.{through}
use Rattle.ob_parse.specs.Statements.{rows}
use Rattle.ob_parse.specs.StatementReading.{behind, starred}
use Rattle.ob_parse.proofs.Steps.{handed_on, step_done, step_stuck}
use Rattle.ob_parse.proofs.select.starred.Goals as goal

-- after the source, after the table and after FROM
abbrev found : Source → Option Search → List Token → Read Stmt
found source cond = R.empty (rows None source cond)

abbrev filtered : List ℕ → Source → List Token → Read Stmt
filtered text source = R.bind (where_part text) (found source)

abbrev joined : List ℕ → List ℕ → List Token → Read Stmt
joined text a = R.bind (behind a) (filtered text)

abbrev from : List ℕ → Unit {0} → List Token → Read Stmt
from text u = R.bind (R.token name_of) (joined text)

pub returns-in_err-rest : goal.returns-in_err-rest
unfolding starred
returns-in_err-rest c =
    handed_on (λ s. s) (starred c.args.text.now c.args.tokens.now) c.from_residual.result c.in_err-rest.field-0.0 c.from_residual.ensures.1
    (through c.in_err-rest.field-0.0 (R.token (key M.From) c.args.tokens.now) (starred c.args.text.now c.args.tokens.now)
    (step_stuck (R.token (key M.From)) (from c.args.text.now) c.args.tokens.now) c.in_err-rest.ensures.value)

pub returns-in_err-left : goal.returns-in_err-left
unfolding starred
returns-in_err-left c =
    handed_on (λ s. s) (starred c.args.text.now c.args.tokens.now) c.from_residual-in_err-left.result c.in_err-left.field-0.0 c.from_residual-in_err-left.ensures.1
    (through c.in_err-left.field-0.0 (R.token name_of c.in_ok-rest.rest.now) (starred c.args.text.now c.args.tokens.now)
    (λ rest e. step_done (R.token (key M.From)) (from c.args.text.now) c.args.tokens.now c.in_ok-rest.rest.now tt c.in_ok-rest.ensures.value
    ∙ step_stuck (R.token name_of) (joined c.args.text.now) c.in_ok-rest.rest.now rest e)
    c.in_err-left.ensures.value)

pub returns-in_err-source : goal.returns-in_err-source
unfolding starred
returns-in_err-source c =
    handed_on (λ s. s) (starred c.args.text.now c.args.tokens.now) c.from_residual-in_err-source.result c.in_err-source.field-0.0 c.from_residual-in_err-source.ensures.1
    (through c.in_err-source.field-0.0 (behind c.in_ok-left.left c.in_ok-left.rest.now) (starred c.args.text.now c.args.tokens.now)
    (λ rest e. step_done (R.token (key M.From)) (from c.args.text.now) c.args.tokens.now c.in_ok-rest.rest.now tt c.in_ok-rest.ensures.value
    ∙ step_done (R.token name_of) (joined c.args.text.now) c.in_ok-rest.rest.now c.in_ok-left.rest.now c.in_ok-left.left c.in_ok-left.ensures.value
    ∙ step_stuck (behind c.in_ok-left.left) (filtered c.args.text.now) c.in_ok-left.rest.now rest e)
    c.in_err-source.ensures)

pub returns-in_err-cond : goal.returns-in_err-cond
unfolding starred
returns-in_err-cond c =
    handed_on (λ s. s) (starred c.args.text.now c.args.tokens.now) c.from_residual-in_err-cond.result c.in_err-cond.field-0.0 c.from_residual-in_err-cond.ensures.1
    (through c.in_err-cond.field-0.0 (where_part c.args.text.now c.in_ok-source.rest.now) (starred c.args.text.now c.args.tokens.now)
    (λ rest e. step_done (R.token (key M.From)) (from c.args.text.now) c.args.tokens.now c.in_ok-rest.rest.now tt c.in_ok-rest.ensures.value
    ∙ step_done (R.token name_of) (joined c.args.text.now) c.in_ok-rest.rest.now c.in_ok-left.rest.now c.in_ok-left.left c.in_ok-left.ensures.value
    ∙ step_done (behind c.in_ok-left.left) (filtered c.args.text.now) c.in_ok-left.rest.now c.in_ok-source.rest.now c.in_ok-source.source c.in_ok-source.ensures
    ∙ step_stuck (where_part c.args.text.now) (found c.in_ok-source.source) c.in_ok-source.rest.now rest e)
    c.in_err-cond.ensures.value)

pub returns : goal.returns
unfolding starred
returns c =
    step_done (R.token (key M.From)) (from c.args.text.now) c.args.tokens.now c.in_ok-rest.rest.now tt c.in_ok-rest.ensures.value
    ∙ step_done (R.token name_of) (joined c.args.text.now) c.in_ok-rest.rest.now c.in_ok-left.rest.now c.in_ok-left.left c.in_ok-left.ensures.value
    ∙ step_done (behind c.in_ok-left.left) (filtered c.args.text.now) c.in_ok-left.rest.now c.in_ok-source.rest.now c.in_ok-source.source c.in_ok-source.ensures
    ∙ step_done (where_part c.args.text.now) (found c.in_ok-source.source) c.in_ok-source.rest.now c.in_ok-cond.rest.now c.in_ok-cond.cond c.in_ok-cond.ensures.value
