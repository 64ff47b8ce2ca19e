use Rattle.std.proofs.Common.{◌+◌, ℕ, List, ◌∙◌}
use Rattle.ob_grammar.specs.Reader as R
use Rattle.ob_token.specs.declared.token.Mark.TheVariants as M
use Rattle.ob_token.specs.declared.token.Token.{Token}
use Rattle.ob_condition.specs.Marks.{key}
use Rattle.ob_condition.specs.Reading.{Read}
use Rattle.ob_condition.proofs.Faults.{through}
use Rattle.ob_parse.specs.Statements.{capped}
use Rattle.ob_parse.specs.StatementReading.{constraint, expects}
use Rattle.ob_parse.proofs.Steps.{handed_on, no_word, step_done, step_stuck, word_first}
use Rattle.ob_parse.proofs.change.constraint.Goals as goal

-- after NOT
abbrev null : ℕ → List Token → Read ℕ
null keys = expects M.Null (R.empty keys)

-- after PRIMARY
abbrev key_word : ℕ → List Token → Read ℕ
key_word keys = expects M.Key (R.empty (capped (keys + 1)))

pub returns-in_err-rest-in-Some : goal.returns-in_err-rest-in-Some
unfolding constraint
returns-in_err-rest-in-Some c =
    let s = c.in-Some.ensures in
    handed_on (λ n. n) (constraint c.args.keys c.args.tokens.now) c.from_residual.result c.in_err-rest-in-Some.field-0.0 c.from_residual.ensures.1
    (through c.in_err-rest-in-Some.field-0.0 (R.token (key M.Null) c.in-Some.rest.now) (constraint c.args.keys c.args.tokens.now)
    (λ rest e. word_first M.Not (null c.args.keys) (expects M.Primary (key_word c.args.keys)) s.0 s.1 c.args.tokens.now c.in-Some.rest.now s.2 s.3
    ∙ step_stuck (R.token (key M.Null)) (λ _. R.empty c.args.keys) c.in-Some.rest.now rest e)
    c.in_err-rest-in-Some.ensures.value)

pub returns-in_ok-rest-in-Some : goal.returns-in_ok-rest-in-Some
unfolding constraint
returns-in_ok-rest-in-Some c =
    let s = c.in-Some.ensures in
    word_first M.Not (null c.args.keys) (expects M.Primary (key_word c.args.keys)) s.0 s.1 c.args.tokens.now c.in-Some.rest.now s.2 s.3
    ∙ step_done (R.token (key M.Null)) (λ _. R.empty c.args.keys) c.in-Some.rest.now c.in_ok-rest-in-Some.rest.now tt c.in_ok-rest-in-Some.ensures.value

pub returns-in_err-rest-in-None : goal.returns-in_err-rest-in-None
unfolding constraint
returns-in_err-rest-in-None c =
    handed_on (λ n. n) (constraint c.args.keys c.args.tokens.now) c.from_residual-in_err-rest-in-None.result c.in_err-rest-in-None.field-0.0 c.from_residual-in_err-rest-in-None.ensures.1
    (through c.in_err-rest-in-None.field-0.0 (R.token (key M.Primary) c.args.tokens.now) (constraint c.args.keys c.args.tokens.now)
    (λ rest e. no_word M.Not (expects M.Not (null c.args.keys)) (expects M.Primary (key_word c.args.keys)) c.args.tokens.now c.in-None.ensures
    ∙ step_stuck (R.token (key M.Primary)) (λ _. key_word c.args.keys) c.args.tokens.now rest e)
    c.in_err-rest-in-None.ensures.value)

pub returns-in_err-rest-in-None-2 : goal.returns-in_err-rest-in-None-2
unfolding constraint
returns-in_err-rest-in-None-2 c =
    handed_on (λ n. n) (constraint c.args.keys c.args.tokens.now) c.from_residual-in_err-rest-in-None-2.result c.in_err-rest-in-None-2.field-0.0
    c.from_residual-in_err-rest-in-None-2.ensures.1
    (through c.in_err-rest-in-None-2.field-0.0 (R.token (key M.Key) c.in_ok-rest-in-None.rest.now) (constraint c.args.keys c.args.tokens.now)
    (λ rest e. no_word M.Not (expects M.Not (null c.args.keys)) (expects M.Primary (key_word c.args.keys)) c.args.tokens.now c.in-None.ensures
    ∙ step_done (R.token (key M.Primary)) (λ _. key_word c.args.keys) c.args.tokens.now c.in_ok-rest-in-None.rest.now tt c.in_ok-rest-in-None.ensures.value
    ∙ step_stuck (R.token (key M.Key)) (λ _. R.empty (capped (c.args.keys + 1))) c.in_ok-rest-in-None.rest.now rest e)
    c.in_err-rest-in-None-2.ensures.value)
