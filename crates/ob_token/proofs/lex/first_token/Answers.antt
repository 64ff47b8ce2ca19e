use Rattle.std.proofs.Common.{◌+◌, ◌∷◌, [], length, ap, subst, ◌∙◌, sym, arith, length-drop}
use Rattle.std.specs.Prelude.{if◌then◌else◌}
use Rattle.ob_token.specs.declared.lex.Lexed.{Lexed}
use Rattle.ob_token.specs.Tokens.{bad, tokens_from}
use Rattle.ob_token.proofs.Lexed.{Left, at_end, at_token, behind_gap, unless_short}
use Rattle.ob_token.proofs.Emptiness.{is_none, is_some}
use Rattle.ob_token.proofs.lex.first_token.Goals as goal

pub gaps-preserved : goal.gaps-preserved
gaps-preserved c =
    let lt = is_some c.gaps.rest.now c.is_empty.result c.is_empty.ensures c.gaps-test.true in
    subst (Left c.args.offset c.args.bytes.now (c.gaps.at + c.front-len.result.len)) (sym c.behind-rest.ensures)
    (behind_gap c.args.offset c.args.bytes.now c.gaps.at c.front-len.result.len c.gaps.rest.now c.gaps.invariant lt (c.front-len.ensures.moves lt) c.front-len.ensures.fits
    (ap (λ (p : Lexed). p.len) (sym c.front-len.ensures.value)) (ap (λ (p : Lexed). p.lexeme) (sym c.front-len.ensures.value) ∙ c.in_default.is))

pub returns-in-Some-clause-value : goal.returns-in-Some-clause-value
returns-in-Some-clause-value c =
    let lt = is_some c.gaps.rest.now c.is_empty.result c.is_empty.ensures c.gaps-test.true in
    at_token c.args.offset c.args.bytes.now c.gaps.at c.front-len.result.len c.gaps.rest.now c.in-Some.lexeme c.gaps.invariant lt (c.front-len.ensures.moves lt)
    (ap (λ (p : Lexed). p.len) (sym c.front-len.ensures.value)) (ap (λ (p : Lexed). p.lexeme) (sym c.front-len.ensures.value) ∙ c.in-Some.is)
    ∙ ap (λ bs. record { lexeme = c.in-Some.lexeme; from = c.gaps.at; to = c.gaps.at + c.front-len.result.len } ∷ tokens_from 0 (c.gaps.at + c.front-len.result.len) bs)
    (sym (c.unless_bad-rest.ensures ∙ ap (λ bs. if bad c.in-Some.lexeme then [] else bs) c.behind-rest.ensures))

pub returns-in-Some-clause-moves : goal.returns-in-Some-clause-moves
returns-in-Some-clause-moves c =
    let lt = is_some c.gaps.rest.now c.is_empty.result c.is_empty.ensures c.gaps-test.true in
    omega (
      arith,
      c.front-len.ensures.moves lt,
      c.front-len.ensures.fits,
      c.gaps.invariant.within,
      length-drop c.front-len.result.len c.gaps.rest.now,
      ap length c.behind-rest.ensures,
      unless_short (bad c.in-Some.lexeme) c.behind-rest.result.now c.unless_bad-rest.result.now c.unless_bad-rest.ensures,
    )

pub returns-clause-value : goal.returns-clause-value
returns-clause-value c = at_end c.args.offset c.args.bytes.now c.gaps.at c.gaps.rest.now c.gaps.invariant (is_none c.gaps.rest.now c.is_empty.result c.is_empty.ensures c.gaps-test.false)
