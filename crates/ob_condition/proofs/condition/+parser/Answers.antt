use Rattle.std.proofs.Common.{◌≡◌, ℕ, ◌-◌, ◌≤◌, List, length, Ok, sym, ◌∙◌, ap, subst, arith}
use Rattle.ob_grammar.specs.Reader.{◌>>=◌, token, empty, bind}
use Rattle.ob_grammar.proofs.Placed.{shorter}
use Rattle.ob_grammar.proofs.Loops.{Left, left_next, left_stuck, left_end}
use Rattle.ob_token.specs.declared.token.Mark.TheVariants as M
use Rattle.ob_token.specs.declared.token.Token.{Token}
use Rattle.ob_sql.specs.Search.{Search, Not, And, Or}
use Rattle.ob_condition.specs.Conditions.{Prim, ConjOf}
use Rattle.ob_condition.specs.Marks.{key}
use Rattle.ob_condition.specs.Reading.{Gives, cond_of, conj_of, prim, search_in}
use Rattle.ob_condition.proofs.PrimSteps.{prim_flat, prim_not, prim_open, prim_leaf, closes, no_close}
use Rattle.ob_condition.proofs.GoodConditions.{AfterColumn, AfterConj, good_prim, good_conj}
use Rattle.ob_condition.proofs.Ends.{column_end, conj_end}
use Rattle.ob_condition.proofs.Faults.{through, fewer}
use Rattle.ob_condition.proofs.condition.+parser.Goals as goal

module _ (text : List ℕ) (d : ℕ) where
  no_more : (ts : List Token) (v : Search) (rest : List Token) → prim text d ts ≡ Ok (v, rest) → length rest ≤ length ts
  no_more = shorter (Prim text d) AfterColumn (prim text d) (good_prim text d) column_end

  no_more_conj : (ts : List Token) (v : Search) (rest : List Token) → conj_of (prim text d) ts ≡ Ok (v, rest) → length rest ≤ length ts
  no_more_conj = shorter (ConjOf (Prim text d)) AfterConj (conj_of (prim text d)) (good_conj text d) conj_end

pub prim-returns-then-depth-eq0 : goal.prim-returns-then-depth-eq0
prim-returns-then-depth-eq0 t c = subst (Gives search_in c.comparison.result) (sym (prim_flat c.args.text.now c.args.depth c.args.tokens.now c.if-depth-eq0.true)) c.comparison.ensures

pub prim-returns-in-Ok-not : goal.prim-returns-in-Ok-not
prim-returns-in-Ok-not t c =
    let s = c.in-Some.ensures in
    prim_not c.args.text.now c.args.depth (c.args.depth - 1) s.0 c.args.tokens.now c.in-Some.rest.now (omega arith) s.2 s.3
    ∙ ap (λ o. o >>= λ p. empty (Not p.0) p.1) c.in-Ok.ensures
    ∙ ap (λ v. Ok (v, c.in-Ok.behind.now)) (sym c.in-Ok-not.ensures)

pub prim-returns-in-Err : goal.prim-returns-in-Err
prim-returns-in-Err t c =
    let s = c.in-Some.ensures in
    through c.in-Err.fault (prim c.args.text.now (c.args.depth - 1) c.in-Some.rest.now) (prim c.args.text.now c.args.depth c.args.tokens.now)
    (λ rest e. prim_not c.args.text.now c.args.depth (c.args.depth - 1) s.0 c.args.tokens.now c.in-Some.rest.now (omega arith) s.2 s.3 ∙ ap (λ o. o >>= λ p. empty (Not p.0) p.1) e)
    c.in-Err.ensures

pub prim-returns-in-Some-skip-2 : goal.prim-returns-in-Some-skip-2
prim-returns-in-Some-skip-2 t c =
    let s = c.in-Some-skip.ensures in
    let k = c.in-Some-skip-2.ensures in
    prim_open c.args.text.now c.args.depth (c.args.depth - 1) s.0 c.args.tokens.now c.in-Some-skip.rest.now (omega arith) s.2 s.3
    ∙ ap (λ o. o >>= λ p. bind (token (key M.Close)) (λ _. empty p.0) p.1) c.in-Ok-cond.ensures
    ∙ ap (bind (token (key M.Close)) (λ _. empty (search_in c.in-Ok-cond.inner))) k.3
    ∙ closes k.0 c.in-Some-skip-2.after.now (search_in c.in-Ok-cond.inner) k.2

pub prim-returns-in-None : goal.prim-returns-in-None
prim-returns-in-None t c =
    let s = c.in-Some-skip.ensures in
    prim_open c.args.text.now c.args.depth (c.args.depth - 1) s.0 c.args.tokens.now c.in-Some-skip.rest.now (omega arith) s.2 s.3
    ∙ ap (λ o. o >>= λ p. bind (token (key M.Close)) (λ _. empty p.0) p.1) c.in-Ok-cond.ensures
    ∙ no_close c.in-Ok-cond.behind.now (search_in c.in-Ok-cond.inner) c.in-None.ensures

pub prim-returns-in-Err-cond : goal.prim-returns-in-Err-cond
prim-returns-in-Err-cond t c =
    let s = c.in-Some-skip.ensures in
    through c.in-Err-cond.fault (cond_of (prim c.args.text.now (c.args.depth - 1)) c.in-Some-skip.rest.now) (prim c.args.text.now c.args.depth c.args.tokens.now)
    (λ rest e. prim_open c.args.text.now c.args.depth (c.args.depth - 1) s.0 c.args.tokens.now c.in-Some-skip.rest.now (omega arith) s.2 s.3
    ∙ ap (λ o. o >>= λ p. bind (token (key M.Close)) (λ _. empty p.0) p.1) e)
    c.in-Err-cond.ensures

pub prim-returns : goal.prim-returns
prim-returns t c =
    subst (Gives search_in c.comparison-2.result)
    (sym (prim_leaf c.args.text.now c.args.depth (c.args.depth - 1) c.args.tokens.now (omega arith) c.in_default.ensures c.in_default-skip.ensures)) c.comparison-2.ensures

pub conj-parts-smaller : goal.conj-parts-smaller
conj-parts-smaller t c =
    let s = c.in-Some.ensures in
    fewer c.parts.rest.now c.in-Some.after.now c.in-Ok-prim.next.now s.0 s.3
    (no_more c.args.text.now c.args.depth c.in-Some.after.now (search_in c.in-Ok-prim.right) c.in-Ok-prim.next.now c.in-Ok-prim.ensures)

pub conj-parts-preserved : goal.conj-parts-preserved
conj-parts-preserved t c =
    let s = c.in-Some.ensures in
    subst (λ v. Left (key M.And) (λ q. q) And (prim c.args.text.now c.args.depth) c.args.tokens.now v c.in-Ok-prim.next.now) (sym c.in-Ok-and.ensures)
    (left_next (key M.And) (λ q. q) And (prim c.args.text.now c.args.depth) c.args.tokens.now (search_in c.parts.left) s.0 c.in-Some.after.now (search_in c.in-Ok-prim.right) c.in-Ok-prim.next.now
    (subst (Left (key M.And) (λ q. q) And (prim c.args.text.now c.args.depth) c.args.tokens.now (search_in c.parts.left)) s.3 c.parts.invariant) s.2 c.in-Ok-prim.ensures
    (no_more c.args.text.now c.args.depth c.in-Some.after.now (search_in c.in-Ok-prim.right) c.in-Ok-prim.next.now c.in-Ok-prim.ensures))

pub conj-returns-in-Err-prim : goal.conj-returns-in-Err-prim
conj-returns-in-Err-prim t c =
    let s = c.in-Some.ensures in
    through c.in-Err-prim.fault (prim c.args.text.now c.args.depth c.in-Some.after.now) (conj_of (prim c.args.text.now c.args.depth) c.args.tokens.now)
    (λ rest e. left_stuck (key M.And) (λ q. q) And (prim c.args.text.now c.args.depth) c.args.tokens.now (search_in c.parts.left) s.0 c.in-Some.after.now rest
    (subst (Left (key M.And) (λ q. q) And (prim c.args.text.now c.args.depth) c.args.tokens.now (search_in c.parts.left)) s.3 c.parts.invariant) s.2 e)
    c.in-Err-prim.ensures

pub conj-returns : goal.conj-returns
conj-returns t c =
    left_end (key M.And) (λ q. q) And (prim c.args.text.now c.args.depth) c.args.tokens.now (search_in c.parts.left) c.parts.rest.now c.parts.invariant c.in_default.ensures

pub cond-parts-smaller : goal.cond-parts-smaller
cond-parts-smaller t c =
    let s = c.in-Some.ensures in
    fewer c.parts.rest.now c.in-Some.after.now c.in-Ok-conj.next.now s.0 s.3
    (no_more_conj c.args.text.now c.args.depth c.in-Some.after.now (search_in c.in-Ok-conj.right) c.in-Ok-conj.next.now c.in-Ok-conj.ensures)

pub cond-parts-preserved : goal.cond-parts-preserved
cond-parts-preserved t c =
    let s = c.in-Some.ensures in
    subst (λ v. Left (key M.Or) (λ q. q) Or (conj_of (prim c.args.text.now c.args.depth)) c.args.tokens.now v c.in-Ok-conj.next.now) (sym c.in-Ok-or.ensures)
    (left_next (key M.Or) (λ q. q) Or (conj_of (prim c.args.text.now c.args.depth)) c.args.tokens.now (search_in c.parts.left) s.0 c.in-Some.after.now (search_in c.in-Ok-conj.right)
    c.in-Ok-conj.next.now
    (subst (Left (key M.Or) (λ q. q) Or (conj_of (prim c.args.text.now c.args.depth)) c.args.tokens.now (search_in c.parts.left)) s.3 c.parts.invariant) s.2 c.in-Ok-conj.ensures
    (no_more_conj c.args.text.now c.args.depth c.in-Some.after.now (search_in c.in-Ok-conj.right) c.in-Ok-conj.next.now c.in-Ok-conj.ensures))

pub cond-returns-in-Err-conj : goal.cond-returns-in-Err-conj
cond-returns-in-Err-conj t c =
    let s = c.in-Some.ensures in
    through c.in-Err-conj.fault (conj_of (prim c.args.text.now c.args.depth) c.in-Some.after.now) (cond_of (prim c.args.text.now c.args.depth) c.args.tokens.now)
    (λ rest e. left_stuck (key M.Or) (λ q. q) Or (conj_of (prim c.args.text.now c.args.depth)) c.args.tokens.now (search_in c.parts.left) s.0 c.in-Some.after.now rest
    (subst (Left (key M.Or) (λ q. q) Or (conj_of (prim c.args.text.now c.args.depth)) c.args.tokens.now (search_in c.parts.left)) s.3 c.parts.invariant) s.2 e)
    c.in-Err-conj.ensures

pub cond-returns : goal.cond-returns
cond-returns t c =
    left_end (key M.Or) (λ q. q) Or (conj_of (prim c.args.text.now c.args.depth)) c.args.tokens.now (search_in c.parts.left) c.parts.rest.now c.parts.invariant c.in_default.ensures
