-- The steps of a reader, one after the other.
use Rattle.std.proofs.Common.{◌≡◌, List, [], ◌∷◌, cond, Some, None, is_some, Result, Ok, Err, refl, sym, ◌∙◌, ap, subst}
use Rattle.std.specs.Prelude.{IsErrAnd}
use Rattle.std.specs.Borrow.{Bor}
use Rattle.ob_grammar.specs.Reader as R
use Rattle.ob_grammar.specs.Reader.{◌>>=◌, taken}
use Rattle.ob_token.specs.declared.token.Mark.{Mark}
use Rattle.ob_token.specs.declared.token.Token.{Token}
use Rattle.ob_condition.specs.declared.reader.Fault.{Fault}
use Rattle.ob_condition.specs.Marks.{key}
use Rattle.ob_condition.specs.Reading.{Fails, Gives, Read}
use Rattle.ob_parse.specs.StatementReading.{expects}

-- a fault that is handed on is the answer
pub handed_on : {U V : Type 0} (view : U → V) (read : Read V) (r : Result (U × Bor (List Token)) Fault) (fault : Fault) → IsErrAnd r (λ e. e ≡ fault) → Fails fault read → Gives view r read
handed_on view read (Ok p) fault is h = absurd is
handed_on view read (Err e) fault is h = subst (λ f. Fails f read) (sym is) h

-- the first step is stuck, or goes on
pub step_stuck : {U V : Type 0} (a : List Token → Read U) (b : U → List Token → Read V) (ts rest : List Token) → a ts ≡ Err rest → R.bind a b ts ≡ Err rest
step_stuck a b ts rest e = ap (λ o. o >>= λ p. b p.0 p.1) e

pub step_done : {U V : Type 0} (a : List Token → Read U) (b : U → List Token → Read V) (ts rest : List Token) (u : U) → a ts ≡ Ok (u, rest) → R.bind a b ts ≡ b u rest
step_done a b ts rest u e = ap (λ o. o >>= λ p. b p.0 p.1) e

-- a word is first, or another token
pub word_first : {V : Type 0} (m : Mark) (a b : List Token → Read V) (t : Token) (u : Unit {0}) (ts after : List Token) → key m t ≡ Some u → ts ≡ t ∷ after
    → R.choose (λ t. is_some (key m t)) (expects m a) b ts ≡ a after
word_first m a b t u ts after k e =
    ap (R.choose (λ t. is_some (key m t)) (expects m a) b) e ∙ ap (λ o. cond (is_some o) (taken o (t ∷ after) after >>= λ p. a p.1) (b (t ∷ after))) k

pub no_word : {V : Type 0} (m : Mark) (a b : List Token → Read V) (ts : List Token) → ((t : Token) (after : List Token) → ts ≡ t ∷ after → key m t ≡ None)
    → R.choose (λ t. is_some (key m t)) a b ts ≡ b ts
no_word m a b [] other = refl
no_word m a b (t ∷ ts) other = ap (λ o. cond (is_some o) (a (t ∷ ts)) (b (t ∷ ts))) (other t ts refl)
