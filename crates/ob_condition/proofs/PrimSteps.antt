-- What `prim` reads, by the first token.
use Rattle.std.proofs.Common.{◌≡◌, ℕ, suc, List, [], ◌∷◌, cond, Some, None, is_some, Ok, Err, refl, ◌∙◌, ap}
use Rattle.ob_grammar.specs.Reader.{◌>>=◌, token, empty, bind, choose, taken}
use Rattle.ob_token.specs.declared.token.Mark.TheVariants as M
use Rattle.ob_token.specs.declared.token.Token.{Token}
use Rattle.ob_sql.specs.Search.{Search, Not}
use Rattle.ob_condition.specs.Marks.{flag, is, key}
use Rattle.ob_condition.specs.Reading.{comparison, cond_of, grouped, negated, prim}
use Rattle.ob_condition.proofs.Told.{apart}

module _ (text : List ℕ) where
  pub prim_flat : (d : ℕ) (ts : List Token) → d ≡ 0 → prim text d ts ≡ comparison text ts
  unfolding prim
  prim_flat d ts e = ap (λ k. prim text k ts) e

  pub prim_not : (d e : ℕ) (t : Token) (ts us : List Token) → d ≡ suc e → key M.Not t ≡ Some tt → ts ≡ t ∷ us → prim text d ts ≡ bind (prim text e) (λ v. empty (Not v)) us
  unfolding prim
  prim_not d e t ts us h k f =
      ap (λ n. prim text n ts) h ∙ ap (prim text (suc e)) f
      ∙ ap (λ o. cond (is_some o) (taken o (t ∷ us) us >>= λ p. bind (prim text e) (λ v. empty (Not v)) p.1)
      (choose (λ t. is_some (key M.Open t)) (grouped (prim text e)) (comparison text) (t ∷ us))) k

  opens : (t : Token) → key M.Open t ≡ Some tt → key M.Not t ≡ None
  opens t e = ap flag (apart (λ x. flag (is M.Open x)) M.Not refl t.lexeme tt e)

  pub prim_open : (d e : ℕ) (t : Token) (ts us : List Token) → d ≡ suc e → key M.Open t ≡ Some tt → ts ≡ t ∷ us
      → prim text d ts ≡ bind (cond_of (prim text e)) (λ a. bind (token (key M.Close)) (λ _. empty a)) us
  unfolding prim
  prim_open d e t ts us h k f =
      ap (λ n. prim text n ts) h ∙ ap (prim text (suc e)) f
      ∙ ap (λ o. cond (is_some o) (negated (prim text e) (t ∷ us)) (choose (λ t. is_some (key M.Open t)) (grouped (prim text e)) (comparison text) (t ∷ us))) (opens t k)
      ∙ ap (λ o. cond (is_some o) (taken o (t ∷ us) us >>= λ p. bind (cond_of (prim text e)) (λ a. bind (token (key M.Close)) (λ _. empty a)) p.1) (comparison text (t ∷ us))) k

  pub prim_leaf : (d e : ℕ) (ts : List Token) → d ≡ suc e → ((t : Token) (after : List Token) → ts ≡ t ∷ after → key M.Not t ≡ None)
      → ((t : Token) (after : List Token) → ts ≡ t ∷ after → key M.Open t ≡ None) → prim text d ts ≡ comparison text ts
  unfolding prim
  prim_leaf d e [] h a b = ap (λ k. prim text k []) h
  prim_leaf d e (t ∷ ts) h a b =
      ap (λ k. prim text k (t ∷ ts)) h
      ∙ ap (λ o. cond (is_some o) (negated (prim text e) (t ∷ ts)) (choose (λ t. is_some (key M.Open t)) (grouped (prim text e)) (comparison text) (t ∷ ts))) (a t ts refl)
      ∙ ap (λ o. cond (is_some o) (grouped (prim text e) (t ∷ ts)) (comparison text (t ∷ ts))) (b t ts refl)

-- the closing parenthesis
pub closes : (t : Token) (us : List Token) (a : Search) → key M.Close t ≡ Some tt → bind (token (key M.Close)) (λ _. empty a) (t ∷ us) ≡ Ok (a, us)
closes t us a k = ap (λ o. taken o (t ∷ us) us >>= λ p. empty a p.1) k

pub no_close : (ts : List Token) (a : Search) → ((t : Token) (after : List Token) → ts ≡ t ∷ after → key M.Close t ≡ None) → bind (token (key M.Close)) (λ _. empty a) ts ≡ Err ts
no_close [] a h = refl
no_close (t ∷ ts) a h = ap (λ o. taken o (t ∷ ts) ts >>= λ p. empty a p.1) (h t ts refl)
