-- A loop over the parts of a list.
use Rattle.std.proofs.Common.{◌≡◌, ◌≤◌, List, [], ◌∷◌, ◌++◌, length, Some, Ok, Err, sym, ◌∙◌, ap, subst}
use Rattle.ob_grammar.specs.Reader.{listed}
use Rattle.ob_grammar.proofs.Loops.{Left, left_start, left_next, left_stuck}
use Rattle.ob_token.specs.declared.token.Mark.TheVariants as M
use Rattle.ob_token.specs.declared.token.Token.{Token}
use Rattle.ob_condition.specs.Marks.{key}
use Rattle.ob_condition.specs.Reading.{Read}

module _ {U : Type 0} (a : List Token → Read U) (ts : List Token) where
  -- these parts are read, and the loop goes on here
  abbrev pub Parts : List U → List Token → Type 0
  Parts = Left (key M.Comma) (λ v. v ∷ []) (λ s v. s ++ v ∷ []) a ts

  -- the first part, and then another one
  pub parts_start : (fresh now : List U) (u : U) (rest : List Token) → fresh ≡ [] → now ≡ fresh ++ u ∷ [] → a ts ≡ Ok (u, rest) → Parts now rest
  parts_start fresh now u rest none is e =
      subst (λ vs. Parts vs rest) (sym (is ∙ ap (λ vs. vs ++ u ∷ []) none)) (left_start (key M.Comma) (λ v. v ∷ []) (λ s v. s ++ v ∷ []) a ts u rest e)

  pub parts_next : (had now : List U) (u : U) (t : Token) (rest after more : List Token) → Parts had rest → key M.Comma t ≡ Some tt → rest ≡ t ∷ after → now ≡ had ++ u ∷ []
      → a after ≡ Ok (u, more) → length more ≤ length after → Parts now more
  parts_next had now u t rest after more left k begun is e within =
      subst (λ vs. Parts vs more) (sym is) (left_next (key M.Comma) (λ v. v ∷ []) (λ s v. s ++ v ∷ []) a ts had t after u more (subst (Parts had) begun left) k e within)

  -- or none after a comma
  pub parts_stuck : (had : List U) (t : Token) (rest after more : List Token) → Parts had rest → key M.Comma t ≡ Some tt → rest ≡ t ∷ after → a after ≡ Err more
      → listed (key M.Comma) a ts ≡ Err more
  parts_stuck had t rest after more left k begun e =
      left_stuck (key M.Comma) (λ v. v ∷ []) (λ s v. s ++ v ∷ []) a ts had t after more (subst (Parts had) begun left) k e
