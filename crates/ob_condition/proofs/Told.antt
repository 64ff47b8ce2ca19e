-- What it says of a token that it is one thing: it is no other.
use Rattle.std.proofs.Common.{◌≡◌, ℕ, List, Bool, true, false, Option, Some, None, is_some, refl, sym, ◌∙◌, ap}
use denote.Enum.Bare.{same_true}
use Rattle.ob_token.specs.contracts.token.Mark.{the_type}
use Rattle.ob_token.specs.declared.token.Mark.{Mark}
use Rattle.ob_token.specs.declared.token.Lexeme.{Lexeme}
use Rattle.ob_token.specs.declared.token.Lexeme.TheVariants as L
use Rattle.ob_token.specs.declared.token.Token.{Token}
use Rattle.ob_condition.specs.Marks.{is, flag, name_in}

-- a token of this sort
abbrev pub of : Lexeme → Token
of x = record { lexeme = x; from = 0; to = 0 }

pub is_mark : (m : Mark) (x : Lexeme) → is m x ≡ true → x ≡ L.Mark m
is_mark m (L.Mark n) e = ap L.Mark (sym (same_true the_type tt m n e))
is_mark m other e = absurd (cc e)

-- what has a value that this mark doesn't have is not this mark
pub apart : {V : Type 0} (p : Lexeme → Option V) (m : Mark) → p (L.Mark m) ≡ None → (x : Lexeme) (v : V) → p x ≡ Some v → is m x ≡ false
apart {V} p m none x v e = go (is m x) refl where
  go : (b : Bool) → is m x ≡ b → b ≡ false
  go false h = refl
  go true h = let some : Some v ≡ None = sym e ∙ ap p (is_mark m x h) ∙ none in absurd (cc some)

pub apart_name : {V : Type 0} (p : Lexeme → Option V) → ((n : List ℕ) → p (L.Name n) ≡ None) → (x : Lexeme) (v : V) → p x ≡ Some v → is_some (name_in x) ≡ false
apart_name p none (L.Name n) v e = let some : Some v ≡ None = sym e ∙ none n in absurd (cc some)
apart_name p none other v e = refl

-- a token that is not this mark doesn't begin what begins with it
pub no_key : (m : Mark) (x : Lexeme) → is m x ≡ false → is_some (flag (is m x)) ≡ false
no_key m x e = ap (λ b. is_some (flag b)) e

-- what has a value, by a test for it
pub some_value : {V : Type 0} (o : Option V) → is_some o ≡ true → (v : V) × (o ≡ Some v)
some_value (Some v) e = (v, refl)
some_value None e = absurd (cc e)

-- one thing is not another
pub apart_some : {V : Type 0} (p : Lexeme → Option V) (m : Mark) → p (L.Mark m) ≡ None → (x : Lexeme) → is_some (p x) ≡ true → is m x ≡ false
apart_some p m none x e = let s = some_value (p x) e in apart p m none x s.0 s.1
