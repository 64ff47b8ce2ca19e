-- Tokens of which none except the last byte's is a semicolon.
use Rattle.std.specs.Prelude.{◌≡◌, ℕ, List, [], ◌∷◌, ⊤}
use Rattle.ob_token.specs.declared.token.Lexeme.TheVariants as L
use Rattle.ob_token.specs.declared.token.Mark.TheVariants as M
use Rattle.ob_token.specs.declared.token.Token.{Token}

-- each semicolon among the tokens ends at n
abbrev pub SemicolonsEndAt : ℕ → List Token → Type 0
SemicolonsEndAt n [] = ⊤
SemicolonsEndAt n (t ∷ ts) = (t.lexeme ≡ L.Mark M.Semicolon → t.to ≡ n) × SemicolonsEndAt n ts
