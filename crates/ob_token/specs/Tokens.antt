-- The tokens of a text.
use Rattle.std.specs.Prelude.{ℕ, zero, suc, pred, ◌+◌, List, [], ◌∷◌, Bool, true, false, Option, Some, None, if◌then◌else◌}
use Rattle.ob_token.specs.declared.token.Lexeme.{Lexeme}
use Rattle.ob_token.specs.declared.token.Lexeme.TheVariants as L
use Rattle.ob_token.specs.declared.token.Token.{Token}
use Rattle.ob_token.specs.Lexemes.{piece}

abbrev pub bad : Lexeme → Bool
bad L.Bad = true
bad lexeme = false

-- a token, and those after it; what is no token is the last one
abbrev pub then_token : Token → List Token → List Token
then_token t rest = t ∷ (if bad t.lexeme then [] else rest)

abbrev pub then_piece : Option Lexeme → ℕ → ℕ → List Token → List Token
then_piece None from to rest = rest
then_piece (Some lexeme) from to rest = then_token (record { lexeme = lexeme; from = from; to = to }) rest

-- the tokens from place `at` on, where so many bytes belong to the piece before
unfoldable pub tokens_from : (skip at : ℕ) → List ℕ → List Token
tokens_from skip at [] = []
tokens_from (suc skip) at (b ∷ bs) = tokens_from skip (suc at) bs
tokens_from zero at (b ∷ bs) =
    then_piece (piece (b ∷ bs)).lexeme at (at + (piece (b ∷ bs)).len) (tokens_from (pred (piece (b ∷ bs)).len) (suc at) bs)

abbrev pub tokens_of : List ℕ → List Token
tokens_of text = tokens_from 0 0 text
