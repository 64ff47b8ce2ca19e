-- Where a text is refused.
use Rattle.std.specs.Prelude.{◌≡◌, ℕ, List, [], ◌∷◌, drop, ⊤}
use Rattle.ob_grammar.specs.Place.{IsPlace}
use Rattle.ob_parse.specs.declared.parser.ParseErr.{ParseErr}
use Rattle.ob_parse.specs.declared.parser.ParseErr.TheVariants.{NoMemory, Syntax}
use Rattle.ob_sql.specs.declared.stmt.Stmt.{Stmt}
use Rattle.ob_token.specs.declared.token.Token.{Token}
use Rattle.ob_parse.specs.Statements.{Statement}

-- where the last token ends, or `end` where there is none
abbrev pub last_end : ℕ → List Token → ℕ
last_end end [] = end
last_end end (t ∷ ts) = last_end t.to ts

-- the offset of the first of the tokens that are left; where none is left, the end of the last one of all, or 0
abbrev pub offset : (all left : List Token) → ℕ
offset all [] = last_end 0 all
offset all (t ∷ left) = t.from

-- the tokens spell no statement, and this is the offset after the longest front of them that begins one
pub record RefusedAt (text : List ℕ) (tokens : List Token) (at : ℕ) : Type 0 where
  pub front : ℕ
  pub place : IsPlace (Statement text) tokens front
  pub offset_is : at ≡ offset tokens (drop front tokens)
  pub none : (s : Stmt) → Statement text s tokens → ⊥

abbrev pub IsRefused : List ℕ → List Token → ParseErr → Type 0
IsRefused text tokens NoMemory = ⊤
IsRefused text tokens (Syntax at) = RefusedAt text tokens at
