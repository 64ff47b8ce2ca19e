-- The statements that texts spell.
use Rattle.std.specs.Prelude.{ℕ, ⊤, List, [], ◌∷◌, Result, Ok, Err, ◌≡◌, ◌≤◌, ◌+◌, ◌⊎◌, ◌++◌, length, max, IsSome, Option}
use Rattle.ob_mean.specs.Replay.{Spelt}
use Rattle.ob_parse.specs.Refusal.{RefusedAt}
use Rattle.ob_parse.specs.Statements.{Statement}
use Rattle.ob_sql.specs.declared.stmt.Stmt.{Stmt}
use Rattle.ob_token.specs.Tokens.{tokens_of}
use Rattle.ob_headline.specs.Story.{Story}

-- what a text spells: a statement, or the place where it is refused
abbrev pub Spells : List ℕ → Result Stmt ℕ → Type 0
Spells text (Ok stmt) = Statement text stmt (tokens_of text)
Spells text (Err at) = RefusedAt text (tokens_of text) at

-- the first of these texts spell these statements, or the places where they are refused
unfoldable pub SpellFirst : List (List ℕ) → List Spelt → Type 0
SpellFirst texts [] = ⊤
SpellFirst [] (x ∷ xs) = ⊥
SpellFirst (text ∷ texts) (x ∷ xs) = Spells text x × SpellFirst texts xs

-- the statements among what texts spell
unfoldable pub statements : List Spelt → List Stmt
statements [] = []
statements (Ok stmt ∷ spelt) = stmt ∷ statements spelt
statements (Err at ∷ spelt) = statements spelt

-- the texts that were answered, and at most one that was begun, or as many statements as were, spell them; without a secret
-- there are none
pub record Statements (secret : Option (List ℕ)) (story : Story) : Type 0 where
  pub spells : SpellFirst (story.served ++ story.more) story.spelt
  pub reached : length story.served ≤ length story.spelt
  pub begun : length story.spelt ≤ length story.served + max 1 (length story.last)
  pub keyed : IsSome secret ⊎ (story.spelt ≡ [])
  pub each : length story.answers ≡ length story.served
