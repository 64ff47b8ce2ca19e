-- A loop over the constraints of a column.
use Rattle.std.proofs.Common.{◌≡◌, ℕ, ◌<◌, List, [], ◌∷◌, length, true, false, Ok, Err, sym, ◌∙◌, ap}
use Rattle.ob_grammar.proofs.Forms.{Whatever, takes_some}
use Rattle.ob_grammar.proofs.Loops.{Turns, turns_end, turns_next, turns_stuck}
use Rattle.ob_token.specs.declared.token.Token.{Token}
use Rattle.ob_condition.specs.Reading.{begins}
use Rattle.ob_parse.specs.Statements.{Constraint}
use Rattle.ob_parse.specs.StatementReading.{constrains, constraint, constraints}
use Rattle.ob_parse.proofs.GoodStatements.{any_end, constraint_first, good_constraint}

pub fewer_left : (s : ℕ) (rest : List Token) (v : ℕ) (more : List Token) → constraint s rest ≡ Ok (v, more) → length more < length rest
fewer_left s rest v more e = takes_some (Constraint s) Whatever (λ t. constrains t ≡ true) (constraint s) (good_constraint Whatever any_end s) (constraint_first s) rest v more e

pub one_more : (ts : List Token) (s : ℕ) (rest : List Token) (v : ℕ) (more : List Token) → Turns constrains constraint 0 ts s rest → begins constrains rest ≡ true
    → constraint s rest ≡ Ok (v, more) → Turns constrains constraint 0 ts v more
one_more ts s [] v more left e h = absurd (cc e)
one_more ts s (t ∷ after) v more left e h = turns_next constrains constraint 0 ts s t after v more left e h (fewer_left s (t ∷ after) v more h)

pub stuck_there : (ts : List Token) (s : ℕ) (rest more : List Token) → Turns constrains constraint 0 ts s rest → begins constrains rest ≡ true
    → constraint s rest ≡ Err more → constraints ts ≡ Err more
unfolding constraints
stuck_there ts s [] more left e h = absurd (cc e)
stuck_there ts s (t ∷ after) more left e h = turns_stuck constrains constraint 0 ts s t after more left e h

no_first : (rest : List Token) → begins constrains rest ≡ false → (t : Token) (after : List Token) → rest ≡ t ∷ after → constrains t ≡ false
no_first rest e t after h = sym (ap (begins constrains) h) ∙ e

pub all_read : (ts : List Token) (s : ℕ) (rest : List Token) → Turns constrains constraint 0 ts s rest → begins constrains rest ≡ false → constraints ts ≡ Ok (s, rest)
unfolding constraints
all_read ts s rest left e = turns_end constrains constraint 0 ts s rest left (no_first rest e)
