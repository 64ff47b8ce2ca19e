-- What is counted of answers.
use Rattle.std.specs.Prelude.{ℕ, ◌≡◌, Bool, List, [], ◌∷◌, nat_lt, Option, Result, Ok, Err}
use Rattle.ob_base.specs.declared.config.Plan.{Plan}
use Rattle.ob_base.specs.declared.refusal.Stop.{Stop}
use Rattle.ob_base.specs.declared.seen.Seen.{Seen}
use Rattle.ob_verdict.specs.declared.outcome.Outcome.{Outcome}
use Rattle.ob_verdict.specs.declared.outcome.Outcome.TheVariants.{Created, Inserted, Changed, Deleted, Dropped, Rows, Refused}
use Rattle.ob_gen.specs.Tally.{empty_tally, with_answer, with_plan}
use Rattle.ob_gen.specs.declared.tally.Tally.{Tally}
use Rattle.ob_headline.specs.Closing.{is_refused}
use Rattle.ob_headline.specs.Words.{Answer}

-- how many rows an answer has
abbrev pub rows_of : Outcome → ℕ
rows_of Created = 0
rows_of Inserted = 0
rows_of (Changed n) = 0
rows_of (Deleted n) = 0
rows_of Dropped = 0
rows_of (Rows k) = k
rows_of (Refused refusal) = 0

-- with one more answer, and the plan that was seen of it
abbrev pub tally_with : Tally → Outcome → Option Plan → Tally
tally_with t outcome plan = with_plan (with_answer t (is_refused outcome) (rows_of outcome)) plan

-- with these answers, in order
unfoldable pub tally_after : Tally → List Answer → Tally
tally_after t [] = t
tally_after t (answer ∷ answers) = tally_after (tally_with t answer.outcome answer.plan) answers

-- with these, of each of which this was seen
unfoldable pub tally_seen : Tally → List Outcome → List Seen → Tally
tally_seen t [] seens = t
tally_seen t (outcome ∷ outcomes) [] = t
tally_seen t (outcome ∷ outcomes) (seen ∷ seens) =
    tally_seen (tally_with t outcome seen.plan) outcomes seens

abbrev pub tally_of : List Answer → Tally
tally_of answers = tally_after empty_tally answers

-- a text was refused
abbrev pub has_refused : Tally → Bool
has_refused tally = nat_lt 0 tally.refused

-- the answer of a session that came to its end is its tally
abbrev pub TallyIs : List Answer → Result Tally Stop → Type 0
TallyIs answers (Ok tally) = tally ≡ tally_of answers
TallyIs answers (Err stop) = Unit {0}

-- it tells whether a text was refused
abbrev pub flagged : Result Tally Stop → Result Bool Stop
flagged (Ok tally) = Ok (has_refused tally)
flagged (Err stop) = Err stop
