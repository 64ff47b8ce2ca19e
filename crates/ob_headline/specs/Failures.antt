-- How many texts were answered that the store had failed, and how many statements were cut off.
use Rattle.std.specs.Prelude.{◌+◌, ◌-◌, ◌^◌, ◌≤◌, min, ℕ, List, [], ◌∷◌, if◌then◌else◌}
use Rattle.ob_base.specs.Refusals.{is_store_fault}
use Rattle.ob_base.specs.declared.refusal.Refusal.{Refusal}
use Rattle.ob_verdict.specs.declared.outcome.Outcome.{Outcome}
use Rattle.ob_verdict.specs.declared.outcome.Outcome.TheVariants.{Created, Inserted, Changed, Deleted, Dropped, Rows, Refused}
use Rattle.ob_headline.specs.Words.{Answer}
use Rattle.ob_mean.specs.Batches.{is_cut}
use Rattle.ob_script.specs.Trace.{Served}

abbrev pub refusal_failures : Refusal → ℕ
refusal_failures r = if is_store_fault r then 1 else 0

abbrev pub outcome_failures : Outcome → ℕ
outcome_failures Created = 0
outcome_failures Inserted = 0
outcome_failures (Changed n) = 0
outcome_failures (Deleted n) = 0
outcome_failures Dropped = 0
outcome_failures (Rows k) = 0
outcome_failures (Refused refusal) = refusal_failures refusal

-- of these answers so many are `E15 store fault`
unfoldable pub failures : List Answer → ℕ
failures [] = 0
failures (answer ∷ answers) = outcome_failures answer.outcome + failures answers

-- of these statements so many were cut off
unfoldable pub cut_off : List Served → ℕ
cut_off [] = 0
cut_off (x ∷ seen) = (if is_cut x.seen.end then 1 else 0) + cut_off seen

-- a count of faults has risen by so many at least, or stands at the last value of a u64
abbrev pub RisesBy : ℕ → ℕ → ℕ → Type 0
RisesBy n old new = min (old + n) (2 ^ 64 - 1) ≤ new

-- calls of the store failed beside those that cut these statements off
abbrev pub FailsBeside : List Served → ℕ → ℕ → Type 0
FailsBeside seen old new = RisesBy (cut_off seen + 1) old new
