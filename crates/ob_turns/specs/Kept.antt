-- How statements in flight were answered, each at its place, and what is printed of that.
use Rattle.std.specs.Prelude.{◌≡◌, ◌<◌, ℕ, List, [], ◌∷◌, ◌++◌, length, map, slice_set}
use Rattle.ob_headline.specs.Closing.{closing_line}
use Rattle.ob_inflight.specs.Closing.{Closed}
use Rattle.ob_print.specs.Rows.{events_text}
use Rattle.ob_verdict.specs.declared.outcome.Outcome.{Outcome}

-- one more is kept, where there is room for it
pub record IsKept (place : ℕ) (outcome : Outcome) (old new : List Outcome) : Type 0 where
  pub size : length new ≡ length old
  pub kept : place < length old → new ≡ slice_set old place outcome

abbrev pub outcomes_of : List Closed → List Outcome
outcomes_of ended = map (λ (one : Closed). one.outcome) ended

-- the answers of those that have ended, one after the other, each with its closing line
abbrev pub closed_text : List Closed → List ℕ
closed_text [] = []
closed_text (one ∷ ended) =
    (events_text one.events ++ closing_line one.outcome) ++ closed_text ended
