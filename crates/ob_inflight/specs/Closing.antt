-- Answers of several statements, one after the other.
use Rattle.std.specs.Prelude.{◌≡◌, ◌+◌, ◌-◌, ◌^◌, ◌≤◌, min, ℕ, zero, suc, List, [], ◌∷◌, Option, option_map, slice_get}
use Rattle.ob_base.specs.Events.{Event}
use Rattle.ob_verdict.specs.declared.outcome.Outcome.{Outcome}

-- one that has ended: how it was answered, and what was emitted of that
pub record Closed : Type 0 where
  pub outcome : Outcome
  pub events : List Event

-- the emitter took the events of one answer, and then how its statement, at this place, was answered
pub record Closes {E : Type 0} (grew : E → E → List Event → Type 0)
    (closed : E → E → ℕ → Outcome → Type 0)
    (place : ℕ) (one : Closed) (out_old out_new : E) : Type 0 where
  pub between : E
  pub took : grew out_old between one.events
  pub closes : closed between out_new place one.outcome

-- those of each, one after the other
abbrev pub ClosesAll : {E : Type 0} → (grew : E → E → List Event → Type 0)
    → (closed : E → E → ℕ → Outcome → Type 0)
    → (place : ℕ) → List Closed → (out_old out_new : E) → Type 0
ClosesAll grew closed place [] out_old out_new = out_new ≡ out_old
ClosesAll {E} grew closed place (one ∷ more) out_old out_new =
    (then : E) × Closes grew closed place one out_old then
    × ClosesAll grew closed (place + 1) more then out_new

-- they were taken, and then these events of the next one
pub record Emitted {E : Type 0} (grew : E → E → List Event → Type 0)
    (closed : E → E → ℕ → Outcome → Type 0)
    (ended : List Closed) (current : List Event) (out_old out_new : E) : Type 0 where
  pub between : E
  pub took : ClosesAll grew closed 0 ended out_old between
  pub now : grew between out_new current

-- the answer at a place, if it has ended, and its events, none after the first that has not
abbrev pub outcome_at : List Closed → (place : ℕ) → Option Outcome
outcome_at ended place = option_map (λ (one : Closed). one.outcome) (slice_get ended place)

abbrev pub events_at : List Closed → (current : List Event) → (place : ℕ) → List Event
events_at [] current zero = current
events_at [] current (suc place) = []
events_at (one ∷ ended) current zero = one.events
events_at (one ∷ ended) current (suc place) = events_at ended current place

-- the count has risen so often, or stands at the last value of a u64; it stays where it never rose
pub record RisesBy (n old new : ℕ) : Type 0 where
  pub least : min (old + n) (2 ^ 64 - 1) ≤ new
  pub none : n ≡ 0 → new ≡ old
