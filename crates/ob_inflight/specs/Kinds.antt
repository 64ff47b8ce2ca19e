-- What is said of statements of a kind, of their shares, and of what takes their answers.
use Rattle.std.specs.Prelude.{◌*◌, ℕ, List, drop, take}
use Rattle.ob_base.specs.Events.{Event}
use Rattle.ob_flat.specs.declared.fault.OpErr.{OpErr}
use Rattle.ob_inflight.specs.Progress.{Progress}
use Rattle.ob_script.specs.Trace.{Served}
use Rattle.ob_vault.specs.State.{World}
use Rattle.ob_verdict.specs.declared.outcome.Outcome.{Outcome}

-- what a flyer is: how far it is, what it may turn out to be, the regions that it needs, the rows that it fits, and how it
-- stands, or stood where it gave up
pub record Kind (F : Type 0) : Type 1 where
  pub progress : F → Progress
  pub May : F → Served → Type 0
  pub Needs : F → ℕ → Type 0
  pub Fits : F → (rows kept : List (List ℕ)) → Type 0
  pub Holds : F → (kept : List (List ℕ)) → List Event → World → Type 0
  pub Halts : F → (events part : List Event) → OpErr → (old new : World) → Type 0

abbrev pub kind_of : {F : Type 0} → (F → Progress) → (F → Served → Type 0) → (F → ℕ → Type 0)
    → (F → (rows kept : List (List ℕ)) → Type 0)
    → (F → (kept : List (List ℕ)) → List Event → World → Type 0)
    → (F → (events part : List Event) → OpErr → (old new : World) → Type 0) → Kind F
kind_of progress May Needs Fits Holds Halts = record {
  progress = progress;
  May = May;
  Needs = Needs;
  Fits = Fits;
  Holds = Holds;
  Halts = Halts;
}

-- what an emitter of their answers is
pub record Taker (E : Type 0) : Type 1 where
  pub grew : E → E → List Event → Type 0
  pub cut : E → E → List Event → Type 0
  pub closed : E → E → ℕ → Outcome → Type 0
  pub parted : E → E → ℕ → Outcome → Type 0

abbrev pub taker_of : {E : Type 0} → (grew cut : E → E → List Event → Type 0)
    → (closed parted : E → E → ℕ → Outcome → Type 0) → Taker E
taker_of grew cut closed parted = record {
  grew = grew;
  cut = cut;
  closed = closed;
  parted = parted;
}

-- statements at a moment: their shares' rows, and the world
pub record Moment (F : Type 0) : Type 0 where
  pub flyers : List F
  pub kept : List (List ℕ)
  pub world : World

abbrev pub moment : {F : Type 0} → List F → List (List ℕ) → World → Moment F
moment flyers kept world = record { flyers = flyers; kept = kept; world = world }

-- the rows of the share at a place, each of so many
abbrev pub share_at : (share place : ℕ) → List (List ℕ) → List (List ℕ)
share_at share place kept = take share (drop (place * share) kept)
