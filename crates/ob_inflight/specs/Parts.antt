-- One turn of statements in flight, by its parts.
use Rattle.std.specs.Prelude.{◌≡◌, ◌⊎◌, ◌<◌, ◌≤◌, ◌+◌, ◌-◌, ◌*◌, ◌^◌, ℕ, true, false, List, Some, None, Result, IfErr, OnOk, MatchResult, length, slice_get, slice_set}
use Rattle.ob_base.specs.Events.{Event}
use Rattle.ob_base.specs.declared.config.Public.{Public}
use Rattle.ob_base.specs.declared.emit.EmitErr.{EmitErr}
use Rattle.ob_flat.specs.declared.fault.OpErr.{OpErr}
use Rattle.ob_inflight.specs.AfterTurns.{AllFit, AreFlying, HaveGoneOn, HaveStood, IsInFlight, IsBegun, booked_by, most_of}
use Rattle.ob_inflight.specs.Answers.{IsHeld, IsHeldSomewhere, More, Part, Tells, error_of}
use Rattle.ob_inflight.specs.Closing.{Closed, Emitted}
use Rattle.ob_inflight.specs.FlightOutcome.{StopsFlight}
use Rattle.ob_inflight.specs.Kinds.{Kind, Moment, Taker, share_at}
use Rattle.ob_inflight.specs.Progress.{Steps, StopsStep}
use Rattle.ob_script.specs.Trace.{Served}
use Rattle.ob_vault.specs.Numbers.{spent}
use Rattle.ob_vault.specs.State.{World}
use Rattle.ob_vault.specs.Tied.{Ready}
use Rattle.ob_verdict.specs.declared.outcome.Outcome.{Outcome}

-- ---- a step
-- the statement at a place may ask its next access
pub record MayStep {F : Type 0} (k : Kind F) (share place : ℕ) (rows : List (List ℕ))
    (now : Moment F) : Type 0 where
  pub flyer : F
  pub at : slice_get now.flyers place ≡ Some flyer
  pub several : length now.flyers ≤ 8
  pub shares : length now.kept ≡ length now.flyers * share
  pub narrow : share < 2 ^ 32
  pub ready : Ready now.world
  pub few : spent now.world + (k.progress flyer).most < 2 ^ 63 + 2 ^ 60
  pub spare : booked_by k now.flyers ≤ now.world.store.spare
  pub small : booked_by k now.flyers ≤ 2 ^ 62
  pub left : (k.progress flyer).over ≡ false
  pub fits : k.Fits flyer rows (share_at share place now.kept)
  pub held : IsHeld (k.Holds flyer (share_at share place now.kept)) now.world

-- it did, and the others and their shares are as they were
pub record StepsAt {F E T : Type 0} (k : Kind F) (t : Taker E) (share place : ℕ)
    (result : Result T OpErr)
    (rows : List (List ℕ)) (last now : Moment F) (out_old out_new : E) : Type 0 where
  pub before : F
  pub after : F
  pub at : slice_get last.flyers place ≡ Some before
  pub flyers : now.flyers ≡ slice_set last.flyers place after
  pub kept : (i : ℕ) → i < length last.flyers → (i ≡ place → ⊥)
      → share_at share i now.kept ≡ share_at share i last.kept
  pub others : ℕ
  pub rest : others + (k.progress before).booked ≡ booked_by k last.flyers
  pub fits : OnOk result (k.Fits after rows (share_at share place now.kept))
  pub steps : OnOk result (Steps others (k.progress before) (k.progress after) (k.May before)
      (k.May after)
      (k.Needs before) (k.Needs after) last.world now.world)
  pub stops : IfErr result (λ e. StopsStep e (k.progress before) (k.progress after)
      (k.May before) last.world now.world)
  pub tells : Tells t.grew t.cut (k.progress before).prints
      (k.Holds before (share_at share place last.kept))
      (k.Holds after (share_at share place now.kept))
      (k.Halts before) result last.world now.world out_old out_new

-- ---- an end
pub record MayEnd {F : Type 0} (k : Kind F) (share place : ℕ) (flyers : List F)
    (kept : List (List ℕ)) : Type 0 where
  pub flyer : F
  pub at : slice_get flyers place ≡ Some flyer
  pub several : length flyers ≤ 8
  pub shares : length kept ≡ length flyers * share
  pub narrow : share < 2 ^ 32
  pub over : (k.progress flyer).over ≡ true
  pub going : (k.progress flyer).outcome ≡ None
  pub held : IsHeldSomewhere (k.Holds flyer (share_at share place kept))

-- it was answered so, after what was left of its answer
pub record EndsWhole {F E : Type 0} (k : Kind F) (t : Taker E) (place : ℕ) (own : List (List ℕ))
    (before after : F)
    (out_old out_new : E) : Type 0 where
  pub outcome : Outcome
  pub answered : k.progress after ≡ record (k.progress before) { outcome = Some outcome }
  pub between : E
  pub finishes : (events : List Event) (w : World) → k.Holds before own events w
      → More t.grew true (k.Holds after own) events w out_old between
  pub closes : t.closed between out_new place outcome

-- the emitter gave up in that, or at how it was answered
pub record EndsInFinish {F E : Type 0} (k : Kind F) (t : Taker E) (own : List (List ℕ)) (e : OpErr)
    (before after : F)
    (out_old out_new : E) : Type 0 where
  pub same : k.progress after ≡ k.progress before
  pub error : EmitErr
  pub is : e ≡ error_of error
  pub finishes : (events : List Event) (w : World) → k.Holds before own events w
      → Part t.grew t.cut true
      (λ events part. k.Halts before events part e w w) events out_old out_new

pub record EndsInClosing {F E : Type 0} (k : Kind F) (t : Taker E) (place : ℕ) (own : List (List ℕ))
    (e : OpErr)
    (before after : F) (out_old out_new : E) : Type 0 where
  pub outcome : Outcome
  pub answered : k.progress after ≡ record (k.progress before) { outcome = Some outcome }
  pub error : EmitErr
  pub is : e ≡ error_of error
  pub between : E
  pub finishes : (events : List Event) (w : World) → k.Holds before own events w
      → More t.grew true (k.Holds after own) events w out_old between
  pub parted : t.parted between out_new place outcome

pub record EndsAt {F E T : Type 0} (k : Kind F) (t : Taker E) (place : ℕ) (own : List (List ℕ))
    (result : Result T OpErr)
    (last now : List F) (out_old out_new : E) : Type 0 where
  pub before : F
  pub after : F
  pub at : slice_get last place ≡ Some before
  pub flyers : now ≡ slice_set last place after
  pub needs : (q : ℕ) → k.Needs after q → k.Needs before q
  pub may : (x : Served) → k.May after x → k.May before x
  pub ends : MatchResult result
      (λ x. EndsWhole k t place own before after out_old out_new)
      (λ e. EndsInFinish k t own e before after out_old out_new
      ⊎ EndsInClosing k t place own e before after out_old out_new)

-- ---- a turn
-- so many have ended, and the others stand as they should
pub record MayTurn {F : Type 0} (k : Kind F) (share count : ℕ) (rows : List (List ℕ))
    (now : Moment F) : Type 0 where
  pub public : Public
  pub ended : List Closed
  pub current : List Event
  pub stand : AreFlying k public share ended current now
  pub fit : AllFit k share rows now
  pub counts : count ≡ length ended
  pub some : length ended < length now.flyers

-- n turns were taken, and so many have ended
pub record HasTurned {F E : Type 0} (k : Kind F) (t : Taker E) (words : ℕ → ℕ) (n share count : ℕ)
    (rows : List (List ℕ)) (start now : Moment F) (out_old out_new : E) : Type 0 where
  pub public : Public
  pub ended : List Closed
  pub current : List Event
  pub aloft : IsInFlight k words n public share ended current start now
  pub fit : AllFit k share rows now
  pub counts : count ≡ length ended
  pub within : length ended ≤ length now.flyers
  pub emitted : Emitted t.grew t.closed ended current out_old out_new
  pub over : length ended ≡ length now.flyers → out_new ≡ emitted.between
  pub past : HaveStood k words public share n ended start now
  pub went : HaveGoneOn k words public share n ended start now
  pub begun : IsBegun k words public share ended start now

-- what a turn adds to that, whatever the turns before were
abbrev pub TakesTurn : {F E : Type 0} → Kind F → Taker E → (word share count : ℕ)
    → (result : Result ℕ OpErr)
    → (rows_old rows_new : List (List ℕ)) → (last now : Moment F) → (out_old out_new : E) → Type 0
TakesTurn {F} {E} k t word share count result rows_old rows_new last now out_old out_new =
    (words : ℕ → ℕ) (n : ℕ) (start : Moment F) (out_start : E) → words n ≡ word
    → HasTurned k t words n share count rows_old start last out_start out_old
    → MatchResult result
    (λ more. HasTurned k t words (n + 1) share more rows_new start now out_start out_new)
    (λ e. StopsFlight k t words share e start now out_start out_new)

-- less is left to do
abbrev pub left_to : {F : Type 0} → Kind F → (count : ℕ) → List F → ℕ
left_to k count fs = most_of k fs + (length fs - count)
