-- What a flight does: in the end, and where it stops.
use Rattle.std.specs.Prelude.{◌≡◌, ◌≤◌, ◌⊎◌, ◌+◌, ◌++◌, ℕ, true, false, List, [], Option, Some, None, length, slice_get, slice_set}
use Rattle.ob_base.specs.Events.{Event}
use Rattle.ob_base.specs.declared.access.Access.{Access}
use Rattle.ob_base.specs.declared.config.Public.{Public}
use Rattle.ob_base.specs.declared.emit.EmitErr.{EmitErr}
use Rattle.ob_flat.specs.declared.fault.OpErr.{OpErr}
use Rattle.ob_inflight.specs.AfterTurns.{AllMay, HaveGoneOn, HaveStood, IsInFlight, IsBegun, setting_off}
use Rattle.ob_inflight.specs.Answers.{EndsBy, error_of}
use Rattle.ob_inflight.specs.Closing.{Closed, ClosesAll, Emitted, events_at}
use Rattle.ob_inflight.specs.Kinds.{Kind, Moment, Taker, moment, share_at}
use Rattle.ob_inflight.specs.Progress.{SealsBlocks, StopsStep}
use Rattle.ob_script.specs.Flights.{accesses_in, entry_of, turns}
use Rattle.ob_script.specs.Trace.{Served}
use Rattle.ob_store.specs.Runs.{Began}
use Rattle.ob_vault.specs.Calls.{Lasts}
use Rattle.ob_verdict.specs.declared.outcome.Outcome.{Outcome}

-- all have ended, after n turns, each of which took a word
pub record HasFlown {F E : Type 0} (k : Kind F) (t : Taker E) (words left : ℕ → ℕ) (share : ℕ)
    (start now : Moment F)
    (out_old out_new : E) : Type 0 where
  pub public : Public
  pub turn : ℕ
  pub ended : List Closed
  pub aloft : IsInFlight k words turn public share ended [] start now
  pub all : length ended ≡ length now.flyers
  pub took : ClosesAll t.grew t.closed 0 ended out_old out_new
  pub rest : (i : ℕ) → left i ≡ words (turn + i)
  pub past : HaveStood k words public share turn ended start now
  pub went : HaveGoneOn k words public share turn ended start now
  pub begun : IsBegun k words public share ended start now

-- ---- what gave up, after some turns
-- the step of the statement at a place, which is the first that has not ended if it prints
pub record StopsInStep {F E : Type 0} (k : Kind F) (t : Taker E) (e : OpErr) (ended : List Closed)
    (current : List Event)
    (place : ℕ) (act : Option Access) (last now : Moment F) (between out_last out_new : E)
    : Type 0 where
  pub before : F
  pub after : F
  pub at : slice_get last.flyers place ≡ Some before
  pub flyers : now.flyers ≡ slice_set last.flyers place after
  pub going : (k.progress before).outcome ≡ None
  pub stops : StopsStep e (k.progress before) (k.progress after) (k.May before) last.world now.world
  pub asks : act ≡ Some stops.access
  pub first : (k.progress before).prints ≡ true → place ≡ length ended
  pub part : List Event
  pub ends : (k.progress before).prints ≡ true
      → EndsBy t.grew t.cut e between out_new (current ++ part)
  pub quiet : (k.progress before).prints ≡ false → (part ≡ []) × (out_new ≡ out_last)
  pub halts : k.Halts before (events_at ended current place) part e last.world now.world

-- what was left of the answer of the first that has not ended
pub record StopsInFinish {F E : Type 0} (k : Kind F) (t : Taker E) (e : OpErr) (ended : List Closed)
    (current : List Event)
    (place : ℕ) (act : Option Access) (last now : Moment F) (between out_new : E) : Type 0 where
  pub first : place ≡ length ended
  pub none : act ≡ None
  pub before : F
  pub after : F
  pub at : slice_get last.flyers place ≡ Some before
  pub flyers : now.flyers ≡ slice_set last.flyers place after
  pub over : (k.progress before).over ≡ true
  pub same : k.progress after ≡ k.progress before
  pub world : now.world ≡ last.world
  pub error : EmitErr
  pub is : e ≡ error_of error
  pub part : List Event
  pub ends : t.cut between out_new (current ++ part)
  pub halts : k.Halts before current part e last.world now.world

-- how it was answered
pub record StopsInClosing {F E : Type 0} (k : Kind F) (t : Taker E) (share : ℕ) (e : OpErr)
    (ended : List Closed)
    (place : ℕ) (act : Option Access) (last now : Moment F) (between out_new : E) : Type 0 where
  pub first : place ≡ length ended
  pub none : act ≡ None
  pub before : F
  pub after : F
  pub at : slice_get last.flyers place ≡ Some before
  pub flyers : now.flyers ≡ slice_set last.flyers place after
  pub over : (k.progress before).over ≡ true
  pub outcome : Outcome
  pub answered : k.progress after ≡ record (k.progress before) { outcome = Some outcome }
  pub world : now.world ≡ last.world
  pub error : EmitErr
  pub is : e ≡ error_of error
  pub events : List Event
  pub holds : k.Holds after (share_at share place now.kept) events now.world
  pub took : E
  pub grew : t.grew between took events
  pub parted : t.parted took out_new place outcome

-- n turns were taken, and an act of the next one gave up; the accesses are the first ones of these turns and that one
pub record StopsFlight {F E : Type 0} (k : Kind F) (t : Taker E) (words : ℕ → ℕ) (share : ℕ)
    (e : OpErr)
    (start now : Moment F) (out_old out_new : E) : Type 0 where
  pub public : Public
  pub turn : ℕ
  pub ended : List Closed
  pub current : List Event
  pub last : Moment F
  pub aloft : IsInFlight k words turn public share ended current start last
  pub out_last : E
  pub emitted : Emitted t.grew t.closed ended current out_old out_last
  -- whose act it was
  pub place : ℕ
  pub act : Option Access
  pub log : (xs : List Served) → AllMay k.May last.flyers xs
      → (turns words (turn + 1) (setting_off public start.world.vault.next xs)).log
      ≡ aloft.turned.log ++ entry_of place act
  pub by : StopsInStep k t e ended current place act last now emitted.between out_last out_new
      ⊎ StopsInFinish k t e ended current place act last now emitted.between out_new
      ⊎ StopsInClosing k t share e ended place act last now emitted.between out_new
  pub began : (xs : List Served) → AllMay k.May last.flyers xs
      → Began
      (accesses_in (turns words (turn + 1) (setting_off public start.world.vault.next xs)).log)
      start.world.store now.world.store
  pub lasts : Lasts (λ q. start.world.vault.next ≤ q) start.world now.world
  pub faults : now.world.store.faults ≡ last.world.store.faults
  pub seals : SealsBlocks public.pack start.world now.world
  -- of the statements as they were before that act, in the world after it
  pub past : HaveStood k words public share turn ended start
      (moment last.flyers last.kept now.world)
  pub went : HaveGoneOn k words public share (turn + 1) ended start
      (moment last.flyers last.kept now.world)
  pub begun : IsBegun k words public share ended start (moment last.flyers last.kept now.world)
