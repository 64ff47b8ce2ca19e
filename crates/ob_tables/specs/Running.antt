-- What a statement does, whatever it is answered.
use Rattle.std.specs.Prelude.{◌≡◌, ◌⊎◌, ◌+◌, ◌-◌, ◌<◌, ℕ, Bool, true, false, List, ◌++◌, length, IsTrue, Result, Ok, Err, Option, Some, None}
use Rattle.ob_base.specs.declared.access.Access.{Access}
use Rattle.ob_base.specs.declared.config.Public.{Public}
use Rattle.ob_base.specs.declared.refusal.Refusal.{Refusal}
use Rattle.ob_tables.specs.declared.stop.RunStop.{RunStop}
use Rattle.ob_tables.specs.declared.stop.RunStop.TheVariants.{Tampered, SinkFault, NoMemory, StoreFault, StashFull, KeeperFault}
use Rattle.ob_base.specs.declared.seen.Seen.{Seen}
use Rattle.ob_base.specs.declared.seen.End.{End}
use Rattle.ob_base.specs.declared.seen.End.TheVariants.{Static, Whole, Cut}
use Rattle.ob_base.specs.declared.skeleton.Skeleton.{Skeleton}
use Rattle.ob_base.specs.Counts.{Rises}
use Rattle.ob_base.specs.Refusals.{is_store_fault}
use Rattle.ob_store.specs.State.{StoreState}
use Rattle.ob_store.specs.Runs.{Later}
use Rattle.ob_vault.specs.State.{RevState, World}
use Rattle.ob_vault.specs.Calls.{EndsRead}
use Rattle.ob_vault.specs.Tied.{Untampered, EndsAt}
use Rattle.ob_mutate.specs.Mutating.{StaysStored}
use Rattle.ob_script.specs.Saved.{left_then, run_next, run_script}
use Rattle.ob_mean.specs.Lawful.{height_at}
use Rattle.ob_mean.specs.Replay.{draws_taken, is_access}
use Rattle.ob_mean.specs.Verdict.{Draws, ended as seen_to}
use Rattle.ob_oram.specs.declared.fault.OramErr.{OramErr}
use Rattle.ob_oram.specs.declared.fault.OramErr.TheVariants as OramErrs
use Rattle.ob_flat.specs.declared.fault.OpErr.{OpErr}
use Rattle.ob_flat.specs.declared.fault.OpErr.TheVariants as OpErrs
use Rattle.ob_mutate.specs.declared.inserting.Inserted.{Inserted as InsertedAs}
use Rattle.ob_mutate.specs.declared.inserting.Inserted.TheVariants.{Done, Duplicate, Full}
use Rattle.ob_tables.specs.declared.engine.Engine.{Engine}
use Rattle.ob_verdict.specs.declared.outcome.Outcome.{Outcome}
use Rattle.ob_verdict.specs.declared.outcome.Outcome.TheVariants.{Inserted, Rows, Refused}
use Rattle.ob_tables.specs.Agreeing.{Agrees, AreDraws, engine_start, opened_from, replaced_of, world_of}
use Rattle.ob_select.specs.Settings.{IsFree}
use Rattle.ob_select.specs.Opening.{Opens}
use Rattle.ob_tables.specs.Leaves.{MovesLeaves}
use Rattle.ob_tables.specs.Refusals.{refused_end}
use Rattle.ob_verdict.specs.Outcomes.{by_fault}

-- the answer, or the stop, that an error of a pass makes
abbrev pub answer_of : OpErr → Result Outcome RunStop
answer_of OpErrs.Failed = Ok (Refused Refusal.StoreFault)
answer_of (OpErrs.Tampered region place) = Err (Tampered region place)
answer_of OpErrs.Sink = Err SinkFault
answer_of OpErrs.NoMemory = Err NoMemory

-- the stop that an access of an index makes which gives up
abbrev pub stop_of : OramErr → RunStop
stop_of OramErrs.Failed = StoreFault
stop_of (OramErrs.Tampered region place) = Tampered region place
stop_of OramErrs.StashFull = StashFull

-- the answer to an INSERT into a flat table
abbrev pub inserted_as : InsertedAs → Outcome
inserted_as Done = Inserted
inserted_as Duplicate = Refused Refusal.Duplicate
inserted_as Full = Refused Refusal.Full

-- a statement is refused before any access exactly where the meaning says so
abbrev pub RefusedEarly : Option Refusal → Result Outcome RunStop → Seen → Type 0
RefusedEarly (Some r) result seen = (result ≡ Ok (Refused r)) × (seen ≡ seen_to Static)
RefusedEarly None result seen = seen.end ≡ Static → ⊥

abbrev pub is_stop : {T E : Type 0} → Result T E → Bool
is_stop (Ok x) = false
is_stop (Err e) = true

-- whether it is the store that failed
abbrev pub is_fault : Outcome → Bool
is_fault (Refused r) = is_store_fault r
is_fault _ = false

-- how a statement of n accesses ends that is answered so: it is cut, after those that it asked, exactly where it was
-- stopped or the store failed
abbrev pub outcome_end : Outcome → (n : ℕ) → End
outcome_end (Refused r) n = refused_end r n
outcome_end _ n = Whole

abbrev pub result_end : Result Outcome RunStop → (n : ℕ) → End
result_end (Ok outcome) n = outcome_end outcome n
result_end (Err stop) n = Cut n

-- the store's faults rose exactly where the answer is that it failed; a session that ends as tampered ends with the
-- read of that place, and a changed block was read only there, or its tag fits; a statement asks no keeper, so none ends as
-- one whose keeper failed
abbrev pub RunCause : Result Outcome RunStop → World → World → Type 0
RunCause (Ok outcome) old new =
    by_fault (is_fault outcome) (Rises old.store.faults new.store.faults) (new.store.faults ≡ old.store.faults) × (Untampered old → Untampered new)
RunCause (Err (Tampered q x)) old new = (new.store.faults ≡ old.store.faults) × EndsRead q x new × (Untampered old → Untampered new ⊎ EndsAt q x new)
RunCause (Err SinkFault) old new = (new.store.faults ≡ old.store.faults) × (Untampered old → Untampered new)
RunCause (Err NoMemory) old new = (new.store.faults ≡ old.store.faults) × (Untampered old → Untampered new)
RunCause (Err StoreFault) old new = Rises old.store.faults new.store.faults × (Untampered old → Untampered new)
RunCause (Err StashFull) old new = (new.store.faults ≡ old.store.faults) × (Untampered old → Untampered new)
RunCause (Err KeeperFault) old new = ⊥

-- the stops that come in an access of an index alone: the store failed in it, or left more rows than the stash has slots
abbrev pub stops_access : Result Outcome RunStop → Bool
stops_access (Err StoreFault) = true
stops_access (Err StashFull) = true
stops_access _ = false

-- the answer is that the store failed
abbrev pub IsFaulted : Result Outcome RunStop → Type 0
IsFaulted (Ok outcome) = IsTrue (is_fault outcome)
IsFaulted (Err stop) = ⊥

-- what lasts where the session goes on: the engine and the store belong together, and what is public is this
pub record GoesOn {R : Type 0} (state : R → RevState) (skeleton : Skeleton) (after : Public)
    (old new : Engine R) (t : StoreState) : Type 0 where
  pub agrees : Agrees state new t
  pub public : new.public ≡ after
  pub lives : new.ended ≡ false
  -- it drew as many numbers as its statement does
  pub drawn : (d : Draws) → AreDraws old d
      → AreDraws new (record d { drawn = d.drawn + draws_taken old.public skeleton new.seen.end })

abbrev pub Continues : {R : Type 0} → (R → RevState) → Skeleton → (after : Public) → Result Outcome RunStop
    → Engine R → Engine R → StoreState → Type 0
Continues state skeleton after (Ok outcome) old new t = GoesOn state skeleton after old new t
Continues state skeleton after (Err stop) old new t = new.ended ≡ true

-- a region that a statement left lies in the store as it did, and the vault has forgotten it
pub record LeftBehind {R : Type 0} (state : R → RevState) (q : ℕ) (s : StoreState) (new : Engine R)
    (t : StoreState) : Type 0 where
  pub stored : StaysStored q s t
  pub forgotten : (state new.vault.revs).live q ≡ None

-- what a statement did: exactly these accesses, and then this is public; all rows of the room are free again, and one at
-- least was open where a block was read or written
pub record RanAs {R : Type 0} (state : R → RevState) (skeleton : Skeleton) (script : List Access) (after : Public)
    (result : Result Outcome RunStop) (old : Engine R) (s : StoreState) (new : Engine R) (t : StoreState) : Type 0 where
  pub asked : t.asked ≡ s.asked ++ script
  pub later : Later s t
  pub keys : new.vault.keys ≡ old.vault.keys
  pub start : engine_start new ≡ engine_start old
  pub from_closing : opened_from new ≡ opened_from old
  pub ends : new.seen.end ≡ result_end result (length t.asked - length s.asked)
  pub asks : IsFaulted result → length s.asked < length t.asked
  pub cause : RunCause result (world_of state old s) (world_of state new t)
  pub room : IsFree old.public new.room
  pub opened : Opens script old.room.high new.room.high
  pub leaves : (d : Draws) → AreDraws old d → MovesLeaves d (draws_taken old.public skeleton new.seen.end)
      (height_at old.public skeleton) old.indexes.items new.seen.leaf new.ended new.indexes.items
  pub goes_on : Continues state skeleton after result old new t
  -- the region that it leaves stays in the store, and what was left before it waits as it did
  pub stays : (q : ℕ) → left_then old.public skeleton new.seen.end ≡ Some q
      → LeftBehind state q s new t
  pub replaced : replaced_of new ≡ replaced_of old
  -- where tables are saved nothing has changed of what is kept of the regions that there were
  pub kept : old.public.save ≡ true → (q : ℕ) → q < old.vault.next → t.kept q ≡ s.kept q
  pub indexed : stops_access result ≡ true → is_access old.public skeleton ≡ true

-- as the engine does it: the accesses, and what is public, follow from the statement and what is seen of it
abbrev pub RanStatement : {R : Type 0} → (R → RevState) → Skeleton → Result Outcome RunStop
    → Engine R → StoreState → Engine R → StoreState → Type 0
RanStatement state skeleton result old s new t =
    RanAs state skeleton (run_script old.public skeleton new.seen) (run_next old.public skeleton new.seen)
    result old s new t

-- a stop by the sink comes only where a call of the emitter failed, and always where one did
abbrev pub SinkStops : Result Outcome RunStop → ℕ → ℕ → Type 0
SinkStops (Ok outcome) old new = new ≡ old
SinkStops (Err SinkFault) old new = Rises old new
SinkStops (Err (Tampered region place)) old new = new ≡ old
SinkStops (Err NoMemory) old new = new ≡ old
SinkStops (Err StoreFault) old new = new ≡ old
SinkStops (Err StashFull) old new = new ≡ old
SinkStops (Err KeeperFault) old new = new ≡ old

-- an answer that is no rows
abbrev pub HasNoRows : Outcome → Type 0
HasNoRows (Rows k) = ⊥
HasNoRows _ = Unit {0}

-- what a statement may answer that emits nothing, and meets no emitter
abbrev pub IsSilent : Result Outcome RunStop → Type 0
IsSilent (Ok outcome) = HasNoRows outcome
IsSilent (Err SinkFault) = ⊥
IsSilent (Err (Tampered region place)) = Unit {0}
IsSilent (Err NoMemory) = Unit {0}
IsSilent (Err StoreFault) = Unit {0}
IsSilent (Err StashFull) = Unit {0}
IsSilent (Err KeeperFault) = Unit {0}
