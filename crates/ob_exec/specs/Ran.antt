-- What a statement does after which tables are saved where they are to be, whatever it is answered.
use Rattle.std.specs.Prelude.{◌≡◌, ◌≢◌, ◌⊎◌, ◌&&◌, ◌+◌, ◌-◌, ◌^◌, ◌<◌, ◌≤◌, ◌++◌, ⊤, ℕ, Bool, true, false, List, [], None, Some, Result, Ok, Err, IfOk, IfErr, OnOk, OnErr, MatchResult, length}
use Rattle.ob_base.specs.Accesses.{makes, writes}
use Rattle.ob_base.specs.Counts.{Rises}
use Rattle.ob_base.specs.Events.{Event}
use Rattle.ob_base.specs.declared.access.Access.{Access}
use Rattle.ob_base.specs.declared.config.Public.{Public}
use Rattle.ob_reopen.specs.declared.mark.Mark.{Mark}
use Rattle.ob_base.specs.declared.seen.End.{End}
use Rattle.ob_base.specs.declared.seen.End.TheVariants.{Static, Whole, AfterCount, Batched, Cut}
use Rattle.ob_base.specs.declared.seen.Seen.{Seen}
use Rattle.ob_base.specs.declared.skeleton.Skeleton.{Skeleton}
use Rattle.ob_mean.specs.Lawful.{Lawful, height_at}
use Rattle.ob_mean.specs.Replay.{draws_taken, is_access}
use Rattle.ob_mean.specs.Verdict.{Draws, ended as seen_to, next_draw}
use Rattle.ob_reopen.specs.Keepers.{KeeperState}
use Rattle.ob_reopen.specs.Resting.{AcceptsClosings}
use Rattle.ob_script.specs.Saved.{left_by, saved_public}
use Rattle.ob_script.specs.Script.{is_saved, save_part, script, whole_script}
use Rattle.ob_script.specs.Trace.{next}
use Rattle.ob_select.specs.Memory.{AtEmission, AtMake, AtResult, HasHalted}
use Rattle.ob_select.specs.Opening.{Opens}
use Rattle.ob_select.specs.Selecting.{AcceptsRows}
use Rattle.ob_select.specs.Settings.{IsFree}
use Rattle.ob_sql.specs.Skeleton.{skeleton}
use Rattle.ob_sql.specs.declared.stmt.Stmt.{Stmt}
use Rattle.ob_store.specs.Runs.{Since}
use Rattle.ob_store.specs.State.{StoreState}
use Rattle.ob_vault.specs.Calls.{Seals}
use Rattle.ob_vault.specs.State.{RevState, World}
use Rattle.ob_vault.specs.Tied.{Untampered}
use Rattle.ob_verdict.specs.Outcomes.{MayEmit, refusal_now}
use Rattle.ob_verdict.specs.declared.outcome.Outcome.{Outcome}
use Rattle.ob_tables.specs.Agreeing.{AreDraws, count_of, engine_keys, engine_start, has_ended, high_of, indexes_of, opened_from, public_of, replaced_of, seen_of, world_of}
use Rattle.ob_tables.specs.Indexed.{FillsStash}
use Rattle.ob_tables.specs.Leaves.{MovesLeaves}
use Rattle.ob_tables.specs.Running.{Continues, IsFaulted, IsSilent, RanStatement, RefusedEarly, RunCause, SinkStops, result_end}
use Rattle.ob_tables.specs.Serving.{Answered, Means, Stopped}
use Rattle.ob_tables.specs.declared.engine.Engine.{Engine}
use Rattle.ob_tables.specs.declared.stop.RunStop.{RunStop}
use Rattle.ob_tables.specs.declared.stop.RunStop.TheVariants.{KeeperFault, NoMemory, SinkFault, StashFull, StoreFault, Tampered}
use Rattle.ob_exec.specs.Saving.{HoldsSaved, SavingCause}

-- ---- the engine's own share
-- it came to its end
abbrev pub is_whole : End → Bool
is_whole Static = false
is_whole Whole = true
is_whole AfterCount = false
is_whole Batched = false
is_whole (Cut n) = false

-- tables are saved after one that changes them and came to its end
abbrev pub is_saved_behind : Public → Skeleton → End → Bool
is_saved_behind p s end = is_whole end && is_saved p s

-- nothing is answered of rows, and nothing except its end is seen
pub record ShowsNothing (result : Result Outcome RunStop) (seen : Seen) : Type 0 where
  pub silent : IsSilent result
  pub plain : seen ≡ seen_to seen.end

-- ---- why a statement is stopped
-- the next closing would have a region, or a first write, whose number no mark may name
abbrev pub RunsOut : World → Type 0
RunsOut w =
    (2 ^ 63 ≤ w.vault.start.region + 1 + makes w.store.asked)
    ⊎ (2 ^ 63 ≤ w.vault.start.writes + writes w.store.asked + 1)

-- there is none left to save the tables, as they are to be
pub record LacksNumber (p : Public) (outline : Skeleton) (old new : World) : Type 0 where
  pub saved : is_saved p outline ≡ true
  pub faults : new.store.faults ≡ old.store.faults
  pub runs_out : RunsOut new

-- the cause of an answer or a stop: that of the engine's own share, but that the store may also have failed while tables were
-- saved, or no number was left for that, and that the keeper may have
abbrev pub ServedCause : Public → Skeleton → Result Outcome RunStop → (old new : World) → Type 0
ServedCause p outline (Ok outcome) old new = RunCause (Ok outcome) old new
ServedCause p outline (Err (Tampered region place)) old new =
    RunCause (Err (Tampered region place)) old new
ServedCause p outline (Err SinkFault) old new = RunCause (Err SinkFault) old new
ServedCause p outline (Err NoMemory) old new = RunCause (Err NoMemory) old new
ServedCause p outline (Err StoreFault) old new =
    (Rises old.store.faults new.store.faults ⊎ LacksNumber p outline old new)
    × (Untampered old → Untampered new)
ServedCause p outline (Err StashFull) old new = RunCause (Err StashFull) old new
ServedCause p outline (Err KeeperFault) old new =
    (new.store.faults ≡ old.store.faults) × (Untampered old → Untampered new)

-- the keeper's faults rose exactly where that is the stop
abbrev pub CountsKeeper : Result Outcome RunStop → (old new : KeeperState) → Type 0
CountsKeeper (Ok outcome) old new = new.faults ≡ old.faults
CountsKeeper (Err (Tampered region place)) old new = new.faults ≡ old.faults
CountsKeeper (Err SinkFault) old new = new.faults ≡ old.faults
CountsKeeper (Err NoMemory) old new = new.faults ≡ old.faults
CountsKeeper (Err StoreFault) old new = new.faults ≡ old.faults
CountsKeeper (Err StashFull) old new = new.faults ≡ old.faults
CountsKeeper (Err KeeperFault) old new = Rises old.faults new.faults

-- the store ends a session in an access of an index, or while tables are saved; a full stash does in an access alone, and a
-- keeper while they are saved
abbrev pub StopsWhere : Public → Skeleton → Result Outcome RunStop → Type 0
StopsWhere p outline (Ok outcome) = ⊤
StopsWhere p outline (Err (Tampered region place)) = ⊤
StopsWhere p outline (Err SinkFault) = ⊤
StopsWhere p outline (Err NoMemory) = ⊤
StopsWhere p outline (Err StoreFault) =
    (is_access p outline ≡ true) ⊎ (is_saved p outline ≡ true)
StopsWhere p outline (Err StashFull) = is_access p outline ≡ true
StopsWhere p outline (Err KeeperFault) = is_saved p outline ≡ true

-- want of memory stops a statement as it does the engine's own share, or after all of that, before its tables are saved
abbrev pub AtSaving : Public → Skeleton → (rest : List Access) → Type 0
AtSaving p outline rest =
    (is_saved p outline ≡ true) × (rest ≡ save_part p outline (left_by p outline))

pub record WantsMemory (p : Public) (stmt : Stmt) (seen : Seen) (s t : StoreState)
    (Halts : Type 0) : Type 0 where
  pub done : List Access
  pub rest : List Access
  pub split : done ++ rest ≡ whole_script p (skeleton stmt) seen
  pub asked : t.asked ≡ s.asked ++ done
  pub place : AtMake done ⊎ AtResult p stmt seen rest ⊎ (AtEmission p stmt seen rest × Halts)
      ⊎ AtSaving p (skeleton stmt) rest

-- tables weren't saved: they aren't to be after one like it, or it was refused or cut off before, or stopped
abbrev pub WasNotSaved : Public → Skeleton → Result Outcome RunStop → End → Type 0
WasNotSaved p outline (Ok outcome) end = is_saved_behind p outline end ≡ false
WasNotSaved p outline (Err stop) end = ⊤

-- ---- the whole of it
-- exactly these accesses, and then this is public; the engine takes the next statement, with nothing to discard, or has ended
pub record RanWhole {R : Type 0} (state : R → RevState) (outline : Skeleton)
    (result : Result Outcome RunStop) (old : Engine R) (s : StoreState) (new : Engine R)
    (t : StoreState) : Type 0 where
  pub asked : t.asked ≡ s.asked ++ script (public_of old) outline (seen_of new)
  pub later : Since s t
  pub keys : engine_keys new ≡ engine_keys old
  pub start : engine_start new ≡ engine_start old
  pub from_closing : is_saved (public_of old) outline ≡ false → opened_from new ≡ opened_from old
  pub ends : (seen_of new).end ≡ result_end result (length t.asked - length s.asked)
  pub asks : IsFaulted result → length s.asked < length t.asked
  pub cause : ServedCause (public_of old) outline result (world_of state old s)
      (world_of state new t)
  -- all rows of the room are free again, and one at least was open where a block was read or written
  pub room : IsFree (public_of old) new.room
  pub opened : Opens (script (public_of old) outline (seen_of new)) (high_of old) (high_of new)
  pub leaves : (d : Draws) → AreDraws old d
      → MovesLeaves d (draws_taken (public_of old) outline (seen_of new).end)
      (height_at (public_of old) outline) (indexes_of old) (seen_of new).leaf
      (has_ended new) (indexes_of new)
  pub goes_on : Continues state outline (next (public_of old) outline (seen_of new)) result
      old new t
  pub settled : OnOk result (replaced_of new ≡ None)
  -- of an engine whose tables are saved, where they weren't, nothing has changed of what is kept of the regions that there
  -- were: what rested for a mark goes on to rest
  pub kept : (public_of old).save ≡ true
      → WasNotSaved (public_of old) outline result (seen_of new).end
      → (q : ℕ) → q < (public_of old).next_region → t.kept q ≡ s.kept q
  pub stops : StopsWhere (public_of old) outline result

-- ---- the keeper
-- they were, or that stopped it, after the engine's own share, which was answered so and left this engine and this store
pub record WasSaved {R : Type 0} (state : R → RevState) (stmt : Stmt) (owed : List Stmt)
    (result : Result Outcome RunStop) (old : Engine R) (s : StoreState) (new : Engine R)
    (t : StoreState) (keeper_old keeper_new : KeeperState) : Type 0 where
  pub saved : is_saved (public_of old) (skeleton stmt) ≡ true
  pub outcome : Outcome
  pub engine : Engine R
  pub store : StoreState
  pub ran : RanStatement state (skeleton stmt) (Ok outcome) old s engine store
  pub whole : (seen_of engine).end ≡ Whole
  pub means : Means state stmt owed (Ok outcome) old s engine store
  pub later : Since store t
  -- then a closing is made
  pub public : OnOk result (public_of new ≡ saved_public (public_of engine))
  pub answered : MatchResult result (λ answer. answer ≡ outcome)
      (λ stop. SavingCause stop engine store t keeper_old keeper_new)
  -- a keeper that tells holds the mark of a closing under which the tables of this engine rest, or, where it was stopped,
  -- maybe the one that it held, and then nothing has changed of the regions that there were
  pub held : OnOk result ((mark : Mark) → keeper_old.held ≡ Some mark
      → HoldsSaved state engine store t keeper_new)
  pub stays : OnErr result ((mark : Mark) → keeper_old.held ≡ Some mark
      → (keeper_new.held ≡ Some mark) ⊎ HoldsSaved state engine store t keeper_new)
  pub kept : OnErr result ((q : ℕ) → q ≢ (public_of engine).next_region
      → t.kept q ≡ store.kept q)

-- the keeper is as it was where tables weren't saved
abbrev pub KeeperBehind : {R : Type 0} → (R → RevState) → Stmt → (owed : List Stmt)
    → Result Outcome RunStop → (old : Engine R) → StoreState → (new : Engine R) → StoreState
    → (keeper_old keeper_new : KeeperState) → Type 0
KeeperBehind state stmt owed result old s new t keeper_old keeper_new =
    ((keeper_new ≡ keeper_old)
    × WasNotSaved (public_of old) (skeleton stmt) result (seen_of new).end)
    ⊎ WasSaved state stmt owed result old s new t keeper_old keeper_new

-- ---- a statement was carried out
-- except for what it emits: with it those that are owed were served, in its accesses, and an emitter wanted memory only where
-- it halts
pub record CarriedOut {R : Type 0} (state : R → RevState) (stmt : Stmt) (owed : List Stmt)
    (Halts : Type 0) (result : Result Outcome RunStop) (old : Engine R) (s : StoreState)
    (new : Engine R) (t : StoreState) (keeper_old keeper_new : KeeperState) : Type 0 where
  -- whatever the store answers, its accesses are those of what is public, its skeleton and what is seen of it
  pub ran : RanWhole state (skeleton stmt) result old s new t
  -- it is refused before any access exactly where its meaning says so
  pub early : RefusedEarly (refusal_now (public_of old) (count_of old s) stmt) result (seen_of new)
  -- what is seen may be seen
  pub lawful : Lawful (public_of old) (count_of old s) stmt (seen_of new)
  -- want of memory tells of no rows except those that are emitted
  pub memory : result ≡ Err NoMemory → WantsMemory (public_of old) stmt (seen_of new) s t Halts
  -- a stash is full only where an access read more rows than fit
  pub full : result ≡ Err StashFull → (d : Draws) → AreDraws old d → FillsStash (next_draw d)
      (public_of old) (count_of old s) stmt (indexes_of old) (seen_of new).leaf s.asked
      (world_of state new t)
  -- an emitter stops nothing except a SELECT
  pub emits : result ≡ Err SinkFault → MayEmit stmt
  -- nothing comes to lie in clear
  pub seals : (good : ℕ → List ℕ → Bool) → AcceptsRows good (public_of old).pack
      → AcceptsRows good 1 → ((public_of old).save ≡ true → AcceptsClosings good)
      → Seals good (world_of state old s) (world_of state new t)
  pub means : Means state stmt owed result old s new t
  -- what becomes of the tables after it
  pub keeper : KeeperBehind state stmt owed result old s new t keeper_old keeper_new
  pub counts : CountsKeeper result keeper_old keeper_new
  pub drawn : keeper_new.drawn ≡ keeper_old.drawn

-- and what it emitted
pub record Ran {R E : Type 0} (state : R → RevState) (grew cut : E → E → List Event → Type 0)
    (faults : E → ℕ) (stmt : Stmt) (result : Result Outcome RunStop)
    (old : Engine R) (s : StoreState) (new : Engine R) (t : StoreState)
    (out_old out_new : E) (keeper_old keeper_new : KeeperState) : Type 0 where
  pub carried : CarriedOut state stmt [] (HasHalted cut out_old out_new) result old s new t
      keeper_old keeper_new
  -- the store still lists its accesses
  pub log : t.let_go ≡ s.let_go
  pub answered : IfOk result (λ outcome. Answered state grew stmt outcome old s t out_old out_new)
  pub stopped : IfErr result (λ stop.
      Stopped state grew cut stmt stop old s new t out_old out_new)
  pub sink : SinkStops result (faults out_old) (faults out_new)
