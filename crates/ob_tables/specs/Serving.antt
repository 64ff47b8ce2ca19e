-- What a call of the engine does.
use Rattle.std.specs.Prelude.{◌≡◌, ◌⊎◌, ◌-◌, ℕ, false, List, [], ◌++◌, length, Some, Result, Err, IfOk, IfErr}
use Rattle.ob_tables.specs.declared.stop.RunStop.{RunStop}
use Rattle.ob_tables.specs.declared.stop.RunStop.TheVariants.{KeeperFault, NoMemory, SinkFault, StashFull, StoreFault, Tampered}
use Rattle.ob_base.specs.declared.seen.End.TheVariants.{Static, AfterCount}
use Rattle.ob_base.specs.Events.{Event}
use Rattle.ob_store.specs.State.{FalseRead, StoreState}
use Rattle.ob_vault.specs.State.{RevState}
use Rattle.ob_vault.specs.Tied.{ReadsIn}
use Rattle.ob_sql.specs.declared.stmt.Stmt.{Stmt}
use Rattle.ob_sql.specs.Skeleton.{skeleton}
use Rattle.ob_mean.specs.Lawful.{Lawful}
use Rattle.ob_mean.specs.Verdict.{Draws, Tables, is_full, next_draw, verdict, ended as seen_to}
use Rattle.ob_tables.specs.declared.engine.Engine.{Engine}
use Rattle.ob_verdict.specs.declared.outcome.Outcome.{Outcome}
use Rattle.ob_tables.specs.Agreeing.{AreDraws, count_of, world_of}
use Rattle.ob_tables.specs.Indexed.{FillsStash}
use Rattle.ob_tables.specs.Running.{RanStatement, RefusedEarly, SinkStops, IsSilent}
use Rattle.ob_verdict.specs.Outcomes.{refusal_now, Emits, MayEmit, Partly}
use Rattle.ob_select.specs.Memory.{HasHalted}
use Rattle.ob_tables.specs.Memory.{LacksMemory}
use Rattle.ob_tables.specs.Telling.{KeepsSealed, ReadsTrue, ReadsTrueUntil, SeenCut, StopsFull, Told, is_refused, IsNotTampered, Emitted, answer_labels, meant_script}

-- what an answer emitted
pub record Answered {R E : Type 0} (state : R → RevState) (grew : E → E → List Event → Type 0)
    (stmt : Stmt) (outcome : Outcome) (old : Engine R) (s t : StoreState) (out_old out_new : E) : Type 0 where
  pub events : List Event
  pub took : grew out_old out_new events
  pub emits : Emits stmt (answer_labels stmt old.public) outcome events
  pub told : (tables : Tables) → ReadsTrue state old s t tables
      → Emitted stmt old.public (count_of old s) tables outcome events

-- until a stop the emitter took these events, and its output ends within them where it failed; an access that gives up comes
-- before the first, and so does a keeper that fails
abbrev pub StopsEmission : {E : Type 0} → (grew cut : E → E → List Event → Type 0) → RunStop → (out_old out_new : E) → List Event → Type 0
StopsEmission grew cut SinkFault out_old out_new events = cut out_old out_new events
StopsEmission grew cut (Tampered region place) out_old out_new events = grew out_old out_new events
StopsEmission grew cut NoMemory out_old out_new events = grew out_old out_new events ⊎ cut out_old out_new events
StopsEmission grew cut StoreFault out_old out_new events = grew out_old out_new events × (events ≡ [])
StopsEmission grew cut StashFull out_old out_new events = grew out_old out_new events × (events ≡ [])
StopsEmission grew cut KeeperFault out_old out_new events = grew out_old out_new events × (events ≡ [])

-- what was emitted until a stop
pub record Stopped {R E : Type 0} (state : R → RevState) (grew cut : E → E → List Event → Type 0)
    (stmt : Stmt) (stop : RunStop) (old : Engine R) (s : StoreState) (new : Engine R) (t : StoreState)
    (out_old out_new : E) : Type 0 where
  pub events : List Event
  pub ends : StopsEmission grew cut stop out_old out_new events
  pub told : (tables : Tables) → ReadsTrueUntil state old s new t tables
      → Partly (answer_labels stmt old.public) (verdict old.public (count_of old s) tables stmt) events

-- what is known of a statement by its meaning, where these others were served with it
pub record Means {R : Type 0} (state : R → RevState) (stmt : Stmt) (owed : List Stmt)
    (result : Result Outcome RunStop) (old : Engine R) (s : StoreState) (new : Engine R) (t : StoreState) : Type 0 where
  -- the answer, what is seen and the tables afterwards are those of the statement over the tables before, by the numbers that
  -- are drawn next
  pub told : (tables : Tables) (d : Draws) → AreDraws old d → ReadsTrue state old s t tables
      → IfOk result (λ outcome. Told state stmt owed d tables outcome old s new t)
  -- where it is answered no stash is full
  pub room : (tables : Tables) (d : Draws) → AreDraws old d → ReadsTrue state old s t tables
      → IfOk result (λ outcome. is_full d old.public (count_of old s) tables stmt ≡ false)
  pub honest : (tables : Tables) → ReadsTrue state old s t tables → IfErr result IsNotTampered
  -- so is what is seen until a stop
  pub held : (tables : Tables) (d : Draws) → AreDraws old d → ReadsTrueUntil state old s new t tables
      → IfErr result (λ stop. SeenCut (is_refused stop) d stmt tables old s new t)
  -- a stop at a full stash is where the meaning has one
  pub full : (tables : Tables) (d : Draws) → AreDraws old d → ReadsTrueUntil state old s new t tables
      → IfErr result (λ stop. StopsFull d old.public (count_of old s) tables stmt
      (length t.asked - length s.asked) stop)
  -- the first changed block that is read is one that the statement over the tables before reads too
  pub begun : (tables : Tables) (d : Draws) → AreDraws old d → ReadsTrue state old s s tables → (lie : FalseRead)
      → t.lie ≡ Some lie
      → ReadsIn lie (s.asked ++ meant_script d old.public (count_of old s) tables stmt)

-- a statement was carried out
pub record Serves {R E : Type 0} (state : R → RevState) (grew cut : E → E → List Event → Type 0)
    (faults : E → ℕ) (stmt : Stmt) (result : Result Outcome RunStop)
    (old : Engine R) (s : StoreState) (new : Engine R) (t : StoreState)
    (out_old out_new : E) : Type 0 where
  -- whatever the store answers, its accesses are those of what is public, its skeleton and what is seen of it
  pub ran : RanStatement state (skeleton stmt) result old s new t
  -- it is refused before any access exactly where its meaning says so
  pub early : RefusedEarly (refusal_now old.public (count_of old s) stmt) result new.seen
  -- what is seen may be seen
  pub lawful : Lawful old.public (count_of old s) stmt new.seen
  -- want of memory tells of no rows except those that are emitted
  pub memory : result ≡ Err NoMemory → LacksMemory old.public stmt new.seen s t (HasHalted cut out_old out_new)
  -- a stash is full only where an access read more rows than fit
  pub full : result ≡ Err StashFull → (d : Draws) → AreDraws old d → FillsStash (next_draw d)
      old.public (count_of old s) stmt old.indexes.items new.seen.leaf s.asked (world_of state new t)
  -- nothing comes to lie in clear
  pub seals : KeepsSealed state old s new t
  pub answered : IfOk result (λ outcome. Answered state grew stmt outcome old s t out_old out_new)
  pub stopped : IfErr result (λ stop. Stopped state grew cut stmt stop old s new t out_old out_new)
  pub sink : SinkStops result (faults out_old) (faults out_new)
  -- an emitter stops nothing except a SELECT
  pub emits : result ≡ Err SinkFault → MayEmit stmt
  pub means : Means state stmt [] result old s new t

-- the same of a statement that emits nothing and of which nothing is counted, once it isn't refused before any access
pub record ServesSilently {R : Type 0} (state : R → RevState) (stmt : Stmt) (owed : List Stmt)
    (result : Result Outcome RunStop) (old : Engine R) (s : StoreState) (new : Engine R) (t : StoreState) : Type 0 where
  pub ran : RanStatement state (skeleton stmt) result old s new t
  pub started : new.seen.end ≡ Static → ⊥
  pub uncounted : new.seen.end ≡ AfterCount → ⊥
  pub plain : new.seen ≡ seen_to new.seen.end
  pub silent : IsSilent result
  pub memory : result ≡ Err NoMemory → LacksMemory old.public stmt new.seen s t ⊥
  pub seals : KeepsSealed state old s new t
  pub means : Means state stmt owed result old s new t
