-- The engine's own share of a statement, except for what it emits: of one that is served by itself, and of a batch.
use Rattle.ob_exec.proofs.Words.{ap, AreDraws, changes_tables, count_of, Create, Delete, Draws, Engine, Err, Event, false, HasHalted, Insert, IsSome, Lawful, List, Outcome, refl, refusal_now, RefusedEarly, Result, RevState, RunStop, Serves, SinkFault, skeleton, StashFull, Stmt, StoreState, subst, true, Update, world_of, ℕ, [], ◌≡◌}
use Rattle.ob_mean.proofs.BatchLemmas.{begins}
use Rattle.ob_mean.specs.Batches.{inserts_into}
use Rattle.ob_mean.specs.Lawful.{selects_rows}
use Rattle.ob_mean.specs.Verdict.{next_draw}
use Rattle.ob_sql.specs.declared.stmt.Stmt.TheVariants.{Drop as DropTable, SelectRows as RowsStmt, SelectTotals as TotalsStmt}
use Rattle.ob_tables.proofs.LawfulLemmas.{lawful_now}
use Rattle.ob_tables.proofs.ToldLemmas.{refused_none}
use Rattle.ob_tables.specs.Indexed.{FillsStash}
use Rattle.ob_tables.specs.Memory.{LacksMemory}
use Rattle.ob_tables.specs.Batch.{AreBatch, ServesBatch}
use Rattle.ob_tables.specs.Running.{IsSilent, RanStatement, stops_access}
use Rattle.ob_tables.specs.Serving.{Means}
use Rattle.ob_tables.specs.Telling.{KeepsSealed}
use Rattle.ob_tables.specs.declared.stop.RunStop.TheVariants.{NoMemory}
use Rattle.ob_verdict.specs.Outcomes.{MayEmit}
use Rattle.ob_exec.specs.Ran.{ShowsNothing}

pub record Share {R : Type 0} (state : R → RevState) (stmt : Stmt) (owed : List Stmt) (Halts : Type 0) (result : Result Outcome RunStop) (old : Engine R) (s : StoreState) (new : Engine R) (t : StoreState) : Type 0 where
  pub ran : RanStatement state (skeleton stmt) result old s new t
  pub early : RefusedEarly (refusal_now old.public (count_of old s) stmt) result new.seen
  pub lawful : Lawful old.public (count_of old s) stmt new.seen
  pub memory : result ≡ Err NoMemory → LacksMemory old.public stmt new.seen s t Halts
  pub full : result ≡ Err StashFull → (d : Draws) → AreDraws old d → FillsStash (next_draw d) old.public (count_of old s) stmt old.indexes.items new.seen.leaf s.asked (world_of state new t)
  pub emits : result ≡ Err SinkFault → MayEmit stmt
  pub seals : KeepsSealed state old s new t
  pub means : Means state stmt owed result old s new t
  pub shows : old.public.save ≡ true → changes_tables (skeleton stmt) ≡ true → ShowsNothing result new.seen

-- a statement that is served by itself
pub share_alone : {R E : Type 0} (state : R → RevState) (grew cut : E → E → List Event → Type 0) (faults : E → ℕ) (stmt : Stmt) (result : Result Outcome RunStop) (old : Engine R) (s : StoreState) (new : Engine R) (t : StoreState)
    (out_old out_new : E) → Serves state grew cut faults stmt result old s new t out_old out_new → (old.public.save ≡ true → changes_tables (skeleton stmt) ≡ true → ShowsNothing result new.seen)
    → Share state stmt [] (HasHalted cut out_old out_new) result old s new t
share_alone state grew cut faults stmt result old s new t out_old out_new serves shows = record {
  ran = serves.ran;
  early = serves.early;
  lawful = serves.lawful;
  memory = serves.memory;
  full = serves.full;
  emits = serves.emits;
  seals = serves.seals;
  means = serves.means;
  shows = shows;
}

-- a batch of INSERTs, of which no rows are counted
inserts_plain : (stmt : Stmt) → IsSome (inserts_into (skeleton stmt)) → selects_rows stmt ≡ false
inserts_plain (Insert table columns values) inserts = refl
inserts_plain other inserts = absurd (cc inserts)

pub share_batch : {R : Type 0} (state : R → RevState) (first : Stmt) (rest : List Stmt) (result : Result Outcome RunStop) (outcomes : List Outcome) (old : Engine R) (s : StoreState) (new : Engine R) (t : StoreState)
    → AreBatch old.public (count_of old s) first rest → ServesBatch state first rest result outcomes old s new t → Share state first rest ⊥ result old s new t
share_batch state first rest result outcomes old s new t batch serves =
    let p = old.public in
    let m = count_of old s in
    let one = serves.serves in
    let begun = begins p m first batch.begins in
    let early = refused_none (refusal_now p m first) result new.seen begun.accepted one.started in
    record {
      ran = one.ran;
      early = early;
      lawful = lawful_now p m first result new.seen s.asked t.asked (inserts_plain first begun.inserts) begun.flat one.plain one.uncounted early one.ran.asked one.ran.ends;
      memory = one.memory;
      full = λ is. let indexed = one.ran.indexed (ap stops_access is) in let flat = begun.flat in absurd (cc (indexed, flat));
      emits = λ is. absurd (subst (λ (r : Result Outcome RunStop). IsSilent r) is one.silent);
      seals = one.seals;
      means = one.means;
      shows = λ saves changes. record { silent = one.silent; plain = one.plain };
    }
