-- What a statement emitted, once its tables were saved, or couldn't be.
use Rattle.ob_exec.proofs.Words.{Answer, answer_labels, answered, changes_tables, count_of, Create, database, Delete, Emits, Engine, Err, Event, false, inl, Insert, is_fault, is_store_fault, KeeperFault, KeeperState, Later, List, None, none_before, Option, Outcome, ReadsTrue, refl, Refusal, RevState, RunStop, SavingCause, SinkFault, SinkStops, skeleton, Some, StashFull, Stmt, Stopped, StoreState, subst, Tables, true, Update, verdict, ℕ, [], ◌≡◌}
use Rattle.ob_mean.specs.Step.{accepted_answer}
use Rattle.ob_mean.specs.Verdict.{refusal}
use Rattle.ob_sql.specs.declared.stmt.Stmt.TheVariants.{Drop as DropTable, SelectRows as RowsStmt, SelectTotals as TotalsStmt}
use Rattle.ob_tables.proofs.ServeLemmas.{IsBare, bare_prints}
use Rattle.ob_tables.specs.Running.{HasNoRows}
use Rattle.ob_tables.specs.Serving.{Answered, StopsEmission}
use Rattle.ob_tables.specs.declared.stop.RunStop.TheVariants.{NoMemory, StoreFault, Tampered}
use Rattle.ob_verdict.specs.declared.outcome.Outcome.TheVariants.{Created, Inserted, Changed, Deleted, Dropped, Rows, Refused}
use Rattle.ob_exec.proofs.SavedRuns.{whole_of}

-- nothing was emitted of it
none_emitted : (stmt : Stmt) (labels : List (List ℕ)) (outcome : Outcome) (events : List Event) → HasNoRows outcome → is_fault outcome ≡ false → Emits stmt labels outcome events → events ≡ []
none_emitted stmt labels (Refused r) events silent own emits = whole_of (is_store_fault r) _ _ own emits
none_emitted stmt labels (Rows k) events silent own emits = absurd silent
none_emitted stmt labels other events silent own emits = emits

-- the answer to a change is no rows
bare_change : (tables : Tables) (stmt : Stmt) → changes_tables (skeleton stmt) ≡ true → IsBare (accepted_answer (database tables) stmt)
bare_change tables (RowsStmt q) changes = absurd (cc changes)
bare_change tables (TotalsStmt q) changes = absurd (cc changes)
bare_change tables other changes = tt

bare_refused : (o : Option Refusal) (answer : Answer) → IsBare answer → IsBare (answered o answer)
bare_refused None answer bare = bare
bare_refused (Some r) answer bare = tt

-- what was read truly by then was so before
pub reads_before : {R : Type 0} (state : R → RevState) (old : Engine R) (s s1 t : StoreState) → Later s1 t → (tables : Tables) → ReadsTrue state old s t tables → ReadsTrue state old s s1 tables
reads_before state old s s1 t later tables reads = record { tells = reads.tells; held = reads.held; nolie = none_before s1 t later reads.nolie }

module _ {R E : Type 0} (state : R → RevState) (grew cut : E → E → List Event → Type 0) (stmt : Stmt) (outcome : Outcome) (old : Engine R) (s s1 t : StoreState) (out_old out_new : E)
    (answer : Answered state grew stmt outcome old s s1 out_old out_new) where
  pub answered_then : Later s1 t → Answered state grew stmt outcome old s t out_old out_new
  answered_then later = record {
    events = answer.events;
    took = answer.took;
    emits = answer.emits;
    told = λ tables reads. answer.told tables (reads_before state old s s1 t later tables reads);
  }

  -- the tables of a change could not be saved
  module _ (changes : changes_tables (skeleton stmt) ≡ true) (silent : HasNoRows outcome) (own : is_fault outcome ≡ false) (mid new : Engine R) (k0 k1 : KeeperState) where
    ends_stop : (r : RunStop) → SavingCause r mid s1 t k0 k1 → grew out_old out_new [] → StopsEmission grew cut r out_old out_new []
    ends_stop StoreFault cause took = (took, refl)
    ends_stop NoMemory cause took = inl took
    ends_stop KeeperFault cause took = (took, refl)
    ends_stop other cause took = absurd cause

    pub stopped_then : (stop : RunStop) → SavingCause stop mid s1 t k0 k1 → Stopped state grew cut stmt stop old s new t out_old out_new
    stopped_then stop cause =
        let p = old.public in
        let m = count_of old s in
        let none : answer.events ≡ [] = none_emitted stmt (answer_labels stmt p) outcome answer.events silent own answer.emits in
        record {
          events = [];
          ends = ends_stop stop cause (subst (λ (events : List Event). grew out_old out_new events) none answer.took);
          told = λ tables reads. record {
            whole = [];
            prints = bare_prints (answer_labels stmt p) (verdict p m tables stmt) (bare_refused (refusal p m tables stmt) (accepted_answer (database tables) stmt) (bare_change tables stmt changes));
            begun = ([], refl);
          };
        }

    pub sink_then : (old_fault new_fault : ℕ) → new_fault ≡ old_fault → (stop : RunStop) → SavingCause stop mid s1 t k0 k1 → SinkStops (Err stop) old_fault new_fault
    sink_then old_fault new_fault same SinkFault cause = absurd cause
    sink_then old_fault new_fault same StashFull cause = absurd cause
    sink_then old_fault new_fault same (Tampered q x) cause = absurd cause
    sink_then old_fault new_fault same other cause = same
