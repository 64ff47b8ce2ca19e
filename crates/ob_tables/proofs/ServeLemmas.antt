-- A statement, from what its kind says of it.
use Rattle.ob_tables.proofs.Words.{accepted_answer, Agrees, Answer, answer_labels, ap, AreHeld, AreInPlace, Bool, by_fault, Changed, count_of, Created, database, Deleted, Draws, Dropped, Engine, Err, Event, false, followed, HasNoRows, IfOk, inl, is_access, is_fault, is_store_fault, IsSilent, List, None, Ok, Option, Outcome, outcome_of, refl, Refusal, refusal, refusal_now, Refused, Result, RevState, RunStop, selects_rows, Serves, ServesSilently, settle, settled, skeleton, Some, Static, Stmt, StoreState, subst, sym, Tables, true, verdict, world_of, ℕ, [], ◌∙◌, ◌≡◌}
use Rattle.std.specs.Prelude.{IfErr}
use Rattle.ob_tables.specs.declared.stop.RunStop.TheVariants as Stops
use Rattle.ob_mean.specs.declared.answer.Answer.TheVariants as A
use Rattle.ob_sql.specs.declared.stmt.Stmt.TheVariants.{Create, Insert, Update, Delete, Drop as DropTable, SelectRows as RowsStmt, SelectTotals as TotalsStmt}
use Rattle.ob_mean.specs.Prints.{Prints, Unfinished}
use Rattle.ob_mean.specs.Step.{answered}
use Rattle.ob_mean.specs.Verdict.{ended as seen_to}
use Rattle.ob_mean.proofs.VerdictLemmas.{refused_early, seen_early}
use Rattle.ob_verdict.specs.declared.outcome.Outcome.TheVariants.{Inserted, Rows}
use Rattle.ob_tables.specs.Running.{RefusedEarly, SinkStops, stops_access}
use Rattle.ob_verdict.specs.Outcomes.{Emits, EmitsUntilFault}
use Rattle.ob_tables.specs.Serving.{StopsEmission, Stopped}
use Rattle.ob_tables.proofs.MemoryLemmas.{lacks_less}
use Rattle.ob_tables.specs.Telling.{Represents}
use Rattle.ob_tables.proofs.LawfulLemmas.{lawful_now, lawful_refused}
use Rattle.ob_tables.proofs.RunLemmas.{of_other, ran_refused}
use Rattle.ob_tables.proofs.SealLemmas.{keeps_none}
use Rattle.ob_tables.proofs.PlainLemmas.{refused_room, refused_settles}
use Rattle.ob_tables.proofs.ToldLemmas.{early_held, early_is, refused_none}

-- the same, of an equal answer and an equal engine
pub serves_same : {R E : Type 0} (state : R → RevState) (grew cut : E → E → List Event → Type 0) (faults : E → ℕ) (stmt : Stmt) (old : Engine R) (s t : StoreState) (out_old out_new : E)
    (r q : Result Outcome RunStop) (new same : Engine R) → r ≡ q → new ≡ same → Serves state grew cut faults stmt q old s same t out_old out_new → Serves state grew cut faults stmt r old s new t out_old out_new
serves_same {R} {E} state grew cut faults stmt old s t out_old out_new r q new same answer is serves =
    subst (λ (e : Engine R). Serves state grew cut faults stmt r old s e t out_old out_new) (sym is)
    (subst (λ (a : Result Outcome RunStop). Serves state grew cut faults stmt a old s same t out_old out_new) (sym answer) serves)

-- ---- nothing is emitted
-- an answer that is no rows
abbrev pub IsBare : Answer → Type 0
IsBare (A.Rows rows) = ⊥
IsBare other = Unit {0}

pub bare_prints : (labels : List (List ℕ)) (a : Answer) → IsBare a → Prints labels a []
bare_prints labels (A.Rows rows) bare = absurd bare
bare_prints labels other bare = refl

bare_unfinished : (labels : List (List ℕ)) (a : Answer) → IsBare a → Unfinished labels a []
bare_unfinished labels (A.Rows rows) bare = absurd bare
bare_unfinished labels other bare = refl

-- what is no rows of an accepted statement is none of a refused one
bare_answered : (r : Option Refusal) (a : Answer) → IsBare a → IsBare (answered r a)
bare_answered None a bare = bare
bare_answered (Some r) a bare = tt

either : (failed : Bool) (cut whole : Type 0) → cut → whole → by_fault failed cut whole
either true cut whole off is = off
either false cut whole off is = is

-- so is what an answer emits that is no rows, whatever its labels are
none_until : (stmt : Stmt) (labels : List (List ℕ)) → EmitsUntilFault stmt labels []
none_until (RowsStmt select) labels = record { rows = []; are_rows = refl; is = inl refl }
none_until other labels = refl

pub silent_emits : (stmt : Stmt) (labels : List (List ℕ)) (outcome : Outcome) → HasNoRows outcome → Emits stmt labels outcome []
silent_emits stmt labels (Refused r) silent = either (is_store_fault r) _ _ (none_until stmt labels) refl
silent_emits stmt labels (Rows k) silent = absurd silent
silent_emits stmt labels other silent = refl

-- an emitter did not fail where nothing was emitted
silent_sink : (r : Result Outcome RunStop) (n : ℕ) → IsSilent r → SinkStops r n n
silent_sink (Err Stops.SinkFault) n silent = absurd silent
silent_sink other n silent = refl

silent_meets : {P : Type 0} (r : Result Outcome RunStop) → IsSilent r → r ≡ Err Stops.SinkFault → P
silent_meets r silent is = absurd (subst (λ (x : Result Outcome RunStop). IsSilent x) is silent)

silent_answered : {P : Outcome → Type 0} (r : Result Outcome RunStop) → IsSilent r → ((o : Outcome) → HasNoRows o → P o) → IfOk r P
silent_answered (Ok o) silent h = h o silent
silent_answered (Err e) silent h = tt

silent_stopped : {E : Type 0} (grew cut : E → E → List Event → Type 0) (P : RunStop → Type 0) (out : E) → grew out out [] → (r : Result Outcome RunStop) → IsSilent r
    → ((stop : RunStop) → StopsEmission grew cut stop out out [] → P stop) → IfErr r P
silent_stopped grew cut P out starts (Ok x) silent h = tt
silent_stopped grew cut P out starts (Err Stops.SinkFault) silent h = absurd silent
silent_stopped grew cut P out starts (Err (Stops.Tampered region place)) silent h = h (Stops.Tampered region place) starts
silent_stopped grew cut P out starts (Err Stops.NoMemory) silent h = h Stops.NoMemory (inl starts)
silent_stopped grew cut P out starts (Err Stops.StoreFault) silent h = h Stops.StoreFault (starts, refl)
silent_stopped grew cut P out starts (Err Stops.StashFull) silent h = h Stops.StashFull (starts, refl)
silent_stopped grew cut P out starts (Err Stops.KeeperFault) silent h = h Stops.KeeperFault (starts, refl)

module _ {R E : Type 0} (state : R → RevState) (grew cut : E → E → List Event → Type 0) (faults : E → ℕ) (stmt : Stmt) (old : Engine R) (s : StoreState) (out : E) (starts : grew out out []) where
  -- a statement that emits nothing and of which nothing is counted
  pub serves_silently : (result : Result Outcome RunStop) (new : Engine R) (t : StoreState) → refusal_now old.public (count_of old s) stmt ≡ None → is_access old.public (skeleton stmt) ≡ false → selects_rows stmt ≡ false
      → ((tables : Tables) → IsBare (accepted_answer (database tables) stmt)) → ServesSilently state stmt [] result old s new t
      → Serves state grew cut faults stmt result old s new t out out
  serves_silently result new t now flat uncounted bare serves =
      let early = refused_none (refusal_now old.public (count_of old s) stmt) result new.seen now serves.started in
      let no_rows : (tables : Tables) → IsBare (verdict old.public (count_of old s) tables stmt) = λ tables. bare_answered (refusal old.public (count_of old s) tables stmt) _ (bare tables) in
      let labels = answer_labels stmt old.public in
      record {
        ran = serves.ran;
        early = early;
        lawful = lawful_now old.public (count_of old s) stmt result new.seen s.asked t.asked uncounted flat serves.plain serves.uncounted early serves.ran.asked serves.ran.ends;
        memory = λ is. lacks_less (λ none. absurd none) (serves.memory is);
        full = λ is. let indexed = serves.ran.indexed (ap stops_access is) in absurd (cc (indexed, flat));
        seals = serves.seals;
        answered = silent_answered result serves.silent (λ outcome silent. record {
          events = [];
          took = starts;
          emits = silent_emits stmt labels outcome silent;
          told = λ tables reads. either (is_fault outcome) _ _ (bare_unfinished labels _ (no_rows tables)) (bare_prints labels _ (no_rows tables));
        });
        stopped = silent_stopped grew cut (λ stop. Stopped state grew cut stmt stop old s new t out out) out starts result serves.silent (λ stop ends. record {
          events = [];
          ends = ends;
          told = λ tables reads. record { whole = []; prints = bare_prints labels _ (no_rows tables); begun = ([], refl) };
        });
        sink = silent_sink result (faults out) serves.silent;
        emits = λ is. silent_meets result serves.silent is;
        means = serves.means;
      }

  -- a refusal before any access
  pub serves_refused : (agrees : Agrees state old s) → old.ended ≡ false → (r : Refusal) → refusal_now old.public (count_of old s) stmt ≡ Some r
      → Serves state grew cut faults stmt (Ok (Refused r)) old s (record old { seen = seen_to Static }) s out out
  serves_refused agrees lives r now =
      let new = record old { seen = seen_to Static } in
      let is_early = early_is old.public (count_of old s) stmt r now in
      let labels = answer_labels stmt old.public in
      let refused : (tables : Tables) → Represents state old s tables → refusal old.public (count_of old s) tables stmt ≡ Some r = λ tables held.
      refused_early old.public (count_of old s) tables stmt r (early_held old.public (count_of old s) stmt tables old.indexes.items (world_of state old s) (Some r) held.held now) in
      let verdict_is : (tables : Tables) → Represents state old s tables → verdict old.public (count_of old s) tables stmt ≡ A.Refused r = λ tables held.
      ap (λ (o : Option Refusal). answered o (accepted_answer (database tables) stmt)) (refused tables held) in
      let stays : (tables : Tables) (d : Draws) → Represents state old s tables → settle d old.public (count_of old s) tables stmt ≡ tables = λ tables d held.
      refused_settles d old.public (count_of old s) tables stmt r (early_held old.public (count_of old s) stmt tables old.indexes.items (world_of state old s) (Some r) held.held now)
      ∙ ap (λ (o : Option Refusal). followed o (settled d old.public tables stmt) tables) (refused tables held) in
      record {
        ran = ran_refused state (skeleton stmt) old s agrees lives r is_early;
        early = subst (λ (o : Option Refusal). RefusedEarly o (Ok (Refused r)) (seen_to Static)) (sym now) (refl, refl);
        lawful = lawful_refused old.public (count_of old s) stmt r now;
        memory = λ is. absurd (cc is);
        full = λ is. absurd (cc is);
        seals = keeps_none state old s new refl;
        answered = record {
          events = [];
          took = starts;
          emits = of_other _ _ (is_store_fault r) is_early.own refl;
          told = λ tables reads. of_other _ _ (is_store_fault r) is_early.own (subst (λ (a : Answer). Prints labels a []) (sym (verdict_is tables reads.held)) refl);
        };
        stopped = tt;
        sink = refl;
        emits = λ is. absurd (cc is);
        means = record {
          told = λ tables d of reads. of_other _ _ (is_store_fault r) is_early.own (record {
            answer = sym (ap (outcome_of stmt) (verdict_is tables reads.held));
            seen = sym (seen_early old.public (count_of old s) tables stmt r (early_held old.public (count_of old s) stmt tables old.indexes.items (world_of state old s) (Some r) reads.held.held now) d);
            held = record {
              held = subst (λ (ts : Tables). AreHeld old.public.pack old.indexes.items old.public.tables ts (world_of state old s)) (sym (stays tables d reads.held)) reads.held.held;
              in_place = subst (λ (ts : Tables). AreInPlace old.public.stash ts) (sym (stays tables d reads.held)) reads.held.in_place;
            };
          });
          room = λ tables d of reads. refused_room d old.public (count_of old s) tables stmt r (early_held old.public (count_of old s) stmt tables old.indexes.items (world_of state old s) (Some r) reads.held.held now);
          honest = λ tables reads. tt;
          held = λ tables d of reads. tt;
          full = λ tables d of reads. tt;
          begun = λ tables d of reads lie told. absurd (cc (reads.nolie, told));
        };
      }

-- a statement by what its kind says of it
pub served_as : {R E : Type 0} (state : R → RevState) (grew cut : E → E → List Event → Type 0) (faults : E → ℕ) (stmt other : Stmt) (old : Engine R) (s : StoreState) (out : E) (result : Result Outcome RunStop)
    (new : Engine R) (t : StoreState) → grew out out [] → other ≡ stmt → refusal_now old.public (count_of old s) stmt ≡ None → is_access old.public (skeleton stmt) ≡ false → selects_rows other ≡ false
    → ((tables : Tables) → IsBare (accepted_answer (database tables) other)) → ServesSilently state other [] result old s new t → Serves state grew cut faults stmt result old s new t out out
served_as state grew cut faults stmt other old s out result new t starts is now flat uncounted bare serves =
    subst (λ (x : Stmt). Serves state grew cut faults x result old s new t out out) is
    (serves_silently state grew cut faults other old s out starts result new t (ap (refusal_now old.public (count_of old s)) is ∙ now)
    (ap (λ (x : Stmt). is_access old.public (skeleton x)) is ∙ flat) uncounted bare serves)
