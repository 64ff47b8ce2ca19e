-- What the engine was given and what it left.
use Rattle.ob_shell.proofs.Words.{AfterCount, Agrees, ap, append-nil, Appends, AreDraws, arith, asked_of, begins_batch, Bool, by_fault, closing_line, Cut, Does, Draws, End, Err, Event, events_text, false, faults_of, Gathered, gathered_then, HasCause, held_headings, if◌then◌else◌, inl, inr, is_err, is_fault, Batched, List, Machine, may_fly, most_some, next, None, Ok, Option, option_map, Outcome, OutFailed, Outputs, Outputs-fault, Outputs-whole, PrintsUntil, Public, public_of, refl, Refused, Result, RevState, RunStop, Seen, seen_of, session_stop, Silenced, Skeleton, skeleton, Spells, standing, Static, Step, Stmt, StopCause, subst, sym, Tables, true, Whole, ℕ, [], ◌++◌, ◌∙◌, ◌∷◌, ◌≡◌, ◌≤◌}
use Rattle.std.specs.Prelude.{IsErr}
use Rattle.ob_base.specs.declared.refusal.Refusal.TheVariants.{Syntax}
use Rattle.ob_base.specs.declared.skeleton.Skeleton.TheVariants.{Create as CreateSkeleton, Delete as DeleteSkeleton, Drop as DropSkeleton, Groups, Insert as InsertSkeleton, Rows, Update as UpdateSkeleton}
use Rattle.ob_script.specs.Tables.{tables_then}
use Rattle.ob_tables.specs.Running.{SinkStops}
use Rattle.ob_tables.specs.Serving.{StopsEmission}
use Rattle.ob_exec.specs.Ran.{Ran}
use Rattle.ob_tables.specs.declared.stop.RunStop.TheVariants.{KeeperFault, NoMemory, SinkFault, StashFull, StoreFault, Tampered}
use Rattle.ob_print.proofs.CutLemmas.{Outputs-more}
use Rattle.ob_shell.proofs.CountLemmas.{rises_earlier, rises_later}
use Rattle.ob_mean.specs.Batches.{and_one, begun_by}
use Rattle.ob_shell.specs.Lines.{line_answer}
use Rattle.ob_shell.specs.Steps.{HasBody, IsApartFrom, Owes, ServedStatement, StopsIn, gathered_by, none_gathered}
use Rattle.ob_tables.specs.Telling.{Kept, Meant, ReadsTrue}

module _ {R E : Type 0} (state : R → RevState) (grew cut : E → E → List Event → Type 0) (faults : E → ℕ)
    (m0 m1 : Machine R) (out_old out_new : E) (stmt : Stmt) (agrees : Agrees state m0.engine m0.store)
    (apart : begins_batch (public_of m0.engine) (asked_of m0) stmt ≡ false) (same : m1.flights ≡ m0.flights) (g : Gathered) (alone : IsApartFrom m0.flights.settings (public_of m0.engine) g (skeleton stmt)) where
  abbrev pub Called : Result Outcome RunStop → Type 0
  Called result = Ran state grew cut faults stmt result m0.engine m0.store m1.engine m1.store out_old out_new m0.keeper m1.keeper

  -- before it, and after it
  abbrev pub start : Machine R
  start = standing m0 [] g

  abbrev pub end : Machine R
  end = standing m1 [] (gathered_by (public_of m0.engine) (skeleton stmt))

  -- what a call of the engine did
  done : (result : Result Outcome RunStop) → Called result → Does state start end stmt result
  done result serves =
      let c = serves.carried in
      record {
        free = refl;
        alone = alone;
        flights = same;
        along = record { few = let some = most_some (public_of m0.engine) in omega (arith, some); alike = inl refl };
        agrees = agrees;
        ran = c.ran;
        early = c.early;
        lawful = c.lawful;
        memory = λ is. let lacks = c.memory is in record {
          done = lacks.done;
          rest = lacks.rest;
          split = lacks.split;
          asked = lacks.asked;
          place = elim lacks.place [ inl make ↦ inl make | inr (inl result) ↦ inr (inl result) | inr (inr (inl emits)) ↦ inr (inr (inl (emits.0, tt))) | inr (inr (inr closing)) ↦ inr (inr (inr closing)) ];
        };
        full = c.full;
        emits = c.emits;
        seals = c.seals;
        means = c.means;
        keeper = c.keeper;
        counts = c.counts;
        drawn = c.drawn;
      }

  -- nothing else was carried out
  owes_none : (outcome : Outcome) → Called (Ok outcome) → (tables : Tables) (d : Draws) → AreDraws m0.engine d → ReadsTrue state m0.engine m0.store m1.store tables → by_fault (is_fault outcome) (end.owed ≡ []) (Owes start end stmt d tables)
  owes_none outcome serves tables d drawn reads = go (is_fault outcome) (serves.carried.means.told tables d drawn reads)
    where
      go : (failed : Bool) → by_fault failed (Kept state stmt d tables m0.engine m0.store m1.engine m1.store) (Meant state stmt [] (asked_of m0) d tables outcome m0.engine m1.engine m1.store) → by_fault failed (end.owed ≡ []) (Owes start end stmt d tables)
      go true kept = refl
      go false meant = record { whole = inl refl; listed = held_headings _ _ _ _ _ meant.held.held; same = refl; answered = tt }

  module _ (text : List ℕ) (spells : Spells text (Ok stmt)) where
    served_by : (outcome : Outcome) → (serves : Called (Ok outcome))
        → ServedStatement state start end text (record { outcome = outcome; bytes = events_text serves.answered.events ++ closing_line outcome; plan = (seen_of m1.engine).plan })
    served_by outcome serves =
        let answer = serves.answered in
        record {
          stmt = stmt;
          spells = spells;
          does = done (Ok outcome) serves;
          events = answer.events;
          emits = answer.emits;
          emitted = answer.told;
          printed = refl;
          planned = refl;
          gathered = λ i. record {
            batch = if sym alone.batch i then option_map and_one g.batch else if sym apart i then begun_by (skeleton stmt) (seen_of m1.engine).end else None;
            flown = gathered_then (public_of m0.engine) 0 (skeleton stmt);
          };
          owes = owes_none outcome serves;
        }

  module _ (w0 w1 : Option (List ℕ)) (text : List ℕ) (spells : Spells text (Ok stmt)) where
    -- the engine answered, and the sink took all of these events
    pub answered_by : (outcome : Outcome) → Called (Ok outcome) → ((events : List Event) → grew out_old out_new events → Appends w0 w1 (events_text events))
        → HasBody state w0 w1 text outcome (seen_of m1.engine).plan start end
    answered_by outcome serves took =
        let answer = serves.answered in
        record {
          body = events_text answer.events;
          appends = took answer.events answer.took;
          step = record { done = inr (served_by text spells outcome serves) };
        }

    module _ {Lost : Type 0} where
      -- the engine answered, and a sink failed within these events
      pub finished_by : (outcome : Outcome) → Called (Ok outcome) → Lost → ((events : List Event) → grew out_old out_new events → Outputs w0 w1 (Unit {0}) (events_text events))
          → StopsIn state w0 w1 Lost (text ∷ []) SinkFault start end
      finished_by outcome serves lost began =
          let answer = serves.answered in
          let text_of = events_text answer.events in
          record {
            bytes = text_of ++ closing_line outcome;
            partly = inr (inr (inl (record {
              answer = record { outcome = outcome; bytes = text_of ++ closing_line outcome; plan = (seen_of m1.engine).plan };
              step = record { done = inr (served_by text spells outcome serves) };
              whole = refl;
              fault = refl;
            })));
            cut = Outputs-more (closing_line outcome) (Outputs-fault lost (began answer.events answer.took)) lost;
          }

      -- the engine was stopped, and of the text of these events this was printed
      cut_short : (stop : RunStop) (serves : Called (Err stop)) (bytes : List ℕ) → PrintsUntil (session_stop stop) bytes (events_text serves.stopped.events) → Outputs w0 w1 Lost bytes → StopsIn state w0 w1 Lost (text ∷ []) stop start end
      cut_short stop serves bytes printed took = record {
        bytes = bytes;
        partly = inr (inl (record {
          stmt = stmt;
          spells = spells;
          does = done (Err stop) serves;
          events = serves.stopped.events;
          emitted = serves.stopped.told;
          silent = λ full. (subst (λ (r : RunStop). StopsEmission grew cut r out_old out_new serves.stopped.events) full serves.stopped.ends).1;
          printed = printed;
        }));
        cut = took;
      }

      -- a sink failed within them
      pub failed_by : Called (Err SinkFault) → Lost → ((events : List Event) → cut out_old out_new events → Outputs w0 w1 (Unit {0}) (events_text events)) → StopsIn state w0 w1 Lost (text ∷ []) SinkFault start end
      failed_by serves lost began = cut_short SinkFault serves (events_text serves.stopped.events) refl (Outputs-fault lost (began serves.stopped.events serves.stopped.ends))

      -- the sink took them, unless it failed; or memory was wanting for the last of them
      pub stopped_by : (stop : RunStop) → (stop ≡ SinkFault → ⊥) → Called (Err stop) → ((events : List Event) → grew out_old out_new events → Outputs w0 w1 Lost (events_text events))
          → ((events : List Event) → cut out_old out_new events → Outputs w0 w1 (Unit {0}) (events_text events)) → StopsIn state w0 w1 Lost (text ∷ []) stop start end
      stopped_by (Tampered region place) other serves whole began = cut_short (Tampered region place) serves (events_text serves.stopped.events) refl (whole serves.stopped.events serves.stopped.ends)
      stopped_by SinkFault other serves whole began = absurd (other refl)
      stopped_by StoreFault other serves whole began = cut_short StoreFault serves (events_text serves.stopped.events) refl (whole serves.stopped.events serves.stopped.ends.0)
      stopped_by StashFull other serves whole began = cut_short StashFull serves (events_text serves.stopped.events) refl (whole serves.stopped.events serves.stopped.ends.0)
      stopped_by KeeperFault other serves whole began = cut_short KeeperFault serves (events_text serves.stopped.events) refl (whole serves.stopped.events serves.stopped.ends.0)
      stopped_by NoMemory other serves whole began = elim serves.stopped.ends [
        | inl took ↦ cut_short NoMemory serves (events_text serves.stopped.events) (record { lost = []; whole = sym (append-nil (events_text serves.stopped.events)) }) (whole serves.stopped.events took)
        | inr ends ↦ let printed = began serves.stopped.events ends in cut_short NoMemory serves printed.grown printed.prefix (Outputs-whole _ _ _ _ printed.appends)
      ]

-- a text that is no statement is answered by its line alone
pub misspelt : {R : Type 0} (state : R → RevState) (m : Machine R) (g : Gathered) (text : List ℕ) (at : ℕ) → Spells text (Err at) → Step state (standing m [] g) (standing m [] none_gathered) text (line_answer (Refused (Syntax at)))
misspelt state m g text at spells = record {
  done = inl (record {
    same = refl;
    why = inl (record { free = refl; owed = refl; gathered = refl; at = at; spells = spells; refused = refl; line = refl; unplanned = refl });
  });
}

-- of the emitter's stop alone the count rises
stop_keeps : (stop : RunStop) (out0 out1 : ℕ) → (stop ≡ SinkFault → ⊥) → SinkStops (Err stop) out0 out1 → out1 ≡ out0
stop_keeps SinkFault out0 out1 not cause = absurd (not refl)
stop_keeps other out0 out1 not cause = cause

-- a stop of the engine, and what waited was flushed after it
pub stop_cause : (T : Type 0) (stop : RunStop) (out0 out1 out2 : ℕ) → SinkStops (Err stop) out0 out1 → out1 ≤ out2
    → StopCause {T = T} (Unit {0}) (faults_of 0 out0 0) (faults_of 0 out2 0) (Err (session_stop stop))
stop_cause T (Tampered region place) out0 out1 out2 cause later = ((λ alone. refl, inl refl), omega arith, omega arith)
stop_cause T NoMemory out0 out1 out2 cause later = ((λ alone. refl, inl refl), omega arith, omega arith)
stop_cause T StoreFault out0 out1 out2 cause later = ((λ alone. refl, inl refl), omega arith, omega arith)
stop_cause T StashFull out0 out1 out2 cause later = ((λ alone. refl, inl refl), omega arith, omega arith)
stop_cause T KeeperFault out0 out1 out2 cause later = ((λ alone. refl, inl refl), omega arith, omega arith)
stop_cause T SinkFault out0 out1 out2 cause later = ((λ alone. refl, inl refl), inl (rises_later out0 out1 out2 cause later))

-- whether what waited could be flushed after it
pub flush_silences : {T E : Type 0} (stop : RunStop) (r : Result T E) (quiet : Bool) (out0 out1 out2 : ℕ) → (stop ≡ SinkFault → ⊥) → SinkStops (Err stop) out0 out1 → quiet ≡ is_err r → HasCause out1 out2 r
    → Silenced quiet (faults_of 0 out0 0) (faults_of 0 out2 0)
flush_silences stop (Ok x) quiet out0 out1 out2 not cause is flushed = rw is (flushed.kept ∙ stop_keeps stop out0 out1 not cause, refl)
flush_silences stop (Err e) quiet out0 out1 out2 not cause is flushed =
    let same = stop_keeps stop out0 out1 not cause in
    rw is (inl (rises_earlier out0 out1 out2 (omega (arith, same)) flushed.failed))

-- where the flush after it fails, what waited may be lost
pub flush_loses : {T E : Type 0} (stop : RunStop) (r : Result T E) (quiet : Bool) (out0 out1 out2 : ℕ) → (stop ≡ SinkFault → ⊥) → SinkStops (Err stop) out0 out1 → quiet ≡ is_err r → HasCause out1 out2 r → IsErr r
    → OutFailed quiet out0 out2
flush_loses stop (Ok x) quiet out0 out1 out2 not cause is flushed failed = absurd (cc failed)
flush_loses stop (Err e) quiet out0 out1 out2 not cause is flushed failed =
    let same = stop_keeps stop out0 out1 not cause in (is, rises_earlier out0 out1 out2 (omega (arith, same)) flushed.failed)

-- a SELECT leaves the tables
pub select_tables : (p : Public) (outline : Skeleton) (seen : Seen) {q : Public} → may_fly p outline ≡ true → q ≡ next p outline seen → q.tables ≡ p.tables
select_tables p outline seen flies is = ap (λ (x : Public). x.tables) is ∙ go outline flies seen.end
  where
    go : (s : Skeleton) → may_fly p s ≡ true → (ended : End) → tables_then p s ended ≡ p.tables
    go (Rows source columns) may Static = refl
    go (Rows source columns) may Whole = refl
    go (Rows source columns) may AfterCount = refl
    go (Rows source columns) may Batched = refl
    go (Rows source columns) may (Cut n) = refl
    go (Groups table columns key) may Static = refl
    go (Groups table columns key) may Whole = refl
    go (Groups table columns key) may AfterCount = refl
    go (Groups table columns key) may Batched = refl
    go (Groups table columns key) may (Cut n) = refl
    go (CreateSkeleton table columns n shape) may ended = absurd (cc may)
    go (InsertSkeleton table columns) may ended = absurd (cc may)
    go (UpdateSkeleton table columns) may ended = absurd (cc may)
    go (DeleteSkeleton table) may ended = absurd (cc may)
    go (DropSkeleton table) may ended = absurd (cc may)
