-- A SELECT of rows that came to its end, or was refused for its rows.
use Rattle.ob_exec.proofs.Words.{Agrees, answer_events, answer_labels, ap, arith, at, Bool, by_fault, Close, closing, count_of, Draws, Emitted, EndsRows, Engine, Event, false, Head, header, inl, is_fault, is_store_fault, Leads, length-map, List, None, of_other, Ok, places, Prints, ReadsTrue, refl, Refusal, refusal_now, RevState, RoomState, row_events, Seen, Selected, selected_outcome, selection, selection_answer, Serves, slots_of, StoreState, subst, sym, Tables, true, UsesRoomFor, Vault, verdict, World, world_of, ℕ, [], ◌++◌, ◌∙◌, ◌∷◌, ◌≡◌}
use Rattle.ob_base.specs.Events.{Row}
use Rattle.ob_sql.specs.declared.stmt.SelectRows.{SelectRows}
use Rattle.ob_sql.specs.declared.stmt.Stmt.TheVariants.{SelectRows as RowsStmt}
use Rattle.ob_mean.specs.Verdict.{rows_refusal}
use Rattle.ob_tables.proofs.PlainLemmas.{none_full}
use Rattle.ob_select.specs.declared.selecting.Selected.TheVariants.{Rows, Refused}
use Rattle.ob_verdict.specs.Outcomes.{IsBegunAnswer}
use Rattle.ob_select.specs.Selecting.{emitted_unless, shown_rows}
use Rattle.ob_tables.specs.Serving.{Answered}
use Rattle.ob_exec.specs.Sources.{IsFew}
use Rattle.ob_tables.specs.Telling.{Represents, Told}
use Rattle.ob_exec.proofs.RowsLawful.{ended_late, ended_well, lawful_ended}
use Rattle.ob_exec.proofs.RowsMeaning.{rows_outcome, rows_prints, rows_seen, rows_settle}
use Rattle.ob_exec.proofs.RowsRun.{rows_after, rows_ran}
use Rattle.ob_exec.proofs.RowsStops.{IsSource, early, early_none, flat, headed, rows_begun, rows_of, still_held, to_end}
use Rattle.ob_exec.proofs.RowsReach.{as_rows, as_refused}
use Rattle.ob_verdict.proofs.RowEvents.{are_rows}

either_way : (labels : List (List ℕ)) (failed : Bool) → by_fault failed (IsBegunAnswer labels []) (◌≡◌ {A = List Event} [] [])
either_way labels true = record { rows = []; are_rows = refl; is = inl refl }
either_way labels false = refl

module _ {R : Type 0} (state : R → RevState) (old : Engine R) (s : StoreState) (v : Vault R) (room : RoomState) (t : StoreState) (select : SelectRows)
    (agrees : Agrees state old s) (free : refusal_now old.public (count_of old s) (RowsStmt select) ≡ None) (source : IsSource old.public select)
    {E : Type 0} (grew : E → E → List Event → Type 0) (starts : (x : E) → grew x x []) (now : Seen) (out_old out_mid out_new : E) where
  abbrev before : World
  before = world_of state old s

  abbrev after : World
  after = at state v t

  abbrev EndsWith : Selected → Type 0
  EndsWith answer = EndsRows grew old.public select answer now before after out_old out_mid

  -- all events are those of the meaning
  prints_as : (answer : Selected) (is : EndsWith answer) (tables : Tables) (reads : ReadsTrue state old s t tables) (events : List Event)
      → events ≡ answer_events (selection old.public select) (slots_of old.public select tables) ++ closing (selection_answer (selection old.public select) (slots_of old.public select tables))
      → Emitted (RowsStmt select) old.public (count_of old s) tables (selected_outcome answer) events
  prints_as answer is tables reads events same =
      of_other _ _ (is_fault (selected_outcome answer)) (ended_well (selection old.public select) answer now is.ended)
      (subst (λ (all : List Event). Prints (answer_labels (RowsStmt select) old.public) (verdict old.public (count_of old s) tables (RowsStmt select)) all) (sym same)
      (rows_prints old.public (count_of old s) select tables
      (headed state old s v room t select agrees free source is.ran.lasts tables reads.held) reads.held.in_place
      (flat state old s v room t select agrees free source is.ran.lasts tables reads.held)
      (early state old s v room t select agrees free source is.ran.lasts tables reads.held)
      agrees.settings.pack_least agrees.settings.blocks agrees.settings.padded source.labelled
      (rows_of state old s v room t select agrees free source is.ran.lasts tables reads.held)))

  answered_rows : (k : ℕ) → EndsWith (Rows k) → IsFew (Rows k) → Leads grew grew out_mid out_new (closing (Rows k))
      → Answered state grew (RowsStmt select) (selected_outcome (Rows k)) old s t out_old out_new
  answered_rows k is few closes =
      let shown = is.emitted.rows in
      let head = header (selection old.public select).flat.schema (selection old.public select).cols in
      let events = (head ++ row_events shown) ++ Close k ∷ [] in
      record {
        events = events;
        took = closes out_old (head ++ row_events shown) (is.emitted.leads out_old [] (starts out_old));
        emits = record {
          rows = row_events shown;
          are_rows = are_rows shown;
          count = length-map shown Row ∙ (let count = is.emitted.count in omega (arith, count));
          few = few;
          is = λ i. Head (source.labelled i) ∷ (row_events shown ++ Close k ∷ []);
        };
        told = λ tables reads.
            let true_end = to_end state old s v room t select agrees free source is.ran.lasts tables reads in
            let told = is.told true_end in
            let none = as_rows (rows_refusal old.public (places (selection old.public select) (slots_of old.public select tables))) _ k told.0 in
            let rows_are : shown ≡ shown_rows (selection old.public select) (slots_of old.public select tables) = is.emitted.told true_end in
            prints_as (Rows k) is tables reads events
            (λ i. emitted_unless (sym none i) (head ++ row_events (rows_are i)) ++ closing (told.0 i));
      }

  answered_refused : (r : Refusal) → EndsWith (Refused r) → Leads grew grew out_mid out_new []
      → Answered state grew (RowsStmt select) (selected_outcome (Refused r)) old s t out_old out_new
  answered_refused r is closes = record {
    events = [];
    took = closes out_old [] (subst (λ (e : E). grew out_old e []) (sym is.emitted) (starts out_old));
    emits = either_way (answer_labels (RowsStmt select) old.public) (is_store_fault r);
    told = λ tables reads.
        let told = is.told (to_end state old s v room t select agrees free source is.ran.lasts tables reads) in
        let refused = as_refused (rows_refusal old.public (places (selection old.public select) (slots_of old.public select tables))) _ r told.0 in
        let head = header (selection old.public select).flat.schema (selection old.public select).cols in
        prints_as (Refused r) is tables reads []
        (λ i. emitted_unless (sym refused i) (head ++ row_events (shown_rows (selection old.public select) (slots_of old.public select tables))) ++ closing (told.0 i));
  }

  answered_by : (answer : Selected) → EndsWith answer → IsFew answer → Leads grew grew out_mid out_new (closing answer)
      → Answered state grew (RowsStmt select) (selected_outcome answer) old s t out_old out_new
  answered_by (Rows k) is few closes = answered_rows k is few closes
  answered_by (Refused r) is few closes = answered_refused r is closes

  told_by : (answer : Selected) → EndsWith answer → (tables : Tables) (d : Draws) → ReadsTrue state old s t tables
      → Told state (RowsStmt select) [] d tables (selected_outcome answer) old s (rows_after old v room now old.ended) t
  told_by answer is tables d reads =
      let stands = reads.held in
      let told = is.told (to_end state old s v room t select agrees free source is.ran.lasts tables reads) in
      let headed_is = headed state old s v room t select agrees free source is.ran.lasts tables stands in
      let flat_is = flat state old s v room t select agrees free source is.ran.lasts tables stands in
      let early_is = early state old s v room t select agrees free source is.ran.lasts tables stands in
      let rows_are = rows_of state old s v room t select agrees free source is.ran.lasts tables stands in
      of_other _ _ (is_fault (selected_outcome answer)) (ended_well (selection old.public select) answer now is.ended) (record {
        answer = ap selected_outcome told.0
            ∙ rows_outcome old.public (count_of old s) select tables headed_is stands.in_place flat_is early_is agrees.settings.pack_least agrees.settings.blocks agrees.settings.padded source.labelled rows_are;
        seen = told.1
            ∙ sym (rows_seen old.public (count_of old s) select tables headed_is stands.in_place flat_is early_is agrees.settings.pack_least agrees.settings.blocks agrees.settings.padded source.labelled rows_are d);
        held = subst (λ (ts : Tables). Represents state (rows_after old v room now old.ended) t ts)
            (sym (rows_settle old.public (count_of old s) select tables headed_is stands.in_place flat_is early_is agrees.settings.pack_least agrees.settings.blocks agrees.settings.padded source.labelled rows_are d))
            (still_held state old s v room t select agrees free source is.ran.lasts now old.ended tables stands);
      })

  -- it is what a SELECT does
  pub serves_ended : (cut : E → E → List Event → Type 0) (faults : E → ℕ) (answer : Selected) → old.ended ≡ false → UsesRoomFor old.room room before after → EndsWith answer → IsFew answer
      → Leads grew grew out_mid out_new (closing answer) → faults out_new ≡ faults out_old
      → Serves state grew cut faults (RowsStmt select) (Ok (selected_outcome answer)) old s (rows_after old v room now old.ended) t out_old out_new
  serves_ended cut faults answer lives used is few closes sink = record {
    ran = rows_ran state old s v room t select agrees used source.unkeyed answer now lives is;
    early = early_none old.public (count_of old s) select (Ok (selected_outcome answer)) now free (ended_late (selection old.public select) answer now is.ended);
    lawful = lawful_ended old.public select source.unkeyed (count_of old s) free answer now is.holds is.leaf is.ended;
    memory = λ wanted. absurd (cc wanted);
    full = λ full. absurd (cc full);
    seals = λ good accepts single. is.seals good accepts;
    answered = answered_by answer is few closes;
    stopped = tt;
    sink = sink;
    emits = λ is. tt;
    means = record {
      told = λ tables d of reads. told_by answer is tables d reads;
      room = λ tables d of reads.
          none_full old.public tables (RowsStmt select) (flat state old s v room t select agrees free source is.ran.lasts tables reads.held) d (count_of old s);
      honest = λ tables reads. tt;
      held = λ tables d of reads. tt;
      full = λ tables d of reads. tt;
      begun = rows_begun state old s v room t select agrees free source is.ran.lasts is.begun;
    };
  }
