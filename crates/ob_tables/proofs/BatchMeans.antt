-- What INSERTs mean that are served together.
use Rattle.ob_tables.proofs.Words.{accepted_answer, All-head, All-tail, Answer, ap, AreFit, AreServedWith, arith, Bool, bytes_eq, changed_at, Column, database, Done, Draws, early_refusal, failed_by, false, FitsColumns, given_all, has_index, has_repeats, Heading, heading_at, headings, headings_of, Held, if◌then◌else◌, in_slots, inserted_as, is_late, IsCell, length, limits_of, List, map, None, Option, option_map, Outcome, outcome_of, Public, refl, Refusal, refusal_by, refusal_now, Refused, rows_in, settle, settle_all, skeleton, Slots, Some, Stmt, Stored, stored_at, subst, suc, sym, Tables, true, verdict, ℕ, [], ◌∙◌, ◌∷◌, ◌≡◌}
use Rattle.std.specs.Prelude.{All}
use Rattle.std.specs.List.{cons_option}
use Rattle.std.proofs.lemmas.List.Elements.{All-cons, All-nil}
use Rattle.ob_base.specs.declared.schema.Shape.TheVariants.{Flat}
use Rattle.ob_mean.specs.Batches.{inserts_into, verdicts}
use Rattle.ob_mean.specs.Step.{answered, new_row}
use Rattle.ob_mean.proofs.BatchLemmas.{settle_refused}
use Rattle.ob_mean.proofs.InsertLemmas.{insert_fits}
use Rattle.ob_mean.proofs.VerdictLemmas.{refused_early}
use Rattle.ob_mutate.specs.declared.inserting.Inserted.{Inserted}
use Rattle.ob_mutate.specs.declared.inserting.Inserted.TheVariants.{Duplicate, Full}
use Rattle.ob_mutate.specs.Batches.{insert_answers, inserted_all, inserted_one}
use Rattle.ob_mutate.specs.Inserting.{insert_answer, slots_after}
use Rattle.ob_row.specs.Rows.{Row}
use Rattle.ob_row.specs.Slots.{fill_first}
use Rattle.ob_sql.specs.declared.stmt.Literal.{Literal}
use Rattle.ob_sql.specs.declared.stmt.Stmt.TheVariants.{Create, Insert, Update, Delete, Drop as DropTable, SelectRows as RowsStmt, SelectTotals as TotalsStmt}
use Rattle.ob_verdict.specs.declared.outcome.Outcome.TheVariants.{Inserted as InsertedOut}
use Rattle.ob_verdict.proofs.AlikeTables.{changed_here, headings_changed, with_slots}
use Rattle.ob_tables.specs.Batch.{AnswersRow, IsServedWith, answers_behind, given_next, outcomes_of, row_of, row_unless}
use Rattle.ob_tables.proofs.HeldLemmas.{changed_same, not_accessed}
use Rattle.ob_tables.proofs.InsertLemmas.{insert_meant}

-- ---- an INSERT of the table of a name
pub record IsInsert (name : List ℕ) (stmt : Stmt) : Type 0 where
  pub columns : Option (List (List ℕ))
  pub values : List Literal
  pub is : stmt ≡ Insert name columns values

pub insert_is : (name : List ℕ) (stmt : Stmt) → inserts_into (skeleton stmt) ≡ Some name → IsInsert name stmt
insert_is name (Insert table columns values) is = record { columns = columns; values = values; is = let same : table ≡ name = cc is in λ i. Insert (same i) columns values }
insert_is name other is = absurd (cc is)

-- ---- slots
fill_length : (row : Row) (slots : Slots) → length (fill_first row slots) ≡ length slots
fill_length row [] = refl
fill_length row (None ∷ slots) = refl
fill_length row (Some other ∷ slots) = ap suc (fill_length row slots)

slots_length : (answer : Inserted) (row : Row) (slots : Slots) → length (slots_after answer row slots) ≡ length slots
slots_length Done row slots = fill_length row slots
slots_length Duplicate row slots = refl
slots_length Full row slots = refl

-- two changes of the slots of one table
pub changed_twice : (name : List ℕ) (f g : Slots → Slots) (tables : Tables) → changed_at name (in_slots g) (changed_at name (in_slots f) tables) ≡ changed_at name (in_slots (λ slots. g (f slots))) tables
changed_twice name f g [] = refl
changed_twice name f g (x ∷ xs) = go (bytes_eq x.heading.name name) refl (changed_twice name f g xs)
  where
    go : (b : Bool) → bytes_eq x.heading.name name ≡ b → changed_at name (in_slots g) (changed_at name (in_slots f) xs) ≡ changed_at name (in_slots (λ slots. g (f slots))) xs
        → changed_at name (in_slots g) (if b then with_slots (in_slots f) x ∷ xs else x ∷ changed_at name (in_slots f) xs) ≡ (if b then with_slots (in_slots (λ slots. g (f slots))) x ∷ xs else x ∷ changed_at name (in_slots (λ slots. g (f slots))) xs)
    go true is rest = ap (λ (b : Bool). if b then with_slots (in_slots (λ slots. g (f slots))) x ∷ xs else with_slots (in_slots f) x ∷ changed_at name (in_slots g) xs) is
    go false is rest =
        ap (λ (b : Bool). if b then with_slots (in_slots g) x ∷ changed_at name (in_slots f) xs else x ∷ changed_at name (in_slots g) (changed_at name (in_slots f) xs)) is
        ∙ ap (λ (ys : Tables). x ∷ ys) rest

-- ---- INSERTs of a flat table, over tables in place of which it is one
module _ (p : Public) (m : ℕ) (name : List ℕ) (heading : Heading) (flat : heading.shape ≡ Flat) (none : has_index p name ≡ false) where
  abbrev pub names_it : Stmt → Type 0
  names_it stmt = inserts_into (skeleton stmt) ≡ Some name

  abbrev rows_for : List Stmt → List Row
  rows_for stmts = rows_in (is_late m) p heading.schema stmts

  -- it stands there and holds this
  pub record StandsIn (tables : Tables) (held : Held) : Type 0 where
    pub headed : headings tables ≡ headings_of p.tables
    pub found : stored_at name tables ≡ Some (record { heading = heading; held = held })
    pub size : length held.slots ≡ heading.capacity

  -- ---- one
  abbrev refused_now : (tables : Tables) (held : Held) → StandsIn tables held → (stmt : Stmt) (o : Option Refusal) → refusal_now p m stmt ≡ o → early_refusal (is_late m) (limits_of p) (headings tables) stmt ≡ o
  refused_now tables held stands stmt o now = ap (λ (hs : List Heading). early_refusal (is_late m) (limits_of p) hs stmt) stands.headed ∙ now

  -- it is refused before any access
  refused_verdict : (tables : Tables) (held : Held) → StandsIn tables held → (stmt : Stmt) (r : Refusal) → refusal_now p m stmt ≡ Some r → outcome_of stmt (verdict p m tables stmt) ≡ Refused r
  refused_verdict tables held stands stmt r now =
      ap (λ (o : Option Refusal). outcome_of stmt (answered o (accepted_answer (database tables) stmt))) (refused_early p m tables stmt r (refused_now tables held stands stmt (Some r) now))

  -- it isn't
  abbrev pub answer_to : Stmt → Held → Inserted
  answer_to stmt held = insert_answer heading.schema (row_of heading.schema stmt) held.slots

  abbrev pub change_by : Stmt → Held → Slots → Slots
  change_by stmt held slots = slots_after (answer_to stmt held) (row_of heading.schema stmt) slots

  pub record Puts (tables : Tables) (held : Held) (stmt : Stmt) : Type 0 where
    pub answered_so : inserted_as (answer_to stmt held) ≡ outcome_of stmt (verdict p m tables stmt)
    pub settles : (d : Draws) → settle d p m tables stmt ≡ changed_at name (in_slots (change_by stmt held)) tables
    pub stands : StandsIn (changed_at name (in_slots (change_by stmt held)) tables) (in_slots (change_by stmt held) held)

  puts_values : (tables : Tables) (held : Held) → StandsIn tables held → (columns : Option (List (List ℕ))) (values : List Literal) → refusal_now p m (Insert name columns values) ≡ None → Puts tables held (Insert name columns values)
  puts_values tables held stands columns values now =
      let stmt = Insert name columns values in
      let unread = not_accessed p tables stmt stands.headed none in
      let meant = insert_meant p m tables name columns values (record { heading = heading; held = held }) (new_row heading.schema columns values) (answer_to stmt held) unread
      (refused_now tables held stands stmt None now) stands.found stands.size flat refl refl in
      record {
        answered_so = meant.0;
        settles = meant.1;
        stands = record {
          headed = headings_changed name (in_slots (change_by stmt held)) tables ∙ stands.headed;
          found = changed_here name (in_slots (change_by stmt held)) tables ∙ ap (option_map (with_slots (in_slots (change_by stmt held)))) stands.found;
          size = slots_length (answer_to stmt held) (row_of heading.schema stmt) held.slots ∙ stands.size;
        };
      }

  pub puts : (tables : Tables) (held : Held) → StandsIn tables held → (stmt : Stmt) → names_it stmt → refusal_now p m stmt ≡ None → Puts tables held stmt
  puts tables held stands stmt named now =
      let insert = insert_is name stmt named in
      subst (λ (x : Stmt). Puts tables held x) (sym insert.is) (puts_values tables held stands insert.columns insert.values (ap (refusal_now p m) (sym insert.is) ∙ now))

  -- ---- all of them
  pub record MeansRows (stmts : List Stmt) (tables : Tables) (held : Held) : Type 0 where
    pub to : Slots → Slots
    pub settles : (d : Draws) → settle_all d p m stmts tables ≡ changed_at name (in_slots to) tables
    pub here : to held.slots ≡ inserted_all heading.schema (rows_for stmts) held.slots
    pub answers : (d : Draws) → given_all (insert_answers heading.schema (rows_for stmts) held.slots) (map (refusal_by (is_late m) p) stmts) ≡ outcomes_of stmts (verdicts d p m stmts tables)

  abbrev row_by : Option Refusal → Stmt → List Row → List Row
  row_by o stmt rows = cons_option (row_unless o (row_of heading.schema stmt)) rows

  means_none : (tables : Tables) (held : Held) → MeansRows [] tables held
  means_none tables held = record { to = λ slots. slots; settles = λ d. sym (changed_same name tables); here = refl; answers = λ d. refl }

  means_refused : (stmt : Stmt) (stmts : List Stmt) (tables : Tables) (held : Held) (r : Refusal) → StandsIn tables held → refusal_now p m stmt ≡ Some r → MeansRows stmts tables held → MeansRows (stmt ∷ stmts) tables held
  means_refused stmt stmts tables held r stands now rest =
      let stays : (d : Draws) → settle d p m tables stmt ≡ tables = λ d. settle_refused d p m tables stmt r (refused_now tables held stands stmt (Some r) now) in
      record {
        to = rest.to;
        settles = λ d. ap (settle_all d p m stmts) (stays d) ∙ rest.settles d;
        here = rest.here ∙ ap (λ (o : Option Refusal). inserted_all heading.schema (row_by o stmt (rows_for stmts)) held.slots) (sym now);
        answers = λ d.
            ap (λ (o : Option Refusal). given_all (insert_answers heading.schema (row_by o stmt (rows_for stmts)) held.slots) (o ∷ map (refusal_by (is_late m) p) stmts)) now
            ∙ (λ i. sym (refused_verdict tables held stands stmt r now) i ∷ (rest.answers d ∙ ap (λ (ts : Tables). outcomes_of stmts (verdicts d p m stmts ts)) (sym (stays d))) i);
      }

  means_put : (stmt : Stmt) (stmts : List Stmt) (tables : Tables) (held : Held) → refusal_now p m stmt ≡ None → (is : Puts tables held stmt)
      → MeansRows stmts (changed_at name (in_slots (change_by stmt held)) tables) (in_slots (change_by stmt held) held) → MeansRows (stmt ∷ stmts) tables held
  means_put stmt stmts tables held now is rest =
      let change = change_by stmt held in
      record {
        to = λ slots. rest.to (change slots);
        settles = λ d. ap (settle_all d p m stmts) (is.settles d) ∙ rest.settles d ∙ changed_twice name change rest.to tables;
        here = rest.here ∙ ap (λ (o : Option Refusal). inserted_all heading.schema (row_by o stmt (rows_for stmts)) held.slots) (sym now);
        answers = λ d.
            ap (λ (o : Option Refusal). given_all (insert_answers heading.schema (row_by o stmt (rows_for stmts)) held.slots) (o ∷ map (refusal_by (is_late m) p) stmts)) now
            ∙ (λ i. is.answered_so i ∷ (rest.answers d ∙ ap (λ (ts : Tables). outcomes_of stmts (verdicts d p m stmts ts)) (sym (is.settles d))) i);
      }

  pub means_rows : (stmts : List Stmt) (tables : Tables) (held : Held) → All names_it stmts → StandsIn tables held → MeansRows stmts tables held
  means_rows [] tables held named stands = means_none tables held
  means_rows (stmt ∷ stmts) tables held named stands = go (refusal_now p m stmt) refl (λ ts h so. means_rows stmts ts h (All-tail names_it stmt stmts named) so)
    where
      go : (o : Option Refusal) → refusal_now p m stmt ≡ o → ((ts : Tables) (h : Held) → StandsIn ts h → MeansRows stmts ts h) → MeansRows (stmt ∷ stmts) tables held
      go (Some r) now rest = means_refused stmt stmts tables held r stands now (rest tables held stands)
      go None now rest =
          let is = puts tables held stands stmt (All-head names_it stmt stmts named) now in
          means_put stmt stmts tables held now is (rest (changed_at name (in_slots (change_by stmt held)) tables) (in_slots (change_by stmt held) held) is.stands)

  -- ---- their rows fit
  module _ (found : heading_at name (headings_of p.tables) ≡ Some heading) (apart : has_repeats bytes_eq (map (λ (c : Column). c.name) heading.schema) ≡ false) where
    pub row_fits : (stmt : Stmt) → names_it stmt → refusal_now p m stmt ≡ None → All IsCell (row_of heading.schema stmt) → FitsColumns heading.schema (row_of heading.schema stmt)
    row_fits stmt named now held =
        let insert = insert_is name stmt named in
        subst (λ (x : Stmt). FitsColumns heading.schema (row_of heading.schema x)) (sym insert.is)
        (insert_fits (is_late m) (limits_of p) (headings_of p.tables) name heading insert.columns insert.values (ap (refusal_now p m) (sym insert.is) ∙ now) found apart
        (subst (λ (x : Stmt). All IsCell (row_of heading.schema x)) insert.is held))

    pub rows_fit : (stmts : List Stmt) → All names_it stmts → All (All IsCell) (rows_for stmts) → All (FitsColumns heading.schema) (rows_for stmts)
    rows_fit [] named held = All-nil (FitsColumns heading.schema)
    rows_fit (stmt ∷ stmts) named held = go (refusal_now p m stmt) refl held (λ cells. rows_fit stmts (All-tail names_it stmt stmts named) cells)
      where
        go : (o : Option Refusal) → refusal_now p m stmt ≡ o → All (All IsCell) (row_by o stmt (rows_for stmts)) → (All (All IsCell) (rows_for stmts) → All (FitsColumns heading.schema) (rows_for stmts))
            → All (FitsColumns heading.schema) (row_by o stmt (rows_for stmts))
        go (Some r) now cells rest = rest cells
        go None now cells rest =
            let row = row_of heading.schema stmt in
            All-cons (FitsColumns heading.schema) row (rows_for stmts)
            (row_fits stmt (All-head names_it stmt stmts named) now (All-head (All IsCell) row (rows_for stmts) cells))
            (rest (All-tail (All IsCell) row (rows_for stmts) cells))

-- ---- what each is answered
module _ (p : Public) (m : ℕ) where
  given_is : (o : Option Refusal) (answers : List Inserted) → IsServedWith o false (given_next o answers)
  given_is (Some r) answers = refl
  given_is None [] = record { inserted = Done; is = refl }
  given_is None (answer ∷ answers) = record { inserted = answer; is = refl }

  pub all_given : (stmts : List Stmt) (answers : List Inserted) → AreServedWith p m false stmts (given_all answers (map (refusal_by (is_late m) p) stmts))
  all_given [] answers = tt
  all_given (stmt ∷ stmts) answers =
      (given_is (refusal_now p m stmt) answers, all_given stmts (answers_behind (refusal_now p m stmt) answers))

  failed_is : (o : Option Refusal) → IsServedWith o true (failed_by o)
  failed_is (Some r) = refl
  failed_is None = refl

  pub all_failed : (stmts : List Stmt) → AreServedWith p m true stmts (map failed_by (map (refusal_by (is_late m) p) stmts))
  all_failed [] = tt
  all_failed (stmt ∷ stmts) = (failed_is (refusal_now p m stmt), all_failed stmts)
