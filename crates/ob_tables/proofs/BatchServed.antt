-- INSERTs were carried out that are served together.
use Rattle.ob_tables.proofs.Words.{Agrees, All-head, All-tail, allowed, answer_of, ap, AreFit, AreServedWith, arith, Bool, by_fault, bytes_eq, changed_at, Column, Columns, copy_part, count_of, count_part, Cut, Done, Draws, drop, early_refusal, Engine, Err, failed_by, false, FitsColumns, Former, former_of, get_or, given_all, has_index, has_repeats, has_table, HasNoRows, Heading, heading_at, headings, headings_of, Held, IfOk, in_slots, insert_part, inserted_as, is_access, is_fault, is_late, is_stop, IsCell, IsSome, length, limits_of, List, MakesFlat, map, max, None, Ok, OpErr, Option, option_map_or, Outcome, outcome_of, Public, ReadsTrue, refl, Refusal, refusal_by, refusal_now, Result, RevState, RoomState, rows_in, RunStop, selects_rows, ServesSilently, settle, settle_all, skeleton, slice_set, Slots, Some, Stmt, Stored, stored_at, StoreState, subst, sym, Tables, true, UsesRoom, Vault, verdict, Whole, world_of, ℕ, [], ◌++◌, ◌+◌, ◌-◌, ◌<◌, ◌^◌, ◌∙◌, ◌∷◌, ◌≡◌, ◌≤◌}
use Rattle.std.specs.Prelude.{All, ⊤, filter_map, min}
use Rattle.std.specs.List.{cons_option}
use Rattle.std.proofs.lemmas.Bool.{lt-leb}
use Rattle.ob_base.specs.declared.schema.Shape.TheVariants.{Flat as FlatShape}
use Rattle.ob_flat.specs.declared.fault.OpErr.TheVariants as OpErrs
use Rattle.ob_mutate.specs.declared.inserting.Inserted.{Inserted}
use Rattle.ob_mutate.specs.declared.inserting.Inserted.TheVariants.{Duplicate, Full}
use Rattle.ob_mutate.specs.Batches.{insert_answers, inserted_all}
use Rattle.ob_row.specs.Rows.{Row}
use Rattle.ob_sql.specs.declared.stmt.Stmt.TheVariants.{Insert}
use Rattle.ob_mean.specs.Batches.{batch_most, inserts_into, verdicts}
use Rattle.ob_mean.proofs.BatchLemmas.{Begins, begins}
use Rattle.ob_verdict.specs.declared.outcome.Outcome.TheVariants.{Inserted as InsertedOut}
use Rattle.ob_tables.specs.Batch.{AreBatch, ServesBatch, answers_behind, given_next, outcomes_behind, outcomes_of, row_of, row_unless}
use Rattle.ob_tables.proofs.BatchLoops.{rows_few}
use Rattle.ob_tables.proofs.BatchMeans.{IsInsert, StandsIn, all_failed, all_given, change_by, changed_twice, insert_is, means_rows, names_it, puts, row_fits, rows_fit}
use Rattle.ob_tables.proofs.FoundLemmas.{is_there, shape_found}
use Rattle.ob_tables.proofs.InsertLemmas.{is_answered, silent_inserted}
use Rattle.ob_tables.proofs.MutateLemmas.{Alters, MeansFor, mutated, told_slots, unmutated}
use Rattle.ob_tables.proofs.RunLemmas.{IsAnswered, engine_after}
use Rattle.ob_tables.proofs.SilentLemmas.{serves_as, unasked}
use Rattle.ob_tables.proofs.ToldLemmas.{told_whole}
use Rattle.std.proofs.lemmas.List.Elements.{All-cons}
use Rattle.ob_base.specs.declared.schema.Table.{Table}
use Rattle.ob_store.specs.Calls.{ChangesNothing}
use Rattle.ob_vault.specs.Places.{at}
use Rattle.ob_flat.specs.declared.flat.Flat.{Flat}
use Rattle.ob_mutate.specs.Mutating.{InsertsAll}
use Rattle.ob_select.specs.Settings.{AreSettings}
use Rattle.ob_tables.specs.declared.stop.RunStop.TheVariants.{NoMemory}
use Rattle.ob_tables.specs.Engines.{IsFound}
use Rattle.ob_tables.proofs.HeldLemmas.{held_headings}

-- ---- the answer to its first row
pub first_answered : (answers : List Inserted) → IsAnswered (given_next None answers)
first_answered [] = is_answered Done
first_answered (answer ∷ answers) = is_answered answer

first_silent : (answers : List Inserted) → HasNoRows (given_next None answers)
first_silent [] = tt
first_silent (answer ∷ answers) = silent_inserted answer

-- ---- what the rows of a batch make of a table
module _ (p : Public) (m : ℕ) (name : List ℕ) (heading : Heading) (flat : heading.shape ≡ FlatShape) (none : has_index p name ≡ false)
    (first : Stmt) (rest : List Stmt) (named : inserts_into (skeleton first) ≡ Some name) (alike : All (names_it p m name heading flat none) rest) (now : refusal_now p m first ≡ None) where
  abbrev pub batch_rows : List Row
  batch_rows = row_of heading.schema first ∷ rows_in (is_late m) p heading.schema rest

  -- over tables in place of which it is one
  pub record MeansBatch (tables : Tables) (slots : Slots) : Type 0 where
    pub to : Slots → Slots
    pub settles : (d : Draws) → settle_all d p m (first ∷ rest) tables ≡ changed_at name (in_slots to) tables
    pub here : to slots ≡ inserted_all heading.schema batch_rows slots
    pub answer : given_next None (insert_answers heading.schema batch_rows slots) ≡ outcome_of first (verdict p m tables first)
    pub answers : (d : Draws) → given_all (answers_behind None (insert_answers heading.schema batch_rows slots)) (map (refusal_by (is_late m) p) rest) ≡ outcomes_behind d p m first rest tables

  pub means_batch : (tables : Tables) (x : Stored Held) → headings tables ≡ headings_of p.tables → stored_at name tables ≡ Some x → length x.held.slots ≡ x.heading.capacity → x.heading ≡ heading
      → MeansBatch tables x.held.slots
  means_batch tables x headed found size same =
      let stands : StandsIn p m name heading flat none tables x.held = record {
        headed = headed;
        found = found ∙ (λ i. Some (record { heading = same i; held = x.held }));
        size = size ∙ ap (λ (h : Heading). h.capacity) same;
      } in
      let is = puts p m name heading flat none tables x.held stands first named now in
      let change = change_by p m name heading flat none first x.held in
      let others = means_rows p m name heading flat none rest (changed_at name (in_slots change) tables) (in_slots change x.held) alike is.stands in
      record {
        to = λ slots. others.to (change slots);
        settles = λ d. ap (settle_all d p m rest) (is.settles d) ∙ others.settles d ∙ changed_twice name change others.to tables;
        here = others.here;
        answer = is.answered_so;
        answers = λ d. others.answers d ∙ ap (λ (ts : Tables). outcomes_of rest (verdicts d p m rest ts)) (sym (is.settles d));
      }

  alters_as : (x : Stmt) → x ≡ first → IsInsert name x → (cs : Columns) → cs ≡ heading.schema → Alters p m x rest name heading insert_part (given_next None) (insert_answers cs batch_rows) (inserted_all cs batch_rows)
  alters_as x same insert cs schema_is =
      subst (λ (stmt : Stmt). Alters p m stmt rest name heading insert_part (given_next None) (insert_answers cs batch_rows) (inserted_all cs batch_rows)) (sym insert.is) (record {
        script = λ end. refl;
        leaves = refl;
        more = λ t g blocks size behind. count_part t blocks ++ (copy_part t g blocks ++ behind);
        makes = λ t g blocks size behind. refl;
        tables = refl;
        answers = first_answered;
        silent = first_silent;
        plain = refl;
        makes_none = tt;
        unindexed = λ none. none;
        meant = λ tables y headed unread early found size is.
            let meant = means_batch tables y headed found size is in
            let of_first : first ≡ Insert name insert.columns insert.values = sym same ∙ insert.is in
            record {
              to = meant.to;
              answered = ap (λ (c : Columns). given_next None (insert_answers c batch_rows y.held.slots)) schema_is ∙ meant.answer ∙ ap (λ (stmt : Stmt). outcome_of stmt (verdict p m tables stmt)) of_first;
              settles = λ d. ap (λ (stmt : Stmt). settle_all d p m (stmt ∷ rest) tables) (sym of_first) ∙ meant.settles d;
              here = meant.here ∙ ap (λ (c : Columns). inserted_all c batch_rows y.held.slots) (sym schema_is);
            };
      })

  pub batch_alters : (cs : Columns) → cs ≡ heading.schema → Alters p m first rest name heading insert_part (given_next None) (insert_answers cs batch_rows) (inserted_all cs batch_rows)
  batch_alters cs schema_is = alters_as first refl (insert_is name first named) cs schema_is

-- ---- a batch by how it ended
pub batch_as : {R : Type 0} (state : R → RevState) (first : Stmt) (rest : List Stmt) (outcomes : List Outcome) (old : Engine R) (s : StoreState) (new : Engine R) (t : StoreState) (result q : Result Outcome RunStop)
    → result ≡ q → ServesSilently state first rest result old s new t
    → IfOk q (λ outcome. AreServedWith old.public (count_of old s) (is_fault outcome) rest outcomes)
    → ((tables : Tables) (d : Draws) → ReadsTrue state old s t tables → IfOk q (λ outcome. by_fault (is_fault outcome) ⊤ (outcomes ≡ outcomes_behind d old.public (count_of old s) first rest tables)))
    → ServesBatch state first rest result outcomes old s new t
batch_as state first rest outcomes old s new t result q same serves others told = record {
  serves = serves;
  others = subst (λ (r : Result Outcome RunStop). IfOk r (λ outcome. AreServedWith old.public (count_of old s) (is_fault outcome) rest outcomes)) (sym same) others;
  told = λ tables d reads.
      subst (λ (r : Result Outcome RunStop). IfOk r (λ outcome. by_fault (is_fault outcome) ⊤ (outcomes ≡ outcomes_behind d old.public (count_of old s) first rest tables))) (sym same)
      (told tables d reads);
}

-- a pass gave up
module _ (p : Public) (m : ℕ) (rest : List Stmt) (outcomes : List Outcome) (are : outcomes ≡ map failed_by (map (refusal_by (is_late m) p) rest)) where
  pub cut_others : (e : OpErr) → IfOk (answer_of e) (λ outcome. AreServedWith p m (is_fault outcome) rest outcomes)
  cut_others OpErrs.Failed = subst (λ (os : List Outcome). AreServedWith p m true rest os) (sym are) (all_failed p m rest)
  cut_others other = tt

  pub cut_told : (P : Type 0) (e : OpErr) → IfOk (answer_of e) (λ outcome. by_fault (is_fault outcome) ⊤ P)
  cut_told P OpErrs.Failed = tt
  cut_told P (OpErrs.Tampered q x) = tt
  cut_told P OpErrs.Sink = tt
  cut_told P OpErrs.NoMemory = tt

-- it came to its end
pub put_others : (p : Public) (m : ℕ) (rest : List Stmt) (answers given : List Inserted) (outcomes : List Outcome) → outcomes ≡ given_all given (map (refusal_by (is_late m) p) rest)
    → AreServedWith p m (is_fault (given_next None answers)) rest outcomes
put_others p m rest answers given outcomes are =
    subst (λ (b : Bool). AreServedWith p m b rest outcomes) (sym (first_answered answers).own)
    (subst (λ (os : List Outcome). AreServedWith p m false rest os) (sym are) (all_given p m rest given))

pub put_told : (answers : List Inserted) (P : Type 0) → P → by_fault (is_fault (given_next None answers)) ⊤ P
put_told answers P is = told_whole (given_next None answers) P ⊤ (first_answered answers) is

-- ---- a batch isn't late
module _ (p : Public) (m : ℕ) (early : m + 2 ^ 50 < 2 ^ 63) where
  pub not_late : is_late m ≡ false
  not_late = let less : m < 2 ^ 63 = omega (arith, early) in lt-leb (2 ^ 63) m less

  pub early_now : (rest : List Stmt) → map (refusal_by false p) rest ≡ map (refusal_by (is_late m) p) rest
  early_now rest = ap (λ (late : Bool). map (refusal_by late p) rest) (sym not_late)

  pub rows_now : (cs : Columns) (rest : List Stmt) → rows_in false p cs rest ≡ rows_in (is_late m) p cs rest
  rows_now cs rest = ap (λ (late : Bool). rows_in late p cs rest) (sym not_late)

-- ---- its rows are no more than may be open beside those of a block
most_few : (o : Option ℕ) (free : ℕ) → 2 ≤ option_map_or (λ m. max 1 (min m free)) o 1 → option_map_or (λ m. max 1 (min m free)) o 1 ≤ free
most_few None free two = absurd (omega (arith, two))
most_few (Some m) free two = omega (arith, two)

pub rows_within : (p : Public) (m : ℕ) (cs : Columns) (first : Stmt) (rest : List Stmt) → 2 ≤ batch_most p → length rest < batch_most p → p.pack + length (row_of cs first ∷ rows_in (is_late m) p cs rest) ≤ p.buffer
rows_within p m cs first rest two few =
    let most = most_few p.batch (p.buffer - p.pack) two in
    let rows = rows_few (is_late m) p cs rest in
    omega (arith, most, rows, few, two)

-- ---- what a batch begins with
module _ (p : Public) (m : ℕ) (first : Stmt) (rest : List Stmt) (are : AreBatch p m first rest) where
  abbrev pub begun : Begins p m first
  begun = begins p m first are.begins

  pub all_insert : All (λ stmt. IsSome (inserts_into (skeleton stmt))) rest
  all_insert k d inside = subst (λ (o : Option (List ℕ)). IsSome o) (sym (are.alike k d inside)) begun.inserts

  module _ (name : List ℕ) (named : inserts_into (skeleton first) ≡ Some name) where
    pub all_named : All (λ stmt. inserts_into (skeleton stmt) ≡ Some name) rest
    all_named k d inside = are.alike k d inside ∙ named

    abbrev insert : IsInsert name first
    insert = insert_is name first named

    pub name_flat : has_index p name ≡ false
    name_flat = ap (λ (stmt : Stmt). is_access p (skeleton stmt)) (sym insert.is) ∙ begun.flat

    pub name_there : has_table name (headings_of p.tables) ≡ true
    name_there =
        is_there (has_table name (headings_of p.tables))
        (allowed (is_late m) (limits_of p) (headings_of p.tables) (Insert name insert.columns insert.values) (ap (refusal_now p m) (sym insert.is) ∙ begun.accepted)).tables

    module _ (heading : Heading) (cs : Columns) (schema_is : cs ≡ heading.schema) (rows : List Row) (rows_is : rows ≡ row_of cs first ∷ rows_in false p cs rest) where
      pub rows_same : rows ≡ row_of heading.schema first ∷ rows_in (is_late m) p heading.schema rest
      rows_same = rows_is ∙ (λ i. row_of (schema_is i) first ∷ rows_in false p (schema_is i) rest) ∙ ap (λ (more : List Row). row_of heading.schema first ∷ more) (rows_now p m begun.room heading.schema rest)

      pub rows_open : p.pack + length rows ≤ p.buffer
      rows_open = let within = rows_within p m heading.schema first rest begun.most are.few in let same = ap length rows_same in omega (arith, within, same)

      -- each fits the table
      pub rows_are_fit : heading.shape ≡ FlatShape → heading_at name (headings_of p.tables) ≡ Some heading → has_repeats bytes_eq (map (λ (c : Column). c.name) heading.schema) ≡ false → All (All IsCell) rows → AreFit cs rows
      rows_are_fit flat found apart held =
          let row = row_of heading.schema first in
          let more = rows_in (is_late m) p heading.schema rest in
          let cells = subst (λ (rs : List Row). All (All IsCell) rs) rows_same held in
          let fit = All-cons (FitsColumns heading.schema) row more
          (row_fits p m name heading flat name_flat found apart first named begun.accepted (All-head (All IsCell) row more cells))
          (rows_fit p m name heading flat name_flat found apart rest all_named (All-tail (All IsCell) row more cells)) in
          let all = subst (λ (rs : List Row). All (FitsColumns heading.schema) rs) (sym rows_same) fit in
          subst (λ (c : Columns). AreFit c rows) (sym schema_is) (λ j inside. all j [] inside)

  pub few_rest : AreSettings p → length rest < 65536
  few_rest settings =
      let most = most_few p.batch (p.buffer - p.pack) begun.most in
      let few = are.few in
      let buffer = settings.most in
      let pack = settings.pack_least in
      omega (arith, most, few, buffer, pack)

-- ---- it was carried out
module _ {R : Type 0} (state : R → RevState) (first : Stmt) (rest : List Stmt) (old : Engine R) (s s1 : StoreState) (v : Vault R) (room : RoomState) (t : StoreState) (i : ℕ) (flat left : Flat)
    (agrees : Agrees state old s) (rests : ChangesNothing s s1) (uses : UsesRoom old.room room) (are : AreBatch old.public (count_of old s) first rest) (name : List ℕ) (named : inserts_into (skeleton first) ≡ Some name)
    (found : IsFound name i flat old.public.tables) (rows : List Row) (rows_is : rows ≡ row_of flat.schema first ∷ rows_in false old.public flat.schema rest) where
  abbrev p : Public
  p = old.public

  abbrev m : ℕ
  m = count_of old s

  abbrev table : Table
  table = found.table

  abbrev all_rows : List Row
  all_rows = row_of table.heading.schema first ∷ rows_in (is_late m) p table.heading.schema rest

  begins_now : Begins p m first
  begins_now = begun p m first rest are

  unindexed : has_index p name ≡ false
  unindexed = name_flat p m first rest are name named

  schema_as : flat.schema ≡ table.heading.schema
  schema_as = ap (λ (f : Flat). f.schema) found.is

  shape : table.heading.shape ≡ FlatShape
  shape = shape_found name p.tables i table agrees.tables.names found.here.get found.here.named unindexed

  same_rows : rows ≡ all_rows
  same_rows = rows_same p m first rest are name named table.heading flat.schema schema_as rows rows_is

  alters : Alters p m first rest name table.heading insert_part (given_next None) (insert_answers flat.schema all_rows) (inserted_all flat.schema all_rows)
  alters = batch_alters p m name table.heading shape unindexed first rest named (all_named p m first rest are name named) begins_now.accepted flat.schema schema_as

  early_as : (early : List (Option Refusal)) → early ≡ map (refusal_by false p) rest → early ≡ map (refusal_by (is_late m) p) rest
  early_as early is = is ∙ early_now p m begins_now.room rest

  of_rows : {T : Type 0} (former : Former) (answers : List Inserted) (result : Result T OpErr) → InsertsAll former old.room.pack flat left rows answers result (at state old.vault s1) (at state v t)
      → InsertsAll former old.room.pack flat left all_rows answers result (at state old.vault s1) (at state v t)
  of_rows former answers result inserts = subst (λ (rs : List Row). InsertsAll former old.room.pack flat left rs answers result (at state old.vault s1) (at state v t)) same_rows inserts

  -- to its end
  pub put_batch : (T : Type 0) (x : T) (former : Former) → former ≡ former_of p → (answers : List Inserted) → InsertsAll former old.room.pack flat left rows answers (Ok x) (at state old.vault s1) (at state v t) → old.ended ≡ false
      → (early : List (Option Refusal)) (outcomes : List Outcome) → early ≡ map (refusal_by false p) rest → outcomes ≡ given_all (answers_behind None answers) early → (new : Engine R) (result : Result Outcome RunStop) → result ≡ Ok (given_next None answers)
      → new ≡ engine_after old v room (slice_set p.tables i (record table { region = left.region })) Whole old.ended → ServesBatch state first rest result outcomes old s new t
  put_batch T x former former_is answers inserts lives early outcomes early_is given new result answered is =
      let put = of_rows former answers (Ok x) inserts in
      let given_as : outcomes ≡ given_all (answers_behind None answers) (map (refusal_by (is_late m) p) rest) = given ∙ ap (given_all (answers_behind None answers)) (early_as early early_is) in
      batch_as state first rest outcomes old s new t result (Ok (given_next None answers)) answered
      (mutated state first name insert_part (given_next None) (insert_answers flat.schema all_rows) (inserted_all flat.schema all_rows) old s s1 v room t i table flat left agrees rests uses found.here found.is begins_now.accepted begins_now.flat alters
      former former_is answers new result put lives answered is)
      (put_others p m rest answers (answers_behind None answers) outcomes given_as)
      (λ tables d reads.
      let told = told_slots state first name insert_part (given_next None) (insert_answers flat.schema all_rows) (inserted_all flat.schema all_rows) old s s1 v room t i table flat left agrees rests uses found.here found.is begins_now.accepted begins_now.flat alters
      former former_is answers put tables reads in
      let y = told.0.table in
      let size : length y.held.slots ≡ y.heading.capacity = told.0.represents.size ∙ ap (λ (h : Heading). h.capacity) (sym told.0.heading) in
      let meant = means_batch p m name table.heading shape unindexed first rest named (all_named p m first rest are name named) begins_now.accepted tables y
      (held_headings p.pack old.indexes.items p.tables tables (world_of state old s) reads.held.held) told.0.found size told.0.heading in
      put_told answers (outcomes ≡ outcomes_behind d p m first rest tables)
      (given_as
      ∙ ap (λ (l : List Inserted). given_all (answers_behind None l) (map (refusal_by (is_late m) p) rest)) (told.1 ∙ ap (λ (c : Columns). insert_answers c all_rows y.held.slots) schema_as)
      ∙ meant.answers d))

  -- its pass gave up
  pub cut_batch : (T : Type 0) (former : Former) → former ≡ former_of p → (answers : List Inserted) (e : OpErr) → InsertsAll {T = T} former old.room.pack flat left rows answers (Err e) (at state old.vault s1) (at state v t)
      → (n : ℕ) → n ≡ length t.asked - length s.asked → (early : List (Option Refusal)) (outcomes : List Outcome) → early ≡ map (refusal_by false p) rest → outcomes ≡ map failed_by early → (new : Engine R) (result : Result Outcome RunStop) → result ≡ answer_of e
      → new ≡ engine_after old v room p.tables (Cut n) (is_stop (answer_of e)) → ServesBatch state first rest result outcomes old s new t
  cut_batch T former former_is answers e inserts n count early outcomes early_is failed new result answered is =
      let cut = of_rows {T = T} former answers (Err e) inserts in
      let failed_as : outcomes ≡ map failed_by (map (refusal_by (is_late m) p) rest) = failed ∙ ap (map failed_by) (early_as early early_is) in
      batch_as state first rest outcomes old s new t result (answer_of e) answered
      (unmutated state first name insert_part (given_next None) (insert_answers flat.schema all_rows) (inserted_all flat.schema all_rows) old s s1 v room t i table flat left agrees rests uses found.here found.is begins_now.accepted begins_now.flat alters
      former former_is e n new result cut count answered is)
      (cut_others p m rest outcomes failed_as e)
      (λ tables d reads. cut_told p m rest outcomes failed_as (outcomes ≡ outcomes_behind d p m first rest tables) e)

-- memory was wanted before the first access
pub batch_unasked : {R : Type 0} (state : R → RevState) (first : Stmt) (rest : List Stmt) (outcomes : List Outcome) (old : Engine R) (s s1 : StoreState) → Agrees state old s → AreBatch old.public (count_of old s) first rest → ChangesNothing s s1
    → (name : List ℕ) → inserts_into (skeleton first) ≡ Some name → (new : Engine R) (result : Result Outcome RunStop) → result ≡ Err NoMemory → new ≡ engine_after old old.vault old.room old.public.tables (Cut 0) true
    → ServesBatch state first rest result outcomes old s new s1
batch_unasked state first rest outcomes old s s1 agrees are rests name named new result answered is =
    let begins_now = begun old.public (count_of old s) first rest are in
    let insert = insert_is name first named in
    batch_as state first rest outcomes old s new s1 result (Err NoMemory) answered
    (serves_as state first old s s1 result (Err NoMemory) new _ answered is
    (unasked state first old s agrees begins_now.accepted (ap (λ (stmt : Stmt). selects_rows stmt) insert.is) begins_now.flat (subst (λ (stmt : Stmt). MakesFlat (skeleton stmt)) (sym insert.is) tt) s1 old.public.tables rests))
    tt (λ tables d reads. tt)
