-- A statement that accesses an index, by its meaning.
use Rattle.std.proofs.Common.{◌≡◌, ◌<◌, ◌≤◌, ℕ, ℤ, Bool, true, false, List, [], Option, Some, None, filter, refl, sym, ◌∙◌, ap, subst, arith}
use Rattle.std.specs.Prelude.{count_by, is_some, nat_lt, if◌then◌else◌}
use Rattle.std.specs.Option.{is_none, option_and_then, option_map, option_map_or, option_or}
use Rattle.std.proofs.lemmas.Bool.Decides.{nat_tests}
use Rattle.std.proofs.lemmas.List.{length-map}
use Rattle.ob_base.specs.declared.config.Public.{Public}
use Rattle.ob_base.specs.declared.refusal.Refusal.{Refusal}
use Rattle.ob_base.specs.declared.refusal.Refusal.TheVariants as R
use Rattle.ob_base.specs.declared.schema.Heading.{Heading}
use Rattle.ob_base.specs.declared.schema.Shape.{Shape}
use Rattle.ob_base.specs.declared.skeleton.Source.{Source}
use Rattle.ob_base.specs.declared.skeleton.Source.TheVariants.{Table as OneTable, Join}
use Rattle.ob_base.specs.Indexes.{height_of}
use Rattle.ob_base.specs.Limits.{buffered}
use Rattle.ob_base.specs.Stored.{Stored, headings, stored_at}
use Rattle.ob_path.specs.Access.{Got, Went, Absent, Found, Done, Duplicate, OutOfRange}
use Rattle.ob_row.specs.Keys.{key_at, key_in}
use Rattle.ob_row.specs.Rows.{Row, has_key}
use Rattle.ob_row.specs.Slots.{rows}
use Rattle.ob_row.specs.Truth.{is_true}
use Rattle.ob_row.specs.Totals.{printed}
use Rattle.ob_sql.specs.declared.stmt.Literal.{Literal}
use Rattle.ob_sql.specs.declared.stmt.Stmt.{Stmt}
use Rattle.ob_sql.specs.declared.stmt.Stmt.TheVariants.{Create, Insert, Update, Delete, Drop as DropTable, SelectRows as RowsStmt, SelectTotals as TotalsStmt}
use Rattle.ob_sql.specs.Search.{Search}
use Rattle.ob_names.specs.Names.{columns_at, source_columns}
use Rattle.ob_mean.specs.declared.answer.Answer.TheVariants as A
use Rattle.ob_mean.specs.Conditions.{where_at}
use Rattle.ob_mean.specs.Keyed.{Ask, Find, Put, Set, Take, ask_of, one_table}
use Rattle.ob_mean.specs.Refusals.{key_asked, limits_of}
use Rattle.ob_mean.specs.Settle.{settle_served}
use Rattle.ob_mean.specs.Step.{accepted_answer, answered, late_refusal, new_row, printed_places, rows_answer, rows_at, select_columns, set_cells, source_rows}
use Rattle.ob_mean.specs.Verdict.{Accessed, Draws, Held, IsIndexed, Tables, access_settled, accessed, accessed_now, database, gone, index_of, is_late, keyed_table, last_refusal, next_draw, refusal, rows_refusal, selected_places, tree_size, verdict}
use Rattle.ob_mean.proofs.VerdictLemmas.{IsAccess, access_is, accessed_late, headings-database, refused_late, stored-database}
use Rattle.ob_verdict.specs.Answering.{Answered, PutAnswer, changed, found}
use Rattle.ob_verdict.specs.Asking.{key_is}
use Rattle.ob_verdict.specs.Laws.{AreInPlace, HoldsByShape, IsStarted}
use Rattle.ob_verdict.specs.declared.outcome.Outcome.TheVariants as O
use Rattle.ob_verdict.specs.Outcomes.{outcome_of}
use Rattle.ob_verdict.proofs.AccessProof.{all_rows, asked_of, next_of, where_is}
use Rattle.ob_verdict.proofs.AccessedProof.{refusal_is, schema_is}
use Rattle.ob_verdict.proofs.GotProof.{answers}
use Rattle.ob_verdict.proofs.InPlaceProof.{place_at}
use Rattle.ob_verdict.proofs.SeenProof.{access_shows_leaf}
use Rattle.ob_keyed.specs.Answering.{got_answer, got_outcome, put_answer, put_outcome}
use Rattle.ob_keyed.specs.Meant.{AccessesMean, AnswersStmt, MeansAccess}

-- ---- an answer as an outcome
put_is : (table : List ℕ) (columns : Option (List (List ℕ))) (values : List Literal) (got : Got Row) → outcome_of (Insert table columns values) (put_answer got) ≡ put_outcome got
put_is table columns values Absent = refl
put_is table columns values other = refl

pub outcome_is : (stmt : Stmt) (hs : List Heading) (got : Got Row) → outcome_of stmt (got_answer stmt hs got) ≡ got_outcome stmt got
outcome_is (Insert table columns values) hs got = put_is table columns values got
outcome_is (RowsStmt q) hs got = ap (λ (n : ℕ). O.Rows n) (length-map (found got) (printed (printed_places q (select_columns q hs))))
outcome_is other hs got = refl

-- ---- what refuses it
or_none : (o : Option Refusal) → option_or o None ≡ o
or_none None = refl
or_none (Some r) = refl

no_last : (p : Public) (ts : Tables) (stmt : Stmt) (a : Accessed) → accessed ts stmt ≡ Some a → last_refusal p ts stmt ≡ None
no_last p ts (RowsStmt q) a is = ap (λ (o : Option Accessed). if is_some o then None else rows_refusal p (selected_places p q ts)) is
no_last p ts other a is = refl

-- an INSERT is refused where its key is there, or is none of the index
put_by : (there within : Bool) (got : Got Row) → (there ≡ true → got ≡ Duplicate) → (there ≡ false → within ≡ true → got ≡ Done) → (there ≡ false → within ≡ false → got ≡ OutOfRange)
    → answered (if there then Some R.Duplicate else (if within then None else Some R.KeyRange)) A.Done ≡ put_answer got
put_by true within got twice done off = sym (ap put_answer (twice refl))
put_by false true got twice done off = sym (ap put_answer (done refl refl))
put_by false false got twice done off = sym (ap put_answer (off refl refl))

-- ---- the table of a name
rows_found : (name : List ℕ) (ts : Tables) (t : Stored Held) → stored_at name ts ≡ Some t → rows_at name (database ts) ≡ rows t.held.slots
rows_found name ts t found =
    ap (λ (o : Option (Stored (List Row))). option_map_or (λ (u : Stored (List Row)). u.held) o [])
    (stored-database name ts ∙ ap (option_map (λ (u : Stored Held). record { heading = u.heading; held = rows u.held.slots })) found)

columns_found : (name : List ℕ) (ts : Tables) (t : Stored Held) → stored_at name ts ≡ Some t → columns_at name (headings (database ts)) ≡ t.heading.schema
columns_found name ts t found = ap (columns_at name) (headings-database ts) ∙ schema_is name ts t found

-- the rows that a WHERE by a key finds there
module _ (name : List ℕ) (ts : Tables) (t : Stored Held) (found_at : stored_at name ts ≡ Some t) (cond : Option Search) (z : ℤ) (asked : key_asked t.heading.schema cond ≡ Some z) where
  test_is : where_at cond (columns_at name (headings (database ts))) ≡ key_is (key_at t.heading.schema) z
  test_is = ap (where_at cond) (columns_found name ts t found_at) ∙ where_is t.heading.schema cond z asked

  count_is : (got : Got Row) → count_by (is_true (key_is (key_at t.heading.schema) z)) (rows t.held.slots) ≡ changed got
      → count_by (is_true (where_at cond (columns_at name (headings (database ts))))) (rows_at name (database ts)) ≡ changed got
  count_is got is = (λ j. count_by (is_true (test_is j)) (rows_found name ts t found_at j)) ∙ is

  filter_is : (got : Got Row) → filter (is_true (key_is (key_at t.heading.schema) z)) (rows t.held.slots) ≡ found got
      → filter (is_true (where_at cond (columns_at name (headings (database ts))))) (rows_at name (database ts)) ≡ found got
  filter_is got is = (λ j. filter (is_true (test_is j)) (rows_found name ts t found_at j)) ∙ is

-- ---- the answer
module _ (d : Draws) (p : Public) (m : ℕ) (ts : Tables) (stmt : Stmt) (a : Accessed) (early : IsStarted p m ts stmt) (place : AreInPlace p.stash ts) (is : accessed ts stmt ≡ Some a) where
  abbrev n : ℕ
  n = a.table.heading.capacity

  abbrev i : ℕ
  i = key_at a.table.heading.schema

  abbrev late : Option Refusal
  late = late_refusal (buffered p.pack p.buffer) (database ts) stmt

  access : IsAccess ts stmt a
  access = access_is ts stmt a is

  pub indexed : IsIndexed a.table
  indexed = subst (λ (s : Shape). HoldsByShape s a.table) access.indexed
      (place_at p.stash a.table.heading.name ts a.table (next_of ts stmt a.table a.ask access.found access.asked).0 place).shaped

  now : accessed_now p m ts stmt ≡ Some a
  now = accessed_late p m ts stmt early ∙ is

  refused : refusal p m ts stmt ≡ late
  refused = refused_late p m ts stmt early ∙ ap (option_or late) (no_last p ts stmt a is) ∙ or_none late

  verdict_is : verdict p m ts stmt ≡ answered late (accepted_answer (database ts) stmt)
  verdict_is = ap (λ (o : Option Refusal). answered o (accepted_answer (database ts) stmt)) refused

  module _ (w : Went Row) (goes : gone d a ≡ Some w) where
    got_is : Answered n i a.ask (rows a.table.held.slots) w.got
    got_is = subst (λ (all : List Row). Answered n i a.ask all w.got) (all_rows (tree_size a.table.heading) a.table.held.slots)
        (answers n i (height_of n) (next_draw d) (index_of a.table.heading a.table.held) a.ask w indexed.leaves indexed.stands goes)

    got_of : (ask : Ask) → a.ask ≡ ask → Answered n i ask (rows a.table.held.slots) w.got
    got_of ask same = subst (λ (b : Ask). Answered n i b (rows a.table.held.slots) w.got) same got_is

    answer_put : (row : Row) → PutAnswer n i row (rows a.table.held.slots) w.got
        → answered (if has_key (Some i) row (rows a.table.held.slots) then Some R.Duplicate else (if nat_lt (key_in a.table.heading row) n then None else Some R.KeyRange)) A.Done ≡ put_answer w.got
    answer_put row put = put_by (has_key (Some i) row (rows a.table.held.slots)) (nat_lt (key_in a.table.heading row) n) w.got
        (λ there. put.duplicate.1 there)
        (λ there within. let below : key_in a.table.heading row < n = grind (arith, nat_tests) in put.done.1 (there, below))
        (λ there within. let past : n ≤ key_in a.table.heading row = grind (arith, nat_tests) in put.range.1 past)

    -- by the kind of the statement
    answer_by : (s : Stmt) → keyed_table ts s ≡ Some a.table → ask_of a.table.heading s ≡ Some a.ask
        → answered (late_refusal (buffered p.pack p.buffer) (database ts) s) (accepted_answer (database ts) s) ≡ got_answer s (headings ts) w.got
    answer_by (Insert table columns values) there asked =
        let row : Row = new_row a.table.heading.schema columns values in
        let ask_is : a.ask ≡ Put row = cc asked in
        ap (λ (o : Option Refusal). answered o A.Done)
        (refusal_is (buffered p.pack p.buffer) (next_draw d) (is_late m) (limits_of p) ts a.table w indexed access.indexed table columns values there)
        ∙ answer_put row (got_of (Put row) ask_is)
    answer_by (Update table sets cond) there asked =
        let cells = set_cells sets a.table.heading.schema in
        let b = asked_of a.table.heading.schema cond (λ (z : ℤ). Set z cells) a.ask asked in
        ap (λ (k : ℕ). A.Changed k) (count_is table ts a.table there cond b.number b.asked w.got (got_of (Set b.number cells) b.is))
    answer_by (Delete table cond) there asked =
        let b = asked_of a.table.heading.schema cond Take a.ask asked in
        ap (λ (k : ℕ). A.Changed k) (count_is table ts a.table there cond b.number b.asked w.got (got_of (Take b.number) b.is))
    answer_by (RowsStmt q) there asked = of_source q.source there
      where
        of_source : (source : Source) → option_and_then (λ name. stored_at name ts) (one_table source) ≡ Some a.table
            → A.Rows (rows_answer q (source_columns source (headings (database ts))) (filter (is_true (where_at q.cond (source_columns source (headings (database ts))))) (source_rows source (database ts))))
            ≡ A.Rows (rows_answer q (source_columns source (headings ts)) (found w.got))
        of_source (OneTable name) there =
            let b = asked_of a.table.heading.schema q.cond Find a.ask asked in
            λ j. A.Rows (rows_answer q (columns_at name (headings-database ts j)) (filter_is name ts a.table there q.cond b.number b.asked w.got (got_of (Find b.number) b.is) j))
        of_source (Join l r on equals) there = absurd (cc there)
    answer_by other there asked = absurd (cc there)

    answer : verdict p m ts stmt ≡ got_answer stmt (headings ts) w.got
    answer = verdict_is ∙ answer_by stmt access.found access.asked

    answers_stmt : AnswersStmt d p m ts stmt a w
    answers_stmt = record {
      room = ap (λ (o : Option Accessed). option_map_or (λ b. is_none (gone d b)) o false) now ∙ ap (λ (o : Option (Went Row)). is_none o) goes;
      answer = answer;
      outcome = ap (outcome_of stmt) answer ∙ outcome_is stmt (headings ts) w.got;
      settled = ap (λ (o : Option Accessed). settle_served d o p m ts stmt) now ∙ ap (λ (o : Option (Went Row)). option_map_or (access_settled ts a.table) o ts) goes;
    }

  means_access : MeansAccess d p m ts stmt a
  means_access = record {
    shown = access_shows_leaf d p m ts stmt a early is;
    answers = λ w goes. answers_stmt w goes;
    full = λ none. ap (λ (o : Option Accessed). option_map_or (λ b. is_none (gone d b)) o false) now ∙ ap (λ (o : Option (Went Row)). is_none o) none;
  }

pub accesses_mean : AccessesMean
accesses_mean d p m ts stmt a early place is = means_access d p m ts stmt a early place is
