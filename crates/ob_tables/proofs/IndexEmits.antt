-- What a statement on an index emits.
use Rattle.ob_tables.proofs.Words.{Agrees, Answer, answer_labels, ap, arith, Columns, count_of, draw_at, DrawPlace, Draws, EmitErr, EmitsGot, Engine, Event, FitsColumns, Global, Got, got_in, got_outcome, HasNoRows, Heading, headings, headings_of, Index, IsAccessed, IsDone, Join, Keyed, length, length-map, List, None, Ok, Option, option_map_or, printed_places, ReadsTrue, refl, refusal_now, Result, RevState, RoomState, selects_rows, Source, Stmt, StoreState, subst, sym, Tables, Vault, Vec, verdict, world_of, ℕ, [], ◌++◌, ◌<◌, ◌^◌, ◌∙◌, ◌∷◌, ◌≡◌}
use Rattle.ob_base.specs.declared.shown.Shown.{Shown}
use Rattle.ob_base.specs.declared.skeleton.Source.TheVariants.{Table as OneTable}
use Rattle.ob_base.specs.Events.{Head, Close, Leads, Row as RowEvent, row_events}
use Rattle.ob_store.specs.Calls.{ChangesNothing}
use Rattle.ob_vault.specs.Places.{at}
use Rattle.ob_emit.specs.Emitting.{labels_of}
use Rattle.ob_path.specs.Access as Tree
use Rattle.ob_row.specs.Rows.{Row}
use Rattle.ob_sql.specs.declared.stmt.SelectRows.{SelectRows}
use Rattle.ob_sql.specs.declared.stmt.Stmt.TheVariants.{Create, Insert, Update, Delete, Drop as DropTable, SelectRows as RowsStmt, SelectTotals as TotalsStmt}
use Rattle.ob_mean.specs.Keyed.{one_table}
use Rattle.ob_mean.specs.Prints.{Prints}
use Rattle.ob_mean.specs.Step.{rows_answer, select_columns}
use Rattle.ob_mean.specs.declared.answer.Answer.TheVariants as A
use Rattle.std.specs.List.{All}
use Rattle.ob_verdict.specs.Answering.{found}
use Rattle.ob_keyed.specs.Answering.{got_answer, put_answer}
use Rattle.ob_keyed.specs.Emitting.{AreShown, EmitsFound, answer_events}
use Rattle.ob_keyed.proofs.Found.{prints_found}
use Rattle.ob_tables.specs.Serving.{Answered}
use Rattle.ob_tables.proofs.FoundLemmas.{heading_found}
use Rattle.ob_tables.proofs.HeldLemmas.{held_headings}
use Rattle.ob_tables.proofs.IndexMeans.{stood, told_by}
use Rattle.ob_tables.proofs.IndexRuns.{got_answered, of_x}
use Rattle.ob_tables.proofs.SourceColumns.{labelled_is}
use Rattle.ob_tables.proofs.ServeLemmas.{IsBare, bare_prints, silent_emits}
use Rattle.ob_tables.proofs.ToldLemmas.{told_whole}
use Rattle.ob_verdict.proofs.RowEvents.{are_rows}

-- one row at most is found
found_few : (got : Tree.Got Row) → length (found got) < 2 ^ 32
found_few Tree.Absent = omega (arith)
found_few other = omega (arith)

put_bare : (got : Tree.Got Row) → IsBare (put_answer got)
put_bare Tree.Absent = tt
put_bare other = tt

put_silent : (table : List ℕ) (columns : Option (List (List ℕ))) (values : List Rattle.ob_sql.specs.declared.stmt.Literal.Literal) (got : Tree.Got Row) → HasNoRows (got_outcome (Insert table columns values) got)
put_silent table columns values Tree.Absent = tt
put_silent table columns values other = tt

module _ {R : Type 0} (state : R → RevState) (stmt : Stmt) (old : Engine R) (s s1 : StoreState) (v : Vault R) (room : RoomState) (t : StoreState) (k draw : ℕ) (keyed : Keyed) (indexes : Vec Index Global) (draws : DrawPlace)
    (agrees : Agrees state old s) (rests : ChangesNothing s s1) (now : refusal_now old.public (count_of old s) stmt ≡ None)
    (accessed : IsAccessed stmt k old.public.tables old.indexes.items)
    (done : IsDone stmt k draw keyed old.indexes.items indexes.items old.room room (at state old.vault s1) (at state v t))
    (drew : draw ≡ draw_at old.draws.key old.draws.next) (got : Got) (answers : keyed.result ≡ Ok got)
    {E : Type 0} (grew : E → E → List Event → Type 0) (starts : (a : E) → grew a a []) (out_old out_new : E) where
  -- draws of which the next is the one that was drawn
  abbrev here : Draws
  here = record { draw = λ n. draw; drawn = 0 }

  -- what a statement answers by its access
  verdict_at : (tables : Tables) → ReadsTrue state old s t tables → verdict old.public (count_of old s) tables stmt ≡ got_answer stmt (headings tables) (got_in got)
  verdict_at tables reads = (told_by state stmt old s s1 v room t k draw keyed indexes draws agrees rests now accessed done drew got answers tables here refl reads).answer

  -- nothing
  answered_bare : HasNoRows (got_outcome stmt (got_in got)) → ((hs : List Heading) → IsBare (got_answer stmt hs (got_in got))) → out_new ≡ out_old
      → Answered state grew stmt (got_outcome stmt (got_in got)) old s t out_old out_new
  answered_bare silent bare same = record {
    events = [];
    took = subst (λ (o : E). grew out_old o []) (sym same) (starts out_old);
    emits = silent_emits stmt (answer_labels stmt old.public) (got_outcome stmt (got_in got)) silent;
    told = λ tables reads. told_whole (got_outcome stmt (got_in got)) _ _ (got_answered stmt (got_in got))
        (subst (λ (a : Answer). Prints (answer_labels stmt old.public) a []) (sym (verdict_at tables reads)) (bare_prints (answer_labels stmt old.public) _ (bare (headings tables))));
  }

  -- the columns of the table of a SELECT
  columns_are : (q : SelectRows) → stmt ≡ RowsStmt q → (hs : List Heading) → hs ≡ headings_of old.public.tables → select_columns q hs ≡ done.before.schema
  columns_are q is hs same =
      by_source q.source refl
    where
      of : done.before.schema ≡ accessed.is.table.heading.schema
      of = (of_x state stmt old s s1 v room t k draw keyed indexes draws agrees rests now accessed done).schema

      by_source : (source : Source) → q.source ≡ source → select_columns q hs ≡ done.before.schema
      by_source (OneTable name) source_is =
          let name_is : name ≡ accessed.name = (let named = accessed.keyed in let one = ap one_table source_is in cc (named, is, one)) in
          ap (λ (x : Source). Rattle.ob_names.specs.Names.source_columns x hs) source_is
          ∙ (λ i. Rattle.ob_names.specs.Names.columns_at (name_is i) (same i))
          ∙ ap (λ (o : Option Heading). option_map_or (λ (h : Heading). h.schema) o [])
          (heading_found accessed.name old.public.tables accessed.place accessed.is.table agrees.tables.names accessed.is.here.get accessed.is.here.named)
          ∙ sym of
      by_source (Join a b on equals) source_is = (let named = accessed.keyed in let one = ap one_table source_is in absurd (cc (named, is, one)))

  -- the labels are the statement's
  labelled : (q : SelectRows) → stmt ≡ RowsStmt q → labels_of done.before.schema (printed_places q done.before.schema) ≡ answer_labels (RowsStmt q) old.public
  labelled q stmt_is =
      let columns = columns_are q stmt_is (headings_of old.public.tables) refl in
      (λ i. labels_of (sym columns i) (printed_places q (sym columns i))) ∙ labelled_is state old s q agrees (ap (λ (x : Stmt). refusal_now old.public (count_of old s) x) (sym stmt_is) ∙ now)

  -- these rows are what the answer prints
  pub found_prints : (q : SelectRows) → stmt ≡ RowsStmt q → (rows : List (List Shown)) → AreShown done.before.schema (printed_places q done.before.schema) (got_in got) rows → (tables : Tables) → ReadsTrue state old s t tables
      → Prints (answer_labels (RowsStmt q) old.public) (verdict old.public (count_of old s) tables (RowsStmt q)) (answer_events (labels_of done.before.schema (printed_places q done.before.schema)) rows)
  found_prints q stmt_is rows shown tables reads =
      let cols = printed_places q done.before.schema in
      let told = told_by state stmt old s s1 v room t k draw keyed indexes draws agrees rests now accessed done drew got answers tables here refl reads in
      let stood_is = stood state stmt old s s1 v room t k draw keyed indexes draws agrees rests now accessed done drew tables reads.held in
      let same = held_headings old.public.pack old.indexes.items old.public.tables tables (world_of state old s) reads.held.held in
      let fits = subst (λ (columns : Columns). All (FitsColumns columns) (found (got_in got)))
      (ap (λ (h : Heading). h.schema) stood_is.heading ∙ sym (of_x state stmt old s s1 v room t k draw keyed indexes draws agrees rests now accessed done).schema)
      (told.fits (ap selects_rows stmt_is)) in
      let verdict_is : verdict old.public (count_of old s) tables (RowsStmt q) ≡ A.Rows (rows_answer q done.before.schema (found (got_in got))) =
      ap (λ (x : Stmt). verdict old.public (count_of old s) tables x) (sym stmt_is) ∙ verdict_at tables reads
      ∙ ap (λ (x : Stmt). got_answer x (headings tables) (got_in got)) stmt_is
      ∙ ap (λ (columns : Columns). A.Rows (rows_answer q columns (found (got_in got)))) (columns_are q stmt_is (headings tables) same) in
      subst (λ (labels : List (List ℕ)). Prints labels (verdict old.public (count_of old s) tables (RowsStmt q)) (answer_events (labels_of done.before.schema cols) rows)) (labelled q stmt_is)
      (prints_found (labels_of done.before.schema cols) (verdict old.public (count_of old s) tables (RowsStmt q)) q done.before.schema cols (got_in got) rows shown fits refl verdict_is)

  -- a header, the row that was found, and the number of rows
  answered_found : (q : SelectRows) → stmt ≡ RowsStmt q → {T : Type 0} (result : Result T EmitErr) (cut : E → E → List Event → Type 0) (faults : E → ℕ)
      → (is : EmitsFound grew cut faults done.before.schema (printed_places q done.before.schema) (got_in got) result out_old out_new)
      → Leads grew grew out_old out_new (answer_events (labels_of done.before.schema (printed_places q done.before.schema)) is.rows)
      → Answered state grew (RowsStmt q) (got_outcome (RowsStmt q) (got_in got)) old s t out_old out_new
  answered_found q stmt_is result cut faults is leads = record {
    events = answer_events (labels_of done.before.schema (printed_places q done.before.schema)) is.rows;
    took = leads out_old [] (starts out_old);
    emits = record {
      rows = row_events is.rows;
      are_rows = are_rows is.rows;
      count = length-map is.rows RowEvent ∙ is.shown.count;
      few = found_few (got_in got);
      is = λ i. Head (labelled q stmt_is i) ∷ (row_events is.rows ++ Close (is.shown.count i) ∷ []);
    };
    told = λ tables reads. found_prints q stmt_is is.rows is.shown tables reads;
  }

  -- ---- by what it emitted
  module _ (cut : E → E → List Event → Type 0) (faults : E → ℕ) where
    answered_by : (z : Stmt) → stmt ≡ z → EmitsGot {T = Unit {0}} grew cut faults z done.before.schema (got_in got) (Ok tt) out_old out_new
        → Answered state grew stmt (got_outcome stmt (got_in got)) old s t out_old out_new × (faults out_new ≡ faults out_old)
    answered_by (Insert table columns values) is emits = (
      answered_bare (subst (λ (x : Stmt). HasNoRows (got_outcome x (got_in got))) (sym is) (put_silent table columns values (got_in got)))
          (λ hs. subst (λ (x : Stmt). IsBare (got_answer x hs (got_in got))) (sym is) (put_bare (got_in got))) emits.same,
      ap faults emits.same,
    )
    answered_by (Update table sets cond) is emits = (
      answered_bare (subst (λ (x : Stmt). HasNoRows (got_outcome x (got_in got))) (sym is) tt)
          (λ hs. subst (λ (x : Stmt). IsBare (got_answer x hs (got_in got))) (sym is) tt) emits.same,
      ap faults emits.same,
    )
    answered_by (Delete table cond) is emits = (
      answered_bare (subst (λ (x : Stmt). HasNoRows (got_outcome x (got_in got))) (sym is) tt)
          (λ hs. subst (λ (x : Stmt). IsBare (got_answer x hs (got_in got))) (sym is) tt) emits.same,
      ap faults emits.same,
    )
    answered_by (RowsStmt q) is emits = (
      subst (λ (x : Stmt). Answered state grew x (got_outcome x (got_in got)) old s t out_old out_new) (sym is)
          (answered_found q is (Ok tt) cut faults emits emits.gives.ok),
      emits.gives.cause,
    )
    answered_by other is emits = let named = accessed.keyed in absurd (cc (named, is))

    pub answered_got : EmitsGot {T = Unit {0}} grew cut faults stmt done.before.schema (got_in got) (Ok tt) out_old out_new
        → Answered state grew stmt (got_outcome stmt (got_in got)) old s t out_old out_new × (faults out_new ≡ faults out_old)
    answered_got emits = answered_by stmt refl emits
