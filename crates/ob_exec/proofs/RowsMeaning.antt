-- What a SELECT of rows means for the slots of its source.
use Rattle.ob_exec.proofs.Words.{accessed, Answer, answer_events, answer_labels, answered, ap, AreInPlace, arith, Bool, Close, closing, database, Draws, early_refusal, Event, false, Head, header, Heading, headings, headings_of, is_late, labels_of, length, length-map, limits_of, List, map, None, Option, Partly, places, printed_places, Prints, Public, refl, Refusal, row_events, rows, Same, Seen, select_columns, selected_outcome, Selection, selection, selection_answer, selection_seen, Shown, Slots, slots_of, Some, some_buffered, source_rows, subst, suc, sym, Tables, true, Unfinished, verdict, ℕ, [], ◌*◌, ◌++◌, ◌+◌, ◌∙◌, ◌∷◌, ◌≡◌, ◌≤◌}
use Rattle.std.proofs.Common.{cond}
use Rattle.std.specs.Prelude.{filter}
use Rattle.ob_base.specs.Lists.{places_from}
use Rattle.ob_base.specs.Plans.{IsPadded}
use Rattle.ob_row.specs.Rows.{Row}
use Rattle.ob_row.specs.Slots.{selected, is_selected}
use Rattle.ob_row.specs.Totals.{printed}
use Rattle.ob_row.specs.Truth.{is_true}
use Rattle.ob_row.proofs.BagLemmas.{Same-sym, Same-map, Same-filter}
use Rattle.ob_sql.specs.declared.stmt.SelectRows.{SelectRows}
use Rattle.ob_sql.specs.declared.stmt.Stmt.TheVariants.{SelectRows as RowsStmt}
use Rattle.ob_mean.specs.declared.answer.Answer.TheVariants as A
use Rattle.ob_mean.specs.Prints.{Begun}
use Rattle.ob_mean.specs.Settle.{settle}
use Rattle.ob_mean.specs.Step.{selected_rows, rows_answer, select_condition}
use Rattle.ob_mean.specs.Verdict.{refusal, seen, seen_rows, selected_places, rows_refusal}
use Rattle.ob_tables.proofs.PlainLemmas.{last_is, settle_is}
use Rattle.ob_mean.proofs.VerdictLemmas.{headings-database, refused_late, seen_flat}
use Rattle.ob_verdict.specs.Laws.{printed_rows, selected_result}
use Rattle.ob_verdict.proofs.AnswerProof.{prints_answer}
use Rattle.ob_verdict.proofs.SeenProof.{started-unread}
use Rattle.ob_verdict.specs.declared.outcome.Outcome.TheVariants.{Rows as RowsOut}
use Rattle.ob_select.specs.declared.selecting.Selected.TheVariants.{Rows}
use Rattle.ob_select.specs.Selecting.{emitted_unless, result_of, selected_as, shown_rows, shown_where}
use Rattle.ob_verdict.specs.Outcomes.{outcome_of}
use Rattle.ob_select.proofs.ResultRows.{length-bag, length-chosen}
use Rattle.ob_select.proofs.UntilLemmas.{nothing}
use Rattle.ob_tables.proofs.ToldLemmas.{followed_same}

-- ---- bags and selected rows
-- where no place is selected, no row is
test_none : (b : Bool) (n : ℕ) (more : List ℕ) (row : Row) (rest : List Row) → cond b (n ∷ more) more ≡ [] → (more ≡ [] → rest ≡ []) → cond b (row ∷ rest) rest ≡ []
test_none true n more row rest is later = absurd (cc is)
test_none false n more row rest is later = later is

none_selected : (p : Row → Bool) (n : ℕ) (slots : Slots) → places_from n (is_selected p) slots ≡ [] → filter p (rows slots) ≡ []
none_selected p n [] is = refl
none_selected p n (None ∷ slots) is = none_selected p (suc n) slots is
none_selected p n (Some row ∷ slots) is = test_none (p row) n (places_from (suc n) (is_selected p) slots) row (filter p (rows slots)) is (none_selected p (suc n) slots)

module _ (p : Public) (m : ℕ) (select : SelectRows) (tables : Tables) (headed : headings tables ≡ headings_of p.tables) (in_place : AreInPlace p.stash tables) (unkeyed : accessed tables (RowsStmt select) ≡ None)
    (early : early_refusal (is_late m) (limits_of p) (headings tables) (RowsStmt select) ≡ None) (some : 1 ≤ p.pack) (enough : 3 * p.pack + 1 ≤ p.buffer) (padded : IsPadded p.pad p.planner)
    (labelled : labels_of (selection p select).flat.schema (selection p select).cols ≡ answer_labels (RowsStmt select) p)
    (source : Same (source_rows select.source (database tables)) (rows (slots_of p select tables))) where
  abbrev q : Selection
  q = selection p select

  abbrev slots : Slots
  slots = slots_of p select tables

  abbrev chosen : List ℕ
  chosen = places q slots

  abbrev told_rows : List (List Shown)
  told_rows = rows_answer select (select_columns select (headings (database tables))) (selected_rows select (database tables))

  places_is : selected_places p select tables ≡ chosen
  places_is = λ i. selected (is_true (select_condition select (headed i))) slots

  rows_refused : refusal p m tables (RowsStmt select) ≡ rows_refusal p chosen
  rows_refused = refused_late p m tables (RowsStmt select) early ∙ last_is p tables select unkeyed ∙ ap (rows_refusal p) places_is

  pub rows_seen : (d : Draws) → seen d p m tables (RowsStmt select) ≡ selection_seen q slots
  rows_seen d = seen_flat p m tables (RowsStmt select) early d unkeyed ∙ ap (seen_rows p (length slots)) places_is

  pub rows_unread : (selection_seen q slots).leaf ≡ None
  rows_unread = ap (λ (x : Seen). x.leaf) (sym (ap (seen_rows p (length slots)) places_is)) ∙ started-unread p tables (RowsStmt select)

  pub rows_settle : (d : Draws) → settle d p m tables (RowsStmt select) ≡ tables
  rows_settle d = settle_is p tables (RowsStmt select) unkeyed d m ∙ followed_same (refusal p m tables (RowsStmt select)) tables

  verdict_is : (r : Option Refusal) → rows_refusal p chosen ≡ r → verdict p m tables (RowsStmt select) ≡ answered r (A.Rows told_rows)
  verdict_is r is = ap (λ (o : Option Refusal). answered o (A.Rows told_rows)) (rows_refused ∙ is)

  same_selected : Same (selected_rows select (database tables)) (filter (is_true q.condition) (rows slots))
  same_selected =
      subst (λ (xs : List Row). Same (selected_rows select (database tables)) xs)
      (ap (λ (hs : List Heading). filter (is_true (select_condition select hs)) (rows slots)) (headings-database tables ∙ headed))
      (Same-filter (is_true (select_condition select (headings (database tables)))) _ _ source)

  -- as many as places
  counted_is : length chosen ≡ length told_rows
  counted_is =
      length-chosen (is_true q.condition) 0 slots ∙ length-bag _ _ same_selected
      ∙ sym (length-map (selected_rows select (database tables)) (printed (printed_places select (select_columns select (headings (database tables))))))

  printed_is : printed_rows p tables select ≡ map (printed q.cols) (rows (result_of q slots))
  printed_is = λ i.
      map (printed (printed_places select (select_columns select (headed i))))
      (rows (selected_result p (is_true (select_condition select (headed i))) slots))

  by_places : (ps : List ℕ) → chosen ≡ ps → rows_refusal p chosen ≡ None → Same told_rows (shown_where ps (map (printed q.cols) (rows (result_of q slots))))
  by_places [] is none =
      Same-map (printed (printed_places select (select_columns select (headings (database tables))))) _ []
      (subst (λ (xs : List Row). Same (selected_rows select (database tables)) xs) (none_selected (is_true q.condition) 0 slots is) same_selected)
  by_places (i ∷ is) same none =
      let long : length (selected_places p select tables) ≡ suc (length is) = ap length (places_is ∙ same) in
      subst (λ (xs : List (List Shown)). Same told_rows xs) printed_is
      (prints_answer p m tables select some (some_buffered p.pack p.buffer some enough) padded in_place unkeyed (rows_refused ∙ none) (omega (arith, long)))

  same_rows : rows_refusal p chosen ≡ None → Same told_rows (shown_rows q slots)
  same_rows none = by_places chosen refl none

  -- ---- what is emitted of it
  abbrev emitted : Option Refusal → List Event
  emitted r = emitted_unless r (header q.flat.schema q.cols ++ row_events (shown_rows q slots))

  unfinished_by : (r : Option Refusal) (events rest : List Event) → rows_refusal p chosen ≡ r → events ++ rest ≡ emitted r
      → Unfinished (answer_labels (RowsStmt select) p) (verdict p m tables (RowsStmt select)) events
  unfinished_by None events rest is same =
      subst (λ (a : Answer). Unfinished (answer_labels (RowsStmt select) p) a events) (sym (verdict_is None is))
      (record {
        printed = shown_rows q slots;
        same = Same-sym _ _ (same_rows is);
        begun = (rest, same ∙ ap (λ (labels : List (List ℕ)). Head labels ∷ row_events (shown_rows q slots)) labelled);
      })
  unfinished_by (Some r) events rest is same =
      subst (λ (a : Answer). Unfinished (answer_labels (RowsStmt select) p) a events) (sym (verdict_is (Some r) is)) (nothing events rest same)

  -- a first part of its header and its rows
  pub rows_unfinished : (events rest : List Event) → events ++ rest ≡ answer_events q slots → Unfinished (answer_labels (RowsStmt select) p) (verdict p m tables (RowsStmt select)) events
  rows_unfinished events rest same = unfinished_by (rows_refusal p chosen) events rest refl same

  prints_by : (r : Option Refusal) → rows_refusal p chosen ≡ r
      → Prints (answer_labels (RowsStmt select) p) (verdict p m tables (RowsStmt select)) (emitted r ++ closing (selected_as r (length chosen)))
  prints_by None is =
      subst (λ (a : Answer). Prints (answer_labels (RowsStmt select) p) a (emitted None ++ closing (Rows (length chosen)))) (sym (verdict_is None is))
      (record {
        printed = shown_rows q slots;
        same = Same-sym _ _ (same_rows is);
        is = λ i. Head (labelled i) ∷ (row_events (shown_rows q slots) ++ Close (counted_is i) ∷ []);
      })
  prints_by (Some r) is =
      subst (λ (a : Answer). Prints (answer_labels (RowsStmt select) p) a []) (sym (verdict_is (Some r) is)) refl

  -- all of it
  pub rows_prints : Prints (answer_labels (RowsStmt select) p) (verdict p m tables (RowsStmt select)) (answer_events q slots ++ closing (selection_answer q slots))
  rows_prints = prints_by (rows_refusal p chosen) refl

  -- a first part of it
  pub rows_partly : (events : List Event) → Begun events (answer_events q slots ++ closing (selection_answer q slots))
      → Partly (answer_labels (RowsStmt select) p) (verdict p m tables (RowsStmt select)) events
  rows_partly events begun = record { whole = answer_events q slots ++ closing (selection_answer q slots); prints = rows_prints; begun = begun }

  outcome_by : (r : Option Refusal) → rows_refusal p chosen ≡ r → selected_outcome (selected_as r (length chosen)) ≡ outcome_of (RowsStmt select) (answered r (A.Rows told_rows))
  outcome_by None is = ap (λ (k : ℕ). RowsOut k) counted_is
  outcome_by (Some r) is = refl

  pub rows_outcome : selected_outcome (selection_answer q slots) ≡ outcome_of (RowsStmt select) (verdict p m tables (RowsStmt select))
  rows_outcome = outcome_by (rows_refusal p chosen) refl ∙ sym (ap (outcome_of (RowsStmt select)) (verdict_is (rows_refusal p chosen) refl))
