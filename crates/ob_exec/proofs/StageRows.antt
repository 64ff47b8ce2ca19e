-- A SELECT of rows in flight.
use Rattle.ob_exec.proofs.Words.{Access, answer_labels, ap, arith, Bool, Close, closing, count_end, counted_after, Cut, Emits, End, Event, false, Head, headings_of, if◌then◌else◌, inl, inr, IsSome, labels_of, Lawful, length, List, None, Ok, Option, Outcome, PadPassed, printed_places, Public, refl, Refusal, refusal_now, RefusedEarly, row_events, rows, RowsAt, same_script, Seen, select_columns, Selected, selected_outcome, Selection, selection, Shown, Small, Some, Source, source_tables, Stage, stated, Static, Stmt, subst, suc, sym, true, Whole, whole_script, World, zero, ℕ, [], ◌++◌, ◌∙◌, ◌∷◌, ◌≡◌, ◌≤◌, ◌⊎◌}
use Rattle.ob_base.specs.Plans.{choose}
use Rattle.ob_base.specs.declared.config.Planner.{Planner}
use Rattle.ob_base.specs.declared.config.Planner.TheVariants.{Forced}
use Rattle.ob_base.specs.declared.refusal.Refusal.TheVariants.{StoreFault}
use Rattle.ob_base.specs.declared.skeleton.Source.TheVariants.{Table as OneTable, Join}
use Rattle.ob_flat.specs.declared.flat.Flat.{Flat}
use Rattle.ob_mean.specs.Step.{select_condition}
use Rattle.ob_mean.specs.Verdict.{counted, ended as seen_to}
use Rattle.ob_select.specs.Selecting.{IsCountOf, IsPlanOf, selected_as}
use Rattle.ob_select.specs.declared.selecting.Selected.TheVariants as Selecteds
use Rattle.ob_sql.specs.declared.stmt.SelectRows.{SelectRows}
use Rattle.ob_sql.specs.declared.stmt.Stmt.TheVariants.{SelectRows as RowsStmt}
use Rattle.ob_verdict.specs.declared.outcome.Outcome.TheVariants as O
use Rattle.ob_stages.specs.declared.rows.Stage.TheVariants as Stages
use Rattle.ob_stages.specs.RowsStates.{HasCounted, PlacedAt, is_over, progress_of, seen_taking, table_blocks, taken_by}
use Rattle.ob_stages.specs.RowsHolds.{AnswersRows, EndedAt, Holds, HoldsAt, IsCutOff, IsToEnd, answered_by, closing_of, head_of, seen_ended}
use Rattle.ob_exec.specs.InFlight as F
use Rattle.ob_exec.specs.Sources.{rows_skeleton}
use Rattle.ob_exec.proofs.FlightStage.{HasTable, IsSet, closed_of}
use Rattle.ob_exec.proofs.RowsLawful.{lawful_cut, lawful_ended}
use Rattle.ob_stages.proofs.RowsKnown.{rows_end}
use Rattle.ob_exec.proofs.RowsOfTable.{capacity_of, count_of_table, schema_of}
use Rattle.ob_exec.proofs.RowsTable.{stated_is}
use Rattle.ob_exec.proofs.StageReading.{head_is}
use Rattle.ob_mean.specs.Standing.{StandsAs}
use Rattle.ob_verdict.proofs.RowEvents.{are_rows}

-- ---- plain facts
-- a source of one table
pub one_table : (source : Source) (name : List ℕ) → source_tables source ≡ name ∷ [] → source ≡ OneTable name
one_table (OneTable n) name is = ap (λ (x : List ℕ). OneTable x) (head_is n name is)
one_table (Join a b on equals) name is = absurd (cc is)

pub answered_selected : (o : Option Refusal) (k : ℕ) → answered_by o k ≡ selected_outcome (selected_as o k)
answered_selected None k = refl
answered_selected (Some r) k = refl

pub closing_same : (answer : Selected) → closing_of (selected_outcome answer) ≡ closing answer
closing_same (Selecteds.Rows k) = refl
closing_same (Selecteds.Refused r) = refl

chosen_small : (planner : Planner) (pack rows n k : ℕ) → planner ≡ Forced Small → Small ≡ choose planner pack rows n k false
chosen_small planner pack rows n k is = sym (ap (λ (x : Planner). choose x pack rows n k false) is)

module _ (g : RowsAt) (m : ℕ) (kept : List (List ℕ)) (events : List Event) (w : World) (is : Holds g kept events w) (set : IsSet m (progress_of g)) (ending : g.q.ending ≡ 0)
    (condition : g.q.condition ≡ select_condition g.select (headings_of g.q.public.tables)) (cols : g.q.cols ≡ printed_places g.select (select_columns g.select (headings_of g.q.public.tables)))
    (within : g.asked ≤ length (whole_script g.q.public (rows_skeleton g.select) g.seen)) where
  abbrev p : Public
  p = g.q.public

  abbrev select : SelectRows
  select = g.select

  abbrev stmt : Stmt
  stmt = RowsStmt g.select

  now : refusal_now p m stmt ≡ None
  now = sym set.refusal

  abbrev pub table : HasTable (progress_of g)
  table = set.table refl

  of_table : select.source ≡ OneTable table.name
  of_table = one_table select.source table.name table.reads

  -- its selection is the statement's
  pub as_stated : g.q ≡ stated p select table.table.region 0
  as_stated =
      (λ j. record { public = g.q.public; flat = g.q.flat; condition = g.q.condition; cols = g.q.cols; ending = ending j })
      ∙ stated_is p select g.q.flat g.q.condition g.q.cols 0
      (ap (λ (f : Flat). f.schema) table.is ∙ schema_of p table.place table.table table.name select table.names table.here.get table.here.named of_table table.plain)
      (ap (λ (f : Flat). f.capacity) table.is ∙ capacity_of p table.place table.table table.name select table.names table.here.get table.here.named of_table table.plain)
      condition cols
      ∙ ap (λ (f : Flat). stated p select f.region 0) table.is

  labels_are : labels_of g.q.flat.schema g.q.cols ≡ answer_labels stmt p
  labels_are = ap (λ (x : Selection). labels_of x.flat.schema x.cols) as_stated ∙ table.labelled select refl

  pub blocks_are : count_end p (rows_skeleton select) ≡ table_blocks g.q
  blocks_are =
      count_of_table p table.place table.table table.name select table.names table.here.get table.here.named of_table table.plain
      ∙ sym (ap (λ (x : Selection). counted_after x) as_stated)

  few_is : g.q.flat.capacity ≡ (selection p select).flat.capacity
  few_is = ap (λ (x : Selection). x.flat.capacity) as_stated

  planner_is : p.planner ≡ Forced Small
  planner_is = is.placed.flown.planner

  -- ---- what may be seen
  lawful_none : (n : ℕ) → n ≤ length (whole_script p (rows_skeleton select) (seen_to Whole)) → Lawful p m stmt (seen_to (Cut n))
  lawful_none n most = lawful_cut p select table.plain m now (seen_to Whole) n tt refl (record { count = λ some. absurd (cc some); walk = λ some. absurd (cc some) }) most

  count_is : (k : ℕ) → p.pad ≡ None → k ≤ g.q.flat.capacity → IsCountOf (selection p select) k
  count_is k none few = record { unpadded = none; most = let same = few_is in omega (arith, few, same) }

  plan_is : (k : ℕ) → 1 ≤ k → IsPlanOf (selection p select) k Small
  plan_is k some = record { some = some; consecutive = false; chosen = chosen_small p.planner p.pack p.buffer (selection p select).flat.capacity k planner_is }

  taking_by : (pad : Option ℕ) (k n : ℕ) → p.pad ≡ pad → k ≤ g.q.flat.capacity → 1 ≤ taken_by pad g.q.flat.capacity k → table_blocks g.q ≤ n
      → n ≤ length (whole_script p (rows_skeleton select) (seen_taking pad k)) → Lawful p m stmt (record (seen_taking pad k) { end = Cut n })
  taking_by (Some pad) k n padded few some behind most = lawful_none n most
  taking_by None k n none few some behind most =
      lawful_cut p select table.plain m now (counted k (Some Small) None Whole) n (count_is k none few, plan_is k some)
      refl (record { count = λ any. let same = blocks_are in omega (arith, same, behind); walk = λ any. absurd (cc any) }) most

  -- with what is seen of one that has counted
  taken_lawful : (done : ℕ) → HasCounted g done → table_blocks g.q ≤ done → Lawful p m stmt (record g.seen { end = Cut g.asked })
  taken_lawful done at behind =
      subst (λ (x : Seen). Lawful p m stmt (record x { end = Cut g.asked })) (sym at.seen)
      (taking_by p.pad g.k g.asked refl at.few at.some (let same = at.asked in omega (arith, same, behind))
      (subst (λ (x : Seen). g.asked ≤ length (whole_script p (rows_skeleton select) x)) at.seen within))

  -- and that came to its end
  ended_lawful : (pad : Option ℕ) (k : ℕ) → p.pad ≡ pad → k ≤ g.q.flat.capacity → table_blocks g.q ≤ g.asked → g.seen ≡ seen_ended pad k → Lawful p m stmt (record g.seen { end = Cut g.asked })
  ended_lawful (Some pad) k padded few behind seen =
      subst (λ (x : Seen). Lawful p m stmt (record x { end = Cut g.asked })) (sym seen)
      (lawful_none g.asked (subst (λ (x : Seen). g.asked ≤ length (whole_script p (rows_skeleton select) x)) seen within))
  ended_lawful None zero none few behind seen =
      subst (λ (x : Seen). Lawful p m stmt (record x { end = Cut g.asked })) (sym seen)
      (lawful_cut p select table.plain m now (counted 0 None None Whole) g.asked (count_is 0 none few, inl refl)
      refl (record { count = λ any. let same = blocks_are in omega (arith, same, behind); walk = λ any. absurd (cc any) })
      (subst (λ (x : Seen). g.asked ≤ length (whole_script p (rows_skeleton select) x)) seen within))
  ended_lawful None (suc k) none few behind seen =
      subst (λ (x : Seen). Lawful p m stmt (record x { end = Cut g.asked })) (sym seen)
      (taking_by None (suc k) g.asked none few (omega arith) behind (subst (λ (x : Seen). g.asked ≤ length (whole_script p (rows_skeleton select) x)) seen within))

  going_lawful : (stage : Stage) → PlacedAt stage g → HoldsAt stage g kept events w → g.failed ≡ false → g.outcome ≡ None → Lawful p m stmt (record g.seen { end = Cut g.asked })
  going_lawful (Stages.Count u) at holds failed outcome =
      subst (λ (x : Seen). Lawful p m stmt (record x { end = Cut g.asked })) (sym at.seen)
      (lawful_none g.asked (subst (λ (x : Seen). g.asked ≤ length (whole_script p (rows_skeleton select) x)) at.seen within))
  going_lawful Stages.Make at holds failed outcome = taken_lawful _ at.0 (omega arith)
  going_lawful Stages.Discard at holds failed outcome = taken_lawful _ at.counted (omega arith)
  going_lawful Stages.Over at holds failed outcome =
      let end : IsToEnd g events w = subst (λ (b : Bool). EndedAt b None g events w) failed (subst (λ (o : Option Outcome). EndedAt g.failed o g events w) outcome holds.1) in
      ended_lawful p.pad g.k refl end.few.0 (at.counted failed) end.seen
  going_lawful other at holds failed outcome = taken_lawful _ at.0.counted (omega arith)

  -- where all was asked
  pub over_at : (stage : Stage) → is_over stage ≡ true → HoldsAt stage g kept events w → EndedAt g.failed g.outcome g events w
  over_at Stages.Over over holds = holds.1
  over_at other over holds = absurd (cc over)

  pub over_or : (b : Bool) → is_over g.stage ≡ b → (is_over g.stage ≡ true) ⊎ (is_over g.stage ≡ false)
  over_or true at = inl at
  over_or false at = inr at

  pub over_failed : g.failed ≡ true → is_over g.stage ≡ true
  over_failed failed = elim (over_or (is_over g.stage) refl) [
    | inl over ↦ over
    | inr going ↦ absurd (let whole = is.placed.unfailed going in cc (failed, whole))
  ]

  pub over_ended : (o : Outcome) → g.outcome ≡ Some o → is_over g.stage ≡ true
  over_ended o outcome = elim (over_or (is_over g.stage) refl) [
    | inl over ↦ over
    | inr going ↦ absurd (let none = is.placed.unended going in cc (outcome, none))
  ]

  pub ended_as : (o : Option Outcome) → is_over g.stage ≡ true → g.outcome ≡ o → EndedAt g.failed o g events w
  ended_as o over outcome = subst (λ (x : Option Outcome). EndedAt g.failed x g events w) outcome (over_at g.stage over is.at)

  pub answers : (o : Outcome) → g.outcome ≡ Some o → AnswersRows g.q o g.seen g.asked events w
  answers o outcome = answers_by g.failed (ended_as (Some o) (over_ended o outcome) outcome)
    where
      answers_by : (failed : Bool) → EndedAt failed (Some o) g events w → AnswersRows g.q o g.seen g.asked events w
      answers_by true ended = ended
      answers_by false ended = ended

  pub cut_off : g.failed ≡ true → g.outcome ≡ None → IsCutOff g.q g.seen g.asked events w
  cut_off failed outcome = subst (λ (b : Bool). EndedAt b None g events w) failed (ended_as None (over_failed failed) outcome)

  -- ---- one that the store failed
  cut_lawful : IsCutOff g.q g.seen g.asked events w → Lawful p m stmt g.seen
  cut_lawful cut = elim cut.seen [
    | inl plain ↦
        subst (λ (x : Seen). Lawful p m stmt x) (sym plain)
        (lawful_none g.asked
        (subst (λ (l : List Access). g.asked ≤ length l) (same_script p (rows_skeleton select) (seen_to (Cut g.asked)) Whole)
        (subst (λ (x : Seen). g.asked ≤ length (whole_script p (rows_skeleton select) x)) plain within)))
    | inr held ↦
        subst (λ (x : Seen). Lawful p m stmt x) (sym held.is)
        (taking_by p.pad held.k g.asked refl held.few held.some (let behind = held.behind in omega (arith, behind))
        (subst (λ (l : List Access). g.asked ≤ length l) (sym (same_script p (rows_skeleton select) (seen_taking p.pad held.k) (Cut g.asked)))
        (subst (λ (x : Seen). g.asked ≤ length (whole_script p (rows_skeleton select) x)) held.is within)))
  ]

  pub cut_end : IsCutOff g.q g.seen g.asked events w → g.seen.end ≡ Cut g.asked
  cut_end cut = elim cut.seen [
    | inl plain ↦ ap (λ (x : Seen). x.end) plain
    | inr held ↦ ap (λ (x : Seen). x.end) held.is
  ]

  -- ---- one that was answered
  ended_whole_lawful : (pad : Option ℕ) (n k : ℕ) → p.pad ≡ pad → k ≤ g.q.flat.capacity → Lawful p m stmt (seen_ended pad k)
  ended_whole_lawful (Some pad) n k padded few =
      lawful_ended p select table.plain m now (Selecteds.Rows n) (seen_to Whole) tt refl
      (inr (record { padded = subst (λ (o : Option ℕ). IsSome o) (sym padded) refl; nothing = refl }))
  ended_whole_lawful None n zero none few =
      lawful_ended p select table.plain m now (Selecteds.Rows n) (counted 0 None None Whole) (count_is 0 none few, inl refl) refl
      (inl (record { counted = 0; count = refl; end = refl; none = λ plan. refl }))
  ended_whole_lawful None n (suc k) none few =
      lawful_ended p select table.plain m now (Selecteds.Rows n) (counted (suc k) (Some Small) None Whole) (count_is (suc k) none few, plan_is (suc k) (omega arith)) refl
      (inl (record { counted = suc k; count = refl; end = refl; none = λ plan. absurd (cc plan) }))

  ended_end : (pad : Option ℕ) (k : ℕ) → (seen_ended pad k).end ≡ Whole
  ended_end None zero = refl
  ended_end None (suc k) = refl
  ended_end (Some pad) k = refl

  not_refused : (o : Outcome) (x : Seen) → (x.end ≡ Static → ⊥) → RefusedEarly (refusal_now p m stmt) (Ok o) x
  not_refused o x going = subst (λ (r : Option Refusal). RefusedEarly r (Ok o) x) (sym now) going

  answer_stands : (o : Outcome) → AnswersRows g.q o g.seen g.asked events w → F.EndsAs p m g.asked stmt g.seen o
  answer_stands (O.Rows n) (so, meant) =
      let end : g.seen.end ≡ Whole = ap (λ (x : Seen). x.end) so.seen ∙ ended_end p.pad so.k in
      record {
        early = not_refused (O.Rows n) g.seen (λ static. cc (end, static));
        lawful = subst (λ (x : Seen). Lawful p m stmt x) (sym so.seen) (ended_whole_lawful p.pad n so.k refl so.few.0);
        ends = end;
        asks = λ fault. absurd (cc fault);
      }
  answer_stands (O.Refused PadPassed) (refuses, meant) =
      let end : g.seen.end ≡ Whole = ap (λ (x : Seen). x.end) refuses.seen in
      record {
        early = not_refused (O.Refused PadPassed) g.seen (λ static. cc (end, static));
        lawful = subst (λ (x : Seen). Lawful p m stmt x) (sym refuses.seen)
            (lawful_ended p select table.plain m now (Selecteds.Refused PadPassed) (seen_to Whole) tt refl (record { padded = refuses.padded; nothing = refl }));
        ends = end;
        asks = λ fault. absurd (cc fault);
      }
  answer_stands (O.Refused StoreFault) cut =
      let end = cut_end cut in
      record {
        early = not_refused (O.Refused StoreFault) g.seen (λ static. cc (end, static));
        lawful = cut_lawful cut;
        ends = end;
        asks = λ fault. cut.some;
      }
  answer_stands other none = absurd none

  stands_by : (failed : Bool) (o : Option Outcome) → g.failed ≡ failed → g.outcome ≡ o → F.IsFlown p m g.asked stmt g.seen (closed_of o events)
  stands_by failed (Some o) fails outcome = answer_stands o (answers o outcome)
  stands_by false None fails outcome =
      let end : g.seen.end ≡ Whole = rows_end g is.placed ∙ ap (λ (b : Bool). if b then Cut g.asked else Whole) fails in
      subst (λ (x : End). StandsAs p m g.asked stmt g.seen x) (sym end) (going_lawful g.stage is.placed.at is.at fails outcome)
  stands_by true None fails outcome =
      let cut = cut_off fails outcome in
      subst (λ (x : End). StandsAs p m g.asked stmt g.seen x) (sym (cut_end cut)) (refl, cut.some, cut_lawful cut)

  pub rows_stand : F.IsFlown p m g.asked stmt g.seen (closed_of g.outcome events)
  rows_stand = stands_by g.failed g.outcome refl refl

  -- ---- what is emitted of its answer
  head_is_labels : (shown : List (List Shown)) → head_of g.q ++ row_events shown ≡ Head (answer_labels stmt p) ∷ row_events shown
  head_is_labels shown = ap (λ (labels : List (List ℕ)). Head labels ∷ row_events shown) labels_are

  emits_by : (o : Outcome) → AnswersRows g.q o g.seen g.asked events w → Emits stmt (answer_labels stmt p) o events
  emits_by (O.Rows n) (so, meant) =
      let size = is.placed.flown.size.most in
      record {
        rows = row_events so.rows;
        are_rows = are_rows so.rows;
        count = Rattle.std.proofs.lemmas.List.length-map so.rows _ ∙ sym so.count;
        few = let few = so.few.1 in omega (arith, few, size);
        is = so.is ∙ ap (λ (es : List Event). es ++ Close n ∷ []) (head_is_labels so.rows);
      }
  emits_by (O.Refused PadPassed) (refuses, meant) = refuses.none
  emits_by (O.Refused StoreFault) cut = elim cut.begun [
    | inl none ↦ record { rows = []; are_rows = refl; is = inl none }
    | inr (shown, begun) ↦ record { rows = row_events shown; are_rows = are_rows shown; is = inr (begun ∙ head_is_labels shown) }
  ]
  emits_by other none = absurd none

  pub rows_emit : (o : Outcome) → g.outcome ≡ Some o → Emits stmt (answer_labels stmt p) o events
  rows_emit o outcome = emits_by o (answers o outcome)
