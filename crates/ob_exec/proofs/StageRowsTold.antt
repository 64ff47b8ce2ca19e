-- What a SELECT of rows in flight means for its table.
use Rattle.ob_exec.proofs.Words.{accessed, answer_events, answer_labels, ap, append-nil, append_assoc, Bool, closing, Cut, cut_at, database, Draws, early_held, early_refusal, Emitted, End, Event, false, headings, headings_of, held_empty, held_if, HoldsSeen, if◌then◌else◌, Index, inl, inr, is_late, IsUnfit, labels_of, le-leb, length, limits_of, List, None, OpErr, Option, Outcome, PadPassed, Partly, printed_places, Prints, Public, refl, refusal_now, rows, RowsAt, Same, Seen, select_columns, selected_outcome, Selection, selection, selection_answer, selection_seen, Slots, slots_of, Some, Source, source_rows, source_slots, Stage, stated, Stmt, subst, suc, sym, Tables, true, Unfinished, verdict, Whole, whole_script, World, zero, ℕ, [], ◌*◌, ◌++◌, ◌+◌, ◌∙◌, ◌≡◌, ◌≤◌}
use Rattle.ob_base.specs.Plans.{IsPadded}
use Rattle.ob_base.specs.declared.refusal.Refusal.TheVariants.{StoreFault}
use Rattle.ob_base.specs.declared.skeleton.Source.TheVariants.{Table as OneTable}
use Rattle.ob_flat.specs.Flats.{Represents}
use Rattle.ob_flat.specs.declared.fault.OpErr.TheVariants as OpErrs
use Rattle.ob_flat.specs.declared.flat.Flat.{Flat}
use Rattle.ob_mean.specs.Prints.{Begun}
use Rattle.ob_mean.specs.Step.{select_condition}
use Rattle.ob_mean.specs.Verdict.{seen as seen_by}
use Rattle.ob_sql.specs.declared.stmt.SelectRows.{SelectRows}
use Rattle.ob_sql.specs.declared.stmt.Stmt.TheVariants.{SelectRows as RowsStmt}
use Rattle.ob_tables.proofs.HeldLemmas.{held_headings, held_plain}
use Rattle.ob_vault.specs.Words.{IsHonest}
use Rattle.ob_verdict.specs.Outcomes.{outcome_of as outcome_meant}
use Rattle.ob_verdict.specs.declared.outcome.Outcome.TheVariants as O
use Rattle.ob_stages.specs.declared.rows.Stage.TheVariants as Stages
use Rattle.ob_stages.specs.RowsStates.{MayServe, PlacedAt, is_over, progress_of, seen_taking, table_blocks}
use Rattle.ob_stages.specs.RowsHolds.{AnswersRows, EndedAt, Halts, Holds, IsCutOff, IsOnWay, IsToEnd, closing_of, is_headless, left_of, meant_events, meant_outcome, seen_ended}
use Rattle.ob_exec.specs.InFlight as F
use Rattle.ob_exec.specs.Sources.{rows_skeleton}
use Rattle.ob_exec.proofs.FlightStage.{HasTable, HoldNow, IsSet, closed_of, shown_of}
use Rattle.ob_exec.proofs.RowsMeaning.{rows_outcome, rows_partly, rows_prints, rows_seen, rows_unfinished, rows_unread}
use Rattle.ob_stages.proofs.RowsKnown.{rows_end}
use Rattle.ob_exec.proofs.RowsOfTable.{cut_of_held, held_of_cut, slots_held}
use Rattle.ob_exec.proofs.RowsSource.{table_same}
use Rattle.ob_exec.proofs.StageRows.{answered_selected, answers, as_stated, closing_same, cut_end, cut_off, ended_as, one_table, over_or}
use Rattle.ob_mean.specs.Standing.{StandsMeant}

begun_more : (events all more : List Event) → Begun events all → Begun events (all ++ more)
begun_more events all more begun = (begun.0 ++ more, sym (append_assoc events begun.0 more) ∙ ap (λ (l : List Event). l ++ more) begun.1)

module _ (g : RowsAt) (m : ℕ) (kept : List (List ℕ)) (events : List Event) (w : World) (is : Holds g kept events w) (set : IsSet m (progress_of g)) (ending : g.q.ending ≡ 0)
    (condition : g.q.condition ≡ select_condition g.select (headings_of g.q.public.tables)) (cols : g.q.cols ≡ printed_places g.select (select_columns g.select (headings_of g.q.public.tables)))
    (within : g.asked ≤ length (whole_script g.q.public (rows_skeleton g.select) g.seen))
    (way : is_over g.stage ≡ false → (slots : Slots) → Represents g.q.public.pack g.q.flat slots w → IsHonest w w → IsOnWay g events slots)
    (may_mean : g.failed ≡ false → (slots : Slots) → Represents g.q.public.pack g.q.flat slots w → IsHonest w w → MayServe g (record { skeleton = rows_skeleton g.select; seen = selection_seen g.q slots }))
    (may_cut : g.failed ≡ true → (slots : Slots) → Represents g.q.public.pack g.q.flat slots w → IsHonest w w → (y : Seen) → HoldsSeen g.q slots true g.asked y → y.leaf ≡ None → y.end ≡ Cut g.asked
    → MayServe g (record { skeleton = rows_skeleton g.select; seen = y }))
    (indexes : List Index) (tables : Tables) (held : HoldNow g.q.public indexes tables w) where
  abbrev p : Public
  p = g.q.public

  abbrev select : SelectRows
  select = g.select

  abbrev stmt : Stmt
  stmt = RowsStmt g.select

  now : refusal_now p m stmt ≡ None
  now = sym set.refusal

  abbrev of : HasTable (progress_of g)
  of = set.table refl

  source_of : select.source ≡ OneTable of.name
  source_of = one_table select.source of.name of.reads

  abbrev slots : Slots
  slots = slots_of p select tables

  represents : Represents g.q.public.pack g.q.flat slots w
  represents =
      subst (λ (f : Flat). Represents g.q.public.pack f slots w) (sym of.is)
      (slots_held p of.place of.table of.name select of.names of.here.get of.here.named source_of of.plain indexes tables w held.held)

  honest : IsHonest w w
  honest = record { tells = held.tells; nolie = held.nolie }

  stated_as : g.q ≡ stated p select of.table.region 0
  stated_as = as_stated g m kept events w is set ending condition cols within

  -- ---- its meaning by its selection
  headed : headings tables ≡ headings_of p.tables
  headed = held_headings p.pack indexes p.tables tables w held.held

  unkeyed : accessed tables stmt ≡ None
  unkeyed = held_plain p indexes tables w stmt held.held of.plain

  early : early_refusal (is_late m) (limits_of p) (headings tables) stmt ≡ None
  early = early_held p m stmt tables indexes w None held.held now

  source : Same (source_rows select.source (database tables)) (rows (slots_of p select tables))
  source = subst (λ (x : Source). Same (source_rows x (database tables)) (rows (source_slots p x tables))) (sym source_of) (table_same of.name tables)

  labelled : labels_of (selection p select).flat.schema (selection p select).cols ≡ answer_labels stmt p
  labelled = of.labelled select refl

  some : 1 ≤ p.pack
  some = is.placed.flown.settings.pack_least

  blocks : 3 * p.pack + 1 ≤ p.buffer
  blocks = is.placed.flown.settings.blocks

  padded : IsPadded p.pad p.planner
  padded = is.placed.flown.settings.padded

  seen_q : selection_seen g.q slots ≡ selection_seen (stated p select of.table.region 0) slots
  seen_q = ap (λ (x : Selection). selection_seen x slots) stated_as

  seen_meant : (d : Draws) → seen_by d p m tables stmt ≡ selection_seen (stated p select of.table.region 0) slots
  seen_meant d = rows_seen p m select tables headed held.in_place unkeyed early some blocks padded labelled source d

  meant_leaf : (d : Draws) → (seen_by d p m tables stmt).leaf ≡ None
  meant_leaf d =
      ap (λ (x : Seen). x.leaf) (rows_seen p m select tables headed held.in_place unkeyed early some blocks padded labelled source d)
      ∙ rows_unread p m select tables headed held.in_place unkeyed early some blocks padded labelled source

  outcome_q : meant_outcome g.q slots ≡ selected_outcome (selection_answer (selection p select) slots)
  outcome_q = ap (λ (x : Selection). meant_outcome x slots) stated_as ∙ answered_selected _ _

  outcome_is : meant_outcome g.q slots ≡ outcome_meant stmt (verdict p m tables stmt)
  outcome_is = outcome_q ∙ rows_outcome p m select tables headed held.in_place unkeyed early some blocks padded labelled source

  events_q : answer_events g.q slots ≡ answer_events (selection p select) slots
  events_q = ap (λ (x : Selection). answer_events x slots) stated_as

  closing_q : closing_of (meant_outcome g.q slots) ≡ closing (selection_answer (selection p select) slots)
  closing_q = ap closing_of outcome_q ∙ closing_same (selection_answer (selection p select) slots)

  meant_is : meant_events g.q slots ≡ answer_events (selection p select) slots ++ closing (selection_answer (selection p select) slots)
  meant_is = λ j. events_q j ++ closing_q j

  partly_of : (es : List Event) → Begun es (meant_events g.q slots) → Partly (answer_labels stmt p) (verdict p m tables stmt) es
  partly_of es begun =
      rows_partly p m select tables headed held.in_place unkeyed early some blocks padded labelled source es (subst (λ (all : List Event). Begun es all) meant_is begun)

  unfinished_of : (es : List Event) → Begun es (answer_events g.q slots) → Unfinished (answer_labels stmt p) (verdict p m tables stmt) es
  unfinished_of es begun =
      rows_unfinished p m select tables headed held.in_place unkeyed early some blocks padded labelled source es begun.0 (begun.1 ∙ events_q)

  prints_of : (es : List Event) → es ≡ meant_events g.q slots → Prints (answer_labels stmt p) (verdict p m tables stmt) es
  prints_of es same =
      subst (λ (x : List Event). Prints (answer_labels stmt p) (verdict p m tables stmt) x) (sym (same ∙ meant_is))
      (rows_prints p m select tables headed held.in_place unkeyed early some blocks padded labelled source)

  -- ---- what is held
  held_stated : (failed : Bool) (n : ℕ) (x : Seen) → HoldsSeen g.q slots failed n x → HoldsSeen (stated p select of.table.region 0) slots failed n x
  held_stated failed n x holds = subst (λ (y : Selection). HoldsSeen y slots failed n x) stated_as holds

  cut_held : (d : Draws) (failed : Bool) (n : ℕ) (x : Seen) → HoldsSeen g.q slots failed n x → x.leaf ≡ None → record x { end = Cut n } ≡ cut_at failed n p (rows_skeleton select) (seen_by d p m tables stmt)
  cut_held d failed n x holds leaf =
      cut_of_held p of.place of.table of.name select of.names of.here.get of.here.named source_of of.plain some blocks slots (seen_by d p m tables stmt) (seen_meant d) (meant_leaf d)
      failed n x (held_stated failed n x holds) leaf

  -- no leaf is seen of it
  leaf_taking : (pad : Option ℕ) (k : ℕ) → (seen_taking pad k).leaf ≡ None
  leaf_taking None k = refl
  leaf_taking (Some pad) k = refl

  leaf_ended : (pad : Option ℕ) (k : ℕ) → (seen_ended pad k).leaf ≡ None
  leaf_ended None zero = refl
  leaf_ended None (suc k) = refl
  leaf_ended (Some pad) k = refl

  leaf_cut : IsCutOff g.q g.seen g.asked events w → g.seen.leaf ≡ None
  leaf_cut cut = elim cut.seen [
    | inl plain ↦ ap (λ (x : Seen). x.leaf) plain
    | inr taken ↦ ap (λ (x : Seen). x.leaf) taken.is ∙ leaf_taking p.pad taken.k
  ]

  leaf_going : (stage : Stage) → is_over stage ≡ false → PlacedAt stage g → g.seen.leaf ≡ None
  leaf_going (Stages.Count u) going at = ap (λ (x : Seen). x.leaf) at.seen
  leaf_going Stages.Make going at = ap (λ (x : Seen). x.leaf) at.0.seen ∙ leaf_taking p.pad g.k
  leaf_going (Stages.Read pass u seen) going at = ap (λ (x : Seen). x.leaf) at.0.counted.seen ∙ leaf_taking p.pad g.k
  leaf_going (Stages.Write pass x) going at = ap (λ (x : Seen). x.leaf) at.0.counted.seen ∙ leaf_taking p.pad g.k
  leaf_going (Stages.Emit x) going at = ap (λ (x : Seen). x.leaf) at.0.counted.seen ∙ leaf_taking p.pad g.k
  leaf_going Stages.Discard going at = ap (λ (x : Seen). x.leaf) at.counted.seen ∙ leaf_taking p.pad g.k
  leaf_going Stages.Over going at = absurd (cc going)

  -- it is itself, with how it ends
  with_end : (x : Seen) (end : End) → x.end ≡ end → x ≡ record x { end = end }
  with_end x end same = λ j. record { k = x.k; plan = x.plan; then = x.then; leaf = x.leaf; end = same j }

  on_way : (d : Draws) → g.seen.end ≡ Whole → HoldsSeen g.q slots false g.asked g.seen → g.seen.leaf ≡ None
      → g.seen ≡ record (cut_at false g.asked p (rows_skeleton select) (seen_by d p m tables stmt)) { end = Whole }
  on_way d end holds leaf = with_end g.seen Whole end ∙ ap (λ (x : Seen). record x { end = Whole }) (cut_held d false g.asked g.seen holds leaf)

  cut_told : (d : Draws) → IsCutOff g.q g.seen g.asked events w → g.seen ≡ cut_at true g.asked p (rows_skeleton select) (seen_by d p m tables stmt)
  cut_told d cut =
      with_end g.seen (Cut g.asked) (cut_end g m kept events w is set ending condition cols within cut)
      ∙ cut_held d true g.asked g.seen (cut.told slots represents honest).0 (leaf_cut cut)

  -- one that has asked all, and is to answer
  to_end : (o : Option Outcome) → g.failed ≡ false → g.outcome ≡ None → is_over g.stage ≡ true → IsToEnd g events w
  to_end o failed outcome over =
      subst (λ (b : Bool). EndedAt b None g events w) failed (ended_as g m kept events w is set ending condition cols within None over outcome)

  second_none : (stage : Stage) → is_over stage ≡ true → PlacedAt stage g → g.seen.then ≡ None
  second_none Stages.Over over at = at.second
  second_none other over at = absurd (cc over)

  counted_by : (stage : Stage) → is_over stage ≡ true → PlacedAt stage g → g.failed ≡ false → table_blocks g.q ≤ g.asked
  counted_by Stages.Over over at failed = at.counted failed
  counted_by other over at failed = absurd (cc over)

  end_holds : is_over g.stage ≡ true → g.failed ≡ false → g.seen ≡ selection_seen g.q slots → HoldsSeen g.q slots false g.asked g.seen
  end_holds over failed same =
      let all = le-leb (table_blocks g.q) g.asked (counted_by g.stage over is.placed.at failed) in
      record {
        k = ap (λ (x : Seen). x.k) same ∙ ap (λ (b : Bool). held_if b (selection_seen g.q slots).k) (sym all);
        plan = ap (λ (x : Seen). x.plan) same ∙ ap (λ (b : Bool). held_if b (selection_seen g.q slots).plan) (sym all);
        second = second_none g.stage over is.placed.at
            ∙ held_empty _ (selection_seen g.q slots).then (ap (λ (x : Seen). x.then) (sym same) ∙ second_none g.stage over is.placed.at);
      }

  -- what is held of one on its way, and what was emitted of it
  way_now : g.failed ≡ false → g.outcome ≡ None → IsOnWay g events slots × (g.seen.leaf ≡ None)
  way_now failed outcome = elim (over_or g m kept events w is set ending condition cols within (is_over g.stage) refl) [
    | inl over ↦
        let end = to_end None failed outcome over in
        let told = end.told slots represents honest in (
          record {
            held = end_holds over failed told.1;
            begun = (
              left_of (is_headless g.q.public.pad g.k) g.q ++ closing_of (meant_outcome g.q slots),
              sym (append_assoc events (left_of (is_headless g.q.public.pad g.k) g.q) (closing_of (meant_outcome g.q slots)))
                  ∙ ap (λ (es : List Event). es ++ closing_of (meant_outcome g.q slots)) told.2,
            );
          },
          ap (λ (x : Seen). x.leaf) end.seen ∙ leaf_ended g.q.public.pad g.k,
        )
    | inr going ↦ (way going slots represents honest, leaf_going g.stage going is.placed.at)
  ]

  whole_end : g.failed ≡ false → g.seen.end ≡ Whole
  whole_end failed = rows_end g is.placed ∙ ap (λ (b : Bool). if b then Cut g.asked else Whole) failed

  -- ---- told
  answer_told : (d : Draws) (o : Outcome) → AnswersRows g.q o g.seen g.asked events w → F.EndsMeant d p m g.asked tables stmt g.seen o
  answer_told d (O.Rows n) (so, meant) =
      let told = meant.told slots represents honest in
      (told.0 ∙ outcome_is, told.1 ∙ seen_q ∙ sym (seen_meant d))
  answer_told d (O.Refused PadPassed) (refuses, meant) =
      let told = meant.told slots represents honest in
      (told.0 ∙ outcome_is, told.1 ∙ seen_q ∙ sym (seen_meant d))
  answer_told d (O.Refused StoreFault) cut = cut_told d cut
  answer_told d other none = absurd none

  told_by : (d : Draws) (failed : Bool) (o : Option Outcome) → g.failed ≡ failed → g.outcome ≡ o → F.IsMeant d p m g.asked g.asked tables stmt g.seen (closed_of o events)
  told_by d failed (Some o) fails outcome = answer_told d o (answers g m kept events w is set ending condition cols within o outcome)
  told_by d false None fails outcome =
      let end = whole_end fails in
      let now_way = way_now fails outcome in
      subst (λ (x : End). StandsMeant d p m g.asked g.asked tables stmt g.seen x) (sym end) (on_way d end now_way.0.held now_way.1)
  told_by d true None fails outcome =
      let cut = cut_off g m kept events w is set ending condition cols within fails outcome in
      subst (λ (x : End). StandsMeant d p m g.asked g.asked tables stmt g.seen x) (sym (cut_end g m kept events w is set ending condition cols within cut)) (cut_told d cut)

  pub rows_told : (d : Draws) → F.IsMeant d p m g.asked g.asked tables stmt g.seen (closed_of g.outcome events)
  rows_told d = told_by d g.failed g.outcome refl refl

  -- ---- what was emitted
  answer_emitted : (o : Outcome) → AnswersRows g.q o g.seen g.asked events w → Emitted stmt p m tables o events
  answer_emitted (O.Rows n) (so, meant) = prints_of events (meant.told slots represents honest).2
  answer_emitted (O.Refused PadPassed) (refuses, meant) = prints_of events (meant.told slots represents honest).2
  answer_emitted (O.Refused StoreFault) cut = unfinished_of events (cut.told slots represents honest).1
  answer_emitted other none = absurd none

  pub rows_emitted : (o : Outcome) → g.outcome ≡ Some o → Emitted stmt p m tables o events
  rows_emitted o outcome = answer_emitted o (answers g m kept events w is set ending condition cols within o outcome)

  answer_partly : (o : Outcome) → AnswersRows g.q o g.seen g.asked events w → Partly (answer_labels stmt p) (verdict p m tables stmt) events
  answer_partly (O.Rows n) (so, meant) = partly_of events ([], append-nil events ∙ (meant.told slots represents honest).2)
  answer_partly (O.Refused PadPassed) (refuses, meant) = partly_of events ([], append-nil events ∙ (meant.told slots represents honest).2)
  answer_partly (O.Refused StoreFault) cut = partly_of events (begun_more events (answer_events g.q slots) (closing_of (meant_outcome g.q slots)) (cut.told slots represents honest).1)
  answer_partly other none = absurd none

  partly_by : (failed : Bool) (o : Option Outcome) → g.failed ≡ failed → g.outcome ≡ o → Partly (answer_labels stmt p) (verdict p m tables stmt) events
  partly_by failed (Some o) fails outcome = answer_partly o (answers g m kept events w is set ending condition cols within o outcome)
  partly_by false None fails outcome = partly_of events (way_now fails outcome).0.begun
  partly_by true None fails outcome =
      let cut = cut_off g m kept events w is set ending condition cols within fails outcome in
      partly_of events (begun_more events (answer_events g.q slots) (closing_of (meant_outcome g.q slots)) (cut.told slots represents honest).1)

  pub rows_partly_now : Partly (answer_labels stmt p) (verdict p m tables stmt) events
  rows_partly_now = partly_by g.failed g.outcome refl refl

  -- ---- its meaning may turn out to be served
  means_by : (d : Draws) (failed : Bool) → g.failed ≡ failed → MayServe g (record { skeleton = rows_skeleton g.select; seen = shown_of failed d m tables (progress_of g) })
  means_by d false fails =
      subst (λ (x : Seen). MayServe g (record { skeleton = rows_skeleton g.select; seen = x })) (seen_q ∙ sym (seen_meant d)) (may_mean fails slots represents honest)
  means_by d true fails =
      let y = cut_at true g.asked p (rows_skeleton select) (seen_by d p m tables stmt) in
      may_cut fails slots represents honest y
      (subst (λ (x : Selection). HoldsSeen x slots true g.asked y) (sym stated_as)
      (held_of_cut p of.place of.table of.name select of.names of.here.get of.here.named source_of of.plain some blocks slots (seen_by d p m tables stmt) (seen_meant d) (meant_leaf d) true g.asked))
      (sym (held_empty _ (seen_by d p m tables stmt).leaf (meant_leaf d))) refl

  pub rows_mean : (d : Draws) → MayServe g (record { skeleton = rows_skeleton g.select; seen = shown_of g.failed d m tables (progress_of g) })
  rows_mean d = means_by d g.failed refl

  -- ---- where it gave up
  module _ (part : List Event) (e : OpErr) (v : World) (halts : Halts g events part e w v) where
    pub rows_halted : IsUnfit v → Partly (answer_labels stmt p) (verdict p m tables stmt) (events ++ part)
    rows_halted unfit = partly_of (events ++ part) (halts.told slots represents honest unfit).begun

    pub rows_honest : (q x : ℕ) → e ≡ OpErrs.Tampered q x → v.store.lie ≡ None → ⊥
    rows_honest q x tampered nolie = elim (halts.honest slots represents (record { tells = held.tells; nolie = nolie })) [
      | inl sink ↦ cc (tampered, sink)
      | inr memory ↦ cc (tampered, memory)
    ]
