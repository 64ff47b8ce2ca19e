-- The answer of a SELECT of aggregates in flight.
use Rattle.std.proofs.Common.{◌≡◌, inl, ◌++◌, ℕ, Bool, true, false, List, [], ◌∷◌, filter, None, Ok, Err, refl, sym, ◌∙◌, ap, subst, arith}
use Rattle.ob_base.specs.declared.emit.EmitErr.{EmitErr}
use Rattle.ob_base.specs.declared.refusal.Refusal.TheVariants.{StoreFault}
use Rattle.ob_base.specs.declared.shown.Shown.{Shown}
use Rattle.ob_base.specs.Events.{Event, Head, Row as RowEvent, Close, Leads}
use Rattle.ob_base.specs.Schemas.{Columns}
use Rattle.ob_row.specs.Condition.{Condition}
use Rattle.ob_row.specs.Slots.{rows as rows_in}
use Rattle.ob_row.specs.Totals.{totals}
use Rattle.ob_row.specs.Truth.{is_true}
use Rattle.ob_vault.specs.State.{World}
use Rattle.ob_flat.specs.declared.fault.OpErr.{OpErr}
use Rattle.ob_flat.specs.Emission.{SlotsToEnd}
use Rattle.ob_group.specs.Running.{sums_shown}
use Rattle.ob_group.specs.Steps.{EmitsAll}
use Rattle.ob_group.proofs.Summing.{summed_shown}
use Rattle.ob_mean.specs.declared.answer.Answer.{Answer}
use Rattle.ob_mean.specs.declared.answer.Answer.TheVariants as A
use Rattle.ob_mean.specs.Prints.{Prints, Begun}
use Rattle.ob_sql.specs.declared.stmt.SelectTotals.{SelectTotals}
use Rattle.ob_verdict.specs.declared.outcome.Outcome.{Outcome}
use Rattle.ob_verdict.specs.declared.outcome.Outcome.TheVariants.{Rows, Refused}
use Rattle.ob_verdict.specs.Outcomes.{IsAnswer, Partly}
use Rattle.ob_inflight.specs.Answers.{Finishes, error_of}
use Rattle.ob_stages.specs.declared.reading.Reading.{Reading}
use Rattle.ob_stages.specs.declared.totals.TotalsFlight.{TotalsFlight}
use Rattle.ob_stages.specs.Reading.{AnswersTotals, EndsAs, HaltsTotals, is_over, places_of}
use Rattle.ob_stages.specs.Totals.{IsTotalling, aggs_of, row_events}
use Rattle.ob_stages.specs.Totalling.{labels_at, outcome_at, totalled_answer}
use Rattle.ob_stages.proofs.ReadingEnds.{all_read, answered_by, fault_answered, finishes_err, finishes_ok, last_read, of_emitter, reading_ends, silent}
use Rattle.ob_stages.proofs.TotalsLemmas.{aggs_labels, all_events, is_answer, leads_none, one_row, partly_rows, prints_rows}

-- it was answered
abbrev pub ended_by : Outcome → TotalsFlight → TotalsFlight
ended_by outcome f = record f { reading = answered_by outcome f.reading }

module _ (f : TotalsFlight) (events : List Event) (w : World) (is : IsTotalling f events w) (over : is_over f.reading ≡ true) (going : f.reading.outcome ≡ None) where
  abbrev r : Reading
  r = f.reading

  abbrev cs : Columns
  cs = r.flat.schema

  abbrev s : SelectTotals
  s = r.select.now

  abbrev labels : List (List ℕ)
  labels = labels_at cs s

  abbrev cells : List Shown
  cells = sums_shown (aggs_of f) f.sums

  totals_on : (outcome : Outcome) (more : List Event) → AnswersTotals (places_of r) r.public.now.pack r.flat s r.failed outcome more w → IsTotalling (ended_by outcome f) (events ++ more) w
  totals_on outcome more given = record {
    reading = reading_ends r events w is.reading over going outcome more given;
    ungrouped = is.ungrouped;
    aggs = is.aggs;
    summed = is.summed;
  }

  pub totals_failed : r.failed ≡ true → IsTotalling (ended_by (Refused StoreFault) f) (events ++ []) w
  totals_failed failed = totals_on (Refused StoreFault) [] (fault_answered r events w is.reading over going failed)

  -- ---- all was read
  module _ (whole : r.failed ≡ false) where
    row_is : (q : SlotsToEnd r.public.now.pack r.flat w w) → totalled_answer (places_of r) cs s q.slots ≡ A.Rows (cells ∷ [])
    row_is q =
        let shown : cells ≡ totals (aggs_of f) (filter (is_true r.pred) (rows_in q.slots)) =
        summed_shown r.public.now.pack r.flat (is_true r.pred) (aggs_of f) r.asked f.sums w (is.summed whole) (all_read r events w is.reading over going whole) q.slots q.is q.nolie in
        one_row cs s (aggs_of f) is.reading.boarded.items is.ungrouped is.aggs (places_of r) q.slots
        ∙ ap (λ (l : List Shown). A.Rows (l ∷ [])) (ap (λ (c : Condition). totals (aggs_of f) (filter (is_true c) (rows_in q.slots))) (sym is.reading.boarded.meant) ∙ sym shown)

    events_are : row_events f ≡ all_events labels (cells ∷ [])
    events_are = ap (λ (l : List (List ℕ)). Head l ∷ RowEvent cells ∷ Close 1 ∷ []) (aggs_labels cs s (aggs_of f) is.reading.boarded.items is.ungrouped is.aggs)

    pub totals_whole : IsTotalling (ended_by (Rows 1) f) (events ++ row_events f) w
    totals_whole = totals_on (Rows 1) (row_events f) (record {
      ends = subst (λ (b : Bool). EndsAs b (Rows 1)) (sym whole) (inl (1, refl));
      emits = subst (λ (l : List Event). IsAnswer labels 1 l) (sym events_are) (is_answer labels (cells ∷ []) 1 refl (omega arith));
      told = λ _ q. record {
        answer = ap (outcome_at s) (sym (row_is q));
        prints =
            subst (λ (l : List Event). Prints labels (totalled_answer (places_of r) cs s q.slots) l) (sym events_are)
            (subst (λ (x : Answer). Prints labels x (all_events labels (cells ∷ []))) (sym (row_is q)) (prints_rows labels (cells ∷ [])));
      };
    })

    pub totals_halts : (e : EmitErr) (part : List Event) → Begun part (row_events f) → HaltsTotals r events part (error_of e) w w
    totals_halts e part begun = record {
      told = λ q.
          let here : SlotsToEnd r.public.now.pack r.flat w w = record { slots = q.slots; is = q.is; nolie = q.nolie } in
          let answer = totalled_answer (places_of r) cs s q.slots in
          subst (λ (l : List Event). Partly labels answer (l ++ part)) (sym (silent r events w is.reading over going))
          (partly_rows labels answer (cells ∷ []) part (row_is here) (subst (λ (l : List Event). Begun part l) events_are begun));
      honest = λ _. of_emitter e;
      emitter = λ _. (whole, last_read r events w is.reading over going whole);
    }

-- ---- its end
-- after its answer
abbrev pub totals_then : TotalsFlight → Reading → TotalsFlight
totals_then f r = record { reading = r; aggs = f.aggs; sums = f.sums }

module _ {E : Type 0} (grew cut : E → E → List Event → Type 0) (faults : E → ℕ) (f : TotalsFlight) (over : is_over f.reading ≡ true) (going : f.reading.outcome ≡ None) (a b : E) where
  abbrev Halts : List Event → List Event → OpErr → World → World → Type 0
  Halts events part e old new = HaltsTotals f.reading events part e old new

  abbrev Done : Outcome → Reading → Type 0
  Done outcome then = Finishes {T = Outcome} grew cut (IsTotalling f) (IsTotalling (totals_then f then)) Halts (Ok outcome) a b

  done_as : (outcome o : Outcome) (then : Reading) → outcome ≡ o → then ≡ answered_by o f.reading → Done o (answered_by o f.reading) → Done outcome then
  done_as outcome o then is on done = subst (λ (x : Outcome). Done x then) (sym is) (subst (λ (r : Reading). Done o r) (sym on) done)

  pub finishes_failed : (outcome : Outcome) (then : Reading) → outcome ≡ Refused StoreFault → then ≡ answered_by (Refused StoreFault) f.reading → f.reading.failed ≡ true → b ≡ a → Done outcome then
  finishes_failed outcome then is on failed same =
      done_as outcome (Refused StoreFault) then is on
      (finishes_ok grew cut (IsTotalling f) (IsTotalling (ended_by (Refused StoreFault) f)) Halts a b (Refused StoreFault) [] (subst (λ (x : E). Leads grew grew a x []) (sym same) (leads_none grew a))
      (λ events w is. totals_failed f events w is over going failed))

  pub finishes_whole : (outcome : Outcome) (then : Reading) → outcome ≡ Rows 1 → then ≡ answered_by (Rows 1) f.reading → f.reading.failed ≡ false → EmitsAll {T = Unit {0}} grew cut faults (row_events f) (Ok tt) a b
      → Done outcome then
  finishes_whole outcome then is on whole given =
      done_as outcome (Rows 1) then is on
      (finishes_ok grew cut (IsTotalling f) (IsTotalling (ended_by (Rows 1) f)) Halts a b (Rows 1) (row_events f) given.ok (λ events w is. totals_whole f events w is over going whole))

  pub finishes_halted : (e : EmitErr) → f.reading.failed ≡ false → EmitsAll {T = Unit {0}} grew cut faults (row_events f) (Err e) a b
      → Finishes {T = Outcome} grew cut (IsTotalling f) (IsTotalling f) Halts (Err e) a b
  finishes_halted e whole given =
      let part = given.err in
      finishes_err grew cut (IsTotalling f) (IsTotalling f) Halts a b e part.0 part.1 (λ events w is. totals_halts f events w is over going whole e part.0 part.2)
