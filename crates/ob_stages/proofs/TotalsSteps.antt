-- A step of a SELECT of aggregates in flight.
use Rattle.std.proofs.Common.{◌≡◌, ◌≤◌, ◌+◌, ℕ, ℤ, false, List, Option, Ok, Err, sym, subst}
use Rattle.std.specs.Prelude.{Result, take, length}
use Rattle.ob_base.specs.Events.{Event}
use Rattle.ob_row.specs.Truth.{is_true}
use Rattle.ob_vault.specs.State.{World}
use Rattle.ob_flat.specs.declared.fault.OpErr.{OpErr}
use Rattle.ob_flat.specs.declared.fault.OpErr.TheVariants.{Failed}
use Rattle.ob_group.specs.Steps.{AggregatesAt}
use Rattle.ob_group.proofs.Summing.{summed_next}
use Rattle.ob_sql.specs.declared.stmt.Listed.{Listed}
use Rattle.ob_inflight.specs.Answers.{Tells}
use Rattle.ob_inflight.specs.Progress.{Steps, StopsStep}
use Rattle.ob_stages.specs.declared.reading.Reading.{Reading}
use Rattle.ob_stages.specs.declared.totals.TotalsFlight.{TotalsFlight}
use Rattle.ob_stages.specs.Reading.{HaltsTotals, MayRead, NeedsTable, is_over, reading_progress, reads_left}
use Rattle.ob_stages.specs.Totals.{IsTotalling, aggs_of}
use Rattle.ob_stages.proofs.ReadingSteps.{fault_on, faults_on, halts_read, read_on, reads_on, steps_fault, steps_read, stops_read, tells_err, tells_ok}

-- one more block was read, or the store failed the read
abbrev pub totals_on : TotalsFlight → List (Option ℤ) → Reading → TotalsFlight
totals_on f sums r = record { reading = r; aggs = f.aggs; sums = sums }

module _ (f : TotalsFlight) (left : is_over f.reading ≡ false) (n : ℕ) (count : n ≡ f.reading.public.now.pack) (listed : List Listed) (same : listed ≡ f.reading.select.now.items)
    (sums : List (Option ℤ)) (old new : World) (result : Result (Unit {0}) OpErr)
    (read : AggregatesAt n f.reading.flat (is_true f.reading.pred) (take (length listed) f.aggs) f.reading.asked result f.sums sums old new) where
  abbrev r : Reading
  r = f.reading

  abbrev At : Result (Unit {0}) OpErr → Type 0
  At result = AggregatesAt r.public.now.pack r.flat (is_true r.pred) (aggs_of f) r.asked result f.sums sums old new

  here : At result
  here =
      subst (λ (k : ℕ). AggregatesAt k r.flat (is_true r.pred) (aggs_of f) r.asked result f.sums sums old new) count
      (subst (λ (l : List Listed). AggregatesAt n r.flat (is_true r.pred) (take (length l) f.aggs) r.asked result f.sums sums old new) same read)

  -- it was read
  module _ (is_ok : result ≡ Ok tt) (then : Reading) (on : then ≡ read_on r) where
    at_ok : At (Ok tt)
    at_ok = subst At is_ok here

    pub totals_steps : (others : ℕ) (events : List Event) → IsTotalling f events old → others + reads_left r.failed r.blocks r.asked ≤ old.store.spare
        → Steps others (reading_progress r) (reading_progress then) (MayRead r) (MayRead then) (NeedsTable r) (NeedsTable then) old new
    totals_steps others events is spare =
        subst (λ (s : Reading). Steps others (reading_progress r) (reading_progress s) (MayRead r) (MayRead s) (NeedsTable r) (NeedsTable s) old new) (sym on)
        (steps_read r left others events old new is.reading spare at_ok.seals at_ok.ran.ok)

    totals_next : (events : List Event) → IsTotalling f events old → IsTotalling (totals_on f sums (read_on r)) events new
    totals_next events is = record {
      reading = reads_on r left events old new is.reading at_ok.ran.ok.lasts;
      ungrouped = is.ungrouped;
      aggs = is.aggs;
      summed = λ whole. summed_next r.public.now.pack r.flat (is_true r.pred) (aggs_of f) r.asked f.sums sums old new at_ok (is.summed whole);
    }

    pub totals_tell : {E : Type 0} (grew cut : E → E → List Event → Type 0) (out : E)
        → Tells {T = Unit {0}} grew cut (is_over r) (IsTotalling f) (IsTotalling (totals_on f sums then)) (λ events part e was now. HaltsTotals r events part e was now) (Ok tt) old new out out
    totals_tell grew cut out =
        subst (λ (s : Reading). Tells {T = Unit {0}} grew cut (is_over r) (IsTotalling f) (IsTotalling (totals_on f sums s)) (λ events part e was now. HaltsTotals r events part e was now) (Ok tt) old new out out) (sym on)
        (tells_ok grew cut (is_over r) (IsTotalling f) (IsTotalling (totals_on f sums (read_on r))) (λ events part e was now. HaltsTotals r events part e was now) old new out tt totals_next)

  -- the store failed
  module _ (is_fault : result ≡ Err Failed) (then : Reading) (on : then ≡ fault_on r) where
    at_fault : At (Err Failed)
    at_fault = subst At is_fault here

    pub totals_fault_steps : (others : ℕ) (events : List Event) → IsTotalling f events old → others + reads_left r.failed r.blocks r.asked ≤ old.store.spare → old.store.spare ≤ new.store.spare + 1
        → Steps others (reading_progress r) (reading_progress then) (MayRead r) (MayRead then) (NeedsTable r) (NeedsTable then) old new
    totals_fault_steps others events is spare spent =
        subst (λ (s : Reading). Steps others (reading_progress r) (reading_progress s) (MayRead r) (MayRead s) (NeedsTable r) (NeedsTable s) old new) (sym on)
        (steps_fault r left others events old new is.reading spare at_fault.seals at_fault.ran.err spent)

    totals_fault : (events : List Event) → IsTotalling f events old → IsTotalling (totals_on f sums (fault_on r)) events new
    totals_fault events is = record {
      reading = faults_on r left events old new is.reading at_fault.ran.err.lasts;
      ungrouped = is.ungrouped;
      aggs = is.aggs;
      summed = λ whole. absurd (cc whole);
    }

    pub totals_fault_tell : {E : Type 0} (grew cut : E → E → List Event → Type 0) (out : E)
        → Tells {T = Unit {0}} grew cut (is_over r) (IsTotalling f) (IsTotalling (totals_on f sums then)) (λ events part e was now. HaltsTotals r events part e was now) (Ok tt) old new out out
    totals_fault_tell grew cut out =
        subst (λ (s : Reading). Tells {T = Unit {0}} grew cut (is_over r) (IsTotalling f) (IsTotalling (totals_on f sums s)) (λ events part e was now. HaltsTotals r events part e was now) (Ok tt) old new out out) (sym on)
        (tells_ok grew cut (is_over r) (IsTotalling f) (IsTotalling (totals_on f sums (fault_on r))) (λ events part e was now. HaltsTotals r events part e was now) old new out tt totals_fault)

  -- the block was refused
  module _ (e : OpErr) (is_err : result ≡ Err e) (off : e ≡ Failed → ⊥) where
    at_err : At (Err e)
    at_err = subst At is_err here

    pub totals_stops : (others : ℕ) (events : List Event) → IsTotalling f events old → others + reads_left r.failed r.blocks r.asked ≤ old.store.spare → StopsStep e (reading_progress r) (reading_progress r) (MayRead r) old new
    totals_stops others events is spare = stops_read r left others events old new is.reading spare at_err.seals e off at_err.never at_err.ran.err

    pub totals_stop_tell : {E : Type 0} (grew cut : E → E → List Event → Type 0) (after : TotalsFlight) (out : E)
        → Tells {T = Unit {0}} grew cut (is_over r) (IsTotalling f) (IsTotalling after) (λ events part e was now. HaltsTotals r events part e was now) (Err e) old new out out
    totals_stop_tell grew cut after out =
        tells_err grew cut (is_over r) (IsTotalling f) (IsTotalling after) (λ events part e was now. HaltsTotals r events part e was now) old new out e left
        (λ events is. halts_read r left events old new is.reading at_err.ran.err.lasts e off at_err.never (λ slots held nolie. at_err.told slots held nolie))
