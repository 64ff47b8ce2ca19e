-- The end of a SELECT of rows in flight.
use Rattle.std.proofs.Common.{◌≡◌, ◌⊎◌, inl, inr, ◌≤◌, ◌∷◌, ◌++◌, ℕ, zero, suc, Bool, true, false, not, List, [], refl, sym, ◌∙◌, ap, subst, append_assoc}
use Rattle.std.specs.Prelude.{Option, Some, None, IsSome, Ok, Err}
use Rattle.std.proofs.lemmas.List.{append-nil}
use Rattle.ob_base.specs.declared.config.Plan.TheVariants.{Small}
use Rattle.ob_base.specs.declared.emit.EmitErr.{EmitErr}
use Rattle.ob_base.specs.declared.emit.EmitErr.TheVariants as EmitErrs
use Rattle.ob_base.specs.declared.refusal.Refusal.TheVariants.{PadPassed}
use Rattle.ob_base.specs.declared.seen.End.TheVariants.{Whole}
use Rattle.ob_base.specs.Events.{Event, Close, EmitCause, Leads}
use Rattle.ob_flat.specs.declared.fault.OpErr.TheVariants.{Sink, NoMemory}
use Rattle.ob_flat.specs.Emission.{Takes}
use Rattle.ob_flat.specs.Flats.{Represents}
use Rattle.ob_inflight.specs.Answers.{Finishes, error_of}
use Rattle.ob_mean.specs.Prints.{Begun}
use Rattle.ob_mean.specs.Verdict.{ended as seen_to}
use Rattle.ob_row.specs.Slots.{Slots}
use Rattle.ob_select.specs.Selecting.{Selection, HoldsSeen, selection_seen}
use Rattle.ob_select.proofs.SelectHeld.{counted_held, nothing_held}
use Rattle.ob_vault.specs.State.{World}
use Rattle.ob_vault.specs.Words.{IsHonest}
use Rattle.ob_verdict.specs.declared.outcome.Outcome.{Outcome}
use Rattle.ob_verdict.specs.declared.outcome.Outcome.TheVariants.{Rows, Refused}
use Rattle.ob_stages.specs.declared.rows.Stage.{Stage}
use Rattle.ob_stages.specs.declared.rows.Stage.TheVariants.{Count, Make, Read, Write, Emit, Discard, Over}
use Rattle.ob_stages.specs.RowsStates.{RowsAt, HasAsked, PlacedAt, is_over, is_passed, is_printing, passes_pad, table_blocks}
use Rattle.ob_stages.specs.RowsHolds.{AnswersRows, EndedAt, Halts, Holds, HoldsAt, IsCutOff, IsGone, IsToEnd, closing_of, events_if, is_headless, left_of, meant_events, meant_outcome, outcome_of, seen_ended}
use Rattle.ob_stages.specs.RowsSteps.{Answers, said, said_of, to_say, to_say_of}
use Rattle.ob_stages.proofs.RowsShown.{leads_both}

pub over_is : (stage : Stage) → is_over stage ≡ true → stage ≡ Over
over_is Over over = refl
over_is other over = absurd (cc over)

-- what is held of what is seen at the end
ended_held : (q : Selection) (slots : Slots) (pad : Option ℕ) (k n : ℕ) → selection_seen q slots ≡ seen_ended pad k → table_blocks q ≤ n → HoldsSeen q slots false n (seen_ended pad k)
ended_held q slots None zero n seen enough = counted_held q slots 0 None false n seen enough
ended_held q slots None (suc k) n seen enough = counted_held q slots (suc k) (Some Small) false n seen enough
ended_held q slots (Some pad) k n seen enough = nothing_held q slots false n seen

passed_some : (pad : Option ℕ) (k : ℕ) → is_passed pad k ≡ true → IsSome pad
passed_some None k passed = absurd (cc passed)
passed_some (Some pad) k passed = refl

passed_seen : (pad : Option ℕ) (k : ℕ) → is_passed pad k ≡ true → seen_ended pad k ≡ seen_to Whole
passed_seen None k passed = absurd (cc passed)
passed_seen (Some pad) k passed = refl

passed_head : (pad : Option ℕ) (k : ℕ) → is_passed pad k ≡ true → is_headless pad k ≡ false
passed_head None k passed = absurd (cc passed)
passed_head (Some pad) k passed = refl

-- ---- one that has all
module _ (g : RowsAt) (events : List Event) (w : World) (is : IsToEnd g events w) where
  abbrev left : List Event
  left = left_of (is_headless g.q.public.pad g.k) g.q

  -- it is refused
  module _ (passed : passes_pad g ≡ true) where
    no_left : left ≡ []
    no_left = ap (λ (b : Bool). left_of b g.q) (passed_head g.q.public.pad g.k passed)

    same_events : events ++ left ≡ events
    same_events = ap (λ (l : List Event). events ++ l) no_left ∙ append-nil events

    no_events : events ≡ []
    no_events = sym same_events ∙ is.is ∙ ap (λ (b : Bool). events_if (not b) g.q is.rows) passed

    refused_is : (slots : Slots) → Represents g.q.public.pack g.q.flat slots w → IsHonest w w → Refused PadPassed ≡ meant_outcome g.q slots
    refused_is slots held honest = sym (ap (λ (b : Bool). outcome_of b g.shown) passed) ∙ (is.told slots held honest).0

    refused_events : (slots : Slots) → Represents g.q.public.pack g.q.flat slots w → IsHonest w w → events ++ [] ≡ meant_events g.q slots
    refused_events slots held honest =
        (λ i. (sym same_events ∙ (is.told slots held honest).2) i ++ closing_of (refused_is slots held honest i))

    pub ends_refused : AnswersRows g.q (Refused PadPassed) g.seen g.asked (events ++ []) w
    ends_refused = (
      record {
        padded = passed_some g.q.public.pad g.k passed;
        seen = is.seen ∙ passed_seen g.q.public.pad g.k passed;
        none = append-nil events ∙ no_events;
      },
      record { told = λ slots held honest. (refused_is slots held honest, (is.told slots held honest).1, refused_events slots held honest) },
    )

  -- or answered with its rows
  module _ (unpassed : passes_pad g ≡ false) where
    rows_are : (slots : Slots) → Represents g.q.public.pack g.q.flat slots w → IsHonest w w → Rows g.shown ≡ meant_outcome g.q slots
    rows_are slots held honest = sym (ap (λ (b : Bool). outcome_of b g.shown) unpassed) ∙ (is.told slots held honest).0

    rows_events : (slots : Slots) → Represents g.q.public.pack g.q.flat slots w → IsHonest w w → events ++ (left ++ Close g.shown ∷ []) ≡ meant_events g.q slots
    rows_events slots held honest =
        sym (append_assoc events left (Close g.shown ∷ [])) ∙ (λ i. (is.told slots held honest).2 i ++ closing_of (rows_are slots held honest i))

    pub ends_rows : AnswersRows g.q (Rows g.shown) g.seen g.asked (events ++ (left_of (is_headless g.q.public.pad g.k) g.q ++ Close g.shown ∷ [])) w
    ends_rows = (
      record {
        k = g.k;
        seen = is.seen;
        few = is.few;
        rows = is.rows;
        count = is.count unpassed;
        is = sym (append_assoc events left (Close g.shown ∷ []))
            ∙ ap (λ (l : List Event). l ++ Close g.shown ∷ []) (is.is ∙ ap (λ (b : Bool). events_if (not b) g.q is.rows) unpassed);
      },
      record { told = λ slots held honest. (rows_are slots held honest, (is.told slots held honest).1, rows_events slots held honest) },
    )

  -- whichever it is
  ends_by : (b : Bool) → passes_pad g ≡ b → AnswersRows g.q (said false b g.shown) g.seen g.asked (events ++ to_say false b left g.shown) w
  ends_by true passed = ends_refused passed
  ends_by false unpassed = ends_rows unpassed

  meant_by : (b : Bool) → passes_pad g ≡ b → (slots : Slots) → Represents g.q.public.pack g.q.flat slots w → IsHonest w w → events ++ to_say false b left g.shown ≡ meant_events g.q slots
  meant_by true passed slots held honest = refused_events passed slots held honest
  meant_by false unpassed slots held honest = rows_events unpassed slots held honest

-- ---- its end
module _ (g : RowsAt) (kept : List (List ℕ)) (over : is_over g.stage ≡ true) (going : g.outcome ≡ None) where
  stage_is : g.stage ≡ Over
  stage_is = over_is g.stage over

  module _ (events : List Event) (w : World) (is : Holds g kept events w) where
    all_done : HasAsked g
    all_done = subst (λ (s : Stage). PlacedAt s g) stage_is is.placed.at

    at_over : IsGone g.region w × EndedAt g.failed g.outcome g events w
    at_over = subst (λ (s : Stage). HoldsAt s g kept events w) stage_is is.at

    ended : (f : Bool) → g.failed ≡ f → EndedAt f None g events w
    ended f same = subst (λ (o : Option Outcome). EndedAt f o g events w) going (subst (λ (b : Bool). EndedAt b g.outcome g events w) same at_over.1)

    answers_by : (f : Bool) → g.failed ≡ f → AnswersRows g.q (said f (passes_pad g) g.shown) g.seen g.asked (events ++ to_say f (passes_pad g) (left_of (is_headless g.q.public.pad g.k) g.q) g.shown) w
    answers_by true failed = subst (λ (l : List Event). IsCutOff g.q g.seen g.asked l w) (sym (append-nil events)) (ended true failed)
    answers_by false unfailed = ends_by g events w (ended false unfailed) (passes_pad g) refl

    answered_as : (f : Bool) (o : Outcome) (l : List Event) → AnswersRows g.q o g.seen g.asked l w → EndedAt f (Some o) (record g { outcome = Some o }) l w
    answered_as true o l answers = answers
    answered_as false o l answers = answers

    holds_answered : Holds (record g { outcome = Some (said_of g) }) kept (events ++ to_say_of g) w
    holds_answered = record {
      ready = is.ready;
      placed = record {
        several = is.placed.several;
        flown = is.placed.flown;
        own = is.placed.own;
        at = subst (λ (s : Stage). PlacedAt s (record g { outcome = Some (said_of g) })) (sym stage_is) (record { ended = all_done.ended; counted = all_done.counted; second = all_done.second; within = all_done.within; end = all_done.end });
        shown = is.placed.shown;
        unfailed = is.placed.unfailed;
        unended = λ open_. absurd (cc (open_, over));
        booked = is.placed.booked;
      };
      table = is.table;
      at = subst (λ (s : Stage). HoldsAt s (record g { outcome = Some (said_of g) }) kept (events ++ to_say_of g) w) (sym stage_is)
          (at_over.0, answered_as g.failed (said_of g) (events ++ to_say_of g) (answers_by g.failed refl));
    }

    -- a part of it was emitted
    module _ (part : List Event) (unfailed : g.failed ≡ false) (begun : Begun part (to_say_of g)) where
      to_say_is : to_say_of g ≡ to_say false (passes_pad g) (left_of (is_headless g.q.public.pad g.k) g.q) g.shown
      to_say_is = ap (λ (f : Bool). to_say f (passes_pad g) (left_of (is_headless g.q.public.pad g.k) g.q) g.shown) unfailed

      counted_all : table_blocks g.q ≤ g.asked
      counted_all = all_done.counted unfailed

      halts_answered : (e : EmitErr) → Halts g events part (error_of e) w w
      halts_answered e = record {
        told = λ slots held honest unfit.
            let end = ended false unfailed in
            let meant = meant_by g events w end (passes_pad g) refl slots held honest in
            record {
              held = subst (HoldsSeen g.q slots false g.asked) (sym end.seen) (ended_held g.q slots g.q.public.pad g.k g.asked (sym (end.told slots held honest).1 ∙ end.seen) counted_all);
              begun = (begun.0, append_assoc events part begun.0 ∙ ap (λ (l : List Event). events ++ l) (begun.1 ∙ to_say_is) ∙ meant);
            };
        honest = λ slots held honest. either e;
        counted = λ by. counted_all;
        memory = λ memory. record { place = inr (inr (ap is_printing stage_is, unfailed)) };
      }
        where
          either : (e : EmitErr) → (error_of e ≡ Sink) ⊎ (error_of e ≡ NoMemory)
          either EmitErrs.Failed = inl refl
          either EmitErrs.NoMemory = inr refl

  pub finishes_ok : {E : Type 0} (grew cut : E → E → List Event → Type 0) (faults : E → ℕ) (o : Outcome) (out_old out_new : E) → Answers grew cut faults g (Ok o) out_old out_new
      → Finishes grew cut (Holds g kept) (Holds (record g { outcome = Some o }) kept) (Halts g) (Ok o) out_old out_new
  finishes_ok grew cut faults o out_old out_new answers = record {
    ok = λ events w held. record {
      more = to_say_of g;
      leads = answers.ok.1;
      quiet = λ unprinted. absurd (cc unprinted);
      holds = subst (λ (x : Outcome). Holds (record g { outcome = Some x }) kept (events ++ to_say_of g) w) (sym answers.ok.0) (holds_answered events w held);
    };
    err = tt;
  }

  pub finishes_err : {E : Type 0} (grew cut : E → E → List Event → Type 0) (faults : E → ℕ) (e : EmitErr) (out_old out_new : E) → Answers grew cut faults g (Err e) out_old out_new
      → Finishes {T = Outcome} grew cut (Holds g kept) (Holds g kept) (Halts g) (Err e) out_old out_new
  finishes_err grew cut faults e out_old out_new answers = record {
    ok = tt;
    err = λ events w held. record {
      part = answers.err.part;
      leads = λ printing. answers.err.leads;
      quiet = λ unprinted. absurd (cc unprinted);
      halts = halts_answered events w held answers.err.part answers.err.going answers.err.begun e;
    };
  }

-- ---- what its end emits
emit_cause_as : (A B : Type 0) (e : EmitErr) (a b : ℕ) → EmitCause {T = A} (Err e) a b → EmitCause {T = B} (Err e) a b
emit_cause_as A B EmitErrs.Failed a b is = is
emit_cause_as A B EmitErrs.NoMemory a b is = is

module _ (g : RowsAt) where
  abbrev head : List Event
  head = left_of (is_headless g.q.public.pad g.k) g.q

  say_is : g.failed ≡ false → passes_pad g ≡ false → to_say_of g ≡ head ++ Close g.shown ∷ []
  say_is unfailed unpassed = λ i. to_say (unfailed i) (unpassed i) head g.shown

module _ {E : Type 0} (T U : Type 0) (grew cut : E → E → List Event → Type 0) (faults : E → ℕ) (g : RowsAt) (out_old : E) (unfailed : g.failed ≡ false) (unpassed : passes_pad g ≡ false) where
  -- the header gave up
  pub answers_head : (e : EmitErr) (out_new : E) → Takes {T = T} grew cut faults (left_of (is_headless g.q.public.pad g.k) g.q) (Err e) out_old out_new → Answers grew cut faults g (Err e) out_old out_new
  answers_head e out_new takes = record {
    ok = tt;
    err = record { going = unfailed; part = head g; leads = takes.err; begun = (Close g.shown ∷ [], sym (say_is g unfailed unpassed)) };
    sink = emit_cause_as T Outcome e (faults out_old) (faults out_new) takes.cause;
  }

  -- or the last event
  pub answers_close : (v : T) (e : EmitErr) (n : ℕ) (mid out_new : E) → n ≡ g.shown → Takes {T = T} grew cut faults (left_of (is_headless g.q.public.pad g.k) g.q) (Ok v) out_old mid → Leads grew cut mid out_new (Close n ∷ [])
      → EmitCause {T = U} (Err e) (faults mid) (faults out_new) → Answers grew cut faults g (Err e) out_old out_new
  answers_close v e n mid out_new shown takes closes cause = record {
    ok = tt;
    err = record {
      going = unfailed;
      part = head g ++ Close n ∷ [];
      leads = leads_both grew cut out_old mid out_new (head g) (Close n ∷ []) takes.ok closes;
      begun = ([], append-nil (head g ++ Close n ∷ []) ∙ ap (λ (k : ℕ). head g ++ Close k ∷ []) shown ∙ sym (say_is g unfailed unpassed));
    };
    sink = subst (λ (f : ℕ). EmitCause {T = Outcome} (Err e) f (faults out_new)) takes.cause (emit_cause_as U Outcome e (faults mid) (faults out_new) cause);
  }
