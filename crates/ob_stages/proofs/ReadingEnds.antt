-- The end of a SELECT of totals in flight.
use Rattle.std.proofs.Common.{◌≡◌, ◌⊎◌, inl, inr, ◌++◌, ◌==◌, ◌||◌, ℕ, Bool, true, false, List, [], Option, Some, None, Ok, Err, Result, refl, sym, ◌∙◌, ap, subst, append_assoc}
use Rattle.std.specs.Prelude.{OnOk, OnErr}
use Rattle.std.proofs.lemmas.Bool.{eqb-true}
use Rattle.std.proofs.lemmas.List.{append-nil}
use Rattle.ob_base.specs.declared.emit.EmitErr.{EmitErr}
use Rattle.ob_base.specs.declared.emit.EmitErr.TheVariants as EmitErrs
use Rattle.ob_base.specs.declared.refusal.Refusal.TheVariants.{StoreFault}
use Rattle.ob_base.specs.Events.{Event, EmitCause, Leads}
use Rattle.ob_vault.specs.State.{World}
use Rattle.ob_flat.specs.declared.fault.OpErr.{OpErr}
use Rattle.ob_flat.specs.declared.fault.OpErr.TheVariants.{Sink, NoMemory}
use Rattle.ob_flat.specs.Words.{blocks_of}
use Rattle.ob_group.specs.Steps.{EmitsAll}
use Rattle.ob_verdict.specs.declared.outcome.Outcome.{Outcome}
use Rattle.ob_verdict.specs.declared.outcome.Outcome.TheVariants.{Refused}
use Rattle.ob_inflight.specs.Answers.{Finishes, error_of}
use Rattle.ob_stages.specs.declared.reading.Reading.{Reading}
use Rattle.ob_stages.specs.Reading.{Answered, AnswersTotals, EndsAs, IsReading, is_over, places_of}
use Rattle.ob_stages.proofs.TotalsLemmas.{leads_join}

-- it was answered
abbrev pub answered_by : Outcome → Reading → Reading
answered_by outcome r = record r { outcome = Some outcome }

all_of : (failed b : Bool) → failed ≡ false → (failed || b) ≡ true → b ≡ true
all_of true b off over = absurd (cc off)
all_of false b off over = over

module _ (r : Reading) (events : List Event) (w : World) (is : IsReading r events w) (over : is_over r ≡ true) (going : r.outcome ≡ None) where
  pub silent : events ≡ []
  silent = subst (λ (o : Option Outcome). Answered o r events w) going is.answered

  pub last_read : r.failed ≡ false → r.asked ≡ r.blocks
  last_read whole = eqb-true r.asked r.blocks (all_of r.failed (r.asked == r.blocks) whole over)

  pub all_read : r.failed ≡ false → r.asked ≡ blocks_of r.public.now.pack r.flat
  all_read whole = last_read whole ∙ is.boarded.blocks

  -- these events were emitted of its answer
  pub reading_ends : (outcome : Outcome) (more : List Event) → AnswersTotals (places_of r) r.public.now.pack r.flat r.select.now r.failed outcome more w
      → IsReading (answered_by outcome r) (events ++ more) w
  reading_ends outcome more given = record {
    ready = is.ready;
    boarded = record { script = is.boarded.script; blocks = is.boarded.blocks; within = is.boarded.within; rows = is.boarded.rows; meant = is.boarded.meant; items = is.boarded.items };
    table = is.table;
    some = is.some;
    going = λ off. absurd (cc (over, off));
    answered = subst (λ (l : List Event). AnswersTotals (places_of r) r.public.now.pack r.flat r.select.now r.failed outcome (l ++ more) w) (sym silent) given;
  }

  -- the store failed it
  pub fault_answered : r.failed ≡ true → AnswersTotals (places_of r) r.public.now.pack r.flat r.select.now r.failed (Refused StoreFault) [] w
  fault_answered failed = record {
    ends = subst (λ (b : Bool). EndsAs b (Refused StoreFault)) (sym failed) refl;
    emits = refl;
    told = λ whole q. absurd (cc (failed, whole));
  }

-- the emitter alone gave up
pub of_emitter : (e : EmitErr) → (error_of e ≡ Sink) ⊎ (error_of e ≡ NoMemory)
of_emitter EmitErrs.Failed = inl refl
of_emitter EmitErrs.NoMemory = inr refl

-- ---- what was emitted
module _ {E T : Type 0} (grew cut : E → E → List Event → Type 0) (Holds_old Holds_new : List Event → World → Type 0)
    (Halts : (events part : List Event) → OpErr → (old new : World) → Type 0) (a b : E) where
  pub finishes_ok : (x : T) (more : List Event) → Leads grew grew a b more → ((events : List Event) (w : World) → Holds_old events w → Holds_new (events ++ more) w)
      → Finishes {T = T} grew cut Holds_old Holds_new Halts (Ok x) a b
  finishes_ok x more leads on = record {
    ok = λ events w was. record { more = more; leads = leads; quiet = λ off. absurd (cc off); holds = on events w was };
    err = tt;
  }

  pub finishes_err : (e : EmitErr) (part : List Event) → Leads grew cut a b part → ((events : List Event) (w : World) → Holds_old events w → Halts events part (error_of e) w w)
      → Finishes {T = T} grew cut Holds_old Holds_new Halts (Err e) a b
  finishes_err e part leads on = record {
    ok = tt;
    err = λ events w was. record { part = part; leads = λ prints. leads; quiet = λ off. absurd (cc off); halts = on events w was };
  }

-- some events, and then others
module _ {E : Type 0} (grew cut : E → E → List Event → Type 0) (faults : E → ℕ) (a b c : E) (x y : List Event) where
  pub emits_more : (r : Result (Unit {0}) EmitErr) → EmitsAll {T = Unit {0}} grew cut faults x (Ok tt) a b → OnOk r (Leads grew grew b c y) → OnErr r (Leads grew cut b c y) → EmitCause r (faults b) (faults c)
      → EmitsAll grew cut faults (x ++ y) r a c
  emits_more (Ok z) given ok err cause = record { ok = leads_join grew grew a b c x y given.ok ok; err = tt; cause = cause ∙ given.cause }
  emits_more (Err e) given ok err cause = record {
    ok = tt;
    err = (x ++ y, leads_join grew cut a b c x y given.ok err, ([], append-nil (x ++ y)));
    cause = subst (λ (k : ℕ). EmitCause {T = Unit {0}} (Err e) k (faults c)) given.cause cause;
  }

  pub emits_front : (e : EmitErr) → EmitsAll {T = Unit {0}} grew cut faults x (Err e) a b → EmitsAll {T = Unit {0}} grew cut faults (x ++ y) (Err e) a b
  emits_front e given =
      let part = given.err in
      record {
        ok = tt;
        err = (part.0, part.1, (part.2.0 ++ y, sym (append_assoc part.0 part.2.0 y) ∙ ap (λ (l : List Event). l ++ y) part.2.1));
        cause = given.cause;
      }
