-- Each step of a SELECT of rows in flight that reads its result back.
use Rattle.std.proofs.Common.{◌≡◌, ◌⊎◌, inl, inr, ◌<◌, ◌≤◌, ◌+◌, ◌-◌, ◌∷◌, ◌++◌, ◌==◌, ℕ, Bool, true, false, IsTrue, List, [], refl, sym, ◌∙◌, ap, subst}
use Rattle.std.specs.Prelude.{Some, Result, Ok, Err, OnOk, if◌then◌else◌, nat_lt}
use Rattle.std.proofs.lemmas.List.{append-nil}
use Rattle.ob_base.specs.declared.access.Access.{Access}
use Rattle.ob_base.specs.declared.access.Access.TheVariants as Accesses
use Rattle.ob_base.specs.declared.emit.EmitErr.{EmitErr}
use Rattle.ob_base.specs.declared.emit.EmitErr.TheVariants as EmitErrs
use Rattle.ob_base.specs.Events.{EmitCause, Event, row_events}
use Rattle.ob_flat.specs.declared.fault.OpErr.{OpErr}
use Rattle.ob_flat.specs.declared.fault.OpErr.TheVariants.{Failed, Tampered, Sink, NoMemory}
use Rattle.ob_flat.specs.declared.flat.Flat.{Flat}
use Rattle.ob_flat.specs.Emission.{Takes}
use Rattle.ob_flat.specs.Passes.{PassCause, PassCut, SinkCause, is_of_access}
use Rattle.ob_inflight.specs.Answers.{Tells}
use Rattle.ob_inflight.specs.Progress.{SealsBlocks, Steps, StopsStep, act_of}
use Rattle.ob_script.specs.Trace.{Served}
use Rattle.ob_small.specs.Selection as Smalls
use Rattle.ob_vault.specs.Calls.{Seals, Went, none}
use Rattle.ob_vault.specs.State.{World}
use Rattle.ob_vault.specs.Tied.{Ready}
use Rattle.ob_vault.proofs.Runs.{seals_none, went_none}
use Rattle.ob_stages.specs.declared.rows.Stage.{Stage}
use Rattle.ob_stages.specs.declared.rows.Stage.TheVariants.{Count, Emit, Discard}
use Rattle.ob_stages.specs.RowsActs.{act_emit}
use Rattle.ob_stages.specs.RowsStates.{RowsAt, HasRegion, IsPlaced, MaySee, MayServe, MayTake, PlacedAt, after_emit, emits_before, is_printing, passes_pad, progress_of, result_in, small}
use Rattle.ob_stages.specs.RowsHolds.{FitRows, Halts, HasBegun, Holds, NeedsAt, left_of}
use Rattle.ob_stages.specs.RowsSteps.{ForgetsOwn, IsHeldIn, LoudStep, QuietStep, ShowsBlock, ShowsBy, StepsAt, gone_wrong}
use Rattle.ob_stages.proofs.RowsAsks.{fits_still}
use Rattle.ob_stages.proofs.RowsEnds.{holds_failed, refused_counted}
use Rattle.ob_stages.proofs.RowsGoing.{HasFailed, steps_failed, steps_kept, stepped, stops_step}
use Rattle.ob_stages.proofs.RowsLoud.{failed_leads, failed_shape, failed_way, head_part, shown_more, shown_part, walked_more, walked_part}
use Rattle.ob_stages.proofs.RowsQuiet.{behind_failed, behind_next, behind_stopped, made_before}
use Rattle.ob_stages.proofs.RowsShown.{leads_none}
use Rattle.ob_stages.proofs.RowsWay.{KnowsWay, shape_of, way_of}

-- ---- a step that emits nothing
pub tells_quiet : {E T : Type 0} (grew cut : E → E → List Event → Type 0) (g h : RowsAt) (others : ℕ) (kept after : List (List ℕ)) (result : Result T OpErr) (old new : World) (out : E) → is_printing g.stage ≡ false
    → QuietStep g h others kept after result old new → Tells grew cut (is_printing g.stage) (Holds g kept) (Holds h after) (Halts g) result old new out out
tells_quiet grew cut g h others kept after (Ok v) old new out unprinted is = record {
  ok = λ events held. record {
    more = [];
    leads = leads_none grew out out refl;
    quiet = λ same. (refl, refl);
    holds = subst (λ (l : List Event). Holds h after l new) (sym (append-nil events)) (is.holds events held);
  };
  err = tt;
}
tells_quiet grew cut g h others kept after (Err e) old new out unprinted is = record {
  ok = tt;
  err = λ events held. record {
    part = [];
    leads = λ printed. absurd (cc (printed, unprinted));
    quiet = λ same. (refl, refl);
    halts = is.halts events held;
  };
}

-- ---- causes
-- the same of another answer
cause_as : (A B : Type 0) (e : OpErr) (a b : ℕ) → SinkCause {T = A} (Err e) a b → SinkCause {T = B} (Err e) a b
cause_as A B Failed a b is = is
cause_as A B (Tampered q p) a b is = is
cause_as A B Sink a b is = is
cause_as A B NoMemory a b is = is

-- no emitter was asked
cause_none : (T : Type 0) (e : OpErr) (a b : ℕ) → (e ≡ Sink → ⊥) → b ≡ a → SinkCause {T = T} (Err e) a b
cause_none T Failed a b never same = same
cause_none T (Tampered q p) a b never same = same
cause_none T Sink a b never same = absurd (never refl)
cause_none T NoMemory a b never same = same

-- what gave up before any access
halted_cause : (e : OpErr) (w : World) → (e ≡ Sink) ⊎ (e ≡ NoMemory) → PassCause e w w
halted_cause Failed w either = elim either [ inl sink ↦ absurd (cc sink) | inr memory ↦ absurd (cc memory) ]
halted_cause (Tampered q p) w either = elim either [ inl sink ↦ absurd (cc sink) | inr memory ↦ absurd (cc memory) ]
halted_cause Sink w either = (refl, λ calm. calm)
halted_cause NoMemory w either = (refl, λ calm. calm)

no_access : {P : Type 0} (e : OpErr) → (e ≡ Sink) ⊎ (e ≡ NoMemory) → IsTrue (is_of_access e) → P
no_access e either of = elim either [
  | inl sink ↦ absurd (cc (of, ap is_of_access sink))
  | inr memory ↦ absurd (cc (of, ap is_of_access memory))
]

pub halted_cut : (e : OpErr) (access : Access) (w : World) → Ready w → (e ≡ Sink) ⊎ (e ≡ NoMemory) → PassCut e (access ∷ []) none w w
halted_cut e access w ready either = record {
  lasts = (went_none none w ready).lasts;
  began = record { done = []; rest = access ∷ []; split = refl; asked = sym (append-nil w.store.asked) };
  asks = λ of. no_access e either of;
  cause = halted_cause e w either;
}

-- the header gave up before any access
module _ {E T : Type 0} (grew cut : E → E → List Event → Type 0) (faults : E → ℕ) (pack : ℕ) (g : RowsAt) (fresh : Flat) (x : ℕ) (w : World) (out_old out_new : E) (unpassed : passes_pad g ≡ false) (e : EmitErr)
    (takes : Takes {T = T} grew cut faults (left_of (x == 0) g.q) (Err e) out_old out_new) where
  pub shows_head : e ≡ EmitErrs.Failed → ShowsBlock grew cut faults pack g fresh x (Err Sink) w w out_old out_new
  shows_head is = record {
    shows = subst (λ (b : Bool). ShowsBy b grew cut faults pack g fresh x (Err Sink) w w out_old out_new) (sym unpassed) (inr (record {
      stops = tt;
      either = inl refl;
      same = refl;
      leads = takes.err;
      cause = subst (λ (x : EmitErr). EmitCause {T = T} (Err x) (faults out_old) (faults out_new)) is takes.cause;
    }));
  }

  pub shows_head_short : e ≡ EmitErrs.NoMemory → ShowsBlock grew cut faults pack g fresh x (Err NoMemory) w w out_old out_new
  shows_head_short is = record {
    shows = subst (λ (b : Bool). ShowsBy b grew cut faults pack g fresh x (Err NoMemory) w w out_old out_new) (sym unpassed) (inr (record {
      stops = tt;
      either = inr refl;
      same = refl;
      leads = takes.err;
      cause = subst (λ (x : EmitErr). EmitCause {T = T} (Err x) (faults out_old) (faults out_new)) is takes.cause;
    }));
  }

-- ---- a block of its result
module _ {E : Type 0} (grew cut : E → E → List Event → Type 0) (faults : E → ℕ) (g : RowsAt) (x own others : ℕ) (old : World) (steps : StepsAt g (Emit x) others old) (is : IsHeldIn g old) (region : g.region ≡ Some own)
    (out_old out_new : E) where
  emit_placed : IsPlaced g
  emit_placed = is.holds.placed

  emit_there : HasRegion g (emits_before g.q g.k x) × (x < Smalls.results (small g.q g.k))
  emit_there = subst (λ (s : Stage). PlacedAt s g) steps.at emit_placed.at

  emit_act : (y : Served) → MayServe g y → act_of (progress_of g) y old.vault.next ≡ Some (Accesses.Read own x)
  emit_act y may =
      let takes : MayTake g y.seen = subst (λ (s : Stage). MaySee s g y.seen) steps.at may.may in
      act_emit g emit_placed.flown y may.same old.vault.next takes.0 takes.1 (emits_before g.q g.k x) own emit_there.0.counted region x refl emit_there.1

  uncounted : (b : Bool) (w : ℕ) → (if b then Emit (x + 1) else Discard) ≡ Count w → ⊥
  uncounted true w here = cc here
  uncounted false w here = cc here

  -- it went well
  module _ (n : ℕ) (new : World) where
    emit_steps : Went (Accesses.Read own x ∷ []) none old new → SealsBlocks g.q.public.pack old new
        → Steps others (progress_of g) (progress_of (stepped g (after_emit g x) g.region g.k n (g.booked - 1) g.seen)) (MayServe g) (MayServe (stepped g (after_emit g x) g.region g.k n (g.booked - 1) g.seen))
        (NeedsAt g) (NeedsAt (stepped g (after_emit g x) g.region g.k n (g.booked - 1) g.seen)) old new
    emit_steps went seals =
        steps_kept g (after_emit g x) g.k n (g.booked - 1) g.seen others (Accesses.Read own x) old new none
        (behind_next g (Emit x) steps.at refl refl emit_placed emit_there others (Accesses.Read own x) old steps.spare emit_act (record { now = refl; makes = tt })
        (after_emit g x) (uncounted (nat_lt (x + 1) (Smalls.results (small g.q g.k)))) n new) (λ r mine. absurd mine) went seals

    emits_ok : {T : Type 0} (v : T) (kept : List (List ℕ)) (b : Bool) → passes_pad g ≡ b → ShowsBy b grew cut faults g.q.public.pack g (result_in g.q g.k own) x (Ok n) old new out_old out_new
        → LoudStep grew cut faults g (stepped g (after_emit g x) g.region g.k n (g.booked - 1) g.seen) others kept (Ok v) old new out_old out_new
    emits_ok v kept true passed walked = record {
      steps = emit_steps walked.walks.ran.ok (λ good fine. walked.walks.seals.seals good);
      stops = tt;
      tells = record { ok = λ events held. walked_more grew cut faults g kept x own old new out_old out_new steps.at region n events passed walked held; err = tt };
      sink = ap faults walked.quiet;
    }
    emits_ok v kept false unpassed (inl shows) = record {
      steps = emit_steps shows.block.ran.ok (λ good fine. shows.block.seals.seals good);
      stops = tt;
      tells = record { ok = λ events held. shown_more grew cut faults g kept x own old new out_old out_new steps.at region n events unpassed shows held; err = tt };
      sink = shows.block.cause ∙ shows.same;
    }
    emits_ok v kept false unpassed (inr stops) = absurd stops.stops

    pub loud_shown : {T : Type 0} (v : T) (kept : List (List ℕ)) → ShowsBlock grew cut faults g.q.public.pack g (result_in g.q g.k own) x (Ok n) old new out_old out_new
        → LoudStep grew cut faults g (stepped g (after_emit g x) g.region g.k n (g.booked - 1) g.seen) others kept (Ok v) old new out_old out_new
    loud_shown v kept block = emits_ok v kept (passes_pad g) refl block.shows

  -- the store failed it
  module _ (mid new : World) (left : old.store.spare ≤ mid.store.spare + 1) (forgets : ForgetsOwn g.region mid new) (store : new.store ≡ mid.store) where
    emit_failed : PassCut Failed (Accesses.Read own x ∷ []) none old mid → SealsBlocks g.q.public.pack old mid → HasFailed g g.region others (Accesses.Read own x) old mid new
    emit_failed cut seals =
        behind_failed g (Emit x) steps.at refl refl emit_placed emit_there others (Accesses.Read own x) old steps.spare emit_act (record { now = refl; makes = tt }) none (λ r mine. absurd mine) mid new cut forgets store left seals

    fails_ok : {T : Type 0} (v : T) (kept : List (List ℕ)) (b : Bool) → passes_pad g ≡ b → ShowsBy b grew cut faults g.q.public.pack g (result_in g.q g.k own) x (Err Failed) old mid out_old out_new
        → LoudStep grew cut faults g (gone_wrong g) others kept (Ok v) old new out_old out_new
    fails_ok v kept true passed walked =
        let failed = emit_failed walked.walks.ran.err (λ good fine. walked.walks.seals.seals good) in
        record {
          steps = steps_failed g g.region others (Accesses.Read own x) old mid new failed;
          stops = tt;
          tells = record {
            ok = λ events held. record {
              more = [];
              leads = leads_none grew out_old out_new walked.quiet;
              quiet = λ unprinted. absurd (cc unprinted);
              holds = holds_failed g g.region others (Accesses.Read own x) old mid new kept kept events [] failed held
                  (subst (HasBegun g.q) (sym (append-nil events)) (shape_of g kept events old g.stage failed.going held.at))
                  (λ slots here honest nolie. subst (λ (l : List Event). KnowsWay g l slots) (sym (append-nil events)) (way_of g kept events old held failed.going slots here honest))
                  (made_before g kept events old new held failed.going);
            };
            err = tt;
          };
          sink = ap faults walked.quiet;
        }
    fails_ok v kept false unpassed (inl shows) =
        let failed = emit_failed shows.block.ran.err (λ good fine. shows.block.seals.seals good) in
        record {
          steps = steps_failed g g.region others (Accesses.Read own x) old mid new failed;
          stops = tt;
          tells = record {
            ok = λ events held. record {
              more = left_of (x == 0) g.q ++ row_events shows.block.halted.rows;
              leads = failed_leads grew cut faults g kept x own old mid out_old out_new steps.at region shows;
              quiet = λ unprinted. absurd (cc unprinted);
              holds = holds_failed g g.region others (Accesses.Read own x) old mid new kept kept events (left_of (x == 0) g.q ++ row_events shows.block.halted.rows) failed held
                  (failed_shape grew cut faults g kept x own old mid out_old out_new steps.at region events unpassed shows held)
                  (failed_way grew cut faults g kept x own old mid out_old out_new steps.at region events unpassed shows held)
                  (made_before g kept events old new held failed.going);
            };
            err = tt;
          };
          sink = shows.block.cause ∙ shows.same;
        }
    fails_ok v kept false unpassed (inr stops) = elim stops.either [ inl sink ↦ absurd (cc sink) | inr memory ↦ absurd (cc memory) ]

    pub loud_failed : {T : Type 0} (v : T) (kept : List (List ℕ)) → ShowsBlock grew cut faults g.q.public.pack g (result_in g.q g.k own) x (Err Failed) old mid out_old out_new
        → LoudStep grew cut faults g (gone_wrong g) others kept (Ok v) old new out_old out_new
    loud_failed v kept block = fails_ok v kept (passes_pad g) refl block.shows

  -- it gave up
  module _ (e : OpErr) (new : World) (never : e ≡ Failed → ⊥) where
    emit_stops : PassCut e (Accesses.Read own x ∷ []) none old new → SealsBlocks g.q.public.pack old new → StopsStep e (progress_of g) (progress_of g) (MayServe g) old new
    emit_stops cut seals =
        stops_step g g (Accesses.Read own x) e old new none
        (behind_stopped g (Emit x) steps.at refl refl emit_placed emit_there others (Accesses.Read own x) old steps.spare emit_act (record { now = refl; makes = tt }) e new never (λ sink. ap is_printing steps.at) seals)
        (λ r mine. absurd mine) cut

    -- before any access
    stops_head : new ≡ old → (e ≡ Sink) ⊎ (e ≡ NoMemory) → StopsStep e (progress_of g) (progress_of g) (MayServe g) old new
    stops_head same either =
        emit_stops (subst (λ (w : World). PassCut e (Accesses.Read own x ∷ []) none old w) (sym same) (halted_cut e (Accesses.Read own x) old steps.ready either))
        (λ good fine. subst (λ (w : World). Seals good old w) (sym same) (seals_none good old))

    stops_by : {T : Type 0} (kept : List (List ℕ)) (b : Bool) → passes_pad g ≡ b → ShowsBy b grew cut faults g.q.public.pack g (result_in g.q g.k own) x (Err e) old new out_old out_new
        → LoudStep {T = T} grew cut faults g g others kept (Err e) old new out_old out_new
    stops_by {T} kept true passed walked = record {
      steps = tt;
      stops = emit_stops walked.walks.ran.err (λ good fine. walked.walks.seals.seals good);
      tells = record { ok = tt; err = λ events held. walked_part grew cut faults g kept x own old new out_old out_new steps.at region e events passed never walked held };
      sink = cause_none T e (faults out_old) (faults out_new) (λ sink. refused_counted e walked.walks.never (inl sink)) (ap faults walked.quiet);
    }
    stops_by {T} kept false unpassed (inl shows) = record {
      steps = tt;
      stops = emit_stops shows.block.ran.err (λ good fine. shows.block.seals.seals good);
      tells = record { ok = tt; err = λ events held. shown_part grew cut faults g kept x own old new out_old out_new steps.at region e events unpassed never shows held };
      sink = subst (λ (n : ℕ). SinkCause {T = T} (Err e) n (faults out_new)) shows.same (cause_as ℕ T e (faults shows.mid) (faults out_new) shows.block.cause);
    }
    stops_by {T} kept false unpassed (inr stops) = record {
      steps = tt;
      stops = stops_head stops.same stops.either;
      tells = record { ok = tt; err = λ events held. head_part grew cut faults g kept x own old new out_old out_new steps.at region e events unpassed stops held };
      sink = cause_as ℕ T e (faults out_old) (faults out_new) stops.cause;
    }

    pub loud_stopped : {T : Type 0} (kept : List (List ℕ)) → ShowsBlock grew cut faults g.q.public.pack g (result_in g.q g.k own) x (Err e) old new out_old out_new
        → LoudStep {T = T} grew cut faults g g others kept (Err e) old new out_old out_new
    loud_stopped kept block = stops_by kept (passes_pad g) refl block.shows

-- ---- what a step does, by its stage
module _ {T : Type 0} (g h : RowsAt) (others : ℕ) (kept after : List (List ℕ)) (old new : World) where
  pub quiet_fits : (result : Result T OpErr) (rows own : List (List ℕ)) → QuietStep g h others kept after result old new → FitRows g.q rows own → OnOk result (FitRows h.q rows own)
  quiet_fits (Ok v) rows own is fit = let course = is.steps.course in fits_still g h rows own course.public course.flat fit
  quiet_fits (Err e) rows own is fit = tt

  pub quiet_sink : (result : Result T OpErr) (n : ℕ) → is_printing g.stage ≡ false → QuietStep g h others kept after result old new → SinkCause result n n
  quiet_sink (Ok v) n unprinted is = refl
  quiet_sink (Err e) n unprinted is = let stops = is.stops in cause_none T e n n (λ sink. absurd (cc (stops.emits sink, unprinted))) refl

module _ {E T : Type 0} (grew cut : E → E → List Event → Type 0) (faults : E → ℕ) (g h : RowsAt) (others : ℕ) (kept : List (List ℕ)) (old new : World) (out_old out_new : E) where
  pub loud_fits : (result : Result T OpErr) (rows own : List (List ℕ)) → LoudStep grew cut faults g h others kept result old new out_old out_new → FitRows g.q rows own → OnOk result (FitRows h.q rows own)
  loud_fits (Ok v) rows own is fit = let course = is.steps.course in fits_still g h rows own course.public course.flat fit
  loud_fits (Err e) rows own is fit = tt

  pub loud_tells : (result : Result T OpErr) → is_printing g.stage ≡ true → LoudStep grew cut faults g h others kept result old new out_old out_new
      → Tells grew cut (is_printing g.stage) (Holds g kept) (Holds h kept) (Halts g) result old new out_old out_new
  loud_tells result printed is = subst (λ (b : Bool). Tells grew cut b (Holds g kept) (Holds h kept) (Halts g) result old new out_old out_new) (sym printed) is.tells
