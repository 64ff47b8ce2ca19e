-- What was emitted after one turn.
use Rattle.std.proofs.Common.{◌≡◌, ℕ, ◌+◌, List, [], ◌∷◌, ◌++◌, length, refl, sym, subst, arith}
use Rattle.std.specs.Prelude.{Err}
use Rattle.ob_base.specs.Events.{EmitCause, Event, Leads}
use Rattle.ob_base.specs.declared.emit.EmitErr.{EmitErr}
use Rattle.ob_base.specs.declared.emit.EmitErr.TheVariants.{Failed, NoMemory}
use Rattle.ob_flat.specs.Passes.{SinkCause}
use Rattle.ob_flat.specs.declared.fault.OpErr.{OpErr}
use Rattle.ob_flat.specs.declared.fault.OpErr.TheVariants as Errs
use Rattle.ob_inflight.specs.Answers.{error_of}
use Rattle.ob_verdict.specs.declared.outcome.Outcome.{Outcome}
use Rattle.ob_inflight.specs.Closing.{Closed, Closes, ClosesAll, Emitted}

module _ {E : Type 0} (grew : E → E → List Event → Type 0) (closed : E → E → ℕ → Outcome → Type 0) where
  -- one more answer
  closes_more : (place : ℕ) (ended : List Closed) (one : Closed) (a b c : E) → ClosesAll grew closed place ended a b → Closes grew closed (place + length ended) one b c
      → ClosesAll grew closed place (ended ++ one ∷ []) a c
  closes_more place [] one a b c all closes =
      let e : place + 0 ≡ place = omega arith in
      (c, subst (λ (m : ℕ). Closes grew closed m one a c) e (subst (λ (s : E). Closes grew closed (place + 0) one s c) all closes), refl)
  closes_more place (first ∷ ended) one a b c all closes =
      let e : place + length (first ∷ ended) ≡ place + 1 + length ended = omega arith in
      (all.0, all.1, closes_more (place + 1) ended one all.0 b c all.2 (subst (λ (m : ℕ). Closes grew closed m one b c) e closes))

  -- more events of the one that goes on
  pub emitted_more : (ended : List Closed) (current more : List Event) (a b c : E) → Emitted grew closed ended current a b → Leads grew grew b c more → Emitted grew closed ended (current ++ more) a c
  emitted_more ended current more a b c emitted leads = record { between = emitted.between; took = emitted.took; now = leads emitted.between current emitted.now }

  -- it has ended
  pub emitted_ends : (ended : List Closed) (current more : List Event) (outcome : Outcome) (a b c d : E) → Emitted grew closed ended current a b → Leads grew grew b c more
      → closed c d (length ended) outcome → ClosesAll grew closed 0 (ended ++ (record { outcome = outcome; events = current ++ more }) ∷ []) a d
  emitted_ends ended current more outcome a b c d emitted leads closes =
      let one : Closed = record { outcome = outcome; events = current ++ more } in
      let zero_more : 0 + length ended ≡ length ended = omega arith in
      let it : Closes grew closed (length ended) one emitted.between d = record { between = c; took = leads emitted.between current emitted.now; closes = closes } in
      closes_more 0 ended one a emitted.between d emitted.took (subst (λ (m : ℕ). Closes grew closed m one emitted.between d) (sym zero_more) it)

-- the emitter's error is that of a pass
pub sink_error : (A B : Type 0) (error : EmitErr) (e : OpErr) (a b : ℕ) → e ≡ error_of error → EmitCause {T = A} (Err error) a b → SinkCause {T = B} (Err e) a b
sink_error A B error e a b is cause = subst (λ (o : OpErr). SinkCause {T = B} (Err o) a b) (sym is) (go error cause)
  where
    go : (error : EmitErr) → EmitCause {T = A} (Err error) a b → SinkCause {T = B} (Err (error_of error)) a b
    go Failed cause = cause
    go NoMemory cause = cause

pub sink_behind : (A B : Type 0) (error : EmitErr) (e : OpErr) (a b c : ℕ) → e ≡ error_of error → b ≡ a → EmitCause {T = A} (Err error) b c → SinkCause {T = B} (Err e) a c
sink_behind A B error e a b c is same cause = sink_error A B error e a c is (subst (λ (n : ℕ). EmitCause {T = A} (Err error) n c) same cause)

pub sink_as : (A B : Type 0) (e : OpErr) (a b : ℕ) → SinkCause {T = A} (Err e) a b → SinkCause {T = B} (Err e) a b
sink_as A B Errs.Failed a b cause = cause
sink_as A B (Errs.Tampered q x) a b cause = cause
sink_as A B Errs.Sink a b cause = cause
sink_as A B Errs.NoMemory a b cause = cause
