-- What statements in flight emit.
use Rattle.std.specs.Prelude.{◌≡◌, ◌<◌, ◌^◌, ◌++◌, ⊤, Bool, true, false, List, [], Result, IfOk, IfErr}
use Rattle.ob_base.specs.Events.{Event, Leads}
use Rattle.ob_base.specs.declared.emit.EmitErr.{EmitErr}
use Rattle.ob_base.specs.declared.emit.EmitErr.TheVariants as EmitErrs
use Rattle.ob_flat.specs.declared.fault.OpErr.{OpErr}
use Rattle.ob_flat.specs.declared.fault.OpErr.TheVariants.{Failed, Tampered, Sink, NoMemory}
use Rattle.ob_vault.specs.State.{World}
use Rattle.ob_verdict.specs.declared.outcome.Outcome.{Outcome}
use Rattle.ob_verdict.specs.declared.outcome.Outcome.TheVariants.{Rows}

-- a number of rows has 32 bits
abbrev pub HasFewRows : Outcome → Type 0
HasFewRows (Rows k) = k < 2 ^ 32
HasFewRows _ = ⊤

-- it stands as it should, with some events
pub record IsHeld (Holds : List Event → World → Type 0) (w : World) : Type 0 where
  pub events : List Event
  pub holds : Holds events w

-- and in some world
pub record IsHeldSomewhere (Holds : List Event → World → Type 0) : Type 0 where
  pub world : World
  pub held : IsHeld Holds world

-- how an emitter ends within some events: with them where the emitter itself didn't give up
abbrev pub EndsBy : {E : Type 0} → (grew cut : E → E → List Event → Type 0) → OpErr
    → (E → E → List Event → Type 0)
EndsBy grew cut Failed = grew
EndsBy grew cut (Tampered region place) = grew
EndsBy grew cut Sink = cut
EndsBy grew cut NoMemory = cut

-- after the events before more were emitted, none where nothing is to be
pub record More {E : Type 0} (grew : E → E → List Event → Type 0) (printing : Bool)
    (Holds : List Event → World → Type 0) (events : List Event) (w : World) (out_old out_new : E)
    : Type 0 where
  pub more : List Event
  pub leads : Leads grew grew out_old out_new more
  pub quiet : printing ≡ false → (more ≡ []) × (out_new ≡ out_old)
  pub holds : Holds (events ++ more) w

-- or a first part of more; the emitter ends within it only where something is to be emitted
pub record Part {E : Type 0} (grew to : E → E → List Event → Type 0) (printing : Bool)
    (Halts : (events part : List Event) → Type 0) (events : List Event) (out_old out_new : E)
    : Type 0 where
  pub part : List Event
  pub leads : printing ≡ true → Leads grew to out_old out_new part
  pub quiet : printing ≡ false → (part ≡ []) × (out_new ≡ out_old)
  pub halts : Halts events part

-- whatever stood before a step stands after it, with what was emitted in it
pub record Tells {E T : Type 0} (grew cut : E → E → List Event → Type 0) (printing : Bool)
    (Holds_old Holds_new : List Event → World → Type 0)
    (Halts : (events part : List Event) → OpErr → (old new : World) → Type 0)
    (result : Result T OpErr) (old new : World) (out_old out_new : E) : Type 0 where
  pub ok : IfOk result (λ _. (events : List Event) → Holds_old events old
      → More grew printing Holds_new events new out_old out_new)
  pub err : IfErr result (λ e. (events : List Event) → Holds_old events old
      → Part grew (EndsBy grew cut e) printing
      (λ events part. Halts events part e old new) events out_old out_new)

-- the same error of a pass
abbrev pub error_of : EmitErr → OpErr
error_of EmitErrs.Failed = Sink
error_of EmitErrs.NoMemory = NoMemory

-- and after its end
pub record Finishes {E T : Type 0} (grew cut : E → E → List Event → Type 0)
    (Holds_old Holds_new : List Event → World → Type 0)
    (Halts : (events part : List Event) → OpErr → (old new : World) → Type 0)
    (result : Result T EmitErr) (out_old out_new : E) : Type 0 where
  pub ok : IfOk result (λ _. (events : List Event) (w : World) → Holds_old events w
      → More grew true Holds_new events w out_old out_new)
  pub err : IfErr result (λ e. (events : List Event) (w : World) → Holds_old events w
      → Part grew cut true
      (λ events part. Halts events part (error_of e) w w) events out_old out_new)
