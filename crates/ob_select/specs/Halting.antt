-- What is emitted of an answer until a pass gives up.
use Rattle.std.specs.Prelude.{◌≡◌, ◌⊎◌, List, [], ◌++◌}
use Rattle.ob_base.specs.declared.shown.Shown.{Shown}
use Rattle.ob_base.specs.Events.{Event, row_events, Leads, IsHalted}
use Rattle.ob_flat.specs.declared.fault.OpErr.{OpErr}
use Rattle.ob_flat.specs.declared.fault.OpErr.TheVariants.{Failed, Tampered, Sink, NoMemory}

-- these events were taken, or the output ends within them
abbrev pub MayEnd : {E : Type 0} → (grew cut : E → E → List Event → Type 0) → E → E
    → List Event → Type 0
MayEnd grew cut out_old out_new events = grew out_old out_new events ⊎ cut out_old out_new events

-- nothing was taken, or the header and some rows, which are the first events of those of each source
pub record TakesPart {E Source : Type 0} (grew : E → E → List Event → Type 0) (head : List Event)
    (all : Source → List Event) (out_old out_new : E) : Type 0 where
  pub rows : List (List Shown)
  pub events : List Event
  pub is : (events ≡ []) ⊎ (events ≡ head ++ row_events rows)
  pub leads : Leads grew grew out_old out_new events
  pub told : (source : Source) → (rest : List Event) × (events ++ rest ≡ all source)

-- an access that gave up leaves a part taken, and an emitter that did ends within what it took last; want of memory
-- may come before anything was emitted
abbrev pub EmitsUntil : {E Source : Type 0} → (grew cut : E → E → List Event → Type 0) → OpErr
    → (head : List Event) → (all : Source → List Event) → (out_old out_new : E) → Type 0
EmitsUntil grew cut Failed head all out_old out_new = TakesPart grew head all out_old out_new
EmitsUntil grew cut (Tampered region place) head all out_old out_new =
    TakesPart grew head all out_old out_new
EmitsUntil grew cut Sink head all out_old out_new = IsHalted grew cut all out_old out_new
EmitsUntil grew cut NoMemory head all out_old out_new =
    IsHalted grew (MayEnd grew cut) all out_old out_new
