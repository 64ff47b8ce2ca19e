-- What passes say that emit the rows of a table.
use Rattle.std.specs.Prelude.{◌≡◌, ℕ, List, None, Result, OnOk, OnErr}
use Rattle.ob_base.specs.declared.emit.EmitErr.{EmitErr}
use Rattle.ob_base.specs.Events.{Event, EmitCause, Leads}
use Rattle.ob_row.specs.Slots.{Slots}
use Rattle.ob_vault.specs.State.{World}
use Rattle.ob_vault.specs.Tied.{IsUnfit}
use Rattle.ob_flat.specs.declared.flat.Flat.{Flat}
use Rattle.ob_flat.specs.Flats.{Represents}

-- an emitter took these events, or its output ends within them
pub record Takes {E T : Type 0} (grew cut : E → E → List Event → Type 0) (faults : E → ℕ)
    (events : List Event) (result : Result T EmitErr) (out_old out_new : E) : Type 0 where
  pub ok : OnOk result (Leads grew grew out_old out_new events)
  pub err : OnErr result (Leads grew cut out_old out_new events)
  pub cause : EmitCause result (faults out_old) (faults out_new)

-- the slots of a table, each block of which was read as it was written
pub record SlotsToEnd (pack : ℕ) (flat : Flat) (old new : World) : Type 0 where
  pub slots : Slots
  pub is : Represents pack flat slots old
  pub nolie : new.store.lie ≡ None

-- and those of one that was read so until a pass halted, maybe at a changed block
pub record SlotsToHalt (pack : ℕ) (flat : Flat) (old new : World) : Type 0 where
  pub slots : Slots
  pub is : Represents pack flat slots old
  pub nolie : old.store.lie ≡ None
  pub unfit : IsUnfit new
