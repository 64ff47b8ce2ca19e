-- What ends a session in a statement.
use Rattle.ob_base.specs.declared.emit.EmitErr.{EmitErr}
use Rattle.ob_base.specs.declared.emit.EmitErr.TheVariants as EmitErrs
use Rattle.ob_base.specs.declared.refusal.Stop.{Stop}
use Rattle.ob_base.specs.declared.refusal.Stop.TheVariants as Stops
use Rattle.ob_flat.specs.declared.fault.OpErr.{OpErr}
use Rattle.ob_flat.specs.declared.fault.OpErr.TheVariants as OpErrs
use Rattle.ob_tables.specs.declared.stop.RunStop.{RunStop}
use Rattle.ob_tables.specs.declared.stop.RunStop.TheVariants.{Tampered, SinkFault, NoMemory, StoreFault, StashFull, KeeperFault}

-- the stop of the session that a stop of the engine makes
abbrev pub session_stop : RunStop → Stop
session_stop (Tampered region place) = Stops.Tampered region place
session_stop SinkFault = Stops.SinkFault
session_stop NoMemory = Stops.NoMemory
session_stop StoreFault = Stops.StoreFault
session_stop StashFull = Stops.StashFull
session_stop KeeperFault = Stops.KeeperFault

-- the error of a pass that an emitter's makes
abbrev pub error_of : EmitErr → OpErr
error_of EmitErrs.Failed = OpErrs.Sink
error_of EmitErrs.NoMemory = OpErrs.NoMemory
