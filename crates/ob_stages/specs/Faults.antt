-- The error that is the store's fault.
use Rattle.std.specs.Prelude.{Bool, true, false}
use Rattle.ob_flat.specs.declared.fault.OpErr.{OpErr}
use Rattle.ob_flat.specs.declared.fault.OpErr.TheVariants.{Failed, Tampered, Sink, NoMemory}

abbrev pub is_fault : OpErr → Bool
is_fault Failed = true
is_fault (Tampered region place) = false
is_fault Sink = false
is_fault NoMemory = false
