-- What the operator answers.
use Rattle.std.specs.Prelude.{ℕ, Option, Some, None, Result, Ok, Err}
use Rattle.ob_flat.specs.declared.fault.OpErr.{OpErr}
use Rattle.ob_flat.specs.declared.flat.Flat.{Flat}
use Rattle.ob_hash.specs.declared.selecting.Placed.{Placed}
use Rattle.ob_hash.specs.declared.selecting.Placed.TheVariants.{Done, Overflow}

-- the result
abbrev pub flat_of : Placed → Flat
flat_of (Done flat) = flat
flat_of (Overflow flat i) = flat

abbrev pub flat_result : Result Placed OpErr → Result Flat OpErr
flat_result (Ok placed) = Ok (flat_of placed)
flat_result (Err e) = Err e

-- the first slot whose row found no bucket
abbrev pub overflow_of : Placed → Option ℕ
overflow_of (Done flat) = None
overflow_of (Overflow flat i) = Some i
