-- What the trace sink takes of the accesses that were asked.
use Rattle.std.specs.Prelude.{ℕ, Bool, true, false, List, []}
use Rattle.ob_base.specs.declared.access.Access.{Access}
use Rattle.ob_print.specs.Lines.{trace_text}

-- what is written of accesses with and without the flag
abbrev pub traced : Bool → List Access → List ℕ
traced true accesses = trace_text accesses
traced false accesses = []
