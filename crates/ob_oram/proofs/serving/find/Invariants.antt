use Rattle.std.proofs.Common.{◌≡◌, ◌<◌, ◌≢◌, ℕ, Some, None, get_or}
use Rattle.ob_oram.specs.declared.held.Held.{Held}
use Rattle.ob_oram.proofs.serving.find.Given as goal

abbrev pub invariant-loop-i : goal.invariant-loop-i
invariant-loop-i l = (j : ℕ) (held : Held) → j < l.i → get_or l.buffer j None ≡ Some held → held.key ≢ l.key
