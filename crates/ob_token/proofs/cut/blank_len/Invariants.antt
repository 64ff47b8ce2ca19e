use Rattle.std.proofs.Common.{◌≡◌, ◌+◌, drop}
use Rattle.ob_token.specs.Cutting.{blanks}
use Rattle.ob_token.proofs.cut.blank_len.Given as goal

abbrev pub invariant-loop-i : goal.invariant-loop-i
invariant-loop-i l = blanks l.bytes ≡ l.i + blanks (drop l.i l.bytes)
