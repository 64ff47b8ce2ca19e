use Rattle.std.proofs.Common.{◌≡◌, length, ◌+◌, drop}
use Rattle.ob_token.specs.Bytes.{run}
use Rattle.ob_token.proofs.lex.run_len.Given as goal

abbrev pub invariant-loop-i : goal.invariant-loop-i
invariant-loop-i l = length (run l.bytes) ≡ l.i + length (run (drop l.i l.bytes))
