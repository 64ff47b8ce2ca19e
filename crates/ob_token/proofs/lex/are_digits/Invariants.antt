use Rattle.std.proofs.Common.{◌≡◌, drop}
use Rattle.ob_token.specs.Bytes.{all_digits}
use Rattle.ob_token.proofs.lex.are_digits.Given as goal

abbrev pub invariant-loop-b : goal.invariant-loop-b
invariant-loop-b l = all_digits l.bytes ≡ all_digits (drop l.b-index l.bytes)
