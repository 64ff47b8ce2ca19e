use Rattle.std.proofs.Common.{◌≡◌, ◌+◌, drop}
use Rattle.ob_token.specs.Bytes.{comment_len}
use Rattle.ob_token.proofs.lex.line_len.Given as goal

abbrev pub invariant-loop-i : goal.invariant-loop-i
invariant-loop-i l = comment_len l.bytes ≡ l.i + comment_len (drop l.i l.bytes)
