use Rattle.ob_token.proofs.Pieces.{Quotes}
use Rattle.ob_token.proofs.lex.text_len.Given as goal

abbrev pub invariant-loop-i : goal.invariant-loop-i
invariant-loop-i l = Quotes l.bytes l.i l.open
