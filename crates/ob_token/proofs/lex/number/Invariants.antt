use Rattle.ob_token.proofs.Digits.{Kept}
use Rattle.ob_token.proofs.lex.number.Given as goal

abbrev pub invariant-loop-d : goal.invariant-loop-d
invariant-loop-d l = Kept l.digits l.d-index l.value
