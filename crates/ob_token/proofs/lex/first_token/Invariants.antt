use Rattle.std.proofs.Common.{length}
use Rattle.ob_token.proofs.Lexed.{Left}
use Rattle.ob_token.proofs.lex.first_token.Given as goal

abbrev pub invariant-gaps : goal.invariant-gaps
invariant-gaps l = Left l.offset l.bytes l.at l.rest

abbrev pub decreases-gaps : goal.decreases-gaps
decreases-gaps l = length l.rest
