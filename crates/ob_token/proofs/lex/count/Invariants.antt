use Rattle.std.proofs.Common.{length}
use Rattle.ob_token.proofs.Lexed.{Counted}
use Rattle.ob_token.proofs.lex.count.Given as goal

abbrev pub invariant-tokens : goal.invariant-tokens
invariant-tokens l = Counted l.text l.count l.offset l.left

abbrev pub decreases-tokens : goal.decreases-tokens
decreases-tokens l = length l.left
