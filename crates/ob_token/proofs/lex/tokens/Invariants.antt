use Rattle.std.proofs.Common.{length, vec_len, vec_capacity}
use Rattle.ob_token.proofs.Lexed.{Filled}
use Rattle.ob_token.proofs.lex.tokens.Given as goal

abbrev pub invariant-tokens : goal.invariant-tokens
invariant-tokens l = Filled l.text l.found.items (vec_len l.found) (vec_capacity l.found) l.offset l.left

abbrev pub decreases-tokens : goal.decreases-tokens
decreases-tokens l = length l.left
