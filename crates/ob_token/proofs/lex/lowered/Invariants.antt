use Rattle.std.proofs.Common.{◌≡◌, take, map}
use Rattle.ob_token.specs.Bytes.{lower}
use Rattle.ob_token.proofs.lex.lowered.Given as goal

abbrev pub invariant-loop-b : goal.invariant-loop-b
invariant-loop-b l = l.letters.items ≡ map lower (take l.b-index l.word)
