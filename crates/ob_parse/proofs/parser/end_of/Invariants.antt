use Rattle.std.proofs.Common.{◌≡◌, drop}
use Rattle.ob_parse.specs.Refusal.{last_end}
use Rattle.ob_parse.proofs.parser.end_of.Given as goal

abbrev pub invariant-loop-token : goal.invariant-loop-token
invariant-loop-token l = last_end 0 l.tokens ≡ last_end l.end (drop l.token-index l.tokens)
