use Rattle.std.proofs.Common.{length}
use Rattle.ob_grammar.proofs.Loops.{Turns}
use Rattle.ob_parse.specs.StatementReading.{constrains, constraint}
use Rattle.ob_parse.proofs.change.constraints.Given as goal

abbrev pub invariant-parts : goal.invariant-parts
invariant-parts l = Turns constrains constraint 0 l.fn.tokens l.keys l.rest

abbrev pub decreases-parts : goal.decreases-parts
decreases-parts l = length l.rest
