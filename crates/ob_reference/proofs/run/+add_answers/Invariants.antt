use Rattle.std.proofs.Common.{length}
use Rattle.ob_reference.proofs.run.+add_answers.Given as goal

abbrev pub decreases-add_answers : goal.decreases-add_answers
decreases-add_answers l = length l.stmts.now
