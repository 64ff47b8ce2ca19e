use Rattle.std.proofs.Common.{length}
use Rattle.ob_exec.proofs.boarding.+see_first.Given as goal

abbrev pub decreases-see_first : goal.decreases-see_first
decreases-see_first l = length l.stmts.now
