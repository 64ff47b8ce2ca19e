use Rattle.std.proofs.Common.{length}
use Rattle.ob_flight_tests.proofs.sessions.+all_fly.Given as goal

abbrev pub decreases-all_fly : goal.decreases-all_fly
decreases-all_fly l = length l.stmts.now
