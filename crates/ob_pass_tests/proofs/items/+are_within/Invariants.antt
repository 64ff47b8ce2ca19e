use Rattle.std.proofs.Common.{length}
use Rattle.ob_pass_tests.proofs.items.+are_within.Given as goal

abbrev pub decreases-are_within : goal.decreases-are_within
decreases-are_within l = length l.aggregates.now
