use Rattle.std.proofs.Common.{length}
use Rattle.ob_pass_tests.proofs.items.+items_within.Given as goal

abbrev pub decreases-items_within : goal.decreases-items_within
decreases-items_within l = length l.items.now
