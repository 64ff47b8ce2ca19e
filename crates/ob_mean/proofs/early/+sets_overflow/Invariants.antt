use Rattle.std.proofs.Common.{length}
use Rattle.ob_mean.proofs.early.+sets_overflow.Given as goal

abbrev pub decreases-sets_overflow : goal.decreases-sets_overflow
decreases-sets_overflow l = length l.sets.now
