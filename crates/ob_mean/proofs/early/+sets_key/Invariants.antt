use Rattle.std.proofs.Common.{length}
use Rattle.ob_mean.proofs.early.+sets_key.Given as goal

abbrev pub decreases-sets_key : goal.decreases-sets_key
decreases-sets_key l = length l.sets.now
