use Rattle.std.proofs.Common.{length}
use Rattle.ob_mean.proofs.early.+sets_mistype.Given as goal

abbrev pub decreases-sets_mistype : goal.decreases-sets_mistype
decreases-sets_mistype l = length l.sets.now
