use Rattle.std.proofs.Common.{length}
use Rattle.ob_mean.proofs.listed.+items_mistype.Given as goal

abbrev pub decreases-items_mistype : goal.decreases-items_mistype
decreases-items_mistype l = length l.items.now
