use Rattle.std.proofs.Common.{length}
use Rattle.ob_mean.proofs.listed.+items_lack.Given as goal

abbrev pub decreases-items_lack : goal.decreases-items_lack
decreases-items_lack l = length l.items.now
