use Rattle.std.proofs.Common.{length}
use Rattle.ob_mean.proofs.listed.+items_stray.Given as goal

abbrev pub decreases-items_stray : goal.decreases-items_stray
decreases-items_stray l = length l.items.now
