use Rattle.std.proofs.Common.{length}
use Rattle.ob_mean.proofs.listed.+columns_lack.Given as goal

abbrev pub decreases-columns_lack : goal.decreases-columns_lack
decreases-columns_lack l = length l.names.now
