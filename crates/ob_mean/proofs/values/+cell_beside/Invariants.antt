use Rattle.std.proofs.Common.{length}
use Rattle.ob_mean.proofs.values.+cell_beside.Given as goal

abbrev pub decreases-cell_beside : goal.decreases-cell_beside
decreases-cell_beside g l = length l.names.now
