use Rattle.std.proofs.Common.{length}
use Rattle.ob_reference.proofs.tables.+columns_at.Given as goal

abbrev pub decreases-columns_at : goal.decreases-columns_at
decreases-columns_at l = length l.tables.now
