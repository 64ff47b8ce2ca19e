use Rattle.std.proofs.Common.{length}
use Rattle.ob_reference.proofs.tables.+rows_at.Given as goal

abbrev pub decreases-rows_at : goal.decreases-rows_at
decreases-rows_at l = length l.tables.now
