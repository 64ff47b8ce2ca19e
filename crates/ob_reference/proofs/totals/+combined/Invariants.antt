use Rattle.std.proofs.Common.{length}
use Rattle.ob_reference.proofs.totals.+combined.Given as goal

abbrev pub decreases-combined : goal.decreases-combined
decreases-combined l = length l.rows.now
