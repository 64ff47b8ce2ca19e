use Rattle.std.proofs.Common.{length}
use Rattle.ob_reference.proofs.changes.+update_rows.Given as goal

abbrev pub decreases-update_rows : goal.decreases-update_rows
decreases-update_rows l = length l.rows.now
