use Rattle.std.proofs.Common.{length}
use Rattle.ob_reference.proofs.changes.+update_at.Given as goal

abbrev pub decreases-update_at : goal.decreases-update_at
decreases-update_at l = length l.tables.now
