use Rattle.std.proofs.Common.{length}
use Rattle.ob_reference.proofs.changes.+delete_at.Given as goal

abbrev pub decreases-delete_at : goal.decreases-delete_at
decreases-delete_at l = length l.tables.now
