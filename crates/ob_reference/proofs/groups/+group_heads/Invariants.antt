use Rattle.std.proofs.Common.{length}
use Rattle.ob_reference.proofs.groups.+group_heads.Given as goal

abbrev pub decreases-group_heads : goal.decreases-group_heads
decreases-group_heads l = length l.rows.now
