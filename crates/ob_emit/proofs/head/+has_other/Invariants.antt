use Rattle.std.proofs.Common.{length}
use Rattle.ob_emit.proofs.head.+has_other.Given as goal

abbrev pub decreases-has_other : goal.decreases-has_other
decreases-has_other l = length l.columns.now
