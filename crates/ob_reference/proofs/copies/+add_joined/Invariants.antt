use Rattle.std.proofs.Common.{length}
use Rattle.ob_reference.proofs.copies.+add_joined.Given as goal

abbrev pub decreases-add_joined : goal.decreases-add_joined
decreases-add_joined l = length l.right.now
