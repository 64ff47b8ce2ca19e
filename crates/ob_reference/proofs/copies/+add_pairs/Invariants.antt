use Rattle.std.proofs.Common.{length}
use Rattle.ob_reference.proofs.copies.+add_pairs.Given as goal

abbrev pub decreases-add_pairs : goal.decreases-add_pairs
decreases-add_pairs l = length l.left.now
