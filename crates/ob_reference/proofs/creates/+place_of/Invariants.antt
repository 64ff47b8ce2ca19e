use Rattle.std.proofs.Common.{length}
use Rattle.ob_reference.proofs.creates.+place_of.Given as goal

abbrev pub decreases-place_of : goal.decreases-place_of
decreases-place_of l = length l.tables.now
