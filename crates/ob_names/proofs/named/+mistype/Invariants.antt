use Rattle.std.proofs.Common.{length}
use Rattle.ob_names.proofs.named.+mistype.Given as goal

abbrev pub decreases-mistype : goal.decreases-mistype
decreases-mistype g l = length l.items.now
