use Rattle.std.proofs.Common.{length}
use Rattle.ob_names.proofs.named.+overflow.Given as goal

abbrev pub decreases-overflow : goal.decreases-overflow
decreases-overflow g l = length l.items.now
