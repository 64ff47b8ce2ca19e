use Rattle.std.proofs.Common.{length}
use Rattle.ob_names.proofs.named.+has_repeats.Given as goal

abbrev pub decreases-has_repeats : goal.decreases-has_repeats
decreases-has_repeats g l = length l.items.now
