use Rattle.std.proofs.Common.{length}
use Rattle.ob_names.proofs.named.+has_name.Given as goal

abbrev pub decreases-has_name : goal.decreases-has_name
decreases-has_name g l = length l.items.now
