use Rattle.std.proofs.Common.{length}
use Rattle.ob_mean.proofs.creates.+key_count.Given as goal

abbrev pub decreases-key_count : goal.decreases-key_count
decreases-key_count l = length l.columns.now
