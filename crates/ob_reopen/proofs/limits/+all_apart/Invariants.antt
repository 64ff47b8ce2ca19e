use Rattle.std.proofs.Common.{length}
use Rattle.ob_reopen.proofs.limits.+all_apart.Given as goal

abbrev pub decreases-all_apart : goal.decreases-all_apart
decreases-all_apart l = length l.before.now
