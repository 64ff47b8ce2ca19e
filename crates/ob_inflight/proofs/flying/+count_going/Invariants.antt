use Rattle.std.proofs.Common.{length}
use Rattle.ob_inflight.proofs.flying.+count_going.Given as goal

abbrev pub decreases-count_going : goal.decreases-count_going
decreases-count_going g l = length l.flyers.now
