use Rattle.std.proofs.Common.{length}
use Rattle.ob_inflight.proofs.flying.+place_going.Given as goal

abbrev pub decreases-place_going : goal.decreases-place_going
decreases-place_going g l = length l.flyers.now
