use Rattle.std.proofs.Common.{length}
use Rattle.ob_inflight.proofs.flying.+booked_by.Given as goal

abbrev pub decreases-booked_by : goal.decreases-booked_by
decreases-booked_by g l = length l.flyers.now
