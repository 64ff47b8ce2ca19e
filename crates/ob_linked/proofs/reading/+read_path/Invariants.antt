use Rattle.std.proofs.Common.{length}
use Rattle.ob_linked.proofs.reading.+read_path.Given as goal

abbrev pub decreases-read_path : goal.decreases-read_path
decreases-read_path g l = length l.buckets.now
