use Rattle.std.proofs.Common.{length}
use Rattle.ob_script.proofs.sections.+nth_of.Given as goal

abbrev pub decreases-nth_of : goal.decreases-nth_of
decreases-nth_of l = length l.sections.now
