use Rattle.std.proofs.Common.{length}
use Rattle.ob_meddle.proofs.acts.+do_acts.Given as goal

abbrev pub decreases-do_acts : goal.decreases-do_acts
decreases-do_acts l = length l.list.now
