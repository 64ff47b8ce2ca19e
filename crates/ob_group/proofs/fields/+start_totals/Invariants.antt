use Rattle.std.proofs.Common.{length}
use Rattle.ob_group.proofs.fields.+start_totals.Given as goal

abbrev pub decreases-start_totals : goal.decreases-start_totals
decreases-start_totals l = length l.items.now
