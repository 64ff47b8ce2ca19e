use Rattle.std.proofs.Common.{length}
use Rattle.ob_group.proofs.fields.+add_totals.Given as goal

abbrev pub decreases-add_totals : goal.decreases-add_totals
decreases-add_totals l = length l.items.now
