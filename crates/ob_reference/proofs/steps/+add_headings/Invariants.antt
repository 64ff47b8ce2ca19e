use Rattle.std.proofs.Common.{length}
use Rattle.ob_reference.proofs.steps.+add_headings.Given as goal

abbrev pub decreases-add_headings : goal.decreases-add_headings
decreases-add_headings l = length l.tables.now
