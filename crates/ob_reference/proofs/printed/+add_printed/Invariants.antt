use Rattle.std.proofs.Common.{length}
use Rattle.ob_reference.proofs.printed.+add_printed.Given as goal

abbrev pub decreases-add_printed : goal.decreases-add_printed
decreases-add_printed l = length l.rows.now
