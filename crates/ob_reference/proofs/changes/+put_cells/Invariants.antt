use Rattle.std.proofs.Common.{length}
use Rattle.ob_reference.proofs.changes.+put_cells.Given as goal

abbrev pub decreases-put_cells : goal.decreases-put_cells
decreases-put_cells l = length l.sets.now
