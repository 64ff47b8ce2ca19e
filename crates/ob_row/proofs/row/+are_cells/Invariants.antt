use Rattle.std.proofs.Common.{length}
use Rattle.ob_row.proofs.row.+are_cells.Given as goal

abbrev pub decreases-are_cells : goal.decreases-are_cells
decreases-are_cells l = length l.columns.now
