use Rattle.std.proofs.Common.{length}
use Rattle.ob_names.proofs.named.+lack_column.Given as goal

abbrev pub decreases-lack_column : goal.decreases-lack_column
decreases-lack_column g l = length l.items.now
