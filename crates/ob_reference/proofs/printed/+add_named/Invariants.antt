use Rattle.std.proofs.Common.{length}
use Rattle.ob_reference.proofs.printed.+add_named.Given as goal

abbrev pub decreases-add_named : goal.decreases-add_named
decreases-add_named l = length l.names.now
