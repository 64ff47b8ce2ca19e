use Rattle.ob_shell.proofs.Words.{length}
use Rattle.ob_shell.proofs.flying.+tally_flown.Given as goal

abbrev pub decreases-tally_flown : goal.decreases-tally_flown
decreases-tally_flown l = length l.outcomes.now
