-- Rows that are made dummies.
use Rattle.ob_row.proofs.SpellingLemmas.{zeros-begin}

-- what their bytes begin with
pub ruleset wiped = (zeros-begin)
