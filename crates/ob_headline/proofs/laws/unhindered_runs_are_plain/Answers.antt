use Rattle.ob_headline.proofs.PlainLemmas.{runs_plainly}
use Rattle.ob_headline.proofs.laws.unhindered_runs_are_plain.Goals as goal

pub returns : goal.returns
returns c = runs_plainly
