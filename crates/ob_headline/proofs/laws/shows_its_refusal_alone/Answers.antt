use Rattle.ob_headline.proofs.RerunLemmas.{shows_alone, shows_plainly}
use Rattle.ob_headline.proofs.laws.shows_its_refusal_alone.Goals as goal

pub returns : goal.returns
returns c = record { alone = shows_alone; gathered = shows_plainly }
