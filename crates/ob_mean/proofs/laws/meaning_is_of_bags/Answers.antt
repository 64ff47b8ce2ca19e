use Rattle.ob_mean.proofs.SameProof.{meaning_is_of_bags}
use Rattle.ob_mean.proofs.laws.meaning_is_of_bags.Goals as goal

pub returns : goal.returns
returns c = meaning_is_of_bags
