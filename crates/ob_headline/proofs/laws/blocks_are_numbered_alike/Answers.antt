use Rattle.ob_headline.proofs.LeftLemmas.{numbers_alike}
use Rattle.ob_headline.proofs.laws.blocks_are_numbered_alike.Goals as goal

pub returns : goal.returns
returns c = numbers_alike
