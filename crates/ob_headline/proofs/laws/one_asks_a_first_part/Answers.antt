use Rattle.ob_headline.proofs.ShownLemmas.{asks_first_part}
use Rattle.ob_headline.proofs.laws.one_asks_a_first_part.Goals as goal

pub returns : goal.returns
returns c = asks_first_part
