use Rattle.ob_headline.proofs.ShownLemmas.{asks_shown}
use Rattle.ob_headline.proofs.laws.asks_as_shown.Goals as goal

pub returns : goal.returns
returns c = asks_shown
