use Rattle.ob_headline.proofs.Numbered.{number_on}
use Rattle.ob_headline.proofs.laws.numbers_go_on.Goals as goal

pub returns : goal.returns
returns c = number_on
