use Rattle.ob_headline.proofs.SavedNumbers.{seals_alone, seals_apart}
use Rattle.ob_headline.proofs.laws.saved_numbers_are_apart.Goals as goal

pub returns : goal.returns
returns c = record { apart = seals_apart; alone = seals_alone }
