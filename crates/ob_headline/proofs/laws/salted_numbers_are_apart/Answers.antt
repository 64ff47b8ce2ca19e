use Rattle.ob_headline.proofs.SaltedNumbers.{by_own_salt, salted_apart}
use Rattle.ob_headline.proofs.laws.salted_numbers_are_apart.Goals as goal

pub returns : goal.returns
returns c = record { apart = salted_apart; alone = by_own_salt }
