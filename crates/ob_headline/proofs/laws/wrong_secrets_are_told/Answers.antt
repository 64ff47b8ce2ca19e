use Rattle.ob_headline.proofs.SecretLemmas.{own_told, wrong_told}
use Rattle.ob_headline.proofs.laws.wrong_secrets_are_told.Goals as goal

pub returns : goal.returns
returns c = record { wrong = wrong_told; own = own_told }
