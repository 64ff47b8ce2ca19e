use Rattle.ob_seal.proofs.Agree.{sealed_agree}
use Rattle.ob_seal.proofs.Salts.{known_pair, own_pair, plain_of_secret, relisted_pair, salted_of_secret, salted_pair}
use Rattle.ob_seal.proofs.laws.salts_name_keys.Goals as goal

pub returns-clause-named : goal.returns-clause-named
returns-clause-named c = λ secret salt earlier q. salted_pair secret salt earlier q

pub returns-clause-own : goal.returns-clause-own
returns-clause-own c = own_pair

pub returns-clause-known : goal.returns-clause-known
returns-clause-known c = known_pair

pub returns-clause-salted : goal.returns-clause-salted
returns-clause-salted c = salted_of_secret

pub returns-clause-plain : goal.returns-clause-plain
returns-clause-plain c = plain_of_secret

pub returns-clause-later : goal.returns-clause-later
returns-clause-later c = relisted_pair

pub returns-clause-alike : goal.returns-clause-alike
returns-clause-alike c = λ k l at row same. sealed_agree k l at same row
