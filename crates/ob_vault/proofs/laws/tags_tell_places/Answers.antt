use Rattle.ob_seal.proofs.HeadsApart.{heads_apart}
use Rattle.ob_vault.proofs.LawLemmas.{lies_apart, lies_salted}
use Rattle.ob_vault.proofs.laws.tags_tell_places.Goals as goal

pub returns-clause-heads : goal.returns-clause-heads
returns-clause-heads c = heads_apart

pub returns-clause-lies : goal.returns-clause-lies
returns-clause-lies c = lies_apart

pub returns-clause-salts : goal.returns-clause-salts
returns-clause-salts c = lies_salted
