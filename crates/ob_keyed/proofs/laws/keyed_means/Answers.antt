use Rattle.ob_keyed.proofs.Meant.{accesses_mean}
use Rattle.ob_keyed.proofs.Told.{finds_access, keyed_means}
use Rattle.ob_keyed.proofs.laws.keyed_means.Goals as goal

pub returns : goal.returns
returns c = record { finds = finds_access; accesses = accesses_mean; served = keyed_means }
