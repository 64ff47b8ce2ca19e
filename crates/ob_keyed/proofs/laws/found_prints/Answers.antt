use Rattle.ob_keyed.proofs.Found.{prints_found}
use Rattle.ob_keyed.proofs.laws.found_prints.Goals as goal

pub returns : goal.returns
returns c = prints_found
