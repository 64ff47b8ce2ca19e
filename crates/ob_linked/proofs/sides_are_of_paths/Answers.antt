use Rattle.ob_linked.proofs.LinkedLemmas.{sides}
use Rattle.ob_linked.proofs.sides_are_of_paths.Goals as goal

pub returns : goal.returns
returns g c = λ turns t b. sides turns t b
