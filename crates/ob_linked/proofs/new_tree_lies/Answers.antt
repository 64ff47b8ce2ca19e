use Rattle.ob_linked.proofs.LinkedLemmas.{new_lies}
use Rattle.ob_linked.proofs.new_tree_lies.Goals as goal

pub returns : goal.returns
returns g c = λ n t path rows version cells lies up. new_lies t path rows version n cells lies up
