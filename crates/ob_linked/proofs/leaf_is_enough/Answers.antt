use Rattle.ob_linked.proofs.LeafLemmas.{enough}
use Rattle.ob_linked.proofs.leaf_is_enough.Goals as goal

pub returns : goal.returns
returns c leaf draw next given ks less all = enough leaf draw next given ks less all
