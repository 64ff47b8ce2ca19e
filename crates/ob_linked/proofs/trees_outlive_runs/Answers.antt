use Rattle.ob_linked.proofs.LinkedLemmas.{lives}
use Rattle.ob_linked.proofs.trees_outlive_runs.Goals as goal

pub returns : goal.returns
returns g c = λ n m t m2 t2 c1 c2 s s2 life stands. lives n life stands
