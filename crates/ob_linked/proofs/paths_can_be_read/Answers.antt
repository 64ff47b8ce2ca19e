use Rattle.ob_linked.proofs.DownLemmas.{path_down, path_up_goes}
use Rattle.ob_linked.proofs.paths_can_be_read.Goals as goal

pub returns-clause-down : goal.returns-clause-down
returns-clause-down c = λ h leaf less. path_down h leaf less

pub returns-clause-up : goal.returns-clause-up
returns-clause-up c = λ h leaf less. path_up_goes h leaf less
