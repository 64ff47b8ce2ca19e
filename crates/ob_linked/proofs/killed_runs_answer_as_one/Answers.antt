use Rattle.ob_linked.proofs.AheadLemmas.{as_one}
use Rattle.ob_linked.proofs.killed_runs_answer_as_one.Goals as goal

pub returns : goal.returns
returns g c = λ key h texts r s is. as_one key h texts r s is
