use Rattle.ob_linked.proofs.LeafLemmas.{runs_apart}
use Rattle.ob_linked.proofs.runs_read_apart.Goals as goal

pub returns : goal.returns
returns c events mended = runs_apart events mended
