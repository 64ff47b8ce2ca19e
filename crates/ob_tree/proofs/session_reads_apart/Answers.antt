use Rattle.ob_tree.proofs.DrawLemmas.{session_apart}
use Rattle.ob_tree.proofs.session_reads_apart.Goals as goal

pub returns : goal.returns
returns c events = session_apart events
