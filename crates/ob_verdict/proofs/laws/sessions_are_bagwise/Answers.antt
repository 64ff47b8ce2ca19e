use Rattle.ob_verdict.proofs.BagwiseProof.{sessions_are_bagwise}
use Rattle.ob_verdict.proofs.laws.sessions_are_bagwise.Goals as goal

pub returns : goal.returns
returns c = sessions_are_bagwise
