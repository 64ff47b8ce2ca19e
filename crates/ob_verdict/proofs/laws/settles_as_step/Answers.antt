use Rattle.ob_verdict.proofs.SettleProof.{settles}
use Rattle.ob_verdict.proofs.laws.settles_as_step.Goals as goal

pub returns : goal.returns
returns c = settles
