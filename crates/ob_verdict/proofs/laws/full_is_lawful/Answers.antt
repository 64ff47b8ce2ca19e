use Rattle.ob_verdict.proofs.FullProof.{full_is_lawful}
use Rattle.ob_verdict.proofs.laws.full_is_lawful.Goals as goal

pub returns : goal.returns
returns c = full_is_lawful
