use Rattle.ob_verdict.proofs.AlikeProof.{order_is_nothing}
use Rattle.ob_verdict.proofs.laws.order_is_nothing.Goals as goal

pub returns : goal.returns
returns c = order_is_nothing
