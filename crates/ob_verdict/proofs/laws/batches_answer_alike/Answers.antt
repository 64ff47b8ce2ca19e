use Rattle.ob_verdict.proofs.OneByOneProof.{batches_answer_alike}
use Rattle.ob_verdict.proofs.laws.batches_answer_alike.Goals as goal

pub returns : goal.returns
returns c = batches_answer_alike
