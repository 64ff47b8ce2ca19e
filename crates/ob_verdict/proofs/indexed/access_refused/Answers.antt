use Rattle.ob_verdict.proofs.AccessProof.{access_refused}
use Rattle.ob_verdict.proofs.indexed.access_refused.Goals as goal

pub returns : goal.returns
returns c draw ts stmt t row w = access_refused draw ts stmt t row w
