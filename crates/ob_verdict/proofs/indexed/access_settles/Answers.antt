use Rattle.ob_verdict.proofs.AccessProof.{access_settles}
use Rattle.ob_verdict.proofs.indexed.access_settles.Goals as goal

pub returns : goal.returns
returns c draw ts stmt t ask w = access_settles draw ts stmt t ask w
