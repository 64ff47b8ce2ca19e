use Rattle.ob_verdict.proofs.AskProof.{settles_refused}
use Rattle.ob_verdict.proofs.indexed.settles_refused.Goals as goal

pub returns : goal.returns
returns c n place height draw s row w = settles_refused n place height draw s row w
