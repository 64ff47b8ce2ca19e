use Rattle.ob_verdict.proofs.AskProof.{settles}
use Rattle.ob_verdict.proofs.indexed.settles_indexed.Goals as goal

pub returns : goal.returns
returns c n place height draw s ask w = settles n place height draw s ask w
