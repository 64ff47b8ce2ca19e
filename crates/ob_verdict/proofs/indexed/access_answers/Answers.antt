use Rattle.ob_verdict.proofs.GotProof.{answers}
use Rattle.ob_verdict.proofs.indexed.access_answers.Goals as goal

pub returns : goal.returns
returns c n place height draw s ask w = answers n place height draw s ask w
