use Rattle.ob_verdict.proofs.MovingProof.{moves, creates_new, drops_one}
use Rattle.ob_verdict.proofs.laws.moving_laws.Goals as goal

pub returns : goal.returns
returns c = record { moves = moves; creates = creates_new; drops = drops_one }
