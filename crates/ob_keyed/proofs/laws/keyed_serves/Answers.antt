use Rattle.ob_keyed.proofs.Served.{serves}
use Rattle.ob_keyed.proofs.laws.keyed_serves.Goals as goal

pub returns : goal.returns
returns c = λ stmt index left draw keyed old new shaped gone. serves stmt index left draw keyed old new shaped gone
