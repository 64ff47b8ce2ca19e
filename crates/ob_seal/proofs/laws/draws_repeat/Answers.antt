use Rattle.ob_seal.proofs.Drawn.{draws_wrap}
use Rattle.ob_seal.proofs.laws.draws_repeat.Goals as goal

pub returns : goal.returns
returns c = draws_wrap
