use Rattle.ob_oram.proofs.Scripting.{scripts_join}
use Rattle.ob_oram.proofs.laws.scripts_join.Goals as goal

pub returns : goal.returns
returns c index leaf below = scripts_join index leaf below
