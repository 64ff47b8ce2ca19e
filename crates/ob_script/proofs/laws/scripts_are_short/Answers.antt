use Rattle.ob_script.proofs.Few.{script_few}
use Rattle.ob_script.proofs.laws.scripts_are_short.Goals as goal

pub returns : goal.returns
returns c = script_few
