use Rattle.ob_script.proofs.Steady.{all_steady}
use Rattle.ob_script.proofs.flights.selects_are_steady.Goals as goal

pub returns : goal.returns
returns c = all_steady
