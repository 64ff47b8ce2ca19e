use Rattle.ob_script.proofs.FlightLemmas.{grows_turns}
use Rattle.ob_script.proofs.flights.flights_go_on.Goals as goal

pub returns : goal.returns
returns c = grows_turns
