use Rattle.ob_script.proofs.FlightLemmas.{flown_in_order}
use Rattle.ob_script.proofs.flights.flights_keep_order.Goals as goal

pub returns : goal.returns
returns c = flown_in_order
