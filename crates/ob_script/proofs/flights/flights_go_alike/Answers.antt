use Rattle.ob_script.proofs.FlightAlike.{first_alike, flights_alike, flights_alike_more}
use Rattle.ob_script.proofs.flights.flights_go_alike.Goals as goal

pub returns : goal.returns
returns c = record { so_far = flights_alike; further = flights_alike_more; first = first_alike }
