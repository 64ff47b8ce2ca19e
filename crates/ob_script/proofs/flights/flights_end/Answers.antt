use Rattle.ob_script.specs.Flights.{turns_of}
use Rattle.ob_script.proofs.FlightEnds.{ends_whole}
use Rattle.ob_script.proofs.FlightLemmas.{next_after}
use Rattle.ob_script.proofs.flights.flights_end.Goals as goal

pub returns : goal.returns
returns c = record { ends = ends_whole; next = λ p flown words. next_after p flown words (turns_of p flown) }
