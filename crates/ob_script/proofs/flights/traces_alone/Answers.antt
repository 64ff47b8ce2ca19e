use Rattle.ob_script.proofs.FlightLemmas.{trace_alone}
use Rattle.ob_script.proofs.flights.traces_alone.Goals as goal

pub returns : goal.returns
returns c = trace_alone
