use Rattle.ob_script.proofs.FlightTurns.{goes_or_rests, picks_by, rests}
use Rattle.ob_script.proofs.flights.turns_by_gates.Goals as goal

pub returns : goal.returns
returns c = record {
  picks = picks_by;
  goes = goes_or_rests;
  rests = rests;
}
