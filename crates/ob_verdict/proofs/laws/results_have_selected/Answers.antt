use Rattle.ob_verdict.proofs.ResultLemmas.{rows-small_slots, rows-large_slots}
use Rattle.ob_verdict.proofs.TurnLemmas.{rows-continuous_slots}
use Rattle.ob_verdict.proofs.HashLemmas.{rows-hash_slots}
use Rattle.ob_verdict.proofs.laws.results_have_selected.Goals as goal

pub returns : goal.returns
returns c = record { small = rows-small_slots; large = rows-large_slots; continuous = rows-continuous_slots; hash = rows-hash_slots }
