use Rattle.ob_verdict.proofs.InPlaceProof.{keeps_in_place}
use Rattle.ob_verdict.proofs.laws.keeps_in_place.Goals as goal

pub returns : goal.returns
returns c = keeps_in_place
