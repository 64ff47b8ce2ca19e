use Rattle.ob_verdict.proofs.AcceptedProof.{places_fit, totals_places_fit, joins_fit, sets_fit, conditions_fit, buckets_fit}
use Rattle.ob_verdict.proofs.NamesFlatProof.{names_flat}
use Rattle.ob_verdict.proofs.laws.accepted_laws.Goals as goal

pub returns : goal.returns
returns c = record { rows = places_fit; totals = totals_places_fit; joins = joins_fit; sets = sets_fit; conditions = conditions_fit; buckets = buckets_fit; flat = names_flat }
