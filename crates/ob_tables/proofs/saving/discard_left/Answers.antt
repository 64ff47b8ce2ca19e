use Rattle.ob_tables.proofs.ClosedLemmas.{drops_some}
use Rattle.ob_tables.proofs.saving.discard_left.Goals as goal

pub discard-requires-clause-below : goal.discard-requires-clause-below
discard-requires-clause-below g c = (c.requires.waits c.in-Some.region c.in-Some.is).1

pub returns-in-Some : goal.returns-in-Some
returns-in-Some g c = record { drops = drops_some c.args.left c.in-Some.region c.discard.result _ _ c.in-Some.is c.discard.ensures.drops }
