use Rattle.ob_oram.proofs.Creates.{shape_is}
use Rattle.ob_oram.proofs.creating.region_of_slots.Goals as goal

pub returns : goal.returns
returns c = shape_is c.args.order c.args.slots c.args.schema.now c.width.ensures
