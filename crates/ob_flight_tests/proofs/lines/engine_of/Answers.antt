use Rattle.std.proofs.Common.{refl}
use Rattle.ob_flight_tests.proofs.Begun.{begun}
use Rattle.ob_flight_tests.proofs.lines.engine_of.Goals as goal

pub returns : goal.returns
returns c = begun _ _ _ refl c.start.ensures.agrees c.start.ensures.public c.start.ensures.settled c.start.ensures.alive
