use Rattle.ob_storage_tests.proofs.Highest.{discard_below}
use Rattle.ob_storage_tests.proofs.calls.follow.Goals as goal

pub make-requires-clause-next : goal.make-requires-clause-next
make-requires-clause-next g c = discard_below _ _ _ _ _ c.reserve.ensures.rests.asked c.in_ok-discard.ensures.asks.asked c.requires.next
