use Rattle.ob_order.proofs.BucketLemmas.{Walks}
use Rattle.ob_order.proofs.buckets.Buckets.find.Given as goal

abbrev pub invariant-loop-link : goal.invariant-loop-link
invariant-loop-link l = Walks l.at l.field l.rows l.self l.link

abbrev pub decreases-loop-link : goal.decreases-loop-link
decreases-loop-link l = l.link
