use Rattle.ob_order.proofs.BucketLemmas.{bucketed_where_same}
use Rattle.ob_order.proofs.laws.buckets_are_of_fields.Goals as goal

pub returns : goal.returns
returns c = bucketed_where_same
