use Rattle.ob_script.proofs.Leaves.{bucket_some, bucket_w32, place_w32}
use Rattle.ob_script.proofs.place.path_place.Goals as goal

pub overflow_sub-result-2 : goal.overflow_sub-result-2
overflow_sub-result-2 c = bucket_some c.args.height c.args.leaf c.args.c c.requires.leaf.0 c.requires.leaf.1 c.requires.within

pub overflow_mul-result : goal.overflow_mul-result
overflow_mul-result c = bucket_w32 c.args.height c.args.leaf c.args.c c.requires.leaf.0 c.requires.leaf.1 c.requires.within

pub overflow_add-result-2 : goal.overflow_add-result-2
overflow_add-result-2 c = place_w32 c.args.height c.args.leaf c.args.c c.requires.leaf.0 c.requires.leaf.1 c.requires.within
