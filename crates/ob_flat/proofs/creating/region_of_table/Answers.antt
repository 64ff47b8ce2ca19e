use Rattle.ob_flat.proofs.Tables.{block_w32, same_region}
use Rattle.ob_flat.proofs.creating.region_of_table.Goals as goal

pub overflow_mul-result : goal.overflow_mul-result
overflow_mul-result c = block_w32 c.requires.pack.1 c.requires.size.wide c.width.ensures

pub returns : goal.returns
returns c = same_region c.args.order c.args.pack c.div_ceil.ensures c.width.ensures
