use Rattle.std.proofs.Common.{[], sym}
use Rattle.std.specs.List.{flat_map}
use Rattle.std.proofs.lemmas.List.{flat_map_more}
use Rattle.ob_sql.specs.Skeleton.{named_by}
use Rattle.ob_parse.proofs.Keeping.{kept_more, kept_all}
use Rattle.ob_parse.proofs.outline.named.Goals as goal

pub loop-item-preserved : goal.loop-item-preserved
loop-item-preserved c =
    kept_more (flat_map named_by) named_by (λ l x. sym (flat_map_more named_by [] l x)) c.args.items.now c.loop-item.item-index c.item-item.result c.loop-item.found.items
    c.keep_named.new.found.items c.loop-item-test.true c.item-item.is c.loop-item.invariant c.in-Ok.ensures

pub returns : goal.returns
returns c =
    kept_all (flat_map named_by) c.args.items.now c.loop-item.item-index c.loop-item.found.items c.from_vec.result c.loop-item-test.false c.loop-item.invariant c.from_vec.ensures
