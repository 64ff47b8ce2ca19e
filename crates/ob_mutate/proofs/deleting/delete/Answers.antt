use Rattle.ob_row.specs.Slots.{emptied}
use Rattle.ob_row.specs.Truth.{is_true}
use Rattle.ob_blocks.proofs.Changes.{map_at-map}
use Rattle.ob_mutate.proofs.Counted.{count_rows}
use Rattle.ob_mutate.proofs.Moving.{rewrites_as}
use Rattle.ob_mutate.proofs.deleting.delete.Goals as goal

pub returns-clause-deletes : goal.returns-clause-deletes
returns-clause-deletes g c =
    let p = is_true c.args.pred.now in
    rewrites_as (count_rows p) (map_at-map (emptied p) 0) c.rewrite.ensures.rewrites
