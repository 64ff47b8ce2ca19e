use Rattle.std.specs.Option.{option_map}
use Rattle.ob_row.specs.Truth.{is_true, updated}
use Rattle.ob_blocks.proofs.Changes.{map_at-map}
use Rattle.ob_mutate.proofs.Counted.{count_rows}
use Rattle.ob_mutate.proofs.Moving.{rewrites_as}
use Rattle.ob_mutate.proofs.updating.update.Goals as goal

pub returns-clause-updates : goal.returns-clause-updates
returns-clause-updates g c =
    let p = c.args.pred.now in
    rewrites_as (count_rows (is_true p)) (map_at-map (option_map (updated p c.args.sets.now)) 0) c.rewrite.ensures.rewrites
