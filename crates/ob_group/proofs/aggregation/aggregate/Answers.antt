use Rattle.std.proofs.Common.{◌∙◌, sym}
use Rattle.ob_base.specs.Schemas.{width}
use Rattle.ob_flat.proofs.Rooms.{shelf_wide, room_after, block_count, block_fits}
use Rattle.ob_flat.proofs.Opened.{block_few}
use Rattle.ob_group.proofs.aggregation.aggregate.Goals as goal

pub aggregate_blocks-result-requires-clause-spare : goal.aggregate_blocks-result-requires-clause-spare
aggregate_blocks-result-requires-clause-spare g c = simp (sym (block_count c.args.room.now c.pack-pack.ensures.value c.open-rows.ensures.value)) at c.requires.spare

pub aggregate_blocks-result-requires-clause-table : goal.aggregate_blocks-result-requires-clause-table
aggregate_blocks-result-requires-clause-table g c =
    let count = block_count c.args.room.now c.pack-pack.ensures.value c.open-rows.ensures.value in
    let few = block_few c.args.room.now c.pack-pack.ensures.sound count in
    record { some = few.0; most = few.1; size = c.requires.size; written = simp (sym count) at c.requires.flat }

pub aggregate_blocks-result-requires-clause-fit : goal.aggregate_blocks-result-requires-clause-fit
aggregate_blocks-result-requires-clause-fit g c =
    block_fits (width c.args.flat.now.schema) c.args.room.now c.requires.room c.pack-pack.ensures.sound c.pack-pack.ensures.value c.open-rows.ensures.value

pub clear_shelf-requires-clause-wide : goal.clear_shelf-requires-clause-wide
clear_shelf-requires-clause-wide g c =
    shelf_wide (width c.args.flat.now.schema) c.pack-pack.result c.args.room.now _ c.aggregate_blocks-result.new.rows c.requires.room c.pack-pack.ensures.sound c.pack-pack.ensures.value c.open-rows.ensures.value c.aggregate_blocks-result.ensures.rows

pub returns-clause-room : goal.returns-clause-room
returns-clause-room g c =
    c.clear_shelf.ensures
    ∙ room_after (width c.args.flat.now.schema) c.pack-pack.result c.args.room.now _ c.aggregate_blocks-result.new.rows c.requires.room c.pack-pack.ensures.sound c.pack-pack.ensures.value c.open-rows.ensures.value c.aggregate_blocks-result.ensures.rows

pub returns-clause-aggregates : goal.returns-clause-aggregates
returns-clause-aggregates g c = simp (block_count c.args.room.now c.pack-pack.ensures.value c.open-rows.ensures.value) at c.aggregate_blocks-result.ensures.aggregates
