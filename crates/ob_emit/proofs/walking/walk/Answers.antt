use Rattle.std.proofs.Common.{sym, ◌∙◌}
use Rattle.ob_base.specs.Schemas.{width}
use Rattle.ob_flat.proofs.Rooms.{shelf_wide, shelf_free, shelf_held, room_after, block_count, block_fits}
use Rattle.ob_flat.proofs.Opened.{block_few}
use Rattle.ob_emit.proofs.walking.walk.Goals as goal

pub open-rows-requires-clause-shelf : goal.open-rows-requires-clause-shelf
open-rows-requires-clause-shelf g c = c.requires.room.shelf

pub open-rows-requires-clause-free : goal.open-rows-requires-clause-free
open-rows-requires-clause-free g c = shelf_free (width c.args.flat.now.schema) c.args.room.now c.requires.room c.pack-pack.ensures.value

pub walk_blocks-result-requires-clause-spare : goal.walk_blocks-result-requires-clause-spare
walk_blocks-result-requires-clause-spare g c = simp (sym (block_count c.args.room.now c.pack-pack.ensures.value c.open-rows.ensures.value)) at c.requires.spare

pub walk_blocks-result-requires-clause-table : goal.walk_blocks-result-requires-clause-table
walk_blocks-result-requires-clause-table g c =
    let count = block_count c.args.room.now c.pack-pack.ensures.value c.open-rows.ensures.value in
    let few = block_few c.args.room.now c.pack-pack.ensures.sound count in
    record { some = few.0; most = few.1; size = simp (sym count) at c.requires.size; written = simp (sym count) at c.requires.flat }

pub walk_blocks-result-requires-clause-fit : goal.walk_blocks-result-requires-clause-fit
walk_blocks-result-requires-clause-fit g c =
    block_fits (width c.args.flat.now.schema) c.args.room.now c.requires.room c.pack-pack.ensures.sound c.pack-pack.ensures.value c.open-rows.ensures.value

pub clear_shelf-requires-clause-held : goal.clear_shelf-requires-clause-held
clear_shelf-requires-clause-held g c =
    shelf_held (width c.args.flat.now.schema) c.args.room.now c.walk_blocks-result.new.rows c.requires.room c.pack-pack.ensures.value c.open-rows.ensures.value c.walk_blocks-result.ensures.rows

pub clear_shelf-requires-clause-wide : goal.clear_shelf-requires-clause-wide
clear_shelf-requires-clause-wide g c =
    shelf_wide (width c.args.flat.now.schema) c.pack-pack.result c.args.room.now _ c.walk_blocks-result.new.rows c.requires.room c.pack-pack.ensures.sound c.pack-pack.ensures.value c.open-rows.ensures.value c.walk_blocks-result.ensures.rows

pub returns-clause-room : goal.returns-clause-room
returns-clause-room g c =
    c.clear_shelf.ensures
    ∙ room_after (width c.args.flat.now.schema) c.pack-pack.result c.args.room.now _ c.walk_blocks-result.new.rows c.requires.room c.pack-pack.ensures.sound c.pack-pack.ensures.value c.open-rows.ensures.value c.walk_blocks-result.ensures.rows

pub returns-clause-walks : goal.returns-clause-walks
returns-clause-walks g c = simp (block_count c.args.room.now c.pack-pack.ensures.value c.open-rows.ensures.value) at c.walk_blocks-result.ensures.walks
