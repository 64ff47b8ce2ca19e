use Rattle.std.proofs.Common.{◌∙◌, sym}
use Rattle.ob_base.specs.Schemas.{width}
use Rattle.ob_flat.proofs.Rooms.{shelf_wide, room_after, block_count, block_fits, block_some}
use Rattle.ob_flat.proofs.counting.count.Goals as goal

pub count_blocks-result-requires : goal.count_blocks-result-requires
count_blocks-result-requires g c =
    let s = c.args.room.now in
    let count = block_count s c.pack-pack.ensures.value c.open-rows.ensures.value in
    let some = block_some s c.pack-pack.ensures.sound c.pack-pack.ensures.value c.open-rows.ensures.value in
    record {
      spare = simp (sym count) at c.requires.spare;
      table = record { some = some.0; most = some.1; size = c.requires.size; written = simp (sym count) at c.requires.flat };
      fit = block_fits (width c.args.flat.now.schema) s c.requires.room c.pack-pack.ensures.sound c.pack-pack.ensures.value c.open-rows.ensures.value;
    }

pub clear_shelf-requires-clause-wide : goal.clear_shelf-requires-clause-wide
clear_shelf-requires-clause-wide g c =
    shelf_wide (width c.args.flat.now.schema) c.pack-pack.result c.args.room.now _ c.count_blocks-result.new.rows c.requires.room c.pack-pack.ensures.sound c.pack-pack.ensures.value c.open-rows.ensures.value c.count_blocks-result.ensures.rows

pub returns-clause-room : goal.returns-clause-room
returns-clause-room g c =
    c.clear_shelf.ensures
    ∙ room_after (width c.args.flat.now.schema) c.pack-pack.result c.args.room.now _ c.count_blocks-result.new.rows c.requires.room c.pack-pack.ensures.sound c.pack-pack.ensures.value c.open-rows.ensures.value c.count_blocks-result.ensures.rows

pub returns-clause-counts : goal.returns-clause-counts
returns-clause-counts g c = simp (block_count c.args.room.now c.pack-pack.ensures.value c.open-rows.ensures.value) at c.count_blocks-result.ensures.counts
