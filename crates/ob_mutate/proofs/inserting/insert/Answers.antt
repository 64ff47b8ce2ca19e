use Rattle.std.proofs.Common.{◌∙◌, sym}
use Rattle.ob_base.specs.Schemas.{width}
use Rattle.ob_flat.proofs.Rooms.{shelf_wide, shelf_free, shelf_held, room_after, block_count, block_fits, block_some}
use Rattle.ob_mutate.proofs.inserting.insert.Goals as goal

pub open-rows-requires-clause-free : goal.open-rows-requires-clause-free
open-rows-requires-clause-free g c = shelf_free (width c.args.flat.now.schema) c.args.room.now c.requires.room c.pack-pack.ensures.value

pub open-rows-requires-clause-shelf : goal.open-rows-requires-clause-shelf
open-rows-requires-clause-shelf g c = c.requires.room.shelf

pub insert_rows-result-requires : goal.insert_rows-result-requires
insert_rows-result-requires g c =
    let s = c.args.room.now in
    let count = block_count s c.pack-pack.ensures.value c.open-rows.ensures.value in
    let some = block_some s c.pack-pack.ensures.sound c.pack-pack.ensures.value c.open-rows.ensures.value in
    record {
      starts = simp (sym count) at c.requires.starts;
      table = record { some = some.0; most = some.1; size = c.requires.size; written = simp (sym count) at c.requires.flat };
      fit = block_fits (width c.args.flat.now.schema) s c.requires.room c.pack-pack.ensures.sound c.pack-pack.ensures.value c.open-rows.ensures.value;
      cells = c.requires.cells;
    }

pub clear_shelf-requires-clause-wide : goal.clear_shelf-requires-clause-wide
clear_shelf-requires-clause-wide g c =
    shelf_wide (width c.args.flat.now.schema) c.pack-pack.result c.args.room.now _ c.insert_rows-result.new.rows c.requires.room c.pack-pack.ensures.sound c.pack-pack.ensures.value c.open-rows.ensures.value c.insert_rows-result.ensures.rows

pub clear_shelf-requires-clause-held : goal.clear_shelf-requires-clause-held
clear_shelf-requires-clause-held g c =
    shelf_held (width c.args.flat.now.schema) c.args.room.now c.insert_rows-result.new.rows c.requires.room c.pack-pack.ensures.value c.open-rows.ensures.value c.insert_rows-result.ensures.rows

pub returns-clause-room : goal.returns-clause-room
returns-clause-room g c =
    c.clear_shelf.ensures
    ∙ room_after (width c.args.flat.now.schema) c.pack-pack.result c.args.room.now _ c.insert_rows-result.new.rows c.requires.room c.pack-pack.ensures.sound c.pack-pack.ensures.value c.open-rows.ensures.value c.insert_rows-result.ensures.rows

pub returns-clause-inserts : goal.returns-clause-inserts
returns-clause-inserts g c = rw (block_count c.args.room.now c.pack-pack.ensures.value c.open-rows.ensures.value) at c.insert_rows-result.ensures.inserts
