use Rattle.std.proofs.Common.{◌∙◌, arith}
use Rattle.ob_reopen.proofs.RoomLemmas.{one, fits, shelf_wide, shelf_held, room_after}
use Rattle.ob_reopen.proofs.writing.write_closing.Goals as goal

pub overflow_cast-pack : goal.overflow_cast-pack
overflow_cast-pack g c = let few = c.pack-pack.ensures.sound.pack_few in omega (arith, few, c.pack-pack.ensures.value)

pub close_rows-result-requires : goal.close_rows-result-requires
close_rows-result-requires g c = record {
  asks = c.requires.asks;
  few = c.requires.few;
  columns = c.requires.columns;
  fit = fits c.args.room.now c.open-rows.result.now c.requires.room c.open-rows.ensures.value;
  one = one c.args.room.now c.open-rows.result.now c.requires.room c.open-rows.ensures.value;
}

pub clear_shelf-requires-clause-wide : goal.clear_shelf-requires-clause-wide
clear_shelf-requires-clause-wide g c =
    shelf_wide c.args.room.now c.open-rows.result.now c.requires.room c.open-rows.ensures.value c.close_rows-result.new.rows c.close_rows-result.ensures.rows

pub clear_shelf-requires-clause-held : goal.clear_shelf-requires-clause-held
clear_shelf-requires-clause-held g c =
    shelf_held c.args.room.now c.open-rows.result.now c.requires.room c.open-rows.ensures.value c.close_rows-result.new.rows c.close_rows-result.ensures.rows

pub returns-clause-room : goal.returns-clause-room
returns-clause-room g c =
    c.clear_shelf.ensures
    ∙ room_after c.args.room.now c.open-rows.result.now c.requires.room c.open-rows.ensures.value c.close_rows-result.new.rows c.close_rows-result.ensures.rows c.pack-pack.ensures.sound
