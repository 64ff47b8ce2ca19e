use Rattle.std.proofs.Common.{◌∙◌}
use Rattle.ob_reopen.proofs.RoomLemmas.{one, fits, shelf_wide, shelf_held, room_after}
use Rattle.ob_reopen.proofs.reading.read_closing.Goals as goal

pub open_rows-result-requires : goal.open_rows-result-requires
open_rows-result-requires g c = record {
  marked = c.requires.marked;
  follows = c.requires.follows;
  fit = fits c.args.room.now c.open-rows.result.now c.requires.room c.open-rows.ensures.value;
  one = one c.args.room.now c.open-rows.result.now c.requires.room c.open-rows.ensures.value;
}

pub clear_shelf-requires-clause-wide : goal.clear_shelf-requires-clause-wide
clear_shelf-requires-clause-wide g c =
    shelf_wide c.args.room.now c.open-rows.result.now c.requires.room c.open-rows.ensures.value c.open_rows-result.new.rows c.open_rows-result.ensures.rows

pub clear_shelf-requires-clause-held : goal.clear_shelf-requires-clause-held
clear_shelf-requires-clause-held g c =
    shelf_held c.args.room.now c.open-rows.result.now c.requires.room c.open-rows.ensures.value c.open_rows-result.new.rows c.open_rows-result.ensures.rows

pub returns-clause-room : goal.returns-clause-room
returns-clause-room g c =
    c.clear_shelf.ensures
    ∙ room_after c.args.room.now c.open-rows.result.now c.requires.room c.open-rows.ensures.value c.open_rows-result.new.rows c.open_rows-result.ensures.rows c.pack.ensures.sound
