use Rattle.std.proofs.Common.{◌∙◌, arith}
use Rattle.ob_base.specs.Schemas.{width}
use Rattle.ob_blocks.proofs.Rooms.{open_held}
use Rattle.ob_flat.proofs.Rooms.{opened_wide, opened_closed, same_rows}
use Rattle.ob_oram.proofs.Made.{one_row, row_fits, row_spells}
use Rattle.ob_oram.proofs.creating.create.Goals as goal

pub open-rows-requires-clause-free : goal.open-rows-requires-clause-free
open-rows-requires-clause-free g c = omega (arith, c.requires.room.enough, c.requires.room.free)

pub open-rows-requires-clause-shelf : goal.open-rows-requires-clause-shelf
open-rows-requires-clause-shelf g c = c.requires.room.shelf

pub create_index-result-requires-clause-one : goal.create_index-result-requires-clause-one
create_index-result-requires-clause-one g c = one_row c.args.room.now.width c.open-rows.ensures.value

pub create_index-result-requires-clause-fit : goal.create_index-result-requires-clause-fit
create_index-result-requires-clause-fit g c = row_fits c.args.room.now.width c.open-rows.ensures.value (width c.args.schema.now) c.requires.room.wide

pub create_index-result-requires-clause-dummies : goal.create_index-result-requires-clause-dummies
create_index-result-requires-clause-dummies g c = row_spells c.args.room.now.width c.open-rows.ensures.value c.args.schema.now c.requires.room.wide

pub clear_shelf-requires-clause-wide : goal.clear_shelf-requires-clause-wide
clear_shelf-requires-clause-wide g c =
    let s = c.args.room.now in
    opened_wide (width c.args.schema.now) 1 s _ c.open-rows.result.now c.requires.room (omega (arith, c.requires.room.enough)) c.open-rows.ensures.value (same_rows c.open-rows.result.now)

pub clear_shelf-requires-clause-held : goal.clear_shelf-requires-clause-held
clear_shelf-requires-clause-held g c =
    let s = c.args.room.now in
    open_held (width c.args.schema.now) 1 s c.open-rows.result.now c.requires.room (omega (arith, c.requires.room.enough)) (one_row s.width c.open-rows.ensures.value)

pub returns-clause-room : goal.returns-clause-room
returns-clause-room g c =
    let s = c.args.room.now in
    c.clear_shelf.ensures
    ∙ opened_closed (width c.args.schema.now) 1 s _ c.open-rows.result.now c.requires.room (omega (arith, c.requires.room.enough)) c.open-rows.ensures.value (same_rows c.open-rows.result.now) c.rows.ensures.sound
