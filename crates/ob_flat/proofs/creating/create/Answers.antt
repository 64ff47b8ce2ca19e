use Rattle.std.proofs.Common.{◌≡◌, ◌∙◌, refl, sym, length}
use Rattle.ob_base.specs.Schemas.{width}
use Rattle.ob_flat.specs.Creates.{table_of}
use Rattle.ob_flat.proofs.Rooms.{shelf_wide, shelf_held, room_after, same_rows, block_count, block_fits, block_some, shelf_free, clear_spelt}
use Rattle.ob_flat.proofs.Tables.{fits_sized, flat_is}
use Rattle.ob_flat.proofs.creating.create.Goals as goal

pub open-rows-requires-clause-free : goal.open-rows-requires-clause-free
open-rows-requires-clause-free g c = shelf_free (width c.args.schema.now) c.args.room.now c.requires.room c.pack-pack.ensures.value

pub open-rows-requires-clause-shelf : goal.open-rows-requires-clause-shelf
open-rows-requires-clause-shelf g c = c.requires.room.shelf

pub create_blocks-result-requires : goal.create_blocks-result-requires
create_blocks-result-requires g c =
    let s = c.args.room.now in
    let count = block_count s c.pack-pack.ensures.value c.open-rows.ensures.value in
    let some = block_some s c.pack-pack.ensures.sound c.pack-pack.ensures.value c.open-rows.ensures.value in
    record {
      starts = simp (sym count) at c.requires.starts;
      size = fits_sized (length c.open-rows.result.now) c.args.schema.now c.args.capacity some.0 c.requires.size;
      pack = some;
      fit = block_fits (width c.args.schema.now) s c.requires.room c.pack-pack.ensures.sound c.pack-pack.ensures.value c.open-rows.ensures.value;
      dummies = clear_spelt c.args.schema.now c.pack-pack.result s.width c.requires.room.wide c.open-rows.ensures.value;
    }

pub clear_shelf-requires-clause-wide : goal.clear_shelf-requires-clause-wide
clear_shelf-requires-clause-wide g c =
    shelf_wide (width c.args.schema.now) c.pack-pack.result c.args.room.now _ c.open-rows.result.now c.requires.room c.pack-pack.ensures.sound c.pack-pack.ensures.value c.open-rows.ensures.value (same_rows c.open-rows.result.now)

pub clear_shelf-requires-clause-held : goal.clear_shelf-requires-clause-held
clear_shelf-requires-clause-held g c =
    shelf_held (width c.args.schema.now) c.args.room.now c.open-rows.result.now c.requires.room c.pack-pack.ensures.value c.open-rows.ensures.value (same_rows c.open-rows.result.now)

pub returns-in-Ok-clause-room : goal.returns-in-Ok-clause-room
returns-in-Ok-clause-room g c =
    c.clear_shelf.ensures
    ∙ room_after (width c.args.schema.now) c.pack-pack.result c.args.room.now _ c.open-rows.result.now c.requires.room c.pack-pack.ensures.sound c.pack-pack.ensures.value c.open-rows.ensures.value (same_rows c.open-rows.result.now)

pub returns-in-Ok-clause-creates : goal.returns-in-Ok-clause-creates
returns-in-Ok-clause-creates g c =
    let count = block_count c.args.room.now c.pack-pack.ensures.value c.open-rows.ensures.value in
    let flat = table_of c.args.schema.now c.args.capacity c.args.vault.now.next in
    let creates = rw count at c.in-Ok.ensures.creates in
    let value : table_of c.copied.result c.args.capacity c.in-Ok.region ≡ flat = flat_is c.copied.ensures refl creates.number in
    rw value (record {
      ran = record { ok = creates.ran.ok; err = tt };
      never = tt;
      memory = record { did = λ is. absurd (cc is) };
      makes = record { value = refl; lives = creates.lives; flat = creates.table; gone = tt; seals = creates.seals };
      told = creates.told;
    })

pub returns-in-Err-clause-room : goal.returns-in-Err-clause-room
returns-in-Err-clause-room g c =
    c.clear_shelf.ensures
    ∙ room_after (width c.args.schema.now) c.pack-pack.result c.args.room.now _ c.open-rows.result.now c.requires.room c.pack-pack.ensures.sound c.pack-pack.ensures.value c.open-rows.ensures.value (same_rows c.open-rows.result.now)

pub returns-in-Err-clause-creates : goal.returns-in-Err-clause-creates
returns-in-Err-clause-creates g c =
    let creates = rw (block_count c.args.room.now c.pack-pack.ensures.value c.open-rows.ensures.value) at c.in-Err.ensures.creates in
    record {
      ran = record { ok = tt; err = creates.ran.err };
      never = creates.never;
      memory = record { did = λ is. creates.memory.did (cc is) };
      makes = record { value = tt; lives = tt; flat = tt; gone = creates.gone; seals = creates.seals };
      told = tt;
    }
