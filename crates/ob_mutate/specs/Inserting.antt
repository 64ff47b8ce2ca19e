-- What an INSERT answers, and what it leaves.
use Rattle.std.specs.Prelude.{◌==◌, length, if◌then◌else◌}
use Rattle.ob_base.specs.Schemas.{Columns, key_place}
use Rattle.ob_row.specs.Rows.{Row, has_key}
use Rattle.ob_row.specs.Slots.{Slots, rows, fill_first}
use Rattle.ob_mutate.specs.declared.inserting.Inserted.{Inserted}
use Rattle.ob_mutate.specs.declared.inserting.Inserted.TheVariants.{Done, Duplicate, Full}

-- a row with its primary key comes before a table that is full
abbrev pub insert_answer : Columns → Row → Slots → Inserted
insert_answer columns row slots = if has_key (key_place columns) row (rows slots) then Duplicate else (if length (rows slots) == length slots then Full else Done)

-- the row goes to the first empty slot; a refusal changes nothing
abbrev pub slots_after : Inserted → Row → Slots → Slots
slots_after Done row slots = fill_first row slots
slots_after Duplicate row slots = slots
slots_after Full row slots = slots
