-- A row that waits for an empty slot.
use Rattle.std.specs.Prelude.{Bool, ◌&&◌, [], ◌∷◌, Option, is_some, is_none, if◌then◌else◌}
use Rattle.ob_row.specs.Rows.{Row}
use Rattle.ob_row.specs.Slots.{Slots}

-- a slot that is shown to it
abbrev pub slot_after : Bool → Option Row → Option Row → Option Row
slot_after waits own slot = if waits && is_none slot then own else slot

-- whether it waits still once it was shown these slots, and what they are then
abbrev pub waits_after : Bool → Slots → Bool
waits_after waits [] = waits
waits_after waits (slot ∷ slots) = waits_after (waits && is_some slot) slots

abbrev pub filled_with : Bool → Option Row → Slots → Slots
filled_with waits own [] = []
filled_with waits own (slot ∷ slots) = slot_after waits own slot ∷ filled_with (waits && is_some slot) own slots
