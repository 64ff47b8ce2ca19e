-- A table in place: a list of optional rows, as long as its capacity.
use Rattle.std.specs.Prelude.{ℕ, ◌+◌, Bool, true, false, ◌&&◌, ◌==◌, List, [], ◌∷◌, map, filter_map, replicate, Option, Some, None, slice_get, if◌then◌else◌}
use Rattle.std.specs.Option.{option_and_then}
use Rattle.ob_base.specs.Lists.{places_of}
use Rattle.ob_row.specs.Rows.{Row}

abbrev pub Slots : Type 0
Slots = List (Option Row)

-- the real rows, in order of their slots
abbrev pub rows : Slots → List Row
rows slots = filter_map (λ slot. slot) slots

abbrev pub slot_at : Slots → ℕ → Option Row
slot_at slots i = option_and_then (λ slot. slot) (slice_get slots i)

abbrev pub empty_slots : ℕ → Slots
empty_slots n = replicate n None

-- the row goes to the first empty slot
abbrev pub fill_first : Row → Slots → Slots
fill_first row [] = []
fill_first row (None ∷ slots) = Some row ∷ slots
fill_first row (Some r ∷ slots) = Some r ∷ fill_first row slots

-- whether a slot has a row that passes the test
abbrev pub is_selected : (Row → Bool) → Option Row → Bool
is_selected p None = false
is_selected p (Some row) = p row

-- the slot, emptied where its row passes the test, and where it doesn't
abbrev pub emptied : (Row → Bool) → Option Row → Option Row
emptied p slot = if is_selected p slot then None else slot

abbrev pub kept : (Row → Bool) → Option Row → Option Row
kept p slot = if is_selected p slot then slot else None

-- the places of the selected rows, ascending
abbrev pub selected : (Row → Bool) → Slots → List ℕ
selected p slots = places_of (is_selected p) slots

-- the slots of the selected rows, in order
abbrev pub small_slots : (Row → Bool) → Slots → Slots
small_slots p slots = map (slot_at slots) (selected p slots)

-- each number is one more than the one before it
abbrev pub is_consecutive : List ℕ → Bool
is_consecutive [] = true
is_consecutive (i ∷ []) = true
is_consecutive (i ∷ j ∷ is) = (j == i + 1) && is_consecutive (j ∷ is)
