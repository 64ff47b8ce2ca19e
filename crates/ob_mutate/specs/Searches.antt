-- What the reading pass of an INSERT looks for.
use Rattle.std.specs.Prelude.{ℕ, ◌+◌, Bool, true, false, ◌&&◌, ◌==◌, nat_lt, [], ◌∷◌, Option, Some, None, is_some, not, if◌then◌else◌}
use Rattle.ob_row.specs.Rows.{Row, agree_at}
use Rattle.ob_base.specs.Schemas.{Columns}
use Rattle.ob_row.specs.Spelling.{FitsColumns}
use Rattle.ob_row.specs.Slots.{Slots}
use Rattle.ob_flat.specs.Slots.{FitsSlot}
use Rattle.ob_mutate.specs.declared.searching.Finds.{Finds}

-- whether two rows have one primary key, which stands at this place
abbrev pub agrees : Option ℕ → Row → Row → Bool
agrees None row other = false
agrees (Some place) row other = agree_at place place row other

-- what has been found after the slot of index i: the first empty slot below the capacity, and whether a row has the key
abbrev pub found : Option ℕ → Row → ℕ → Finds → ℕ → Option Row → Finds
found key row capacity f i None = if nat_lt i capacity && not (is_some f.free) then record f { free = Some i } else f
found key row capacity f i (Some other) = if agrees key row other then record f { duplicate = true } else f

-- the index of the first empty slot, counted from i
abbrev pub free_from : ℕ → Slots → Option ℕ
free_from i [] = None
free_from i (None ∷ slots) = Some i
free_from i (Some row ∷ slots) = free_from (i + 1) slots

-- the slot of this index gets the row
abbrev pub put_at : Option ℕ → Row → ℕ → Option Row → Option Row
put_at None row i slot = slot
put_at (Some target) row i slot = if i == target then Some row else slot

pub put_fits : (columns : Columns) (target : Option ℕ) (row : Row) (i : ℕ) (slot : Option Row) → FitsColumns columns row → FitsSlot columns slot → FitsSlot columns (put_at target row i slot)
put_fits columns None row i slot row_fits fits = fits
put_fits columns (Some target) row i slot row_fits fits = go (i == target)
  where
    go : (b : Bool) → FitsSlot columns (if b then Some row else slot)
    go true = row_fits
    go false = fits
