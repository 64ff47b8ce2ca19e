-- The slots of a result as a pass over a table puts them, and the order in which it is written.
use Rattle.std.specs.Prelude.{◌≤◌, ℕ, ◌+◌, ◌*◌, ◌/◌, ◌%◌, Bool, ◌==◌, List, length, Option, slice_set, if◌then◌else◌}
use Rattle.ob_vault.specs.declared.region.Order.{Order}
use Rattle.ob_vault.specs.declared.region.Order.TheVariants.{Round, Any}
use Rattle.ob_base.specs.declared.access.Access.{Access}
use Rattle.ob_base.specs.Schemas.{Columns, width}
use Rattle.ob_script.specs.Parts.{copy_at}
use Rattle.ob_row.specs.Rows.{Row}
use Rattle.ob_row.specs.Results.{RowTest}
use Rattle.ob_row.specs.Slots.{Slots, is_selected}
use Rattle.ob_row.specs.Spelling.{Begins}
use Rattle.ob_blocks.specs.Blocks.{none_of, scanned}

-- the slots with this one at an index, or as they are
abbrev pub put_if : Bool → ℕ → Option Row → Slots → Slots
put_if b x slot made = if b then slice_set made x slot else made

-- slot i mod k of a result is that of index i, where its row is selected
abbrev pub put_at : ℕ → RowTest → Slots → ℕ → Option Row → Slots
put_at k p made i slot = put_if (is_selected p slot) (i % k) slot made

-- a result of k slots after each slot of a table, in order: a later one goes over an earlier one
abbrev pub put_slots : ℕ → RowTest → Slots → Slots
put_slots k p slots = scanned (put_at k p) 0 (none_of k) slots

-- the block of a result of k slots in which slot i has its place
abbrev pub place_of : ℕ → ℕ → ℕ → ℕ
place_of pack k i = (i % k) / pack

-- that of slot u * pack + j is read and written
abbrev pub put_part : ℕ → ℕ → ℕ → ℕ → ℕ → List Access
put_part g pack k u j = copy_at g g (place_of pack k (u * pack + j))

-- the places of blocks of one slot are written round and round; those of larger ones repeat
abbrev pub order_for : ℕ → Order
order_for pack = if pack == 1 then Round else Any

-- a row whose first bytes spell a slot
pub record SpellsSlot (columns : Columns) (row : List ℕ) : Type 0 where
  pub wide : width columns ≤ length row
  pub slot : Option Row
  pub begins : Begins columns slot row
