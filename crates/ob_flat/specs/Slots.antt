-- The bytes of the slots of a table.
use Rattle.std.specs.Prelude.{◌≡◌, ◌<◌, ℕ, List, length, map, Option, None, IfSome, slice_index_or}
use Rattle.std.specs.List.{concat}
use Rattle.ob_base.specs.Schemas.{Columns}
use Rattle.ob_vault.specs.Rows.{row_at}
use Rattle.ob_row.specs.Rows.{Row}
use Rattle.ob_row.specs.Slots.{Slots}
use Rattle.ob_row.specs.Spelling.{FitsColumns, Begins, slot_bytes}

-- a slot's row has a cell for each column, of its kind
abbrev pub FitsSlot : Columns → Option Row → Type 0
FitsSlot columns slot = IfSome slot (FitsColumns columns)

-- the bytes of the slots of a block, in order
abbrev pub block_bytes : Columns → Slots → List ℕ
block_bytes columns slots = concat (map (slot_bytes columns) slots)

-- the rows of a block spell these slots
pub record Spelt (columns : Columns) (slots : Slots) (rows : List (List ℕ)) : Type 0 where
  pub count : length slots ≡ length rows
  pub each : (j : ℕ) → j < length rows
      → Begins columns (slice_index_or slots j None) (row_at rows j)

-- each spells a slot
pub record AreSlots (columns : Columns) (rows : List (List ℕ)) : Type 0 where
  pub slots : Slots
  pub spelt : Spelt columns slots rows
