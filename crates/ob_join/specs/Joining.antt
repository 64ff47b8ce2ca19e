-- The slots that a join makes of those of its right table.
use Rattle.std.specs.Prelude.{◌≡◌, ◌<◌, ◌++◌, ◌*◌, ℕ, Bool, nat_lt, List, Option, Some, None, length, find, take, drop, slice_index_or, if◌then◌else◌}
use Rattle.ob_base.specs.Schemas.{Columns, kind_width, width}
use Rattle.ob_order.specs.Orders.{Lists}
use Rattle.ob_row.specs.declared.cell.Cell.{Cell}
use Rattle.ob_row.specs.Rows.{Row, cell_at, options_eq}
use Rattle.ob_row.specs.Slots.{Slots, rows}
use Rattle.ob_row.specs.Spelling.{kind_at}
use Rattle.ob_base.specs.Lists.{each}
use Rattle.ob_row.specs.Results.{joined_slot, joined_chunk, chunk}
use Rattle.ob_blocks.specs.Blocks.{map_at}
use Rattle.ob_flat.specs.Slots.{Spelt}
use Rattle.ob_flat.specs.Flats.{whole_blocks}
use Rattle.ob_join.specs.declared.sides.Sides.{Sides}

-- the right slot of index x, joined with the first left row that agrees with it; those after the
-- capacity are empty
abbrev pub joined_below : (i j : ℕ) → List Row → ℕ → ℕ → Option Row → Option Row
joined_below i j left capacity x slot =
    if nat_lt x capacity then joined_slot i j left slot else None

-- the places of these rows, dummies left out, are listed in order of the cells of a column
abbrev pub ListsBy : Columns → (column : ℕ) → (kept : List (List ℕ)) → (places : List ℕ) → Type 0
ListsBy columns column kept places =
    Lists (width (take column columns)) (kind_width (kind_at columns column)) kept places

-- slot i has the first row that passes the test
pub record IsPartner (p : Row → Bool) (slots : Slots) (i : ℕ) : Type 0 where
  pub row : Row
  pub is : slice_index_or slots i None ≡ Some row
  pub found : find p (rows slots) ≡ Some row

-- a row agrees with a cell at this column
abbrev pub agrees : ℕ → Cell → Row → Bool
agrees column cell row = options_eq (cell_at row column) (Some cell)

-- of the slots that these rows spell, slot i has the first row that passes the test, or none has
abbrev pub FindsAt : (Row → Bool) → Columns → List (List ℕ) → ℕ → Type 0
FindsAt p columns kept i = (slots : Slots) → Spelt columns slots kept → IsPartner p slots i

abbrev pub FindsNone : (Row → Bool) → Columns → List (List ℕ) → Type 0
FindsNone p columns kept = (slots : Slots) → Spelt columns slots kept → find p (rows slots) ≡ None

-- the columns are some of the tables'
pub record HasColumns (sides : Sides) : Type 0 where
  pub lcol : sides.lcol < length sides.left.now.schema
  pub rcol : sides.rcol < length sides.right.now.schema

-- the columns of both tables
abbrev pub columns_of : Sides → Columns
columns_of sides = sides.left.now.schema ++ sides.right.now.schema

-- what a right slot becomes, which may lie inside the table, and a block whose first slot has this
-- index
abbrev pub slot_of : Sides → Slots → Bool → Option Row → Option Row
slot_of sides left inside slot =
    if inside then joined_slot sides.lcol sides.rcol (rows left) slot else None

abbrev pub block_of : Sides → Slots → ℕ → Slots → Slots
block_of sides left first block =
    map_at (joined_below sides.lcol sides.rcol (rows left) sides.right.now.capacity) first block

-- the slots of n blocks of a table, from block `first` on
abbrev pub blocks_from : (pack capacity first n : ℕ) → Slots → Slots
blocks_from pack capacity first n slots =
    take (n * pack) (drop (first * pack) (whole_blocks pack capacity slots))

-- the joined slots of so many chunks of s left slots, n of them for each chunk
abbrev pub joined_in : (i j s chunks n : ℕ) → (left right : Slots) → Slots
joined_in i j s chunks n left right = each chunks (λ q. joined_chunk i j n (chunk s q left) right)
