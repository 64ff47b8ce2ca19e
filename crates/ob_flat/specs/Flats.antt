-- What a table is in a vault and its store: a region of sealed blocks of `pack` slots.
use Rattle.std.specs.Prelude.{◌≡◌, ◌<◌, ◌≤◌, ◌*◌, ℕ, Bool, IsTrue, List, length}
use Rattle.std.specs.List.{All}
use Rattle.ob_base.specs.Numbers.{blocks_for}
use Rattle.ob_base.specs.Schemas.{Columns, width}
use Rattle.ob_vault.specs.declared.region.Region.{Region}
use Rattle.ob_vault.specs.declared.region.Order.{Order}
use Rattle.ob_vault.specs.State.{World}
use Rattle.ob_vault.specs.Tied.{IsOwn, Lives, Written, OnTurn, Holds}
use Rattle.ob_blocks.specs.Blocks.{up_to, block_at}
use Rattle.ob_flat.specs.declared.flat.Flat.{Flat}
use Rattle.ob_row.specs.Slots.{Slots}
use Rattle.ob_flat.specs.Slots.{FitsSlot, block_bytes}

-- a schema and a capacity within their limits
pub record IsSized (columns : Columns) (capacity : ℕ) : Type 0 where
  pub some : 1 ≤ length columns
  pub few : length columns ≤ 32
  pub wide : width columns ≤ 1024
  pub least : 1 ≤ capacity
  pub most : capacity ≤ 16777216

-- so many slots of a schema, `pack` in each block, fit a region
pub record FitsRegion (pack : ℕ) (columns : Columns) (slots : ℕ) : Type 0 where
  pub some : 1 ≤ length columns
  pub few : length columns ≤ 32
  pub wide : width columns ≤ 1024
  pub least : 1 ≤ slots
  pub blocks : blocks_for pack slots ≤ 134217728

-- the region of a table of this schema and capacity that is written in this order
abbrev pub table_region : Order → ℕ → Columns → ℕ → Region
table_region order pack columns capacity = record { blocks = blocks_for pack capacity; width = pack * width columns; order = order }

-- it is live, and where it is written round and round, its first place is the next
pub record IsAtFirst (pack : ℕ) (flat : Flat) (w : World) : Type 0 where
  pub order : Order
  pub lives : Lives flat.region (table_region order pack flat.schema flat.capacity) w
  pub turn : OnTurn flat.region (table_region order pack flat.schema flat.capacity) 0 w

-- and this run made it: it may be written
pub record IsMade (pack : ℕ) (flat : Flat) (w : World) : Type 0 where
  pub own : IsOwn flat.region w
  pub order : Order
  pub lives : Lives flat.region (table_region order pack flat.schema flat.capacity) w
  pub turn : OnTurn flat.region (table_region order pack flat.schema flat.capacity) 0 w

-- whichever run made it, each of its places was written
pub record IsFlat (pack : ℕ) (flat : Flat) (w : World) : Type 0 where
  pub made : IsAtFirst pack flat w
  pub written : (p : ℕ) → p < blocks_for pack flat.capacity → Written flat.region p w

-- it is live in whichever order, and each of its places was written
pub record IsWritten (pack : ℕ) (flat : Flat) (w : World) : Type 0 where
  pub order : Order
  pub lives : Lives flat.region (table_region order pack flat.schema flat.capacity) w
  pub written : (p : ℕ) → p < blocks_for pack flat.capacity → Written flat.region p w

-- and this run made it, and in this order a write to this place is in turn
pub record IsInTurn (order : Order) (pack : ℕ) (flat : Flat) (place : ℕ) (w : World) : Type 0 where
  pub own : IsOwn flat.region w
  pub lives : Lives flat.region (table_region order pack flat.schema flat.capacity) w
  pub turn : OnTurn flat.region (table_region order pack flat.schema flat.capacity) place w
  pub written : (p : ℕ) → p < blocks_for pack flat.capacity → Written flat.region p w

-- the slots, and empty ones up to the end of the last block
abbrev pub whole_blocks : ℕ → ℕ → Slots → Slots
whole_blocks pack capacity slots = up_to (blocks_for pack capacity * pack) slots

-- its blocks are those of the slots; the slots past the capacity are empty
pub record Represents (pack : ℕ) (flat : Flat) (slots : Slots) (w : World) : Type 0 where
  pub size : length slots ≡ flat.capacity
  pub fits : All (FitsSlot flat.schema) slots
  pub holds : (p : ℕ) → p < blocks_for pack flat.capacity
      → Holds flat.region p (block_bytes flat.schema (block_at pack (whole_blocks pack flat.capacity slots) p)) w

-- its blocks are those of these slots, which fill them
pub record HoldsSlots (pack : ℕ) (flat : Flat) (slots : Slots) (w : World) : Type 0 where
  pub size : length slots ≡ blocks_for pack flat.capacity * pack
  pub fits : All (FitsSlot flat.schema) slots
  pub holds : (p : ℕ) → p < blocks_for pack flat.capacity
      → Holds flat.region p (block_bytes flat.schema (block_at pack slots p)) w

-- the block that was written to the place is one of rows or dummies
pub record HoldsBlock (pack : ℕ) (columns : Columns) (q x : ℕ) (w : World) : Type 0 where
  pub slots : Slots
  pub size : length slots ≡ pack
  pub fits : All (FitsSlot columns) slots
  pub holds : Holds q x (block_bytes columns slots) w

-- and so is each of a table's
pub record HoldsRows (pack : ℕ) (flat : Flat) (w : World) : Type 0 where
  pub each : (p : ℕ) → p < blocks_for pack flat.capacity
      → HoldsBlock pack flat.schema flat.region p w

-- blocks of `pack` rows or dummies are good for a region
pub record Accepts (good : ℕ → List ℕ → Bool) (pack : ℕ) (columns : Columns) (region : ℕ) : Type 0 where
  pub accepts : (slots : Slots) → length slots ≡ pack → All (FitsSlot columns) slots
      → IsTrue (good region (block_bytes columns slots))
