-- A result of buckets: its sizes, and what is asked of it.
use Rattle.std.specs.Prelude.{◌≡◌, ◌≤◌, ◌<◌, ◌+◌, ◌*◌, ℕ, List, length}
use Rattle.ob_base.specs.declared.access.Access.{Access}
use Rattle.ob_base.specs.Lists.{each}
use Rattle.ob_base.specs.Schemas.{width}
use Rattle.ob_script.specs.Parts.{copy_at, slots_in, bucket_part, hash_slot, hash_block, hash_part}
use Rattle.ob_vault.specs.declared.region.Order.TheVariants.{Any}
use Rattle.ob_vault.specs.Rows.{Wide}
use Rattle.ob_vault.specs.State.{World}
use Rattle.ob_flat.specs.declared.flat.Flat.{Flat}
use Rattle.ob_flat.specs.Flats.{IsSized, FitsRegion, IsInTurn}
use Rattle.ob_flat.specs.Slots.{AreSlots}
use Rattle.ob_flat.specs.Words.{FitBlock, blocks_of}
use Rattle.ob_hash.specs.declared.buckets.Hashed.{Hashed}

-- a table of k buckets, each of so many blocks of `pack` slots
pub record Layout : Type 0 where
  pub pack : ℕ
  pub k : ℕ
  pub depth : ℕ
  pub table : Flat

abbrev pub layout_of : ℕ → Hashed → Layout
layout_of pack hashed = record {
  pack = pack;
  k = hashed.k;
  depth = hashed.depth;
  table = hashed.flat.now;
}

-- what is selected from a table, in this region
abbrev pub layout_at : ℕ → Flat → (k depth region : ℕ) → Layout
layout_at pack flat k depth region = record {
  pack = pack;
  k = k;
  depth = depth;
  table = record {
    schema = flat.schema;
    capacity = (k * depth) * pack;
    region = region;
  };
}

-- the slots of a bucket
abbrev pub bucket_size : Layout → ℕ
bucket_size l = l.depth * l.pack

-- k and the depth are those of a selection from a table
pub record FitsBuckets (k depth : ℕ) (flat : Flat) : Type 0 where
  pub some : 1 ≤ k
  pub most : k ≤ flat.capacity
  pub blocks : 1 ≤ depth
  pub deepest : depth ≤ 8

-- the sizes of a result
pub record IsHashed (l : Layout) : Type 0 where
  pub some : 1 ≤ l.pack
  pub most : l.pack ≤ 16
  pub buckets : 1 ≤ l.k
  pub blocks : 1 ≤ l.depth
  pub deepest : l.depth ≤ 8
  pub capacity : l.table.capacity ≡ (l.k * l.depth) * l.pack
  pub size : FitsRegion l.pack l.table.schema l.table.capacity

-- it is live, each of its places was written, and may be again in any order
abbrev pub IsOpen : Layout → World → Type 0
IsOpen l w = IsInTurn Any l.pack l.table 0 w

-- a table has the result's columns, and another region
pub record IsSource (l : Layout) (flat : Flat) : Type 0 where
  pub schema : l.table.schema ≡ flat.schema
  pub apart : flat.region ≡ l.table.region → ⊥

-- block u of a table of the result's columns was read into these rows
pub record IsBlock (l : Layout) (flat : Flat) (u : ℕ) (rows : List (List ℕ)) : Type 0 where
  pub schema : l.table.schema ≡ flat.schema
  pub size : IsSized flat.schema flat.capacity
  pub within : u < blocks_of l.pack flat
  pub count : length rows ≡ l.pack
  pub wide : Wide (width flat.schema) rows
  pub spells : AreSlots flat.schema rows

-- the rows of a block of the table, and those of a block of the result
pub record AreBuffers (l : Layout) (rows block : List (List ℕ)) : Type 0 where
  pub rows_fit : FitBlock l.table.schema rows
  pub same : length block ≡ length rows
  pub block_fit : FitBlock l.table.schema block

-- block y of a bucket is read and written
abbrev pub block_part : ℕ → ℕ → ℕ → ℕ → List Access
block_part g depth bucket y = copy_at g g (bucket * depth + y)

-- both buckets of slot j after the first ones
abbrev pub slot_part : ℕ → ℕ → ℕ → ℕ → ℕ → List Access
slot_part g k depth first j = hash_slot g k depth (first + j)

-- what is asked of a bucket, of both of a slot, of those of block u's slots below the capacity, of a
-- whole table, and to select from it
abbrev pub bucket_script : Layout → ℕ → List Access
bucket_script l bucket = bucket_part l.table.region l.depth bucket

abbrev pub slot_script : Layout → ℕ → List Access
slot_script l i = hash_slot l.table.region l.k l.depth i

abbrev pub block_script : Layout → Flat → ℕ → List Access
block_script l flat u =
    each (slots_in l.pack flat.capacity u)
    (slot_part l.table.region l.k l.depth (u * l.pack))

abbrev pub table_script : Layout → Flat → List Access
table_script l flat =
    each (blocks_of l.pack flat)
    (hash_block flat.region l.table.region l.pack flat.capacity l.k l.depth)

abbrev pub select_script : Layout → Flat → List Access
select_script l flat =
    hash_part flat.region l.table.region l.pack flat.capacity l.k l.depth
    (l.pack * width l.table.schema)

-- how many accesses the last three are
abbrev pub block_length : Layout → Flat → ℕ → ℕ
block_length l flat u = slots_in l.pack flat.capacity u * (4 * l.depth)

abbrev pub table_length : Layout → Flat → ℕ
table_length l flat = blocks_of l.pack flat + 4 * l.depth * flat.capacity

abbrev pub select_length : Layout → Flat → ℕ
select_length l flat = 1 + (l.k * l.depth + table_length l flat)
