-- The tables of an engine, and the store that it is used with.
use Rattle.std.specs.Prelude.{◌≡◌, ◌⊎◌, ◌≤◌, ◌+◌, ℕ, true, if◌then◌else◌, List, Option, Some, length, slice_get}
use Rattle.ob_base.specs.declared.config.Config.{Config}
use Rattle.ob_base.specs.declared.config.Public.{Public}
use Rattle.ob_base.specs.declared.schema.Shape.TheVariants.{Flat as FlatShape, Indexed}
use Rattle.ob_base.specs.declared.schema.Table.{Table}
use Rattle.ob_base.specs.Indexes.{rows_open}
use Rattle.ob_oram.specs.Indexes.{IsIndex}
use Rattle.ob_oram.specs.declared.index.Index.{Index}
use Rattle.ob_reopen.specs.Limits.{IsHeading}
use Rattle.ob_vault.specs.State.{World}
use Rattle.ob_vault.specs.Tied.{Lives}
use Rattle.ob_vault.specs.declared.region.Region.{Region}
use Rattle.ob_vault.specs.declared.region.Order.TheVariants.{Round}
use Rattle.ob_flat.specs.declared.flat.Flat.{Flat}
use Rattle.ob_mutate.specs.declared.settling.Former.{Former}
use Rattle.ob_mutate.specs.declared.settling.Former.TheVariants.{Discard, Keep}
use Rattle.ob_select.specs.Settings.{IsSettings}
use Rattle.ob_flat.specs.Flats.{IsFlat, table_region}

-- a flat table as the passes see it
abbrev pub flat_of : Table → Flat
flat_of t = record { schema = t.heading.schema; capacity = t.heading.capacity; region = t.region }

-- a region is live, of whatever size
pub record IsLive (q : ℕ) (w : World) : Type 0 where
  pub shape : Region
  pub lives : Lives q shape w

-- the region of a flat table is written, and written round and round
pub record IsWrittenRound (pack : ℕ) (t : Table) (w : World) : Type 0 where
  pub flat : IsFlat pack (flat_of t) w
  pub round : Lives t.region (table_region Round pack t.heading.schema t.heading.capacity) w

-- a table that is within its limits, and whose region is live; of an index that is its tree's
pub record IsTable (pack : ℕ) (t : Table) (w : World) : Type 0 where
  pub heading : IsHeading t.heading
  pub least : 1 ≤ t.region
  pub live : IsLive t.region w
  pub written : t.heading.shape ≡ FlatShape → IsWrittenRound pack t w

-- slots that a stash may have
pub record IsStash (slots : ℕ) : Type 0 where
  pub some : 1 ≤ slots
  pub few : slots ≤ 1024

-- settings that an engine may be started with: tables that are saved are kept
abbrev pub IsConfig : Config → Type 0
IsConfig config =
    IsSettings config.buffer config.depth config.pack config.planner config.pad × IsStash config.stash
    × (config.save ≡ true → config.keep ≡ true)

-- the region in which a table lay before it was changed stays in the store where tables are saved
abbrev pub former_of : Public → Former
former_of p = if p.save then Keep else Discard

-- one of the tables lies in this region
pub record IsTableRegion (tables : List Table) (q : ℕ) : Type 0 where
  pub place : ℕ
  pub table : Table
  pub get : slice_get tables place ≡ Some table
  pub region : table.region ≡ q

-- a region of a closing or of a stash is live, and none of the tables lies there
pub record IsBeside (tables : List Table) (q : ℕ) (w : World) : Type 0 where
  pub shape : Region
  pub lives : Lives q shape w
  pub off : IsTableRegion tables q → ⊥

-- an index of the list has its tree in this region
pub record IsTreeOf (indexes : List Index) (q : ℕ) : Type 0 where
  pub place : ℕ
  pub index : Index
  pub get : slice_get indexes place ≡ Some index
  pub tree : index.tree ≡ q

-- or its stash
pub record IsStashOf (indexes : List Index) (q : ℕ) : Type 0 where
  pub place : ℕ
  pub index : Index
  pub get : slice_get indexes place ≡ Some index
  pub stash : index.stash ≡ q

-- the regions that are none of a table: the closing's, if there is one, and those of stashes
unfoldable pub others_of : Option ℕ → List Index → ℕ → Type 0
others_of closing indexes q = (closing ≡ Some q) ⊎ IsStashOf indexes q

-- an index is that of a table: it has its columns and as many keys, its tree lies in the table's region, and its stash in
-- the next one
pub record IsIndexOfTable (t : Table) (index : Index) : Type 0 where
  pub indexed : t.heading.shape ≡ Indexed
  pub schema : index.schema ≡ t.heading.schema
  pub capacity : index.capacity ≡ t.heading.capacity
  pub tree : index.tree ≡ t.region
  pub stash : index.stash ≡ t.region + 1

-- it is that of one of the tables, and stands; its stash lies in a region that is none's
pub record IsIndexIn (tables : List Table) (other : ℕ → Type 0) (index : Index) (w : World) : Type 0 where
  pub place : ℕ
  pub table : Table
  pub get : slice_get tables place ≡ Some table
  pub of : IsIndexOfTable table index
  pub beside : other index.stash
  pub stands : IsIndex index w

-- an index of the session's settings: its stash has so many slots, and an access has no more rows open than may be
pub record FitsSettings (p : Public) (index : Index) : Type 0 where
  pub slots : index.slots ≡ p.stash
  pub rows : rows_open index.height index.slots ≤ p.buffer

-- the tables, 64 at most, each with a name and a region of its own, and beside them these other regions are all that
-- lives in the vault; each index is that of a table, and each table that is one has one
pub record AreTables (tables : List Table) (other : ℕ → Type 0) (indexes : List Index) (pack : ℕ) (w : World) : Type 0 where
  pub each : (i : ℕ) (t : Table) → slice_get tables i ≡ Some t → IsTable pack t w
  pub few : length tables ≤ 64
  pub apart : (i j : ℕ) (t u : Table) → slice_get tables i ≡ Some t
      → slice_get tables j ≡ Some u → t.region ≡ u.region → i ≡ j
  pub names : (i j : ℕ) (t u : Table) → slice_get tables i ≡ Some t
      → slice_get tables j ≡ Some u → t.heading.name ≡ u.heading.name → i ≡ j
  pub beside : (q : ℕ) → other q → IsBeside tables q w
  pub only : (q : ℕ) (shape : Region) → w.vault.revs.live q ≡ Some shape
      → IsTableRegion tables q ⊎ other q
  pub stand : (k : ℕ) (x : Index) → slice_get indexes k ≡ Some x → IsIndexIn tables other x w
  pub has : (i : ℕ) (t : Table) → slice_get tables i ≡ Some t → t.heading.shape ≡ Indexed → IsTreeOf indexes t.region
  pub one : (k l : ℕ) (x y : Index) → slice_get indexes k ≡ Some x
      → slice_get indexes l ≡ Some y → x.tree ≡ y.tree → k ≡ l

-- a table of this name stands at this place
pub record IsAt (name : List ℕ) (i : ℕ) (t : Table) (tables : List Table) : Type 0 where
  pub get : slice_get tables i ≡ Some t
  pub named : t.heading.name ≡ name

-- the place of a table by its name, and the table as the passes see it
pub record IsFound (name : List ℕ) (i : ℕ) (flat : Flat) (tables : List Table) : Type 0 where
  pub table : Table
  pub here : IsAt name i table tables
  pub is : flat ≡ flat_of table

-- the same of a flat table
pub record IsFlatAt (name : List ℕ) (i : ℕ) (flat : Flat) (tables : List Table) : Type 0 where
  pub table : Table
  pub here : IsAt name i table tables
  pub shape : table.heading.shape ≡ FlatShape
  pub is : flat ≡ flat_of table

-- the places of a table by its name and of its index
pub record IsIndexAt (name : List ℕ) (place k : ℕ) (tables : List Table) (indexes : List Index) : Type 0 where
  pub table : Table
  pub index : Index
  pub here : IsAt name place table tables
  pub get : slice_get indexes k ≡ Some index
  pub of : IsIndexOfTable table index
