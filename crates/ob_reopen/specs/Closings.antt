-- A closing in a store, and what rests there between runs.
use Rattle.std.specs.Prelude.{◌≡◌, ◌<◌, ◌+◌, ◌*◌, ℕ, false, List, [], ◌++◌, flat_map, Option, Some, length, slice_index_or}
use Rattle.ob_base.specs.Accesses.{make_at, read_at, write_at}
use Rattle.ob_base.specs.declared.access.Access.{Access}
use Rattle.ob_reopen.specs.declared.mark.Mark.{Mark}
use Rattle.ob_reopen.specs.declared.mark.Mark.TheVariants.{Closed, Saved}
use Rattle.ob_base.specs.Lists.{each}
use Rattle.ob_base.specs.Schemas.{width}
use Rattle.ob_seal.specs.KeySet.{KeySet}
use Rattle.ob_seal.specs.Sealed.{sealed}
use Rattle.ob_store.specs.State.{KeptRegion}
use Rattle.ob_vault.specs.declared.region.Region.{Region}
use Rattle.ob_vault.specs.declared.region.Order.TheVariants.{Round}
use Rattle.ob_vault.specs.Resuming.{open_at}
use Rattle.ob_vault.specs.Tied.{at_of}
use Rattle.ob_reopen.specs.declared.closing.Closing.{Closing}
use Rattle.ob_reopen.specs.declared.listed.Listed.{Listed}
use Rattle.ob_reopen.specs.Limits.{IsCatalogue, blocks_of}
use Rattle.ob_reopen.specs.Spelling.{catalogue_rows}

-- the mark that names it
abbrev pub mark_of : Closing → Mark
mark_of c = Closed c.region c.blocks c.number c.pack

-- and one of a run that saves its tables, which has this salt, with its check value
abbrev pub saved_mark : Closing → (salt check : List ℕ) → Mark
saved_mark c salt check = Saved c.region c.blocks c.number c.pack salt check

-- a region of so many rows of a closing, its own, and that of a table
abbrev pub region_of : (blocks : ℕ) → Region
region_of blocks = record { blocks = blocks; width = 1024; order = Round }

abbrev pub closing_region : Closing → Region
closing_region c = region_of c.blocks

abbrev pub listed_region : (pack : ℕ) → Listed → Region
listed_region pack t = record {
  blocks = blocks_of pack t;
  width = pack * width t.table.heading.schema;
  order = Round;
}

-- the row at a place of the closing in this region
abbrev pub row_of : (region : ℕ) → List Listed → ℕ → List ℕ
row_of region listed p = slice_index_or (catalogue_rows region listed) p []

-- what is asked to read it, to write it, and to open the tables
abbrev pub read_script : Closing → List Access
read_script c = open_at c.region c.blocks 1024 ++ each c.blocks (read_at c.region)

abbrev pub write_script : Closing → List Access
write_script c = make_at c.region c.blocks 1024 ++ each c.blocks (write_at c.region)

abbrev pub open_table : (pack : ℕ) → Listed → List Access
open_table pack t = open_at t.table.region (blocks_of pack t) (pack * width t.table.heading.schema)

abbrev pub open_script : (pack : ℕ) → List Listed → List Access
open_script pack listed = flat_map (open_table pack) listed

-- the closing's region is kept, and each of its blocks is that of one of these rows, sealed for its place under its
-- number
pub record KeepsRows (keys : KeySet) (closing : Closing) (rows : List (List ℕ))
    (kept : ℕ → Option KeptRegion) : Type 0 where
  pub region : KeptRegion
  pub is : kept closing.region ≡ Some region
  pub blocks : region.shape.blocks ≡ closing.blocks
  pub len : region.shape.len ≡ 1056
  pub whole : region.given_up ≡ false
  pub count : length rows ≡ closing.blocks
  pub sizes : (p : ℕ) → p < closing.blocks → length (slice_index_or rows p []) ≡ 1024
  pub holds : (p : ℕ) → p < closing.blocks → region.last p
      ≡ Some (sealed keys (at_of closing.region p (closing.number + p)) (slice_index_or rows p []))

-- the rows are those of a catalogue of these tables
pub record IsClosing (keys : KeySet) (closing : Closing) (listed : List Listed)
    (kept : ℕ → Option KeptRegion) : Type 0 where
  pub catalogue : IsCatalogue closing listed
  pub rows : KeepsRows keys closing (catalogue_rows closing.region listed) kept
