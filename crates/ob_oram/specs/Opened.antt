-- A path and the stash of an index that lie open in an access.
use Rattle.std.specs.Prelude.{◌≡◌, ◌<◌, ◌+◌, ℕ, None, length, slice_index_or}
use Rattle.ob_vault.specs.State.{World}
use Rattle.ob_vault.specs.Words.{IsHonest}
use Rattle.ob_row.specs.Rows.{Row}
use Rattle.ob_row.specs.Slots.{Slots}
use Rattle.ob_script.specs.Parts.{path_place}
use Rattle.ob_path.specs.Paths.{path_slot}
use Rattle.ob_tree.specs.Slotwise.{open_slots}
use Rattle.ob_path.specs.States.{State}
use Rattle.ob_oram.specs.declared.index.Index.{Index}
use Rattle.ob_base.specs.Indexes.{path_blocks, rows_open}
use Rattle.ob_oram.specs.Indexes.{IsStoredAs, LiesAs}
use Rattle.ob_oram.specs.Opens.{keyed_slot, last_slot}
use Rattle.ob_oram.specs.Walking.{OpensFirst}
use Rattle.ob_oram.specs.Halves.{leaf_blocks, stash_blocks}

-- they are those of a path and of the stash in a state, without the rows that have no key of the index
pub record OpensSlots (index : Index) (leaf : ℕ) (slots : Slots) (s : State Row) : Type 0 where
  pub path : (c : ℕ) → c < path_blocks index.height
      → slice_index_or slots (path_slot index.height c) None
      ≡ keyed_slot index (slice_index_or s.tree (path_place index.height leaf c) None)
  pub stash : (i : ℕ) → i < index.slots
      → slice_index_or slots (path_blocks index.height + i) None
      ≡ keyed_slot index (slice_index_or s.stash i None)

-- the blocks of the stash were read and opened, and then those of a path
pub record OpensBlocks (index : Index) (leaf : ℕ) (slots : Slots) (old new : World) : Type 0 where
  pub mid : World
  pub stash : OpensFirst index (stash_blocks index) slots index.slots old mid
  pub path : OpensFirst index (leaf_blocks index leaf) slots (path_blocks index.height) mid new

-- a path and the stash lie open: what their blocks gave, as they lay in the store where that told no lie
pub record OpensIndex (index : Index) (leaf : ℕ) (slots : Slots) (old new : World) : Type 0 where
  pub spare : slice_index_or slots (last_slot index) None ≡ None
  pub count : length slots ≡ rows_open index.height index.slots
  -- over any store
  pub blocks : OpensBlocks index leaf slots old new
  pub lying : IsHonest old new → (s : State Row) → LiesAs index s old
      → OpensSlots index leaf slots s
  pub told : IsHonest old new → (s : State Row) → IsStoredAs index s old
      → slots ≡ open_slots index.height leaf s
