-- What an index is in a vault and its store.
use Rattle.std.specs.Prelude.{◌≡◌, ◌≢◌, ◌≤◌, ℕ, Bool, List, [], Option, length}
use Rattle.ob_vault.specs.declared.region.Order.TheVariants.{Round, Any}
use Rattle.ob_vault.specs.State.{World}
use Rattle.ob_vault.specs.Calls.{Seals}
use Rattle.ob_row.specs.Rows.{Row}
use Rattle.ob_flat.specs.declared.flat.Flat.{Flat}
use Rattle.ob_flat.specs.Flats.{IsSized, IsInTurn, Accepts, Represents as HoldsSlots}
use Rattle.ob_path.specs.States.{State, Represents, Stands}
use Rattle.ob_oram.specs.declared.index.Index.{Index}
use Rattle.ob_oram.specs.Keys.{IsIntKey}
use Rattle.ob_row.specs.Keys.{row_key}
use Rattle.ob_base.specs.Indexes.{IsHeight, tree_blocks, rows_open}
use Rattle.ob_oram.specs.Heights.{AreLeaves}

-- the leaf of each key
abbrev pub leaves_of : Index → List ℕ
leaves_of index = index.leaves.items

abbrev pub key_of : Index → Row → ℕ
key_of index row = row_key index.capacity index.key row

-- its tree and its stash are tables of one slot a block
abbrev pub tree_of : Index → Flat
tree_of index = record {
  schema = index.schema;
  capacity = tree_blocks index.height;
  region = index.tree;
}

abbrev pub stash_of : Index → Flat
stash_of index = record {
  schema = index.schema;
  capacity = index.slots;
  region = index.stash;
}

-- its sizes fit each other
pub record IsShaped (index : Index) : Type 0 where
  pub size : IsSized index.schema index.capacity
  pub key : IsIntKey index.schema index.key
  pub height : IsHeight index.capacity index.height
  pub some : 1 ≤ index.slots
  pub few : index.slots ≤ 1024
  pub leaves : AreLeaves index.height index.capacity (leaves_of index)

-- each block of its two regions was written, and the stash is written next from its first one
pub record IsStored (index : Index) (w : World) : Type 0 where
  pub shaped : IsShaped index
  pub tree : IsInTurn Any 1 (tree_of index) 0 w
  pub stash : IsInTurn Round 1 (stash_of index) 0 w
  pub apart : index.tree ≢ index.stash

-- and its buffer has a slot for each row that an access opens
pub record IsIndex (index : Index) (w : World) : Type 0 where
  pub stored : IsStored index w
  pub buffer : length index.buffer.items ≡ rows_open index.height index.slots

-- or none, once an access of it has stopped
pub record IsEnded (index : Index) : Type 0 where
  pub none : index.buffer.items ≡ []

-- an index as it lies in the store
pub record LiesAs (index : Index) (s : State Row) (w : World) : Type 0 where
  pub tree : HoldsSlots 1 (tree_of index) s.tree w
  pub stash : HoldsSlots 1 (stash_of index) s.stash w
  pub leaves : s.leaves ≡ leaves_of index

-- its keys are distinct and in range, and each row lies on the path of its leaf or in the stash
pub record IsStoredAs (index : Index) (s : State Row) (w : World) : Type 0 where
  pub lies : LiesAs index s w
  pub stands : Stands (key_of index) index.height s

-- it stands for a map from keys to rows
pub record IsMap (index : Index) (m : ℕ → Option Row) (w : World) : Type 0 where
  pub state : State Row
  pub lies : LiesAs index state w
  pub represents : Represents (key_of index) index.height state m

-- where all was sealed and good, it is, if blocks of a row or a dummy are good for both regions
pub record SealsIndex (index : Index) (old new : World) : Type 0 where
  pub seals : (good : ℕ → List ℕ → Bool) → Accepts good 1 index.schema index.tree
      → Accepts good 1 index.schema index.stash → Seals good old new
