-- The rows of an index that lie open in an access.
use Rattle.std.specs.Prelude.{◌≡◌, ◌<◌, ◌+◌, ℕ, Bool, List, Option, Some, None, filter, length, map, slice_index_or, slice_set, nat_lt, if◌then◌else◌}
use Rattle.std.specs.Option.{option_map}
use Rattle.ob_row.specs.Rows.{Row}
use Rattle.ob_row.specs.Slots.{Slots}
use Rattle.ob_row.specs.Spelling.{Begins}
use Rattle.ob_row.specs.Bags.{Same}
use Rattle.ob_path.specs.Rows.{rows, with_key, first, Single}
use Rattle.ob_path.specs.Access as Tree
use Rattle.ob_oram.specs.declared.held.Held.{Held}
use Rattle.ob_oram.specs.declared.held.Remap.{Remap}
use Rattle.ob_oram.specs.declared.index.Index.{Index}
use Rattle.ob_oram.specs.declared.op.Op.{Op}
use Rattle.ob_oram.specs.declared.op.Got.{Got}
use Rattle.ob_base.specs.Indexes.{path_blocks}
use Rattle.ob_oram.specs.Buffers.{Sees, held_of}
use Rattle.ob_oram.specs.Ops.{op_in, got_in, keys_behind}
use Rattle.ob_oram.specs.Indexes.{leaves_of, key_of}

-- the leaves where one key has another, and the leaf of a row then
abbrev pub leaves_with : Index → Remap → List ℕ
leaves_with index remap = slice_set (leaves_of index) remap.key remap.leaf

abbrev pub leaf_with : Index → Remap → Row → ℕ
leaf_with index remap row = slice_index_or (leaves_with index remap) (key_of index row) 0

-- a slot without a row that has no key of the index
abbrev pub keyed_slot : Index → Option Row → Option Row
keyed_slot index None = None
keyed_slot index (Some row) =
    if nat_lt (key_of index row) index.capacity then Some row else None

-- the bytes spell this slot, and the buffer has its key and its leaf
pub record OpensRow (index : Index) (remap : Remap) (slot : Option Row) (held : Option Held)
    (bytes : List ℕ) : Type 0 where
  pub begins : Begins index.schema slot bytes
  pub held_is : held ≡ option_map (held_of (key_of index) (leaf_with index remap)) slot

-- each row has a key of the index
pub record AreKeyed (index : Index) (slots : Slots) : Type 0 where
  pub within : (j : ℕ) (row : Row) → slice_index_or slots j None ≡ Some row
      → key_of index row < index.capacity

-- the open rows spell these slots, each with a key of the index, and the buffer has the key and
-- the leaf of each
pub record IsOpen (index : Index) (remap : Remap) (slots : Slots)
    (buffer : List (Option Held)) (list : List (List ℕ)) : Type 0 where
  pub sees : Sees index.schema (key_of index) (leaf_with index remap) slots buffer list
  pub keyed : AreKeyed index slots

-- the slots of a buffer are those of a path from the leaf up, those of the stash, and one more
abbrev pub last_slot : Index → ℕ
last_slot index = path_blocks index.height + index.slots

-- the key of an operation in the model
abbrev pub tree_key : Index → Op → ℕ
tree_key index op = Tree.key_of (key_of index) (op_in index.capacity op)

-- the operation was done among the open rows
pub record ServesRows (index : Index) (op : Op) (slots after : Slots) (got : Got) : Type 0 where
  pub bag : Single (key_of index) (rows slots) → Same (rows after)
      (Tree.applied (key_of index) index.capacity (op_in index.capacity op) (rows slots))
  pub answer : Single (key_of index) (rows slots) → got_in got
      ≡ Tree.answer index.capacity (tree_key index op) (op_in index.capacity op)
      (first (with_key (key_of index) (tree_key index op) (rows slots)))
  -- also where two rows have one key, as many keys of each kind stand there
  pub keys : (p : ℕ → Bool) → length (filter (λ row. p (key_of index row)) (rows after))
      ≡ length (filter p (keys_behind index.capacity op (map (key_of index) (rows slots))))
