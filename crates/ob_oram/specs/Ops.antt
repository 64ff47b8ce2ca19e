-- What an access asks for, and what it answers.
use Rattle.std.specs.Prelude.{◌≡◌, ◌≢◌, ◌<◌, ◌==◌, ◌&&◌, not, ℕ, ℤ, ⊤, List, ◌∷◌, Some, length, nat_lt, if◌then◌else◌}
use Rattle.std.specs.List.{All, list_any}
use Rattle.ob_base.specs.Schemas.{Columns}
use Rattle.ob_row.specs.declared.cell.Cell.{Cell}
use Rattle.ob_row.specs.declared.cell.Cell.TheVariants.{Int}
use Rattle.ob_row.specs.Rows.{Row, cell_at, with_cells}
use Rattle.ob_row.specs.Spelling.{FitsColumns, FitsKind, kind_at}
use Rattle.ob_path.specs.Access as Tree
use Rattle.ob_oram.specs.declared.op.Op.{Op}
use Rattle.ob_oram.specs.declared.op.Op.TheVariants.{Get, Insert, Change, Remove}
use Rattle.ob_oram.specs.declared.op.Got.{Got}
use Rattle.ob_oram.specs.declared.op.Got.TheVariants as Gots
use Rattle.ob_row.specs.Keys.{key_number}
use Rattle.ob_path.specs.Rows.{except_firsts}

abbrev pub key_of_op : Op → ℤ
key_of_op (Get key) = key
key_of_op (Insert key cells) = key
key_of_op (Change key sets) = key
key_of_op (Remove key) = key

-- keys of rows, and one that is put in, which is one of n keys, unless it is there
abbrev pub with_new : (n k : ℕ) → List ℕ → List ℕ
with_new n k keys = if not (list_any (λ j. j == k) keys) && nat_lt k n then k ∷ keys else keys

-- the keys of rows after the operation
abbrev pub keys_behind : ℕ → Op → List ℕ → List ℕ
keys_behind n (Get key) keys = keys
keys_behind n (Insert key cells) keys = with_new n (key_number n key) keys
keys_behind n (Change key sets) keys = keys
keys_behind n (Remove key) keys = except_firsts 1 (λ j. j == key_number n key) keys

-- the operation on a map from n keys to rows
abbrev pub op_in : ℕ → Op → Tree.Op Row
op_in n (Get key) = Tree.Get (key_number n key)
op_in n (Insert key cells) = Tree.Insert cells.now
op_in n (Change key sets) = Tree.Change (key_number n key) (with_cells sets.now)
op_in n (Remove key) = Tree.Remove (key_number n key)

-- the answer of a map
abbrev pub got_in : Got → Tree.Got Row
got_in Gots.None = Tree.Absent
got_in (Gots.Row cells) = Tree.Found cells
got_in Gots.Done = Tree.Done
got_in Gots.Duplicate = Tree.Duplicate
got_in Gots.OutOfRange = Tree.OutOfRange

-- a cell of the column at its place, which isn't the key's
pub record FitsSet (columns : Columns) (place : ℕ) (change : ℕ × Cell) : Type 0 where
  pub within : change.0 < length columns
  pub fits : FitsKind (kind_at columns change.0) change.1
  pub off : change.0 ≢ place

-- a row that is put in is one of the table, with the key; a change leaves the key
abbrev pub FitsOp : Columns → ℕ → Op → Type 0
FitsOp columns place (Get key) = ⊤
FitsOp columns place (Insert key cells) = FitsColumns columns cells.now
    × (cell_at cells.now place ≡ Some (Int key))
FitsOp columns place (Change key sets) = All (FitsSet columns place) sets.now
FitsOp columns place (Remove key) = ⊤
