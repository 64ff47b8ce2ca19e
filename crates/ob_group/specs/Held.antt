-- The bytes of a running group: its key, as a row spells it, and 16 bytes for each total.
use Rattle.std.specs.Prelude.{◌≡◌, ◌≤◌, ◌<◌, ℕ, ◌+◌, ◌^◌, ◌-◌, ℤ, negsuc, List, [], ◌∷◌, ◌++◌, length, Option, Some, None, slice_index_or}
use Rattle.std.specs.Int.{to_be_bytes, cast_unsigned, w128}
use Rattle.ob_base.specs.declared.schema.Kind.{Kind}
use Rattle.ob_base.specs.Schemas.{kind_width}
use Rattle.ob_order.specs.Buckets.{BucketsState, AreBucketed}
use Rattle.ob_row.specs.declared.cell.Cell.{Cell}
use Rattle.ob_row.specs.Spelling.{FitsKind, cell_bytes}
use Rattle.ob_vault.specs.Rows.{row_at}
use Rattle.ob_group.specs.Running.{Sums, AreUpTo}
use Rattle.ob_group.specs.Grouping.{Group}

-- a total as an integer; the least one stands for none
abbrev pub total_int : Option ℤ → ℤ
total_int None = negsuc (2 ^ 127 - 1)
total_int (Some x) = x

-- in two's complement, its highest byte first
abbrev pub total_bytes : Option ℤ → List ℕ
total_bytes total = to_be_bytes w128 (cast_unsigned w128 (total_int total))

abbrev pub totals_bytes : Sums → List ℕ
totals_bytes [] = []
totals_bytes (total ∷ totals) = total_bytes total ++ totals_bytes totals

-- the bytes are these totals, so many, of at most m rows
pub record HoldTotals (m count : ℕ) (totals : Sums) (bytes : List ℕ) : Type 0 where
  pub size : length totals ≡ count
  pub few : AreUpTo m totals
  pub is : bytes ≡ totals_bytes totals

-- the first bytes of a row are this key
pub record HoldsKey (kind : Kind) (key : Cell) (row : List ℕ) : Type 0 where
  pub fits : FitsKind kind key
  pub behind : List ℕ
  pub is : row ≡ cell_bytes kind key ++ behind

-- and those after it these totals
pub record HoldsGroup (kind : Kind) (m count : ℕ) (group : Group) (row : List ℕ) : Type 0 where
  pub key : Cell
  pub same : group.0 ≡ Some key
  pub fits : FitsKind kind key
  pub size : length group.1 ≡ count
  pub few : AreUpTo m group.1
  pub behind : List ℕ
  pub is : row ≡ cell_bytes kind key ++ (totals_bytes group.1 ++ behind)

-- no group
abbrev pub no_group : Group
no_group = (None, [])

-- n groups stand in the first rows, one in each; or they are more than the rows
pub record AreGroups (kind : Kind) (m count n : ℕ) (groups : List Group) (rows : List (List ℕ)) : Type 0 where
  pub all : n ≤ length rows → length groups ≡ n
  pub more : length rows < n → length rows < length groups
  pub each : n ≤ length rows → (i : ℕ) → i < n → HoldsGroup kind m count (slice_index_or groups i no_group) (row_at rows i)

-- a row holds a group of some of a table's rows
pub record IsGroup (kind : Kind) (count : ℕ) (row : List ℕ) : Type 0 where
  pub group : Group
  pub is : HoldsGroup kind 2147483648 count group row

-- the first rows hold n of them
pub record HasGroups (kind : Kind) (count n : ℕ) (rows : List (List ℕ)) : Type 0 where
  pub groups : List Group
  pub are : AreGroups kind 2147483648 count n groups rows

-- and there may be so many rows more
pub record MayGrow (kind : Kind) (count n more : ℕ) (rows : List (List ℕ)) : Type 0 where
  pub groups : List Group
  pub m : ℕ
  pub room : m + more ≤ 2147483648
  pub are : AreGroups kind m count n groups rows

-- n groups are in the buckets of the keys that their rows begin with, unless they are more than the rows
abbrev pub KeepsGroups : Kind → (n : ℕ) → (rows : List (List ℕ)) → BucketsState → Type 0
KeepsGroups kind n rows buckets = n ≤ length rows → AreBucketed 0 (kind_width kind) n rows buckets
