-- An index as it lies, and the map that it stands for.
use Rattle.std.specs.Prelude.{◌≡◌, ◌<◌, ◌≤◌, ℕ, ◌+◌, ◌-◌, ◌*◌, ◌/◌, ◌^◌, true, List, ◌++◌, length, take, drop, Option, Some, None, slice_index_or}
use Rattle.ob_path.specs.Paths.{is_on_path}
use Rattle.ob_path.specs.Rows.{rows, with_key, list_of, first, Single}
use Rattle.std.specs.List.{All}

pub record State (R : Type 0) : Type 0 where
  pub tree : List (Option R)
  pub stash : List (Option R)
  pub leaves : List ℕ

-- block z of bucket b is place 4 * b + z
abbrev pub bucket : {R : Type 0} → List (Option R) → ℕ → List (Option R)
bucket tree b = take 4 (drop (4 * b) tree)

abbrev pub with_bucket : {R : Type 0} → List (Option R) → ℕ → List (Option R) → List (Option R)
with_bucket tree b slots = take (4 * b) tree ++ slots ++ drop (4 * b + 4) tree

abbrev pub leaf_of : {R : Type 0} → State R → ℕ → ℕ
leaf_of s k = slice_index_or s.leaves k 0

-- all rows of an index
abbrev pub held : {R : Type 0} → State R → List R
held s = rows s.tree ++ rows s.stash

-- an index of height h that has for each key the map's row and no other; each row of the tree lies on the path of its leaf
pub record Represents {R : Type 0} (key : R → ℕ) (h : ℕ) (s : State R) (m : ℕ → Option R) : Type 0 where
  pub size : length s.tree ≡ 4 * (2 ^ (h + 1) - 1)
  pub leaves : (k : ℕ) → k < length s.leaves → leaf_of s k < 2 ^ h
  pub range : (k : ℕ) → length s.leaves ≤ k → m k ≡ None
  pub rows : (k : ℕ) → with_key key k (held s) ≡ list_of (m k)
  pub placed : (p : ℕ) (row : R) → slice_index_or s.tree p None ≡ Some row → is_on_path h (leaf_of s (key row)) (p / 4) ≡ true

-- the same with no map named: as it lies in storage
pub record Stands {R : Type 0} (key : R → ℕ) (h : ℕ) (s : State R) : Type 0 where
  pub size : length s.tree ≡ 4 * (2 ^ (h + 1) - 1)
  pub leaves : (k : ℕ) → k < length s.leaves → leaf_of s k < 2 ^ h
  pub single : Single key (held s)
  pub range : All (λ (row : R). key row < length s.leaves) (held s)
  pub placed : (p : ℕ) (row : R) → slice_index_or s.tree p None ≡ Some row → is_on_path h (leaf_of s (key row)) (p / 4) ≡ true

-- the map of its rows
abbrev pub map_of : {R : Type 0} → (R → ℕ) → State R → ℕ → Option R
map_of key s k = first (with_key key k (held s))
