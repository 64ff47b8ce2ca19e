-- Which rows may lie in which slots of a buffer, where each row has a key and a leaf.
use Rattle.std.specs.Prelude.{◌≡◌, ◌<◌, ◌≤◌, ℕ, zero, suc, ◌+◌, ◌-◌, ◌/◌, ◌^◌, min, Bool, true, false, ◌==◌, List, [], ◌∷◌, Option, Some, None, length, take, drop, slice_index_or}
use Rattle.ob_path.specs.Rows.{rows, by_key, firsts, except_firsts, first, Single}

-- whether its path and that of a leaf have one bucket at a height above the leaves
abbrev pub lies_at : {R : Type 0} → (R → ℕ) → ℕ → ℕ → R → Bool
lies_at lf leaf height row = lf row / 2 ^ height == leaf / 2 ^ height

-- no slot of these has a row that may lie there
pub record NoneLies {R : Type 0} (lf : R → ℕ) (leaf height : ℕ) (slots : List (Option R)) (from to : ℕ) : Type 0 where
  pub none : (k : ℕ) (row : R) → from ≤ k → k < to → slice_index_or slots k None ≡ Some row → lies_at lf leaf height row ≡ false

-- the row at this place may lie there, and no other of these that may has a lesser key
pub record IsLeast {R : Type 0} (key lf : R → ℕ) (leaf height : ℕ) (slots : List (Option R)) (from to place least_key : ℕ) : Type 0 where
  pub low : from ≤ place
  pub high : place < to
  pub row : R
  pub here : slice_index_or slots place None ≡ Some row
  pub same_key : key row ≡ least_key
  pub lies : lies_at lf leaf height row ≡ true
  pub least : (k : ℕ) (other : R) → from ≤ k → k < to → slice_index_or slots k None ≡ Some other → lies_at lf leaf height other ≡ true → key row ≤ key other

-- the tests of n slots from slot i on: those of height j are 4 * j to 4 * j + 3, and the stash goes with the root
abbrev pub tests : {R : Type 0} → (R → ℕ) → ℕ → ℕ → ℕ → ℕ → List (R → Bool)
tests lf leaf h i zero = []
tests lf leaf h i (suc n) = lies_at lf leaf (min (i / 4) h) ∷ tests lf leaf h (suc i) n

-- a row has its key's leaf, and this is a leaf of the tree
pub record InPlace {R : Type 0} (key lf : R → ℕ) (h : ℕ) (leaves : List ℕ) (row : R) : Type 0 where
  pub mine : lf row ≡ slice_index_or leaves (key row) 0
  pub below : lf row < 2 ^ h

-- one slot got its row: the first of the rows left, in order, that may lie there
pub record StepDone {R : Type 0} (key lf : R → ℕ) (leaf height i : ℕ) (old new : List (Option R)) : Type 0 where
  pub size : length new ≡ length old
  pub front : take i new ≡ take i old
  pub slot : slice_index_or new i None ≡ first (firsts 1 (lies_at lf leaf height) (by_key key (rows (drop i old))))
  pub left : by_key key (rows (drop (i + 1) new)) ≡ except_firsts 1 (lies_at lf leaf height) (by_key key (rows (drop i old)))
  pub single : Single key (rows (drop (i + 1) new))

-- no row may lie there, and no slot is empty
pub record StepFull {R : Type 0} (key lf : R → ℕ) (leaf height i : ℕ) (old : List (Option R)) : Type 0 where
  pub left : except_firsts 1 (lies_at lf leaf height) (by_key key (rows (drop i old))) ≡ by_key key (rows (drop i old))
  pub count : length (rows (drop i old)) ≡ length old - i
