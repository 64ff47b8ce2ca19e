-- A path, as a list of its buckets from the root down, that is written to their other places.
use Rattle.std.specs.Prelude.{◌≡◌, ◌≢◌, ◌⊎◌, ◌+◌, ◌*◌, ℕ, suc, not, ◌==◌, List, [], ◌∷◌, map, Result, OnOk, if◌then◌else◌}
use Rattle.ob_path.specs.Paths.{above}
use Rattle.ob_linked.specs.declared.version.Version.{Version}
use Rattle.ob_linked.specs.declared.writing.Step.{Step}
use Rattle.ob_linked.specs.declared.writing.Failed.{Failed}
use Rattle.ob_linked.specs.Linked.{Block, Cells, Tree, place_of, with_block, with_blocks}

-- ---- one bucket
abbrev pub sealed_as : (bucket : ℕ) → Version → (rows : ℕ) → (left right : Version) → Block ℕ
sealed_as b v rows left right = record { at = place_of b v.side; version = v; body = record { rows = rows; left = left; right = right } }

pub record Puts (bucket : ℕ) (v : Version) (rows : ℕ) (left right : Version) (old new : Cells ℕ) : Type 0 where
  pub is : (x : ℕ) → new x ≡ with_block old (sealed_as bucket v rows left right) x

-- anything may lie at the place, and all else is as it was
pub record Spoils (bucket : ℕ) (v : Version) (old new : Cells ℕ) : Type 0 where
  pub others : (x : ℕ) → x ≢ place_of bucket v.side → new x ≡ old x

-- ---- a path
abbrev pub buckets_of : List Step → List ℕ
buckets_of path = map (λ (s : Step). s.bucket) path

-- the rows that its buckets get, and the numbers of their writes
abbrev pub rows_in : List Step → ℕ → ℕ
rows_in [] b = 0
rows_in (s ∷ path) b = if s.bucket == b then s.rows else rows_in path b

abbrev pub numbers_in : (number : ℕ) → List Step → ℕ → ℕ
numbers_in number [] b = 0
numbers_in number (s ∷ path) b = if s.bucket == b then number else numbers_in (suc number) path b

-- the version of a child, where these buckets are written below
abbrev pub child_version : (child : ℕ) → (was : Version) → (below : List Step) → (run number : ℕ) → Version
child_version c was [] run number = was
child_version c was (s ∷ below) run number = if s.bucket == c then record { side = not s.version.side; run = run; number = number } else was

abbrev pub block_of : Step → (below : List Step) → (run number : ℕ) → Block ℕ
block_of s below run number = sealed_as s.bucket (record { side = not s.version.side; run = run; number = number }) s.rows
    (child_version (2 * s.bucket + 1) s.left below run (suc number)) (child_version (2 * s.bucket + 2) s.right below run (suc number))

abbrev pub blocks_from : List Step → (run number : ℕ) → List (Block ℕ)
blocks_from [] run number = []
blocks_from (s ∷ path) run number = block_of s path run number ∷ blocks_from path run (suc number)

-- the other place of one of its buckets
abbrev pub IsOther : List Step → ℕ → Type 0
IsOther [] x = ⊥
IsOther (s ∷ path) x = (x ≡ place_of s.bucket (not s.version.side)) ⊎ IsOther path x

-- nothing is touched but the other places of its buckets; and where nothing failed, all of them were written
pub record KeepsOthers (path : List Step) (old new : Cells ℕ) : Type 0 where
  pub others : (x : ℕ) → (IsOther path x → ⊥) → new x ≡ old x

pub record Writes {T : Type 0} (path : List Step) (run number : ℕ) (result : Result T Failed) (old new : Cells ℕ) : Type 0 where
  pub keeps : KeepsOthers path old new
  pub ok : OnOk result ((x : ℕ) → new x ≡ with_blocks old (blocks_from path run number) x)

-- ---- that of a tree
abbrev pub Follows : ℕ → List Step → Type 0
Follows b [] = Unit {0}
Follows b (s ∷ path) = (s.bucket ≢ 0) × (above s.bucket ≡ b) × Follows s.bucket path

abbrev pub FromRoot : List Step → Type 0
FromRoot [] = Unit {0}
FromRoot (s ∷ path) = (s.bucket ≡ 0) × Follows s.bucket path

-- each bucket as the tree has it
pub record IsStepOf (t : Tree ℕ) (s : Step) : Type 0 where
  pub version : s.version ≡ t.version s.bucket
  pub left : s.left ≡ t.version (2 * s.bucket + 1)
  pub right : s.right ≡ t.version (2 * s.bucket + 2)

abbrev pub AreStepsOf : Tree ℕ → List Step → Type 0
AreStepsOf t [] = Unit {0}
AreStepsOf t (s ∷ path) = IsStepOf t s × AreStepsOf t path

-- a path from the root on, as the tree has it
pub record IsPathOf (t : Tree ℕ) (path : List Step) : Type 0 where
  pub steps : AreStepsOf t path
  pub root : FromRoot path
