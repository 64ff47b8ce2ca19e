-- A tree of buckets in which the block of each bucket names the blocks of its two children, and each bucket has two places,
-- in turn. Who knows the version of the root alone knows by it all that is read of a path; and a path is written without
-- touching a block of the tree that it comes from.
use Rattle.std.specs.Prelude.{◌≡◌, ◌≢◌, ◌⊎◌, ◌<◌, ◌+◌, ◌-◌, ◌*◌, ◌^◌, ℕ, Bool, true, not, ◌==◌, List, [], ◌∷◌, ◌++◌, map, Option, Some, if◌then◌else◌}
use Rattle.std.specs.List.{list_any}
use Rattle.ob_path.specs.Paths.{above, path}
use Rattle.ob_linked.specs.declared.version.Version.{Version}
use Rattle.ob_path.specs.States.{State, bucket}

-- what a bucket's block has: its rows, and which blocks of its two children are meant
pub record Body (A : Type 0) : Type 0 where
  pub rows : A
  pub left : Version
  pub right : Version

-- a sealed block: its tag holds it to its place, run and number
pub record Block (A : Type 0) : Type 0 where
  pub at : ℕ
  pub version : Version
  pub body : Body A

-- what lies at each place of a region
abbrev pub Cells : Type 0 → Type 0
Cells A = ℕ → Option (Block A)

-- a bucket has two places
abbrev pub place_of : (bucket : ℕ) → (side : Bool) → ℕ
place_of b side = 2 * b + (if side then 1 else 0)

-- the rows of each bucket, and its version
pub record Tree (A : Type 0) : Type 0 where
  pub rows : ℕ → A
  pub version : ℕ → Version

abbrev pub body_at : {A : Type 0} → Tree A → ℕ → Body A
body_at t b = record { rows = t.rows b; left = t.version (2 * b + 1); right = t.version (2 * b + 2) }

abbrev pub place_at : {A : Type 0} → Tree A → ℕ → ℕ
place_at t b = place_of b (t.version b).side

-- the place that a bucket doesn't need
abbrev pub spare_at : {A : Type 0} → Tree A → ℕ → ℕ
spare_at t b = place_of b (not (t.version b).side)

abbrev pub block_at : {A : Type 0} → Tree A → ℕ → Block A
block_at t b = record { at = place_at t b; version = t.version b; body = body_at t b }

-- a tree of n buckets lies in a region
pub record IsStoredIn {A : Type 0} (n : ℕ) (t : Tree A) (cells : Cells A) : Type 0 where
  pub each : (b : ℕ) → b < n → cells (place_at t b) ≡ Some (block_at t b)

-- ---- reading
-- of the versions that a bucket's block names the one of its child
abbrev pub child_in : {A : Type 0} → Body A → (b child : ℕ) → Version
child_in body b c = if c == 2 * b + 1 then body.left else body.right

-- what lies at a bucket's place opens as the version that is meant
abbrev pub Opens : {A : Type 0} → Cells A → ℕ → Version → Body A → Type 0
Opens cells b v body = cells (place_of b v.side) ≡ Some (record { at = place_of b v.side; version = v; body = body })

-- a bucket of the version that is meant was opened, and then those below, each as the one above it says
abbrev pub Reads : {A : Type 0} → Cells A → ℕ → Version → (below : List ℕ) → List (Body A) → Type 0
Reads cells b v below [] = ⊥
Reads cells b v [] (body ∷ bodies) = Opens cells b v body × (bodies ≡ [])
Reads cells b v (c ∷ below) (body ∷ bodies) = Opens cells b v body × Reads cells c (child_in body b c) below bodies

-- buckets of a tree of n, each the child of the one before
abbrev pub GoesDown : (n : ℕ) → ℕ → (below : List ℕ) → Type 0
GoesDown n b [] = b < n
GoesDown n b (c ∷ below) = (b < n) × (c ≢ 0) × (above c ≡ b) × GoesDown n c below

-- a block is one of these
abbrev pub IsMade : {A : Type 0} → List (Block A) → Block A → Type 0
IsMade [] s = ⊥
IsMade (x ∷ xs) s = (s ≡ x) ⊎ IsMade xs s

-- of all blocks that were ever sealed no two have one place and one version
pub record AreApart {A : Type 0} (made : List (Block A)) : Type 0 where
  pub apart : (s t : Block A) → IsMade made s → IsMade made t → s.at ≡ t.at → s.version ≡ t.version → s ≡ t

-- those of a tree of n buckets are among them
pub record IsSealed {A : Type 0} (made : List (Block A)) (n : ℕ) (t : Tree A) : Type 0 where
  pub each : (b : ℕ) → b < n → IsMade made (block_at t b)

-- others may have put any of them anywhere, and nothing else
pub record AreOf {A : Type 0} (made : List (Block A)) (cells : Cells A) : Type 0 where
  pub each : (x : ℕ) (s : Block A) → cells x ≡ Some s → IsMade made s

-- ---- writing
abbrev pub is_among : List ℕ → ℕ → Bool
is_among path b = list_any (λ c. c == b) path

-- the same tree, but that the buckets of a path have these rows, in blocks of these versions
abbrev pub rewritten : {A : Type 0} → Tree A → (path : List ℕ) → (rows : ℕ → A) → (version : ℕ → Version) → Tree A
rewritten t path rows version = record {
  rows = λ b. if is_among path b then rows b else t.rows b;
  version = λ b. if is_among path b then version b else t.version b;
}

-- at their other places, in this run and under these numbers
abbrev pub turned : {A : Type 0} → Tree A → (path : List ℕ) → (rows : ℕ → A) → (run : ℕ) → (number : ℕ → ℕ) → Tree A
turned t path rows run number = rewritten t path rows (λ b. record { side = not (t.version b).side; run = run; number = number b })

-- one block is written, and then others
abbrev pub with_block : {A : Type 0} → Cells A → Block A → Cells A
with_block cells s x = if x == s.at then Some s else cells x

abbrev pub with_blocks : {A : Type 0} → Cells A → List (Block A) → Cells A
with_blocks cells [] = cells
with_blocks cells (s ∷ more) = with_blocks (with_block cells s) more

-- the blocks of a path's buckets
abbrev pub blocks_of : {A : Type 0} → Tree A → List ℕ → List (Block A)
blocks_of t path = map (block_at t) path

-- with each bucket of the path the one above it is there
abbrev pub GoesUp : List ℕ → Type 0
GoesUp path = (c : ℕ) → c ≢ 0 → is_among path c ≡ true → is_among path (above c) ≡ true

-- nothing except spare places of a path's buckets has changed, these in whichever way: a write that was cut short included
pub record OnlySpares {A : Type 0} (t : Tree A) (path : List ℕ) (old new : Cells A) : Type 0 where
  pub others : (x : ℕ) → ((b : ℕ) → is_among path b ≡ true → x ≢ spare_at t b) → new x ≡ old x

-- these versions are at places that a tree doesn't need
pub record AreSpare {A : Type 0} (t : Tree A) (path : List ℕ) (version : ℕ → Version) : Type 0 where
  pub each : (b : ℕ) → is_among path b ≡ true → (version b).side ≡ not (t.version b).side

-- and no block was sealed as one of them
pub record AreNew {A : Type 0} (made : List (Block A)) (path : List ℕ) (version : ℕ → Version) : Type 0 where
  pub each : (b : ℕ) → is_among path b ≡ true → (s : Block A) → IsMade made s → s.version ≢ version b

-- these blocks have versions of their own
pub record AreApartFrom {A : Type 0} (made more : List (Block A)) : Type 0 where
  pub apart : AreApart more
  pub each : (s u : Block A) → IsMade made s → IsMade more u → s.version ≢ u.version

-- what may become of a region: of the tree that the mark names, of the one that is in use, of what lies there, and of all
-- blocks that were ever sealed
pub data Life {A : Type 0} : (marked now : Tree A) → Cells A → (made : List (Block A)) → (marked2 now2 : Tree A) → Cells A → (made2 : List (Block A)) → Type 0 where
  over : {m t : Tree A} {c : Cells A} {s : List (Block A)} → Life m t c s m t c s
  -- a path of the tree in use is written, to places that the marked tree doesn't need: the first time since the mark, or again
  accessed : {m t m2 t2 : Tree A} {c c2 : Cells A} {s s2 : List (Block A)} (path : List ℕ) (rows : ℕ → A) (version : ℕ → Version) → GoesUp path → AreSpare m path version → AreNew s path version
      → Life m (rewritten t path rows version) (with_blocks c (blocks_of (rewritten t path rows version) path)) (s ++ blocks_of (rewritten t path rows version) path) m2 t2 c2 s2 → Life m t c s m2 t2 c2 s2
  -- the mark is set: it names the tree in use
  set : {m t m2 t2 : Tree A} {c c2 : Cells A} {s s2 : List (Block A)} → Life t t c s m2 t2 c2 s2 → Life m t c s m2 t2 c2 s2
  -- a run is killed, in the midst of such writes, or between them; the run after it goes on from the mark
  killed : {m t m2 t2 : Tree A} {c d c2 : Cells A} {s s2 : List (Block A)} (path : List ℕ) (more : List (Block A)) → OnlySpares m path c d → AreApartFrom s more
      → Life m m d (s ++ more) m2 t2 c2 s2 → Life m t c s m2 t2 c2 s2

-- both trees lie there, of blocks that were sealed, each once for its place and version
pub record Stands {A : Type 0} (n : ℕ) (m t : Tree A) (cells : Cells A) (made : List (Block A)) : Type 0 where
  pub marked : IsStoredIn n m cells
  pub current : IsStoredIn n t cells
  pub apart : AreApart made
  pub marked_sealed : IsSealed made n m
  pub current_sealed : IsSealed made n t

-- ---- many accesses
-- a path that is written anew: with these rows, in this run, under these numbers
pub record Turn (A : Type 0) : Type 0 where
  pub path : List ℕ
  pub rows : ℕ → A
  pub run : ℕ
  pub number : ℕ → ℕ

abbrev pub turned_all : {A : Type 0} → Tree A → List (Turn A) → Tree A
turned_all t [] = t
turned_all t (turn ∷ turns) = turned_all (turned t turn.path turn.rows turn.run turn.number) turns

-- a side, changed once for each of these paths that a bucket is on
abbrev pub side_behind : Bool → (paths : List (List ℕ)) → ℕ → Bool
side_behind side [] b = side
side_behind side (path ∷ paths) b = side_behind (if is_among path b then not side else side) paths b

abbrev pub paths_of : {A : Type 0} → List (Turn A) → List (List ℕ)
paths_of turns = map (λ turn. turn.path) turns

-- ---- an index of the model
-- a tree of a bucket's slots each is the tree of an index
pub record IsTreeOf {R : Type 0} (n : ℕ) (t : Tree (List (Option R))) (slots : List (Option R)) : Type 0 where
  pub rows : (b : ℕ) → b < n → t.rows b ≡ bucket slots b

-- the tree after an access that wrote the path of a leaf, in this run and under these numbers
abbrev pub behind : {R : Type 0} → Tree (List (Option R)) → (h leaf : ℕ) → State R → (run : ℕ) → (number : ℕ → ℕ) → Tree (List (Option R))
behind t h leaf s run number = turned t (path h leaf) (bucket s.tree) run number

-- what an access leaves in the region whose path it wrote from the root down
pub record Saves {R : Type 0} (h leaf : ℕ) (t : Tree (List (Option R))) (new : State R) (run : ℕ) (number : ℕ → ℕ) (cells : Cells (List (Option R))) : Type 0 where
  -- the index after the access
  pub lies : IsStoredIn (2 ^ (h + 1) - 1) (behind t h leaf new run number) (with_blocks cells (blocks_of (behind t h leaf new run number) (path h leaf)))
  pub is : IsTreeOf (2 ^ (h + 1) - 1) (behind t h leaf new run number) new.tree
  -- and, once any first part of it was written, the index before it
  pub before : (done rest : List ℕ) → path h leaf ≡ done ++ rest → IsStoredIn (2 ^ (h + 1) - 1) t (with_blocks cells (blocks_of (behind t h leaf new run number) done))
