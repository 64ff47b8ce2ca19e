-- One access of a key.
use Rattle.std.specs.Prelude.{ℕ, ◌%◌, ◌^◌, Bool, nat_le, List, [], ◌∷◌, ◌++◌, length, Option, Some, None, slice_index_or, slice_set, if◌then◌else◌}
use Rattle.std.specs.List.{flat_map}
use Rattle.std.specs.Prelude.{nat_lt}
use Rattle.ob_path.specs.Paths.{path_up, is_on_path}
use Rattle.ob_path.specs.Rows.{rows, slots_of, list_of, first, with_key, except, by_key, firsts, except_firsts}
use Rattle.ob_path.specs.States.{State, bucket, with_bucket}

pub data Op (R : Type 0) : Type 0 where
  Get : ℕ → Op R
  Insert : R → Op R
  Change : ℕ → (R → R) → Op R
  Remove : ℕ → Op R

pub data Got (R : Type 0) : Type 0 where
  Absent : Got R
  Found : R → Got R
  Done : Got R
  Duplicate : Got R
  OutOfRange : Got R

abbrev pub key_of : {R : Type 0} → (R → ℕ) → Op R → ℕ
key_of key (Get k) = k
key_of key (Insert row) = key row
key_of key (Change k f) = k
key_of key (Remove k) = k

-- the row at the key, after
abbrev pub after : {R : Type 0} → Op R → Option R → Option R
after (Get k) was = was
after (Insert row) None = Some row
after (Insert row) (Some was) = Some was
after (Change k f) None = None
after (Change k f) (Some was) = Some (f was)
after (Remove k) was = None

-- the answer, by the row at the key before
abbrev pub got : {R : Type 0} → Op R → Option R → Got R
got (Get k) None = Absent
got (Get k) (Some was) = Found was
got (Insert row) None = Done
got (Insert row) (Some was) = Duplicate
got (Change k f) None = Absent
got (Change k f) (Some was) = Done
got (Remove k) None = Absent
got (Remove k) (Some was) = Done

-- rows with the operation applied at its key, among n keys
abbrev pub applied : {R : Type 0} → (R → ℕ) → ℕ → Op R → List R → List R
applied key n op all = let k = key_of key op in if nat_lt k n then list_of (after op (first (with_key key k all))) ++ except key k all else all

abbrev pub answer : {R : Type 0} → ℕ → ℕ → Op R → Option R → Got R
answer n k op was = if nat_lt k n then got op was else OutOfRange

-- the rows of the stash and of a path
abbrev pub take_path : {R : Type 0} → ℕ → State R → ℕ → List R
take_path h s leaf = rows s.stash ++ rows (flat_map (bucket s.tree) (path_up h leaf))

-- a tree, and the rows that are left
pub record Evicted (R : Type 0) : Type 0 where
  pub tree : List (Option R)
  pub left : List R

-- a bucket takes the first four of the rows left that fit it, and the others are left
abbrev pub fill : {R : Type 0} → (ℕ → R → Bool) → ℕ → Evicted R → Evicted R
fill fits b e = record { tree = with_bucket e.tree b (slots_of 4 (firsts 4 (fits b) e.left)); left = except_firsts 4 (fits b) e.left }

-- one bucket after the other
abbrev pub evict : {R : Type 0} → (ℕ → R → Bool) → List ℕ → Evicted R → Evicted R
evict fits [] e = e
evict fits (b ∷ bs) e = evict fits bs (fill fits b e)

-- the key's leaf, or that of the draw where no key is k
abbrev pub leaf_read : {R : Type 0} → ℕ → State R → ℕ → ℕ → ℕ
leaf_read h s k draw = slice_index_or s.leaves k (draw % 2 ^ h)

abbrev pub leaves_after : {R : Type 0} → ℕ → State R → ℕ → ℕ → List ℕ
leaves_after h s k draw = slice_set s.leaves k (draw % 2 ^ h)

-- whether a row may lie in a bucket
abbrev pub fits_by : {R : Type 0} → (R → ℕ) → ℕ → List ℕ → ℕ → R → Bool
fits_by key h leaves b row = is_on_path h (slice_index_or leaves (key row) 0) b

-- the tree after an access of key k, and the rows left for the stash
abbrev pub evicted : {R : Type 0} → (R → ℕ) → ℕ → State R → Op R → ℕ → Evicted R
evicted key h s op draw = let k = key_of key op in let leaf = leaf_read h s k draw in
    evict (fits_by key h (leaves_after h s k draw)) (path_up h leaf) (record { tree = s.tree; left = by_key key (applied key (length s.leaves) op (take_path h s leaf)) })

pub record Went (R : Type 0) : Type 0 where
  pub got : Got R
  pub state : State R

-- none is the stop at a full stash
abbrev pub access : {R : Type 0} → (R → ℕ) → ℕ → State R → Op R → ℕ → Option (Went R)
access key h s op draw = let k = key_of key op in let e = evicted key h s op draw in
    if nat_le (length e.left) (length s.stash)
    then Some (record {
      got = answer (length s.leaves) k op (first (with_key key k (take_path h s (leaf_read h s k draw))));
      state = record { tree = e.tree; stash = slots_of (length s.stash) e.left; leaves = leaves_after h s k draw };
    })
    else None
