-- The same slots one by one, as a loop over a buffer of rows leaves them.
use Rattle.std.specs.Prelude.{◌≡◌, ◌<◌, ◌+◌, ◌*◌, ◌/◌, ℕ, Bool, true, false, List, [], ◌∷◌, ◌++◌, Option, None, length, replicate, slice_index_or}
use Rattle.std.specs.List.{flat_map}
use Rattle.ob_script.specs.Parts.{path_place}
use Rattle.ob_path.specs.Paths.{path_up, is_on_path, path_slot}
use Rattle.ob_path.specs.Rows.{slots_of, firsts, except_firsts, first}
use Rattle.ob_path.specs.States.{State, bucket}

-- the slots of a path's buckets from the leaf up, and then t of the stash
abbrev pub laid : {R : Type 0} → (ℕ → R → Bool) → List ℕ → ℕ → List R → List (Option R)
laid fits [] t left = slots_of t left
laid fits (b ∷ bs) t left = slots_of 4 (firsts 4 (fits b) left) ++ laid fits bs t (except_firsts 4 (fits b) left)

-- for each slot, which rows may lie there
abbrev pub slot_tests : {R : Type 0} → (ℕ → R → Bool) → List ℕ → ℕ → List (R → Bool)
slot_tests fits [] t = replicate t (λ row. true)
slot_tests fits (b ∷ bs) t = replicate 4 (fits b) ++ slot_tests fits bs t

-- each slot takes the first of the rows left that may lie there
abbrev pub laid_slots : {R : Type 0} → List (R → Bool) → List R → List (Option R)
laid_slots [] left = []
laid_slots (p ∷ ps) left = first (firsts 1 p left) ∷ laid_slots ps (except_firsts 1 p left)

abbrev pub left_behind : {R : Type 0} → List (R → Bool) → List R → List R
left_behind [] left = left
left_behind (p ∷ ps) left = left_behind ps (except_firsts 1 p left)

-- the slots that an access opens: those of a path from the leaf up, those of the stash, and an empty one
abbrev pub open_slots : {R : Type 0} → ℕ → ℕ → State R → List (Option R)
open_slots h leaf s = (flat_map (bucket s.tree) (path_up h leaf) ++ s.stash) ++ None ∷ []

-- the slots of a buffer lie in the path and in the stash, and off the path lies what lay there
pub record LaysOut {R : Type 0} (h leaf : ℕ) (slots : List (Option R)) (old new : State R) : Type 0 where
  pub size : length new.tree ≡ length old.tree
  pub stash_size : length new.stash ≡ length old.stash
  pub path : (c : ℕ) → c < 4 * (h + 1) → slice_index_or new.tree (path_place h leaf c) None ≡ slice_index_or slots (path_slot h c) None
  pub off : (p : ℕ) → is_on_path h leaf (p / 4) ≡ false → slice_index_or new.tree p None ≡ slice_index_or old.tree p None
  pub stash : (i : ℕ) → i < length old.stash → slice_index_or new.stash i None ≡ slice_index_or slots (4 * (h + 1) + i) None
