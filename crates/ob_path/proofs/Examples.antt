-- Accesses of a tree of three buckets that the checker computes: a row is its own key.
use Rattle.std.proofs.Common.{◌≡◌, ℕ, List, [], ◌∷◌, Some, None, refl}
use Rattle.std.specs.Prelude.{◌++◌, Option, replicate}
use Rattle.ob_path.specs.Access.{Op, Get, Insert, Remove, Absent, Found, Done, Duplicate, OutOfRange, Went, access}
use Rattle.ob_path.specs.States.{State}

-- the root has this slot, and no other block has a row; the stash has one slot
abbrev with_root : Option ℕ → (leaves : List ℕ) → State ℕ
with_root slot leaves = record { tree = slot ∷ replicate 11 None; stash = None ∷ []; leaves = leaves }

abbrev go : State ℕ → Op ℕ → (draw : ℕ) → Option (Went ℕ)
go s op draw = access (λ key. key) 1 s op draw

-- key 0 has leaf 0, which is read; its new leaf is 1, so that of the path read it may lie in the root alone
inserted : go (with_root None (0 ∷ 1 ∷ [])) (Insert 0) 1 ≡ Some (record { got = Done; state = with_root (Some 0) (1 ∷ 1 ∷ []) })
inserted = refl

-- it is there already, and moves all the same
again : go (with_root (Some 0) (1 ∷ 1 ∷ [])) (Insert 0) 3 ≡ Some (record { got = Duplicate; state = record { tree = replicate 8 None ++ Some 0 ∷ replicate 3 None; stash = None ∷ []; leaves = 1 ∷ 1 ∷ [] } })
again = refl

found : go (with_root (Some 0) (1 ∷ 1 ∷ [])) (Get 0) 0 ≡ Some (record { got = Found 0; state = with_root (Some 0) (0 ∷ 1 ∷ []) })
found = refl

absent : go (with_root None (0 ∷ 1 ∷ [])) (Remove 1) 0 ≡ Some (record { got = Absent; state = with_root None (0 ∷ 0 ∷ []) })
absent = refl

-- a key past all of them reads the leaf of the draw, and changes none
outside : go (with_root None (0 ∷ 1 ∷ [])) (Insert 2) 1 ≡ Some (record { got = OutOfRange; state = with_root None (0 ∷ 1 ∷ []) })
outside = refl
