-- The regions of a store in files.
use Rattle.std.specs.Prelude.{◌≡◌, ℕ, Bool, true, false, IsTrue, List, [], ◌∷◌, Option, Some, None, refl}
use Rattle.std.specs.Ordering.{nat_cmp}
use Rattle.std.specs.BTreeMap.{BTreeMap, get, is_at}
use Rattle.std.specs.Map.{lookup}
use Rattle.std.proofs.Common.{ap}
use Rattle.ob_base.specs.declared.access.Access.{Access}
use Rattle.ob_store.specs.State.{Shape}
use Rattle.ob_file.specs.declared.region.Size.{Size}

abbrev pub shape_of : Option Size → Option Shape
shape_of None = None
shape_of (Some r) = Some (record { blocks = r.blocks; len = r.len })

abbrev pub is_fresh : List Access → List (ℕ × Size) → Bool
is_fresh [] (entry ∷ entries) = false
is_fresh [] [] = true
is_fresh (access ∷ log) entries = true

-- no region, where nothing was asked
abbrev pub IsFresh : List Access → BTreeMap ℕ Size → Type 0
IsFresh log regions = IsTrue (is_fresh log regions.entries)

no_entries : (log : List Access) (entries : List (ℕ × Size)) → IsTrue (is_fresh log entries) → log ≡ [] → entries ≡ []
no_entries log [] fresh none = refl
no_entries [] (entry ∷ entries) fresh none = absurd (cc fresh)
no_entries (access ∷ log) (entry ∷ entries) fresh none = absurd (cc none)

pub fresh_live : (log : List Access) (regions : BTreeMap ℕ Size) → IsFresh log regions → log ≡ [] → (r : ℕ) → shape_of (get nat_cmp regions r) ≡ None
fresh_live log regions fresh none r =
    ap (λ (entries : List (ℕ × Size)). shape_of (lookup (is_at (nat_cmp r)) entries)) (no_entries log regions.entries fresh none)
