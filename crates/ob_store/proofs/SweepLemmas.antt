-- What is left of a region once those that aren't live are taken out.
use Rattle.std.proofs.Common.{◌≡◌, ◌≢◌, ℕ, Bool, true, false, if◌then◌else◌, List, [], ◌∷◌, length, Option, Some, None, refl, ◌∙◌, ap, arith}
use Rattle.std.proofs.lemmas.Bool.Decides.{nat_tests}
use Rattle.std.specs.BTreeMap.{BTreeMap, btree_map_len, get, is_at}
use Rattle.std.specs.Map.{lookup}
use Rattle.std.specs.Ordering.{nat_cmp}
use Rattle.ob_store.specs.State.{KeptRegion}
use Rattle.ob_store.specs.Memory.{kept_of, live_shape, shape_of}
use Rattle.ob_store.specs.declared.blocks.Blocks.{Blocks}

pub shape_stays : (live : Bool) (old new : Option Blocks) → new ≡ (if live then old else None) → live_shape live new ≡ live_shape live old
shape_stays true old new is = ap shape_of is
shape_stays false old new is = refl

pub region_stays : (live : Bool) (old new : Option Blocks) → live_shape live old ≢ None → new ≡ (if live then old else None) → new ≡ old
region_stays true old new off is = is
region_stays false old new off is = absurd (off refl)

none_kept : (new : Option Blocks) (region : KeptRegion) → new ≡ None → kept_of new ≡ Some region → region.given_up ≡ true
none_kept None region is kept = absurd (cc kept)
none_kept (Some b) region is kept = absurd (cc is)

shapeless : (old : Option Blocks) → shape_of old ≡ None → old ≡ None
shapeless None none = refl
shapeless (Some b) none = absurd (cc none)

pub region_goes : (live : Bool) (old new : Option Blocks) → live_shape live old ≡ None → new ≡ (if live then old else None) → (region : KeptRegion) → kept_of new ≡ Some region → region.given_up ≡ true
region_goes true old new none is region kept = none_kept new region (is ∙ shapeless old none) kept
region_goes false old new none is region kept = none_kept new region is kept

-- ---- where no region is kept
finds_itself : (q : ℕ) → is_at (nat_cmp q) q ≡ true
finds_itself q = grind (arith, nat_tests)

bare_entries : (entries : List (ℕ × Blocks)) → ((q : ℕ) → kept_of (lookup (is_at (nat_cmp q)) entries) ≡ None) → length entries ≡ 0
bare_entries [] none = refl
bare_entries (e ∷ rest) none = absurd (cc (none e.0, finds_itself e.0))

pub bare_is_empty : (regions : BTreeMap ℕ Blocks) → ((q : ℕ) → kept_of (get nat_cmp regions q) ≡ None) → btree_map_len regions ≡ 0
bare_is_empty regions none = bare_entries regions.entries none
