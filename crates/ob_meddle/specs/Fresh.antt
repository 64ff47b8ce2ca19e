-- What holds of a store in memory before its first access, and before the first change.
use Rattle.std.specs.Prelude.{◌≡◌, ◌<◌, ◌≤◌, ◌+◌, ℕ, Bool, true, false, IsTrue, List, [], ◌∷◌, Option, Some, None, refl, length, not, slice_index_or, if◌then◌else◌}
use Rattle.std.specs.Option.{ForSome}
use Rattle.std.specs.Ordering.{nat_cmp}
use Rattle.std.specs.BTreeMap.{BTreeMap}
use Rattle.std.specs.BTreeSet.{BTreeSet, contains}
use Rattle.std.proofs.Common.{ap, sym, subst, ◌∙◌, arith}
use Rattle.ob_base.specs.declared.access.Access.{Access}
use Rattle.ob_meddle.specs.declared.meddle.Meddle.{Meddle}
use Rattle.ob_meddle.specs.declared.region.Region.{Region}
use Rattle.ob_meddle.specs.Bytes.{block_at}
use Rattle.ob_meddle.specs.Held.{Rest, last_in}
use Rattle.ob_store.specs.State.{KeptRegion, Shape, StoreState}
use Rattle.ob_store.specs.Calls.{IsBounded, KeepsLive}
use Rattle.ob_store.specs.Fresh.{is_marked}
use Rattle.ob_meddle.specs.declared.caught.Caught.{Caught}
use Rattle.ob_meddle.specs.Acts.{rest_at, rests_of, stands_of}
use Rattle.ob_meddle.specs.Regions.{usable_shape, kept_at, last_at}
use Rattle.ob_meddle.specs.Caught.{lie_of}
use Rattle.ob_meddle.specs.Due.{has_acted}

abbrev pub is_fresh : List Access → List ℕ → Bool
is_fresh [] (number ∷ numbers) = false
is_fresh [] [] = true
is_fresh (access ∷ log) numbers = true

-- no region may be used, where nothing was asked
abbrev pub IsFresh : List Access → BTreeSet ℕ → Type 0
IsFresh asked usable = IsTrue (is_fresh asked usable.keys)

no_numbers : (log : List Access) (numbers : List ℕ) → IsTrue (is_fresh log numbers) → log ≡ [] → numbers ≡ []
no_numbers log [] fresh none = refl
no_numbers [] (number ∷ numbers) fresh none = absurd (cc fresh)
no_numbers (access ∷ log) (number ∷ numbers) fresh none = absurd (cc none)

pub fresh_live : (asked : List Access) (usable : BTreeSet ℕ) → IsFresh asked usable → asked ≡ [] → (q : ℕ) (r : Option Rest)
    → usable_shape (contains nat_cmp usable q) r ≡ None
fresh_live asked usable fresh none q r =
    ap (λ (numbers : List ℕ). usable_shape (contains nat_cmp (record { keys = numbers }) q) r) (no_numbers asked usable.keys fresh none)

-- a region that may be used is kept as it stands
pub keeps_live : (usable : Bool) (r : Option Rest) (shape : Shape) → usable_shape usable r ≡ Some shape → (s : StoreState) (number : ℕ)
    → s.kept number ≡ kept_at r → ((x : ℕ) → s.last number x ≡ last_at r x) → KeepsLive number shape s
keeps_live false r shape is s number kept last = absurd (cc is)
keeps_live true None shape is s number kept last = absurd (cc is)
keeps_live true (Some r) shape is s number kept last = whole r.live refl is where
  whole : (live : Bool) → r.live ≡ live → (if live then Some (record { blocks = r.blocks; len = r.len }) else None) ≡ Some shape → KeepsLive number shape s
  whole false gone is = absurd (cc is)
  whole true live is = record {
    region = record { shape = record { blocks = r.blocks; len = r.len }; given_up = not r.live; last = r.last };
    is = kept;
    same = cc is;
    whole = ap not live;
    last = λ x. sym (last x ∙ ap (λ (b : Bool). if b then r.last x else None) live);
  }

-- what is kept of a region lies at its places
pub keeps_within : (r : Option Region) (region : KeptRegion) → kept_at (rest_at r) ≡ Some region → IsBounded region
keeps_within None region is = absurd (cc is)
keeps_within (Some r) region is = subst IsBounded same (record { below = below }) where
  same : record { shape = record { blocks = r.stands.count; len = r.stands.len }; given_up = not r.live; last = last_in r } ≡ region
  same = cc is

  by_mark : (x : ℕ) (block : List ℕ) (mark : Bool) → slice_index_or r.written.items x false ≡ mark
      → (if mark then Some (block_at r.last x) else None) ≡ Some block → x < r.stands.count
  by_mark x block true is at = omega (arith, is_marked r.written.items x is, r.marked)
  by_mark x block false is at = absurd (cc at)

  below : (x : ℕ) (block : List ℕ) → last_in r x ≡ Some block → x < r.stands.count
  below x block at = by_mark x block (slice_index_or r.written.items x false) refl at

-- each block that was written stands as it was written, until a change was made
abbrev pub IsHonest : List Meddle → ℕ → BTreeMap ℕ Region → Type 0
IsHonest list count regions =
    has_acted list count ≡ false → (q x : ℕ) (block : List ℕ) → last_at (rests_of regions q) x ≡ Some block → stands_of regions q x ≡ block

-- nor has a call failed
pub none_failed_yet : (asked : List Access) (faults slips : ℕ) → faults + slips ≤ length asked → asked ≡ [] → (faults ≡ 0) × (slips ≡ 0)
none_failed_yet asked faults slips few none =
    let zero : length asked ≡ 0 = ap length none in
    (omega (arith, few, zero), omega (arith, few, zero))

-- a read was caught only among those that were asked
abbrev pub IsEarly : Option Caught → List Access → Type 0
IsEarly caught asked = ForSome caught (λ c. c.count < length asked)

pub honest_start : (caught : Option Caught) (asked : List Access) → IsEarly caught asked → asked ≡ [] → lie_of caught asked ≡ None
honest_start None asked early none = refl
honest_start (Some c) asked early none = let less : c.count < length asked = early c refl in absurd (omega (arith, ap length none))
