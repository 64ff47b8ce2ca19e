-- What follows of a store in memory from what it has.
use Rattle.std.specs.Prelude.{◌≡◌, ◌<◌, ◌≤◌, ℕ, zero, suc, slice_index_or, Bool, true, false, IsTrue, List, [], ◌∷◌, Option, Some, None, refl, length, if◌then◌else◌}
use Rattle.std.specs.Ordering.{nat_cmp}
use Rattle.std.specs.BTreeSet.{BTreeSet, contains}
use Rattle.std.proofs.Common.{ap, arith, length-append, subst, sym}
use Rattle.ob_base.specs.declared.access.Access.{Access}
use Rattle.ob_store.specs.declared.blocks.Blocks.{Blocks}
use Rattle.ob_store.specs.State.{Disturbance, KeptRegion, Shape, StoreState}
use Rattle.ob_store.specs.Calls.{IsBefore, IsBounded, IsSteady, KeepsLive}
use Rattle.ob_store.specs.Logs.{LogState, asked_of, spelt}
use Rattle.ob_store.specs.Memory.{bytes_at, live_shape, kept_of, last_of, written_at}

-- what a log has let go of is no more than all
pub past_within : (log : LogState) → length log.past ≤ length (asked_of log)
past_within log = omega (arith, length-append log.past (spelt log.runs))

-- before the first access no region is live
abbrev pub is_fresh : List Access → List ℕ → Bool
is_fresh [] (number ∷ numbers) = false
is_fresh [] [] = true
is_fresh (access ∷ log) numbers = true

abbrev pub IsFresh : List Access → BTreeSet ℕ → Type 0
IsFresh log live = IsTrue (is_fresh log live.keys)

no_numbers : (log : List Access) (numbers : List ℕ) → IsTrue (is_fresh log numbers) → log ≡ [] → numbers ≡ []
no_numbers log [] fresh none = refl
no_numbers [] (number ∷ numbers) fresh none = absurd (cc fresh)
no_numbers (access ∷ log) (number ∷ numbers) fresh none = absurd (cc none)

pub fresh_live : (log : List Access) (live : BTreeSet ℕ) → IsFresh log live → log ≡ [] → (r : ℕ) (b : Option Blocks)
    → live_shape (contains nat_cmp live r) b ≡ None
fresh_live log live fresh none r b =
    ap (λ (numbers : List ℕ). live_shape (contains nat_cmp (record { keys = numbers }) r) b) (no_numbers log live.keys fresh none)

-- a live region is kept as it stands
pub keeps_live : (live : Bool) (b : Option Blocks) (shape : Shape) → live_shape live b ≡ Some shape → (s : StoreState) (number : ℕ)
    → s.kept number ≡ kept_of b → ((x : ℕ) → s.last number x ≡ last_of b x) → KeepsLive number shape s
keeps_live true (Some b) shape is s number kept last = record {
  region = record { shape = record { blocks = b.blocks; len = b.len }; given_up = false; last = written_at b };
  is = kept;
  same = cc is;
  whole = refl;
  last = λ x. sym (last x);
}
keeps_live true None shape is s number kept last = absurd (cc is)
keeps_live false b shape is s number kept last = absurd (cc is)

-- a place that is marked is one of those that there are
pub is_marked : (marks : List Bool) (x : ℕ) → slice_index_or marks x false ≡ true → x < length marks
is_marked [] x is = absurd (cc is)
is_marked (mark ∷ marks) zero is = omega arith
is_marked (mark ∷ marks) (suc x) is = omega (arith, is_marked marks x is)

marked_below : (b : Blocks) (x : ℕ) (block : List ℕ) → written_at b x ≡ Some block → x < b.blocks
marked_below b x block at = by_mark (slice_index_or b.written.items x false) refl at where
  by_mark : (mark : Bool) → slice_index_or b.written.items x false ≡ mark → (if mark then Some (bytes_at b x) else None) ≡ Some block
      → x < b.blocks
  by_mark true is at = omega (arith, is_marked b.written.items x is, b.marked)
  by_mark false is at = absurd (cc at)

-- what is kept of a region lies at its places
pub keeps_within : (b : Option Blocks) (region : KeptRegion) → kept_of b ≡ Some region → IsBounded region
keeps_within None region is = absurd (cc is)
keeps_within (Some b) region is = subst IsBounded same (record { below = λ x block at. marked_below b x block at }) where
  same : record { shape = record { blocks = b.blocks; len = b.len }; given_up = false; last = written_at b } ≡ region
  same = cc is

-- nothing shows of others, who do nothing, or of whom nothing is told
pub is_steady : (reopened : Bool) (s : StoreState) → s.disturbed ≡ (if reopened then None else Some []) → s.slips ≡ 0 → s.lie ≡ None
    → (reopened ≡ false → s.faults ≡ 0) → IsSteady s
is_steady true s disturbed slips lie unfailed = record {
  quiet = λ before. absurd (subst (λ (o : Option (List Disturbance)). IsBefore o (length s.asked)) disturbed before);
  lied = λ found is. absurd (cc (lie, is));
}
is_steady false s disturbed slips lie unfailed = record {
  quiet = λ before. record { faults = unfailed refl; slips = slips; lie = lie };
  lied = λ found is. absurd (cc (lie, is));
}
