-- What holds of a store after one access more.
use Rattle.std.proofs.Common.{◌≡◌, ◌≢◌, ◌⊎◌, inl, inr, ℕ, suc, ◌+◌, Bool, List, [], ◌∷◌, ◌++◌, true, Option, Some, None, length, refl, ap, ◌∙◌, sym, rules, arith}
use Rattle.std.proofs.lemmas.Bool.Decides.{nat_tests}
use Rattle.std.specs.Prelude.{Result, Ok, Err, OnOk, OnErr, if◌then◌else◌}
use Rattle.ob_base.specs.declared.fault.NoMemory.{NoMemory}
use Rattle.std.specs.Ordering.{nat_cmp}
use Rattle.std.specs.BTreeMap.{BTreeMap, btree_map_len, is_at}
use Rattle.std.specs.BTreeSet.{BTreeSet}
use Rattle.std.specs.Map.{lookup}
use Rattle.ob_base.specs.declared.access.Access.{Access}
use Rattle.ob_meddle.specs.declared.meddle.Meddle.{Meddle}
use Rattle.ob_meddle.specs.declared.region.Region.{Region}
use Rattle.ob_meddle.specs.declared.caught.Caught.{Caught}
use Rattle.ob_meddle.specs.Held.{Rest}
use Rattle.ob_meddle.specs.Acts.{RegionRests, Stands, rest_at, rests_of, stands_of, after_acts}
use Rattle.ob_meddle.specs.Regions.{kept_at, last_at}
use Rattle.ob_meddle.specs.Due.{fails_at, failed_among}
use Rattle.ob_meddle.specs.Fresh.{IsFresh, IsHonest, IsEarly}
use Rattle.ob_meddle.proofs.DueLemmas.{more_asked, failed_more, acted_later, none_due}

module _ (list : List Meddle) (old more : List Access) (a : Access) (e : more ≡ old ++ a ∷ []) where
  one_more : length more ≡ suc (length old)
  one_more = ap length e ∙ more_asked old a

  pub fresh_more : (usable : BTreeSet ℕ) → IsFresh more usable
  fresh_more usable = rw e (go old) where
    go : (asked : List Access) → IsFresh (asked ++ a ∷ []) usable
    go [] = search rules
    go (x ∷ xs) = search rules

  pub counted_more : (count : ℕ) (b : Bool) → count ≡ failed_among list (length old) → b ≡ fails_at list (length more) → count + (if b then 1 else 0) ≡ failed_among list (length more)
  counted_more count b is fails =
      ap (λ (n : ℕ). n + (if b then 1 else 0)) is ∙ ap (λ (f : Bool). failed_among list (length old) + (if f then 1 else 0)) fails
      ∙ sym (failed_more list (length old) (length more) one_more)

  pub honest_more : (before after : BTreeMap ℕ Region) → IsHonest list (length old) before → rests_of after ≡ rests_of before
      → stands_of after ≡ after_acts (rests_of before) list (length more) (stands_of before) → IsHonest list (length more) after
  honest_more before after honest rests stands = λ none q x block is.
      let still = acted_later list (length old) (length more) (omega (arith, one_more)) none in
      ap (λ (s : Stands). s q x) (stands ∙ none_due (rests_of before) list (length more) (stands_of before) (omega (arith, one_more)) none)
      ∙ honest still q x block (ap (λ (r : RegionRests). last_at (r q) x) (sym rests) ∙ is)

  pub early_more : (caught : Option Caught) → IsEarly caught old → IsEarly caught more
  early_more caught early = λ c is. let before = early c is in omega (arith, one_more)

-- ---- before the first access
pub fresh_none : (asked : List Access) (usable : BTreeSet ℕ) → asked ≡ [] → usable.keys ≡ [] → IsFresh asked usable
fresh_none asked usable none empty = rw none (rw empty (search rules))

pub counted_none : (list : List Meddle) (asked : List Access) → asked ≡ [] → 0 ≡ failed_among list (length asked)
unfolding failed_among
counted_none list asked none = rw none refl

pub honest_none : (list : List Meddle) (asked : List Access) (regions : BTreeMap ℕ Region) → regions.entries ≡ [] → IsHonest list (length asked) regions
honest_none list asked regions empty = λ quiet q x block is.
    let none : rests_of regions q ≡ None = ap (λ (entries : List (ℕ × Region)). rest_at (lookup (is_at (nat_cmp q)) entries)) empty in
    absurd (cc (is, ap (λ (r : Option Rest). last_at r x) none))

-- ---- where the engine adds a region
same_or_other : (q r : ℕ) → (q ≡ r) ⊎ (q ≢ r)
same_or_other q r = grind arith

unwritten : (made : Rest) (x : ℕ) → made.last x ≡ None → last_at (Some made) x ≡ None
unwritten made x none = grind arith

pub honest_added : {T : Type 0} (list : List Meddle) (count region : ℕ) (before after : BTreeMap ℕ Region) (made : Rest) (result : Result T NoMemory)
    → OnOk result (rests_of after region ≡ Some made) → ((x : ℕ) → made.last x ≡ None)
    → OnOk result ((q : ℕ) → q ≢ region → rests_of after q ≡ rests_of before q) → OnOk result ((q x : ℕ) → q ≢ region → stands_of after q x ≡ stands_of before q x)
    → OnErr result ((q : ℕ) → rests_of after q ≡ rests_of before q) → OnErr result ((q x : ℕ) → stands_of after q x ≡ stands_of before q x)
    → IsHonest list count before → IsHonest list count after
honest_added list count region before after made (Ok t) here empty others stands none stay honest = λ quiet q x block is. elim (same_or_other q region) [
  | inl same ↦ absurd (cc (is, ap (λ (n : ℕ). last_at (rests_of after n) x) same, ap (λ (r : Option Rest). last_at r x) here, unwritten made x (empty x)))
  | inr off ↦ stands q x off ∙ honest quiet q x block (ap (λ (r : Option Rest). last_at r x) (sym (others q off)) ∙ is)
]
honest_added list count region before after made (Err e) here empty others stands none stay honest = λ quiet q x block is.
    stay q x ∙ honest quiet q x block (ap (λ (r : Option Rest). last_at r x) (sym (none q)) ∙ is)

-- ---- where no region is kept
finds_itself : (q : ℕ) → is_at (nat_cmp q) q ≡ true
finds_itself q = grind (arith, nat_tests)

none_first : (entries : List (ℕ × Region)) → ((q : ℕ) → kept_at (rest_at (lookup (is_at (nat_cmp q)) entries)) ≡ None) → length entries ≡ 0
none_first [] none = refl
none_first (e ∷ rest) none = absurd (cc (none e.0, finds_itself e.0))

pub none_kept : (regions : BTreeMap ℕ Region) → ((q : ℕ) → kept_at (rests_of regions q) ≡ None) → btree_map_len regions ≡ 0
none_kept regions none = none_first regions.entries none
