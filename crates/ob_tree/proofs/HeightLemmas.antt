-- The tests by heights are the model's.
use Rattle.std.proofs.Common.{◌≡◌, ◌≤◌, ◌<◌, ℕ, zero, suc, ◌-◌, ◌+◌, ◌*◌, ◌/◌, ◌^◌, min, Bool, true, false, cond, ◌==◌, ◌⊎◌, inl, inr, List, [], ◌∷◌, length, take, get_or, replicate, refl, sym, ap, ◌∙◌, subst, arith}
use Rattle.std.specs.Prelude.{filter}
use Rattle.std.specs.List.{All}
use Rattle.std.proofs.lemmas.Bool.{cases_eq, eq-eqb, ne_eqb}
use Rattle.std.proofs.lemmas.List.Elements.{All-head, All-tail, All-cons}
use Rattle.ob_path.specs.Paths.{path_up, is_on_path}
use Rattle.ob_path.specs.Rows.{firsts, except_firsts, first}
use Rattle.ob_path.specs.Access.{fits_by}
use Rattle.ob_tree.specs.Slotwise.{slot_tests, laid_slots, left_behind}
use Rattle.ob_tree.proofs.MeetLemmas.{paths_meet}
use Rattle.ob_tree.proofs.PathLemmas.{length-upward}
use Rattle.ob_tree.specs.Places.{lies_at, tests, InPlace}

-- tests that agree on the rows of a kind
abbrev pub Agree : {R : Type 0} → (R → Type 0) → List (R → Bool) → List (R → Bool) → Type 0
Agree P [] qs = qs ≡ []
Agree P (p ∷ ps) [] = ⊥
Agree {R} P (p ∷ ps) (q ∷ qs) = ((r : R) → P r → p r ≡ q r) × Agree P ps qs

module _ {R : Type 0} (P : R → Type 0) where
  firsts_agree : (p q : R → Bool) → ((r : R) → P r → p r ≡ q r) → (all : List R) → All P all → (filter p all ≡ filter q all) × (except_firsts 1 p all ≡ except_firsts 1 q all)
  firsts_agree p q same [] each = (refl, refl)
  firsts_agree p q same (r ∷ all) each =
      let rest = firsts_agree p q same all (All-tail P r all each) in
      let here : p r ≡ q r = same r (All-head P r all each) in (
        ap (λ b. cond b (r ∷ filter p all) (filter p all)) here ∙ ap (λ w. cond (q r) (r ∷ w) w) rest.0,
        ap (λ b. cond b all (r ∷ except_firsts 1 p all)) here ∙ ap (λ w. cond (q r) all (r ∷ w)) rest.1,
      )

  all_except : (p : R → Bool) (all : List R) → All P all → All P (except_firsts 1 p all)
  all_except p [] each = each
  all_except p (r ∷ all) each = by_test (all_except p all (All-tail P r all each)) (p r)
    where
      by_test : All P (except_firsts 1 p all) → (b : Bool) → All P (cond b all (r ∷ except_firsts 1 p all))
      by_test rest true = All-tail P r all each
      by_test rest false = All-cons P r (except_firsts 1 p all) (All-head P r all each) rest

  pub laid_agree : (ps qs : List (R → Bool)) (all : List R) → Agree P ps qs → All P all → (laid_slots ps all ≡ laid_slots qs all) × (left_behind ps all ≡ left_behind qs all)
  laid_agree [] qs all agree each = (ap (λ w. laid_slots w all) (sym agree), ap (λ w. left_behind w all) (sym agree))
  laid_agree (p ∷ ps) [] all agree each = absurd agree
  laid_agree (p ∷ ps) (q ∷ qs) all agree each =
      let both = firsts_agree p q agree.0 all each in
      let rest = laid_agree ps qs (except_firsts 1 q all) agree.1 (all_except q all each) in (
        ap (λ w. first (take 1 w) ∷ laid_slots ps (except_firsts 1 p all)) both.0 ∙ ap (λ w. first (firsts 1 q all) ∷ laid_slots ps w) both.1 ∙ ap (λ w. first (firsts 1 q all) ∷ w) rest.0,
        ap (left_behind ps) both.1 ∙ rest.1,
      )

eqb_turned : (a b : ℕ) → (a == b) ≡ (b == a)
eqb_turned a b = by_eq (cases_eq a b)
  where
    by_eq : (a ≡ b) ⊎ (a ≡ b → ⊥) → (a == b) ≡ (b == a)
    by_eq (inl same) = eq-eqb a b same ∙ sym (eq-eqb b a (sym same))
    by_eq (inr off) = ne_eqb a b off ∙ sym (ne_eqb b a (λ e. off (sym e)))

small_div : (x m : ℕ) → x < m → x / m ≡ 0
small_div x m less = let some : 0 < m = omega (arith, less) in grind arith

module _ {R : Type 0} (key lf : R → ℕ) (h leaf : ℕ) (leaves : List ℕ) (below : leaf < 2 ^ h) where
  -- at the height of a path's bucket
  height_agrees : (i j b : ℕ) → i / 4 ≡ j → j ≤ h → get_or (path_up h leaf) j 0 ≡ b → (r : R) → InPlace key lf h leaves r → lies_at lf leaf (min (i / 4) h) r ≡ fits_by key h leaves b r
  height_agrees i j b quarter within is r at =
      let level : min (i / 4) h ≡ j = omega (arith, quarter, within) in
      ap (λ k. lies_at lf leaf k r) level
      ∙ eqb_turned ((lf r) / 2 ^ j) (leaf / 2 ^ j)
      ∙ sym (paths_meet h leaf (lf r) j below at.below within)
      ∙ ap (λ c. is_on_path h (lf r) c) is
      ∙ ap (λ l. is_on_path h l b) at.mine

  stash_agrees : (t i : ℕ) → 4 * h ≤ i → Agree (InPlace key lf h leaves) (tests lf leaf h i t) (replicate t (λ row. true))
  stash_agrees zero i high = refl
  stash_agrees (suc t) i high =
      let level : min (i / 4) h ≡ h = omega (arith, high) in (
        (λ r at. ap (λ k. lies_at lf leaf k r) level ∙ eq-eqb ((lf r) / 2 ^ h) (leaf / 2 ^ h) (small_div (lf r) (2 ^ h) at.below ∙ sym (small_div leaf (2 ^ h) below))),
        stash_agrees t (suc i) (omega (arith, high)),
      )

  buckets_agree : (bs : List ℕ) (j t : ℕ) → j + length bs ≡ suc h → ((k : ℕ) → k < length bs → get_or (path_up h leaf) (j + k) 0 ≡ get_or bs k 0)
      → Agree (InPlace key lf h leaves) (tests lf leaf h (4 * j) (4 * length bs + t)) (slot_tests (fits_by key h leaves) bs t)
  buckets_agree [] j t count each =
      let none : 4 * 0 + t ≡ t = omega arith in
      subst (λ n. Agree (InPlace key lf h leaves) (tests lf leaf h (4 * j) n) (replicate t (λ row. true))) (sym none) (stash_agrees t (4 * j) (omega (arith, count)))
  buckets_agree (b ∷ bs) j t count each =
      let four : 4 * suc (length bs) + t ≡ suc (suc (suc (suc (4 * length bs + t)))) = omega arith in
      let on : 4 * suc j ≡ suc (suc (suc (suc (4 * j)))) = omega arith in
      let next : j + 0 ≡ j = omega arith in
      let is : get_or (path_up h leaf) j 0 ≡ b = ap (λ k. get_or (path_up h leaf) k 0) (sym next) ∙ each 0 (omega arith) in
      let within : j ≤ h = omega (arith, count) in
      let rest = subst (λ i. Agree (InPlace key lf h leaves) (tests lf leaf h i (4 * length bs + t)) (slot_tests (fits_by key h leaves) bs t)) on
      (buckets_agree bs (suc j) t (omega (arith, count)) (λ k less. let further : suc j + k ≡ j + suc k = omega arith in ap (λ i. get_or (path_up h leaf) i 0) further ∙ each (suc k) (omega (arith, less)))) in
      subst (λ n. Agree (InPlace key lf h leaves) (tests lf leaf h (4 * j) n) (slot_tests (fits_by key h leaves) (b ∷ bs) t)) (sym four) (
        height_agrees (4 * j) j b (omega arith) within is,
        (height_agrees (suc (4 * j)) j b (omega arith) within is, (height_agrees (suc (suc (4 * j))) j b (omega arith) within is, (height_agrees (suc (suc (suc (4 * j)))) j b (omega arith) within is, rest))),
      )

  pub path_agrees : (t : ℕ) → Agree (InPlace key lf h leaves) (tests lf leaf h 0 (4 * (h + 1) + t)) (slot_tests (fits_by key h leaves) (path_up h leaf) t)
  path_agrees t =
      let size : length (path_up h leaf) ≡ suc h = length-upward (suc h) (2 ^ h - 1 + leaf) in
      let count : 4 * length (path_up h leaf) + t ≡ 4 * (h + 1) + t = omega (arith, size) in
      subst (λ n. Agree (InPlace key lf h leaves) (tests lf leaf h 0 n) (slot_tests (fits_by key h leaves) (path_up h leaf) t)) count
      (buckets_agree (path_up h leaf) 0 t (omega (arith, size)) (λ k less. let same : 0 + k ≡ k = omega arith in ap (λ i. get_or (path_up h leaf) i 0) same))
