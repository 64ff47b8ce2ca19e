-- The rows of a Continuous result are the selected rows, where their places are consecutive.
use Rattle.std.proofs.Common.{◌≡◌, ℕ, suc, zero, ◌+◌, ◌*◌, ◌/◌, ◌%◌, ◌<◌, ◌≤◌, Bool, true, false, List, [], ◌∷◌, ◌++◌, map, length, refl, sym, ◌∙◌, ap, subst, cond, arith}
use Rattle.std.proofs.lemmas.Bool.Decides.{Decides-eqb}
use Rattle.std.proofs.lemmas.Bool.{false_from_ne_true, cases_lt}
use Rattle.std.proofs.lemmas.List.Elements.{filter-append, filter_map-append}
use Rattle.std.proofs.lemmas.Grind.{flat_map-append}
use Rattle.std.proofs.lemmas.List.{map-append}
use Rattle.ob_verdict.proofs.JoinLemmas.{rows-append}
use Rattle.std.proofs.Math.Nat.{mod-add-div, mod-lt, mul-le-mul_left, mul-suc}
use Rattle.std.proofs.Common.{inl, inr}
use Rattle.std.specs.Prelude.{filter, filter_map, flat_map, find, Option, Some, None, ◌==◌, ◌&&◌, ◌||◌, option_to_list}
use Rattle.std.specs.List.{list_any}
use Rattle.std.specs.Option.{option_and_then}
use Rattle.ob_base.specs.Lists.{tabulate, has_repeats}
use Rattle.ob_row.specs.Bags.{Same}
use Rattle.ob_row.specs.Rows.{Row}
use Rattle.ob_row.proofs.BagLemmas.{Same-map, Same-filter_map}
use Rattle.ob_row.proofs.PairLemmas.{by_either}
use Rattle.ob_row.specs.Slots.{Slots, rows, slot_at, selected, is_consecutive}
use Rattle.ob_row.specs.Results.{continuous_slots}
use Rattle.ob_verdict.proofs.ResultLemmas.{rows-small_slots}

both_false : (a b : Bool) → a ≡ false → b ≡ false → (a || b) ≡ false
both_false a b h k = (λ t. h t || b) ∙ k

and_true : (a b : Bool) → (a && b) ≡ true → (a ≡ true) × (b ≡ true)
and_true true b h = (refl, h)
and_true false b h = absurd (cc)

true_is_not_false : true ≡ false → ⊥
true_is_not_false e = cc

-- two numbers less than k apart have different remainders
apart : (k a j : ℕ) → a < j → j < a + k → a % k ≡ j % k → ⊥
apart k a j h l e =
    let ea = mod-add-div a k in
    let ej = mod-add-div j k in
    elim (cases_lt (a / k) (j / k)) as (λ _. ⊥) [
      | inr le ↦ let m = mul-le-mul_left k le in omega arith
      | inl lt ↦ let m : k * suc (a / k) ≤ k * (j / k) = mul-le-mul_left k lt in
          let m' : k * (a / k) + k ≤ k * (j / k) = rw (← mul-suc k (a / k)) m in omega arith
    ]

eq_false : (a b : ℕ) → (a ≡ b → ⊥) → (a == b) ≡ false
eq_false a b h = false_from_ne_true (a == b) (λ e. h ((Decides-eqb a b).0 e))

-- no number of a consecutive list from b on has the remainder of a, where all lie above a and below a + k
none_later : (k a b : ℕ) (is : List ℕ) → a < b → b + length is < a + k → is_consecutive (b ∷ is) ≡ true → list_any (λ j. (a % k) == (j % k)) (b ∷ is) ≡ false
none_later k a b [] h l c = both_false _ _ (eq_false (a % k) (b % k) (apart k a b h (omega arith))) refl
none_later k a b (i ∷ is) h l c =
    let parts = and_true (i == b + 1) (is_consecutive (i ∷ is)) c in
    let next : i ≡ b + 1 = (Decides-eqb i (b + 1)).0 parts.0 in
    both_false _ _ (eq_false (a % k) (b % k) (apart k a b h (omega arith)))
    (none_later k a i is (omega arith) (omega arith) parts.1)

distinct_turns : (k : ℕ) (is : List ℕ) → length is ≤ k → is_consecutive is ≡ true → has_repeats (λ i j. (i % k) == (j % k)) is ≡ false
distinct_turns k [] h c = refl
distinct_turns k (i ∷ []) h c = refl
distinct_turns k (i ∷ j ∷ is) h c =
    let parts = and_true (j == i + 1) (is_consecutive (j ∷ is)) c in
    let next : j ≡ i + 1 = (Decides-eqb j (i + 1)).0 parts.0 in
    both_false _ _ (none_later k i j is (omega arith) (omega arith) parts.1) (distinct_turns k (j ∷ is) (omega arith) parts.1)

none_at : (v n : ℕ) → n ≤ v → filter (λ x. v == x) (tabulate n (λ x. x)) ≡ []
none_at v zero h = refl
none_at v (suc n) h =
    filter-append (λ x. v == x) (tabulate n (λ x. x)) (n ∷ [])
    ∙ (λ t. none_at v n (omega arith) t ++ cond (eq_false v n (λ e. omega arith) t) (n ∷ []) [])

only : (v n : ℕ) → v < n → filter (λ x. v == x) (tabulate n (λ x. x)) ≡ v ∷ []
only v zero h = absurd (omega arith)
only v (suc n) h =
    filter-append (λ x. v == x) (tabulate n (λ x. x)) (n ∷ [])
    ∙ elim (cases_lt v n) as (λ _. filter (λ x. v == x) (tabulate n (λ x. x)) ++ cond (v == n) (n ∷ []) [] ≡ v ∷ []) [
      | inr le ↦ let e : v ≡ n = omega arith in
          (λ t. none_at v n le t ++ cond ((Decides-eqb v n).1 e t) (n ∷ []) []) ∙ ap (λ w. w ∷ []) (sym e)
      | inl lt ↦ (λ t. only v n lt t ++ cond (eq_false v n (λ e. omega arith) t) (n ∷ []) [])
    ]

either_false : (a b : Bool) → (a || b) ≡ false → (a ≡ false) × (b ≡ false)
either_false true b h = absurd (cc)
either_false false b h = (refl, h)

no_more : (k v x : ℕ) (is : List ℕ) → list_any (λ j. v == (j % k)) is ≡ false → v ≡ x → filter (λ i. (i % k) == x) is ≡ []
no_more k v x [] h e = refl
no_more k v x (i ∷ is) h e =
    let n = either_false (v == (i % k)) (list_any (λ j. v == (j % k)) is) h in
    let not_this : ((i % k) == x) ≡ false = eq_false (i % k) x (λ f. absurd (true_is_not_false (sym ((Decides-eqb v (i % k)).1 (e ∙ sym f)) ∙ n.0))) in
    (λ t. cond (not_this t) (i ∷ filter (λ i. (i % k) == x) is) (filter (λ i. (i % k) == x) is)) ∙ no_more k v x is n.1 e

-- a list in which at most one number has each remainder
found_once : (k x : ℕ) (is : List ℕ) → has_repeats (λ i j. (i % k) == (j % k)) is ≡ false → filter (λ i. (i % k) == x) is ≡ option_to_list (find (λ i. (i % k) == x) is)
found_once k x [] h = refl
found_once k x (i ∷ is) h =
    let n = either_false (list_any (λ j. (i % k) == (j % k)) is) (has_repeats (λ i j. (i % k) == (j % k)) is) h in
    let split : (t : Bool) → ((i % k) == x) ≡ t → cond t (i ∷ filter (λ i. (i % k) == x) is) (filter (λ i. (i % k) == x) is) ≡ option_to_list (cond t (Some i) (find (λ i. (i % k) == x) is)) =
    λ t. elim t as (λ t. ((i % k) == x) ≡ t → cond t (i ∷ filter (λ i. (i % k) == x) is) (filter (λ i. (i % k) == x) is) ≡ option_to_list (cond t (Some i) (find (λ i. (i % k) == x) is)))
    [ true ↦ λ e. ap (λ w. i ∷ w) (no_more k (i % k) x is n.0 ((Decides-eqb (i % k) x).0 e)) | false ↦ λ e. found_once k x is n.1 ] in
    split ((i % k) == x) refl

by_number : (k : ℕ) (is : List ℕ) → 0 < k → flat_map (λ i. map (λ _. i) (filter (λ x. (i % k) == x) (tabulate k (λ x. x)))) is ≡ is
by_number k [] h = refl
by_number k (i ∷ is) h = λ t. map (λ _. i) (only (i % k) k (mod-lt i h) t) ++ by_number k is h t

one_option : {A : Type 0} (o : Option A) → map (λ a. a) (option_to_list o) ++ [] ≡ filter_map (λ o. o) (o ∷ [])
one_option None = refl
one_option (Some a) = refl

by_turn : (k n : ℕ) (is : List ℕ) → has_repeats (λ i j. (i % k) == (j % k)) is ≡ false →
    flat_map (λ x. map (λ i. i) (filter (λ i. (i % k) == x) is)) (tabulate n (λ x. x)) ≡ filter_map (λ o. o) (tabulate n (λ x. find (λ i. (i % k) == x) is))
by_turn k zero is h = refl
by_turn k (suc n) is h =
    flat_map-append (λ x. map (λ i. i) (filter (λ i. (i % k) == x) is)) (tabulate n (λ x. x)) (n ∷ [])
    ∙ (λ t. by_turn k n is h t ++ (map (λ i. i) (found_once k n is h t) ++ []))
    ∙ ap (λ w. filter_map (λ o. o) (tabulate n (λ x. find (λ i. (i % k) == x) is)) ++ w) (one_option (find (λ i. (i % k) == n) is))
    ∙ sym (filter_map-append (λ o. o) (tabulate n (λ x. find (λ i. (i % k) == x) is)) (find (λ i. (i % k) == n) is ∷ []))

turns : (k : ℕ) (is : List ℕ) → 0 < k → length is ≤ k → is_consecutive is ≡ true →
    Same is (filter_map (λ o. o) (tabulate k (λ x. find (λ i. (i % k) == x) is)))
turns k is h l c =
    subst (λ w. Same w (filter_map (λ o. o) (tabulate k (λ x. find (λ i. (i % k) == x) is)))) (by_number k is h)
    (subst (λ w. Same (flat_map (λ i. map (λ _. i) (filter (λ x. (i % k) == x) (tabulate k (λ x. x)))) is) w) (by_turn k k is (distinct_turns k is l c))
    (by_either (λ i x. (i % k) == x) (λ i x. i) is (tabulate k (λ x. x))))

rows-turns : (slots : Slots) (f : ℕ → Option ℕ) (n : ℕ) → rows (tabulate n (λ x. option_and_then (slot_at slots) (f x))) ≡ rows (map (slot_at slots) (filter_map (λ o. o) (tabulate n f)))
rows-turns slots f zero = refl
rows-turns slots f (suc n) =
    rows-append (tabulate n (λ x. option_and_then (slot_at slots) (f x))) (option_and_then (slot_at slots) (f n) ∷ [])
    ∙ (λ t. rows-turns slots f n t ++ last_turn (f n) t)
    ∙ sym (rows-append (map (slot_at slots) (filter_map (λ o. o) (tabulate n f))) (map (slot_at slots) (filter_map (λ o. o) (f n ∷ []))))
    ∙ ap rows (sym (map-append (slot_at slots) (filter_map (λ o. o) (tabulate n f)) (filter_map (λ o. o) (f n ∷ []))))
    ∙ ap (λ w. rows (map (slot_at slots) w)) (sym (filter_map-append (λ o. o) (tabulate n f) (f n ∷ []))) where
      last_turn : (o : Option ℕ) → rows (option_and_then (slot_at slots) o ∷ []) ≡ rows (map (slot_at slots) (filter_map (λ o. o) (o ∷ [])))
      last_turn None = refl
      last_turn (Some i) = refl

pub rows-continuous_slots : (k : ℕ) (p : Row → Bool) (slots : Slots) → 0 < k → length (selected p slots) ≤ k → is_consecutive (selected p slots) ≡ true →
    Same (filter p (rows slots)) (rows (continuous_slots k p slots))
rows-continuous_slots k p slots h l c =
    subst (λ w. Same w (rows (continuous_slots k p slots))) (rows-small_slots p slots)
    (subst (λ w. Same (rows (map (slot_at slots) (selected p slots))) w) (sym (rows-turns slots (λ x. find (λ i. (i % k) == x) (selected p slots)) k))
    (Same-filter_map (λ slot. slot) _ _ (Same-map (slot_at slots) _ _ (turns k (selected p slots) h l c))))
