-- Buckets and stash slot by slot.
use Rattle.std.proofs.Common.{◌≡◌, ◌≤◌, ℕ, zero, suc, ◌-◌, Bool, true, false, ◌⊎◌, inl, inr, List, [], ◌∷◌, ◌++◌, Some, None, length, map, replicate, refl, sym, ap, ◌∙◌, arith}
use Rattle.std.specs.Prelude.{filter}
use Rattle.std.proofs.lemmas.Bool.{cases_Bool}
use Rattle.std.proofs.lemmas.List.{append-nil}
use Rattle.ob_path.specs.Rows.{slots_of, firsts, except_firsts, first}
use Rattle.ob_path.specs.Access.{Evicted, fill, evict}
use Rattle.ob_tree.specs.Slotwise.{laid, slot_tests, laid_slots, left_behind}
use Rattle.ob_tree.proofs.OrderLemmas.{one_by_one}

-- one row is the first that passes, or none passes
pub one_or_none : {R : Type 0} (p : R → Bool) (all : List R) → ((r : R) × (firsts 1 p all ≡ r ∷ [])) ⊎ ((firsts 1 p all ≡ []) × ((n : ℕ) → firsts n p all ≡ []) × ((n : ℕ) → except_firsts n p all ≡ all))
one_or_none p [] = inr (refl, none, none_except)
  where
    none : (n : ℕ) → firsts n p [] ≡ []
    none zero = refl
    none (suc n) = refl

    none_except : (n : ℕ) → except_firsts n p [] ≡ []
    none_except zero = refl
    none_except (suc n) = refl
one_or_none {R} p (r ∷ all) = by_test (one_or_none p all) (cases_Bool (p r))
  where
    by_test : (((x : R) × (firsts 1 p all ≡ x ∷ [])) ⊎ ((firsts 1 p all ≡ []) × ((n : ℕ) → firsts n p all ≡ []) × ((n : ℕ) → except_firsts n p all ≡ all))) → ((p r ≡ true) ⊎ (p r ≡ false))
        → (((x : R) × (firsts 1 p (r ∷ all) ≡ x ∷ [])) ⊎ ((firsts 1 p (r ∷ all) ≡ []) × ((n : ℕ) → firsts n p (r ∷ all) ≡ []) × ((n : ℕ) → except_firsts n p (r ∷ all) ≡ r ∷ all)))
    by_test rest (inl passes) = inl (r, (rw passes refl))
    by_test (inl found) (inr fails) = inl (found.0, (rw fails found.1))
    by_test (inr none) (inr fails) = inr ((rw fails none.0), (λ n. rw fails (none.1 n)), others)
      where
        others : (n : ℕ) → except_firsts n p (r ∷ all) ≡ r ∷ all
        others zero = refl
        others (suc n) = rw fails (ap (λ w. r ∷ w) (none.2 (suc n)))

slots_none : {R : Type 0} (n : ℕ) → slots_of {R = R} n [] ≡ replicate n None
slots_none n = let all : n - 0 ≡ n = omega arith in ap (λ k. replicate k None) all

-- a bucket's next slot
slots_next : {R : Type 0} (n : ℕ) (p : R → Bool) (all : List R) → slots_of (suc n) (firsts (suc n) p all) ≡ first (firsts 1 p all) ∷ slots_of n (firsts n p (except_firsts 1 p all))
slots_next {R} n p all = by_first (one_or_none p all)
  where
    by_first : (((r : R) × (firsts 1 p all ≡ r ∷ [])) ⊎ ((firsts 1 p all ≡ []) × ((n : ℕ) → firsts n p all ≡ []) × ((n : ℕ) → except_firsts n p all ≡ all))) → slots_of (suc n) (firsts (suc n) p all) ≡ first (firsts 1 p all) ∷ slots_of n (firsts n p (except_firsts 1 p all))
    by_first (inl found) =
        let rest = firsts n p (except_firsts 1 p all) in
        let whole : firsts (suc n) p all ≡ found.0 ∷ rest = (one_by_one p n all).0 ∙ ap (λ w. w ++ rest) found.1 in
        let fewer : suc n - suc (length rest) ≡ n - length rest = omega arith in
        ap (slots_of (suc n)) whole ∙ ap (λ k. Some found.0 ∷ (map (λ row. Some row) rest ++ replicate k None)) fewer ∙ ap (λ w. first w ∷ slots_of n rest) (sym found.1)
    by_first (inr none) =
        let rest : firsts n p (except_firsts 1 p all) ≡ [] = ap (firsts n p) (none.2 1) ∙ none.1 n in
        ap (slots_of (suc n)) (none.1 (suc n)) ∙ slots_none (suc n) ∙ ap (λ w. None ∷ w) (sym (slots_none n)) ∙ ap (λ w. None ∷ slots_of n w) (sym rest) ∙ ap (λ w. first w ∷ slots_of n (firsts n p (except_firsts 1 p all))) (sym none.0)

-- all its slots
bucket_slots : {R : Type 0} (n : ℕ) (p : R → Bool) (ps : List (R → Bool)) (all : List R)
    → (laid_slots (replicate n p ++ ps) all ≡ slots_of n (firsts n p all) ++ laid_slots ps (except_firsts n p all)) × (left_behind (replicate n p ++ ps) all ≡ left_behind ps (except_firsts n p all))
bucket_slots zero p ps all = (refl, refl)
bucket_slots (suc n) p ps all =
    let rest = bucket_slots n p ps (except_firsts 1 p all) in
    let more = one_by_one p n all in (
      ap (λ w. first (firsts 1 p all) ∷ w) rest.0 ∙ ap (λ w. (first (firsts 1 p all) ∷ slots_of n (firsts n p (except_firsts 1 p all))) ++ laid_slots ps w) (sym more.1)
          ∙ ap (λ w. w ++ laid_slots ps (except_firsts (suc n) p all)) (sym (slots_next n p all)),
      rest.1 ∙ ap (left_behind ps) (sym more.1),
    )

filter_all : {R : Type 0} (all : List R) → filter (λ row. true) all ≡ all
filter_all [] = refl
filter_all (r ∷ all) = ap (λ w. r ∷ w) (filter_all all)

take_whole : {R : Type 0} (n : ℕ) (all : List R) → length all ≤ n → firsts n (λ row. true) all ≡ all
take_whole zero [] h = refl
take_whole zero (r ∷ all) h = absurd (omega (arith, h))
take_whole (suc n) [] h = refl
take_whole (suc n) (r ∷ all) h = ap (λ w. r ∷ w) (take_whole n all (omega (arith, h)))

none_behind : {R : Type 0} (n : ℕ) (all : List R) → length (except_firsts n (λ row. true) all) ≡ length all - n
none_behind zero all = omega arith
none_behind (suc n) [] = omega arith
none_behind (suc n) (r ∷ all) = none_behind n all ∙ omega arith

-- buckets and stash have their rows slot by slot, where the rows left fit the stash
pub laid_by_slots : {R : Type 0} (fits : ℕ → R → Bool) (bs : List ℕ) (t : ℕ) (e : Evicted R) → length (evict fits bs e).left ≤ t → laid_slots (slot_tests fits bs t) e.left ≡ laid fits bs t e.left
laid_by_slots fits [] t e h =
    ap (λ w. laid_slots w e.left) (sym (append-nil (replicate t (λ row. true))))
    ∙ (bucket_slots t (λ row. true) [] e.left).0
    ∙ append-nil (slots_of t (firsts t (λ row. true) e.left))
    ∙ ap (slots_of t) (take_whole t e.left h)
laid_by_slots fits (b ∷ bs) t e h =
    (bucket_slots 4 (fits b) (slot_tests fits bs t) e.left).0
    ∙ ap (λ w. slots_of 4 (firsts 4 (fits b) e.left) ++ w) (laid_by_slots fits bs t (fill fits b e) h)

-- and then as many rows are left behind as the stash has no slot for
pub behind_by_slots : {R : Type 0} (fits : ℕ → R → Bool) (bs : List ℕ) (t : ℕ) (e : Evicted R) → length (left_behind (slot_tests fits bs t) e.left) ≡ length (evict fits bs e).left - t
behind_by_slots fits [] t e =
    ap (λ w. length (left_behind w e.left)) (sym (append-nil (replicate t (λ row. true))))
    ∙ ap length ((bucket_slots t (λ row. true) [] e.left).1)
    ∙ none_behind t e.left
behind_by_slots fits (b ∷ bs) t e =
    ap length ((bucket_slots 4 (fits b) (slot_tests fits bs t) e.left).1) ∙ behind_by_slots fits bs t (fill fits b e)
