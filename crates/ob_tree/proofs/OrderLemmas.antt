-- Rows in the order of their keys, and a bucket's rows picked one by one.
use Rattle.std.proofs.Common.{◌≡◌, ◌≤◌, ℕ, zero, suc, Bool, true, false, cond, ◌==◌, ◌⊎◌, inl, inr, List, [], ◌∷◌, ◌++◌, length, refl, sym, ap, ◌∙◌, subst, arith}
use Rattle.std.specs.Prelude.{nat_le}
use Rattle.std.specs.List.{All}
use Rattle.std.proofs.lemmas.Bool.{eq-eqb, cases_Bool, leb-true, leb-false}
use Rattle.std.proofs.lemmas.List.Elements.{All-head, All-tail, All-cons, All-nil}
use Rattle.ob_row.specs.Bags.{Inserts, here, further, Same}
use Rattle.ob_path.specs.Rows.{with_key, put, by_key, firsts, except_firsts, Single}
use Rattle.ob_row.proofs.BagLemmas.{Same-refl, Same-filter, Same-put_in}
use Rattle.ob_tree.proofs.RowLemmas.{Same-by_key}

pub length-Inserts : {A : Type 0} {x : A} {rest whole : List A} → Inserts x rest whole → length whole ≡ suc (length rest)
length-Inserts here = refl
length-Inserts (further i) = ap suc (length-Inserts i)

pub length-Same : {A : Type 0} (xs ys : List A) → Same xs ys → length xs ≡ length ys
length-Same [] ys s = ap length (sym s)
length-Same (x ∷ xs) ys s = ap suc (length-Same xs s.0 s.2) ∙ sym (length-Inserts s.1)

All-inserted : {A : Type 0} (P : A → Type 0) {x : A} {rest : List A} (whole : List A) → Inserts x rest whole → All P whole → P x × All P rest
All-inserted P whole here each = (All-head P _ _ each, All-tail P _ _ each)
All-inserted P whole (further {y} {rest} {whole = more} i) each =
    let both = All-inserted P more i (All-tail P y more each) in (both.0, All-cons P y rest (All-head P y more each) both.1)

pub All-Same : {A : Type 0} (P : A → Type 0) (xs ys : List A) → Same xs ys → All P ys → All P xs
All-Same P [] ys s each = All-nil P
All-Same P (x ∷ xs) ys s each = let both = All-inserted P ys s.1 each in All-cons P x xs both.0 (All-Same P xs s.0 s.2 both.1)

module _ {R : Type 0} (key : R → ℕ) where
  pub Single-Same : (xs ys : List R) → Same xs ys → Single key xs → Single key ys
  Single-Same xs ys s single k = omega (arith, single k, length-Same (with_key key k xs) (with_key key k ys) (Same-filter (λ r. key r == k) xs ys s))

  -- one row less, and its key is none of the others'
  pub Single-tail : (r : R) (all : List R) → Single key (r ∷ all) → Single key all
  Single-tail r all single k = by_test (cases_Bool (key r == k))
    where
      by_test : ((key r == k) ≡ true) ⊎ ((key r == k) ≡ false) → length (with_key key k all) ≤ 1
      by_test (inl is) =
          let both : suc (length (with_key key k all)) ≤ 1 = subst (λ b. length (cond b (r ∷ with_key key k all) (with_key key k all)) ≤ 1) is (single k) in
          omega (arith, both)
      by_test (inr off) = subst (λ b. length (cond b (r ∷ with_key key k all) (with_key key k all)) ≤ 1) off (single k)

  -- two rows of different keys are put in either way round
  put_both : (a b : R) (all : List R) → (key a ≡ key b → ⊥) → put key a (put key b all) ≡ put key b (put key a all)
  put_both a b [] off = by_tests (cases_Bool (nat_le (key a) (key b))) (cases_Bool (nat_le (key b) (key a)))
    where
      by_tests : ((nat_le (key a) (key b) ≡ true) ⊎ (nat_le (key a) (key b) ≡ false)) → ((nat_le (key b) (key a) ≡ true) ⊎ (nat_le (key b) (key a) ≡ false)) → put key a (b ∷ []) ≡ put key b (a ∷ [])
      by_tests (inl ab) (inl ba) = absurd (off (let e : key a ≡ key b = omega (arith, leb-true (key a) (key b) ab, leb-true (key b) (key a) ba) in e))
      by_tests (inl ab) (inr ba) = rw (ab, ba) refl
      by_tests (inr ab) (inl ba) = rw (ab, ba) refl
      by_tests (inr ab) (inr ba) = absurd (omega (arith, leb-false (key a) (key b) ab, leb-false (key b) (key a) ba))
  put_both a b (x ∷ all) off = by_tests (put_both a b all off) (cases_Bool (nat_le (key a) (key x))) (cases_Bool (nat_le (key b) (key x))) (cases_Bool (nat_le (key a) (key b))) (cases_Bool (nat_le (key b) (key a)))
    where
      by_tests : put key a (put key b all) ≡ put key b (put key a all)
          → ((nat_le (key a) (key x) ≡ true) ⊎ (nat_le (key a) (key x) ≡ false)) → ((nat_le (key b) (key x) ≡ true) ⊎ (nat_le (key b) (key x) ≡ false))
          → ((nat_le (key a) (key b) ≡ true) ⊎ (nat_le (key a) (key b) ≡ false)) → ((nat_le (key b) (key a) ≡ true) ⊎ (nat_le (key b) (key a) ≡ false))
          → put key a (put key b (x ∷ all)) ≡ put key b (put key a (x ∷ all))
      by_tests rest ax bx (inl ab) (inl ba) = absurd (off (let e : key a ≡ key b = omega (arith, leb-true (key a) (key b) ab, leb-true (key b) (key a) ba) in e))
      by_tests rest ax bx (inr ab) (inr ba) = absurd (omega (arith, leb-false (key a) (key b) ab, leb-false (key b) (key a) ba))
      by_tests rest (inl ax) (inl bx) (inl ab) (inr ba) = simp (ax, bx, ab, ba)
      by_tests rest (inl ax) (inl bx) (inr ab) (inl ba) = simp (ax, bx, ab, ba)
      by_tests rest (inl ax) (inr bx) (inl ab) (inr ba) = simp (ax, bx, ab, ba)
      by_tests rest (inl ax) (inr bx) (inr ab) (inl ba) = absurd (omega (arith, leb-true (key a) (key x) ax, leb-false (key b) (key x) bx, leb-true (key b) (key a) ba))
      by_tests rest (inr ax) (inl bx) (inl ab) (inr ba) = absurd (omega (arith, leb-false (key a) (key x) ax, leb-true (key b) (key x) bx, leb-true (key a) (key b) ab))
      by_tests rest (inr ax) (inl bx) (inr ab) (inl ba) = simp (ax, bx, ab, ba)
      by_tests rest (inr ax) (inr bx) ab ba = simp (ax, bx) (ap (λ w. x ∷ w) rest)

  others_differ : (x y : R) (all : List R) {rest : List R} → Inserts x rest all → Single key (y ∷ all) → key y ≡ key x → ⊥
  others_differ x y all {rest} i single same =
      let s : Same all (x ∷ rest) = Same-put_in rest i (Same-refl rest) in
      let here' : (key y == key x) ≡ true = eq-eqb (key y) (key x) same in
      let itself : (key x == key x) ≡ true = eq-eqb (key x) (key x) refl in
      let e : length (with_key key (key x) all) ≡ suc (length (with_key key (key x) rest)) =
      length-Same (with_key key (key x) all) (with_key key (key x) (x ∷ rest)) (Same-filter (λ r. key r == key x) all (x ∷ rest) s)
      ∙ ap (λ b. length (cond b (x ∷ with_key key (key x) rest) (with_key key (key x) rest))) itself in
      let two : suc (length (with_key key (key x) all)) ≤ 1 = subst (λ b. length (cond b (y ∷ with_key key (key x) all) (with_key key (key x) all)) ≤ 1) here' (single (key x)) in
      omega (arith, two, e)

  by_key-Inserts : (x : R) {rest : List R} (all : List R) → Inserts x rest all → Single key all → by_key key all ≡ put key x (by_key key rest)
  by_key-Inserts x all here single = refl
  by_key-Inserts x all (further {y} {rest} {whole} i) single =
      ap (put key y) (by_key-Inserts x whole i (Single-tail y whole single))
      ∙ put_both y x (by_key key rest) (others_differ x y whole i single)

  -- the order in which rows are taken is of no account
  pub by_key-Same : (xs ys : List R) → Single key xs → Same xs ys → by_key key xs ≡ by_key key ys
  by_key-Same [] ys single s = ap (by_key key) (sym s)
  by_key-Same (x ∷ xs) ys single s =
      ap (put key x) (by_key-Same xs s.0 (Single-tail x xs single) s.2)
      ∙ sym (by_key-Inserts x ys s.1 (Single-Same (x ∷ xs) ys s single))

  -- the least row that passes is the first of a list into which it is put
  put_first : (p : R → Bool) (r : R) (all : List R) → p r ≡ true → All (λ x. p x ≡ true → key r ≤ key x) all → (firsts 1 p (put key r all) ≡ r ∷ []) × (except_firsts 1 p (put key r all) ≡ all)
  put_first p r [] passes each = (rw passes refl, rw passes refl)
  put_first p r (x ∷ all) passes each = by_tests (put_first p r all passes (All-tail (λ x. p x ≡ true → key r ≤ key x) x all each)) (cases_Bool (nat_le (key r) (key x))) (cases_Bool (p x))
    where
      by_tests : ((firsts 1 p (put key r all) ≡ r ∷ []) × (except_firsts 1 p (put key r all) ≡ all)) → ((nat_le (key r) (key x) ≡ true) ⊎ (nat_le (key r) (key x) ≡ false)) → ((p x ≡ true) ⊎ (p x ≡ false))
          → (firsts 1 p (put key r (x ∷ all)) ≡ r ∷ []) × (except_firsts 1 p (put key r (x ∷ all)) ≡ x ∷ all)
      by_tests rest (inl before) px = (rw before (rw passes refl), rw before (rw passes refl))
      by_tests rest (inr behind) (inl px) = absurd (omega (arith, leb-false (key r) (key x) behind, All-head (λ x. p x ≡ true → key r ≤ key x) x all each px))
      by_tests rest (inr behind) (inr px) = (rw behind (rw px rest.0), rw behind (rw px (ap (λ w. x ∷ w) rest.1)))

  pub least_first : (p : R → Bool) (r : R) (rest all : List R) → Single key all → Same all (r ∷ rest) → p r ≡ true → All (λ x. p x ≡ true → key r ≤ key x) rest
      → (firsts 1 p (by_key key all) ≡ r ∷ []) × (except_firsts 1 p (by_key key all) ≡ by_key key rest)
  least_first p r rest all single s passes each =
      subst (λ w. (firsts 1 p w ≡ r ∷ []) × (except_firsts 1 p w ≡ by_key key rest)) (sym (by_key-Same all (r ∷ rest) single s))
      (put_first p r (by_key key rest) passes (All-Same (λ x. p x ≡ true → key r ≤ key x) (by_key key rest) rest (Same-by_key key rest) each))

module _ {R : Type 0} (p : R → Bool) where
  none_passes : (n : ℕ) (all : List R) → All (λ r. p r ≡ false) all → (firsts n p all ≡ []) × (except_firsts n p all ≡ all)
  none_passes zero all each = (refl, refl)
  none_passes (suc n) [] each = (refl, refl)
  none_passes (suc n) (r ∷ all) each =
      let not_so : p r ≡ false = All-head (λ r. p r ≡ false) r all each in
      let rest = none_passes (suc n) all (All-tail (λ r. p r ≡ false) r all each) in
      (rw not_so rest.0, rw not_so (ap (λ w. r ∷ w) rest.1))

  pub none_first : (key : R → ℕ) (n : ℕ) (all : List R) → All (λ r. p r ≡ false) all → (firsts n p (by_key key all) ≡ []) × (except_firsts n p (by_key key all) ≡ by_key key all)
  none_first key n all each = none_passes n (by_key key all) (All-Same (λ r. p r ≡ false) (by_key key all) all (Same-by_key key all) each)

  -- one row, and then the others
  pub one_by_one : (n : ℕ) (all : List R) → (firsts (suc n) p all ≡ firsts 1 p all ++ firsts n p (except_firsts 1 p all)) × (except_firsts (suc n) p all ≡ except_firsts n p (except_firsts 1 p all))
  one_by_one zero [] = (refl, refl)
  one_by_one (suc n) [] = (refl, refl)
  one_by_one n (r ∷ all) = by_test (one_by_one n all) (cases_Bool (p r))
    where
      by_test : ((firsts (suc n) p all ≡ firsts 1 p all ++ firsts n p (except_firsts 1 p all)) × (except_firsts (suc n) p all ≡ except_firsts n p (except_firsts 1 p all))) → ((p r ≡ true) ⊎ (p r ≡ false))
          → (firsts (suc n) p (r ∷ all) ≡ firsts 1 p (r ∷ all) ++ firsts n p (except_firsts 1 p (r ∷ all))) × (except_firsts (suc n) p (r ∷ all) ≡ except_firsts n p (except_firsts 1 p (r ∷ all)))
      by_test rest (inl passes) = (rw passes refl, rw passes refl)
      by_test rest (inr fails) = (rw fails (rw fails rest.0), rw fails (by_count n rest.1))
        where
          by_count : (n : ℕ) → except_firsts (suc n) p all ≡ except_firsts n p (except_firsts 1 p all) → r ∷ except_firsts (suc n) p all ≡ except_firsts n p (r ∷ except_firsts 1 p all)
          by_count zero e = refl
          by_count (suc k) e = rw fails (ap (λ w. r ∷ w) e)
