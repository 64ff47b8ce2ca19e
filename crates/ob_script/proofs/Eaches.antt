-- What stands at a place of joined lists.
use Rattle.std.proofs.Common.{◌≡◌, ℕ, zero, suc, ◌+◌, ◌-◌, ◌*◌, ◌/◌, ◌%◌, ◌<◌, ◌≤◌, List, [], ◌∷◌, ◌++◌, length, refl, sym, ◌∙◌, ap, subst, inl, inr, ◌⊎◌, arith}
use Rattle.std.proofs.lemmas.Bool.{cases_eq, cases_lt}
use Rattle.std.specs.Prelude.{Some, slice_get}
use Rattle.std.proofs.lemmas.List.{length-append}
use Rattle.std.proofs.Math.Nat.{zero-mul, suc-mul, div-lt_iff_lt-mul, le-div_iff_mul-le, mod-eq-sub-div-mul, div-mul-le_self, mod-lt}
use Rattle.ob_base.specs.Lists.{each}

pub at_front : {A : Type 0} (xs ys : List A) (i : ℕ) (x : A) → slice_get xs i ≡ Some x → slice_get (xs ++ ys) i ≡ Some x
at_front [] ys i x h = cc
at_front (y ∷ xs) ys zero x h = h
at_front (y ∷ xs) ys (suc i) x h = at_front xs ys i x h

at_back_of : {A : Type 0} (xs ys : List A) (j : ℕ) → slice_get (xs ++ ys) (length xs + j) ≡ slice_get ys j
at_back_of [] ys j = ap (slice_get ys) (omega arith)
at_back_of (y ∷ xs) ys j = let e : suc (length xs) + j ≡ suc (length xs + j) = omega arith in ap (slice_get (y ∷ (xs ++ ys))) e ∙ at_back_of xs ys j

pub at_back : {A : Type 0} (xs ys : List A) (i j : ℕ) (x : A) → i ≡ length xs + j → slice_get ys j ≡ Some x → slice_get (xs ++ ys) i ≡ Some x
at_back xs ys i j x e h = ap (slice_get (xs ++ ys)) e ∙ at_back_of xs ys j ∙ h

-- all of one length but the last
pub length-even : {A : Type 0} (n m : ℕ) (f : ℕ → List A) → ((v : ℕ) → v < n → length (f v) ≡ m) → length (each n f) ≡ n * m
length-even zero m f h = sym (zero-mul m)
length-even (suc n) m f h =
    length-append (each n f) (f n) ∙ (λ t. length-even n m f (λ v k. h v (omega arith)) t + h n (omega arith) t) ∙ sym (suc-mul n m)

-- the place r of part u
pub at_each : {A : Type 0} (f : ℕ → List A) (n m u r i : ℕ) (x : A) → ((v : ℕ) → v < u → length (f v) ≡ m) → u < n → i ≡ u * m + r →
    slice_get (f u) r ≡ Some x → slice_get (each n f) i ≡ Some x
at_each f zero m u r i x h l e k = absurd (omega arith)
at_each f (suc n) m u r i x h l e k = elim (cases_eq u n) [
  | inl here ↦ at_back (each n f) (f n) i r x (e ∙ ap (λ w. w + r) (ap (λ w. w * m) here ∙ sym (length-even n m f (λ v b. h v (omega arith))))) (ap (λ w. slice_get (f w) r) (sym here) ∙ k)
  | inr other ↦ at_front (each n f) (f n) i x (at_each f n m u r i x h (omega arith) e k)
]

pub record Within {A : Type 0} (f : ℕ → List A) (n m i : ℕ) : Type 0 where
  pub part : i / m < n
  pub place : i % m < length (f (i / m))
  pub is : i ≡ i / m * m + i % m

-- a place of the whole is one of a part
pub within_each : {A : Type 0} (f : ℕ → List A) (n m i : ℕ) → 0 < m → ((v : ℕ) → v + 1 < n → length (f v) ≡ m) →
    ((v : ℕ) → v < n → length (f v) ≤ m) → i < length (each n f) → Within f n m i
within_each f zero m i pos even most l = absurd (omega arith)
within_each {A} f (suc n) m i pos even most l = go (cases_lt i (n * m))
  where
    front : length (each n f) ≡ n * m
    front = length-even n m f (λ v b. even v (omega arith))

    all : i < n * m + length (f n)
    all = let e = length-append (each n f) (f n) in omega (arith, front)

    parts : i ≡ i / m * m + i % m
    parts = let a = mod-eq-sub-div-mul i m in let b = div-mul-le_self i m in omega arith

    go : (i < n * m) ⊎ (n * m ≤ i) → Within f (suc n) m i
    go (inl h) =
        let low : i / m < n = (div-lt_iff_lt-mul {k = m} {x = i} {y = n} pos).1 h in
        let w : length (f (i / m)) ≡ m = even (i / m) (omega arith) in
        record { part = omega arith; place = omega (arith, mod-lt i {m = m} pos); is = parts }
    go (inr h) =
        let most_n = most n (omega arith) in
        let top : i < suc n * m = let e = suc-mul n m in omega (arith, all) in
        let high : i / m < suc n = (div-lt_iff_lt-mul {k = m} {x = i} {y = suc n} pos).1 top in
        let low : n ≤ i / m = (le-div_iff_mul-le {k = m} {x = n} {y = i} pos).1 h in
        let u : i / m ≡ n = omega arith in
        let lower : i ≡ n * m + i % m = parts ∙ ap (λ w. w * m + i % m) u in
        record { part = high; place = subst (λ w. i % m < length (f w)) (sym u) (omega (arith, all)); is = parts }

pub get_front : {A : Type 0} (xs ys : List A) (i : ℕ) → i < length xs → slice_get (xs ++ ys) i ≡ slice_get xs i
get_front [] ys i h = absurd (omega arith)
get_front (y ∷ xs) ys zero h = refl
get_front (y ∷ xs) ys (suc i) h = get_front xs ys i (omega arith)

pub get_back : {A : Type 0} (xs ys : List A) (i : ℕ) → length xs ≤ i → slice_get (xs ++ ys) i ≡ slice_get ys (i - length xs)
get_back xs ys i h = let e : i ≡ length xs + (i - length xs) = omega arith in ap (slice_get (xs ++ ys)) e ∙ at_back_of xs ys (i - length xs)
