-- Lists of which one element is changed, or the first are taken.
use Rattle.std.proofs.Common.{◌≡◌, ℕ, zero, suc, ◌+◌, ◌<◌, ◌≤◌, List, [], ◌∷◌, ◌++◌, Some, None, length, refl, sym, ◌∙◌, ap, arith}
use Rattle.std.proofs.lemmas.Option.{same_Some}
use Rattle.std.specs.Prelude.{slice_get, slice_set, take}

pub get_set_same : {A : Type 0} (xs : List A) (i : ℕ) (x y : A) → slice_get xs i ≡ Some x → slice_get (slice_set xs i y) i ≡ Some y
get_set_same [] i x y h = cc
get_set_same (z ∷ xs) zero x y h = refl
get_set_same (z ∷ xs) (suc i) x y h = get_set_same xs i x y h

pub get_set_other : {A : Type 0} (xs : List A) (j i : ℕ) (y : A) → (i ≡ j → ⊥) → slice_get (slice_set xs j y) i ≡ slice_get xs i
get_set_other [] j i y off = refl
get_set_other (z ∷ xs) zero zero y off = absurd (off refl)
get_set_other (z ∷ xs) zero (suc i) y off = refl
get_set_other (z ∷ xs) (suc j) zero y off = refl
get_set_other (z ∷ xs) (suc j) (suc i) y off = get_set_other xs j i y (λ e. off (ap suc e))

-- what stands there already changes nothing
pub set_same : {A : Type 0} (xs : List A) (i : ℕ) (x : A) → slice_get xs i ≡ Some x → slice_set xs i x ≡ xs
set_same [] i x h = refl
set_same (z ∷ xs) zero x h = ap (λ (y : _). y ∷ xs) (sym (same_Some z x h))
set_same (z ∷ xs) (suc i) x h = ap (λ (l : List _). z ∷ l) (set_same xs i x h)

pub get_none : {A : Type 0} (xs : List A) (n : ℕ) → slice_get xs n ≡ None → length xs ≤ n
get_none [] n h = omega arith
get_none (x ∷ xs) zero h = cc
get_none (x ∷ xs) (suc n) h = let e = get_none xs n h in omega (arith, e)

pub get_take : {A : Type 0} (xs : List A) (n i : ℕ) → i < n → slice_get (take n xs) i ≡ slice_get xs i
get_take [] zero i h = absurd (omega arith)
get_take [] (suc n) i h = refl
get_take (x ∷ xs) zero i h = absurd (omega arith)
get_take (x ∷ xs) (suc n) zero h = refl
get_take (x ∷ xs) (suc n) (suc i) h = get_take xs n i (omega arith)

pub take_next : {A : Type 0} (xs : List A) (n : ℕ) (x : A) → slice_get xs n ≡ Some x → take (n + 1) xs ≡ take n xs ++ x ∷ []
take_next [] n x h = cc
take_next (z ∷ xs) zero x h = ap (λ (y : _). y ∷ []) (same_Some z x h)
take_next (z ∷ xs) (suc n) x h =
    let e : suc n + 1 ≡ suc (n + 1) = omega arith in
    ap (λ (m : ℕ). take m (z ∷ xs)) e ∙ ap (λ (l : List _). z ∷ l) (take_next xs n x h)
