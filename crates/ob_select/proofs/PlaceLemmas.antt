-- The places of all columns.
use Rattle.std.proofs.Common.{◌≡◌, ℕ, zero, suc, ◌+◌, true, List, [], ◌∷◌, ◌++◌, length, refl, sym, ◌∙◌, ap, arith, append-nil, append_assoc}
use Rattle.ob_base.specs.Lists.{each, tabulate, places_from, places_of}

-- the first part in front
each_front : (f : ℕ → List ℕ) (k : ℕ) → each (suc k) f ≡ f 0 ++ each k (λ i. f (suc i))
each_front f zero = sym (append-nil (f 0))
each_front f (suc k) = ap (λ (xs : List ℕ). xs ++ f (suc k)) (each_front f k) ∙ append_assoc (f 0) (each k (λ i. f (suc i))) (f (suc k))

from_all : {A : Type 0} (n : ℕ) (xs : List A) → places_from n (λ _. true) xs ≡ each (length xs) (λ i. (n + i) ∷ [])
from_all n [] = refl
from_all n (x ∷ xs) =
    let here : n ≡ n + 0 = omega arith in
    let later : (i : ℕ) → suc n + i ≡ n + suc i = λ i. omega arith in
    ap (λ (ys : List ℕ). n ∷ ys) (from_all (suc n) xs)
    ∙ (λ t. here t ∷ each (length xs) (λ i. later i t ∷ []))
    ∙ sym (each_front (λ i. (n + i) ∷ []) (length xs))

pub all_places : {A : Type 0} (xs : List A) → places_of (λ _. true) xs ≡ tabulate (length xs) (λ i. i)
all_places xs =
    let same : (i : ℕ) → 0 + i ≡ i = λ i. omega arith in
    from_all 0 xs ∙ (λ t. each (length xs) (λ i. same i t ∷ []))
