-- Places of columns.
use Rattle.std.proofs.Common.{◌≡◌, ℕ, suc, ◌+◌, true, List, [], ◌∷◌, ◌++◌, length, map, sym, ◌∙◌, ap, arith}
use Rattle.std.proofs.Math.Numerals.{add-one}
use Rattle.std.proofs.lemmas.List.{map-append}
use Rattle.ob_base.specs.Lists.{places_from, places_of}

pub map_append : {A B : Type 0} (f : A → B) (xs ys : List A) → map f (xs ++ ys) ≡ map f xs ++ map f ys
map_append f xs ys = map-append f xs ys

pub places_next : {A : Type 0} (n : ℕ) (x : A) (xs : List A) → places_from n (λ (_ : A). true) (x ∷ xs) ≡ n ∷ places_from (n + 1) (λ (_ : A). true) xs
places_next n x xs = ap (λ m. n ∷ places_from m (λ _. true) xs) (sym (add-one n))

places_behind : {A : Type 0} (n : ℕ) (xs ys : List A) → places_from n (λ (_ : A). true) (xs ++ ys) ≡ places_from n (λ (_ : A). true) xs ++ places_from (n + length xs) (λ (_ : A). true) ys
places_behind n [] ys = ap (λ m. places_from m (λ _. true) ys) (omega arith)
places_behind n (x ∷ xs) ys =
    let e : suc n + length xs ≡ n + suc (length xs) = omega arith in
    ap (λ ps. n ∷ ps) (places_behind (suc n) xs ys ∙ ap (λ m. places_from (suc n) (λ _. true) xs ++ places_from m (λ _. true) ys) e)

-- all places of two lists together
pub places_both : {A : Type 0} (xs ys : List A) → places_of (λ (_ : A). true) (xs ++ ys) ≡ places_from 0 (λ (_ : A). true) xs ++ places_from (length xs) (λ (_ : A). true) ys
places_both xs ys = places_behind 0 xs ys ∙ ap (λ m. places_from 0 (λ _. true) xs ++ places_from m (λ _. true) ys) (omega arith)
