-- Lists that are counted out.
use Rattle.std.specs.Prelude.{ℕ, zero, suc, Bool, false, ◌||◌, List, [], ◌∷◌, ◌++◌, Option, Some, None, filter, not, if◌then◌else◌}
use Rattle.std.specs.List.{list_any}

-- the parts for 0, 1, .. n - 1, joined
abbrev pub each : {A : Type 0} → ℕ → (ℕ → List A) → List A
each zero part = []
each (suc n) part = each n part ++ part n

-- f at 0, 1, .. n - 1
abbrev pub tabulate : {A : Type 0} → ℕ → (ℕ → A) → List A
tabulate n f = each n (λ i. f i ∷ [])

-- whether an element is equal to a later one
abbrev pub has_repeats : {A : Type 0} → (A → A → Bool) → List A → Bool
has_repeats eq [] = false
has_repeats eq (x ∷ xs) = list_any (eq x) xs || has_repeats eq xs

-- each element once, where it first stands
abbrev pub distinct : {A : Type 0} → (A → A → Bool) → List A → List A
distinct eq [] = []
distinct eq (x ∷ xs) = x ∷ filter (λ y. not (eq x y)) (distinct eq xs)

-- the first element
abbrev pub first : {A : Type 0} → List A → Option A
first [] = None
first (x ∷ xs) = Some x

-- the places, in ascending order, of the elements that pass the test, where the first element has place n
abbrev pub places_from : {A : Type 0} → ℕ → (A → Bool) → List A → List ℕ
places_from n p [] = []
places_from n p (x ∷ xs) = if p x then n ∷ places_from (suc n) p xs else places_from (suc n) p xs

abbrev pub places_of : {A : Type 0} → (A → Bool) → List A → List ℕ
places_of p xs = places_from 0 p xs
