-- Lists of tables, one more at the end.
use Rattle.std.proofs.Common.{◌≡◌, ◌⊎◌, inl, inr, ℕ, zero, suc, ◌+◌, ◌<◌, List, [], ◌∷◌, ◌++◌, length, take, get_or, map, Some, refl, ◌∙◌, ap, arith}
use Rattle.std.specs.Prelude.{slice_get}

-- the element at a place of a list to which one was added
pub got_before : {A : Type 0} (xs : List A) (x : A) (i : ℕ) → i < length xs → slice_get (xs ++ x ∷ []) i ≡ slice_get xs i
got_before [] x i below = absurd (omega (arith, below))
got_before (y ∷ xs) x zero below = refl
got_before (y ∷ xs) x (suc i) below = got_before xs x i (omega (arith, below))

pub got_last : {A : Type 0} (xs : List A) (x : A) → slice_get (xs ++ x ∷ []) (length xs) ≡ Some x
got_last [] x = refl
got_last (y ∷ xs) x = got_last xs x

pub got_within : {A : Type 0} (xs : List A) (i : ℕ) (x : A) → slice_get xs i ≡ Some x → i < length xs
got_within [] i x is = absurd (cc is)
got_within (y ∷ xs) zero x is = omega arith
got_within (y ∷ xs) (suc i) x is = let below = got_within xs i x is in omega (arith, below)

pub got_some : {A : Type 0} (xs : List A) (i : ℕ) → i < length xs → (x : A) × (slice_get xs i ≡ Some x)
got_some [] i below = absurd (omega (arith, below))
got_some (y ∷ xs) zero below = (y, refl)
got_some (y ∷ xs) (suc i) below = got_some xs i (omega (arith, below))

pub got_or : {A : Type 0} (xs : List A) (i : ℕ) (d : A) → i < length xs → slice_get xs i ≡ Some (get_or xs i d)
got_or [] i d below = absurd (omega (arith, below))
got_or (y ∷ xs) zero d below = refl
got_or (y ∷ xs) (suc i) d below = got_or xs i d (omega (arith, below))

-- which elements a list has to which one was added
pub got_either : {A : Type 0} (xs : List A) (x : A) (i : ℕ) (u : A) → slice_get (xs ++ x ∷ []) i ≡ Some u → ((i < length xs) × (slice_get xs i ≡ Some u)) ⊎ ((i ≡ length xs) × (u ≡ x))
got_either [] x zero u is = inr (refl, cc is)
got_either [] x (suc i) u is = absurd (cc is)
got_either (y ∷ xs) x zero u is = inl (omega arith, is)
got_either (y ∷ xs) x (suc i) u is = elim (got_either xs x i u is) [
  | inl (below, at) ↦ inl (omega (arith, below), at)
  | inr (end, same) ↦ inr (omega (arith, end), same)
]

-- the first ones, one more of them
pub took_more : {A : Type 0} (xs : List A) (i : ℕ) (x : A) → slice_get xs i ≡ Some x → take (i + 1) xs ≡ take i xs ++ x ∷ []
took_more [] i x is = absurd (cc is)
took_more (y ∷ xs) zero x is = cc is
took_more {A} (y ∷ xs) (suc i) x is =
    let next : suc i + 1 ≡ suc (i + 1) = omega arith in
    ap (λ (n : ℕ). take n (y ∷ xs)) next ∙ ap (λ (l : List A). y ∷ l) (took_more xs i x is)

-- what is mapped of an element
pub mapped_at : {A : Type 0} (f : A → List ℕ) (xs : List A) (i : ℕ) (x : A) → slice_get xs i ≡ Some x → get_or (map f xs) i [] ≡ f x
mapped_at f [] i x is = absurd (cc is)
mapped_at f (y ∷ xs) zero x is = ap f (cc is)
mapped_at f (y ∷ xs) (suc i) x is = mapped_at f xs i x is

pub map_added : {A : Type 0} (f : A → List ℕ) (xs : List A) (x : A) → map f (xs ++ x ∷ []) ≡ map f xs ++ f x ∷ []
map_added f [] x = refl
map_added f (y ∷ xs) x = ap (λ (l : List (List ℕ)). f y ∷ l) (map_added f xs x)

pub length-mapped : {A : Type 0} (f : A → List ℕ) (xs : List A) → length (map f xs) ≡ length xs
length-mapped f [] = refl
length-mapped f (y ∷ xs) = ap suc (length-mapped f xs)
