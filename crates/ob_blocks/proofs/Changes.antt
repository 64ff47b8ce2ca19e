-- Slots that are changed one after the other.
use Rattle.std.proofs.Common.{◌≡◌, ◌≤◌, ◌<◌, ◌+◌, ◌*◌, ◌-◌, ℕ, zero, suc, List, [], ◌∷◌, ◌++◌, Option, None, length, map, take, drop, slice_index_or, slice_set, refl, sym, ◌∙◌, ap, subst, arith}
use Rattle.std.specs.List.{All}
use Rattle.ob_blocks.specs.Blocks.{none_of, up_to, block_at, map_at}

module _ {A : Type 0} (f : ℕ → A → A) where
  pub length-map_at : (i : ℕ) (xs : List A) → length (map_at f i xs) ≡ length xs
  length-map_at i [] = refl
  length-map_at i (x ∷ xs) = ap suc (length-map_at (i + 1) xs)

  pub get-map_at : (i k : ℕ) (xs : List A) (d : A) → k < length xs → slice_index_or (map_at f i xs) k d ≡ f (i + k) (slice_index_or xs k d)
  get-map_at i k [] d below = absurd (omega arith)
  get-map_at i zero (x ∷ xs) d below = ap (λ (n : ℕ). f n x) (omega arith)
  get-map_at i (suc k) (x ∷ xs) d below = get-map_at (i + 1) k xs d (omega arith) ∙ ap (λ (n : ℕ). f n (slice_index_or xs k d)) (omega arith)

  take-map_at : (n i : ℕ) (xs : List A) → take n (map_at f i xs) ≡ map_at f i (take n xs)
  take-map_at zero i xs = refl
  take-map_at (suc n) i [] = refl
  take-map_at (suc n) i (x ∷ xs) = ap (λ (l : List A). f i x ∷ l) (take-map_at n (i + 1) xs)

  drop-map_at : (n i : ℕ) (xs : List A) → drop n (map_at f i xs) ≡ map_at f (i + n) (drop n xs)
  drop-map_at zero i xs = ap (λ (n : ℕ). map_at f n xs) (omega arith)
  drop-map_at (suc n) i [] = refl
  drop-map_at (suc n) i (x ∷ xs) = drop-map_at n (i + 1) xs ∙ ap (λ (k : ℕ). map_at f k (drop n xs)) (omega arith)

  -- the changed block is that of the changed slots
  pub block-map_at : (r u : ℕ) (all : List A) → map_at f (u * r) (block_at r all u) ≡ block_at r (map_at f 0 all) u
  block-map_at r u all =
      sym (ap (take r) (drop-map_at (u * r) 0 all) ∙ take-map_at r (0 + u * r) (drop (u * r) all) ∙ ap (λ (n : ℕ). map_at f n (block_at r all u)) (omega arith))

  pub map_at-append : (i : ℕ) (xs ys : List A) → map_at f i (xs ++ ys) ≡ map_at f i xs ++ map_at f (i + length xs) ys
  map_at-append i [] ys = ap (λ (n : ℕ). map_at f n ys) (omega arith)
  map_at-append i (x ∷ xs) ys = ap (λ (l : List A). f i x ∷ l) (map_at-append (i + 1) xs ys ∙ ap (λ (n : ℕ). map_at f (i + 1) xs ++ map_at f n ys) (omega arith))

  -- what holds of each element holds of each changed one
  pub all-map_at : (P : A → Type 0) (i : ℕ) (xs : List A) → ((k : ℕ) (x : A) → P x → P (f k x)) → All P xs → All P (map_at f i xs)
  all-map_at P i xs keeps is = λ k d below.
      let inside : k < length xs = omega (arith, length-map_at i xs) in
      subst P (sym (get-map_at i k xs d inside)) (keeps (i + k) _ (is k d inside))

module _ {A : Type 0} (f : ℕ → Option A → Option A) where
  map_at-none : (i n : ℕ) → ((k : ℕ) → i ≤ k → f k None ≡ None) → map_at f i (none_of n) ≡ none_of n
  map_at-none i zero stays = refl
  map_at-none i (suc n) stays = cc (stays i (omega arith), map_at-none (i + 1) n (λ k past. stays k (omega arith)))

  -- where the slots past the capacity stay empty
  pub map_at-up_to : (n : ℕ) (slots : List (Option A)) → ((k : ℕ) → length slots ≤ k → f k None ≡ None) → map_at f 0 (up_to n slots) ≡ up_to n (map_at f 0 slots)
  map_at-up_to n slots stays =
      map_at-append f 0 slots (none_of (n - length slots)) ∙ ap (λ (l : List (Option A)). map_at f 0 slots ++ l) (map_at-none (0 + length slots) (n - length slots) (λ k past. stays k (omega arith)))
      ∙ ap (λ (k : ℕ). map_at f 0 slots ++ none_of (n - k)) (sym (length-map_at f 0 slots))

-- a change that doesn't look at the index
pub map_at-map : {A : Type 0} (h : A → A) (i : ℕ) (xs : List A) → map_at (λ k x. h x) i xs ≡ map h xs
map_at-map {A = A} h i [] = refl
map_at-map {A = A} h i (x ∷ xs) = ap (λ (l : List A). h x ∷ l) (map_at-map h (i + 1) xs)

-- a list that turns into another, one element after the other
module _ {X : Type 0} (d : X) where
  put_suc : (new old : List X) (i : ℕ) → i < length new → i < length old → slice_set (take i new ++ drop i old) i (slice_index_or new i d) ≡ take (suc i) new ++ drop (suc i) old
  put_suc [] old i below inside = absurd (omega arith)
  put_suc (n ∷ new) [] i below inside = absurd (omega arith)
  put_suc (n ∷ new) (o ∷ old) zero below inside = refl
  put_suc (n ∷ new) (o ∷ old) (suc i) below inside = ap (λ (l : List X). n ∷ l) (put_suc new old i (omega arith) (omega arith))

  pub put_one : (new old : List X) (i : ℕ) → i < length new → i < length old → slice_set (take i new ++ drop i old) i (slice_index_or new i d) ≡ take (i + 1) new ++ drop (i + 1) old
  put_one new old i below inside = let next : suc i ≡ i + 1 = omega arith in put_suc new old i below inside ∙ ap (λ (k : ℕ). take k new ++ drop k old) next

  pub get_mix : (new old : List X) (i : ℕ) → i < length new → i < length old → slice_index_or (take i new ++ drop i old) i d ≡ slice_index_or old i d
  get_mix [] old i below inside = absurd (omega arith)
  get_mix (n ∷ new) [] i below inside = absurd (omega arith)
  get_mix (n ∷ new) (o ∷ old) zero below inside = refl
  get_mix (n ∷ new) (o ∷ old) (suc i) below inside = get_mix new old i (omega arith) (omega arith)
