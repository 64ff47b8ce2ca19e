-- The columns that a name may mean.
use Rattle.std.proofs.Common.{◌≡◌, ℕ, zero, suc, ◌+◌, ◌-◌, ◌<◌, ◌≤◌, Bool, true, false, List, [], ◌∷◌, ◌++◌, length, refl, sym, ◌∙◌, ap, cond, arith}
use Rattle.std.specs.Prelude.{Option, Some, None, find, is_some, count_by, position, slice_get, bytes_eq, ◌||◌, unwrap_or}
use Rattle.std.specs.List.{list_any, position_from}
use Rattle.std.specs.Option.{option_map}
use Rattle.ob_base.specs.declared.schema.Heading.{Heading}
use Rattle.ob_base.specs.declared.skeleton.ColumnName.{ColumnName}
use Rattle.ob_base.specs.Lists.{places_from, places_of, first}
use Rattle.ob_base.specs.Schemas.{Columns}
use Rattle.ob_base.specs.Stored.{has_table, heading_at}
use Rattle.std.proofs.Math.Numerals.{add-one}
use Rattle.std.proofs.lemmas.List.Recursion.{is_count_by}
use Rattle.std.proofs.lemmas.List.Sums.{length-filter}
use Rattle.std.proofs.lemmas.List.Elements.{filter-append}
use Rattle.std.proofs.lemmas.List.{length-append}
use Rattle.std.specs.Prelude.{filter}
use Rattle.std.proofs.lemmas.Iterator.Adapters.{position_from-zero}
use Rattle.ob_names.specs.Names.{is_named, meant_by, place_of}

any_found : {A : Type 0} (p : A → Bool) (xs : List A) → list_any p xs ≡ is_some (find p xs)
any_found p [] = refl
any_found p (x ∷ xs) = elim (p x) as (λ b. (b || list_any p xs) ≡ is_some (cond b (Some x) (find p xs))) [ true ↦ refl | false ↦ any_found p xs ]

pub has_table_found : (name : List ℕ) (hs : List Heading) → has_table name hs ≡ is_some (heading_at name hs)
has_table_found name hs = any_found (λ (h : Heading). bytes_eq h.name name) hs

places-longer : {A : Type 0} (n m : ℕ) (p : A → Bool) (xs : List A) → length (places_from n p xs) ≡ length (places_from m p xs)
places-longer n m p [] = refl
places-longer n m p (x ∷ xs) =
    elim (p x) as (λ b. length (cond b (n ∷ places_from (suc n) p xs) (places_from (suc n) p xs)) ≡ length (cond b (m ∷ places_from (suc m) p xs) (places_from (suc m) p xs)))
    [ true ↦ ap suc (places-longer (suc n) (suc m) p xs) | false ↦ places-longer (suc n) (suc m) p xs ]

pub length-places : {A : Type 0} (p : A → Bool) (xs : List A) → length (places_of p xs) ≡ count_by p xs
length-places {A} p xs = is_count_by (λ xs. length (places_of p xs)) p refl step xs where
  step : (x : A) (xs : List A) → length (places_of p (x ∷ xs)) ≡ cond (p x) (1 + length (places_of p xs)) (length (places_of p xs))
  step x xs =
      elim (p x) as (λ b. length (cond b (0 ∷ places_from 1 p xs) (places_from 1 p xs)) ≡ cond b (1 + length (places_of p xs)) (length (places_of p xs)))
      [ true ↦ (let e = places-longer 1 0 p xs in omega arith) | false ↦ places-longer 1 0 p xs ]

count_by-append : {A : Type 0} (p : A → Bool) (xs ys : List A) → count_by p (xs ++ ys) ≡ count_by p xs + count_by p ys
count_by-append p xs ys =
    sym (length-filter p (xs ++ ys)) ∙ ap length (filter-append p xs ys) ∙ length-append (filter p xs) (filter p ys) ∙ (λ t. length-filter p xs t + length-filter p ys t)

-- a name means as many columns of two tables as of each
pub meant_length : (name : ColumnName) (l r : Columns) → length (meant_by name (l ++ r)) ≡ count_by (is_named name) l + count_by (is_named name) r
meant_length name l r = length-places (is_named name) (l ++ r) ∙ count_by-append (is_named name) l r

pub first-places : {A : Type 0} (n : ℕ) (p : A → Bool) (xs : List A) → first (places_from n p xs) ≡ position_from p n xs
first-places n p [] = refl
first-places n p (x ∷ xs) =
    let rest : first (places_from (suc n) p xs) ≡ position_from p (n + 1) xs = first-places (suc n) p xs ∙ ap (λ m. position_from p m xs) (sym (add-one n)) in
    elim (p x) as (λ b. first (cond b (n ∷ places_from (suc n) p xs) (places_from (suc n) p xs)) ≡ cond b (Some n) (position_from p (n + 1) xs))
    [ true ↦ refl | false ↦ rest ]

-- the first of two, the second one further on
abbrev pub either_place : Option ℕ → ℕ → Option ℕ → Option ℕ
either_place (Some i) n o = Some i
either_place None n o = option_map (λ j. n + j) o

shifted : {A : Type 0} (p : A → Bool) (n : ℕ) (xs : List A) → position_from p n xs ≡ option_map (λ j. n + j) (position_from p 0 xs)
shifted p n [] = refl
shifted p n (x ∷ xs) =
    let more : position_from p (n + 1) xs ≡ option_map (λ j. n + j) (position_from p 1 xs) = shifted p (n + 1) xs ∙ twice (position_from p 0 xs) ∙ ap (option_map (λ j. n + j)) (sym (shifted p 1 xs)) in
    elim (p x) as (λ b. cond b (Some n) (position_from p (n + 1) xs) ≡ option_map (λ j. n + j) (cond b (Some 0) (position_from p 1 xs)))
    [ true ↦ ap Some (omega arith) | false ↦ more ]
  where
    twice : (o : Option ℕ) → option_map (λ j. n + 1 + j) o ≡ option_map (λ j. n + j) (option_map (λ j. 1 + j) o)
    twice None = refl
    twice (Some j) = ap Some (omega arith)

position-append : {A : Type 0} (p : A → Bool) (n : ℕ) (l r : List A) → position_from p n (l ++ r) ≡ either_place (position_from p n l) (n + length l) (position_from p 0 r)
position-append p n [] r = shifted p n r ∙ ap (λ m. option_map (λ j. m + j) (position_from p 0 r)) (omega arith)
position-append p n (x ∷ l) r =
    let rest = position-append p (n + 1) l r ∙ ap (λ m. either_place (position_from p (n + 1) l) m (position_from p 0 r)) (omega arith) in
    elim (p x) as (λ b. cond b (Some n) (position_from p (n + 1) (l ++ r)) ≡ either_place (cond b (Some n) (position_from p (n + 1) l)) (n + suc (length l)) (position_from p 0 r))
    [ true ↦ refl | false ↦ rest ]

-- the place of the column that a name means, among those of two tables
pub meant_first : (name : ColumnName) (l r : Columns) → place_of name (l ++ r) ≡ unwrap_or (either_place (position (is_named name) l) (length l) (position (is_named name) r)) 0
meant_first name l r =
    ap (λ o. unwrap_or o 0)
    (first-places 0 (is_named name) (l ++ r) ∙ position-append (is_named name) 0 l r
    ∙ (λ t. either_place (sym (position_from-zero (is_named name) l) t) (base t) (sym (position_from-zero (is_named name) r) t)))
  where
    base : 0 + length l ≡ length l
    base = omega arith

pub get_front : {A : Type 0} (xs ys : List A) (i : ℕ) → i < length xs → slice_get (xs ++ ys) i ≡ slice_get xs i
get_front [] ys i h = absurd (omega arith)
get_front (y ∷ xs) ys zero h = refl
get_front (y ∷ xs) ys (suc i) h = get_front xs ys i (omega arith)

pub get_back : {A : Type 0} (xs ys : List A) (i : ℕ) → length xs ≤ i → slice_get (xs ++ ys) i ≡ slice_get ys (i - length xs)
get_back [] ys i h = ap (slice_get ys) (omega arith)
get_back (y ∷ xs) ys zero h = absurd (omega arith)
get_back (y ∷ xs) ys (suc i) h = let e : suc i - suc (length xs) ≡ i - length xs = omega arith in get_back xs ys i (omega arith) ∙ ap (slice_get ys) (sym e)
