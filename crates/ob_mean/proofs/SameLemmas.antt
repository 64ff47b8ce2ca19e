-- What of a list depends on the bag of its elements alone.
use Rattle.std.proofs.Common.{◌≡◌, ℕ, ℤ, Bool, true, false, List, [], ◌∷◌, ◌++◌, map, length, refl, sym, ◌∙◌, ap, subst, cond, arith}
use Rattle.std.specs.Prelude.{◌+ℤ◌, pos, slice_get, Option, Some, None, filter, flat_map, fold, count_by, not}
use Rattle.std.specs.Int.{int_min, int_max}
use Rattle.std.specs.List.{list_any}
use Rattle.std.proofs.Math.IntN.{+ℤ_assoc, +ℤ_comm}
use Rattle.std.proofs.lemmas.Bool.Decides.{Decides-int_eq}
use Rattle.std.proofs.lemmas.Int.{ints, int_min_is, int_max_is}
use Rattle.std.proofs.lemmas.List.Sorted.{length_permutation, list_any-IsPermutation}
use Rattle.std.proofs.lemmas.List.Sums.{length-filter}
use Rattle.std.proofs.lemmas.List.{length-map}
use Rattle.std.proofs.lemmas.Simd.{map-map}
use Rattle.std.proofs.lemmas.Slice.Eq.{bytes_eq-Decides}
use Rattle.ob_base.specs.declared.shown.Shown.{Shown}
use Rattle.ob_base.specs.declared.shown.Shown.TheVariants.{Int as ShownInt}
use Rattle.ob_base.specs.Lists.{distinct}
use Rattle.ob_row.specs.declared.aggregate.Agg.{Agg}
use Rattle.ob_row.specs.declared.aggregate.Agg.TheVariants.{CountAll, Count, Sum, Min, Max}
use Rattle.ob_row.specs.declared.aggregate.Item.{Item}
use Rattle.ob_row.specs.declared.aggregate.Item.TheVariants.{Key, Agg as AggItem}
use Rattle.ob_row.specs.declared.cell.Cell.{Cell}
use Rattle.ob_row.specs.declared.cell.Cell.TheVariants.{Int, Text}
use Rattle.ob_row.specs.Bags.{Inserts, here, further, Same}
use Rattle.ob_row.specs.Rows.{Row, agree_at, cell_at, cell_eq, options_eq, pairs}
use Rattle.ob_row.specs.Totals.{combined, group_heads, group_of, grouped, int_of, item_shown, shown_at, total, totals}
use Rattle.ob_row.proofs.BagLemmas.{IsPermutation-Same, Same-append, Same-filter, Same-filter_map, Same-map, Same-refl, Same-trans}
use Rattle.ob_row.proofs.PairLemmas.{Same-rotate}

-- ---- lists
pub same-is : {A : Type 0} (xs ys : List A) → xs ≡ ys → Same xs ys
same-is xs ys e = subst (λ w. Same xs w) e (Same-refl xs)

pub same-length : {A : Type 0} (xs ys : List A) → Same xs ys → length xs ≡ length ys
same-length xs ys s = sym (length_permutation xs ys (IsPermutation-Same xs ys s))

pub same-any : {A : Type 0} (p : A → Bool) (xs ys : List A) → Same xs ys → list_any p xs ≡ list_any p ys
same-any p xs ys s = list_any-IsPermutation p xs ys (IsPermutation-Same xs ys s)

pub same-count : {A : Type 0} (p : A → Bool) (xs ys : List A) → Same xs ys → count_by p xs ≡ count_by p ys
same-count p xs ys s = sym (length-filter p xs) ∙ same-length (filter p xs) (filter p ys) (Same-filter p xs ys s) ∙ length-filter p ys

pub map-alike : {A B : Type 0} (f g : A → B) → ((x : A) → f x ≡ g x) → (xs : List A) → map f xs ≡ map g xs
map-alike f g e [] = refl
map-alike f g e (x ∷ xs) = let rest = map-alike f g e xs in λ i. e x i ∷ rest i

-- ---- each element's own list
flat_map-Inserts : {A B : Type 0} (f : A → List B) {x : A} {rest whole : List A} → Inserts x rest whole → Same (f x ++ flat_map f rest) (flat_map f whole)
flat_map-Inserts f {x} (here {rest}) = Same-refl (f x ++ flat_map f rest)
flat_map-Inserts f {x} (further {y} {rest} {whole} i) =
    Same-trans (f x ++ (f y ++ flat_map f rest)) (f y ++ (f x ++ flat_map f rest)) (f y ++ flat_map f whole)
    (Same-rotate (f x) (f y) (flat_map f rest)) (Same-append (f y) (f y) _ _ (Same-refl (f y)) (flat_map-Inserts f i))

Same-flat_map : {A B : Type 0} (f : A → List B) (xs ys : List A) → Same xs ys → Same (flat_map f xs) (flat_map f ys)
Same-flat_map f [] ys s = same-is [] (flat_map f ys) (ap (flat_map f) (sym s))
Same-flat_map f (x ∷ xs) ys s =
    Same-trans (f x ++ flat_map f xs) (f x ++ flat_map f s.0) (flat_map f ys)
    (Same-append (f x) (f x) _ _ (Same-refl (f x)) (Same-flat_map f xs s.0 s.2)) (flat_map-Inserts f s.1)

flat_map-alike : {A B : Type 0} (f g : A → List B) → ((x : A) → Same (f x) (g x)) → (xs : List A) → Same (flat_map f xs) (flat_map g xs)
flat_map-alike f g e [] = refl
flat_map-alike f g e (x ∷ xs) = Same-append (f x) (g x) _ _ (e x) (flat_map-alike f g e xs)

pub same-pairs : (i j : ℕ) (us vs xs ys : List Row) → Same us vs → Same xs ys → Same (pairs i j us xs) (pairs i j vs ys)
same-pairs i j us vs xs ys s t =
    Same-trans (pairs i j us xs) (pairs i j vs xs) (pairs i j vs ys)
    (Same-flat_map (λ a. map (λ b. a ++ b) (filter (agree_at i j a) xs)) us vs s)
    (flat_map-alike _ _ (λ a. Same-map (λ b. a ++ b) _ _ (Same-filter (agree_at i j a) xs ys t)) vs)

-- ---- all elements taken together, in whichever order
module _ (f : ℤ → ℤ → ℤ) (turn : (a b : ℤ) → f a b ≡ f b a) (exchange : (a b c : ℤ) → f (f a b) c ≡ f (f a c) b) where
  fold-last : (a z : ℤ) (xs : List ℤ) → fold f (f a z) xs ≡ f (fold f a xs) z
  fold-last a z [] = refl
  fold-last a z (x ∷ xs) = ap (λ b. fold f b xs) (exchange a z x) ∙ fold-last (f a x) z xs

  fold-Inserts : {z : ℤ} {rest whole : List ℤ} (a : ℤ) → Inserts z rest whole → fold f a whole ≡ f (fold f a rest) z
  fold-Inserts {z} a (here {rest}) = fold-last a z rest
  fold-Inserts a (further {y} i) = fold-Inserts (f a y) i

  same-fold : (a : ℤ) (xs ys : List ℤ) → Same xs ys → fold f a xs ≡ fold f a ys
  same-fold a [] ys s = ap (fold f a) (sym s)
  same-fold a (x ∷ xs) ys s = fold-last a x xs ∙ ap (λ b. f b x) (same-fold a xs s.0 s.2) ∙ sym (fold-Inserts a s.1)

  combined-Inserts : {x : ℤ} {rest whole : List ℤ} → Inserts x rest whole → combined f (x ∷ rest) ≡ combined f whole
  combined-Inserts here = refl
  combined-Inserts {x} (further {y} {rest} i) = ap ShownInt (ap (λ b. fold f b rest) (turn x y) ∙ fold-last y x rest ∙ sym (fold-Inserts y i))

  pub same-combined : (xs ys : List ℤ) → Same xs ys → combined f xs ≡ combined f ys
  same-combined [] ys s = ap (combined f) (sym s)
  same-combined (x ∷ xs) ys s = ap ShownInt (same-fold x xs s.0 s.2) ∙ combined-Inserts s.1

sum-exchange : (a b c : ℤ) → (a +ℤ b) +ℤ c ≡ (a +ℤ c) +ℤ b
sum-exchange a b c = +ℤ_assoc a b c ∙ ap (λ z. a +ℤ z) (+ℤ_comm b c) ∙ sym (+ℤ_assoc a c b)

min-turn : (a b : ℤ) → int_min a b ≡ int_min b a
min-turn a b = omega (arith, ints, int_min_is a b, int_min_is b a)

min-exchange : (a b c : ℤ) → int_min (int_min a b) c ≡ int_min (int_min a c) b
min-exchange a b c = omega (arith, ints, int_min_is a b, int_min_is a c, int_min_is (int_min a b) c, int_min_is (int_min a c) b)

max-turn : (a b : ℤ) → int_max a b ≡ int_max b a
max-turn a b = omega (arith, ints, int_max_is a b, int_max_is b a)

max-exchange : (a b c : ℤ) → int_max (int_max a b) c ≡ int_max (int_max a c) b
max-exchange a b c = omega (arith, ints, int_max_is a b, int_max_is a c, int_max_is (int_max a b) c, int_max_is (int_max a c) b)

pub same-total : (agg : Agg) (xs ys : List Row) → Same xs ys → total agg xs ≡ total agg ys
same-total CountAll xs ys s = ap (λ n. ShownInt (pos n)) (same-length xs ys s)
same-total (Count i) xs ys s = ap (λ n. ShownInt (pos n)) (same-length xs ys s)
same-total (Sum i) xs ys s = same-combined ◌+ℤ◌ +ℤ_comm sum-exchange _ _ (Same-filter_map (λ (row : Row). int_of (slice_get row i)) xs ys s)
same-total (Min i) xs ys s = same-combined int_min min-turn min-exchange _ _ (Same-filter_map (λ (row : Row). int_of (slice_get row i)) xs ys s)
same-total (Max i) xs ys s = same-combined int_max max-turn max-exchange _ _ (Same-filter_map (λ (row : Row). int_of (slice_get row i)) xs ys s)

pub same-totals : (aggs : List Agg) (xs ys : List Row) → Same xs ys → totals aggs xs ≡ totals aggs ys
same-totals aggs xs ys s = map-alike (λ a. total a xs) (λ a. total a ys) (λ a. same-total a xs ys s) aggs

-- ---- each element once, by a test that equal elements alone pass
filters-turned : {A : Type 0} (p q : A → Bool) (xs : List A) → filter p (filter q xs) ≡ filter q (filter p xs)
filters-turned p q [] = refl
filters-turned {A} p q (x ∷ xs) = go (p x) (q x) refl refl (filters-turned p q xs)
  where
    go : (a b : Bool) → p x ≡ a → q x ≡ b → filter p (filter q xs) ≡ filter q (filter p xs)
        → filter p (cond b (x ∷ filter q xs) (filter q xs)) ≡ filter q (cond a (x ∷ filter p xs) (filter p xs))
    go true true one two rest = rw one (rw two (ap (λ (w : List A). x ∷ w) rest))
    go true false one two rest = rw two rest
    go false true one two rest = rw one rest
    go false false one two rest = rest

module _ {A : Type 0} (eq : A → A → Bool) (is : (a b : A) → eq a b ≡ true → a ≡ b) where
  abbrev others : A → List A → List A
  others x xs = filter (λ y. not (eq x y)) xs

  eq-turned : (a b : A) → eq a b ≡ true → eq b a ≡ true
  eq-turned a b h = let e = is a b h in subst (λ c. eq c a ≡ true) e (subst (λ c. eq a c ≡ true) (sym e) h)

  differ-turned : (a b : A) → eq a b ≡ false → eq b a ≡ false
  differ-turned a b h = go (eq b a) refl
    where
      go : (t : Bool) → eq b a ≡ t → t ≡ false
      go true e = let f = eq-turned b a e in absurd (cc (h, f))
      go false e = refl

  distinct-Inserts : {x : A} {rest whole : List A} → Inserts x rest whole → Same (distinct eq (x ∷ rest)) (distinct eq whole)
  distinct-Inserts {x} (here {rest}) = Same-refl (distinct eq (x ∷ rest))
  distinct-Inserts {x} (further {y} {rest} {whole} i) =
      go (eq x y) refl (Same-filter (λ z. not (eq y z)) (x ∷ others x (distinct eq rest)) (distinct eq whole) (distinct-Inserts i))
    where
      late : Bool → List A
      late t = cond (not t) (x ∷ others y (others x (distinct eq rest))) (others y (others x (distinct eq rest)))

      turned : others y (others x (distinct eq rest)) ≡ others x (others y (distinct eq rest))
      turned = filters-turned (λ z. not (eq y z)) (λ z. not (eq x z)) (distinct eq rest)

      go : (t : Bool) → eq x y ≡ t → Same (late (eq y x)) (others y (distinct eq whole))
          → Same (x ∷ cond (not t) (y ∷ others x (others y (distinct eq rest))) (others x (others y (distinct eq rest)))) (y ∷ others y (distinct eq whole))
      go true h rests =
          let same : Same (late true) (others y (distinct eq whole)) = subst (λ t. Same (late t) (others y (distinct eq whole))) (eq-turned x y h) rests in (
            others y (distinct eq whole),
            subst (λ z. Inserts x (others y (distinct eq whole)) (z ∷ others y (distinct eq whole))) (is x y h) here,
            subst (λ w. Same w (others y (distinct eq whole))) turned same,
          )
      go false h rests =
          let same : Same (late false) (others y (distinct eq whole)) = subst (λ t. Same (late t) (others y (distinct eq whole))) (differ-turned x y h) rests in
          (y ∷ same.0, further same.1, (same.0, here, subst (λ w. Same w same.0) turned same.2))

  pub same-distinct : (xs ys : List A) → Same xs ys → Same (distinct eq xs) (distinct eq ys)
  same-distinct [] ys s = same-is [] (distinct eq ys) (ap (distinct eq) (sym s))
  same-distinct (x ∷ xs) ys s =
      Same-trans (x ∷ others x (distinct eq xs)) (x ∷ others x (distinct eq s.0)) (distinct eq ys)
      (others x (distinct eq s.0), here, Same-filter (λ y. not (eq x y)) (distinct eq xs) (distinct eq s.0) (same-distinct xs s.0 s.2))
      (distinct-Inserts s.1)

-- ---- groups
cell_eq-same : (x y : Cell) → cell_eq x y ≡ true → x ≡ y
cell_eq-same (Int x) (Int y) h = ap Int ((Decides-int_eq x y).0 h)
cell_eq-same (Int x) (Text t) h = absurd (cc h)
cell_eq-same (Text s) (Int y) h = absurd (cc h)
cell_eq-same (Text s) (Text t) h = ap Text ((bytes_eq-Decides s t).0 h)

pub options_eq-same : (x y : Option Cell) → options_eq x y ≡ true → x ≡ y
options_eq-same None y h = absurd (cc h)
options_eq-same (Some x) None h = absurd (cc h)
options_eq-same (Some x) (Some y) h = ap Some (cell_eq-same x y h)

filter-map : {A B : Type 0} (f : A → B) (p : B → Bool) (xs : List A) → filter p (map f xs) ≡ map f (filter (λ x. p (f x)) xs)
filter-map f p [] = refl
filter-map {A} {B} f p (x ∷ xs) =
    elim (p (f x)) as (λ b. cond b (f x ∷ filter p (map f xs)) (filter p (map f xs)) ≡ map f (cond b (x ∷ filter (λ y. p (f y)) xs) (filter (λ y. p (f y)) xs)))
    [ true ↦ ap (λ (w : List B). f x ∷ w) (filter-map f p xs) | false ↦ filter-map f p xs ]

map-distinct : {A B : Type 0} (f : A → B) (eq : B → B → Bool) (xs : List A) → map f (distinct (λ a b. eq (f a) (f b)) xs) ≡ distinct eq (map f xs)
map-distinct f eq [] = refl
map-distinct {A} {B} f eq (x ∷ xs) =
    ap (λ (w : List B). f x ∷ w) (sym (filter-map f (λ y. not (eq (f x) y)) (distinct (λ a b. eq (f a) (f b)) xs)) ∙ ap (filter (λ y. not (eq (f x) y))) (map-distinct f eq xs))

module _ (key : ℕ) where
  -- the cells that the rows are grouped by, and those of the groups
  abbrev keys : List Row → List (Option Cell)
  keys rows = map (λ (row : Row). cell_at row key) rows

  abbrev group_keys : List Row → List (Option Cell)
  group_keys rows = distinct options_eq (keys rows)

  heads-keys : (rows : List Row) → map (λ (row : Row). cell_at row key) (group_heads key rows) ≡ group_keys rows
  heads-keys rows = map-distinct (λ (row : Row). cell_at row key) options_eq rows

  same-keys : (xs ys : List Row) → Same xs ys → Same (group_keys xs) (group_keys ys)
  same-keys xs ys s = same-distinct options_eq options_eq-same (keys xs) (keys ys) (Same-map (λ (row : Row). cell_at row key) xs ys s)

  pub same-heads : (xs ys : List Row) → Same xs ys → length (group_heads key xs) ≡ length (group_heads key ys)
  same-heads xs ys s = sym (counted xs) ∙ same-length (group_keys xs) (group_keys ys) (same-keys xs ys s) ∙ counted ys
    where
      counted : (rows : List Row) → length (group_keys rows) ≡ length (group_heads key rows)
      counted rows = ap (λ (w : List (Option Cell)). length w) (sym (heads-keys rows)) ∙ length-map (group_heads key rows) (λ (row : Row). cell_at row key)

  -- an item of the group of a cell
  abbrev item_of_key : List Row → Option Cell → Item → Shown
  item_of_key rows cell Key = shown_at cell
  item_of_key rows cell (AggItem agg) = total agg (filter (λ (row : Row). options_eq cell (cell_at row key)) rows)

  abbrev shown_by : List Item → List Row → Option Cell → List Shown
  shown_by items rows cell = map (item_of_key rows cell) items

  item-key : (rows : List Row) (row : Row) (item : Item) → item_shown key row (group_of key rows row) item ≡ item_of_key rows (cell_at row key) item
  item-key rows row Key = refl
  item-key rows row (AggItem agg) = refl

  grouped-keys : (items : List Item) (rows : List Row) → grouped key items rows ≡ map (shown_by items rows) (group_keys rows)
  grouped-keys items rows =
      map-alike _ _ (λ (row : Row). map-alike _ _ (item-key rows row) items) (group_heads key rows)
      ∙ sym (map-map (shown_by items rows) (λ (row : Row). cell_at row key) (group_heads key rows))
      ∙ ap (map (shown_by items rows)) (heads-keys rows)

  item-same : (xs ys : List Row) → Same xs ys → (cell : Option Cell) (item : Item) → item_of_key xs cell item ≡ item_of_key ys cell item
  item-same xs ys s cell Key = refl
  item-same xs ys s cell (AggItem agg) =
      same-total agg _ _ (Same-filter (λ (row : Row). options_eq cell (cell_at row key)) xs ys s)

  pub same-grouped : (items : List Item) (xs ys : List Row) → Same xs ys → Same (grouped key items xs) (grouped key items ys)
  same-grouped items xs ys s =
      let shown : map (shown_by items xs) (group_keys xs) ≡ map (shown_by items ys) (group_keys xs) =
      map-alike _ _ (λ cell. map-alike _ _ (item-same xs ys s cell) items) (group_keys xs) in
      subst (λ w. Same w (grouped key items ys)) (sym (grouped-keys items xs ∙ shown))
      (subst (λ w. Same (map (shown_by items ys) (group_keys xs)) w) (sym (grouped-keys items ys))
      (Same-map (shown_by items ys) (group_keys xs) (group_keys ys) (same-keys xs ys s)))
