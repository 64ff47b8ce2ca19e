-- Rows of distinct keys, and rows of distinct numbers.
use Rattle.std.proofs.Common.{◌≡◌, ◌≤◌, ◌<◌, ℕ, Bool, true, false, cond, ◌==◌, List, [], ◌∷◌, length, refl, sym, ◌∙◌, ap, subst, arith}
use Rattle.std.specs.Prelude.{Option, Some, None, pos, negsuc, nat_lt, ◌||◌}
use Rattle.std.specs.List.{list_any}
use Rattle.std.proofs.lemmas.Bool.{eqb-true, eq-eqb}
use Rattle.std.proofs.lemmas.Bool.Decides.{Decides-int_eq}
use Rattle.std.proofs.lemmas.Slice.Eq.{bytes_eq-Decides}
use Rattle.std.proofs.lemmas.List.Elements.{All-head, All-tail}
use Rattle.ob_base.specs.Lists.{has_repeats}
use Rattle.ob_row.specs.declared.cell.Cell.{Cell}
use Rattle.ob_row.specs.declared.cell.Cell.TheVariants.{Int, Text}
use Rattle.ob_row.specs.Rows.{Row, agree_at, cell_at, cell_eq, options_eq, keys_repeat}
use Rattle.ob_row.proofs.PairLemmas.{cell_eq-refl}
use Rattle.ob_path.specs.Rows.{with_key, Single}
use Rattle.ob_row.specs.Keys.{cell_number, row_key, InRange}

none_either : (a b : Bool) → a ≡ false → b ≡ false → (a || b) ≡ false
none_either a b e f = ap (λ t. t || b) e ∙ f

neither : (a b : Bool) → (a || b) ≡ false → (a ≡ false) × (b ≡ false)
neither true b h = absurd (cc)
neither false b h = (refl, h)

cell_same : (x y : Cell) → cell_eq x y ≡ true → x ≡ y
cell_same (Int x) (Int y) h = ap Int ((Decides-int_eq x y).0 h)
cell_same (Int x) (Text t) h = absurd (cc)
cell_same (Text s) (Int y) h = absurd (cc)
cell_same (Text s) (Text t) h = ap Text ((bytes_eq-Decides s t).0 h)

options_same : (x y : Option Cell) → options_eq x y ≡ true → x ≡ y
options_same None y h = absurd (cc)
options_same (Some x) None h = absurd (cc)
options_same (Some x) (Some y) h = ap Some (cell_same x y h)

-- a cell with a number in range is that number
numbered : (n : ℕ) (x y : Option Cell) → cell_number n x < n → cell_number n x ≡ cell_number n y → options_eq x y ≡ true
numbered n (Some (Int (pos a))) None low same = absurd (omega (arith, low, same))
numbered n (Some (Int (pos a))) (Some (Text t)) low same = absurd (omega (arith, low, same))
numbered n (Some (Int (pos a))) (Some (Int (negsuc b))) low same = absurd (omega (arith, low, same))
numbered n (Some (Int (pos a))) (Some (Int (pos b))) low same =
    let equal : a ≡ b = both (nat_lt a n) (nat_lt b n) low same in
    subst (λ (c : ℕ). cell_eq (Int (pos a)) (Int (pos c)) ≡ true) equal (cell_eq-refl (Int (pos a)))
  where
    both : (s t : Bool) → cond s a n < n → cond s a n ≡ cond t b n → a ≡ b
    both true true low same = same
    both true false low same = absurd (omega (arith, low, same))
    both false t low same = absurd (omega (arith, low))
numbered n other y low same = absurd (omega (arith, low))

module _ (n i : ℕ) where
  abbrev key : Row → ℕ
  key row = row_key n i row

  -- none of these rows has the number
  pub none_agree : (x : Row) (xs : List Row) → length (with_key key (key x) xs) ≡ 0 → list_any (agree_at i i x) xs ≡ false
  none_agree x [] none = refl
  none_agree x (y ∷ ys) none = go (key y == key x) refl none (none_agree x ys)
    where
      go : (b : Bool) → (key y == key x) ≡ b → length (cond b (y ∷ with_key key (key x) ys) (with_key key (key x) ys)) ≡ 0
          → (length (with_key key (key x) ys) ≡ 0 → list_any (agree_at i i x) ys ≡ false) → list_any (agree_at i i x) (y ∷ ys) ≡ false
      go true is none rest = absurd (omega (arith, none))
      go false is none rest = none_either (agree_at i i x y) (list_any (agree_at i i x) ys) (apart (agree_at i i x y) refl) (rest none)
        where
          apart : (t : Bool) → agree_at i i x y ≡ t → t ≡ false
          apart true h = let same : key y ≡ key x = ap (cell_number n) (sym (options_same (cell_at x i) (cell_at y i) h)) in absurd (cc (is, eq-eqb (key y) (key x) same))
          apart false h = refl

  tail_single : (x : Row) (xs : List Row) → Single key (x ∷ xs) → Single key xs
  tail_single x xs single k = go (key x == k) (single k)
    where
      go : (b : Bool) → length (cond b (x ∷ with_key key k xs) (with_key key k xs)) ≤ 1 → length (with_key key k xs) ≤ 1
      go true few = omega (arith, few)
      go false few = few

  head_alone : (x : Row) (xs : List Row) → Single key (x ∷ xs) → length (with_key key (key x) xs) ≡ 0
  head_alone x xs single = go (key x == key x) (eq-eqb (key x) (key x) refl) (single (key x))
    where
      go : (b : Bool) → b ≡ true → length (cond b (x ∷ with_key key (key x) xs) (with_key key (key x) xs)) ≤ 1 → length (with_key key (key x) xs) ≡ 0
      go true is few = omega (arith, few)
      go false is few = absurd (cc is)

  pub single_apart : (all : List Row) → Single key all → keys_repeat (Some i) all ≡ false
  single_apart [] single = refl
  single_apart (x ∷ xs) single =
      none_either (list_any (agree_at i i x) xs) (has_repeats (agree_at i i) xs) (none_agree x xs (head_alone x xs single)) (single_apart xs (tail_single x xs single))

  -- where none agrees with a row in range, none has its number
  pub none_numbered : (x : Row) (xs : List Row) → key x < n → list_any (agree_at i i x) xs ≡ false → length (with_key key (key x) xs) ≡ 0
  none_numbered x [] low none = refl
  none_numbered x (y ∷ ys) low none =
      let both = neither (agree_at i i x y) (list_any (agree_at i i x) ys) none in
      go (key y == key x) refl both.0 (none_numbered x ys low both.1)
    where
      go : (b : Bool) → (key y == key x) ≡ b → agree_at i i x y ≡ false → length (with_key key (key x) ys) ≡ 0
          → length (cond b (y ∷ with_key key (key x) ys) (with_key key (key x) ys)) ≡ 0
      go true is off rest = let yes = numbered n (cell_at x i) (cell_at y i) low (sym (eqb-true (key y) (key x) is)) in absurd (cc (yes, off))
      go false is off rest = rest

  pub apart_single : (all : List Row) → InRange n i all → keys_repeat (Some i) all ≡ false → Single key all
  apart_single [] range apart k = omega (arith)
  apart_single (x ∷ xs) range apart k =
      let both = neither (list_any (agree_at i i x) xs) (has_repeats (agree_at i i) xs) apart in
      let low = All-head (λ (row : Row). row_key n i row < n) x xs range in
      go (key x == k) refl (apart_single xs (All-tail (λ (row : Row). row_key n i row < n) x xs range) both.1 k) (none_numbered x xs low both.0)
    where
      go : (b : Bool) → (key x == k) ≡ b → length (with_key key k xs) ≤ 1 → length (with_key key (key x) xs) ≡ 0 → length (cond b (x ∷ with_key key k xs) (with_key key k xs)) ≤ 1
      go true is few none = let same = eqb-true (key x) k is in let zero_is : length (with_key key k xs) ≡ 0 = subst (λ (j : ℕ). length (with_key key j xs) ≡ 0) same none in omega (arith, zero_is)
      go false is few none = few
