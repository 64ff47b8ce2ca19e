-- Rows that are put one after the other, each into the first free slot.
use Rattle.std.proofs.Common.{◌≡◌, ◌≢◌, ◌<◌, ◌≤◌, ◌+◌, ◌==◌, ℕ, zero, suc, Bool, true, false, if◌then◌else◌, List, [], ◌∷◌, Option, Some, None, length, take, refl, sym, ◌∙◌, ap, subst, arith}
use Rattle.std.specs.Prelude.{⊤}
use Rattle.std.proofs.lemmas.Bool.Decides.{nat_tests}
use Rattle.ob_base.specs.Schemas.{Columns, key_place}
use Rattle.ob_blocks.specs.Blocks.{map_at}
use Rattle.ob_row.specs.Rows.{Row, has_key}
use Rattle.ob_row.specs.Slots.{Slots, rows, fill_first}
use Rattle.ob_mutate.specs.declared.inserting.Inserted.{Inserted}
use Rattle.ob_mutate.specs.declared.inserting.Inserted.TheVariants.{Done, Duplicate, Full}
use Rattle.ob_mutate.specs.Inserting.{insert_answer, slots_after}
use Rattle.ob_mutate.specs.Batches.{frees_from, inserted_all, put_into, taken_all, taken_one}

eq_is : (a b : ℕ) → a ≡ b → (a == b) ≡ true
eq_is a b same = grind (arith, nat_tests)

eq_other : (a b : ℕ) → a ≢ b → (a == b) ≡ false
eq_other a b off = grind (arith, nat_tests)

-- none is less
abbrev AreFrom : ℕ → List ℕ → Type 0
AreFrom lo [] = ⊤
AreFrom lo (i ∷ is) = (lo ≤ i) × AreFrom lo is

weaker : (lo hi : ℕ) (is : List ℕ) → lo ≤ hi → AreFrom hi is → AreFrom lo is
weaker lo hi [] less are = tt
weaker lo hi (i ∷ is) less are = (omega (arith, less, are.0), weaker lo hi is less are.1)

take_from : (lo k : ℕ) (is : List ℕ) → AreFrom lo is → AreFrom lo (take k is)
take_from lo zero is are = tt
take_from lo (suc k) [] are = tt
take_from lo (suc k) (i ∷ is) are = (are.0, take_from lo k is are.1)

frees_are : (i : ℕ) (slots : Slots) → AreFrom i (frees_from i slots)
frees_are i [] = tt
frees_are i (None ∷ slots) = (omega arith, weaker i (i + 1) (frees_from (i + 1) slots) (omega arith) (frees_are (i + 1) slots))
frees_are i (Some row ∷ slots) = weaker i (i + 1) (frees_from (i + 1) slots) (omega arith) (frees_are (i + 1) slots)

-- the first free slot, and the others
rest_from : (i t : ℕ) (fs : List ℕ) (slots : Slots) → frees_from i slots ≡ t ∷ fs → AreFrom (t + 1) fs
rest_from i t fs [] is = absurd (cc is)
rest_from i t fs (None ∷ slots) is =
    let first : i ≡ t = cc is in
    let rest : frees_from (i + 1) slots ≡ fs = cc is in
    subst (λ (k : ℕ). AreFrom (k + 1) fs) first (subst (AreFrom (i + 1)) rest (frees_are (i + 1) slots))
rest_from i t fs (Some row ∷ slots) is = rest_from (i + 1) t fs slots is

first_from : (i t : ℕ) (fs : List ℕ) (slots : Slots) → frees_from i slots ≡ t ∷ fs → i ≤ t
first_from i t fs slots is = let are : AreFrom i (t ∷ fs) = subst (AreFrom i) is (frees_are i slots) in are.0

frees_fill : (i t : ℕ) (fs : List ℕ) (row : Row) (slots : Slots) → frees_from i slots ≡ t ∷ fs → frees_from i (fill_first row slots) ≡ fs
frees_fill i t fs row [] is = absurd (cc is)
frees_fill i t fs row (None ∷ slots) is = cc is
frees_fill i t fs row (Some o ∷ slots) is = frees_fill (i + 1) t fs row slots is

pub count_frees : (i : ℕ) (slots : Slots) → length (rows slots) + length (frees_from i slots) ≡ length slots
count_frees i [] = omega arith
count_frees i (None ∷ slots) = omega (arith, count_frees (i + 1) slots)
count_frees i (Some row ∷ slots) = omega (arith, count_frees (i + 1) slots)

-- what is put past a slot
put_past : (i : ℕ) (slot : Option Row) (ss : List ℕ) (batch : List Row) → AreFrom (i + 1) ss → put_into ss batch i slot ≡ slot
put_past i slot [] batch are = refl
put_past i slot (s ∷ ss) [] are = refl
put_past i slot (s ∷ ss) (row ∷ batch) are =
    ap (λ (b : Bool). if b then Some row else put_into ss batch i slot) (eq_other i s (λ same. absurd (omega (arith, same, are.0)))) ∙ put_past i slot ss batch are.1

map_past : (i t : ℕ) (ss : List ℕ) (row : Row) (batch : List Row) (slots : Slots) → t < i → map_at (put_into (t ∷ ss) (row ∷ batch)) i slots ≡ map_at (put_into ss batch) i slots
map_past i t ss row batch [] less = refl
map_past i t ss row batch (slot ∷ slots) less =
    cc (ap (λ (b : Bool). if b then Some row else put_into ss batch i slot) (eq_other i t (λ same. absurd (omega (arith, same, less)))), map_past (i + 1) t ss row batch slots (omega (arith, less)))

put_one : (i t : ℕ) (fs ss : List ℕ) (row : Row) (batch : List Row) (slots : Slots) → frees_from i slots ≡ t ∷ fs → AreFrom (t + 1) ss → map_at (put_into (t ∷ ss) (row ∷ batch)) i slots ≡ map_at (put_into ss batch) i (fill_first row slots)
put_one i t fs ss row batch [] is are = absurd (cc is)
put_one i t fs ss row batch (None ∷ slots) is are =
    let first : i ≡ t = cc is in
    let past : AreFrom (i + 1) ss = subst (λ (k : ℕ). AreFrom (k + 1) ss) (sym first) are in
    cc (ap (λ (b : Bool). if b then Some row else put_into ss batch i None) (eq_is i t first), put_past i (Some row) ss batch past, map_past (i + 1) t ss row batch slots (omega (arith, first)))
put_one i t fs ss row batch (Some o ∷ slots) is are =
    let after = first_from (i + 1) t fs slots is in
    cc (ap (λ (b : Bool). if b then Some row else put_into ss batch i (Some o)) (eq_other i t (λ same. absurd (omega (arith, same, after)))), put_one (i + 1) t fs ss row batch slots is are)

put_none : (i : ℕ) (ss : List ℕ) (slots : Slots) → map_at (put_into ss []) i slots ≡ slots
put_none i [] [] = refl
put_none i (s ∷ ss) [] = refl
put_none i [] (slot ∷ slots) = ap (λ (l : Slots). slot ∷ l) (put_none (i + 1) [] slots)
put_none i (s ∷ ss) (slot ∷ slots) = ap (λ (l : Slots). slot ∷ l) (put_none (i + 1) (s ∷ ss) slots)

-- a row that is taken has a free slot
record HasFree (slots : Slots) : Type 0 where
  first : ℕ
  others : List ℕ
  is : frees_from 0 slots ≡ first ∷ others

has_free : (slots : Slots) → length (rows slots) < length slots → HasFree slots
has_free slots some = go (frees_from 0 slots) refl
  where
    go : (fs : List ℕ) → frees_from 0 slots ≡ fs → HasFree slots
    go [] is = absurd (omega (arith, some, count_frees 0 slots, ap length is))
    go (t ∷ fs) is = record { first = t; others = fs; is = is }

few_rows : (slots : Slots) → length (rows slots) ≤ length slots
few_rows slots = omega (arith, count_frees 0 slots)

pub done_spare : (columns : Columns) (row : Row) (slots : Slots) → insert_answer columns row slots ≡ Done → length (rows slots) < length slots
done_spare columns row slots done = go (has_key (key_place columns) row (rows slots)) (length (rows slots) == length slots) refl refl
  where
    go : (b f : Bool) → has_key (key_place columns) row (rows slots) ≡ b → (length (rows slots) == length slots) ≡ f → length (rows slots) < length slots
    go true f key full = absurd (cc (done, ap (λ (b : Bool). if b then Duplicate else (if length (rows slots) == length slots then Full else Done)) key))
    go false true key full = absurd (cc (done, ap (λ (b : Bool). if b then Duplicate else (if length (rows slots) == length slots then Full else Done)) key, ap (λ (b : Bool). if b then Full else Done) full))
    go false false key full = let off = not_same (length (rows slots)) (length slots) full in omega (arith, few_rows slots, off)
      where
        not_same : (a b : ℕ) → (a == b) ≡ false → a ≢ b
        not_same a b is = λ same. cc (is, eq_is a b same)

-- all of them
pub filled : (columns : Columns) (batch : List Row) (n : ℕ) (slots : Slots) → length batch ≤ n → map_at (put_into (take n (frees_from 0 slots)) (taken_all columns batch slots)) 0 slots ≡ inserted_all columns batch slots
filled columns [] n slots most = put_none 0 (take n (frees_from 0 slots)) slots
filled columns (row ∷ batch) zero slots most = absurd (omega (arith, most))
filled columns (row ∷ batch) (suc n) slots most =
    go (insert_answer columns row slots) refl (filled columns batch (suc n) slots (omega (arith, most))) (λ next. filled columns batch n next (omega (arith, most)))
  where
    go : (a : Inserted) → insert_answer columns row slots ≡ a
        → map_at (put_into (take (suc n) (frees_from 0 slots)) (taken_all columns batch slots)) 0 slots ≡ inserted_all columns batch slots
        → ((next : Slots) → map_at (put_into (take n (frees_from 0 next)) (taken_all columns batch next)) 0 next ≡ inserted_all columns batch next)
        → map_at (put_into (take (suc n) (frees_from 0 slots)) (taken_one a row (taken_all columns batch (slots_after a row slots)))) 0 slots ≡ inserted_all columns batch (slots_after a row slots)
    go Duplicate is same rest = same
    go Full is same rest = same
    go Done is same rest =
        let free = has_free slots (done_spare columns row slots is) in
        let t = free.first in
        let fs = free.others in
        let next = fill_first row slots in
        let more = taken_all columns batch next in
        ap (λ (l : List ℕ). map_at (put_into (take (suc n) l) (row ∷ more)) 0 slots) free.is
        ∙ put_one 0 t fs (take n fs) row more slots free.is (take_from (t + 1) n fs (rest_from 0 t fs slots free.is))
        ∙ ap (λ (l : List ℕ). map_at (put_into (take n l) more) 0 next) (sym (frees_fill 0 t fs row slots free.is))
        ∙ rest next
