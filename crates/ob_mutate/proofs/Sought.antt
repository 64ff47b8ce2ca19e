-- Which row goes to the slot of an index.
use Rattle.std.proofs.Common.{◌≡◌, ◌≢◌, ◌<◌, ◌≤◌, ◌+◌, ◌==◌, ℕ, zero, suc, Bool, true, false, if◌then◌else◌, List, [], ◌∷◌, Option, Some, length, slice_index_or, refl, sym, ◌∙◌, ap, arith}
use Rattle.std.proofs.lemmas.Bool.Decides.{nat_tests}
use Rattle.ob_row.specs.Rows.{Row}
use Rattle.ob_mutate.specs.Batches.{AreAscending, ArePlaces, put_into}

eq_is : (a b : ℕ) → a ≡ b → (a == b) ≡ true
eq_is a b same = grind (arith, nat_tests)

eq_other : (a b : ℕ) → a ≢ b → (a == b) ≡ false
eq_other a b off = grind (arith, nat_tests)

-- numbers that rise
lowest : (from below : ℕ) (is : List ℕ) → AreAscending from below is → (j : ℕ) → j < length is → from ≤ slice_index_or is j 0
lowest from below [] rise j inside = absurd (omega (arith, inside))
lowest from below (i ∷ is) rise zero inside = rise.0
lowest from below (i ∷ is) rise (suc j) inside = omega (arith, rise.0, lowest (i + 1) below is rise.1 j (omega (arith, inside)))

pub rising : (from below : ℕ) (is : List ℕ) → AreAscending from below is → (i j : ℕ) → i ≤ j → j < length is → slice_index_or is i 0 ≤ slice_index_or is j 0
rising from below [] rise i j less inside = absurd (omega (arith, inside))
rising from below (k ∷ is) rise zero zero less inside = omega arith
rising from below (k ∷ is) rise zero (suc j) less inside = omega (arith, lowest (k + 1) below is rise.1 j (omega (arith, inside)))
rising from below (k ∷ is) rise (suc i) zero less inside = absurd (omega (arith, less))
rising from below (k ∷ is) rise (suc i) (suc j) less inside = rising (k + 1) below is rise.1 i j (omega (arith, less)) (omega (arith, inside))

-- the slot stands at a place
module _ (i : ℕ) (slot : Option Row) where
  pub put_found : (from below k : ℕ) (free : List ℕ) (rows : List Row) → AreAscending from below free → k < length free → slice_index_or free k 0 ≡ i → k < length rows → put_into free rows i slot ≡ Some (slice_index_or rows k [])
  put_found from below k [] rows rise inside is has = absurd (omega (arith, inside))
  put_found from below k (s ∷ ss) [] rise inside is has = absurd (omega (arith, has))
  put_found from below zero (s ∷ ss) (row ∷ rows) rise inside is has =
      ap (λ (b : Bool). if b then Some row else put_into ss rows i slot) (eq_is i s (sym is))
  put_found from below (suc k) (s ∷ ss) (row ∷ rows) rise inside is has =
      let past = lowest (s + 1) below ss rise.1 k (omega (arith, inside)) in
      ap (λ (b : Bool). if b then Some row else put_into ss rows i slot) (eq_other i s (λ same. absurd (omega (arith, past, is, same))))
      ∙ put_found (s + 1) below k ss rows rise.1 (omega (arith, inside)) is (omega (arith, has))

  pub put_behind : (from below k : ℕ) (free : List ℕ) (rows : List Row) → AreAscending from below free → k < length free → slice_index_or free k 0 ≡ i → length rows ≤ k → put_into free rows i slot ≡ slot
  put_behind from below k [] rows rise inside is past = refl
  put_behind from below k (s ∷ ss) [] rise inside is past = refl
  put_behind from below zero (s ∷ ss) (row ∷ rows) rise inside is past = absurd (omega (arith, past))
  put_behind from below (suc k) (s ∷ ss) (row ∷ rows) rise inside is past =
      let more = lowest (s + 1) below ss rise.1 k (omega (arith, inside)) in
      ap (λ (b : Bool). if b then Some row else put_into ss rows i slot) (eq_other i s (λ same. absurd (omega (arith, more, is, same))))
      ∙ put_behind (s + 1) below k ss rows rise.1 (omega (arith, inside)) is (omega (arith, past))

  -- or at none
  pub put_absent : (free : List ℕ) (rows : List Row) → ((k : ℕ) → k < length free → slice_index_or free k 0 ≢ i) → put_into free rows i slot ≡ slot
  put_absent [] rows off = refl
  put_absent (s ∷ ss) [] off = refl
  put_absent (s ∷ ss) (row ∷ rows) off =
      ap (λ (b : Bool). if b then Some row else put_into ss rows i slot) (eq_other i s (λ same. off 0 (omega arith) (sym same)))
      ∙ put_absent ss rows (λ k inside. off (suc k) (omega (arith, inside)))

-- each of them is a place
pub place_inside : (n : ℕ) (is : List ℕ) → ArePlaces n is → (k : ℕ) → k < length is → slice_index_or is k 0 < n
place_inside n [] places k inside = absurd (omega (arith, inside))
place_inside n (i ∷ is) places zero inside = places.0
place_inside n (i ∷ is) places (suc k) inside = place_inside n is places.1 k (omega (arith, inside))

-- nothing is put past the slots
ascending_room : (from below : ℕ) (is : List ℕ) → AreAscending from below is → from ≤ below
ascending_room from below [] rise = rise
ascending_room from below (i ∷ is) rise = omega (arith, rise.0, ascending_room (i + 1) below is rise.1)

pub put_above : (from below i : ℕ) (slot : Option Row) (free : List ℕ) (rows : List Row) → AreAscending from below free → below ≤ i → put_into free rows i slot ≡ slot
put_above from below i slot [] rows rise past = refl
put_above from below i slot (s ∷ ss) [] rise past = refl
put_above from below i slot (s ∷ ss) (row ∷ rows) rise past =
    ap (λ (b : Bool). if b then Some row else put_into ss rows i slot) (eq_other i s (λ same. absurd (omega (arith, same, past, ascending_room (s + 1) below ss rise.1))))
    ∙ put_above (s + 1) below i slot ss rows rise.1 past
