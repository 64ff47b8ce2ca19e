-- Where the selected places are consecutive, no later one goes over an earlier one.
use Rattle.std.proofs.Common.{◌≡◌, ◌≢◌, ◌≤◌, ◌<◌, ◌+◌, ◌-◌, ◌*◌, ◌%◌, ◌/◌, ◌==◌, ◌&&◌, ℕ, zero, suc, Bool, true, false, IsTrue, List, [], ◌∷◌, ◌++◌, Option, Some, None, length, cond, slice_index_or, slice_set, find, inl, inr, refl, sym, ◌∙◌, ap, arith, length-append, append_assoc, get_or-set_same, get_or-set_other}
use Rattle.std.specs.Option.{option_and_then}
use Rattle.std.proofs.lemmas.List.{ext_get_or, length-replicate, length-set, get_or-replicate, get_or_append_left}
use Rattle.std.proofs.Math.Seq.{get_or-append_right}
use Rattle.std.proofs.lemmas.Bool.Decides.{nat_tests}
use Rattle.std.proofs.lemmas.Bool.{cases_lt, cases_eq}
use Rattle.std.proofs.lemmas.Nat.{div-add-mod'}
use Rattle.ob_vault.proofs.RowsLemmas.{rows_room}
use Rattle.ob_base.specs.Lists.{places_from, tabulate}
use Rattle.ob_row.specs.Rows.{Row}
use Rattle.ob_row.specs.Results.{RowTest, continuous_slots}
use Rattle.ob_row.specs.Slots.{Slots, slot_at, is_selected, selected, is_consecutive}
use Rattle.ob_blocks.specs.Blocks.{none_of, scanned}
use Rattle.ob_cont.specs.Putting.{put_if, put_at, put_slots}

-- the rows of these places, one after the other
abbrev put_places : ℕ → Slots → Slots → List ℕ → Slots
put_places k slots made [] = made
put_places k slots made (i ∷ is) = put_places k slots (slice_set made (i % k) (slot_at slots i)) is

-- the slot after the first ones
at_seam : (first : Slots) (s : Option Row) (slots : Slots) → slot_at (first ++ s ∷ slots) (length first) ≡ s
at_seam [] None slots = refl
at_seam [] (Some row) slots = refl
at_seam (x ∷ first) s slots = at_seam first s slots

-- a slot after the other puts the selected ones
behind : (k : ℕ) (p : RowTest) (first made slots : Slots)
    → scanned (put_at k p) (length first) made slots ≡ put_places k (first ++ slots) made (places_from (length first) (is_selected p) slots)
behind k p first made [] = refl
behind k p first made (s ∷ slots) =
    let all : (first ++ s ∷ []) ++ slots ≡ first ++ s ∷ slots = append_assoc first (s ∷ []) slots in
    let next : length (first ++ s ∷ []) ≡ suc (length first) = omega (arith, length-append first (s ∷ [])) in
    let more : length first + 1 ≡ length (first ++ s ∷ []) = omega (arith, length-append first (s ∷ [])) in
    let rest : (b : Bool) → scanned (put_at k p) (length first + 1) (put_if b (length first % k) s made) slots ≡ put_places k (first ++ s ∷ slots) (put_if b (length first % k) s made) (places_from (suc (length first)) (is_selected p) slots) =
    λ b. ap (λ (n : ℕ). scanned (put_at k p) n (put_if b (length first % k) s made) slots) more
    ∙ behind k p (first ++ s ∷ []) (put_if b (length first % k) s made) slots
    ∙ ap (λ (l : Slots). put_places k l (put_if b (length first % k) s made) (places_from (length (first ++ s ∷ [])) (is_selected p) slots)) all
    ∙ ap (λ (n : ℕ). put_places k (first ++ s ∷ slots) (put_if b (length first % k) s made) (places_from n (is_selected p) slots)) next in
    elim (is_selected p s) as (λ b. scanned (put_at k p) (length first + 1) (put_if b (length first % k) s made) slots
    ≡ put_places k (first ++ s ∷ slots) made (cond b (length first ∷ places_from (suc (length first)) (is_selected p) slots) (places_from (suc (length first)) (is_selected p) slots))) [
      | true ↦ rest true ∙ ap (λ (x : Option Row). put_places k (first ++ s ∷ slots) (slice_set made (length first % k) x) (places_from (suc (length first)) (is_selected p) slots)) (sym (at_seam first s slots))
      | false ↦ rest false
    ]

-- the slot of the place that was found, or another
abbrev found_or : Slots → Option Row → Option ℕ → Option Row
found_or slots other None = other
found_or slots other (Some i) = slot_at slots i

-- no two of them are the same modulo k
abbrev AreApart : ℕ → List ℕ → Type 0
AreApart k [] = Unit {0}
AreApart k (i ∷ is) = (find (λ j. j % k == i % k) is ≡ None) × AreApart k is

-- what a test of two numbers says
pub same_test : (a b : ℕ) → a ≡ b → (a == b) ≡ true
same_test a b same = grind (arith, nat_tests)

pub other_test : (a b : ℕ) → a ≢ b → (a == b) ≡ false
other_test a b other = grind (arith, nat_tests)

-- then each place has what was put there
put_places_at : (k : ℕ) (slots made : Slots) (is : List ℕ) (x : ℕ) → x < length made → AreApart k is → slice_index_or (put_places k slots made is) x None ≡ found_or slots (slice_index_or made x None) (find (λ i. i % k == x) is)
put_places_at k slots made [] x below apart = refl
put_places_at k slots made (i ∷ is) x below apart =
    let set = slice_set made (i % k) (slot_at slots i) in
    let rest = put_places_at k slots set is x (omega (arith, below, length-set made (i % k) (slot_at slots i))) apart.1 in
    elim (cases_eq (i % k) x) [
      | inl same ↦
          let there : slice_index_or set x None ≡ slot_at slots i = ap (λ (n : ℕ). slice_index_or (slice_set made n (slot_at slots i)) x None) same ∙ get_or-set_same made x (slot_at slots i) None below in
          let none : find (λ j. j % k == x) is ≡ None = ap (λ (n : ℕ). find (λ j. j % k == n) is) (sym same) ∙ apart.0 in
          rest ∙ ap (found_or slots (slice_index_or set x None)) none ∙ there ∙ sym (ap (λ (b : Bool). found_or slots (slice_index_or made x None) (cond b (Some i) (find (λ j. j % k == x) is))) (same_test (i % k) x same))
      | inr other ↦
          let there : slice_index_or set x None ≡ slice_index_or made x None = get_or-set_other made (i % k) x (slot_at slots i) None (λ e. other (sym e)) in
          rest ∙ ap (λ (o : Option Row). found_or slots o (find (λ j. j % k == x) is)) there
          ∙ sym (ap (λ (b : Bool). found_or slots (slice_index_or made x None) (cond b (Some i) (find (λ j. j % k == x) is))) (other_test (i % k) x other))
    ]

pub within : (a b k : ℕ) → a ≤ b → a * k ≤ b * k
within a b k fits = grind arith

-- two numbers less than k apart differ modulo k
mod_apart : (k i j : ℕ) → i < j → j < i + k → j % k ≢ i % k
mod_apart k i j less near same =
    let a = div-add-mod' i k in
    let b = div-add-mod' j k in
    apart (i / k) (j / k) a b
  where
    apart : (q r : ℕ) → q * k + i % k ≡ i → r * k + j % k ≡ j → ⊥
    apart q r a b = elim (cases_lt q r) [
      | inl more ↦
          let fits : q * k + k ≤ r * k = rows_room q r k more in
          absurd (omega (arith, a, b, fits, same))
      | inr most ↦
          let fits : r * k ≤ q * k = within r q k most in
          absurd (omega (arith, a, b, fits, same))
    ]

both : (a b : Bool) → IsTrue (a && b) → IsTrue a × IsTrue b
both true true is = (refl, refl)
both true false is = absurd cc
both false b is = absurd cc

is_same : (a b : ℕ) → IsTrue (a == b) → a ≡ b
is_same a b is = grind (arith, nat_tests)

-- the places after place i, fewer than k, are none that is the same modulo k
none_behind : (k i last : ℕ) (is : List ℕ) → i ≤ last → IsTrue (is_consecutive (last ∷ is)) → last + length is < i + k → find (λ j. j % k == i % k) is ≡ None
none_behind k i last [] past is_one few = refl
none_behind k i last (j ∷ is) past next few =
    let parts = both (j == last + 1) (is_consecutive (j ∷ is)) next in
    let step : j ≡ last + 1 = is_same j (last + 1) parts.0 in
    let here = other_test (j % k) (i % k) (mod_apart k i j (omega arith) (omega arith)) in
    ap (λ (b : Bool). cond b (Some j) (find (λ j. j % k == i % k) is)) here ∙ none_behind k i j is (omega arith) parts.1 (omega arith)

consecutive_apart : (k : ℕ) (is : List ℕ) → IsTrue (is_consecutive is) → length is ≤ k → AreApart k is
consecutive_apart k [] one few = tt
consecutive_apart k (i ∷ []) one few = (refl, tt)
consecutive_apart k (i ∷ j ∷ is) next few =
    let parts = both (j == i + 1) (is_consecutive (j ∷ is)) next in
    (none_behind k i i (j ∷ is) (omega arith) next (omega arith), consecutive_apart k (j ∷ is) parts.1 (omega arith))

length-tabulate : {A : Type 0} (n : ℕ) (f : ℕ → A) → length (tabulate n f) ≡ n
length-tabulate zero f = refl
length-tabulate (suc n) f = omega (arith, length-append (tabulate n f) (f n ∷ []), length-tabulate n f)

get-tabulate : (n : ℕ) (f : ℕ → Option Row) (x : ℕ) → x < n → slice_index_or (tabulate n f) x None ≡ f x
get-tabulate zero f x below = absurd (omega arith)
get-tabulate (suc n) f x below = elim (cases_lt x n) [
  | inl less ↦ get_or_append_left (tabulate n f) (f n ∷ []) None x (omega (arith, less, length-tabulate n f)) ∙ get-tabulate n f x less
  | inr past ↦
      let last : x ≡ n = omega arith in
      let first : x - length (tabulate n f) ≡ 0 = omega (arith, last, length-tabulate n f) in
      get_or-append_right (tabulate n f) (f n ∷ []) x None (omega (arith, last, length-tabulate n f)) ∙ ap (λ (m : ℕ). slice_index_or (f n ∷ []) m None) first ∙ ap f (sym last)
]

found_none : (slots : Slots) (o : Option ℕ) → found_or slots None o ≡ option_and_then (slot_at slots) o
found_none slots None = refl
found_none slots (Some i) = refl

pub length-put_if : (b : Bool) (x : ℕ) (slot : Option Row) (made : Slots) → length (put_if b x slot made) ≡ length made
length-put_if true x slot made = length-set made x slot
length-put_if false x slot made = refl

pub length-put : (k : ℕ) (p : RowTest) (i : ℕ) (made slots : Slots) → length (scanned (put_at k p) i made slots) ≡ length made
length-put k p i made [] = refl
length-put k p i made (s ∷ slots) = length-put k p (i + 1) (put_at k p made i s) slots ∙ length-put_if (is_selected p s) (i % k) s made

pub length-put_slots : (k : ℕ) (p : RowTest) (slots : Slots) → length (put_slots k p slots) ≡ k
length-put_slots k p slots = length-put k p 0 (none_of k) slots ∙ length-replicate {A = Option Row} k None

-- place i mod k has the row of the selected place i, the only one that goes there
pub put_consecutive : (k : ℕ) (p : RowTest) (slots : Slots) → IsTrue (is_consecutive (selected p slots)) → length (selected p slots) ≤ k → put_slots k p slots ≡ continuous_slots k p slots
put_consecutive k p slots consecutive few =
    ext_get_or None (put_slots k p slots) (continuous_slots k p slots) (length-put_slots k p slots ∙ sym (length-tabulate k _)) (λ x below.
    let inside : x < k = omega (arith, below, length-put_slots k p slots) in
    let none : slice_index_or (none_of k) x None ≡ None = get_or-replicate k x None None inside in
    ap (λ (l : Slots). slice_index_or l x None) (behind k p [] (none_of k) slots)
    ∙ put_places_at k slots (none_of k) (selected p slots) x (omega (arith, inside, length-replicate {A = Option Row} k None)) (consecutive_apart k (selected p slots) consecutive few)
    ∙ ap (λ (o : Option Row). found_or slots o (find (λ i. i % k == x) (selected p slots))) none
    ∙ found_none slots (find (λ i. i % k == x) (selected p slots))
    ∙ sym (get-tabulate k (λ x. option_and_then (slot_at slots) (find (λ i. i % k == x) (selected p slots))) x inside))
