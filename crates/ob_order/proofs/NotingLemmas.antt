-- A table's row that is noted at the first of the rows with its key.
use Rattle.std.proofs.Common.{◌≡◌, ◌≢◌, ◌<◌, ◌≤◌, ◌&&◌, ◌||◌, ℕ, Bool, true, false, nat_lt, if◌then◌else◌, List, [], ◌∷◌, Option, Some, None, inl, inr, length, take, drop, slice_index_or, slice_set, refl, sym, ◌∙◌, ap, arith, get_or-set_same, get_or-set_other, length-set}
use Rattle.std.specs.Prelude.{bytes_eq}
use Rattle.std.specs.Cmp.Lexicographic.{bytes_decides}
use Rattle.std.specs.List.{position, position_or_len}
use Rattle.std.proofs.lemmas.Bool.{cases_eq}
use Rattle.std.proofs.lemmas.Bool.Decides.{nat_tests}
use Rattle.std.proofs.lemmas.List.Quantifiers.{position-Some}
use Rattle.std.proofs.lemmas.List.Sums.{position_or_len_is, fails_before_first}
use Rattle.ob_order.specs.Orders.{field_at, has_field, has_key, is_marked, mark_at, noted, IsFirstAlike, IsFirstRow, KnowsKeys, NoRowHas}

less : (i n : ℕ) → i < n → nat_lt i n ≡ true
less i n below = grind (arith, nat_tests)

past : (i n : ℕ) → n ≤ i → nat_lt i n ≡ false
past i n beyond = grind (arith, nat_tests)

not_less : (i n : ℕ) → nat_lt i n ≡ false → n ≤ i
not_less i n is = grind (arith, nat_tests)

-- the first of them that passes, or none
module _ {X : Type 0} (p : X → Bool) (xs : List X) (d : X) where
  pub first_position : (i : ℕ) → i < length xs → p (slice_index_or xs i d) ≡ true → ((j : ℕ) → j < i → p (slice_index_or xs j d) ≡ false) → position p xs ≡ Some i
  first_position i inside has before =
      let at : position_or_len p xs ≡ i = position_or_len_is p xs i d (omega (arith, inside)) before (λ _. has) in
      ap (λ (k : ℕ). if nat_lt k (length xs) then Some k else None) at ∙ ap (λ (b : Bool). if b then Some i else None) (less i (length xs) inside)

  pub no_position : ((j : ℕ) → j < length xs → p (slice_index_or xs j d) ≡ false) → position p xs ≡ None
  no_position never =
      let n = length xs in
      let at : position_or_len p xs ≡ n = position_or_len_is p xs n d (omega arith) never (λ below. absurd (omega (arith, below))) in
      ap (λ (k : ℕ). if nat_lt k n then Some k else None) at ∙ ap (λ (b : Bool). if b then Some n else None) (past n n (omega arith))

  pub passes_nowhere : position p xs ≡ None → (j : ℕ) → j < length xs → p (slice_index_or xs j d) ≡ false
  passes_nowhere is j below = go (nat_lt (position_or_len p xs) (length xs)) refl
    where
      go : (b : Bool) → nat_lt (position_or_len p xs) (length xs) ≡ b → p (slice_index_or xs j d) ≡ false
      go true e = absurd (cc (is, ap (λ (b : Bool). if b then Some (position_or_len p xs) else None) e))
      go false e = fails_before_first p xs j d (omega (arith, below, not_less (position_or_len p xs) (length xs) e))

-- where the rows are no dummies
module _ (at len : ℕ) (rows : List (List ℕ)) (key : List ℕ) (size : length key ≡ len) (marked : (q : ℕ) → q < length rows → is_marked (slice_index_or rows q []) ≡ true) where
  tells : (q : ℕ) → q < length rows → has_field at key (slice_index_or rows q []) ≡ bytes_eq (field_at at len rows q) key
  tells q inside =
      ap (λ (b : Bool). b && bytes_eq (take (length key) (drop at (slice_index_or rows q []))) key) (marked q inside)
      ∙ ap (λ (n : ℕ). bytes_eq (take n (drop at (slice_index_or rows q []))) key) size

  is_off : (b : Bool) → (b ≡ true → ⊥) → b ≡ false
  is_off true never = absurd (never refl)
  is_off false never = refl

  pub noted_knows : (keys : List (List ℕ)) (there : List Bool) → KnowsKeys at len rows keys there → KnowsKeys at len rows (key ∷ keys) (noted at key rows there)
  noted_knows keys there known = go (position (has_field at key) rows) refl
    where
      go : (o : Option ℕ) → position (has_field at key) rows ≡ o → KnowsKeys at len rows (key ∷ keys) (mark_at o there)
      go None is = record {
        size = known.size;
        knows = λ i j inside first.
            let off : bytes_eq (field_at at len rows i) key ≡ false = sym (tells i inside) ∙ passes_nowhere (has_field at key) rows [] is i inside in
            known.knows i j inside first ∙ sym (ap (λ (b : Bool). b || has_key (field_at at len rows i) keys) off);
      }
      go (Some p) is = record {
        size = length-set there p true ∙ known.size;
        knows = λ i j inside first. elim (cases_eq j p) [
          | inl same ↦ here i j inside first same
          | inr other ↦ beside i j inside first other
        ];
      }
        where
          found : (p < length rows) × (has_field at key (slice_index_or rows p []) ≡ true) × ((k : ℕ) → k < p → has_field at key (slice_index_or rows k []) ≡ false)
          found = position-Some (has_field at key) rows p [] is

          is_key : field_at at len rows p ≡ key
          is_key = (bytes_decides (field_at at len rows p) key).0 (sym (tells p found.0) ∙ found.1)

          here : (i j : ℕ) → i < length rows → IsFirstAlike at len rows i j → j ≡ p → slice_index_or (slice_set there p true) j false ≡ has_key (field_at at len rows i) (key ∷ keys)
          here i j inside first same =
              let on : bytes_eq (field_at at len rows i) key ≡ true = (bytes_decides (field_at at len rows i) key).1 (sym first.same ∙ ap (field_at at len rows) same ∙ is_key) in
              ap (λ (k : ℕ). slice_index_or (slice_set there p true) k false) same
              ∙ get_or-set_same there p true false (omega (arith, found.0, known.size))
              ∙ sym (ap (λ (b : Bool). b || has_key (field_at at len rows i) keys) on)

          beside : (i j : ℕ) → i < length rows → IsFirstAlike at len rows i j → j ≢ p → slice_index_or (slice_set there p true) j false ≡ has_key (field_at at len rows i) (key ∷ keys)
          beside i j inside first other =
              let off : bytes_eq (field_at at len rows i) key ≡ false = is_off (bytes_eq (field_at at len rows i) key) (λ on.
              let own : field_at at len rows i ≡ key = (bytes_decides (field_at at len rows i) key).0 on in
              let early : j ≤ p = first.first p found.0 (is_key ∙ sym own) in
              let too : has_field at key (slice_index_or rows j []) ≡ true = tells j first.inside ∙ (bytes_decides (field_at at len rows j) key).1 (first.same ∙ own) in
              elim (cases_eq j p) [
                | inl same ↦ other same
                | inr apart ↦ absurd (cc (too, found.2 j (omega (arith, early, apart))))
              ]) in
              get_or-set_other there p j true false other
              ∙ known.knows i j inside first
              ∙ sym (ap (λ (b : Bool). b || has_key (field_at at len rows i) keys) off)

-- the place that was looked up
pub place_is : (at : ℕ) (key : List ℕ) (rows : List (List ℕ)) (i : ℕ) → IsFirstRow at key rows i → position (has_field at key) rows ≡ Some i
place_is at key rows i first = first_position (has_field at key) rows [] i first.inside first.has first.before

pub place_none : (at : ℕ) (key : List ℕ) (rows : List (List ℕ)) → NoRowHas at key rows → position (has_field at key) rows ≡ None
place_none at key rows none = no_position (has_field at key) rows [] none
