-- Rows of a batch that are answered one after the other.
use Rattle.std.proofs.Common.{◌≡◌, ◌<◌, ◌≤◌, ◌+◌, ◌++◌, ℕ, List, [], ◌∷◌, length, take, drop, slice_index_or, slice_set, length-append, append_assoc, refl, sym, ◌∙◌, ap, arith}
use Rattle.std.proofs.lemmas.List.{append-nil, drop_all, drop_more, map-append, take_all, take_more_set}
use Rattle.ob_base.specs.Schemas.{Columns}
use Rattle.ob_row.specs.Rows.{Row}
use Rattle.ob_row.specs.Slots.{Slots}
use Rattle.ob_mutate.specs.declared.inserting.Inserted.{Inserted}
use Rattle.ob_mutate.specs.declared.inserting.Inserted.TheVariants.{Done, Duplicate, Full}
use Rattle.ob_mutate.specs.Inserting.{insert_answer}
use Rattle.ob_mutate.specs.Batches.{ArePlaces, insert_answers, inserted_one, rows_of, taken_after, taken_all, taken_one}

-- one more of them is a place too
places_push : (n i : ℕ) (is : List ℕ) → i < n → ArePlaces n is → ArePlaces n (is ++ i ∷ [])
places_push n i [] inside places = (inside, tt)
places_push n i (j ∷ is) inside places = (places.0, places_push n i is inside places.1)

pub places_more : (n i : ℕ) (is : List ℕ) (a : Inserted) → i < n → ArePlaces n is → ArePlaces n (taken_after a i is)
places_more n i is Done inside places = places_push n i is inside places
places_more n i is Duplicate inside places = places
places_more n i is Full inside places = places

pub few_more : (i : ℕ) (is : List ℕ) (a : Inserted) → length is ≤ i → length (taken_after a i is) ≤ i + 1
few_more i is Done few = omega (arith, few, length-append is (i ∷ []))
few_more i is Duplicate few = omega (arith, few)
few_more i is Full few = omega (arith, few)

module _ (columns : Columns) (batch : List Row) where
  abbrev row_at : ℕ → Row
  row_at i = slice_index_or batch i []

  taken_more : (i : ℕ) (is : List ℕ) (a : Inserted) (rest : List Row) → rows_of batch is ++ taken_one a (row_at i) rest ≡ rows_of batch (taken_after a i is) ++ rest
  taken_more i is Done rest =
      let part = λ (j : ℕ). slice_index_or batch j [] in
      sym (append_assoc (rows_of batch is) (row_at i ∷ []) rest) ∙ ap (λ (l : List Row). l ++ rest) (sym (map-append part is (i ∷ [])))
  taken_more i is Duplicate rest = refl
  taken_more i is Full rest = refl

  pub record AreServed (slots now : Slots) (i : ℕ) (out : List Inserted) (is : List ℕ) : Type 0 where
    pub answers : insert_answers columns batch slots ≡ take i out ++ insert_answers columns (drop i batch) now
    pub taken : taken_all columns batch slots ≡ rows_of batch is ++ taken_all columns (drop i batch) now

  pub one_served : (slots now : Slots) (i : ℕ) (out : List Inserted) (is : List ℕ) (a : Inserted) → i < length batch → i < length out → a ≡ insert_answer columns (row_at i) now
      → AreServed slots now i out is → AreServed slots (inserted_one columns (row_at i) now) (i + 1) (slice_set out i a) (taken_after a i is)
  one_served slots now i out is a inside room same was =
      let split : drop i batch ≡ row_at i ∷ drop (i + 1) batch = drop_more batch i [] inside in
      let next = inserted_one columns (row_at i) now in
      let rest = insert_answers columns (drop (i + 1) batch) next in
      let more = taken_all columns (drop (i + 1) batch) next in
      record {
        answers = was.answers
            ∙ ap (λ (l : List Row). take i out ++ insert_answers columns l now) split
            ∙ ap (λ (x : Inserted). take i out ++ (x ∷ rest)) (sym same)
            ∙ sym (append_assoc (take i out) (a ∷ []) rest)
            ∙ ap (λ (l : List Inserted). l ++ rest) (sym (take_more_set out i a room));
        taken = was.taken
            ∙ ap (λ (l : List Row). rows_of batch is ++ taken_all columns l now) split
            ∙ ap (λ (x : Inserted). rows_of batch is ++ taken_one x (row_at i) more) (sym same)
            ∙ taken_more i is a more;
      }

  pub none_served : (slots : Slots) (out : List Inserted) (is : List ℕ) → is ≡ [] → AreServed slots slots 0 out is
  none_served slots out is none = record { answers = refl; taken = sym (ap (λ (l : List ℕ). rows_of batch l ++ taken_all columns batch slots) none) }

  pub all_served : (slots now : Slots) (i : ℕ) (out : List Inserted) (is : List ℕ) → length batch ≤ i → length out ≤ i → AreServed slots now i out is
      → (out ≡ insert_answers columns batch slots) × (rows_of batch is ≡ taken_all columns batch slots)
  all_served slots now i out is past most was =
      let none : drop i batch ≡ [] = drop_all i batch past in (
        sym (was.answers ∙ ap (λ (l : List Row). take i out ++ insert_answers columns l now) none ∙ append-nil (take i out) ∙ take_all i out most),
        sym (was.taken ∙ ap (λ (l : List Row). rows_of batch is ++ taken_all columns l now) none ∙ append-nil (rows_of batch is)),
      )
