-- Rows that are kept.
use Rattle.std.proofs.Common.{◌≡◌, ◌≢◌, ◌≤◌, ◌<◌, ◌+◌, ◌-◌, ℕ, List, [], ◌∷◌, ◌++◌, Option, None, length, take, slice_index_or, slice_set, inl, inr, sym, ◌∙◌, ap, subst, arith, length-append}
use Rattle.std.proofs.lemmas.List.{get_or-take, get_or_past, get_or_append_left, length-set, length-take}
use Rattle.std.proofs.Math.Seq.{get_or-append_right}
use Rattle.std.proofs.lemmas.Bool.{cases_eq, cases_lt}
use Rattle.ob_base.specs.Schemas.{Columns}
use Rattle.ob_vault.specs.Rows.{row_at}
use Rattle.ob_row.specs.Rows.{Row}
use Rattle.ob_row.specs.Slots.{Slots}
use Rattle.ob_row.specs.Spelling.{Begins}
use Rattle.ob_flat.specs.Slots.{AreSlots}
use Rattle.ob_flat.proofs.Rows.{slots_of, row_same, row_other}
use Rattle.ob_small.specs.Keeping.{AreKept}

-- what stands after them is empty
pub at_taken : (k i : ℕ) (slots : Slots) → k ≤ i → slice_index_or (take k slots) i None ≡ None
at_taken k i slots past = get_or_past (take k slots) i None (omega (arith, length-take k slots))

-- one slot more, at another place and at its own
at_push : (k i : ℕ) (slots : Slots) (slot : Option Row) → i ≢ length slots → slice_index_or (take k (slots ++ slot ∷ [])) i None ≡ slice_index_or (take k slots) i None
at_push k i slots slot off = elim (cases_lt i k) [
  | inl inside ↦ get_or-take k (slots ++ slot ∷ []) i None inside ∙ pushed ∙ sym (get_or-take k slots i None inside)
  | inr past ↦ at_taken k i (slots ++ slot ∷ []) past ∙ sym (at_taken k i slots past)
]
  where
    pushed : slice_index_or (slots ++ slot ∷ []) i None ≡ slice_index_or slots i None
    pushed = elim (cases_lt i (length slots)) [
      | inl less ↦ get_or_append_left slots (slot ∷ []) None i less
      | inr more ↦ get_or_past (slots ++ slot ∷ []) i None (omega (arith, length-append slots (slot ∷ []))) ∙ sym (get_or_past slots i None more)
    ]

at_pushed : (k : ℕ) (slots : Slots) (slot : Option Row) (i : ℕ) → i ≡ length slots → i < k → slice_index_or (take k (slots ++ slot ∷ [])) i None ≡ slot
at_pushed k slots slot i same inside =
    let first : i - length slots ≡ 0 = omega arith in
    get_or-take k (slots ++ slot ∷ []) i None inside ∙ get_or-append_right slots (slot ∷ []) i None (omega arith) ∙ ap (λ (n : ℕ). slice_index_or (slot ∷ []) n None) first

module _ (columns : Columns) (slots : Slots) (slot : Option Row) (from k : ℕ) (rows : List (List ℕ)) (keeps : AreKept columns slots from k rows) where
  -- a row that isn't kept
  pub keeps_off : ((i : ℕ) → i < length rows → from + i ≡ length slots → k ≤ from + i) → AreKept columns (slots ++ slot ∷ []) from k rows
  keeps_off off = record {
    each = λ i below. subst (λ (s : Option Row). Begins columns s (row_at rows i)) (sym (elim (cases_eq (from + i) (length slots)) [
      | inl same ↦ at_taken k (from + i) (slots ++ slot ∷ []) (off i below same) ∙ sym (at_taken k (from + i) slots (off i below same))
      | inr other ↦ at_push k (from + i) slots slot other
    ])) (keeps.each i below);
  }

  -- one that is
  pub keeps_on : (i : ℕ) (row : List ℕ) → i < length rows → from + i ≡ length slots → from + i < k → Begins columns slot row → AreKept columns (slots ++ slot ∷ []) from k (slice_set rows i row)
  keeps_on i row inside here below begins = record {
    each = λ j within. elim (cases_eq j i) [
      | inl same ↦
          let is : slice_index_or (take k (slots ++ slot ∷ [])) (from + j) None ≡ slot = at_pushed k slots slot (from + j) (omega arith) (omega arith) in
          let put : row_at (slice_set rows i row) j ≡ row = ap (row_at (slice_set rows i row)) same ∙ row_same columns rows i row inside in
          subst (λ (s : Option Row). Begins columns s (row_at (slice_set rows i row) j)) (sym is) (subst (Begins columns slot) (sym put) begins)
      | inr other ↦
          let is = at_push k (from + j) slots slot (λ e. other (omega (arith, e))) in
          let put = row_other columns rows i row inside j other in
          subst (λ (s : Option Row). Begins columns s (row_at (slice_set rows i row) j)) (sym is) (subst (Begins columns (slice_index_or (take k slots) (from + j) None)) (sym put) (keeps.each j (omega (arith, within, length-set rows i row))))
    ];
  }

-- rows of which one is written spell slots still
pub slots_put : (columns : Columns) (rows : List (List ℕ)) (i : ℕ) (row : List ℕ) → i < length rows → AreSlots columns rows → ((slot : Option Row) × Begins columns slot row) → AreSlots columns (slice_set rows i row)
slots_put columns rows i row inside are begins = slots_of columns (slice_set rows i row) (λ j within. elim (cases_eq j i) [
  | inl same ↦ (begins.0, subst (Begins columns begins.0) (sym (ap (row_at (slice_set rows i row)) same ∙ row_same columns rows i row inside)) begins.1)
  | inr other ↦ (slice_index_or are.slots j None, subst (Begins columns (slice_index_or are.slots j None)) (sym (row_other columns rows i row inside j other)) (are.spelt.each j (omega (arith, within, length-set rows i row))))
])

-- nothing is kept of no slots
pub keeps_none : (columns : Columns) (from k : ℕ) (rows : List (List ℕ)) → ((i : ℕ) → i < length rows → Begins columns None (row_at rows i)) → AreKept columns [] from k rows
keeps_none columns from k rows none = record {
  each = λ i below. subst (λ (s : Option Row). Begins columns s (row_at rows i)) (sym (get_or_past (take k []) (from + i) None (omega (arith, length-take {A = Option Row} k [])))) (none i below);
}
