-- Rows of a block of which one is written.
use Rattle.std.proofs.Common.{◌≡◌, ◌≤◌, ◌<◌, ℕ, List, [], Option, None, length, slice_index_or, slice_set, get_or-set_same, get_or-set_other, inl, inr, sym, ◌∙◌, ap, subst, arith}
use Rattle.std.proofs.lemmas.List.{length-set, set_past}
use Rattle.std.proofs.lemmas.Bool.{cases_eq}
use Rattle.ob_base.specs.Schemas.{Columns}
use Rattle.ob_vault.specs.Rows.{row_at}
use Rattle.ob_row.specs.Rows.{Row}
use Rattle.ob_row.specs.Slots.{Slots}
use Rattle.ob_row.specs.Spelling.{Begins}
use Rattle.ob_flat.specs.Slots.{Spelt, AreSlots}

module _ (columns : Columns) (rows : List (List ℕ)) (z : ℕ) (row : List ℕ) (there : Option Row) (begins : Begins columns there row) where
  -- they spell the slots with one set
  pub spelt_put : (slots : Slots) → z < length rows → Spelt columns slots rows → Spelt columns (slice_set slots z there) (slice_set rows z row)
  spelt_put slots inside spelt = record {
    count = omega (arith, length-set slots z there, length-set rows z row, spelt.count);
    each = λ j within. elim (cases_eq j z) [
      | inl same ↦
          let slot : slice_index_or (slice_set slots z there) j None ≡ there = ap (λ (n : ℕ). slice_index_or (slice_set slots z there) n None) same ∙ get_or-set_same slots z there None (omega (arith, inside, spelt.count)) in
          let put : row_at (slice_set rows z row) j ≡ row = ap (row_at (slice_set rows z row)) same ∙ get_or-set_same rows z row [] inside in
          subst (λ (s : Option Row). Begins columns s (row_at (slice_set rows z row) j)) (sym slot) (subst (Begins columns there) (sym put) begins)
      | inr other ↦
          let slot : slice_index_or (slice_set slots z there) j None ≡ slice_index_or slots j None = get_or-set_other slots z j there None other in
          let put : row_at (slice_set rows z row) j ≡ row_at rows j = get_or-set_other rows z j row [] other in
          subst (λ (s : Option Row). Begins columns s (row_at (slice_set rows z row) j)) (sym slot)
          (subst (Begins columns (slice_index_or slots j None)) (sym put) (spelt.each j (omega (arith, within, length-set rows z row))))
    ];
  }

  pub slots_put : z < length rows → AreSlots columns rows → AreSlots columns (slice_set rows z row)
  slots_put inside are = record { slots = slice_set are.slots z there; spelt = spelt_put are.slots inside are.spelt }

-- a slot past them is none of theirs
pub spelt_past : (columns : Columns) (rows : List (List ℕ)) (z : ℕ) (there : Option Row) (slots : Slots) → length rows ≤ z → Spelt columns slots rows → Spelt columns (slice_set slots z there) rows
spelt_past columns rows z there slots past spelt = subst (λ (l : Slots). Spelt columns l rows) (sym (set_past slots z there (omega (arith, past, spelt.count)))) spelt
