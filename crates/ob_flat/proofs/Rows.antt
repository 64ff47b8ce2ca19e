-- The rows of a block and the slots that they spell.
use Rattle.std.proofs.Common.{◌≡◌, ◌≤◌, ◌<◌, ◌+◌, ◌*◌, ◌/◌, ℕ, zero, suc, List, [], ◌∷◌, ◌++◌, Option, Some, None, length, take, drop, slice_index_or, slice_set, replicate, get_or-set_same, get_or-set_other, below_more, ◌≢◌, refl, sym, ◌∙◌, ap, subst, arith, length-append}
use Rattle.std.proofs.lemmas.List.{take_at, drop_at, length-take-le, length-replicate, get_or-replicate}
use Rattle.std.specs.List.{All}
use Rattle.ob_base.specs.Schemas.{Columns, width}
use Rattle.ob_vault.specs.Rows.{joined, row_at, Wide, SameSizes}
use Rattle.ob_vault.specs.Places.{RowsFit}
use Rattle.ob_room.specs.RoomState.{clear}
use Rattle.ob_room.specs.Shelf.{AreWide}
use Rattle.ob_row.specs.Rows.{Row}
use Rattle.ob_row.specs.Spelling.{Begins, slot_bytes}
use Rattle.ob_row.proofs.SpellingLemmas.{length-row_bytes}
use Rattle.std.proofs.lemmas.Grind.{common_steps}
use Rattle.ob_blocks.specs.Blocks.{map_at}
use Rattle.ob_blocks.proofs.Blocks.{all_first, all_rest}
use Rattle.ob_blocks.proofs.Changes.{length-map_at, get-map_at}
use Rattle.ob_row.specs.Slots.{Slots}
use Rattle.ob_flat.specs.Slots.{FitsSlot, Spelt, AreSlots, block_bytes}

pub slot_size : (columns : Columns) (slot : Option Row) → FitsSlot columns slot → length (slot_bytes columns slot) ≡ width columns
slot_size columns None fits = length-replicate (width columns) 0
slot_size columns (Some row) fits = length-row_bytes columns row fits

pub block_size : (columns : Columns) (slots : Slots) → All (FitsSlot columns) slots → length (block_bytes columns slots) ≡ length slots * width columns
block_size columns [] fits = omega arith
block_size columns (slot ∷ slots) fits =
    let more : suc (length slots) * width columns ≡ width columns + length slots * width columns = grind arith in
    omega (arith, more, length-append (slot_bytes columns slot) (block_bytes columns slots), slot_size columns slot (all_first (FitsSlot columns) slot slots fits), block_size columns slots (all_rest (FitsSlot columns) slot slots fits))

-- rows that spell the slots of a block have its bytes
pub joined_spelt : (columns : Columns) (slots : Slots) (rows : List (List ℕ)) → Spelt columns slots rows → joined (width columns) rows ≡ block_bytes columns slots
joined_spelt columns [] [] spelt = refl
joined_spelt columns [] (row ∷ rows) spelt = absurd (omega (arith, spelt.count))
joined_spelt columns (slot ∷ slots) [] spelt = absurd (omega (arith, spelt.count))
joined_spelt columns (slot ∷ slots) (row ∷ rows) spelt =
    let rest : Spelt columns slots rows = record { count = omega (arith, spelt.count); each = λ j below. spelt.each (suc j) (omega arith) } in
    ap (λ (l : List ℕ). l ++ joined (width columns) rows) (spelt.each 0 (omega arith)).is ∙ ap (λ (l : List ℕ). slot_bytes columns slot ++ l) (joined_spelt columns slots rows rest)

each_spelt : (columns : Columns) (slot : Option Row) (slots : Slots) (row : List ℕ) (rows : List (List ℕ)) → Begins columns slot row → Spelt columns slots rows
    → (j : ℕ) → j < suc (length rows) → Begins columns (slice_index_or (slot ∷ slots) j None) (row_at (row ∷ rows) j)
each_spelt columns slot slots row rows first rest zero below = first
each_spelt columns slot slots row rows first rest (suc j) below = rest.each j (omega arith)

-- rows with the bytes of a block spell its slots
pub spelt_joined : (columns : Columns) (slots : Slots) (rows : List (List ℕ)) → Wide (width columns) rows → length slots ≡ length rows → All (FitsSlot columns) slots
    → joined (width columns) rows ≡ block_bytes columns slots → Spelt columns slots rows
spelt_joined columns [] [] wide size fits same = record { count = refl; each = λ j below. absurd (omega (arith, below)) }
spelt_joined columns [] (row ∷ rows) wide size fits same = absurd (omega (arith, size))
spelt_joined columns (slot ∷ slots) [] wide size fits same = absurd (omega (arith, size))
spelt_joined columns (slot ∷ slots) (row ∷ rows) wide size fits same =
    let w = width columns in
    let is = all_first (FitsSlot columns) slot slots fits in
    let here : length (take w row) ≡ w = length-take-le w row (wide.wide 0 (omega arith)) in
    let there = slot_size columns slot is in
    let first : take w row ≡ slot_bytes columns slot = sym (take_at (take w row) (joined w rows) w here) ∙ ap (take w) same ∙ take_at (slot_bytes columns slot) (block_bytes columns slots) w there in
    let others : joined w rows ≡ block_bytes columns slots = sym (drop_at (take w row) (joined w rows) w here) ∙ ap (drop w) same ∙ drop_at (slot_bytes columns slot) (block_bytes columns slots) w there in
    let narrow : Wide w rows = record { wide = λ j below. wide.wide (suc j) (omega arith) } in
    let rest = spelt_joined columns slots rows narrow (omega (arith, size)) (all_rest (FitsSlot columns) slot slots fits) others in
    record { count = size; each = each_spelt columns slot slots row rows (record { fits = is; is = first }) rest }

-- the slots of rows that each spell one
pub slots_of : (columns : Columns) (rows : List (List ℕ)) → ((j : ℕ) → j < length rows → (slot : Option Row) × Begins columns slot (row_at rows j)) → AreSlots columns rows
slots_of columns [] each = record { slots = []; spelt = record { count = refl; each = λ j below. absurd (omega (arith, below)) } }
slots_of columns (row ∷ rows) each =
    let first = each 0 (omega arith) in
    let rest = slots_of columns rows (λ j below. each (suc j) (omega arith)) in
    record {
      slots = first.0 ∷ rest.slots;
      spelt = record { count = ap suc rest.spelt.count; each = each_spelt columns first.0 rest.slots row rows first.1 rest.spelt };
    }

pub spelt_fits : (columns : Columns) (slots : Slots) (rows : List (List ℕ)) → Spelt columns slots rows → All (FitsSlot columns) slots
spelt_fits columns [] rows spelt = λ j d below. absurd (omega (arith, below))
spelt_fits columns (slot ∷ slots) [] spelt = absurd (omega (arith, spelt.count))
spelt_fits columns (slot ∷ slots) (row ∷ rows) spelt =
    let rest : Spelt columns slots rows = record { count = omega (arith, spelt.count); each = λ j below. spelt.each (suc j) (omega arith) } in
    go (spelt.each 0 (omega arith)).fits (spelt_fits columns slots rows rest)
  where
    go : FitsSlot columns slot → All (FitsSlot columns) slots → (j : ℕ) (d : Option Row) → j < suc (length slots) → FitsSlot columns (slice_index_or (slot ∷ slots) j d)
    go first rest zero d below = first
    go first rest (suc j) d below = rest j d (omega arith)

pub wide_same : (w : ℕ) (a b : List (List ℕ)) → SameSizes a b → Wide w a → Wide w b
wide_same w a b same wide = record { wide = λ j below. omega (arith, same.sizes j, wide.wide j (omega (arith, same.count))) }

pub width_each : (n w : ℕ) → 1 ≤ n → (n * w) / n ≡ w
width_each n w some = grind arith

cancels : (n v w : ℕ) → 1 ≤ n → n * v ≡ n * w → v ≡ w
cancels n v w some same = sym (width_each n v some) ∙ ap (λ (k : ℕ). k / n) same ∙ width_each n w some

-- the rows of a block are as wide as its schema
pub wide_fit : (w : ℕ) (rows : List (List ℕ)) → RowsFit rows (length rows * w) → Wide w rows
wide_fit w rows fit =
    let same : fit.each ≡ w = cancels (length rows) fit.each w fit.some fit.whole in
    record { wide = λ j below. omega (arith, same, fit.wide.wide j below) }

pub row_is : (rows : List (List ℕ)) (i : ℕ) (x : List ℕ) → i < length rows → slice_index_or rows i x ≡ row_at rows i
row_is rows i x below = grind (arith, common_steps)

-- one row of a list is written
module _ (columns : Columns) (rows : List (List ℕ)) (z : ℕ) (x : List ℕ) (below : z < length rows) where
  pub row_same : row_at (slice_set rows z x) z ≡ x
  row_same = get_or-set_same rows z x [] below

  pub row_other : (j : ℕ) → j ≢ z → row_at (slice_set rows z x) j ≡ row_at rows j
  row_other j off = get_or-set_other rows z j x [] off

  pub spells_more : (P : ℕ → List ℕ → Type 0) → ((j : ℕ) → j < z → P j (row_at rows j)) → P z x → (j : ℕ) → j < z + 1 → P j (row_at (slice_set rows z x) j)
  spells_more P before here = below_more _ _
      (λ j h. subst (P j) (sym (row_other j (λ same. absurd (omega (arith, same, h))))) (before j h))
      (subst (P z) (sym row_same) here)

-- the changed rows spell the changed slots
pub spelt_changed : (columns : Columns) (f : ℕ → Option Row → Option Row) (first z : ℕ) (slots : Slots) (rows : List (List ℕ)) → length slots ≡ length rows → length rows ≤ z
    → ((j : ℕ) → j < z → Begins columns (f (first + j) (slice_index_or slots j None)) (row_at rows j)) → Spelt columns (map_at f first slots) rows
spelt_changed columns f first z slots rows size all each = record {
  count = length-map_at f first slots ∙ size;
  each = λ j below. subst (λ (s : Option Row). Begins columns s (row_at rows j)) (sym (get-map_at f first j slots None (omega arith))) (each j (omega arith));
}

-- rows that were as wide as each other are so still
pub same_wide : (w n : ℕ) (rows : List (List ℕ)) → SameSizes (replicate n (clear w)) rows → AreWide w rows
same_wide w n rows same = all_wide w rows (λ j below. same.sizes j ∙ ap length (get_or-replicate n j (clear w) [] (omega (arith, below, same.count, length-replicate n (clear w)))) ∙ length-replicate w 0)
  where
    all_wide : (w : ℕ) (rows : List (List ℕ)) → ((j : ℕ) → j < length rows → length (row_at rows j) ≡ w) → AreWide w rows
    all_wide w [] each = refl
    all_wide w (row ∷ rows) each = cc (each 0 (omega arith), all_wide w rows (λ j below. each (suc j) (omega arith)))
