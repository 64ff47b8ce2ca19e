-- The selected rows, and those of them that a pass keeps.
use Rattle.std.specs.Prelude.{◌≡◌, ◌<◌, ◌≤◌, ℕ, ◌+◌, ◌++◌, ◌∷◌, [], Bool, List, Option, None, Result, IfOk, OnOk, OnErr, length, take, filter, slice_index_or}
use Rattle.ob_base.specs.Schemas.{Columns}
use Rattle.ob_vault.specs.Rows.{row_at}
use Rattle.ob_row.specs.Rows.{Row}
use Rattle.ob_row.specs.Slots.{Slots, is_selected}
use Rattle.ob_row.specs.Spelling.{Begins}
use Rattle.ob_blocks.specs.Blocks.{up_to}
use Rattle.ob_flat.specs.Slots.{Spelt, AreSlots}

-- the slots whose row passes the test, in order
abbrev pub chosen : (Row → Bool) → Slots → Slots
chosen p slots = filter (is_selected p) slots

-- k slots: what is too much is dropped, and empty ones stand for what is missing
abbrev pub fitted : ℕ → Slots → Slots
fitted k slots = up_to k (take k slots)

-- the rows spell the first k of these slots from number `from` on, and empty ones after them
pub record AreKept (columns : Columns) (slots : Slots) (from k : ℕ)
    (rows : List (List ℕ)) : Type 0 where
  pub each : (i : ℕ) → i < length rows
      → Begins columns (slice_index_or (take k slots) (from + i) None) (row_at rows i)

-- a selected row, before which there are so many, was kept where its number is one of those that are
pub record KeepsRow (columns : Columns) (row : List ℕ) (seen from k : ℕ)
    (old new : List (List ℕ)) : Type 0 where
  pub spells : (slot : Option Row) × Begins columns slot row
      → AreSlots columns old → AreSlots columns new
  pub told : (slot : Option Row) (before : Slots) → Begins columns slot row
      → seen ≡ length before → AreKept columns before from k old
      → AreKept columns (before ++ slot ∷ []) from k new

-- the selected ones of these rows were kept, and counted with those before them; rows that spell no
-- slots are refused, and no others
pub record KeepsRows {E : Type 0} (p : Row → Bool) (columns : Columns) (rows : List (List ℕ))
    (seen from k : ℕ) (result : Result ℕ E) (old new : List (List ℕ)) : Type 0 where
  pub most : IfOk result (λ n. n ≤ seen + length rows)
  pub read : OnOk result (AreSlots columns rows)
  pub malformed : OnErr result ((slots : Slots) → Spelt columns slots rows → ⊥)
  pub spells : OnOk result (AreSlots columns old → AreSlots columns new)
  pub told : (before slots : Slots) → Spelt columns slots rows
      → seen ≡ length before → AreKept columns before from k old
      → IfOk result (λ n. (n ≡ length (before ++ chosen p slots))
      × AreKept columns (before ++ chosen p slots) from k new)
