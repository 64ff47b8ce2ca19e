-- The rows that lie open in an access, and what the buffer knows of them.
use Rattle.std.specs.Prelude.{◌≡◌, ◌≢◌, ◌⊎◌, ◌<◌, ◌≤◌, ◌+◌, ◌*◌, ◌↔◌, ℕ, zero, suc, Bool, true, false, not, IsTrue, List, Option, Some, None, filter, length, take, drop, slice_index_or, slice_set}
use Rattle.std.specs.Bool.{MatchBool}
use Rattle.std.specs.Option.{option_map}
use Rattle.ob_base.specs.Schemas.{Columns}
use Rattle.ob_vault.specs.Rows.{row_at}
use Rattle.ob_row.specs.Rows.{Row}
use Rattle.ob_row.specs.Slots.{Slots}
use Rattle.ob_row.specs.Spelling.{Begins}
use Rattle.ob_path.specs.Rows.{rows, by_key, Single}
use Rattle.ob_tree.specs.Places.{lies_at, tests, NoneLies, StepDone, StepFull}
use Rattle.ob_tree.specs.Slotwise.{laid_slots, left_behind}
use Rattle.ob_oram.specs.declared.held.Held.{Held}

abbrev pub held_key : Held → ℕ
held_key held = held.key

abbrev pub held_leaf : Held → ℕ
held_leaf held = held.leaf

abbrev pub held_of : (key lf : Row → ℕ) → Row → Held
held_of key lf row = record { key = key row; leaf = lf row }

-- rows of one width
pub record IsBuffer (width : ℕ) (list : List (List ℕ)) : Type 0 where
  pub wide : (j : ℕ) → j < length list → length (row_at list j) ≡ width

-- the open rows spell these slots, and the buffer has the key and the leaf of each
pub record Sees (columns : Columns) (key lf : Row → ℕ) (slots : Slots)
    (buffer : List (Option Held)) (list : List (List ℕ)) : Type 0 where
  pub count : length slots ≡ length buffer
  pub same : length list ≡ length buffer
  pub begins : (j : ℕ) → j < length buffer
      → Begins columns (slice_index_or slots j None) (row_at list j)
  pub held : (j : ℕ) → slice_index_or buffer j None
      ≡ option_map (held_of key lf) (slice_index_or slots j None)

-- two entries of a list exchanged
abbrev pub turned : {A : Type 0} → A → List A → ℕ → ℕ → List A
turned d list i q =
    slice_set (slice_set list i (slice_index_or list q d)) q (slice_index_or list i d)

-- a slot has a row
pub record HasRow {R : Type 0} (slots : List (Option R)) (place : ℕ) : Type 0 where
  pub row : R
  pub is : slice_index_or slots place None ≡ Some row

-- slot i and one after it were exchanged: that had a row, or none from slot i on may lie at the height
pub record Turns {R : Type 0} (lf : R → ℕ) (leaf height i : ℕ)
    (slots after : List (Option R)) : Type 0 where
  pub place : ℕ
  pub low : i ≤ place
  pub high : place < length slots
  pub is : after ≡ turned None slots i place
  pub had : HasRow slots place ⊎ NoneLies lf leaf height slots i (length slots)

-- each slot from slot i on has a row, and none of these may lie at the height
pub record Stuck {R : Type 0} (lf : R → ℕ) (leaf height i : ℕ)
    (slots after : List (Option R)) : Type 0 where
  pub is : after ≡ slots
  pub none : NoneLies lf leaf height slots i (length slots)
  pub each : (k : ℕ) → i ≤ k → k < length slots → HasRow slots k

-- one slot got its row, or no row may lie there and no slot is empty
pub record Steps (key lf : Row → ℕ) (leaf height i : ℕ) (slots after : Slots)
    (done : Bool) : Type 0 where
  pub step : Single key (rows (drop i slots)) → MatchBool done
      (StepDone key lf leaf height i slots after)
      (StepFull key lf leaf height i slots)
  pub moved : MatchBool done (Turns lf leaf height i slots after)
      (Stuck lf leaf height i slots after)

-- a row that may lie at none of so many heights from the leaf up
abbrev pub lies_above : {R : Type 0} → (R → ℕ) → ℕ → ℕ → R → Bool
lies_above lf leaf zero row = true
lies_above lf leaf (suc height) row = not (lies_at lf leaf height row)

-- more rows may lie at none of some heights than there are slots, of n, after those of these heights
pub record IsCrowded {R : Type 0} (lf : R → ℕ) (leaf height n : ℕ) (list : List R) : Type 0 where
  pub heights : ℕ
  pub within : heights ≤ height + 1
  pub over : n < 4 * heights + length (filter (lies_above lf leaf heights) list)

-- each of n slots got its row, unless more rows are left than there are slots
pub record Places (key lf : Row → ℕ) (leaf height n : ℕ) (slots after : Slots)
    (done : Bool) : Type 0 where
  pub placed : Single key (rows slots) → IsTrue done
      → take n after ≡ laid_slots (tests lf leaf height 0 n) (by_key key (rows slots))
  pub full : Single key (rows slots) → IsTrue done
      ↔ (length (left_behind (tests lf leaf height 0 n) (by_key key (rows slots))) ≡ 0)
  -- also where two rows have one key, if each may lie in the root
  pub crowded : done ≡ false → ((row : Row) → lies_at lf leaf height row ≡ true)
      → IsCrowded lf leaf height n (rows slots)

-- no row of the buffer has this key
pub record NoneHas (key : ℕ) (buffer : List (Option Held)) : Type 0 where
  pub none : (j : ℕ) (held : Held) → slice_index_or buffer j None ≡ Some held → held.key ≢ key

-- the row at this place has it
pub record HasAt (key : ℕ) (buffer : List (Option Held)) (place : ℕ) : Type 0 where
  pub within : place < length buffer
  pub held : Held
  pub is : slice_index_or buffer place None ≡ Some held
  pub same : held.key ≡ key
