-- What UPDATE and DELETE make of each slot.
use Rattle.std.specs.Prelude.{ℕ, zero, suc, List, [], ◌∷◌, Option, Some, None, ⊤, IsSomeAnd, slice_get, slice_set, if◌then◌else◌, Bool, true, false}
use Rattle.std.specs.Option.{option_map}
use Rattle.ob_base.specs.Schemas.{Columns}
use Rattle.ob_row.specs.declared.cell.Cell.{Cell}
use Rattle.ob_row.specs.Condition.{Condition}
use Rattle.ob_row.specs.Rows.{Row, with_cells}
use Rattle.ob_row.specs.Slots.{is_selected, emptied}
use Rattle.ob_row.specs.Spelling.{FitsKind, FitsColumns}
use Rattle.ob_row.specs.Truth.{is_true, updated}
use Rattle.ob_flat.specs.Slots.{FitsSlot}

-- each cell is one of the column at its place
abbrev pub FitsSets : Columns → List (ℕ × Cell) → Type 0
FitsSets columns [] = ⊤
FitsSets columns (s ∷ sets) = IsSomeAnd (slice_get columns s.0) (λ c. FitsKind c.kind s.1) × FitsSets columns sets

-- an emptied slot is one of its table
pub emptied_fits : (columns : Columns) (p : Row → Bool) (slot : Option Row) → FitsSlot columns slot → FitsSlot columns (emptied p slot)
emptied_fits columns p slot fits = go (is_selected p slot)
  where
    go : (b : Bool) → FitsSlot columns (if b then None else slot)
    go true = tt
    go false = fits

-- so is one whose row has other cells, each of its column
set_fits : (columns : Columns) (row : Row) (i : ℕ) (x : Cell) → IsSomeAnd (slice_get columns i) (λ c. FitsKind c.kind x) → FitsColumns columns row → FitsColumns columns (slice_set row i x)
set_fits [] row i x fit fits = absurd fit
set_fits (c ∷ columns) [] i x fit fits = absurd fits
set_fits (c ∷ columns) (y ∷ row) zero x fit fits = (fit, fits.1)
set_fits (c ∷ columns) (y ∷ row) (suc i) x fit fits = (fits.0, set_fits columns row i x fit fits.1)

pub sets_fit : (columns : Columns) (sets : List (ℕ × Cell)) (row : Row) → FitsSets columns sets → FitsColumns columns row → FitsColumns columns (with_cells sets row)
sets_fit columns [] row fit fits = fits
sets_fit columns (s ∷ sets) row fit fits = sets_fit columns sets (slice_set row s.0 s.1) fit.1 (set_fits columns row s.0 s.1 fit.0 fits)

pub updated_fits : (columns : Columns) (p : Condition) (sets : List (ℕ × Cell)) (slot : Option Row) → FitsSets columns sets → FitsSlot columns slot → FitsSlot columns (option_map (updated p sets) slot)
updated_fits columns p sets None fit fits = fits
updated_fits columns p sets (Some row) fit fits = go (is_true p row)
  where
    go : (b : Bool) → FitsColumns columns (if b then with_cells sets row else row)
    go true = sets_fit columns sets row fit fits
    go false = fits
