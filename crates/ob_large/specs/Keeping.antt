-- The slots whose row isn't selected, emptied.
use Rattle.std.specs.Prelude.{Bool, true, false, Option, None, if◌then◌else◌}
use Rattle.ob_base.specs.Schemas.{Columns}
use Rattle.ob_row.specs.Rows.{Row}
use Rattle.ob_row.specs.Slots.{is_selected, kept}
use Rattle.ob_flat.specs.Slots.{FitsSlot}

-- such a slot is one of its table
pub kept_fits : (columns : Columns) (p : Row → Bool) (slot : Option Row)
    → FitsSlot columns slot → FitsSlot columns (kept p slot)
kept_fits columns p slot fits = go (is_selected p slot)
  where
    go : (b : Bool) → FitsSlot columns (if b then slot else None)
    go true = fits
    go false = tt
