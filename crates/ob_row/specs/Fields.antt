-- What the bytes of one cell hold.
use Rattle.std.specs.Prelude.{◌≡◌, ℕ, ◌-◌, List, ◌∷◌, ◌++◌, length, replicate}
use Rattle.ob_base.specs.declared.schema.Kind.{Kind}
use Rattle.ob_row.specs.declared.cell.Cell.{Cell}
use Rattle.ob_row.specs.Spelling.{FitsText, FitsKind, cell_bytes}

-- the text's length, its bytes, and zeros up to the end
pub record HoldsText (text field : List ℕ) : Type 0 where
  pub fits : FitsText (length field - 1) text
  pub is : field ≡ length text ∷ (text ++ replicate (length field - 1 - length text) 0)

pub record HoldsCell (kind : Kind) (cell : Cell) (field : List ℕ) : Type 0 where
  pub fits : FitsKind kind cell
  pub is : field ≡ cell_bytes kind cell
