-- What the bytes of all cells of a row hold.
use Rattle.std.specs.Prelude.{◌≡◌, ℕ, List}
use Rattle.ob_base.specs.Schemas.{Columns}
use Rattle.ob_row.specs.Rows.{Row}
use Rattle.ob_row.specs.Spelling.{FitsColumns, cells_bytes}

pub record HoldsCells (columns : Columns) (row : Row) (bytes : List ℕ) : Type 0 where
  pub fits : FitsColumns columns row
  pub is : bytes ≡ cells_bytes columns row
