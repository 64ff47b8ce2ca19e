-- Cells that are to stand in the columns of a table.
use Rattle.std.specs.Prelude.{ℕ}
use Rattle.ob_row.specs.declared.cell.Cell.{Cell}
use Rattle.ob_row.specs.Spelling.{IsCell}

-- the place of a column, and what a cell holds
abbrev pub IsSet : ℕ × Cell → Type 0
IsSet s = IsCell s.1
