-- What a value stands for.
use Rattle.ob_row.specs.declared.cell.Cell.{Cell}
use Rattle.ob_row.specs.declared.cell.Cell.TheVariants.{Int, Text}
use Rattle.ob_row.specs.declared.value.Value.{Value}
use Rattle.ob_row.specs.declared.value.Value.TheVariants.{Int as IntValue, Text as TextValue}

-- the cell with the same integer, or the same bytes
abbrev pub cell_of : Value → Cell
cell_of (IntValue x) = Int x
cell_of (TextValue t) = Text t.now
