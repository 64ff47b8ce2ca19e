-- The condition of a WHERE, by the places of its columns.
use Rattle.std.specs.Prelude.{[], Option, Some, None}
use Rattle.ob_base.specs.Schemas.{Columns}
use Rattle.ob_row.specs.Condition.{Condition, All, Compare, Not, And, Or}
use Rattle.ob_row.specs.declared.pred.Operand.{Operand}
use Rattle.ob_row.specs.declared.pred.Operand.TheVariants.{Cell as CellOperand, Column as ColumnOperand}
use Rattle.ob_row.specs.declared.cell.Cell.{Cell}
use Rattle.ob_row.specs.declared.cell.Cell.TheVariants.{Int, Text}
use Rattle.ob_sql.specs.declared.stmt.Literal.{Literal}
use Rattle.ob_sql.specs.declared.stmt.Literal.TheVariants.{Int as IntLiteral, OutOfRange, Text as TextLiteral, TooLong}
use Rattle.ob_sql.specs.declared.stmt.Against.{Against}
use Rattle.ob_sql.specs.declared.stmt.Against.TheVariants.{Literal as LiteralAgainst, Column as ColumnAgainst}
use Rattle.ob_sql.specs.Search.{Search, Compare as CompareSearch, Not as NotSearch, And as AndSearch, Or as OrSearch}
use Rattle.ob_names.specs.Names.{place_of}

-- a literal that no cell holds is refused before, and stands for an empty text
abbrev pub literal_cell : Literal → Cell
literal_cell (IntLiteral x) = Int x
literal_cell OutOfRange = Text []
literal_cell (TextLiteral t) = Text t
literal_cell TooLong = Text []

abbrev pub operand_at : Against → Columns → Operand
operand_at (LiteralAgainst x) cs = CellOperand (literal_cell x)
operand_at (ColumnAgainst name) cs = ColumnOperand (place_of name cs)

-- a condition of the grammar, by the places of its columns
abbrev pub condition_at : Search → Columns → Condition
condition_at (CompareSearch name op y) cs = Compare (place_of name cs) op (operand_at y cs)
condition_at (NotSearch p) cs = Not (condition_at p cs)
condition_at (AndSearch p q) cs = And (condition_at p cs) (condition_at q cs)
condition_at (OrSearch p q) cs = Or (condition_at p cs) (condition_at q cs)

-- no WHERE selects every row
abbrev pub where_at : Option Search → Columns → Condition
where_at None cs = All
where_at (Some p) cs = condition_at p cs
