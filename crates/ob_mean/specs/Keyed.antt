-- What a statement that names a key asks of an index.
use Rattle.std.specs.Prelude.{ℕ, ℤ, List, Option, Some, None}
use Rattle.std.specs.Option.{option_map}
use Rattle.ob_base.specs.declared.schema.Heading.{Heading}
use Rattle.ob_base.specs.declared.skeleton.Source.{Source}
use Rattle.ob_base.specs.declared.skeleton.Source.TheVariants.{Table as OneTable, Join}
use Rattle.ob_path.specs.Access.{Op, Get, Insert as InsertOp, Change, Remove}
use Rattle.ob_row.specs.declared.cell.Cell.{Cell}
use Rattle.ob_row.specs.Keys.{key_number}
use Rattle.ob_row.specs.Rows.{Row, with_cells}
use Rattle.ob_sql.specs.declared.stmt.Stmt.{Stmt}
use Rattle.ob_sql.specs.declared.stmt.Stmt.TheVariants.{Create, Insert, Update, Delete, Drop as DropTable, SelectRows as RowsStmt, SelectTotals as TotalsStmt}
use Rattle.ob_mean.specs.Refusals.{key_asked}
use Rattle.ob_mean.specs.Step.{new_row, set_cells}

-- the row of a key; a row put in; cells of the row of a key set; the row of a key taken out
pub data Ask : Type 0 where
  Find : ℤ → Ask
  Put : Row → Ask
  Set : ℤ → List (ℕ × Cell) → Ask
  Take : ℤ → Ask

-- its operation among n keys
abbrev pub op_of : (n : ℕ) → Ask → Op Row
op_of n (Find z) = Get (key_number n z)
op_of n (Put row) = InsertOp row
op_of n (Set z sets) = Change (key_number n z) (with_cells sets)
op_of n (Take z) = Remove (key_number n z)

-- what a statement asks of an index with this heading, where it names a key
abbrev pub ask_of : Heading → Stmt → Option Ask
ask_of h (Create table columns capacity shape) = None
ask_of h (Insert table columns values) = Some (Put (new_row h.schema columns values))
ask_of h (Update table sets cond) = option_map (λ z. Set z (set_cells sets h.schema)) (key_asked h.schema cond)
ask_of h (Delete table cond) = option_map Take (key_asked h.schema cond)
ask_of h (DropTable table) = None
ask_of h (RowsStmt s) = option_map Find (key_asked h.schema s.cond)
ask_of h (TotalsStmt s) = None

-- the one table of a source
abbrev pub one_table : Source → Option (List ℕ)
one_table (OneTable name) = Some name
one_table (Join a b on equals) = None

-- the table whose rows a statement reads or changes by a key
abbrev pub keyed_name : Stmt → Option (List ℕ)
keyed_name (Create table columns capacity shape) = None
keyed_name (Insert table columns values) = Some table
keyed_name (Update table sets cond) = Some table
keyed_name (Delete table cond) = Some table
keyed_name (DropTable table) = None
keyed_name (RowsStmt s) = one_table s.source
keyed_name (TotalsStmt s) = None
