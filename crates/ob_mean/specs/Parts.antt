-- The parts of a statement that its refusals ask for.
use Rattle.std.specs.Prelude.{ℕ, List, [], Option, Some, None, unwrap_or}
use Rattle.std.specs.Option.{option_map}
use Rattle.std.specs.Borrow.{Bor}
use Rattle.ob_base.specs.declared.schema.Shape.{Shape}
use Rattle.ob_base.specs.declared.skeleton.ColumnName.{ColumnName}
use Rattle.ob_base.specs.declared.skeleton.NewColumn.{NewColumn}
use Rattle.ob_base.specs.declared.skeleton.Source.{Source}
use Rattle.ob_base.specs.declared.skeleton.Source.TheVariants.{Table as OneTable, Join}
use Rattle.ob_sql.specs.Search.{Search}
use Rattle.ob_sql.specs.declared.stmt.Literal.{Literal}
use Rattle.ob_sql.specs.declared.stmt.Listed.{Listed}
use Rattle.ob_sql.specs.declared.stmt.Set.{Set}
use Rattle.ob_sql.specs.declared.stmt.Stmt.{Stmt}
use Rattle.ob_sql.specs.declared.stmt.Stmt.TheVariants.{Create, Insert, Update, Delete, Drop as DropTable, SelectRows as RowsStmt, SelectTotals as TotalsStmt}
use Rattle.ob_mean.specs.declared.parts.Created.{Created}
use Rattle.ob_mean.specs.declared.parts.Given.{Given}
use Rattle.ob_mean.specs.declared.parts.Tables.{Tables}
use Rattle.ob_mean.specs.declared.parts.Tables.TheVariants.{Nothing, One, Joined}
use Rattle.ob_mean.specs.declared.parts.Parts.{Parts as PartsHeld}

-- a table that is to be new
pub record NewTable : Type 0 where
  pub name : List ℕ
  pub columns : List NewColumn
  pub capacity : ℕ
  pub shape : Shape

-- the row of an INSERT
pub record NewRow : Type 0 where
  pub names : Option (List (List ℕ))
  pub values : List Literal

-- its tables, and what it creates, gives, sets, compares and lists
pub record Parts : Type 0 where
  pub created : Option NewTable
  pub source : Option Source
  pub given : Option NewRow
  pub sets : List Set
  pub cond : Option Search
  pub columns : List ColumnName
  pub items : List Listed
  pub group : Option ColumnName

abbrev pub no_parts : Parts
no_parts = record { created = None; source = None; given = None; sets = []; cond = None; columns = []; items = []; group = None }

abbrev pub parts_of : Stmt → Parts
parts_of (Create table columns capacity shape) = record no_parts { created = Some (record { name = table; columns = columns; capacity = capacity; shape = shape }) }
parts_of (Insert table columns values) = record no_parts { source = Some (OneTable table); given = Some (record { names = columns; values = values }) }
parts_of (Update table sets cond) = record no_parts { source = Some (OneTable table); sets = sets; cond = cond }
parts_of (Delete table cond) = record no_parts { source = Some (OneTable table); cond = cond }
parts_of (DropTable table) = record no_parts { source = Some (OneTable table) }
parts_of (RowsStmt s) = record no_parts { source = Some s.source; cond = s.cond; columns = unwrap_or s.list [] }
parts_of (TotalsStmt s) = record no_parts { source = Some (OneTable s.table); cond = s.cond; items = s.items; group = s.group }

-- ---- as a view of a statement holds them
abbrev pub behind : {A : Type 0} → Option (Bor A) → Option A
behind held = option_map (λ r. r.now) held

abbrev pub created_in : Option Created → Option NewTable
created_in created = option_map (λ (t : Created). record { name = t.name.now; columns = t.columns.now; capacity = t.capacity; shape = t.shape }) created

abbrev pub source_in : Tables → Option Source
source_in Nothing = None
source_in (One name) = Some (OneTable name.now)
source_in (Joined left right on equals) = Some (Join left.now right.now on.now equals.now)

abbrev pub given_in : Option Given → Option NewRow
given_in given = option_map (λ (g : Given). record { names = g.names.now; values = g.values.now }) given

abbrev pub parts_in : PartsHeld → Parts
parts_in p = record {
  created = created_in p.created;
  source = source_in p.tables;
  given = given_in p.given;
  sets = p.sets.now;
  cond = behind p.cond;
  columns = p.columns.now;
  items = p.items.now;
  group = behind p.group;
}
