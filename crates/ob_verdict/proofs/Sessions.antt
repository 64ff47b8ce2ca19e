-- Statements and sessions of small tables.
use Rattle.std.proofs.Common.{ℕ, List, [], ◌∷◌, ◌++◌}
use Rattle.std.specs.Prelude.{false, Option, Some, None, Ok, codes, pos, map}
use Rattle.ob_base.specs.declared.access.Access.{Access}
use Rattle.ob_base.specs.declared.config.Public.{Public}
use Rattle.ob_base.specs.declared.config.Plan.{Plan}
use Rattle.ob_base.specs.declared.config.Planner.{Planner}
use Rattle.ob_base.specs.declared.config.Planner.TheVariants.{Auto, Forced}
use Rattle.ob_base.specs.declared.schema.Shape.TheVariants.{Flat}
use Rattle.ob_base.specs.declared.shown.Shown.{Shown}
use Rattle.ob_base.specs.declared.shown.Shown.TheVariants.{Int as I}
use Rattle.ob_base.specs.declared.skeleton.ColumnName.{ColumnName}
use Rattle.ob_base.specs.declared.skeleton.NewColumn.{NewColumn}
use Rattle.ob_base.specs.declared.skeleton.NewKind.TheVariants.{Int as NewInt}
use Rattle.ob_base.specs.declared.skeleton.Source.TheVariants.{Table as OneTable, Join}
use Rattle.ob_row.specs.declared.cell.Cell.TheVariants.{Int}
use Rattle.ob_base.specs.declared.comparison.ComparisonOperator.{ComparisonOperator}
use Rattle.ob_row.specs.Rows.{Row}
use Rattle.ob_row.specs.Slots.{Slots}
use Rattle.ob_sql.specs.declared.stmt.Literal.{Literal}
use Rattle.ob_sql.specs.declared.stmt.Literal.TheVariants.{Int as IntLiteral}
use Rattle.ob_sql.specs.declared.stmt.Against.TheVariants.{Literal as LiteralAgainst}
use Rattle.ob_sql.specs.declared.stmt.Listed.{Listed}
use Rattle.ob_sql.specs.declared.stmt.Stmt.TheVariants.{Create, Insert, Update, SelectRows as RowsStmt, SelectTotals as TotalsStmt}
use Rattle.ob_sql.specs.Search.{Search, Compare}
use Rattle.ob_script.specs.Trace.{trace}
use Rattle.ob_mean.specs.declared.answer.Answer.{Answer}
use Rattle.ob_verdict.specs.Laws.{result_of}
use Rattle.ob_mean.specs.Replay.{Spelt, Session, Broken, answers, all_served, after_all, first_session}
use Rattle.ob_base.specs.Publics.{first_public}

abbrev pub col : List ℕ → ColumnName
col n = record { table = None; column = n }

abbrev pub of_table : List ℕ → List ℕ → ColumnName
of_table t n = record { table = Some t; column = n }

abbrev pub t : List ℕ
t = codes "t"

abbrev pub u : List ℕ
u = codes "u"

abbrev pub id : List ℕ
id = codes "id"

abbrev pub v : List ℕ
v = codes "v"

abbrev pub int : ℕ → Literal
int x = IntLiteral (pos x)

abbrev pub compare : List ℕ → ComparisonOperator → ℕ → Search
compare c op x = Compare (col c) op (LiteralAgainst (int x))

abbrev pub column : List ℕ → ℕ → NewColumn
column name keys = record { name = name; kind = NewInt; keys = keys }

abbrev pub create_t : Spelt
create_t = Ok (Create t (column id 1 ∷ column v 0 ∷ []) 4 Flat)

abbrev pub insert : List ℕ → ℕ → ℕ → Spelt
insert table x y = Ok (Insert table None (int x ∷ int y ∷ []))

-- a table with four rows, of which two are alike in v
abbrev pub four_rows : List Spelt
four_rows = create_t ∷ insert t 1 10 ∷ insert t 2 20 ∷ insert t 3 10 ∷ insert t 4 20 ∷ []

-- and beside it one with two
abbrev pub two_tables : List Spelt
two_tables = four_rows ++ Ok (Create u (column (codes "k") 0 ∷ column (codes "w") 0 ∷ []) 3 Flat) ∷ insert u 1 7 ∷ insert u 1 8 ∷ []

abbrev pub select_where : Option Search → Spelt
select_where c = Ok (RowsStmt (record { list = None; source = OneTable t; cond = c }))

abbrev pub select_columns : List ColumnName → Spelt
select_columns xs = Ok (RowsStmt (record { list = Some xs; source = OneTable t; cond = None }))

abbrev pub select_items : List Listed → Option Search → Option ColumnName → Spelt
select_items xs c g = Ok (TotalsStmt (record { items = xs; table = t; cond = c; group = g }))

abbrev pub join_on : ColumnName → ColumnName → Option (List ColumnName) → Option Search → Spelt
join_on a b xs c = Ok (RowsStmt (record { list = xs; source = Join t u a b; cond = c }))

abbrev pub update_v : ℕ → Option Search → Spelt
update_v x c = Ok (Update t (record { column = v; value = int x } ∷ []) c)

-- what is public before the first statement, by these settings
abbrev pub by_settings : (buffer depth pack : ℕ) → Planner → (pad : Option ℕ) → Public
by_settings buffer depth pack planner pad =
    first_public (record { buffer = buffer; depth = depth; pack = pack; planner = planner; pad = pad; stash = 32; keep = false; save = false; batch = None; max_input = 1048576 })

abbrev pub by_four : Public
by_four = by_settings 4 5 1 Auto None

abbrev pub forced : Plan → (depth : ℕ) → Public
forced plan depth = by_settings 4 depth 1 (Forced plan) None

-- two rows in each block
abbrev pub in_pairs : Planner → (depth : ℕ) → Public
in_pairs planner depth = by_settings 7 depth 2 planner None

abbrev pub trace_of : Public → List Spelt → Broken → List Access
trace_of p texts broken = trace p (all_served (first_session p) texts broken)

abbrev pub answers_of : Public → List Spelt → List Answer
answers_of p texts = answers (first_session p) texts []

abbrev pub asked_by : Public → List Spelt → ℕ
asked_by p texts = (after_all (first_session p) texts []).asked

-- what the last text answers, and what it asks
abbrev pub last_answers : Public → List Spelt → List Spelt → List Answer
last_answers p setup texts = answers (after_all (first_session p) setup []) texts []

abbrev pub last_trace : Public → List Spelt → List Spelt → List Access
last_trace p setup texts = let s = after_all (first_session p) setup [] in trace s.public (all_served s texts [])

-- the slots of the result of a SELECT of rows
abbrev pub result_in : Session → Spelt → Slots
result_in s (Ok (RowsStmt q)) = result_of s.public s.tables q
result_in s _ = []

abbrev pub result_after : Public → List Spelt → Spelt → Slots
result_after p setup x = result_in (after_all (first_session p) setup []) x

abbrev pub row_of : ℕ → ℕ → Row
row_of x y = Int (pos x) ∷ Int (pos y) ∷ []

abbrev pub ints : List ℕ → List Shown
ints xs = map (λ x. I (pos x)) xs
