-- What is printed of an answer: the labels of its columns, its rows in some order, and their number.
use Rattle.std.specs.Prelude.{◌≡◌, ℕ, Bool, true, false, List, [], ◌∷◌, ◌++◌, map, length, codes, slice_get}
use Rattle.std.specs.Option.{option_map_or}
use Rattle.ob_base.specs.declared.schema.Heading.{Heading}
use Rattle.ob_base.specs.declared.shown.Shown.{Shown}
use Rattle.ob_base.specs.declared.skeleton.ColumnName.{ColumnName}
use Rattle.ob_base.specs.declared.skeleton.Source.{Source}
use Rattle.ob_base.specs.declared.skeleton.Source.TheVariants.{Table as OneTable, Join}
use Rattle.ob_base.specs.Events.{Event, Head, Close, row_events}
use Rattle.ob_base.specs.Labels.{column_label, call_label}
use Rattle.ob_base.specs.Schemas.{Columns}
use Rattle.ob_row.specs.Bags.{Same}
use Rattle.ob_sql.specs.declared.stmt.Listed.{Listed}
use Rattle.ob_sql.specs.declared.stmt.Listed.TheVariants.{Column as ListedColumn, CountAll, Count, Sum, Min, Max}
use Rattle.ob_sql.specs.declared.stmt.SelectRows.{SelectRows}
use Rattle.ob_sql.specs.declared.stmt.SelectTotals.{SelectTotals}
use Rattle.ob_sql.specs.declared.stmt.Stmt.{Stmt}
use Rattle.ob_sql.specs.declared.stmt.Stmt.TheVariants.{SelectRows as RowsStmt, SelectTotals as TotalsStmt}
use Rattle.ob_mean.specs.declared.answer.Answer.{Answer}
use Rattle.ob_mean.specs.declared.answer.Answer.TheVariants.{Done, Changed, Rows, Refused}
use Rattle.ob_names.specs.Names.{columns_at, source_columns, place_of}

-- ---- the labels
abbrev pub is_join : Source → Bool
is_join (OneTable name) = false
is_join (Join a b on equals) = true

-- the label of the column that a name means
abbrev pub label_at : (joins : Bool) → Columns → ColumnName → List ℕ
label_at joins cs name = option_map_or (column_label joins) (slice_get cs (place_of name cs)) []

abbrev pub item_label : Columns → Listed → List ℕ
item_label cs (ListedColumn c) = label_at false cs c
item_label cs CountAll = codes "COUNT(*)"
item_label cs (Count c) = call_label (codes "COUNT") (label_at false cs c)
item_label cs (Sum c) = call_label (codes "SUM") (label_at false cs c)
item_label cs (Min c) = call_label (codes "MIN") (label_at false cs c)
item_label cs (Max c) = call_label (codes "MAX") (label_at false cs c)

-- `*` stands for all columns
abbrev pub rows_labels : SelectRows → List Heading → List (List ℕ)
rows_labels s hs =
    let cs = source_columns s.source hs in
    option_map_or (map (label_at (is_join s.source) cs)) s.list (map (column_label (is_join s.source)) cs)

abbrev pub totals_labels : SelectTotals → List Heading → List (List ℕ)
totals_labels s hs = map (item_label (columns_at s.table hs)) s.items

abbrev pub labels_of : Stmt → List Heading → List (List ℕ)
labels_of (RowsStmt s) hs = rows_labels s hs
labels_of (TotalsStmt s) hs = totals_labels s hs
labels_of _ hs = []

-- ---- the events
-- the labels, the rows in an order in which they are the same bag, and their number
pub record PrintsRows (labels : List (List ℕ)) (rows : List (List Shown)) (events : List Event) : Type 0 where
  pub printed : List (List Shown)
  pub same : Same printed rows
  pub is : events ≡ Head labels ∷ (row_events printed ++ Close (length rows) ∷ [])

-- an answer that is no rows emits nothing
abbrev pub Prints : (labels : List (List ℕ)) → Answer → List Event → Type 0
Prints labels Done events = events ≡ []
Prints labels (Changed n) events = events ≡ []
Prints labels (Rows rows) events = PrintsRows labels rows events
Prints labels (Refused r) events = events ≡ []

-- a first part of them
abbrev pub Begun : List Event → List Event → Type 0
Begun done whole = (rest : List Event) × (done ++ rest ≡ whole)

-- of an answer that was cut off: a first part of its header and its rows, in an order in which they are the same bag
pub record UnfinishedRows (labels : List (List ℕ)) (rows : List (List Shown)) (events : List Event) : Type 0 where
  pub printed : List (List Shown)
  pub same : Same printed rows
  pub begun : Begun events (Head labels ∷ row_events printed)

abbrev pub Unfinished : (labels : List (List ℕ)) → Answer → List Event → Type 0
Unfinished labels Done events = events ≡ []
Unfinished labels (Changed n) events = events ≡ []
Unfinished labels (Rows rows) events = UnfinishedRows labels rows events
Unfinished labels (Refused r) events = events ≡ []
