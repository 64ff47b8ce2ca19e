-- What is known of a statement that is not refused before its first access.
use Rattle.std.specs.Prelude.{◌≡◌, ℕ, ◌<◌, ◌≤◌, ◌*◌, ◌++◌, Bool, true, false, List, [], ◌∷◌, length, Option, Some, None, IfSome, IsSomeAnd, slice_get, filter_map}
use Rattle.std.specs.List.{All}
use Rattle.ob_base.specs.declared.config.Public.{Public}
use Rattle.ob_base.specs.declared.schema.Heading.{Heading}
use Rattle.ob_base.specs.declared.schema.Kind.{Kind}
use Rattle.ob_base.specs.declared.skeleton.ColumnName.{ColumnName}
use Rattle.ob_base.specs.declared.skeleton.Source.TheVariants.{Join}
use Rattle.ob_base.specs.Joins.{joined_slots}
use Rattle.ob_base.specs.Schemas.{Columns, width, same_kind}
use Rattle.ob_base.specs.Stored.{heading_at, headings_of}
use Rattle.ob_row.specs.declared.aggregate.Agg.{Agg}
use Rattle.ob_row.specs.declared.aggregate.Agg.TheVariants.{CountAll, Count, Sum, Min, Max}
use Rattle.ob_row.specs.Spelling.{FitsKind, IsCell}
use Rattle.ob_script.specs.Sizes.{IsPublic}
use Rattle.ob_sql.specs.declared.stmt.Against.{Against}
use Rattle.ob_sql.specs.declared.stmt.Against.TheVariants.{Literal as LiteralAgainst, Column as ColumnAgainst}
use Rattle.ob_sql.specs.declared.stmt.SelectRows.{SelectRows}
use Rattle.ob_sql.specs.declared.stmt.SelectTotals.{SelectTotals}
use Rattle.ob_sql.specs.declared.stmt.Set.{Set}
use Rattle.ob_sql.specs.declared.stmt.Stmt.{Stmt}
use Rattle.ob_sql.specs.declared.stmt.Stmt.TheVariants.{Create, Insert, Update, Delete, Drop as DropTable, SelectRows as RowsStmt, SelectTotals as TotalsStmt}
use Rattle.ob_sql.specs.Skeleton.{skeleton}
use Rattle.ob_sql.specs.Search.{Search}
use Rattle.ob_names.specs.Names.{columns_at, place_of, unqualified, left_place, right_place}
use Rattle.ob_mean.specs.Conditions.{literal_cell}
use Rattle.ob_names.specs.Kinds.{Comparison, is_of_kind, is_too_large}
use Rattle.ob_mean.specs.Lawful.{statement_slots}
use Rattle.ob_mean.specs.Refusals.{early_refusal, compared, is_key, listed, scope_of, source_tables, limits_of, Limits}
use Rattle.ob_mean.specs.Replay.{has_index, is_access}
use Rattle.ob_mean.specs.Step.{agg_of, printed_places, select_columns, totals_columns}

-- ---- the places of columns
abbrev pub IsPlace : Columns → ℕ → Type 0
IsPlace cs i = i < length cs

-- the place that an aggregate takes, if it takes one
abbrev pub agg_places : Agg → List ℕ
agg_places CountAll = []
agg_places (Count i) = i ∷ []
agg_places (Sum i) = i ∷ []
agg_places (Min i) = i ∷ []
agg_places (Max i) = i ∷ []

-- a SELECT of rows prints columns that there are, and no more than may be listed
pub record RowsFit (hs : List Heading) (s : SelectRows) : Type 0 where
  pub few : length (listed s) ≤ 32
  pub printed : All (IsPlace (select_columns s hs)) (printed_places s (select_columns s hs))

-- a SELECT of totals is of columns that there are
pub record TotalsFit (hs : List Heading) (s : SelectTotals) : Type 0 where
  pub few : length s.items ≤ 32
  pub aggregates : All (λ agg. All (IsPlace (totals_columns s hs)) (agg_places agg)) (filter_map (agg_of (totals_columns s hs)) s.items)
  pub key : IfSome s.group (λ key. IsPlace (totals_columns s hs) (place_of key (totals_columns s hs)))

-- the columns of ON are one of each table, the left one its primary key, and the joined rows and region are within their sizes
pub record JoinFits (pack rows : ℕ) (left right : Heading) (on equals : ColumnName) : Type 0 where
  pub left_column : IsPlace left.schema (left_place (length left.schema) (left.schema ++ right.schema) on equals)
  pub right_column : IsPlace right.schema (right_place (length left.schema) (left.schema ++ right.schema) on equals)
  pub key : is_key left.schema (left_place (length left.schema) (left.schema ++ right.schema) on equals) ≡ true
  pub wide : width (left.schema ++ right.schema) ≤ 1024
  pub slots : joined_slots pack rows left.capacity right.capacity ≤ 16777216

abbrev pub IsAccepted : (late : Bool) → Limits → List Heading → Stmt → Type 0
IsAccepted late limits hs stmt = early_refusal late limits hs stmt ≡ None

abbrev pub PlacesFit : Type 0
PlacesFit = (late : Bool) (limits : Limits) (hs : List Heading) (s : SelectRows) → IsAccepted late limits hs (RowsStmt s) → RowsFit hs s

abbrev pub TotalsPlacesFit : Type 0
TotalsPlacesFit = (late : Bool) (limits : Limits) (hs : List Heading) (s : SelectTotals) → IsAccepted late limits hs (TotalsStmt s) → TotalsFit hs s

abbrev pub JoinsFit : Type 0
JoinsFit = (late : Bool) (limits : Limits) (hs : List Heading) (list : Option (List ColumnName)) (a b : List ℕ) (on equals : ColumnName) (cond : Option Search) (left right : Heading) →
    heading_at a hs ≡ Some left → heading_at b hs ≡ Some right →
    IsAccepted late limits hs (RowsStmt (record { list = list; source = Join a b on equals; cond = cond })) → JoinFits limits.pack limits.buffer left right on equals

-- ---- tables that are read or changed slot by slot
abbrev pub slot_tables : Stmt → List (List ℕ)
slot_tables (Create table columns capacity shape) = []
slot_tables (Insert table columns values) = table ∷ []
slot_tables (Update table sets cond) = table ∷ []
slot_tables (Delete table cond) = table ∷ []
slot_tables (DropTable table) = []
slot_tables (RowsStmt s) = source_tables s.source
slot_tables (TotalsStmt s) = s.table ∷ []

-- where it accesses no index, none of them is one
abbrev pub NamesFlat : Type 0
NamesFlat = (p : Public) (late : Bool) (limits : Limits) (stmt : Stmt) → IsAccepted late limits (headings_of p.tables) stmt → is_access p (skeleton stmt) ≡ false
    → All (λ name. has_index p name ≡ false) (slot_tables stmt)

-- ---- cells
-- a value that is set fits its column, where a cell holds it
abbrev pub SetFits : Columns → Set → Type 0
SetFits cs s = IsCell (literal_cell s.value) → IsSomeAnd (slice_get cs (place_of (unqualified s.column) cs)) (λ c. FitsKind c.kind (literal_cell s.value))

-- a column is compared with a literal of its kind, which some cell holds, or with a column of its kind
abbrev pub AgainstFits : Columns → Kind → Against → Type 0
AgainstFits cs k (LiteralAgainst x) = (is_of_kind k x ≡ true) × (is_too_large x ≡ false)
AgainstFits cs k (ColumnAgainst name) = IsSomeAnd (slice_get cs (place_of name cs)) (λ d. same_kind k d.kind ≡ true)

abbrev pub ComparisonFits : Columns → Comparison → Type 0
ComparisonFits cs c = IsSomeAnd (slice_get cs (place_of c.0 cs)) (λ d. AgainstFits cs d.kind c.1)

abbrev pub SetsFit : Type 0
SetsFit = (late : Bool) (limits : Limits) (hs : List Heading) (table : List ℕ) (sets : List Set) (cond : Option Search) →
    IsAccepted late limits hs (Update table sets cond) → All (SetFits (columns_at table hs)) sets

abbrev pub ConditionsFit : Type 0
ConditionsFit = (late : Bool) (limits : Limits) (hs : List Heading) (stmt : Stmt) → IsAccepted late limits hs stmt → All (ComparisonFits (scope_of stmt hs)) (compared stmt)

-- ---- the blocks of a hash region, of at most so many buckets as there are slots
abbrev pub BucketsFit : Type 0
BucketsFit = (p : Public) (late : Bool) (stmt : Stmt) (k : ℕ) → IsPublic p → IsAccepted late (limits_of p) (headings_of p.tables) stmt →
    k ≤ statement_slots p stmt → (k ≤ 16777216) × (k * p.depth ≤ 134217728)
