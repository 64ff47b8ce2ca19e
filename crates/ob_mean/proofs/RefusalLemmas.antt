-- The refusals by the parts of a statement and the columns of two tables are those of the statement.
use Rattle.std.proofs.Common.{◌≡◌, Bool, true, false, List, [], ◌++◌, refl, sym, ◌∙◌, ap, append-nil}
use Rattle.std.specs.Prelude.{not, ◌||◌, Option, Some, None}
use Rattle.std.specs.Option.{option_map_or}
use Rattle.std.specs.List.{flat_map}
use Rattle.std.proofs.lemmas.Simd.{map-map}
use Rattle.ob_base.specs.declared.schema.Heading.{Heading}
use Rattle.ob_base.specs.declared.skeleton.Source.{Source}
use Rattle.ob_base.specs.declared.skeleton.Source.TheVariants.{Table as OneTable, Join}
use Rattle.ob_base.specs.declared.skeleton.ColumnName.{ColumnName}
use Rattle.ob_base.specs.Schemas.{Columns}
use Rattle.ob_sql.specs.declared.stmt.Set.{Set}
use Rattle.ob_sql.specs.declared.stmt.Stmt.{Stmt}
use Rattle.ob_sql.specs.declared.stmt.Stmt.TheVariants.{Create, Insert, Update, Delete, Drop as DropTable, SelectRows as RowsStmt, SelectTotals as TotalsStmt}
use Rattle.ob_names.specs.Names.{Scope, columns_in, columns_at, source_columns, unqualified, lack_columns}
use Rattle.ob_names.specs.Kinds.{comparison_columns, where_comparisons}
use Rattle.ob_mean.specs.Parts.{parts_of}
use Rattle.ob_mean.specs.Refusals.{Limits, scope_of, compared, named_columns, is_incomplete, joins_apart, joins_past, joins_off_key_at, has_stray_column, select_lacks_column, sets_key, lacks_table, takes_name, has_wrong_type, is_out_of_range, is_past_limit, breaks_key_rule, joins_off_key}
use Rattle.ob_mean.specs.Scopes.{source_scope, scope_in, missing_in, takes_in, joins_apart_in, named_in, select_lacks_in, lacks_in, mistypes_by, overflows_by, exceeds_in, breaks_key_in, off_key_in}

alone : {a : Bool} → (a || false) ≡ a
alone {a} = elim a as (λ b. (b || false) ≡ b) [ true ↦ refl | false ↦ refl ]

no_more : {A : Type 0} {xs : List A} → xs ++ [] ≡ xs
no_more {A} {xs} = append-nil xs

abbrev scope : List Heading → Stmt → Scope
scope hs stmt = scope_in hs (parts_of stmt).source

abbrev both : List Heading → Option Source → Columns
both hs source = option_map_or (λ s. source_columns s hs) source []

pub both_are : (source : Option Source) (hs : List Heading) → columns_in (scope_in hs source) ≡ both hs source
both_are None hs = refl
both_are (Some (OneTable name)) hs = append-nil (columns_at name hs)
both_are (Some (Join a b on equals)) hs = refl

apart : (s : Source) (hs : List Heading) → joins_apart_in (source_scope s hs) s ≡ joins_apart hs s
apart (OneTable name) hs = refl
apart (Join a b on equals) hs = refl

off_key : (s : Source) (hs : List Heading) → off_key_in (source_scope s hs) s ≡ joins_off_key_at hs s
off_key (OneTable name) hs = refl
off_key (Join a b on equals) hs = refl

abbrev names_of : Stmt → List ColumnName
names_of stmt = named_columns stmt ++ flat_map comparison_columns (compared stmt)

named : (stmt : Stmt) → named_in (parts_of stmt) ≡ names_of stmt
named (Insert table columns values) = no_more ∙ no_more ∙ no_more ∙ no_more ∙ no_more
named (Update table sets cond) =
    ap (λ names. names ++ flat_map comparison_columns (where_comparisons cond)) (no_more ∙ no_more ∙ no_more ∙ no_more ∙ map-map unqualified (λ (s : Set). s.column) sets)
named (RowsStmt s) = ap (λ names. names ++ flat_map comparison_columns (where_comparisons s.cond)) (no_more ∙ no_more)
named other = refl

select_lacks : (stmt : Stmt) (hs : List Heading) → select_lacks_in (scope hs stmt) (parts_of stmt) ≡ select_lacks_column hs stmt
select_lacks (RowsStmt s) hs = λ t. not (apart s.source hs t)
select_lacks (TotalsStmt s) hs = alone ∙ (λ t. has_stray_column (append-nil (columns_at s.table hs) t) s)
select_lacks other hs = refl

-- the conditions by the columns of both tables
pub others_are : (stmt : Stmt) (given : Limits) (hs : List Heading) →
    (missing_in hs (parts_of stmt).source ≡ lacks_table hs stmt)
    × (takes_in hs (parts_of stmt) ≡ takes_name hs stmt)
    × (lack_columns (both hs (parts_of stmt).source) (names_of stmt) ≡ lack_columns (scope_of stmt hs) (names_of stmt))
    × (mistypes_by (both hs (parts_of stmt).source) (scope hs stmt).left (parts_of stmt) ≡ has_wrong_type hs stmt)
    × (overflows_by (both hs (parts_of stmt).source) (scope hs stmt).left (parts_of stmt) ≡ is_out_of_range hs stmt)
    × (exceeds_in given hs (parts_of stmt) ≡ is_past_limit given hs stmt)
    × (breaks_key_in (scope hs stmt) (parts_of stmt) ≡ breaks_key_rule hs stmt)
    × (option_map_or (off_key_in (scope hs stmt)) (parts_of stmt).source false ≡ joins_off_key hs stmt)
others_are (Create table columns capacity shape) given hs = (refl, alone ∙ alone ∙ alone, refl, refl, refl, alone ∙ alone ∙ alone, alone, refl)
others_are (Insert table columns values) given hs = (
  refl,
  alone ∙ alone,
  refl,
  alone ∙ alone ∙ alone ∙ alone ∙ sym (ap (λ b. b || is_incomplete (columns_at table hs) columns values) (alone ∙ alone)),
  alone,
  refl,
  refl,
  refl,
)
others_are (Update table sets cond) given hs = (refl, alone, refl, refl, refl, refl, λ t. sets_key (append-nil (columns_at table hs) t) sets, refl)
others_are (Delete table cond) given hs = (refl, refl, refl, refl, refl, refl, refl, refl)
others_are (DropTable table) given hs = (refl, refl, refl, refl, refl, refl, refl, refl)
others_are (RowsStmt s) given hs = (refl, refl, refl, refl, refl, ap (λ b. b || joins_past given hs s.source) alone, refl, off_key s.source hs)
others_are (TotalsStmt s) given hs = (refl, refl, refl, refl, refl, alone, refl, refl)

-- a name that no column has
pub lacks_is : (stmt : Stmt) (hs : List Heading) → lacks_in (scope hs stmt) (parts_of stmt) ≡ (lack_columns (both hs (parts_of stmt).source) (names_of stmt) || select_lacks_column hs stmt)
lacks_is stmt hs = λ t. lack_columns (both_are (parts_of stmt).source hs t) (named stmt t) || select_lacks stmt hs t
