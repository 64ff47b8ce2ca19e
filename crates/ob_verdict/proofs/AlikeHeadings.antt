-- A statement is refused early by what each name finds, and by how many tables there are.
use Rattle.std.proofs.Common.{◌≡◌, ℕ, Bool, true, false, cond, List, [], ◌∷◌, ◌++◌, length, map, Option, Some, refl, sym, ◌∙◌, ap}
use Rattle.std.specs.Prelude.{bytes_eq, is_some, nat_le, nat_lt, not, ◌&&◌, ◌||◌}
use Rattle.std.specs.List.{flat_map, list_any}
use Rattle.std.specs.Int.{is_in_range}
use Rattle.std.specs.Option.{is_none, option_map, option_map_or}
use Rattle.std.proofs.lemmas.List.{length-map}
use Rattle.ob_base.specs.declared.schema.Heading.{Heading}
use Rattle.ob_base.specs.declared.refusal.Refusal.TheVariants.{NoTable, NameTaken, NoColumn, WrongType, ValueRange, Limit, KeyRule, JoinKey, NeedsKey}
use Rattle.ob_base.specs.declared.skeleton.NewColumn.{NewColumn}
use Rattle.ob_base.specs.declared.skeleton.Source.{Source}
use Rattle.ob_base.specs.declared.skeleton.Source.TheVariants.{Table as OneTable, Join}
use Rattle.ob_base.specs.Indexes.{by_shape}
use Rattle.ob_base.specs.Lists.{has_repeats}
use Rattle.ob_base.specs.Schemas.{Columns, columns_of, width}
use Rattle.ob_base.specs.Stored.{Stored, has_table, heading_at, headings, stored_at}
use Rattle.ob_sql.specs.declared.stmt.Stmt.{Stmt}
use Rattle.ob_sql.specs.declared.stmt.Stmt.TheVariants.{Create, Insert, Update, Delete, Drop as DropTable, SelectRows as RowsStmt, SelectTotals as TotalsStmt}
use Rattle.ob_sql.specs.Search.{Search}
use Rattle.ob_names.specs.Kinds.{are_texts, comparison_columns, mistype_columns, mistype_comparisons, number_columns, overflow_columns, overflow_comparisons}
use Rattle.ob_names.specs.Names.{columns_at, source_columns, lack_columns, left_place}
use Rattle.ob_mean.specs.Refusals.{assignments, breaks_key_rule, compared, early_refusal, first_holding, has_stray_column, has_wrong_type, is_across, is_badly_typed, is_key, is_out_of_range, is_index, is_indexed, index_past, is_past_limit, key_asked, lacks_key, needs_key, source_lacks_key, is_size, items_of, joins_apart, joins_off_key, joins_off_key_at, joins_past, joins_past_at, lacks_column, listed, named_columns, scope_of, select_lacks_column, sets_key, tables_of, takes_name, Limits}
use Rattle.ob_mean.proofs.VerdictLemmas.{heading-stored}

-- ---- headings that each name finds alike
pub record SameHeadings (hs gs : List Heading) : Type 0 where
  pub count : length hs ≡ length gs
  pub at : (name : List ℕ) → heading_at name hs ≡ heading_at name gs

pub headings_same : {A : Type 0} (ts us : List (Stored A)) → length ts ≡ length us → ((name : List ℕ) → stored_at name ts ≡ stored_at name us) → SameHeadings (headings ts) (headings us)
headings_same {A} ts us count found = record {
  count = length-map ts (λ (t : Stored A). t.heading) ∙ count ∙ sym (length-map us (λ (t : Stored A). t.heading));
  at = λ name. heading-stored name ts ∙ ap (option_map (λ (t : Stored A). t.heading)) (found name) ∙ sym (heading-stored name us);
}

has_found : (name : List ℕ) (hs : List Heading) → has_table name hs ≡ is_some (heading_at name hs)
has_found name [] = refl
has_found name (h ∷ hs) =
    elim (bytes_eq h.name name) as (λ b. (b || has_table name hs) ≡ is_some (cond b (Some h) (heading_at name hs)))
    [ true ↦ refl | false ↦ has_found name hs ]

module _ (hs gs : List Heading) (same : SameHeadings hs gs) where
  pub has_same : (name : List ℕ) → has_table name hs ≡ has_table name gs
  has_same name = has_found name hs ∙ ap is_some (same.at name) ∙ sym (has_found name gs)

  pub columns_same : (name : List ℕ) → columns_at name hs ≡ columns_at name gs
  columns_same name = ap (λ (o : Option Heading). option_map_or (λ (h : Heading). h.schema) o []) (same.at name)

  pub source_same : (source : Source) → source_columns source hs ≡ source_columns source gs
  source_same (OneTable name) = columns_same name
  source_same (Join a b on equals) = λ i. columns_same a i ++ columns_same b i

  scope_same : (stmt : Stmt) → scope_of stmt hs ≡ scope_of stmt gs
  scope_same (Create table columns capacity shape) = refl
  scope_same (Insert table columns values) = columns_same table
  scope_same (Update table sets cond) = columns_same table
  scope_same (Delete table cond) = columns_same table
  scope_same (DropTable table) = refl
  scope_same (RowsStmt s) = source_same s.source
  scope_same (TotalsStmt s) = columns_same s.table

  -- ---- each condition
  lacking_same : (names : List (List ℕ)) → list_any (λ (name : List ℕ). not (has_table name hs)) names ≡ list_any (λ (name : List ℕ). not (has_table name gs)) names
  lacking_same [] = refl
  lacking_same (name ∷ names) = λ i. not (has_same name i) || lacking_same names i

  takes_same : (stmt : Stmt) → takes_name hs stmt ≡ takes_name gs stmt
  takes_same (Create table columns capacity shape) = ap (λ (b : Bool). b || has_repeats bytes_eq (map (λ (c : NewColumn). c.name) columns)) (has_same table)
  takes_same other = refl

  apart_same : (source : Source) → joins_apart hs source ≡ joins_apart gs source
  apart_same (OneTable name) = refl
  apart_same (Join a b on equals) = λ i. is_across (length (columns_same a i)) (source_same (Join a b on equals) i) on equals

  select_same : (stmt : Stmt) → select_lacks_column hs stmt ≡ select_lacks_column gs stmt
  select_same (RowsStmt s) = ap not (apart_same s.source)
  select_same (TotalsStmt s) = ap (λ (cs : Columns). has_stray_column cs s) (columns_same s.table)
  select_same other = refl

  column_same : (stmt : Stmt) → lacks_column hs stmt ≡ lacks_column gs stmt
  column_same stmt = λ i. lack_columns (scope_same stmt i) (named_columns stmt ++ flat_map comparison_columns (compared stmt)) || select_same stmt i

  type_same : (stmt : Stmt) → has_wrong_type hs stmt ≡ has_wrong_type gs stmt
  type_same stmt =
      ap (λ (cs : Columns). mistype_columns cs (assignments stmt cs) || mistype_comparisons cs (compared stmt) || are_texts cs (flat_map number_columns (items_of stmt)) || is_badly_typed cs stmt) (scope_same stmt)

  range_same : (stmt : Stmt) → is_out_of_range hs stmt ≡ is_out_of_range gs stmt
  range_same stmt = ap (λ (cs : Columns). overflow_columns cs (assignments stmt cs) || overflow_comparisons (compared stmt)) (scope_same stmt)

  past_same : (limits : Limits) (source : Source) → joins_past limits hs source ≡ joins_past limits gs source
  past_same limits (OneTable name) = refl
  past_same limits (Join a b on equals) = λ i. joins_past_at limits (same.at a i) (same.at b i)

  limit_same : (limits : Limits) (stmt : Stmt) → is_past_limit limits hs stmt ≡ is_past_limit limits gs stmt
  limit_same limits (Create table columns capacity shape) =
      ap (λ (n : ℕ). (not (is_in_range 1 1048576 capacity) || not (is_in_range 1 16 (length columns)) || list_any (λ (c : NewColumn). not (is_size c.kind)) columns
      || nat_lt 1024 (width (columns_of table columns)) || nat_le 64 n) || by_shape shape false (index_past limits capacity)) same.count
  limit_same limits (RowsStmt s) = ap (λ (b : Bool). nat_lt 32 (length (listed s)) || b) (past_same limits s.source)
  limit_same limits other = refl

  key_same : (stmt : Stmt) → breaks_key_rule hs stmt ≡ breaks_key_rule gs stmt
  key_same (Update table sets cond) = ap (λ (cs : Columns). sets_key cs sets) (columns_same table)
  key_same other = refl

  off_key_same : (source : Source) → joins_off_key_at hs source ≡ joins_off_key_at gs source
  off_key_same (OneTable name) = refl
  off_key_same (Join a b on equals) = λ i. not (is_key (columns_same a i) (left_place (length (columns_same a i)) (source_same (Join a b on equals) i) on equals))

  join_same : (stmt : Stmt) → joins_off_key hs stmt ≡ joins_off_key gs stmt
  join_same (RowsStmt s) = off_key_same s.source
  join_same other = refl

  index_same : (name : List ℕ) → is_index hs name ≡ is_index gs name
  index_same name = ap (λ (o : Option Heading). option_map_or (λ (h : Heading). is_indexed h.shape) o false) (same.at name)

  lacks_key_same : (name : List ℕ) (cond : Option Search) → lacks_key hs name cond ≡ lacks_key gs name cond
  lacks_key_same name cond = λ i. index_same name i && is_none (key_asked (columns_same name i) cond)

  source_key_same : (source : Source) (cond : Option Search) → source_lacks_key hs source cond ≡ source_lacks_key gs source cond
  source_key_same (OneTable name) cond = lacks_key_same name cond
  source_key_same (Join a b on equals) cond = λ i. index_same a i || index_same b i

  needs_same : (stmt : Stmt) → needs_key hs stmt ≡ needs_key gs stmt
  needs_same (Update table sets cond) = lacks_key_same table cond
  needs_same (Delete table cond) = lacks_key_same table cond
  needs_same (RowsStmt s) = source_key_same s.source s.cond
  needs_same (TotalsStmt s) = index_same s.table
  needs_same other = refl

  pub early_same : (late : Bool) (limits : Limits) (stmt : Stmt) → early_refusal late limits hs stmt ≡ early_refusal late limits gs stmt
  early_same late limits stmt = λ i. first_holding (
      (lacking_same (tables_of stmt) i, NoTable) ∷
      (takes_same stmt i, NameTaken) ∷
      (column_same stmt i, NoColumn) ∷
      (type_same stmt i, WrongType) ∷
      (range_same stmt i, ValueRange) ∷
      (limit_same limits stmt i || late, Limit) ∷
      (key_same stmt i, KeyRule) ∷
      (join_same stmt i, JoinKey) ∷
      (needs_same stmt i, NeedsKey) ∷ [])
