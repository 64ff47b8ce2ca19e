-- The same refusals, by the parts of a statement and the columns that its names may mean.
use Rattle.std.specs.Prelude.{ℕ, Bool, true, false, not, ◌||◌, nat_lt, List, [], ◌++◌, map, length, zip, Option, bytes_eq, option_to_list, unwrap_or}
use Rattle.std.specs.List.{list_any, flat_map}
use Rattle.std.specs.Option.{option_map_or}
use Rattle.ob_base.specs.declared.schema.Heading.{Heading}
use Rattle.ob_base.specs.declared.skeleton.ColumnName.{ColumnName}
use Rattle.ob_base.specs.declared.skeleton.NewColumn.{NewColumn}
use Rattle.ob_base.specs.declared.skeleton.Source.{Source}
use Rattle.ob_base.specs.declared.skeleton.Source.TheVariants.{Table as OneTable, Join}
use Rattle.ob_base.specs.Lists.{has_repeats}
use Rattle.ob_base.specs.Schemas.{Columns}
use Rattle.ob_base.specs.Stored.{has_table}
use Rattle.ob_base.specs.Indexes.{by_shape}
use Rattle.ob_sql.specs.declared.stmt.Literal.{Literal}
use Rattle.ob_sql.specs.declared.stmt.Set.{Set}
use Rattle.ob_sql.specs.Skeleton.{named_by}
use Rattle.ob_names.specs.Names.{Scope, columns_in, columns_at, unqualified, left_place, lack_columns}
use Rattle.ob_names.specs.Kinds.{where_comparisons, comparison_columns, mistype_columns, overflow_columns, mistype_comparisons, overflow_comparisons, are_texts, number_columns, plain_columns}
use Rattle.ob_mean.specs.Parts.{Parts, NewTable, NewRow}
use Rattle.ob_mean.specs.Refusals.{Limits, source_tables, join_columns, joins_itself, joins_kinds, joins_past, creates_past, index_past, has_wrong_keys, insert_columns, is_incomplete, is_group, is_key, is_across, sets_key}

abbrev pub source_scope : Source → List Heading → Scope
source_scope (OneTable name) hs = record { left = columns_at name hs; right = [] }
source_scope (Join a b on equals) hs = record { left = columns_at a hs; right = columns_at b hs }

abbrev pub no_columns : Scope
no_columns = record { left = []; right = [] }

abbrev pub scope_in : List Heading → Option Source → Scope
scope_in hs source = option_map_or (λ s. source_scope s hs) source no_columns

-- a table that is to exist doesn't
abbrev pub missing_in : List Heading → Option Source → Bool
missing_in hs source = option_map_or (λ s. list_any (λ name. not (has_table name hs)) (source_tables s)) source false

-- a table that is to be new exists, or a name stands twice
abbrev pub is_taken : List Heading → NewTable → Bool
is_taken hs t = has_table t.name hs || has_repeats bytes_eq (map (λ (c : NewColumn). c.name) t.columns)

abbrev pub given_names : Option NewRow → List (List ℕ)
given_names given = option_map_or (λ (r : NewRow). unwrap_or r.names []) given []

abbrev pub takes_in : List Heading → Parts → Bool
takes_in hs p =
    option_map_or (is_taken hs) p.created false
    || has_repeats bytes_eq (given_names p.given)
    || has_repeats bytes_eq (map (λ (s : Set). s.column) p.sets)
    || option_map_or joins_itself p.source false

-- a name that no column has, a plain column that strays, or columns of ON that aren't one of each table
abbrev pub joins_apart_in : Scope → Source → Bool
joins_apart_in s (OneTable name) = true
joins_apart_in s (Join a b on equals) = is_across (length s.left) (columns_in s) on equals

abbrev pub named_in : Parts → List ColumnName
named_in p =
    map unqualified (given_names p.given)
    ++ map unqualified (map (λ (s : Set). s.column) p.sets)
    ++ p.columns
    ++ option_map_or join_columns p.source []
    ++ flat_map named_by p.items
    ++ option_to_list p.group
    ++ flat_map comparison_columns (where_comparisons p.cond)

abbrev pub select_lacks_in : Scope → Parts → Bool
select_lacks_in s p =
    list_any (λ name. not (is_group (columns_in s) p.group name)) (flat_map plain_columns p.items)
    || not (option_map_or (joins_apart_in s) p.source true)

abbrev pub lacks_in : Scope → Parts → Bool
lacks_in s p = lack_columns (columns_in s) (named_in p) || select_lacks_in s p

-- a value of another kind
abbrev pub row_in : Columns → NewRow → List (ColumnName × Literal)
row_in left r = zip (map unqualified (insert_columns r.names left)) r.values

abbrev pub sets_in : Parts → List (ColumnName × Literal)
sets_in p = map (λ (s : Set). (unqualified s.column, s.value)) p.sets

abbrev pub row_mistyped : (cs left : Columns) → NewRow → Bool
row_mistyped cs left r = mistype_columns cs (row_in left r) || is_incomplete left r.names r.values

abbrev pub mistypes_by : (cs left : Columns) → Parts → Bool
mistypes_by cs left p =
    option_map_or (row_mistyped cs left) p.given false
    || mistype_columns cs (sets_in p)
    || mistype_comparisons cs (where_comparisons p.cond)
    || are_texts cs (flat_map number_columns p.items)
    || not (option_map_or (joins_kinds cs) p.source true)

abbrev pub mistypes_in : Scope → Parts → Bool
mistypes_in s p = mistypes_by (columns_in s) s.left p

-- a value that its column doesn't hold
abbrev pub row_overflows : (cs left : Columns) → NewRow → Bool
row_overflows cs left r = overflow_columns cs (row_in left r)

abbrev pub overflows_by : (cs left : Columns) → Parts → Bool
overflows_by cs left p =
    option_map_or (row_overflows cs left) p.given false
    || overflow_columns cs (sets_in p)
    || overflow_comparisons (where_comparisons p.cond)

abbrev pub overflows_in : Scope → Parts → Bool
overflows_in s p = overflows_by (columns_in s) s.left p

-- a size past the limits
abbrev pub is_past : Limits → List Heading → NewTable → Bool
is_past limits hs t = creates_past hs t.name t.columns t.capacity || by_shape t.shape false (index_past limits t.capacity)

abbrev pub exceeds_in : Limits → List Heading → Parts → Bool
exceeds_in limits hs p =
    option_map_or (is_past limits hs) p.created false
    || nat_lt 32 (length p.columns)
    || nat_lt 32 (length p.items)
    || option_map_or (joins_past limits hs) p.source false

-- a new table's keys are wrong, or a key is changed
abbrev pub keys_are_wrong : NewTable → Bool
keys_are_wrong t = has_wrong_keys t.columns t.shape

abbrev pub breaks_key_in : Scope → Parts → Bool
breaks_key_in s p = option_map_or keys_are_wrong p.created false || sets_key (columns_in s) p.sets

-- a join whose left column is not the primary key
abbrev pub off_key_in : Scope → Source → Bool
off_key_in s (OneTable name) = false
off_key_in s (Join a b on equals) = not (is_key s.left (left_place (length s.left) (columns_in s) on equals))
