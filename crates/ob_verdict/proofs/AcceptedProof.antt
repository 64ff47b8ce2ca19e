-- What is known of a statement that is not refused before its first access.
use Rattle.std.proofs.Common.{◌≡◌, ◌⊎◌, inl, inr, ℕ, suc, ◌+◌, ◌-◌, ◌*◌, ◌<◌, ◌≤◌, Bool, true, false, List, [], ◌∷◌, ◌++◌, map, length, refl, sym, ◌∙◌, ap, subst, cond, arith}
use Rattle.std.specs.Prelude.{Option, Some, None, IfSome, IsSomeAnd, not, nat_lt, nat_le, ◌||◌, ◌&&◌, ◌==◌, is_some, filter_map, flat_map, option_to_list, slice_get, unwrap_or, bytes_eq, if◌then◌else◌}
use Rattle.std.specs.List.{All, list_any}
use Rattle.std.specs.Option.{option_map_or}
use Rattle.std.proofs.lemmas.Bool.{not-false}
use Rattle.std.proofs.lemmas.Bool.Decides.{nat_tests}
use Rattle.std.proofs.lemmas.List.{length-append}
use Rattle.std.proofs.lemmas.List.Folds.{list_any-append}
use Rattle.std.proofs.lemmas.List.Elements.{All-nil, All-cons, All-head, All-tail, All-map}
use Rattle.std.proofs.Math.Nat.{mul-le-mul_left}
use Rattle.ob_base.specs.declared.config.Public.{Public}
use Rattle.ob_base.specs.declared.schema.Column.{Column}
use Rattle.ob_base.specs.declared.schema.Heading.{Heading}
use Rattle.ob_base.specs.declared.schema.Kind.{Kind}
use Rattle.ob_base.specs.declared.schema.Table.{Table}
use Rattle.ob_base.specs.declared.skeleton.ColumnName.{ColumnName}
use Rattle.ob_base.specs.declared.skeleton.Source.{Source}
use Rattle.ob_base.specs.declared.skeleton.Source.TheVariants.{Table as OneTable, Join}
use Rattle.ob_base.specs.Joins.{joined_slots}
use Rattle.ob_base.specs.Lists.{first, places_from, places_of}
use Rattle.ob_base.specs.Schemas.{Columns, same_kind, width}
use Rattle.ob_base.specs.Stored.{has_table, heading_at, headings_of}
use Rattle.ob_row.specs.declared.aggregate.Agg.TheVariants.{CountAll as CountAllAgg, Count as CountAgg, Sum as SumAgg, Min as MinAgg, Max as MaxAgg}
use Rattle.ob_row.specs.Spelling.{FitsKind, IsCell}
use Rattle.ob_script.specs.Sizes.{IsPublic, IsTable}
use Rattle.ob_sql.specs.declared.stmt.Against.{Against}
use Rattle.ob_sql.specs.declared.stmt.Against.TheVariants.{Literal as LiteralAgainst, Column as ColumnAgainst}
use Rattle.ob_sql.specs.declared.stmt.Listed.{Listed}
use Rattle.ob_sql.specs.declared.stmt.Listed.TheVariants.{Column as ListedColumn, CountAll, Count, Sum, Min, Max}
use Rattle.ob_sql.specs.declared.stmt.SelectRows.{SelectRows}
use Rattle.ob_sql.specs.declared.stmt.Set.{Set}
use Rattle.ob_sql.specs.declared.stmt.Stmt.{Stmt}
use Rattle.ob_sql.specs.declared.stmt.Stmt.TheVariants.{Create, Insert, Update, Delete, Drop as DropTable, SelectRows as RowsStmt, SelectTotals as TotalsStmt}
use Rattle.ob_sql.specs.Skeleton.{named_by}
use Rattle.ob_names.specs.Names.{columns_at, is_named, meant_by, place_of, unqualified, lack_columns, left_place, means_one, right_place}
use Rattle.ob_mean.specs.Conditions.{literal_cell}
use Rattle.ob_names.specs.Kinds.{Comparison, against_kind, against_too_large, are_texts, at_kind, comparison_columns, is_of_kind, is_too_large_for, is_wrong_comparison, number_columns, mistype_columns, mistype_comparisons, overflow_columns, overflow_comparisons}
use Rattle.ob_mean.specs.Lawful.{capacity_at, counted_slots, statement_slots}
use Rattle.ob_mean.specs.Refusals.{assignments, compared, early_refusal, has_wrong_type, is_across, is_badly_typed, is_key, is_out_of_range, items_of, join_columns, joins_past, joins_past_at, lacks_column, listed, named_columns, scope_of, select_lacks_column, source_tables, limits_of, Limits}
use Rattle.ob_mean.specs.Step.{agg_of, select_columns, totals_columns}
use Rattle.ob_mean.proofs.EarlyLemmas.{allowed, neither}
use Rattle.ob_mean.proofs.InsertLemmas.{fits_kind}
use Rattle.ob_names.proofs.NameLemmas.{has_table_found}
use Rattle.ob_verdict.specs.Accepted.{IsPlace, agg_places, PlacesFit, TotalsPlacesFit, JoinsFit, SetFits, AgainstFits, ComparisonFits, SetsFit, ConditionsFit, BucketsFit}

at_most : (n m : ℕ) → nat_lt n m ≡ false → m ≤ n
at_most n m h = grind (arith, nat_tests)

-- ---- the column that a name means
first_within : {A : Type 0} (n : ℕ) (p : A → Bool) (xs : List A) (y : ℕ) → first (places_from n p xs) ≡ Some y → y < n + length xs
first_within n p [] y h = absurd (cc)
first_within {A} n p (x ∷ xs) y h = go (p x) (first_within (suc n) p xs y) h where
  go : (b : Bool) → (first (places_from (suc n) p xs) ≡ Some y → y < suc n + length xs) → first (cond b (n ∷ places_from (suc n) p xs) (places_from (suc n) p xs)) ≡ Some y → y < n + suc (length xs)
  go true rest is = let same : n ≡ y = cc in omega arith
  go false rest is = let r = rest is in omega arith

meant : (name : ColumnName) (cs : Columns) → means_one cs name ≡ true → IsPlace cs (place_of name cs)
meant name cs h = go (meant_by name cs) refl h where
  go : (ps : List ℕ) → meant_by name cs ≡ ps → (length ps == 1) ≡ true → unwrap_or (first ps) 0 < length cs
  go [] e h = absurd (cc)
  go (x ∷ ps) e h = let r = first_within 0 (is_named name) cs x (ap first e) in omega arith

known_parts : (cs : Columns) (xs ys : List ColumnName) → lack_columns cs (xs ++ ys) ≡ false → (lack_columns cs xs ≡ false) × (lack_columns cs ys ≡ false)
known_parts cs xs ys h = neither (lack_columns cs xs) (lack_columns cs ys) (sym (list_any-append (λ name. not (means_one cs name)) xs ys) ∙ h)

-- all names of a statement mean a column, those outside its WHERE and those of it
names_known : (hs : List Heading) (stmt : Stmt) → lacks_column hs stmt ≡ false → (lack_columns (scope_of stmt hs) (named_columns stmt) ≡ false) × (select_lacks_column hs stmt ≡ false)
names_known hs stmt h =
    let both = neither (lack_columns (scope_of stmt hs) (named_columns stmt ++ flat_map comparison_columns (compared stmt))) (select_lacks_column hs stmt) h in
    ((known_parts (scope_of stmt hs) (named_columns stmt) (flat_map comparison_columns (compared stmt)) both.0).0, both.1)

-- its values and its comparisons are of their columns' kinds, and none is too large
types_right : (hs : List Heading) (stmt : Stmt) → has_wrong_type hs stmt ≡ false
    → (mistype_columns (scope_of stmt hs) (assignments stmt (scope_of stmt hs)) ≡ false) × (mistype_comparisons (scope_of stmt hs) (compared stmt) ≡ false)
types_right hs stmt h =
    let cs = scope_of stmt hs in
    let a = mistype_columns cs (assignments stmt cs) in
    let b = mistype_comparisons cs (compared stmt) in
    let c = are_texts cs (flat_map number_columns (items_of stmt)) in
    let first = neither (a || b || c) (is_badly_typed cs stmt) h in
    let second = neither (a || b) c first.0 in
    neither a b second.0

values_right : (hs : List Heading) (stmt : Stmt) → is_out_of_range hs stmt ≡ false
    → (overflow_columns (scope_of stmt hs) (assignments stmt (scope_of stmt hs)) ≡ false) × (overflow_comparisons (compared stmt) ≡ false)
values_right hs stmt h = neither (overflow_columns (scope_of stmt hs) (assignments stmt (scope_of stmt hs))) (overflow_comparisons (compared stmt)) h

one_meant : (name : ColumnName) (cs : Columns) → not (means_one cs name) ≡ false → IsPlace cs (place_of name cs)
one_meant name cs h = meant name cs (not-false (means_one cs name) h)

all_meant : (cs : Columns) (names : List ColumnName) → lack_columns cs names ≡ false → All (λ name. IsPlace cs (place_of name cs)) names
all_meant cs [] h = All-nil _
all_meant cs (n ∷ names) h =
    let both = neither (not (means_one cs n)) (lack_columns cs names) h in
    All-cons (λ name. IsPlace cs (place_of name cs)) n names (one_meant n cs both.0) (all_meant cs names both.1)

-- ---- rows
all_places : {A : Type 0} (n : ℕ) (xs : List A) → All (λ i. i < n + length xs) (places_from n (λ (_ : A). true) xs)
all_places n [] = All-nil _
all_places {A} n (x ∷ xs) =
    let e : suc n + length xs ≡ n + suc (length xs) = omega arith in
    All-cons (λ i. i < n + suc (length xs)) n (places_from (suc n) (λ (_ : A). true) xs) (omega arith)
    (subst (λ m. All (λ i. i < m) (places_from (suc n) (λ (_ : A). true) xs)) e (all_places (suc n) xs))

all_of : (cs : Columns) → All (IsPlace cs) (places_of (λ (_ : Column). true) cs)
all_of cs = let e : 0 + length cs ≡ length cs = omega arith in subst (λ m. All (λ i. i < m) (places_of (λ (_ : Column). true) cs)) e (all_places 0 cs)

printed_within : (cs : Columns) (list : Option (List ColumnName)) → lack_columns cs (unwrap_or list []) ≡ false
    → All (IsPlace cs) (option_map_or (map (λ c. place_of c cs)) list (places_of (λ _. true) cs))
printed_within cs None h = all_of cs
printed_within cs (Some names) h = All-map (IsPlace cs) (λ c. place_of c cs) names (all_meant cs names h)

pub places_fit : PlacesFit
places_fit late limits hs s accepted =
    let free = allowed late limits hs (RowsStmt s) accepted in
    let known = names_known hs (RowsStmt s) free.columns in
    let list = known_parts (select_columns s hs) (listed s) (join_columns s.source) known.0 in
    let both = neither (nat_lt 32 (length (listed s))) (joins_past limits hs s.source) free.limits in
    record { few = at_most 32 (length (listed s)) both.0; printed = printed_within (select_columns s hs) s.list list.0 }

-- ---- totals
aggregates_within : (cs : Columns) (items : List Listed) → lack_columns cs (flat_map named_by items) ≡ false
    → All (λ agg. All (IsPlace cs) (agg_places agg)) (filter_map (agg_of cs) items)
aggregates_within cs [] h = All-nil _
aggregates_within cs (ListedColumn c ∷ items) h = aggregates_within cs items (neither (not (means_one cs c)) (lack_columns cs (flat_map named_by items)) h).1
aggregates_within cs (CountAll ∷ items) h =
    All-cons (λ agg. All (IsPlace cs) (agg_places agg)) CountAllAgg (filter_map (agg_of cs) items) (All-nil _) (aggregates_within cs items h)
aggregates_within cs (Count c ∷ items) h =
    let both = neither (not (means_one cs c)) (lack_columns cs (flat_map named_by items)) h in
    All-cons (λ agg. All (IsPlace cs) (agg_places agg)) (CountAgg (place_of c cs)) (filter_map (agg_of cs) items)
    (All-cons (IsPlace cs) (place_of c cs) [] (one_meant c cs both.0) (All-nil _)) (aggregates_within cs items both.1)
aggregates_within cs (Sum c ∷ items) h =
    let both = neither (not (means_one cs c)) (lack_columns cs (flat_map named_by items)) h in
    All-cons (λ agg. All (IsPlace cs) (agg_places agg)) (SumAgg (place_of c cs)) (filter_map (agg_of cs) items)
    (All-cons (IsPlace cs) (place_of c cs) [] (one_meant c cs both.0) (All-nil _)) (aggregates_within cs items both.1)
aggregates_within cs (Min c ∷ items) h =
    let both = neither (not (means_one cs c)) (lack_columns cs (flat_map named_by items)) h in
    All-cons (λ agg. All (IsPlace cs) (agg_places agg)) (MinAgg (place_of c cs)) (filter_map (agg_of cs) items)
    (All-cons (IsPlace cs) (place_of c cs) [] (one_meant c cs both.0) (All-nil _)) (aggregates_within cs items both.1)
aggregates_within cs (Max c ∷ items) h =
    let both = neither (not (means_one cs c)) (lack_columns cs (flat_map named_by items)) h in
    All-cons (λ agg. All (IsPlace cs) (agg_places agg)) (MaxAgg (place_of c cs)) (filter_map (agg_of cs) items)
    (All-cons (IsPlace cs) (place_of c cs) [] (one_meant c cs both.0) (All-nil _)) (aggregates_within cs items both.1)

key_within : (cs : Columns) (group : Option ColumnName) → lack_columns cs (option_to_list group) ≡ false → IfSome group (λ key. IsPlace cs (place_of key cs))
key_within cs None h = tt
key_within cs (Some key) h = one_meant key cs (neither (not (means_one cs key)) false h).0

pub totals_places_fit : TotalsPlacesFit
totals_places_fit late limits hs s accepted =
    let free = allowed late limits hs (TotalsStmt s) accepted in
    let cs = totals_columns s hs in
    let known = names_known hs (TotalsStmt s) free.columns in
    let both = known_parts cs (flat_map named_by s.items) (option_to_list s.group) known.0 in
    record { few = at_most 32 (length s.items) free.limits; aggregates = aggregates_within cs s.items both.0; key = key_within cs s.group both.1 }

-- ---- joins
is_less : (x n : ℕ) → nat_lt x n ≡ true → x < n
is_less x n h = grind (arith, nat_tests)

is_most : (x n : ℕ) → nat_le n x ≡ true → n ≤ x
is_most x n h = grind (arith, nat_tests)

both_true : (a b : Bool) → (a && b) ≡ true → (a ≡ true) × (b ≡ true)
both_true true b h = (refl, h)
both_true false b h = absurd (cc)

either_true : (a b : Bool) → (a || b) ≡ true → (a ≡ true) ⊎ (b ≡ true)
either_true true b h = inl refl
either_true false b h = inr h

-- of two places, one is of each table
across : (n m x y : ℕ) → ((nat_lt x n && nat_le n y) || (nat_lt y n && nat_le n x)) ≡ true → x < n + m → y < n + m
    → ((if nat_lt x n then x else y) < n) × ((if nat_lt x n then y else x) - n < m)
across n m x y h lx ly = go (nat_lt x n) refl where
  go : (b : Bool) → nat_lt x n ≡ b → ((if b then x else y) < n) × ((if b then y else x) - n < m)
  go true e = elim (either_true (nat_lt x n && nat_le n y) (nat_lt y n && nat_le n x) h) [
    | inl f ↦ let l = is_less x n e in let r = is_most y n (both_true (nat_lt x n) (nat_le n y) f).1 in (l, omega arith)
    | inr f ↦ let l = is_less x n e in let r = is_most x n (both_true (nat_lt y n) (nat_le n x) f).1 in absurd (omega arith)
  ]
  go false e = elim (either_true (nat_lt x n && nat_le n y) (nat_lt y n && nat_le n x) h) [
    | inl f ↦ let t = (both_true (nat_lt x n) (nat_le n y) f).0 in absurd (cc (e, t))
    | inr f ↦
        let l = is_less y n (both_true (nat_lt y n) (nat_le n x) f).0 in let r = is_most x n (both_true (nat_lt y n) (nat_le n x) f).1 in (l, omega arith)
  ]

-- the columns of ON among those of both tables
record ColumnsFit (l r : Columns) (on equals : ColumnName) : Type 0 where
  pub left : IsPlace l (left_place (length l) (l ++ r) on equals)
  pub right : IsPlace r (right_place (length l) (l ++ r) on equals)
  pub key : is_key l (left_place (length l) (l ++ r) on equals) ≡ true

columns_fit : (l r : Columns) (on equals : ColumnName) → is_across (length l) (l ++ r) on equals ≡ true → lack_columns (l ++ r) (on ∷ equals ∷ []) ≡ false
    → is_key l (left_place (length l) (l ++ r) on equals) ≡ true → ColumnsFit l r on equals
columns_fit l r on equals apart known key =
    let first = neither (not (means_one (l ++ r) on)) (lack_columns (l ++ r) (equals ∷ [])) known in
    let second = neither (not (means_one (l ++ r) equals)) false first.1 in
    let sum = length-append l r in
    let x : place_of on (l ++ r) < length l + length r = let p = one_meant on (l ++ r) first.0 in omega (arith, p, sum) in
    let y : place_of equals (l ++ r) < length l + length r = let p = one_meant equals (l ++ r) second.0 in omega (arith, p, sum) in
    let both = across (length l) (length r) (place_of on (l ++ r)) (place_of equals (l ++ r)) apart x y in
    record { left = both.0; right = both.1; key = key }

schema_at : (name : List ℕ) (hs : List Heading) (h : Heading) → heading_at name hs ≡ Some h → columns_at name hs ≡ h.schema
schema_at name hs h is = ap (λ o. option_map_or (λ (h : Heading). h.schema) o []) is

pub joins_fit : JoinsFit
joins_fit late limits hs list a b on equals where_ left right at_left at_right accepted =
    let s : SelectRows = record { list = list; source = Join a b on equals; cond = where_ } in
    let free = allowed late limits hs (RowsStmt s) accepted in
    let l = columns_at a hs in
    let r = columns_at b hs in
    let names = names_known hs (RowsStmt s) free.columns in
    let known = known_parts (l ++ r) (listed s) (on ∷ equals ∷ []) names.0 in
    let fit : ColumnsFit l r on equals =
    columns_fit l r on equals (not-false (is_across (length l) (l ++ r) on equals) names.1) known.1 (not-false (is_key l (left_place (length l) (l ++ r) on equals)) free.joins) in
    let there : ColumnsFit left.schema right.schema on equals =
    subst (λ c. ColumnsFit c right.schema on equals) (schema_at a hs left at_left) (subst (λ c. ColumnsFit l c on equals) (schema_at b hs right at_right) fit) in
    let both = neither (nat_lt 32 (length (listed s))) (joins_past_at limits (heading_at a hs) (heading_at b hs)) free.limits in
    let past : joins_past_at limits (Some left) (Some right) ≡ false = (λ t. joins_past_at limits (sym at_left t) (sym at_right t)) ∙ both.1 in
    let sizes = neither (nat_lt 1024 (width (left.schema ++ right.schema))) (nat_lt 16777216 (joined_slots limits.pack limits.buffer left.capacity right.capacity)) past in
    record { left_column = there.left; right_column = there.right; key = there.key; wide = at_most 1024 (width (left.schema ++ right.schema)) sizes.0; slots = at_most 16777216 (joined_slots limits.pack limits.buffer left.capacity right.capacity) sizes.1 }

-- ---- cells
set_fits : (cs : Columns) (sets : List Set) → mistype_columns cs (map (λ (s : Set). (unqualified s.column, s.value)) sets) ≡ false
    → overflow_columns cs (map (λ (s : Set). (unqualified s.column, s.value)) sets) ≡ false → All (SetFits cs) sets
set_fits cs [] m o = All-nil _
set_fits cs (s ∷ sets) m o =
    let rest = map (λ (s : Set). (unqualified s.column, s.value)) sets in
    let typed = neither (not (at_kind (λ k. is_of_kind k s.value) (unqualified s.column) cs)) (mistype_columns cs rest) m in
    let sized = neither (at_kind (λ k. is_too_large_for k s.value) (unqualified s.column) cs) (overflow_columns cs rest) o in
    All-cons (SetFits cs) s sets
    (at_column (slice_get cs (place_of (unqualified s.column) cs)) (not-false (at_kind (λ k. is_of_kind k s.value) (unqualified s.column) cs) typed.0) sized.0) (set_fits cs sets typed.1 sized.1)
  where
    at_column : (c : Option Column) → option_map_or (λ (c : Column). is_of_kind c.kind s.value) c false ≡ true → option_map_or (λ (c : Column). is_too_large_for c.kind s.value) c false ≡ false
        → IsCell (literal_cell s.value) → IsSomeAnd c (λ c. FitsKind c.kind (literal_cell s.value))
    at_column None t l cell = absurd (cc)
    at_column (Some c) t l cell = fits_kind c.kind s.value t l cell

pub sets_fit : SetsFit
sets_fit late limits hs table sets cond accepted =
    let free = allowed late limits hs (Update table sets cond) accepted in
    set_fits (columns_at table hs) sets (types_right hs (Update table sets cond) free.types).0 (values_right hs (Update table sets cond) free.values).0

some_of_kind : (p : Kind → Bool) (o : Option Column) → option_map_or (λ (c : Column). p c.kind) o false ≡ true → IsSomeAnd o (λ c. p c.kind ≡ true)
some_of_kind p None h = absurd (cc)
some_of_kind p (Some c) h = h

against_fits : (cs : Columns) (k : Kind) (y : Against) → against_kind y cs k ≡ true → against_too_large y ≡ false → AgainstFits cs k y
against_fits cs k (LiteralAgainst x) typed sized = (typed, sized)
against_fits cs k (ColumnAgainst name) typed sized = some_of_kind (same_kind k) (slice_get cs (place_of name cs)) typed

comparison_fits : (cs : Columns) (c : Comparison) (o : Option Column) → option_map_or (λ (d : Column). against_kind c.1 cs d.kind) o false ≡ true → against_too_large c.1 ≡ false
    → IsSomeAnd o (λ d. AgainstFits cs d.kind c.1)
comparison_fits cs c None typed sized = absurd (cc)
comparison_fits cs c (Some d) typed sized = against_fits cs d.kind c.1 typed sized

comparisons_fit : (cs : Columns) (xs : List Comparison) → mistype_comparisons cs xs ≡ false → overflow_comparisons xs ≡ false → All (ComparisonFits cs) xs
comparisons_fit cs [] m o = All-nil _
comparisons_fit cs (c ∷ xs) m o =
    let typed = neither (is_wrong_comparison cs c) (mistype_comparisons cs xs) m in
    let sized = neither (against_too_large c.1) (overflow_comparisons xs) o in
    All-cons (ComparisonFits cs) c xs (comparison_fits cs c (slice_get cs (place_of c.0 cs)) (not-false (at_kind (against_kind c.1 cs) c.0 cs) typed.0) sized.0) (comparisons_fit cs xs typed.1 sized.1)

pub conditions_fit : ConditionsFit
conditions_fit late limits hs stmt accepted =
    let free = allowed late limits hs stmt accepted in
    comparisons_fit (scope_of stmt hs) (compared stmt) (types_right hs stmt free.types).1 (values_right hs stmt free.values).1

-- ---- hash regions
capacity_few : (name : List ℕ) (ts : List Table) → All IsTable ts → capacity_at name (headings_of ts) ≤ 1048576
capacity_few name [] all = omega arith
capacity_few name (t ∷ ts) all =
    let one = All-head IsTable t ts all in
    let rest = capacity_few name ts (All-tail IsTable t ts all) in
    elim (bytes_eq t.heading.name name) as (λ b. option_map_or (λ (h : Heading). h.capacity) (cond b (Some t.heading) (heading_at name (headings_of ts))) 0 ≤ 1048576)
    [ true ↦ one.capacity | false ↦ rest ]

there_is : (name : List ℕ) (hs : List Heading) → not (has_table name hs) ≡ false → is_some (heading_at name hs) ≡ true
there_is name hs h = sym (has_table_found name hs) ∙ not-false (has_table name hs) h

joined_few : (limits : Limits) (l r : Option Heading) → is_some l ≡ true → is_some r ≡ true → joins_past_at limits l r ≡ false
    → joined_slots limits.pack limits.buffer (option_map_or (λ (h : Heading). h.capacity) l 0) (option_map_or (λ (h : Heading). h.capacity) r 0) ≤ 16777216
joined_few limits None r e f h = absurd (cc)
joined_few limits (Some l) None e f h = absurd (cc)
joined_few limits (Some l) (Some r) e f h =
    at_most 16777216 (joined_slots limits.pack limits.buffer l.capacity r.capacity) (neither (nat_lt 1024 (width (l.schema ++ r.schema))) (nat_lt 16777216 (joined_slots limits.pack limits.buffer l.capacity r.capacity)) h).1

source_few : (p : Public) (source : Source) → All IsTable p.tables → list_any (λ name. not (has_table name (headings_of p.tables))) (source_tables source) ≡ false
    → joins_past (limits_of p) (headings_of p.tables) source ≡ false → counted_slots p source ≤ 16777216
source_few p (OneTable name) tables there past = let few = capacity_few name p.tables tables in omega arith
source_few p (Join a b on equals) tables there past =
    let first = neither (not (has_table a (headings_of p.tables))) (list_any (λ name. not (has_table name (headings_of p.tables))) (b ∷ [])) there in
    let second = neither (not (has_table b (headings_of p.tables))) false first.1 in
    joined_few (limits_of p) (heading_at a (headings_of p.tables)) (heading_at b (headings_of p.tables)) (there_is a (headings_of p.tables) first.0) (there_is b (headings_of p.tables) second.0) past

slots_few : (p : Public) (late : Bool) (stmt : Stmt) → IsPublic p → early_refusal late (limits_of p) (headings_of p.tables) stmt ≡ None → statement_slots p stmt ≤ 16777216
slots_few p late (RowsStmt s) public accepted =
    let free = allowed late (limits_of p) (headings_of p.tables) (RowsStmt s) accepted in source_few p s.source public.tables free.tables (neither (nat_lt 32 (length (listed s))) (joins_past (limits_of p) (headings_of p.tables) s.source) free.limits).1
slots_few p late other public accepted = omega arith

pub buckets_fit : BucketsFit
buckets_fit p late stmt k public accepted few =
    let slots = slots_few p late stmt public accepted in
    let less : k ≤ 16777216 = omega arith in
    let blocks : k * p.depth ≤ k * 8 = mul-le-mul_left k public.depth_few in
    (less, omega arith)
