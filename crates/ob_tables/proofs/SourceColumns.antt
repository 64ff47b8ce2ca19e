-- The columns of the source of a SELECT of rows, and the labels of those that it prints.
use Rattle.ob_tables.proofs.Words.{Agrees, allowed, answer_labels, ap, append_assoc, arith, Bool, bytes_eq, bytes_eq-Decides, Column, Columns, columns_at, cond, count_of, Engine, false, has_table, Heading, heading_at, headings_of, is_late, Join, length, length-append, length-map, limits_of, List, map, None, not, Option, option_map_or, printed_places, refl, refusal_now, RevState, slice_get, Some, Source, StoreState, subst, suc, sym, tabulate, true, zero, ℕ, [], ◌++◌, ◌||◌, ◌∙◌, ◌∷◌, ◌≡◌, ◌≤◌}
use Rattle.std.specs.Prelude.{unwrap_or}
use Rattle.std.specs.List.{All, list_any}
use Rattle.ob_base.specs.declared.schema.Table.{Table}
use Rattle.ob_base.specs.declared.skeleton.ColumnName.{ColumnName}
use Rattle.ob_base.specs.declared.skeleton.Source.TheVariants.{Table as OneTable}
use Rattle.ob_base.specs.Labels.{column_label}
use Rattle.ob_base.specs.Lists.{places_from, places_of}
use Rattle.ob_emit.specs.Emitting.{is_joined, label_at, labels_of}
use Rattle.ob_names.specs.Names.{place_of, source_columns}
use Rattle.ob_mean.specs.Prints.{is_join, rows_labels, label_at as named_label}
use Rattle.ob_mean.specs.Refusals.{joins_itself, source_tables}
use Rattle.ob_mean.proofs.CondLemmas.{any_append}
use Rattle.ob_sql.specs.declared.stmt.SelectRows.{SelectRows}
use Rattle.ob_reopen.specs.Limits.{IsStored}
use Rattle.ob_mean.proofs.EarlyLemmas.{Allowed}
use Rattle.ob_sql.specs.declared.stmt.Stmt.TheVariants.{SelectRows as RowsStmt}
use Rattle.ob_select.proofs.PlaceLemmas.{all_places}

-- ---- labels
get_at : (xs : Columns) (x : Column) (ys : Columns) → slice_get (xs ++ x ∷ ys) (length xs) ≡ Some x
get_at [] x ys = refl
get_at (z ∷ xs) x ys = get_at xs x ys

all_from : (joins : Bool) (front cs : Columns) → map (label_at joins (front ++ cs)) (places_from (length front) (λ _. true) cs) ≡ map (column_label joins) cs
all_from joins front [] = refl
all_from joins front (c ∷ cs) =
    let whole : (front ++ c ∷ []) ++ cs ≡ front ++ c ∷ cs = append_assoc front (c ∷ []) cs in
    let long : length (front ++ c ∷ []) ≡ suc (length front) = let sum = length-append front (c ∷ []) in omega (arith, sum) in
    (λ i. option_map_or (column_label joins) (get_at front c cs i) [] ∷ map (label_at joins (sym whole i)) (places_from (sym long i) (λ _. true) cs))
    ∙ ap (λ (labels : List (List ℕ)). column_label joins c ∷ labels) (all_from joins (front ++ c ∷ []) cs)

names_labels : (joins : Bool) (cs : Columns) (names : List ColumnName) → map (label_at joins cs) (map (λ (name : ColumnName). place_of name cs) names) ≡ map (named_label joins cs) names
names_labels joins cs [] = refl
names_labels joins cs (name ∷ names) = ap (λ (labels : List (List ℕ)). named_label joins cs name ∷ labels) (names_labels joins cs names)

list_labels : (joins : Bool) (cs : Columns) (list : Option (List ColumnName))
    → map (label_at joins cs) (option_map_or (map (λ (name : ColumnName). place_of name cs)) list (places_of (λ _. true) cs)) ≡ option_map_or (map (named_label joins cs)) list (map (column_label joins) cs)
list_labels joins cs None = all_from joins [] cs
list_labels joins cs (Some names) = names_labels joins cs names

-- the header of a result is that of the statement
pub labels_are : (select : SelectRows) (hs : List Heading) → is_joined (source_columns select.source hs) ≡ is_join select.source
    → labels_of (source_columns select.source hs) (printed_places select (source_columns select.source hs)) ≡ rows_labels select hs
labels_are select hs joins =
    ap (λ (b : Bool). map (label_at b (source_columns select.source hs)) (printed_places select (source_columns select.source hs))) joins
    ∙ list_labels (is_join select.source) (source_columns select.source hs) select.list

-- ---- columns of one table, and of two
abbrev pub AreStored : List Table → Type 0
AreStored ts = (i : ℕ) (t : Table) → slice_get ts i ≡ Some t → IsStored t.heading

abbrev Of : List ℕ → Columns → Type 0
Of name cs = All (λ (c : Column). c.table ≡ name) cs

named_at : (name : List ℕ) (ts : List Table) → AreStored ts → Of name (columns_at name (headings_of ts))
named_at name [] stored = λ k d less. absurd (omega (arith, less))
named_at name (t ∷ ts) stored = by_name (bytes_eq t.heading.name name) refl (named_at name ts (λ i u at. stored (suc i) u at))
  where
    by_name : (b : Bool) → bytes_eq t.heading.name name ≡ b → Of name (columns_at name (headings_of ts))
        → Of name (option_map_or (λ (h : Heading). h.schema) (cond b (Some t.heading) (heading_at name (headings_of ts))) [])
    by_name true is later = subst (λ (own : List ℕ). Of own t.heading.schema) ((bytes_eq-Decides t.heading.name name).0 is) (stored 0 t refl).table
    by_name false is later = later

first_of_them : (own : List ℕ) (c : Column) (cs : Columns) → Of own (c ∷ cs) → c.table ≡ own
first_of_them own c cs named = named 0 c (omega arith)

others : (own : List ℕ) (c : Column) (cs : Columns) → Of own (c ∷ cs) → Of own cs
others own c cs named = λ k d less. named (suc k) d (omega (arith, less))

none_other : (own : List ℕ) (cs : Columns) → Of own cs → list_any (λ (d : Column). not (bytes_eq d.table own)) cs ≡ false
none_other own [] named = refl
none_other own (c ∷ cs) named =
    ap (λ (b : Bool). not b || list_any (λ (d : Column). not (bytes_eq d.table own)) cs) ((bytes_eq-Decides c.table own).1 (first_of_them own c cs named))
    ∙ none_other own cs (others own c cs named)

one_joined : (name : List ℕ) (cs : Columns) → Of name cs → is_joined cs ≡ false
one_joined name [] named = refl
one_joined name (c ∷ cs) named =
    ap (λ (own : List ℕ). list_any (λ (d : Column). not (bytes_eq d.table own)) cs) (first_of_them name c cs named) ∙ none_other name cs (others name c cs named)

pub table_unjoined : (name : List ℕ) (ts : List Table) → AreStored ts → is_joined (source_columns (OneTable name) (headings_of ts)) ≡ is_join (OneTable name)
table_unjoined name ts stored = one_joined name (columns_at name (headings_of ts)) (named_at name ts stored)

-- ---- a join's columns are of two tables
some_columns : (name : List ℕ) (ts : List Table) → AreStored ts → has_table name (headings_of ts) ≡ true → 1 ≤ length (columns_at name (headings_of ts))
some_columns name [] stored there = absurd (cc there)
some_columns name (t ∷ ts) stored there = by_name (bytes_eq t.heading.name name) there (λ later. some_columns name ts (λ i u at. stored (suc i) u at) later)
  where
    by_name : (b : Bool) → (b || has_table name (headings_of ts)) ≡ true → (has_table name (headings_of ts) ≡ true → 1 ≤ length (columns_at name (headings_of ts)))
        → 1 ≤ length (option_map_or (λ (h : Heading). h.schema) (cond b (Some t.heading) (heading_at name (headings_of ts))) [])
    by_name true there later = (stored 0 t refl).some
    by_name false there later = later there

apart : (a b : List ℕ) → bytes_eq a b ≡ false → not (bytes_eq b a) ≡ true
apart a b off = by_test (bytes_eq b a) refl
  where
    by_test : (c : Bool) → bytes_eq b a ≡ c → not c ≡ true
    by_test true is = let same = (bytes_eq-Decides b a).0 is in let hit = (bytes_eq-Decides a b).1 (sym same) in absurd (cc (hit, off))
    by_test false is = refl

or_true : (b c : Bool) → c ≡ true → (b || c) ≡ true
or_true true c is = refl
or_true false c is = is

any_other : (a b : List ℕ) (cs : Columns) → Of b cs → 1 ≤ length cs → bytes_eq a b ≡ false → list_any (λ (d : Column). not (bytes_eq d.table a)) cs ≡ true
any_other a b [] named some off = absurd (omega (arith, some))
any_other a b (c ∷ cs) named some off =
    ap (λ (own : List ℕ). not (bytes_eq own a) || list_any (λ (d : Column). not (bytes_eq d.table a)) cs) (first_of_them b c cs named)
    ∙ ap (λ (x : Bool). x || list_any (λ (d : Column). not (bytes_eq d.table a)) cs) (apart a b off)

two_joined : (a b : List ℕ) (left right : Columns) → Of a left → Of b right → 1 ≤ length left → 1 ≤ length right → bytes_eq a b ≡ false → is_joined (left ++ right) ≡ true
two_joined a b [] right of_a of_b some others off = absurd (omega (arith, some))
two_joined a b (c ∷ cs) right of_a of_b some others off =
    ap (λ (own : List ℕ). list_any (λ (d : Column). not (bytes_eq d.table own)) (cs ++ right)) (first_of_them a c cs of_a)
    ∙ any_append (λ (d : Column). not (bytes_eq d.table a)) cs right
    ∙ or_true _ _ (any_other a b right of_b others off)

pub there_are : (a b : Bool) → (not a || (not b || false)) ≡ false → (a ≡ true) × (b ≡ true)
there_are true true is = (refl, refl)
there_are true false is = absurd (cc is)
there_are false b is = absurd (cc is)

pub join_joined : (a b : List ℕ) (on equals : ColumnName) (ts : List Table) → AreStored ts → list_any (λ name. not (has_table name (headings_of ts))) (source_tables (Join a b on equals)) ≡ false
    → joins_itself (Join a b on equals) ≡ false → is_joined (source_columns (Join a b on equals) (headings_of ts)) ≡ is_join (Join a b on equals)
join_joined a b on equals ts stored there off =
    let both = there_are (has_table a (headings_of ts)) (has_table b (headings_of ts)) there in
    two_joined a b (columns_at a (headings_of ts)) (columns_at b (headings_of ts)) (named_at a ts stored) (named_at b ts stored)
    (some_columns a ts stored both.0) (some_columns b ts stored both.1) off

-- ---- those that are printed
tabulate_length : (n : ℕ) → length (tabulate n (λ i. i)) ≡ n
tabulate_length zero = refl
tabulate_length (suc n) = let more = length-append (tabulate n (λ i. i)) (n ∷ []) in let same = tabulate_length n in omega (arith, more, same)

pub listed_few : (list : Option (List ColumnName)) (cs : Columns) → length (unwrap_or list []) ≤ 32 → length cs ≤ 32 → length (option_map_or (map (λ c. place_of c cs)) list (places_of (λ _. true) cs)) ≤ 32
listed_few None cs few wide = let same = ap length (all_places cs) in let long = tabulate_length (length cs) in omega (arith, same, long, wide)
listed_few (Some names) cs few wide = let same = length-map names (λ (c : ColumnName). place_of c cs) in omega (arith, same, few)

-- ---- where it is not refused before any access
module _ {R : Type 0} (state : R → RevState) (old : Engine R) (s : StoreState) (select : SelectRows) (agrees : Agrees state old s)
    (free : refusal_now old.public (count_of old s) (RowsStmt select) ≡ None) where
  stored : AreStored old.public.tables
  stored i t at = (agrees.tables.each i t at).heading.stored

  pub fits : Allowed (is_late (count_of old s)) (limits_of old.public) (headings_of old.public.tables) (RowsStmt select)
  fits = allowed (is_late (count_of old s)) (limits_of old.public) (headings_of old.public.tables) (RowsStmt select) free

  unjoined : (source : Source) → select.source ≡ source → is_joined (source_columns source (headings_of old.public.tables)) ≡ is_join source
  unjoined (OneTable name) is = table_unjoined name old.public.tables stored
  unjoined (Join a b on equals) is =
      join_joined a b on equals old.public.tables stored
      (sym (ap (λ (source : Source). list_any (λ name. not (has_table name (headings_of old.public.tables))) (source_tables source)) is) ∙ fits.tables)
      (sym (ap joins_itself is) ∙ fits.names)

  -- the header is the statement's
  pub labelled_is : labels_of (source_columns select.source (headings_of old.public.tables)) (printed_places select (source_columns select.source (headings_of old.public.tables))) ≡ answer_labels (RowsStmt select) old.public
  labelled_is = labels_are select (headings_of old.public.tables) (unjoined select.source refl)
