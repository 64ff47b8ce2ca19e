-- SQL's meaning is of bags.
use Rattle.std.proofs.Common.{◌≡◌, ℕ, Bool, true, false, List, [], ◌∷◌, ◌++◌, map, refl, sym, ◌∙◌, ap, subst, cond}
use Rattle.std.specs.Prelude.{Option, Some, None, filter, not, bytes_eq, ◌==◌, nat_lt, if◌then◌else◌, filter_map, count_by}
use Rattle.std.specs.Option.{option_map_or, option_or}
use Rattle.ob_base.specs.declared.refusal.Refusal.{Refusal}
use Rattle.ob_base.specs.declared.refusal.Refusal.TheVariants.{Duplicate, Full as FullTable, TooManyGroups, KeyRange}
use Rattle.ob_base.specs.declared.schema.Heading.{Heading}
use Rattle.ob_base.specs.declared.shown.Shown.{Shown}
use Rattle.ob_base.specs.declared.skeleton.ColumnName.{ColumnName}
use Rattle.ob_base.specs.declared.skeleton.Source.{Source}
use Rattle.ob_base.specs.declared.skeleton.Source.TheVariants.{Table as OneTable, Join}
use Rattle.ob_base.specs.Limits.{buffered}
use Rattle.ob_base.specs.Schemas.{Columns, columns_of, key_place}
use Rattle.ob_base.specs.Indexes.{by_shape}
use Rattle.ob_base.specs.Stored.{Stored, headings, stored_at, changed_at, dropped_at}
use Rattle.ob_row.specs.Bags.{Same}
use Rattle.ob_row.specs.Rows.{Row, agree_at, has_key, pairs}
use Rattle.ob_row.specs.Totals.{printed}
use Rattle.ob_row.specs.Truth.{is_true, updated}
use Rattle.ob_row.proofs.BagLemmas.{Same-append, Same-filter, Same-map, Same-refl}
use Rattle.ob_sql.specs.declared.stmt.Listed.{Listed}
use Rattle.ob_sql.specs.declared.stmt.Stmt.{Stmt}
use Rattle.ob_sql.specs.declared.stmt.Stmt.TheVariants.{Create, Insert, Update, Delete, Drop as DropTable, SelectRows as RowsStmt, SelectTotals as TotalsStmt}
use Rattle.ob_sql.specs.Search.{Search}
use Rattle.ob_mean.specs.declared.answer.Answer.{Answer}
use Rattle.ob_mean.specs.declared.answer.Answer.TheVariants.{Changed}
use Rattle.ob_names.specs.Names.{columns_at, place_of, source_columns}
use Rattle.ob_mean.specs.Conditions.{where_at}
use Rattle.ob_mean.specs.Refusals.{early_refusal, limits_of, Limits}
use Rattle.ob_mean.specs.SameMeaning.{SameTables, SameAnswer, MeaningIsOfBags}
use Rattle.ob_mean.specs.Step.{Database, accepted_answer, accepted_next, agg_of, answered, followed, has_own_key, insert_refusal, item_of, join_places, late_refusal, new_row, overgroups, printed_places, refusal_of, rows_answer, rows_at, set_cells, source_rows, total_rows}
use Rattle.ob_mean.proofs.SameLemmas.{same-any, same-count, same-grouped, same-heads, same-is, same-length, same-pairs, same-totals}

-- ---- lists of tables
-- what a name finds among both
abbrev SameFound : Option (Stored (List Row)) → Option (Stored (List Row)) → Type 0
SameFound None other = other ≡ None
SameFound (Some a) None = ⊥
SameFound (Some a) (Some b) = (a.heading ≡ b.heading) × Same a.held b.held

same_headings : (a b : Database) → SameTables a b → headings a ≡ headings b
same_headings [] b same = ap (λ (db : Database). headings db) (sym same)
same_headings (x ∷ a) [] same = absurd same
same_headings (x ∷ a) (y ∷ b) same = let rest = same_headings a b same.2 in λ i. same.0 i ∷ rest i

same_found : (name : List ℕ) (a b : Database) → SameTables a b → SameFound (stored_at name a) (stored_at name b)
same_found name [] b same = ap (stored_at name) same
same_found name (x ∷ a) [] same = absurd same
same_found name (x ∷ a) (y ∷ b) same =
    subst (λ (h : Heading). SameFound (stored_at name (x ∷ a)) (cond (bytes_eq h.name name) (Some y) (stored_at name b))) same.0
    (elim (bytes_eq x.heading.name name) as (λ t. SameFound (cond t (Some x) (stored_at name a)) (cond t (Some y) (stored_at name b)))
    [ true ↦ (same.0, same.1) | false ↦ same_found name a b same.2 ])

-- a change of bags, of what one table holds
same_changed : (name : List ℕ) (f : List Row → List Row) → ((xs ys : List Row) → Same xs ys → Same (f xs) (f ys))
    → (a b : Database) → SameTables a b → SameTables (changed_at name f a) (changed_at name f b)
same_changed name f keeps [] b same = ap (changed_at name f) same
same_changed name f keeps (x ∷ a) [] same = absurd same
same_changed name f keeps (x ∷ a) (y ∷ b) same =
    subst (λ (h : Heading). SameTables (changed_at name f (x ∷ a)) (cond (bytes_eq h.name name) (record { heading = y.heading; held = f y.held } ∷ b) (y ∷ changed_at name f b))) same.0
    (elim (bytes_eq x.heading.name name) as (λ t. SameTables (cond t (record { heading = x.heading; held = f x.held } ∷ a) (x ∷ changed_at name f a))
    (cond t (record { heading = y.heading; held = f y.held } ∷ b) (y ∷ changed_at name f b)))
    [ true ↦ (same.0, keeps x.held y.held same.1, same.2) | false ↦ (same.0, same.1, same_changed name f keeps a b same.2) ])

same_dropped : (name : List ℕ) (a b : Database) → SameTables a b → SameTables (dropped_at name a) (dropped_at name b)
same_dropped name [] b same = ap (dropped_at name) same
same_dropped name (x ∷ a) [] same = absurd same
same_dropped name (x ∷ a) (y ∷ b) same =
    subst (λ (h : Heading). SameTables (dropped_at name (x ∷ a)) (cond (bytes_eq h.name name) b (y ∷ dropped_at name b))) same.0
    (elim (bytes_eq x.heading.name name) as (λ t. SameTables (cond t a (x ∷ dropped_at name a)) (cond t b (y ∷ dropped_at name b)))
    [ true ↦ same.2 | false ↦ (same.0, same.1, same_dropped name a b same.2) ])

same_added : (t : Stored (List Row)) (a b : Database) → SameTables a b → SameTables (a ++ t ∷ []) (b ++ t ∷ [])
same_added t [] b same = subst (λ (db : Database). SameTables (t ∷ []) (db ++ t ∷ [])) (sym same) (refl, Same-refl t.held, refl)
same_added t (x ∷ a) [] same = absurd same
same_added t (x ∷ a) (y ∷ b) same = (same.0, same.1, same_added t a b same.2)

-- ---- one statement
same_overgroups : (s : ℕ) (group : Option ColumnName) (cs : Columns) (xs ys : List Row) → Same xs ys → overgroups s group cs xs ≡ overgroups s group cs ys
same_overgroups s None cs xs ys same = refl
same_overgroups s (Some key) cs xs ys same = ap (nat_lt s) (same-heads (place_of key cs) xs ys same)

same_total_rows : (group : Option ColumnName) (cs : Columns) (items : List Listed) (xs ys : List Row) → Same xs ys → Same (total_rows group cs items xs) (total_rows group cs items ys)
same_total_rows None cs items xs ys same =
    same-is (total_rows None cs items xs) (total_rows None cs items ys) (ap (λ (row : List Shown). row ∷ []) (same-totals (filter_map (agg_of cs) items) xs ys same))
same_total_rows (Some key) cs items xs ys same = same-grouped (place_of key cs) (map (item_of cs) items) xs ys same

same_insert : (row : Row) (x y : Stored (List Row)) → x.heading ≡ y.heading → Same x.held y.held → insert_refusal x row ≡ insert_refusal y row
same_insert row x y heading held =
    ap (λ (h : Heading). insert_refusal (record { heading = h; held = x.held }) row) heading
    ∙ (λ i. if of_key (key_place y.heading.schema) i then Some Duplicate
    else by_shape y.heading.shape (if same-length x.held y.held held i == y.heading.capacity then Some FullTable else None)
    (if has_own_key y.heading row then None else Some KeyRange))
  where
    of_key : (key : Option ℕ) → has_key key row x.held ≡ has_key key row y.held
    of_key None = refl
    of_key (Some i) = same-any (agree_at i i row) x.held y.held held

module _ (a b : Database) (same : SameTables a b) where
  heads : headings a ≡ headings b
  heads = same_headings a b same

  held_same : (name : List ℕ) → Same (rows_at name a) (rows_at name b)
  held_same name = go (stored_at name a) (stored_at name b) (same_found name a b same)
    where
      go : (x y : Option (Stored (List Row))) → SameFound x y → Same (option_map_or (λ (t : Stored (List Row)). t.held) x []) (option_map_or (λ (t : Stored (List Row)). t.held) y [])
      go None y found = ap (λ (o : Option (Stored (List Row))). option_map_or (λ (t : Stored (List Row)). t.held) o []) found
      go (Some x) None found = absurd found
      go (Some x) (Some y) found = found.1

  filtered_same : (test : Row → Bool) (name : List ℕ) → Same (filter test (rows_at name a)) (filter test (rows_at name b))
  filtered_same test name = Same-filter test (rows_at name a) (rows_at name b) (held_same name)

  source_same : (source : Source) → Same (source_rows source a) (source_rows source b)
  source_same (OneTable name) = held_same name
  source_same (Join left right on equals) =
      subst (λ (hs : List Heading). Same (pairs (join_places (Join left right on equals) hs).0 (join_places (Join left right on equals) hs).1 (rows_at left a) (rows_at right a)) (source_rows (Join left right on equals) b)) (sym heads)
      (same-pairs _ _ (rows_at left a) (rows_at left b) (rows_at right a) (rows_at right b) (held_same left) (held_same right))

  -- ---- refusals
  late_same : (s : ℕ) (stmt : Stmt) → late_refusal s a stmt ≡ late_refusal s b stmt
  late_same s (Create table columns capacity shape) = refl
  late_same s (Insert table columns values) = go (stored_at table a) (stored_at table b) (same_found table a b same)
    where
      refused : Stored (List Row) → Option Refusal
      refused t = insert_refusal t (new_row t.heading.schema columns values)

      go : (x y : Option (Stored (List Row))) → SameFound x y → option_map_or refused x None ≡ option_map_or refused y None
      go None y found = ap (λ (o : Option (Stored (List Row))). option_map_or refused o None) (sym found)
      go (Some x) None found = absurd found
      go (Some x) (Some y) found =
          same_insert (new_row x.heading.schema columns values) x y found.0 found.1 ∙ ap (λ (h : Heading). insert_refusal y (new_row h.schema columns values)) found.0
  late_same s (TotalsStmt q) =
      ap (λ (hs : List Heading). refused hs a) heads
      ∙ ap (λ over. if over then Some TooManyGroups else None)
      (same_overgroups s q.group (columns_at q.table (headings b)) _ _ (filtered_same (is_true (where_at q.cond (columns_at q.table (headings b)))) q.table))
    where
      refused : List Heading → Database → Option Refusal
      refused hs db =
          if overgroups s q.group (columns_at q.table hs) (filter (is_true (where_at q.cond (columns_at q.table hs))) (rows_at q.table db)) then Some TooManyGroups else None
  late_same s other = refl

  early_same : (late : Bool) (limits : Limits) (stmt : Stmt) → early_refusal late limits (headings a) stmt ≡ early_refusal late limits (headings b) stmt
  early_same late limits stmt = ap (λ (hs : List Heading). early_refusal late limits hs stmt) heads

  refusal_same : (late : Bool) (limits : Limits) (stmt : Stmt) → refusal_of late limits a stmt ≡ refusal_of late limits b stmt
  refusal_same late limits stmt = let early = early_same late limits stmt in let later = late_same (buffered limits.pack limits.buffer) stmt in λ i. option_or (early i) (later i)

  -- ---- answers
  changed_same : (table : List ℕ) (search : Option Search) → SameAnswer (Changed (count_by (is_true (where_at search (columns_at table (headings a)))) (rows_at table a)))
      (Changed (count_by (is_true (where_at search (columns_at table (headings b)))) (rows_at table b)))
  changed_same table search =
      ap (λ (hs : List Heading). Changed (count_by (is_true (where_at search (columns_at table hs))) (rows_at table a))) heads
      ∙ ap Changed (same-count (is_true (where_at search (columns_at table (headings b)))) (rows_at table a) (rows_at table b) (held_same table))

  accepted_same : (stmt : Stmt) → SameAnswer (accepted_answer a stmt) (accepted_answer b stmt)
  accepted_same (Update table sets search) = changed_same table search
  accepted_same (Delete table search) = changed_same table search
  accepted_same (RowsStmt q) =
      subst (λ (hs : List Heading). Same (shown hs a) (shown (headings b) b)) (sym heads)
      (Same-map (printed (printed_places q (source_columns q.source (headings b)))) _ _ (Same-filter (is_true (where_at q.cond (source_columns q.source (headings b)))) _ _ (source_same q.source)))
    where
      shown : List Heading → Database → List (List Shown)
      shown hs db = rows_answer q (source_columns q.source hs) (filter (is_true (where_at q.cond (source_columns q.source hs))) (source_rows q.source db))
  accepted_same (TotalsStmt q) =
      subst (λ (hs : List Heading). Same (shown hs a) (shown (headings b) b)) (sym heads)
      (same_total_rows q.group (columns_at q.table (headings b)) q.items _ _ (filtered_same (is_true (where_at q.cond (columns_at q.table (headings b)))) q.table))
    where
      shown : List Heading → Database → List (List Shown)
      shown hs db = total_rows q.group (columns_at q.table hs) q.items (filter (is_true (where_at q.cond (columns_at q.table hs))) (rows_at q.table db))
  accepted_same other = refl

  -- ---- the tables afterwards
  next_same : (stmt : Stmt) → SameTables (accepted_next a stmt) (accepted_next b stmt)
  next_same (Create table columns capacity shape) = same_added (record { heading = record { name = table; schema = columns_of table columns; capacity = capacity; shape = shape }; held = [] }) a b same
  next_same (Insert table columns values) =
      subst (λ (hs : List Heading). SameTables (next hs a) (next (headings b) b)) (sym heads)
      (same_changed table _ (λ xs ys s. Same-append xs ys _ _ s (Same-refl (new_row (columns_at table (headings b)) columns values ∷ []))) a b same)
    where
      next : List Heading → Database → Database
      next hs db = changed_at table (λ rows. rows ++ new_row (columns_at table hs) columns values ∷ []) db
  next_same (Update table sets search) =
      subst (λ (hs : List Heading). SameTables (next hs a) (next (headings b) b)) (sym heads)
      (same_changed table _ (λ xs ys s. Same-map (updated (where_at search (columns_at table (headings b))) (set_cells sets (columns_at table (headings b)))) xs ys s) a b same)
    where
      next : List Heading → Database → Database
      next hs db = changed_at table (map (updated (where_at search (columns_at table hs)) (set_cells sets (columns_at table hs)))) db
  next_same (Delete table search) =
      subst (λ (hs : List Heading). SameTables (next hs a) (next (headings b) b)) (sym heads)
      (same_changed table _ (λ xs ys s. Same-filter (λ row. not (is_true (where_at search (columns_at table (headings b))) row)) xs ys s) a b same)
    where
      next : List Heading → Database → Database
      next hs db = changed_at table (filter (λ row. not (is_true (where_at search (columns_at table hs)) row))) db
  next_same (DropTable table) = same_dropped table a b same
  next_same (RowsStmt q) = same
  next_same (TotalsStmt q) = same

  answered_same : (r q : Option Refusal) (x y : Answer) → r ≡ q → SameAnswer x y → SameAnswer (answered r x) (answered q y)
  answered_same r q x y is alike = subst (λ (o : Option Refusal). SameAnswer (answered r x) (answered o y)) is (go r)
    where
      go : (o : Option Refusal) → SameAnswer (answered o x) (answered o y)
      go None = alike
      go (Some refusal) = refl

  followed_same : (r q : Option Refusal) (x y : Database) → r ≡ q → SameTables x y → SameTables (followed r x a) (followed q y b)
  followed_same r q x y is alike = subst (λ (o : Option Refusal). SameTables (followed r x a) (followed o y b)) is (go r)
    where
      go : (o : Option Refusal) → SameTables (followed o x a) (followed o y b)
      go None = alike
      go (Some refusal) = same

pub meaning_is_of_bags : MeaningIsOfBags
meaning_is_of_bags p a b stmt same =
    let refused = refusal_same a b same false (limits_of p) stmt in
    record {
      early = λ late. early_same a b same late (limits_of p) stmt;
      late = late_same a b same (buffered p.pack p.buffer) stmt;
      accepted = accepted_same a b same stmt;
      answer = answered_same a b same _ _ (accepted_answer a stmt) (accepted_answer b stmt) refused (accepted_same a b same stmt);
      next = followed_same a b same _ _ (accepted_next a stmt) (accepted_next b stmt) refused (next_same a b same stmt);
    }
