-- An access among the tables in place, and what its statement means for the tables as bags.
use Rattle.std.proofs.Common.{◌≡◌, ℕ, ℤ, Bool, true, false, cond, ◌==◌, List, [], ◌∷◌, ◌++◌, map, length, take, drop, Option, Some, None, refl, sym, ◌∙◌, ap, subst, arith}
use Rattle.std.specs.Prelude.{bytes_eq, filter, not, unwrap_or, if◌then◌else◌}
use Rattle.std.specs.Option.{option_and_then, option_map, option_map_or}
use Rattle.std.proofs.lemmas.Bool.{eqb-true}
use Rattle.std.proofs.lemmas.List.{length-append, take-append-drop}
use Rattle.std.proofs.lemmas.Slice.Eq.{bytes_eq-Decides}
use Rattle.ob_base.specs.declared.schema.Heading.{Heading}
use Rattle.ob_base.specs.declared.comparison.ComparisonOperator.TheVariants.{Equal, NotEqual, Less, LessOrEqual, Greater, GreaterOrEqual}
use Rattle.ob_base.specs.declared.skeleton.ColumnName.{ColumnName}
use Rattle.ob_base.specs.declared.skeleton.Source.{Source}
use Rattle.ob_base.specs.declared.skeleton.Source.TheVariants.{Table as OneTable, Join}
use Rattle.ob_base.specs.Schemas.{Columns, key_place}
use Rattle.ob_base.specs.Stored.{Stored, headings, stored_at, changed_at}
use Rattle.ob_row.specs.Bags.{Same}
use Rattle.ob_row.specs.Condition.{Condition}
use Rattle.ob_row.specs.Rows.{Row, keys_repeat}
use Rattle.ob_row.specs.Slots.{Slots, rows}
use Rattle.ob_row.specs.Truth.{is_true, updated}
use Rattle.ob_row.proofs.BagLemmas.{Same-refl}
use Rattle.ob_sql.specs.declared.stmt.Against.TheVariants.{Literal as LiteralAgainst, Column as ColumnAgainst}
use Rattle.ob_sql.specs.declared.stmt.Literal.TheVariants.{Int as IntLiteral, OutOfRange, Text as TextLiteral, TooLong}
use Rattle.ob_sql.specs.declared.stmt.Stmt.{Stmt}
use Rattle.ob_sql.specs.declared.stmt.Stmt.TheVariants.{Create, Insert, Update, Delete, Drop as DropTable, SelectRows as RowsStmt, SelectTotals as TotalsStmt}
use Rattle.ob_sql.specs.Search.{Search, Compare, Not, And, Or}
use Rattle.ob_names.specs.Names.{columns_at, place_of}
use Rattle.ob_mean.specs.Conditions.{where_at}
use Rattle.ob_mean.specs.Refusals.{is_key, key_asked}
use Rattle.ob_mean.specs.Step.{Database, accepted_next, new_row, set_cells}
use Rattle.ob_mean.specs.Verdict.{Held, Tables, database, IsIndexed, access_settled, held_as, index_of, keyed_table, tree_size, went}
use Rattle.ob_mean.proofs.VerdictLemmas.{headings-database, heading-stored, index_again}
use Rattle.ob_path.specs.Access.{Went}
use Rattle.ob_path.specs.States.{State, Stands, held}
use Rattle.ob_tree.proofs.RowLemmas.{rows-append}
use Rattle.ob_tree.proofs.AccessLemmas.{stash_kept}
use Rattle.ob_tree.proofs.RunLemmas.{leaves_kept}
use Rattle.ob_mean.specs.SameMeaning.{SameTables}
use Rattle.ob_mean.specs.Keyed.{Ask, Find, Put, Set, Take, op_of, ask_of, one_table}
use Rattle.ob_verdict.specs.Asking.{FitsIndex, IsNotPut, Settles, key_is, stepped}
use Rattle.ob_base.specs.Indexes.{height_of}
use Rattle.ob_row.specs.Keys.{key_at, key_in}
use Rattle.ob_verdict.specs.Settling.{AccessSettles}
use Rattle.ob_verdict.proofs.AskProof.{settles, settles_refused}

same_tables : (db : Database) → SameTables db db
same_tables [] = refl
same_tables (a ∷ db) = (refl, Same-refl a.held, same_tables db)

-- ---- the table of a name
found_name : (name : List ℕ) (ts : Tables) (t : Stored Held) → stored_at name ts ≡ Some t → t.heading.name ≡ name
found_name name [] t is = absurd (cc is)
found_name name (x ∷ xs) t is = go (bytes_eq x.heading.name name) refl is (found_name name xs t)
  where
    go : (b : Bool) → bytes_eq x.heading.name name ≡ b → cond b (Some x) (stored_at name xs) ≡ Some t → (stored_at name xs ≡ Some t → t.heading.name ≡ name) → t.heading.name ≡ name
    go true hit is rest = let same : x ≡ t = cc is in ap (λ (u : Stored Held). u.heading.name) (sym same) ∙ (bytes_eq-Decides x.heading.name name).0 hit
    go false miss is rest = rest is

-- a change of what it holds that is a change of its rows
changed_found : (name : List ℕ) (g : Held → Held) (f : List Row → List Row) (ts : Tables) (t : Stored Held) → stored_at name ts ≡ Some t → Same (rows (g t.held).slots) (f (rows t.held.slots))
    → SameTables (database (changed_at name g ts)) (changed_at name f (database ts))
changed_found name g f [] t is same = absurd (cc is)
changed_found name g f (x ∷ xs) t is same = go (bytes_eq x.heading.name name) is (λ is. changed_found name g f xs t is same)
  where
    go : (b : Bool) → cond b (Some x) (stored_at name xs) ≡ Some t → (stored_at name xs ≡ Some t → SameTables (database (changed_at name g xs)) (changed_at name f (database xs)))
        → SameTables (database (cond b (record { heading = x.heading; held = g x.held } ∷ xs) (x ∷ changed_at name g xs)))
        (cond b (record { heading = x.heading; held = f (rows x.held.slots) } ∷ database xs) (record { heading = x.heading; held = rows x.held.slots } ∷ changed_at name f (database xs)))
    go true is rest =
        let one : x ≡ t = cc is in
        (refl, subst (λ (u : Stored Held). Same (rows (g u.held).slots) (f (rows u.held.slots))) (sym one) same, same_tables (database xs))
    go false is rest = (refl, Same-refl (rows x.held.slots), rest is)

kept_at : (name : List ℕ) (db : Database) → changed_at name (λ all. all) db ≡ db
kept_at name [] = refl
kept_at name (x ∷ xs) = go (bytes_eq x.heading.name name) (kept_at name xs)
  where
    go : (b : Bool) → changed_at name (λ all. all) xs ≡ xs → (if b then record { heading = x.heading; held = x.held } ∷ xs else x ∷ changed_at name (λ all. all) xs) ≡ x ∷ xs
    go true rest = refl
    go false rest = ap (λ (ys : Database). x ∷ ys) rest

columns_is : (name : List ℕ) (ts : Tables) (t : Stored Held) → stored_at name ts ≡ Some t → columns_at name (headings (database ts)) ≡ t.heading.schema
columns_is name ts t is =
    ap (columns_at name) (headings-database ts)
    ∙ ap (λ (o : Option Heading). option_map_or (λ (h : Heading). h.schema) o []) (heading-stored name ts ∙ ap (option_map (λ (u : Stored Held). u.heading)) is)

-- ---- the condition that asks for a key
is_some_key : (o : Option ℕ) (i : ℕ) → option_map_or (λ j. i == j) o false ≡ true → i ≡ unwrap_or o 0
is_some_key None i h = absurd (cc h)
is_some_key (Some j) i h = eqb-true i j h

equal_asked : (cs : Columns) (name : ColumnName) (x z : ℤ) → key_asked cs (Some (Compare name Equal (LiteralAgainst (IntLiteral x)))) ≡ Some z
    → where_at (Some (Compare name Equal (LiteralAgainst (IntLiteral x)))) cs ≡ key_is (key_at cs) z
equal_asked cs name x z is = go (is_key cs (place_of name cs)) refl is
  where
    go : (b : Bool) → is_key cs (place_of name cs) ≡ b → cond b (Some x) None ≡ Some z → key_is (place_of name cs) x ≡ key_is (key_at cs) z
    go true key is = let same : x ≡ z = cc is in (λ j. key_is (is_some_key (key_place cs) (place_of name cs) key j) (same j))
    go false key is = absurd (cc is)

pub where_is : (cs : Columns) (cond : Option Search) (z : ℤ) → key_asked cs cond ≡ Some z → where_at cond cs ≡ key_is (key_at cs) z
where_is cs (Some (Compare name Equal (LiteralAgainst (IntLiteral x)))) z is = equal_asked cs name x z is
where_is cs other z is = absurd (cc is)

pub record IsAsked (cs : Columns) (cond : Option Search) (of : ℤ → Ask) (ask : Ask) : Type 0 where
  pub number : ℤ
  pub asked : key_asked cs cond ≡ Some number
  pub is : ask ≡ of number

pub asked_of : (cs : Columns) (cond : Option Search) (of : ℤ → Ask) (ask : Ask) → option_map of (key_asked cs cond) ≡ Some ask → IsAsked cs cond of ask
asked_of cs cond of ask is = go (key_asked cs cond) refl is
  where
    go : (o : Option ℤ) → key_asked cs cond ≡ o → option_map of o ≡ Some ask → IsAsked cs cond of ask
    go None e is = absurd (cc is)
    go (Some z) e is = record { number = z; asked = e; is = cc is }

-- ---- the tables that the statement means
pub next_of : (ts : Tables) (stmt : Stmt) (t : Stored Held) (ask : Ask) → keyed_table ts stmt ≡ Some t → ask_of t.heading stmt ≡ Some ask
    → (stored_at t.heading.name ts ≡ Some t) × (changed_at t.heading.name (stepped (key_at t.heading.schema) ask) (database ts) ≡ accepted_next (database ts) stmt)
next_of ts stmt t ask found asked = by stmt found asked
  where
    cs : Columns
    cs = t.heading.schema

    i : ℕ
    i = key_at t.heading.schema

    -- by the name of the statement's table
    named : (name : List ℕ) (stmt : Stmt) → stored_at name ts ≡ Some t → changed_at name (stepped i ask) (database ts) ≡ accepted_next (database ts) stmt
        → (stored_at t.heading.name ts ≡ Some t) × (changed_at t.heading.name (stepped i ask) (database ts) ≡ accepted_next (database ts) stmt)
    named name stmt is next =
        let same = found_name name ts t is in
        (subst (λ (n : List ℕ). stored_at n ts ≡ Some t) (sym same) is, ap (λ (n : List ℕ). changed_at n (stepped i ask) (database ts)) same ∙ next)

    stepped_as : (other : Ask) → ask ≡ other → (name : List ℕ) → changed_at name (stepped i ask) (database ts) ≡ changed_at name (stepped i other) (database ts)
    stepped_as other same name = ap (λ (a : Ask). changed_at name (stepped i a) (database ts)) same

    by : (stmt : Stmt) → keyed_table ts stmt ≡ Some t → ask_of t.heading stmt ≡ Some ask
        → (stored_at t.heading.name ts ≡ Some t) × (changed_at t.heading.name (stepped i ask) (database ts) ≡ accepted_next (database ts) stmt)
    by (Insert table columns values) found asked =
        let is = found in
        let ask_is : ask ≡ Put (new_row cs columns values) = cc asked in
        named table (Insert table columns values) is (
        stepped_as _ ask_is table
        ∙ ap (λ (k : Columns). changed_at table (λ all. all ++ new_row k columns values ∷ []) (database ts)) (sym (columns_is table ts t is)))
    by (Update table sets cond) found asked =
        let is = found in
        let a = asked_of cs cond (λ z. Set z (set_cells sets cs)) ask asked in
        named table (Update table sets cond) is (
        stepped_as _ a.is table
        ∙ ap (λ (c : Condition). changed_at table (map (updated c (set_cells sets cs))) (database ts)) (sym (where_is cs cond a.number a.asked))
        ∙ ap (λ (k : Columns). changed_at table (map (updated (where_at cond k) (set_cells sets k))) (database ts)) (sym (columns_is table ts t is)))
    by (Delete table cond) found asked =
        let is = found in
        let a = asked_of cs cond Take ask asked in
        named table (Delete table cond) is (
        stepped_as _ a.is table
        ∙ ap (λ (c : Condition). changed_at table (filter (λ row. not (is_true c row))) (database ts)) (sym (where_is cs cond a.number a.asked))
        ∙ ap (λ (k : Columns). changed_at table (filter (λ row. not (is_true (where_at cond k) row))) (database ts)) (sym (columns_is table ts t is)))
    by (RowsStmt s) found asked = of_source s.source found
      where
        of_source : (source : Source) → option_and_then (λ name. stored_at name ts) (one_table source) ≡ Some t
            → (stored_at t.heading.name ts ≡ Some t) × (changed_at t.heading.name (stepped i ask) (database ts) ≡ database ts)
        of_source (OneTable name) found =
            let is = found in
            let a = asked_of cs s.cond Find ask asked in
            named name (RowsStmt s) is (stepped_as _ a.is name ∙ kept_at name (database ts))
        of_source (Join a b on equals) found = absurd (cc found)
    by other found asked = absurd (cc found)

-- ---- an index in place
pub all_rows : (n : ℕ) (slots : Slots) → rows (take n slots) ++ rows (drop n slots) ≡ rows slots
all_rows n slots = sym (rows-append (take n slots) (drop n slots)) ∙ ap rows (take-append-drop n slots)

-- what an access leaves of the tables, where it leaves of the index the rows that f makes of those that there were
module _ (draw : ℕ) (ts : Tables) (t : Stored Held) (ask : Ask) (w : Went Row) (indexed : IsIndexed t) (goes : went draw t ask ≡ Some w) where
  abbrev n : ℕ
  n = t.heading.capacity

  abbrev i : ℕ
  i = key_at t.heading.schema

  abbrev h : ℕ
  h = height_of t.heading.capacity

  abbrev s : State Row
  s = index_of t.heading t.held

  held_is : held s ≡ rows t.held.slots
  held_is = all_rows (tree_size t.heading) t.held.slots

  after_is : rows (held_as w.state).slots ≡ held w.state
  after_is = rows-append w.state.tree w.state.stash

  -- a stash keeps its size
  as_many : length w.state.tree ≡ tree_size t.heading → length (w.state.tree ++ w.state.stash) ≡ length t.held.slots
  as_many size =
      let kept = stash_kept (key_in t.heading) h s (op_of n ask) draw w goes in
      let after = length-append w.state.tree w.state.stash in
      let before = length-append (take (tree_size t.heading) t.held.slots) (drop (tree_size t.heading) t.held.slots) in
      let whole = ap (λ (xs : Slots). length xs) (take-append-drop (tree_size t.heading) t.held.slots) in
      let tree = indexed.stands.size in
      omega (arith, size, kept, after, before, whole, tree)

  module _ (f : List Row → List Row) (db : Database) (found : stored_at t.heading.name ts ≡ Some t) (next : changed_at t.heading.name f (database ts) ≡ db)
      (well : Settles n i h w (f (held s))) where
    back : index_of t.heading (held_as w.state) ≡ w.state
    back = index_again t.heading w.state well.stands.size

    leaves_tables : AccessSettles ts t w db
    leaves_tables =
        let bag : Same (rows (held_as w.state).slots) (f (rows t.held.slots)) =
        subst (λ (all : List Row). Same all (f (rows t.held.slots))) (sym after_is)
        (subst (λ (all : List Row). Same (held w.state) (f all)) held_is well.bag) in
        record {
          bags = subst (λ (db : Database). SameTables (database (access_settled ts t w)) db) next (changed_found t.heading.name (λ _. held_as w.state) f ts t found bag);
          slots = as_many well.stands.size;
          keys = ap (λ (o : Option ℕ). keys_repeat o (rows (held_as w.state).slots)) indexed.primary ∙ ap (keys_repeat (Some i)) after_is ∙ well.keys;
          indexed = record {
            primary = indexed.primary;
            leaves = leaves_kept (key_in t.heading) h s (op_of n ask) draw w goes ∙ indexed.leaves;
            stands = subst (λ (x : State Row). Stands (key_in t.heading) h x) (sym back) well.stands;
          };
        }

pub access_settles : (draw : ℕ) (ts : Tables) (stmt : Stmt) (t : Stored Held) (ask : Ask) (w : Went Row) → keyed_table ts stmt ≡ Some t → ask_of t.heading stmt ≡ Some ask → IsIndexed t
    → FitsIndex t.heading.capacity (key_at t.heading.schema) ask (rows t.held.slots) → went draw t ask ≡ Some w → AccessSettles ts t w (accepted_next (database ts) stmt)
access_settles draw ts stmt t ask w found asked indexed fits goes =
    let next = next_of ts stmt t ask found asked in
    leaves_tables draw ts t ask w indexed goes (stepped (key_at t.heading.schema) ask) (accepted_next (database ts) stmt) next.0 next.1
    (settles t.heading.capacity (key_at t.heading.schema) (height_of t.heading.capacity) draw (index_of t.heading t.held) ask w indexed.leaves indexed.stands
    (subst (λ (all : List Row). FitsIndex t.heading.capacity (key_at t.heading.schema) ask all) (sym (all_rows (tree_size t.heading) t.held.slots)) fits) goes)

pub access_refused : (draw : ℕ) (ts : Tables) (stmt : Stmt) (t : Stored Held) (row : Row) (w : Went Row) → keyed_table ts stmt ≡ Some t → ask_of t.heading stmt ≡ Some (Put row) → IsIndexed t
    → IsNotPut t.heading.capacity (key_at t.heading.schema) row (rows t.held.slots) → went draw t (Put row) ≡ Some w → AccessSettles ts t w (database ts)
access_refused draw ts stmt t row w found asked indexed off goes =
    leaves_tables draw ts t (Put row) w indexed goes (λ all. all) (database ts) (next_of ts stmt t (Put row) found asked).0 (kept_at t.heading.name (database ts))
    (settles_refused t.heading.capacity (key_at t.heading.schema) (height_of t.heading.capacity) draw (index_of t.heading t.held) row w indexed.leaves indexed.stands
    (subst (λ (all : List Row). IsNotPut t.heading.capacity (key_at t.heading.schema) row all) (sym (all_rows (tree_size t.heading) t.held.slots)) off) goes)
