-- What an access of an index leaves of the tables, whether its statement is refused or not.
use Rattle.std.proofs.Common.{◌≡◌, ◌≢◌, ◌⊎◌, inl, inr, ℕ, zero, suc, ◌+◌, ◌<◌, ◌≤◌, ℤ, Bool, true, false, List, [], ◌∷◌, length, ◌==◌, refl, sym, ◌∙◌, ap, subst, cond, arith}
use Rattle.std.specs.Prelude.{Option, Some, None, IsSome, is_some, nat_lt, pos, negsuc, ◌&&◌, slice_get, slice_set, if◌then◌else◌}
use Rattle.std.specs.Option.{is_none, option_and_then, option_map, option_map_or}
use Rattle.std.proofs.lemmas.Bool.Decides.{nat_tests}
use Rattle.ob_base.specs.declared.config.Public.{Public}
use Rattle.ob_base.specs.declared.skeleton.ColumnName.{ColumnName}
use Rattle.ob_base.specs.declared.skeleton.Source.{Source}
use Rattle.ob_base.specs.declared.skeleton.Source.TheVariants.{Table as OneTable, Join}
use Rattle.ob_base.specs.declared.schema.Column.{Column}
use Rattle.ob_base.specs.declared.schema.Heading.{Heading}
use Rattle.ob_base.specs.declared.schema.Shape.{Shape}
use Rattle.ob_base.specs.declared.schema.Shape.TheVariants.{Flat, Indexed}
use Rattle.ob_base.specs.declared.refusal.Refusal.{Refusal}
use Rattle.ob_base.specs.declared.refusal.Refusal.TheVariants.{Duplicate, Full as FullTable, KeyRange}
use Rattle.ob_base.specs.Indexes.{by_shape, height_of, slots_in_place, tree_blocks}
use Rattle.ob_base.specs.Lists.{first, places_from}
use Rattle.ob_base.specs.Schemas.{Columns, key_place}
use Rattle.ob_base.specs.Stored.{Stored, headings, headings_of, stored_at}
use Rattle.ob_path.specs.Access.{Went}
use Rattle.ob_row.specs.Keys.{cell_number, key_at, key_in}
use Rattle.ob_row.specs.declared.cell.Cell.{Cell}
use Rattle.ob_row.specs.declared.cell.Cell.TheVariants.{Int, Text}
use Rattle.ob_row.specs.Rows.{Row, cell_at, has_key, with_cells}
use Rattle.ob_row.specs.Slots.{rows}
use Rattle.ob_sql.specs.declared.stmt.Literal.{Literal}
use Rattle.ob_sql.specs.declared.stmt.SelectRows.{SelectRows}
use Rattle.ob_sql.specs.declared.stmt.Set.{Set as SetStmt}
use Rattle.ob_sql.specs.declared.stmt.Stmt.{Stmt}
use Rattle.ob_sql.specs.declared.stmt.Stmt.TheVariants.{Create, Insert, Update, Delete, Drop as DropTable, SelectRows as RowsStmt, SelectTotals as TotalsStmt}
use Rattle.ob_sql.specs.Search.{Search}
use Rattle.ob_sql.specs.Skeleton.{skeleton}
use Rattle.ob_names.specs.Names.{columns_at, place_of, unqualified}
use Rattle.ob_mean.specs.Keyed.{Ask, Find, Put, Set, Take, ask_of, keyed_name, one_table}
use Rattle.ob_mean.specs.Refusals.{early_refusal, is_index, is_indexed, key_asked, lacks_key, sets_key, source_lacks_key, Limits}
use Rattle.ob_mean.specs.Replay.{has_index, is_access}
use Rattle.ob_mean.specs.Step.{accepted_next, has_own_key, insert_refusal, is_key_cell, late_refusal, new_row, set_cells}
use Rattle.ob_mean.specs.Verdict.{Accessed, Held, access_of, accessed, IsIndexed, Tables, database, keyed_table, went}
use Rattle.ob_mean.proofs.EarlyLemmas.{allowed, neither}
use Rattle.ob_mean.proofs.VerdictLemmas.{heading-stored, stored-database}
use Rattle.ob_verdict.specs.Asking.{FitsIndex}
use Rattle.ob_verdict.specs.Settling.{AccessSettles}
use Rattle.ob_verdict.proofs.AccessProof.{access_refused, access_settles}

-- the cell at a key's place stays
set_apart : {A : Type 0} (xs : List A) (i j : ℕ) (v : A) → i ≢ j → slice_get (slice_set xs i v) j ≡ slice_get xs j
set_apart [] i j v off = refl
set_apart (x ∷ xs) zero zero v off = absurd (off refl)
set_apart (x ∷ xs) zero (suc j) v off = refl
set_apart (x ∷ xs) (suc i) zero v off = refl
set_apart (x ∷ xs) (suc i) (suc j) v off = set_apart xs i j v (λ e. off (ap suc e))

-- the test of the column at a place
abbrev pub is_key_at : Columns → ℕ → Bool
is_key_at cs i = option_map_or (λ (c : Column). c.key) (slice_get cs i) false

abbrev KeyFrom : ℕ → ℕ → Columns → Type 0
KeyFrom n j cs = (k : ℕ) × (j ≡ n + k) × (is_key_at cs k ≡ true)

key_there : (n j : ℕ) (cs : Columns) → first (places_from n (λ (c : Column). c.key) cs) ≡ Some j → KeyFrom n j cs
key_there n j [] h = absurd (cc)
key_there n j (c ∷ cs) h = go c.key refl (key_there (suc n) j cs) h where
  go : (b : Bool) → c.key ≡ b → (first (places_from (suc n) (λ (c : Column). c.key) cs) ≡ Some j → KeyFrom (suc n) j cs)
      → first (cond b (n ∷ places_from (suc n) (λ (c : Column). c.key) cs) (places_from (suc n) (λ (c : Column). c.key) cs)) ≡ Some j → KeyFrom n j (c ∷ cs)
  go true e rest is = let same : n ≡ j = cc in (0, omega arith, e)
  go false e rest is = let r = rest is in (suc r.0, (let same = r.1 in omega arith), r.2)

pub off_key : (cs : Columns) (i j : ℕ) → key_place cs ≡ Some j → is_key_at cs i ≡ false → i ≢ j
off_key cs i j key other e =
    let there = key_there 0 j cs key in
    let same : there.0 ≡ i = let is = there.1 in omega arith in
    let yes : is_key_at cs i ≡ true = subst (λ k. is_key_at cs k ≡ true) same there.2 in
    absurd (cc (yes, other))

pub cells-kept : (cs : Columns) (j : ℕ) → key_place cs ≡ Some j → (sets : List SetStmt) → sets_key cs sets ≡ false → (row : Row) → cell_at (with_cells (set_cells sets cs) row) j ≡ cell_at row j
cells-kept cs j key [] none row = refl
cells-kept cs j key (s ∷ sets) none row =
    let i = place_of (unqualified s.column) cs in
    let both = neither (is_key_at cs i) (sets_key cs sets) none in
    let off = off_key cs i j key both.0 in
    cells-kept cs j key sets both.1 _ ∙ set_apart row i j _ off

-- the columns of the table of a name
pub schema_is : (name : List ℕ) (ts : Tables) (t : Stored Held) → stored_at name ts ≡ Some t → columns_at name (headings ts) ≡ t.heading.schema
schema_is name ts t is =
    ap (λ (o : Option Heading). option_map_or (λ (h : Heading). h.schema) o []) (heading-stored name ts) ∙ ap (λ (o : Option (Stored Held)). option_map_or (λ (h : Heading). h.schema) (option_map (λ t. t.heading) o) []) is

-- ---- tables that are read and changed by no key
abbrev accessing : Stored Held → Ask → Accessed
accessing t ask = record { table = t; ask = ask }

-- a flat table has as many slots as its capacity
pub flat_slots : (stash : ℕ) (h : Heading) → h.shape ≡ Flat → slots_in_place stash h ≡ h.capacity
flat_slots stash h flat = ap (λ (shape : Shape). by_shape shape h.capacity (tree_blocks (height_of h.capacity) + stash)) flat

-- an accepted statement on an index that accesses it by no key is none
flat_by : (shape : Shape) (o : Option ℤ) (of : ℤ → Ask) (with : Ask → Accessed) → by_shape shape None (option_map with (option_map of o)) ≡ None → (is_indexed shape && is_none o) ≡ false → shape ≡ Flat
flat_by Flat o of with unkeyed asked = refl
flat_by Indexed None of with unkeyed asked = absurd (cc asked)
flat_by Indexed (Some z) of with unkeyed asked = absurd (cc unkeyed)

pub not_index : (shape : Shape) → is_indexed shape ≡ false → shape ≡ Flat
not_index Flat h = refl
not_index Indexed h = absurd (cc h)

module _ (ts : Tables) (name : List ℕ) (t : Stored Held) (found : stored_at name ts ≡ Some t) where
  index_is : is_index (headings ts) name ≡ is_indexed t.heading.shape
  index_is =
      ap (λ (o : Option Heading). option_map_or (λ (h : Heading). is_indexed h.shape) o false) (heading-stored name ts)
      ∙ ap (λ (o : Option (Stored Held)). option_map_or (λ (h : Heading). is_indexed h.shape) (option_map (λ u. u.heading) o) false) found

  -- by its WHERE
  pub flat_where : (stmt : Stmt) (cond : Option Search) (of : ℤ → Ask) → keyed_name stmt ≡ Some name → ask_of t.heading stmt ≡ option_map of (key_asked t.heading.schema cond)
      → accessed ts stmt ≡ None → lacks_key (headings ts) name cond ≡ false → t.heading.shape ≡ Flat
  flat_where stmt cond of named asks unkeyed keyed =
      flat_by t.heading.shape (key_asked t.heading.schema cond) of (accessing t)
      (ap (λ (o : Option Ask). by_shape t.heading.shape None (option_map (accessing t) o)) (sym asks)
      ∙ sym (ap (λ (o : Option (Stored Held)). option_and_then (access_of stmt) o) (ap (option_and_then (λ (n : List ℕ). stored_at n ts)) named ∙ found)) ∙ unkeyed)
      ((λ i. sym index_is i && is_none (key_asked (sym (schema_is name ts t found) i) cond)) ∙ keyed)

-- a table that an accepted statement reads or changes, where it accesses none
abbrev pub FlatAt : Tables → List ℕ → Type 0
FlatAt ts name = (t : Stored Held) → stored_at name ts ≡ Some t → t.heading.shape ≡ Flat

-- where it is no index
flat_at : (ts : Tables) (name : List ℕ) → is_index (headings ts) name ≡ false → FlatAt ts name
flat_at ts name none t found = not_index t.heading.shape (sym (index_is ts name t found) ∙ none)

abbrev pub SourceFlat : Tables → Source → Type 0
SourceFlat ts (OneTable name) = FlatAt ts name
SourceFlat ts (Join a b on equals) = FlatAt ts a × FlatAt ts b

pub source_flat : (late : Bool) (limits : Limits) (ts : Tables) (q : SelectRows) → early_refusal late limits (headings ts) (RowsStmt q) ≡ None → accessed ts (RowsStmt q) ≡ None → SourceFlat ts q.source
source_flat late limits ts q early unkeyed = of_source q.source (λ e. e) (allowed late limits (headings ts) (RowsStmt q) early).keyed unkeyed
  where
    of_source : (source : Source) → (q.source ≡ source → q.source ≡ source) → source_lacks_key (headings ts) source q.cond ≡ false
        → option_and_then (access_of (RowsStmt q)) (option_and_then (λ name. stored_at name ts) (one_table source)) ≡ None → SourceFlat ts source
    of_source (OneTable name) same keyed unkeyed = λ t found.
        flat_by t.heading.shape (key_asked t.heading.schema q.cond) Find (accessing t)
        (sym (ap (option_and_then (access_of (RowsStmt q))) found) ∙ unkeyed)
        ((λ i. sym (index_is ts name t found) i && is_none (key_asked (sym (schema_is name ts t found) i) q.cond)) ∙ keyed)
    of_source (Join a b on equals) same keyed unkeyed =
        let both = neither (is_index (headings ts) a) (is_index (headings ts) b) keyed in
        (flat_at ts a both.0, flat_at ts b both.1)

-- ---- which statements access an index follows from what is public
module _ (p : Public) (ts : Tables) (same : headings ts ≡ headings_of p.tables) where
  public_index : (name : List ℕ) → has_index p name ≡ is_index (headings ts) name
  public_index name = ap (λ (hs : List Heading). is_index hs name) (sym same)

  -- a statement on the one table of this name
  access_at : (stmt : Stmt) (name : List ℕ) → keyed_name stmt ≡ Some name
      → ((t : Stored Held) → stored_at name ts ≡ Some t → t.heading.shape ≡ Indexed → is_some (ask_of t.heading stmt) ≡ true)
      → is_index (headings ts) name ≡ is_some (accessed ts stmt)
  access_at stmt name named asks =
      go (stored_at name ts) refl ∙ sym (ap (λ (o : Option (List ℕ)). is_some (option_and_then (access_of stmt) (option_and_then (λ n. stored_at n ts) o))) named)
    where
      some_mapped : (t : Stored Held) (o : Option Ask) → is_some (option_map (accessing t) o) ≡ is_some o
      some_mapped t None = refl
      some_mapped t (Some ask) = refl

      of_shape : (t : Stored Held) (shape : Shape) → t.heading.shape ≡ shape → stored_at name ts ≡ Some t
          → is_indexed shape ≡ is_some (by_shape shape None (option_map (accessing t) (ask_of t.heading stmt)))
      of_shape t Flat shaped found = refl
      of_shape t Indexed shaped found = sym (some_mapped t (ask_of t.heading stmt) ∙ asks t found shaped)

      none_there : stored_at name ts ≡ None → is_index (headings ts) name ≡ false
      none_there none = ap (λ (o : Option Heading). option_map_or (λ (h : Heading). is_indexed h.shape) o false) (heading-stored name ts ∙ ap (option_map (λ (u : Stored Held). u.heading)) none)

      go : (o : Option (Stored Held)) → stored_at name ts ≡ o → is_index (headings ts) name ≡ is_some (option_and_then (access_of stmt) (stored_at name ts))
      go None none = none_there none ∙ sym (ap (λ (o : Option (Stored Held)). is_some (option_and_then (access_of stmt) o)) none)
      go (Some t) found =
          index_is ts name t found ∙ of_shape t t.heading.shape refl found ∙ sym (ap (λ (o : Option (Stored Held)). is_some (option_and_then (access_of stmt) o)) found)

  -- where a WHERE has to ask for a key
  asked_there : (name : List ℕ) (cond : Option Search) (t : Stored Held) → stored_at name ts ≡ Some t → t.heading.shape ≡ Indexed → lacks_key (headings ts) name cond ≡ false
      → is_some (key_asked t.heading.schema cond) ≡ true
  asked_there name cond t found shaped keyed =
      go (key_asked t.heading.schema cond) ((λ i. sym (index_is ts name t found ∙ ap is_indexed shaped) i && is_none (key_asked (sym (schema_is name ts t found) i) cond)) ∙ keyed)
    where
      go : (o : Option ℤ) → (true && is_none o) ≡ false → is_some o ≡ true
      go None h = absurd (cc h)
      go (Some z) h = refl

  asks_mapped : (of : ℤ → Ask) (o : Option ℤ) → is_some o ≡ true → is_some (option_map of o) ≡ true
  asks_mapped of None h = absurd (cc h)
  asks_mapped of (Some z) h = refl

  pub access_public : (late : Bool) (limits : Limits) (stmt : Stmt) → early_refusal late limits (headings ts) stmt ≡ None → is_access p (skeleton stmt) ≡ is_some (accessed ts stmt)
  access_public late limits (Insert table columns values) early =
      public_index table ∙ access_at (Insert table columns values) table refl (λ t found shaped. refl)
  access_public late limits (Update table sets cond) early =
      let free = allowed late limits (headings ts) (Update table sets cond) early in
      public_index table ∙ access_at (Update table sets cond) table refl
      (λ t found shaped. asks_mapped (λ z. Set z (set_cells sets t.heading.schema)) (key_asked t.heading.schema cond) (asked_there table cond t found shaped free.keyed))
  access_public late limits (Delete table cond) early =
      let free = allowed late limits (headings ts) (Delete table cond) early in
      public_index table ∙ access_at (Delete table cond) table refl
      (λ t found shaped. asks_mapped Take (key_asked t.heading.schema cond) (asked_there table cond t found shaped free.keyed))
  access_public late limits (RowsStmt q) early = of_source q.source q.list q.cond early
    where
      of_source : (source : Source) (list : Option (List ColumnName)) (cond : Option Search)
          → early_refusal late limits (headings ts) (RowsStmt (record { list = list; source = source; cond = cond })) ≡ None
          → is_access p (skeleton (RowsStmt (record { list = list; source = source; cond = cond }))) ≡ is_some (accessed ts (RowsStmt (record { list = list; source = source; cond = cond })))
      of_source (OneTable name) list cond early =
          let stmt = RowsStmt (record { list = list; source = OneTable name; cond = cond }) in
          let free = allowed late limits (headings ts) stmt early in
          public_index name ∙ access_at stmt name refl (λ t found shaped. asks_mapped Find (key_asked t.heading.schema cond) (asked_there name cond t found shaped free.keyed))
      of_source (Join a b on equals) list cond early = refl
  access_public late limits other early = refl

-- a cell is one of n keys exactly where its number is less
own_key : (n : ℕ) (c : Option Cell) → is_key_cell n c ≡ nat_lt (cell_number n c) n
own_key n (Some (Int (pos x))) = go (nat_lt x n) refl
  where
    go : (b : Bool) → nat_lt x n ≡ b → b ≡ nat_lt (cond b x n) n
    go true is = sym is
    go false is = grind (arith, nat_tests)
own_key n other = grind (arith, nat_tests)

-- ---- what an access leaves
-- the tables that SQL's meaning leaves where nothing refuses, and else those that there were
abbrev pub LeavesTables : (groups : ℕ) → Tables → Stmt → Stored Held → Went Row → Type 0
LeavesTables groups ts stmt t w =
    ((late_refusal groups (database ts) stmt ≡ None) × AccessSettles ts t w (accepted_next (database ts) stmt))
    ⊎ (IsSome (late_refusal groups (database ts) stmt) × AccessSettles ts t w (database ts))

module _ (groups draw : ℕ) (late : Bool) (limits : Limits) (ts : Tables) (t : Stored Held) (w : Went Row) (indexed : IsIndexed t) (shaped : t.heading.shape ≡ Indexed) where
  abbrev n : ℕ
  n = t.heading.capacity

  abbrev i : ℕ
  i = key_at t.heading.schema

  abbrev all : List Row
  all = rows t.held.slots

  -- a statement that no rows refuse
  accepted : (stmt : Stmt) (ask : Ask) → keyed_table ts stmt ≡ Some t → ask_of t.heading stmt ≡ Some ask → late_refusal groups (database ts) stmt ≡ None → FitsIndex n i ask all → went draw t ask ≡ Some w
      → LeavesTables groups ts stmt t w
  accepted stmt ask found asked none fits goes = inl (none, access_settles draw ts stmt t ask w found asked indexed fits goes)

  module _ (table : List ℕ) (columns : Option (List (List ℕ))) (values : List Literal) (found : stored_at table ts ≡ Some t) where
    abbrev pub row : Row
    row = new_row t.heading.schema columns values

    -- E10 and E17 of an index
    abbrev pub refused_by : (there within : Bool) → Option Refusal
    refused_by there within = if there then Some Duplicate else (if within then None else Some KeyRange)

    own_is : has_own_key t.heading row ≡ nat_lt (key_in t.heading row) n
    own_is = own_key n (cell_at row i)

    pub refusal_is : late_refusal groups (database ts) (Insert table columns values) ≡ refused_by (has_key (Some i) row all) (nat_lt (key_in t.heading row) n)
    refusal_is =
        ap (λ (o : Option (Stored (List Row))). option_map_or (λ (u : Stored (List Row)). insert_refusal u (new_row u.heading.schema columns values)) o None)
        (stored-database table ts ∙ ap (option_map (λ (u : Stored Held). record { heading = u.heading; held = rows u.held.slots })) found)
        ∙ (λ j. if has_key (indexed.primary j) row all then Some Duplicate
        else by_shape (shaped j) (if length all == n then Some FullTable else None) (if own_is j then None else Some KeyRange))

    put : (ask : Ask) → Put row ≡ ask → went draw t ask ≡ Some w → LeavesTables groups ts (Insert table columns values) t w
    put ask same goes = by (has_key (Some i) row all) (nat_lt (key_in t.heading row) n) refl refl refusal_is
      where
        goes_put : went draw t (Put row) ≡ Some w
        goes_put = ap (went draw t) same ∙ goes

        by : (there within : Bool) → has_key (Some i) row all ≡ there → nat_lt (key_in t.heading row) n ≡ within
            → late_refusal groups (database ts) (Insert table columns values) ≡ refused_by there within → LeavesTables groups ts (Insert table columns values) t w
        by true within there low is =
            inr (subst IsSome (sym is) refl, access_refused draw ts (Insert table columns values) t row w found refl indexed (inl there) goes_put)
        by false true there low is =
            let below : key_in t.heading row < n = grind (arith, nat_tests) in
            accepted (Insert table columns values) (Put row) found refl is (below, there) goes_put
        by false false there low is =
            let past : n ≤ key_in t.heading row = grind (arith, nat_tests) in
            inr (subst IsSome (sym is) refl, access_refused draw ts (Insert table columns values) t row w found refl indexed (inr past) goes_put)

  -- the key stays where cells of its row are set
  sets_fit : (table : List ℕ) (sets : List SetStmt) (cond : Option Search) → early_refusal late limits (headings ts) (Update table sets cond) ≡ None → stored_at table ts ≡ Some t
      → (row : Row) → cell_at (with_cells (set_cells sets t.heading.schema) row) i ≡ cell_at row i
  sets_fit table sets cond early found =
      let rule : sets_key (columns_at table (headings ts)) sets ≡ false = (allowed late limits (headings ts) (Update table sets cond) early).keys in
      cells-kept t.heading.schema i indexed.primary sets (ap (λ (cs : Columns). sets_key cs sets) (sym (schema_is table ts t found)) ∙ rule)

  -- what a WHERE asks for
  asked_for : (of : ℤ → Ask) (ask : Ask) (o : Option ℤ) → option_map of o ≡ Some ask → ((z : ℤ) → FitsIndex n i (of z) all) → FitsIndex n i ask all
  asked_for of ask None is fits = absurd (cc is)
  asked_for of ask (Some z) is fits = let same : of z ≡ ask = cc is in subst (λ (a : Ask). FitsIndex n i a all) same (fits z)

  pub leaves_tables : (stmt : Stmt) (ask : Ask) → early_refusal late limits (headings ts) stmt ≡ None → keyed_table ts stmt ≡ Some t → ask_of t.heading stmt ≡ Some ask → went draw t ask ≡ Some w
      → LeavesTables groups ts stmt t w
  leaves_tables (Insert table columns values) ask early found asked goes = put table columns values found ask (cc asked) goes
  leaves_tables (Update table sets cond) ask early found asked goes =
      accepted (Update table sets cond) ask found asked refl
      (asked_for (λ z. Set z (set_cells sets t.heading.schema)) ask (key_asked t.heading.schema cond) asked (λ z. sets_fit table sets cond early found)) goes
  leaves_tables (Delete table cond) ask early found asked goes =
      accepted (Delete table cond) ask found asked refl (asked_for Take ask (key_asked t.heading.schema cond) asked (λ z. tt)) goes
  leaves_tables (RowsStmt q) ask early found asked goes =
      accepted (RowsStmt q) ask found asked refl (asked_for Find ask (key_asked t.heading.schema q.cond) asked (λ z. tt)) goes
  leaves_tables other ask early found asked goes = absurd (cc found)
