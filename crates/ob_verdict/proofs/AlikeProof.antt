-- A statement doesn't hang on the order of the tables.
use Rattle.std.proofs.Common.{◌≡◌, ℕ, false, List, [], map, length, Option, Some, None, refl, sym, ◌∙◌, ap, subst}
use Rattle.std.specs.Prelude.{bytes_eq, count_by, filter, is_some, if◌then◌else◌}
use Rattle.std.specs.Option.{is_none, option_and_then, option_map, option_map_or, option_or}
use Rattle.std.proofs.lemmas.List.{length-map}
use Rattle.ob_base.specs.declared.config.Public.{Public}
use Rattle.ob_base.specs.declared.refusal.Refusal.{Refusal}
use Rattle.ob_base.specs.declared.refusal.Refusal.TheVariants.{TooManyGroups}
use Rattle.ob_base.specs.declared.schema.Heading.{Heading}
use Rattle.ob_base.specs.declared.seen.End.TheVariants.{Static}
use Rattle.ob_base.specs.declared.schema.Shape.{Shape}
use Rattle.ob_base.specs.declared.skeleton.NewColumn.{NewColumn}
use Rattle.ob_base.specs.declared.skeleton.Source.{Source}
use Rattle.ob_base.specs.declared.skeleton.Source.TheVariants.{Table as OneTable, Join}
use Rattle.ob_base.specs.Limits.{buffered}
use Rattle.ob_base.specs.Lists.{has_repeats}
use Rattle.ob_base.specs.Schemas.{Columns, columns_of}
use Rattle.ob_base.specs.Stored.{Stored, changed_at, has_table, headings, stored_at}
use Rattle.ob_row.specs.Results.{joined}
use Rattle.ob_row.specs.Rows.{Row, pairs}
use Rattle.ob_row.specs.Slots.{emptied, fill_first, rows, selected}
use Rattle.ob_row.specs.Truth.{is_true, updated}
use Rattle.ob_sql.specs.declared.stmt.SelectRows.{SelectRows}
use Rattle.ob_sql.specs.declared.stmt.Stmt.{Stmt}
use Rattle.ob_sql.specs.declared.stmt.Stmt.TheVariants.{Create, Insert, Update, Delete, Drop as DropTable, SelectRows as RowsStmt, SelectTotals as TotalsStmt}
use Rattle.ob_mean.specs.declared.answer.Answer.TheVariants as A
use Rattle.ob_names.specs.Names.{columns_at, left_place, right_place}
use Rattle.ob_mean.specs.Conditions.{where_at}
use Rattle.ob_mean.specs.Refusals.{early_refusal, limits_of}
use Rattle.ob_mean.specs.Keyed.{keyed_name}
use Rattle.ob_mean.specs.Settle.{new_held, settle, settle_served, settled}
use Rattle.ob_path.specs.Access.{Went}
use Rattle.ob_mean.specs.Step.{accepted_answer, answered, followed, insert_refusal, late_refusal, new_row, overgroups, rows_answer, rows_at, set_cells, source_rows, totals_answer}
use Rattle.ob_mean.specs.Verdict.{Accessed, Draws, Held, Tables, access_of, access_settled, accessed, accessed_now, database, ended, gone, held_as, in_slots, is_late, keyed_table, last_refusal, refusal, rows_refusal, seen, seen_rows, seen_served, seen_started, selected_places, slots_at, source_slots}
use Rattle.ob_mean.proofs.EarlyLemmas.{allowed, neither}
use Rattle.ob_mean.proofs.VerdictLemmas.{headings-database, stored-database}
use Rattle.ob_verdict.proofs.AlikeHeadings.{SameHeadings, columns_same, early_same, headings_same, source_same}
use Rattle.ob_verdict.proofs.AlikeTables.{alike_added, alike_changed, alike_dropped}
use Rattle.ob_verdict.proofs.AnswerProof.{both_none}
use Rattle.ob_verdict.specs.Alike.{ActsAlike, AreAlike, OrderIsNothing}

module _ (d : Draws) (p : Public) (m : ℕ) (ts us : Tables) (alike : AreAlike ts us) where
  -- ---- what a name finds
  held_same : (name : List ℕ) → stored_at name (database ts) ≡ stored_at name (database us)
  held_same name =
      stored-database name ts ∙ ap (option_map (λ (t : Stored Held). record { heading = t.heading; held = rows t.held.slots })) (alike.found name) ∙ sym (stored-database name us)

  heads : SameHeadings (headings ts) (headings us)
  heads = headings_same ts us alike.count alike.found

  bag_heads : SameHeadings (headings (database ts)) (headings (database us))
  bag_heads =
      headings_same (database ts) (database us)
      (length-map ts (λ (t : Stored Held). record { heading = t.heading; held = rows t.held.slots }) ∙ alike.count
      ∙ sym (length-map us (λ (t : Stored Held). record { heading = t.heading; held = rows t.held.slots })))
      held_same

  slots_same : (name : List ℕ) → slots_at name ts ≡ slots_at name us
  slots_same name = ap (λ (o : Option (Stored Held)). option_map_or (λ (t : Stored Held). t.held.slots) o []) (alike.found name)

  bag_same : (name : List ℕ) → rows_at name (database ts) ≡ rows_at name (database us)
  bag_same name = ap (λ (o : Option (Stored (List Row))). option_map_or (λ (t : Stored (List Row)). t.held) o []) (held_same name)

  -- the columns of a table, of a source, and the places of a join's columns
  bag_columns : (name : List ℕ) → columns_at name (headings (database ts)) ≡ columns_at name (headings (database us))
  bag_columns name = columns_same (headings (database ts)) (headings (database us)) bag_heads name

  -- ---- the source of a SELECT of rows
  source_slots_same : (source : Source) → source_slots p source ts ≡ source_slots p source us
  source_slots_same (OneTable name) = slots_same name
  source_slots_same (Join a b on equals) =
      let left = columns_same (headings ts) (headings us) heads a in
      let both = source_same (headings ts) (headings us) heads (Join a b on equals) in
      λ i. joined (left_place (length (left i)) (both i) on equals) (right_place (length (left i)) (both i) on equals) p.pack p.buffer (slots_same a i) (slots_same b i)

  source_rows_same : (source : Source) → source_rows source (database ts) ≡ source_rows source (database us)
  source_rows_same (OneTable name) = bag_same name
  source_rows_same (Join a b on equals) =
      let left = bag_columns a in
      let both = source_same (headings (database ts)) (headings (database us)) bag_heads (Join a b on equals) in
      λ i. pairs (left_place (length (left i)) (both i) on equals) (right_place (length (left i)) (both i) on equals) (bag_same a i) (bag_same b i)

  places_same : (q : SelectRows) → selected_places p q ts ≡ selected_places p q us
  places_same q =
      let columns = source_same (headings ts) (headings us) heads q.source in
      λ i. selected (is_true (where_at q.cond (columns i))) (source_slots_same q.source i)

  -- ---- the refusal and the answer
  late_same : (s : ℕ) (stmt : Stmt) → late_refusal s (database ts) stmt ≡ late_refusal s (database us) stmt
  late_same s (Insert table columns values) =
      ap (λ (o : Option (Stored (List Row))). option_map_or (λ (t : Stored (List Row)). insert_refusal t (new_row t.heading.schema columns values)) o None) (held_same table)
  late_same s (TotalsStmt q) =
      let columns = bag_columns q.table in
      λ i. if overgroups s q.group (columns i) (filter (is_true (where_at q.cond (columns i))) (bag_same q.table i)) then Some TooManyGroups else None
  late_same s other = refl

  -- ---- what it accesses
  keyed_same : (stmt : Stmt) → keyed_table ts stmt ≡ keyed_table us stmt
  keyed_same stmt = of_name (keyed_name stmt)
    where
      of_name : (o : Option (List ℕ)) → option_and_then (λ (name : List ℕ). stored_at name ts) o ≡ option_and_then (λ (name : List ℕ). stored_at name us) o
      of_name None = refl
      of_name (Some name) = alike.found name

  accessed_same : (stmt : Stmt) → accessed ts stmt ≡ accessed us stmt
  accessed_same stmt = ap (option_and_then (access_of stmt)) (keyed_same stmt)

  last_same : (stmt : Stmt) → last_refusal p ts stmt ≡ last_refusal p us stmt
  last_same (RowsStmt q) = λ i. if is_some (accessed_same (RowsStmt q) i) then None else rows_refusal p (places_same q i)
  last_same other = refl

  refusal_same : (stmt : Stmt) → refusal p m ts stmt ≡ refusal p m us stmt
  refusal_same stmt =
      let early = early_same (headings (database ts)) (headings (database us)) bag_heads (is_late m) (limits_of p) stmt in
      λ i. option_or (option_or (early i) (late_same (buffered p.pack p.buffer) stmt i)) (last_same stmt i)

  accepted_same : (stmt : Stmt) → accepted_answer (database ts) stmt ≡ accepted_answer (database us) stmt
  accepted_same (Update table sets cond) =
      let columns = bag_columns table in
      λ i. A.Changed (count_by (is_true (where_at cond (columns i))) (bag_same table i))
  accepted_same (Delete table cond) =
      let columns = bag_columns table in
      λ i. A.Changed (count_by (is_true (where_at cond (columns i))) (bag_same table i))
  accepted_same (RowsStmt q) =
      let columns = source_same (headings (database ts)) (headings (database us)) bag_heads q.source in
      λ i. A.Rows (rows_answer q (columns i) (filter (is_true (where_at q.cond (columns i))) (source_rows_same q.source i)))
  accepted_same (TotalsStmt q) =
      let columns = bag_columns q.table in
      λ i. A.Rows (totals_answer q (columns i) (filter (is_true (where_at q.cond (columns i))) (bag_same q.table i)))
  accepted_same other = refl

  -- ---- what is seen
  started_same : (stmt : Stmt) → seen_started p ts stmt ≡ seen_started p us stmt
  started_same (RowsStmt q) = λ i. seen_rows p (length (source_slots_same q.source i)) (places_same q i)
  started_same other = refl

  served_same : (stmt : Stmt) → seen_served d (accessed ts stmt) p ts stmt ≡ seen_served d (accessed us stmt) p us stmt
  served_same stmt = ap (λ (o : Option Accessed). seen_served d o p ts stmt) (accessed_same stmt) ∙ of_access (accessed us stmt)
    where
      of_access : (o : Option Accessed) → seen_served d o p ts stmt ≡ seen_served d o p us stmt
      of_access None = started_same stmt
      of_access (Some a) = refl

  seen_same : (stmt : Stmt) → seen d p m ts stmt ≡ seen d p m us stmt
  seen_same stmt =
      let early = early_same (headings ts) (headings us) heads (is_late m) (limits_of p) stmt in
      λ i. if is_some (early i) then ended Static else served_same stmt i

  now_same : (stmt : Stmt) → accessed_now p m ts stmt ≡ accessed_now p m us stmt
  now_same stmt =
      let early = early_same (headings ts) (headings us) heads (is_late m) (limits_of p) stmt in
      λ i. if is_some (early i) then None else accessed_same stmt i

  -- ---- the tables afterwards
  table_columns : (name : List ℕ) → columns_at name (headings ts) ≡ columns_at name (headings us)
  table_columns name = columns_same (headings ts) (headings us) heads name

  -- a new table's name is not taken
  new_in : (vs : Tables) (table : List ℕ) (columns : List NewColumn) (capacity : ℕ) (shape : Shape) → refusal p m vs (Create table columns capacity shape) ≡ None → has_table table (headings vs) ≡ false
  new_in vs table columns capacity shape none =
      let first = both_none _ (last_refusal p vs (Create table columns capacity shape)) none in
      let early = (both_none (early_refusal (is_late m) (limits_of p) (headings (database vs)) (Create table columns capacity shape)) _ first.0).0 in
      let free = allowed (is_late m) (limits_of p) (headings (database vs)) (Create table columns capacity shape) early in
      let own = (neither (has_table table (headings (database vs))) (has_repeats bytes_eq (map (λ (c : NewColumn). c.name) columns)) free.names).0 in
      subst (λ (hs : List Heading). has_table table hs ≡ false) (headings-database vs) own

  changed_by : (name : List ℕ) (f g : Held → Held) → f ≡ g → AreAlike (changed_at name f ts) (changed_at name g us)
  changed_by name f g same = subst (λ (h : Held → Held). AreAlike (changed_at name f ts) (changed_at name h us)) same (alike_changed name f ts us alike)

  settled_alike : (stmt : Stmt) → refusal p m ts stmt ≡ None → AreAlike (settled d p ts stmt) (settled d p us stmt)
  settled_alike (Create table columns capacity shape) none =
      let h : Heading = record { name = table; schema = columns_of table columns; capacity = capacity; shape = shape } in
      alike_added (record { heading = h; held = new_held d p.stash h }) ts us alike
      (new_in ts table columns capacity shape none) (new_in us table columns capacity shape (sym (refusal_same (Create table columns capacity shape)) ∙ none))
  settled_alike (Insert table columns values) none =
      changed_by table _ _ (ap (λ (cs : Columns). in_slots (fill_first (new_row cs columns values))) (table_columns table))
  settled_alike (Update table sets cond) none =
      changed_by table _ _ (ap (λ (cs : Columns). in_slots (map (option_map (updated (where_at cond cs) (set_cells sets cs))))) (table_columns table))
  settled_alike (Delete table cond) none =
      changed_by table _ _ (ap (λ (cs : Columns). in_slots (map (emptied (is_true (where_at cond cs))))) (table_columns table))
  settled_alike (DropTable table) none = alike_dropped table ts us alike
  settled_alike (RowsStmt q) none = alike
  settled_alike (TotalsStmt q) none = alike

  followed_alike : (o q : Option Refusal) (a b : Tables) → o ≡ q → (o ≡ None → AreAlike a b) → AreAlike (followed o a ts) (followed q b us)
  followed_alike o q a b same next = subst (λ (r : Option Refusal). AreAlike (followed o a ts) (followed r b us)) same (go o next)
    where
      go : (r : Option Refusal) → (r ≡ None → AreAlike a b) → AreAlike (followed r a ts) (followed r b us)
      go None done = done refl
      go (Some r) done = alike

  settle_alike : (stmt : Stmt) → AreAlike (settle d p m ts stmt) (settle d p m us stmt)
  settle_alike stmt = subst (λ (o : Option Accessed). AreAlike (settle d p m ts stmt) (settle_served d o p m us stmt)) (now_same stmt) (of_access (accessed_now p m ts stmt))
    where
      of_went : (a : Accessed) (o : Option (Went Row)) → AreAlike (option_map_or (access_settled ts a.table) o ts) (option_map_or (access_settled us a.table) o us)
      of_went a None = alike
      of_went a (Some w) = alike_changed a.table.heading.name (λ _. held_as w.state) ts us alike

      of_access : (o : Option Accessed) → AreAlike (settle_served d o p m ts stmt) (settle_served d o p m us stmt)
      of_access None = followed_alike (refusal p m ts stmt) (refusal p m us stmt) (settled d p ts stmt) (settled d p us stmt) (refusal_same stmt) (settled_alike stmt)
      of_access (Some a) = of_went a (gone d a)

  pub acts_alike : (stmt : Stmt) → ActsAlike d p m ts us stmt
  acts_alike stmt = record {
    refused = refusal_same stmt;
    answer = λ i. answered (refusal_same stmt i) (accepted_same stmt i);
    shows = seen_same stmt;
    full = ap (λ (o : Option Accessed). option_map_or (λ a. is_none (gone d a)) o false) (now_same stmt);
    after = settle_alike stmt;
  }

pub order_is_nothing : OrderIsNothing
order_is_nothing d p m ts us stmt alike = acts_alike d p m ts us alike stmt
