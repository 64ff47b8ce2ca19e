-- A statement leaves the tables in place: as many slots, distinct keys, and columns that name their table.
use Rattle.std.proofs.Common.{◌≡◌, ℕ, suc, ◌<◌, Bool, true, false, List, [], ◌∷◌, ◌++◌, map, length, inl, inr, refl, sym, ◌∙◌, ap, subst, cond, arith}
use Rattle.std.specs.Prelude.{Option, Some, None, filter, not, bytes_eq, ◌||◌, ◌==◌, if◌then◌else◌}
use Rattle.std.proofs.lemmas.Bool.Decides.{nat_tests}
use Rattle.std.specs.List.{list_any}
use Rattle.std.specs.Option.{option_map, option_map_or}
use Rattle.std.proofs.lemmas.List.{length-map}
use Rattle.ob_base.specs.declared.config.Public.{Public}
use Rattle.ob_base.specs.declared.schema.Heading.{Heading}
use Rattle.ob_base.specs.declared.refusal.Refusal.{Refusal}
use Rattle.ob_base.specs.declared.refusal.Refusal.TheVariants.{Duplicate, Full as FullTable}
use Rattle.ob_base.specs.declared.schema.Shape.{Shape}
use Rattle.ob_base.specs.declared.schema.Shape.TheVariants.{Flat}
use Rattle.ob_base.specs.Limits.{buffered}
use Rattle.ob_base.specs.Lists.{has_repeats}
use Rattle.ob_base.specs.Schemas.{Columns, key_place}
use Rattle.ob_base.specs.Stored.{Stored, headings, stored_at, changed_at, dropped_at}
use Rattle.ob_row.specs.Bags.{Inserts, here, further}
use Rattle.ob_row.specs.Condition.{Condition}
use Rattle.ob_row.specs.declared.cell.Cell.{Cell}
use Rattle.ob_row.specs.Rows.{Row, agree_at, cell_at, options_eq, has_key, keys_repeat, with_cells}
use Rattle.ob_row.specs.Slots.{Slots, rows, emptied, fill_first}
use Rattle.ob_row.specs.Truth.{is_true, updated}
use Rattle.ob_row.proofs.PairLemmas.{cell_eq-refl, options_eq-both}
use Rattle.ob_sql.specs.declared.stmt.Set.{Set as SetStmt}
use Rattle.ob_sql.specs.declared.stmt.Stmt.{Stmt}
use Rattle.ob_sql.specs.declared.stmt.Stmt.TheVariants.{Create, Insert, Update, Delete, Drop as DropTable, SelectRows as RowsStmt, SelectTotals as TotalsStmt}
use Rattle.ob_names.specs.Names.{columns_at}
use Rattle.ob_mean.specs.Conditions.{where_at}
use Rattle.ob_mean.specs.Refusals.{early_refusal, has_wrong_keys, sets_key, limits_of}
use Rattle.ob_mean.specs.Step.{Database, insert_refusal, late_refusal, new_row, set_cells, followed}
use Rattle.ob_mean.specs.Verdict.{Accessed, Draws, Held, IsIndexed, Tables, access_settled, accessed, accessed_now, database, gone, held_as, in_slots, is_late, last_refusal, next_draw, refusal}
use Rattle.ob_mean.specs.Settle.{settle_served, settled}
use Rattle.ob_mean.proofs.EarlyLemmas.{Allowed, allowed, neither}
use Rattle.ob_mean.proofs.VerdictLemmas.{IsAccess, access_is, accessed_late, flat_refusal, headings-database, put_flat, started, stored-database}
use Rattle.ob_verdict.specs.Laws.{AreInPlace, HoldsByShape, IsInPlace, KeepsInPlace}
use Rattle.ob_verdict.proofs.SlotLemmas.{length-rows, rows-map, rows-emptied, rows-fill_first}
use Rattle.ob_verdict.proofs.AccessedProof.{cells-kept, flat_slots, flat_where, leaves_tables, schema_is}
use Rattle.ob_verdict.proofs.AnswerProof.{both_none}
use Rattle.ob_verdict.proofs.CreatedProof.{created_in_place}
use Rattle.ob_verdict.specs.Settling.{AccessSettles}
use Rattle.ob_verdict.proofs.AccessProof.{next_of}
use Rattle.ob_mean.specs.Keyed.{Set, Take}
use Rattle.ob_path.specs.Access.{Went}

-- ---- equal keys
right_there : (x y : Option Cell) → options_eq x y ≡ true → options_eq y y ≡ true
right_there None y h = absurd (cc)
right_there (Some x) None h = absurd (cc)
right_there (Some x) (Some y) h = cell_eq-refl y

agree-turned : (i : ℕ) (a b : Row) → agree_at i i a b ≡ true → agree_at i i b a ≡ true
agree-turned i a b h = options_eq-both (cell_at b i) (cell_at a i) (cell_at b i) (right_there (cell_at a i) (cell_at b i) h) h

differ-turned : (i : ℕ) (a b : Row) → agree_at i i a b ≡ false → agree_at i i b a ≡ false
differ-turned i a b h = go (agree_at i i b a) refl where
  go : (t : Bool) → agree_at i i b a ≡ t → t ≡ false
  go true e = let f = agree-turned i b a e in absurd (cc (h, f))
  go false e = refl

pub none_either : (a b : Bool) → a ≡ false → b ≡ false → (a || b) ≡ false
none_either a b e f = ap (λ t. t || b) e ∙ f

-- a row that no other agrees with, put in among rows of distinct keys
any_put_in : (p : Row → Bool) (x : Row) (rest whole : List Row) → Inserts x rest whole → p x ≡ false → list_any p rest ≡ false → list_any p whole ≡ false
any_put_in p x _ _ (here {rest = rest}) e h = none_either (p x) (list_any p rest) e h
any_put_in p x _ _ (further {y = y} {rest = rest} {whole = whole} i) e h =
    let both = neither (p y) (list_any p rest) h in none_either (p y) (list_any p whole) both.0 (any_put_in p x rest whole i e both.1)

put_in : (i : ℕ) (x : Row) (rest whole : List Row) → Inserts x rest whole → list_any (agree_at i i x) rest ≡ false → has_repeats (agree_at i i) rest ≡ false → has_repeats (agree_at i i) whole ≡ false
put_in i x _ _ (here {rest = rest}) e h = none_either (list_any (agree_at i i x) rest) (has_repeats (agree_at i i) rest) e h
put_in i x _ _ (further {y = y} {rest = rest} {whole = whole} at) e h =
    let apart = neither (agree_at i i x y) (list_any (agree_at i i x) rest) e in
    let both = neither (list_any (agree_at i i y) rest) (has_repeats (agree_at i i) rest) h in
    none_either (list_any (agree_at i i y) whole) (has_repeats (agree_at i i) whole)
    (any_put_in (agree_at i i y) x rest whole at (differ-turned i x y apart.0) both.0) (put_in i x rest whole at apart.1 both.1)

keys-put_in : (o : Option ℕ) (x : Row) (rest whole : List Row) → Inserts x rest whole → has_key o x rest ≡ false → keys_repeat o rest ≡ false → keys_repeat o whole ≡ false
keys-put_in None x rest whole at e h = refl
keys-put_in (Some i) x rest whole at e h = put_in i x rest whole at e h

-- some of the rows
any-filter : (q p : Row → Bool) (xs : List Row) → list_any q xs ≡ false → list_any q (filter p xs) ≡ false
any-filter q p [] h = refl
any-filter q p (x ∷ xs) h =
    let both = neither (q x) (list_any q xs) h in
    let rest = any-filter q p xs both.1 in
    elim (p x) as (λ b. list_any q (cond b (x ∷ filter p xs) (filter p xs)) ≡ false) [ true ↦ none_either (q x) (list_any q (filter p xs)) both.0 rest | false ↦ rest ]

repeats-filter : (eq : Row → Row → Bool) (p : Row → Bool) (xs : List Row) → has_repeats eq xs ≡ false → has_repeats eq (filter p xs) ≡ false
repeats-filter eq p [] h = refl
repeats-filter eq p (x ∷ xs) h =
    let both = neither (list_any (eq x) xs) (has_repeats eq xs) h in
    let rest = repeats-filter eq p xs both.1 in
    elim (p x) as (λ b. has_repeats eq (cond b (x ∷ filter p xs) (filter p xs)) ≡ false)
    [ true ↦ none_either (list_any (eq x) (filter p xs)) (has_repeats eq (filter p xs)) (any-filter (eq x) p xs both.0) rest | false ↦ rest ]

keys-filter : (o : Option ℕ) (p : Row → Bool) (xs : List Row) → keys_repeat o xs ≡ false → keys_repeat o (filter p xs) ≡ false
keys-filter None p xs h = refl
keys-filter (Some i) p xs h = repeats-filter (agree_at i i) p xs h

-- rows that keep their keys
any-map : (eq : Row → Row → Bool) (f : Row → Row) → ((a b : Row) → eq (f a) (f b) ≡ eq a b) → (a : Row) (xs : List Row) → list_any (eq (f a)) (map f xs) ≡ list_any (eq a) xs
any-map eq f same a [] = refl
any-map eq f same a (x ∷ xs) = λ t. same a x t || any-map eq f same a xs t

repeats-map : (eq : Row → Row → Bool) (f : Row → Row) → ((a b : Row) → eq (f a) (f b) ≡ eq a b) → (xs : List Row) → has_repeats eq (map f xs) ≡ has_repeats eq xs
repeats-map eq f same [] = refl
repeats-map eq f same (x ∷ xs) = λ t. any-map eq f same x xs t || repeats-map eq f same xs t

updated-kept : (p : Condition) (cs : Columns) (j : ℕ) → key_place cs ≡ Some j → (sets : List SetStmt) → sets_key cs sets ≡ false → (row : Row) → cell_at (updated p (set_cells sets cs) row) j ≡ cell_at row j
updated-kept p cs j key sets none row =
    elim (is_true p row) as (λ b. cell_at (cond b (with_cells (set_cells sets cs) row) row) j ≡ cell_at row j) [ true ↦ cells-kept cs j key sets none row | false ↦ refl ]

keys-updated : (p : Condition) (cs : Columns) (sets : List SetStmt) → sets_key cs sets ≡ false → (xs : List Row) → keys_repeat (key_place cs) xs ≡ false
    → keys_repeat (key_place cs) (map (updated p (set_cells sets cs)) xs) ≡ false
keys-updated p cs sets none xs h = go (key_place cs) refl h where
  go : (o : Option ℕ) → key_place cs ≡ o → keys_repeat o xs ≡ false → keys_repeat o (map (updated p (set_cells sets cs)) xs) ≡ false
  go None e h = refl
  go (Some j) e h =
      let kept = updated-kept p cs j e sets none in
      repeats-map (agree_at j j) (updated p (set_cells sets cs)) (λ a b t. options_eq (kept a t) (kept b t)) xs ∙ h

-- ---- slots
length-fill_first : (row : Row) (slots : Slots) → length (fill_first row slots) ≡ length slots
length-fill_first row [] = refl
length-fill_first row (None ∷ slots) = refl
length-fill_first row (Some r ∷ slots) = ap suc (length-fill_first row slots)

module _ (stash : ℕ) (name : List ℕ) (f : Held → Held) where
  abbrev changed : Stored Held → Stored Held
  changed t = record { heading = t.heading; held = f t.held }

  -- where the table of this name stays in place, all of them do
  changed_stays : (ts : Tables) → ((t : Stored Held) → stored_at name ts ≡ Some t → IsInPlace stash t → IsInPlace stash (changed t)) → AreInPlace stash ts → AreInPlace stash (changed_at name f ts)
  changed_stays [] one all = tt
  changed_stays (t ∷ ts) one all = go (bytes_eq t.heading.name name) (λ one. changed_stays ts one all.1) one where
    go : (b : Bool) → (((u : Stored Held) → stored_at name ts ≡ Some u → IsInPlace stash u → IsInPlace stash (changed u)) → AreInPlace stash (changed_at name f ts))
        → ((u : Stored Held) → cond b (Some t) (stored_at name ts) ≡ Some u → IsInPlace stash u → IsInPlace stash (changed u)) → AreInPlace stash (cond b (changed t ∷ ts) (t ∷ changed_at name f ts))
    go true rest one = (one t refl all.0, all.1)
    go false rest one = (all.0, rest one)

dropped_stays : (stash : ℕ) (name : List ℕ) (ts : Tables) → AreInPlace stash ts → AreInPlace stash (dropped_at name ts)
dropped_stays stash name [] all = tt
dropped_stays stash name (t ∷ ts) all = elim (bytes_eq t.heading.name name) as (λ b. AreInPlace stash (cond b ts (t ∷ dropped_at name ts))) [ true ↦ all.1 | false ↦ (all.0, dropped_stays stash name ts all.1) ]

added_stays : (stash : ℕ) (t : Stored Held) (ts : Tables) → IsInPlace stash t → AreInPlace stash ts → AreInPlace stash (ts ++ t ∷ [])
added_stays stash t [] one all = (one, tt)
added_stays stash t (u ∷ ts) one all = (all.0, added_stays stash t ts one all.1)

not_refused : (a b : Bool) → cond a (Some Duplicate) (cond b (Some FullTable) None) ≡ None → a ≡ false
not_refused true b h = absurd (cc)
not_refused false b h = refl

-- a flat table's leaves are none, whatever becomes of its slots
flat_holds : (t : Stored Held) (held : Held) → t.heading.shape ≡ Flat → held.leaves ≡ t.held.leaves → HoldsByShape t.heading.shape t → HoldsByShape t.heading.shape (record { heading = t.heading; held = held })
flat_holds t held flat same shaped =
    let none : t.held.leaves ≡ [] = subst (λ (s : Shape). HoldsByShape s t) flat shaped in
    subst (λ (s : Shape). HoldsByShape s (record { heading = t.heading; held = held })) (sym flat) (same ∙ none)

inserted : (stash : ℕ) (t : Stored Held) (row : Row) → has_key (key_place t.heading.schema) row (rows t.held.slots) ≡ false → length (rows t.held.slots) < length t.held.slots → t.heading.shape ≡ Flat → IsInPlace stash t
    → IsInPlace stash (record { heading = t.heading; held = in_slots (fill_first row) t.held })
inserted stash t row new space flat one = record {
  slots = length-fill_first row t.held.slots ∙ one.slots;
  keys = keys-put_in (key_place t.heading.schema) row (rows t.held.slots) (rows (fill_first row t.held.slots)) (rows-fill_first row t.held.slots space) new one.keys;
  named = one.named;
  shaped = flat_holds t (in_slots (fill_first row) t.held) flat refl one.shaped;
}

not_full : (a b : Bool) → cond a (Some Duplicate) (cond b (Some FullTable) None) ≡ None → b ≡ false
not_full true b h = absurd (cc)
not_full false true h = absurd (cc)
not_full false false h = refl

has_space : (stash : ℕ) (t : Stored Held) → t.heading.shape ≡ Flat → IsInPlace stash t → (length (rows t.held.slots) == t.heading.capacity) ≡ false → length (rows t.held.slots) < length t.held.slots
has_space stash t flat one h = let b = length-rows t.held.slots in let c = one.slots ∙ flat_slots stash t.heading flat in grind (arith, nat_tests)

-- the table of a name
pub place_at : (stash : ℕ) (name : List ℕ) (ts : Tables) (t : Stored Held) → stored_at name ts ≡ Some t → AreInPlace stash ts → IsInPlace stash t
place_at stash name [] t is all = absurd (cc is)
place_at stash name (u ∷ ts) t is all = go (bytes_eq u.heading.name name) is (λ is. place_at stash name ts t is all.1) where
  go : (b : Bool) → cond b (Some u) (stored_at name ts) ≡ Some t → (stored_at name ts ≡ Some t → IsInPlace stash t) → IsInPlace stash t
  go true is rest = let same : u ≡ t = cc is in subst (IsInPlace stash) same all.0
  go false is rest = rest is

module _ (p : Public) (m : ℕ) (ts : Tables) (stmt : Stmt) (none : refusal p m ts stmt ≡ None) where
  not_refused_late : late_refusal (buffered p.pack p.buffer) (database ts) stmt ≡ None
  not_refused_late = (both_none _ _ (both_none _ (last_refusal p ts stmt) none).0).1

  not_refused_early : early_refusal (is_late m) (limits_of p) (headings ts) stmt ≡ None
  not_refused_early =
      subst (λ (hs : List Heading). early_refusal (is_late m) (limits_of p) hs stmt ≡ None) (headings-database ts) (both_none _ _ (both_none _ (last_refusal p ts stmt) none).0).0

settled_stays : (d : Draws) (p : Public) (m : ℕ) (ts : Tables) (stmt : Stmt) → refusal p m ts stmt ≡ None → accessed ts stmt ≡ None → AreInPlace p.stash ts → AreInPlace p.stash (settled d p ts stmt)
settled_stays d p m ts (Create table columns capacity shape) none unkeyed all = added_stays p.stash _ ts (created_in_place d p.stash table columns capacity shape rule) all where
  rule : has_wrong_keys columns shape ≡ false
  rule = (allowed (is_late m) (limits_of p) (headings ts) (Create table columns capacity shape) (not_refused_early p m ts (Create table columns capacity shape) none)).keys
settled_stays d p m ts (Insert table columns values) none unkeyed all = changed_stays p.stash table (in_slots (fill_first (new_row (columns_at table (headings ts)) columns values))) ts one all where
  one : (t : Stored Held) → stored_at table ts ≡ Some t → IsInPlace p.stash t → IsInPlace p.stash (record { heading = t.heading; held = in_slots (fill_first (new_row (columns_at table (headings ts)) columns values)) t.held })
  one t is place =
      let flat = put_flat ts table columns values t unkeyed is in
      let held : Stored (List Row) = record { heading = t.heading; held = rows t.held.slots } in
      let row = new_row t.heading.schema columns values in
      let found : stored_at table (database ts) ≡ Some held =
      stored-database table ts ∙ ap (option_map (λ (u : Stored Held). record { heading = u.heading; held = rows u.held.slots })) is in
      let free : (if has_key (key_place t.heading.schema) row (rows t.held.slots) then Some Duplicate else (if length (rows t.held.slots) == t.heading.capacity then Some FullTable else None)) ≡ None =
      sym (flat_refusal held row flat)
      ∙ sym (ap (λ (o : Option (Stored (List Row))). option_map_or (λ (u : Stored (List Row)). insert_refusal u (new_row u.heading.schema columns values)) o None) found)
      ∙ not_refused_late p m ts (Insert table columns values) none in
      let new = not_refused (has_key (key_place t.heading.schema) row (rows t.held.slots)) (length (rows t.held.slots) == t.heading.capacity) free in
      let space = has_space p.stash t flat place (not_full (has_key (key_place t.heading.schema) row (rows t.held.slots)) (length (rows t.held.slots) == t.heading.capacity) free) in
      subst (λ (cs : Columns). IsInPlace p.stash (record { heading = t.heading; held = in_slots (fill_first (new_row cs columns values)) t.held })) (sym (schema_is table ts t is)) (inserted p.stash t row new space flat place)
settled_stays d p m ts (Update table sets cond) none unkeyed all = changed_stays p.stash table (in_slots (map (option_map (updated (where_at cond (columns_at table (headings ts))) (set_cells sets (columns_at table (headings ts))))))) ts one all where
  free : Allowed (is_late m) (limits_of p) (headings ts) (Update table sets cond)
  free = allowed (is_late m) (limits_of p) (headings ts) (Update table sets cond) (not_refused_early p m ts (Update table sets cond) none)

  rule : sets_key (columns_at table (headings ts)) sets ≡ false
  rule = free.keys

  one : (t : Stored Held) → stored_at table ts ≡ Some t → IsInPlace p.stash t
      → IsInPlace p.stash (record { heading = t.heading; held = in_slots (map (option_map (updated (where_at cond (columns_at table (headings ts))) (set_cells sets (columns_at table (headings ts)))))) t.held })
  one t is place =
      let cs = columns_at table (headings ts) in
      let flat = flat_where ts table t is (Update table sets cond) cond (λ z. Set z (set_cells sets t.heading.schema)) refl refl unkeyed free.keyed in
      let same = schema_is table ts t is in
      let f = updated (where_at cond cs) (set_cells sets cs) in
      let before : keys_repeat (key_place cs) (rows t.held.slots) ≡ false = subst (λ (cs : Columns). keys_repeat (key_place cs) (rows t.held.slots) ≡ false) (sym same) place.keys in
      let after : keys_repeat (key_place cs) (rows (map (option_map f) t.held.slots)) ≡ false =
      ap (keys_repeat (key_place cs)) (rows-map f t.held.slots) ∙ keys-updated (where_at cond cs) cs sets rule (rows t.held.slots) before in
      record {
        slots = length-map t.held.slots (option_map f) ∙ place.slots;
        keys = subst (λ (s : Columns). keys_repeat (key_place s) (rows (map (option_map f) t.held.slots)) ≡ false) same after;
        named = place.named;
        shaped = flat_holds t (in_slots (map (option_map f)) t.held) flat refl place.shaped;
      }
settled_stays d p m ts (Delete table cond) none unkeyed all = changed_stays p.stash table (in_slots (map (emptied (is_true (where_at cond (columns_at table (headings ts))))))) ts one all where
  one : (t : Stored Held) → stored_at table ts ≡ Some t → IsInPlace p.stash t → IsInPlace p.stash (record { heading = t.heading; held = in_slots (map (emptied (is_true (where_at cond (columns_at table (headings ts)))))) t.held })
  one t is place =
      let test = is_true (where_at cond (columns_at table (headings ts))) in
      let free = allowed (is_late m) (limits_of p) (headings ts) (Delete table cond) (not_refused_early p m ts (Delete table cond) none) in
      let flat = flat_where ts table t is (Delete table cond) cond Take refl refl unkeyed free.keyed in
      record {
        slots = length-map t.held.slots (emptied test) ∙ place.slots;
        keys = ap (keys_repeat (key_place t.heading.schema)) (rows-emptied test t.held.slots) ∙ keys-filter (key_place t.heading.schema) (λ r. not (test r)) (rows t.held.slots) place.keys;
        named = place.named;
        shaped = flat_holds t (in_slots (map (emptied test)) t.held) flat refl place.shaped;
      }
settled_stays d p m ts (DropTable table) none unkeyed all = dropped_stays p.stash table ts all
settled_stays d p m ts (RowsStmt q) none unkeyed all = all
settled_stays d p m ts (TotalsStmt q) none unkeyed all = all

-- an access leaves its index in place
accessed_stays : (d : Draws) (p : Public) (m : ℕ) (ts : Tables) (stmt : Stmt) (a : Accessed) (w : Went Row) → early_refusal (is_late m) (limits_of p) (headings ts) stmt ≡ None → accessed ts stmt ≡ Some a
    → gone d a ≡ Some w → AreInPlace p.stash ts → AreInPlace p.stash (access_settled ts a.table w)
accessed_stays d p m ts stmt a w early is goes all = changed_stays p.stash a.table.heading.name (λ _. held_as w.state) ts one all where
  access : IsAccess ts stmt a
  access = access_is ts stmt a is

  here : stored_at a.table.heading.name ts ≡ Some a.table
  here = (next_of ts stmt a.table a.ask access.found access.asked).0

  place : IsInPlace p.stash a.table
  place = place_at p.stash a.table.heading.name ts a.table here all

  indexed : IsIndexed a.table
  indexed = subst (λ (s : Shape). HoldsByShape s a.table) access.indexed place.shaped

  kept : {db : Database} → AccessSettles ts a.table w db → IsInPlace p.stash (record { heading = a.table.heading; held = held_as w.state })
  kept settles = record {
    slots = settles.slots ∙ place.slots;
    keys = settles.keys;
    named = place.named;
    shaped = subst (λ (s : Shape). HoldsByShape s (record { heading = a.table.heading; held = held_as w.state })) (sym access.indexed) settles.indexed;
  }

  in_place : IsInPlace p.stash (record { heading = a.table.heading; held = held_as w.state })
  in_place = elim (leaves_tables 0 (next_draw d) (is_late m) (limits_of p) ts a.table w indexed access.indexed stmt a.ask early access.found access.asked goes)
      [ inl both ↦ kept both.1 | inr both ↦ kept both.1 ]

  one : (t : Stored Held) → stored_at a.table.heading.name ts ≡ Some t → IsInPlace p.stash t → IsInPlace p.stash (record { heading = t.heading; held = held_as w.state })
  one t found old = let same : a.table ≡ t = cc (here, found) in subst (λ (u : Stored Held). IsInPlace p.stash (record { heading = u.heading; held = held_as w.state })) same in_place

pub keeps_in_place : (d : Draws) (p : Public) (m : ℕ) (ts : Tables) (stmt : Stmt) → KeepsInPlace d p m ts stmt
keeps_in_place d p m ts stmt all = by_access (accessed_now p m ts stmt) refl where
  by_went : (a : Accessed) (o : Option (Went Row)) → accessed_now p m ts stmt ≡ Some a → gone d a ≡ o → AreInPlace p.stash (option_map_or (access_settled ts a.table) o ts)
  by_went a None is goes = all
  by_went a (Some w) is goes = let both = started p m ts stmt a is in accessed_stays d p m ts stmt a w both.0 both.1 goes all

  by_refusal : (r : Option Refusal) → refusal p m ts stmt ≡ r → accessed_now p m ts stmt ≡ None → AreInPlace p.stash (followed r (settled d p ts stmt) ts)
  by_refusal None none unkeyed = settled_stays d p m ts stmt none (sym (accessed_late p m ts stmt (not_refused_early p m ts stmt none)) ∙ unkeyed) all
  by_refusal (Some r) is unkeyed = all

  by_access : (o : Option Accessed) → accessed_now p m ts stmt ≡ o → AreInPlace p.stash (settle_served d o p m ts stmt)
  by_access None unkeyed = by_refusal (refusal p m ts stmt) refl unkeyed
  by_access (Some a) is = by_went a (gone d a) is refl
