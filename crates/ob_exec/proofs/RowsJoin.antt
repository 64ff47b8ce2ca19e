-- What a SELECT of the rows of a join asks.
use Rattle.ob_exec.proofs.Words.{Access, Agrees, allowed, ap, append-nil, append_assoc, arith, at, blocks_few, blocks_for, buffered_blocks, ChangesNothing, Columns, Condition, count_end, count_of, count_part, counted_after, discard_at, div_ceil, early_refusal, Engine, extent_of, false, flat_of, from, Heading, heading_at, heading_found, headings_of, is_access, is_late, IsFlat, IsFound, IsSized, IsSome, left_place, length, length-append, length-count_part, limits_of, List, None, OpErr, Option, option_map_or, printed_places, Public, refl, refusal_now, region_below, Result, RevState, rows_script, Seen, Selection, selection, selection_script, slice_get, Slots, Some, some_buffered, Source, source_tables, stated, Stored, StoreState, subst, sym, walk_end, went_rests, where_at, Whole, width, World, world_of, ℕ, [], ◌*◌, ◌++◌, ◌+◌, ◌<◌, ◌∙◌, ◌∷◌, ◌≡◌, ◌≤◌}
use Rattle.ob_base.specs.declared.schema.Shape.TheVariants.{Flat as FlatShape}
use Rattle.ob_base.specs.declared.schema.Table.{Table}
use Rattle.ob_base.specs.declared.skeleton.ColumnName.{ColumnName}
use Rattle.ob_base.specs.declared.skeleton.Skeleton.TheVariants.{Rows as RowsSkeleton}
use Rattle.ob_base.specs.declared.skeleton.Source.TheVariants.{Join}
use Rattle.ob_base.specs.Joins.{joined_blocks, joined_slots}
use Rattle.ob_script.specs.Script.{after_count, behind_count, blocks_of, join_script, padded_part, result_part, select_part, source_script}
use Rattle.ob_join.proofs.Lengths.{product_least}
use Rattle.ob_join.specs.Join.{Join as Pairing, Joins, MayJoin, TellsSlots, fill_length, join_in, join_script as pass_script, table}
use Rattle.ob_mean.specs.Lawful.{counted_slots}
use Rattle.ob_names.specs.Names.{source_columns, right_place}
use Rattle.ob_mean.specs.Replay.{ending_len, has_index}
use Rattle.ob_mean.specs.Verdict.{ended as seen_to}
use Rattle.ob_vault.proofs.WordLemmas.{ready_rests}
use Rattle.ob_vault.specs.Words.{MayStart}
use Rattle.ob_flat.specs.Flats.{Represents}
use Rattle.ob_flat.proofs.Resting.{represents_rests}
use Rattle.ob_row.specs.Results.{joined}
use Rattle.ob_blocks.specs.Idle.{IsIdle}
use Rattle.ob_flat.specs.declared.flat.Flat.{Flat}
use Rattle.ob_verdict.specs.Accepted.{JoinFits}
use Rattle.ob_verdict.proofs.AcceptedProof.{joins_fit}
use Rattle.ob_sql.specs.declared.stmt.SelectRows.{SelectRows}
use Rattle.ob_sql.specs.declared.stmt.Stmt.TheVariants.{SelectRows as RowsStmt}
use Rattle.ob_select.specs.Selecting.{region_of, walked_after}
use Rattle.ob_exec.specs.Sources.{rows_skeleton}
use Rattle.ob_tables.proofs.FoundLemmas.{shape_found}
use Rattle.ob_verdict.proofs.NamesFlatProof.{names_flat}
use Rattle.std.specs.List.{All}
use Rattle.std.proofs.lemmas.List.Elements.{All-head, All-tail}
use Rattle.ob_exec.proofs.RowsBehind.{ending_for}
use Rattle.ob_select.proofs.SelectLength.{select_length}
use Rattle.ob_exec.proofs.RowsTable.{not_late, some_of, stated_is}
use Rattle.ob_tables.proofs.TableLemmas.{flat_kept, stored_found}

-- what follows a selection stands after it
behind_parts : (count first next ending : List Access) → count ++ (first ++ (next ++ ending)) ≡ (count ++ (first ++ (next ++ []))) ++ ending
behind_parts count first next ending =
    ap (λ (x : List Access). count ++ (first ++ (x ++ ending))) (sym (append-nil next)) ∙ simp append_assoc

behind_padded : (count result ending : List Access) → count ++ (result ++ ending) ≡ (count ++ (result ++ [])) ++ ending
behind_padded count result ending = ap (λ (x : List Access). count ++ (x ++ ending)) (sym (append-nil result)) ∙ simp append_assoc

select_split : (p : Public) (now : Seen) (g : ℕ) (t : Stored ℕ) (ending : List Access) → select_part p now g (extent_of t) ending ≡ select_part p now g (extent_of t) [] ++ ending_for p.pad now.k ending
select_split p now g t ending = by_pad p.pad
  where
    by_count : (k : Option ℕ) → count_part t.held (blocks_of p (extent_of t)) ++ after_count p now k g (extent_of t) ending
        ≡ (count_part t.held (blocks_of p (extent_of t)) ++ after_count p now k g (extent_of t) []) ++ ending_for None k ending
    by_count None = sym (append-nil (count_part t.held (blocks_of p (extent_of t)) ++ []))
    by_count (Some k) = behind_parts (count_part t.held (blocks_of p (extent_of t))) (result_part p now.plan k g (extent_of t)) (result_part p now.then k (g + 1) (extent_of t)) ending

    by_pad : (pad : Option ℕ) → count_part t.held (blocks_of p (extent_of t)) ++ behind_count pad p now g (extent_of t) ending
        ≡ (count_part t.held (blocks_of p (extent_of t)) ++ behind_count pad p now g (extent_of t) []) ++ ending_for pad now.k ending
    by_pad None = by_count now.k
    by_pad (Some pad) = behind_padded (count_part t.held (blocks_of p (extent_of t))) (padded_part p pad g (extent_of t)) ending

enough_left : (lefts pairs n padded spare : ℕ) → n ≡ lefts + 3 * pairs + 2 → n + padded ≤ spare → 1 + (lefts + 2 * pairs) ≤ spare
enough_left lefts pairs n padded spare is within = omega arith

least_times : (a b c : ℕ) → 1 ≤ a → 1 ≤ b → 1 ≤ c → 1 ≤ a * b * c
least_times a b c first second third = grind arith

-- a SELECT of the rows of a join that isn't refused before any access, and its two tables as they were found
pub record JoinOf {R : Type 0} (state : R → RevState) (old : Engine R) (s : StoreState) (select : SelectRows) : Type 0 where
  pub agrees : Agrees state old s
  pub free : refusal_now old.public (count_of old s) (RowsStmt select) ≡ None
  pub a : List ℕ
  pub b : List ℕ
  pub on : ColumnName
  pub equals : ColumnName
  pub of_join : select.source ≡ Join a b on equals
  pub i : ℕ
  pub j : ℕ
  pub left : Flat
  pub right : Flat
  pub one : IsFound a i left old.public.tables
  pub two : IsFound b j right old.public.tables

abbrev pub join_of : {R : Type 0} {state : R → RevState} {old : Engine R} {s : StoreState} (select : SelectRows) {a b : List ℕ} {on equals : ColumnName} {i j : ℕ} {left right : Flat} → Agrees state old s
    → refusal_now old.public (count_of old s) (RowsStmt select) ≡ None → select.source ≡ Join a b on equals → IsFound a i left old.public.tables → IsFound b j right old.public.tables → JoinOf state old s select
join_of select {a = a} {b = b} {on = on} {equals = equals} {i = i} {j = j} {left = left} {right = right} agrees free of_join one two = record {
  agrees = agrees;
  free = free;
  a = a;
  b = b;
  on = on;
  equals = equals;
  of_join = of_join;
  i = i;
  j = j;
  left = left;
  right = right;
  one = one;
  two = two;
}

module _ {R : Type 0} {state : R → RevState} {old : Engine R} {s : StoreState} {select : SelectRows} (y : JoinOf state old s select) where
  abbrev t : Table
  t = y.one.table

  abbrev u : Table
  u = y.two.table

  -- neither is an index
  pub join_plain : is_access old.public (rows_skeleton select) ≡ false
  join_plain = ap (λ (source : Source). is_access old.public (RowsSkeleton source select.list)) y.of_join

  abbrev IsNone : List ℕ → Type 0
  IsNone name = has_index old.public name ≡ false

  names_none : All IsNone (y.a ∷ y.b ∷ [])
  names_none = subst (λ (source : Source). All IsNone (source_tables source)) y.of_join (names_flat old.public (is_late (count_of old s)) (limits_of old.public) (RowsStmt select) y.free join_plain)

  pub flat_a : t.heading.shape ≡ FlatShape
  flat_a = shape_found y.a old.public.tables y.i t y.agrees.tables.names y.one.here.get y.one.here.named (All-head IsNone y.a (y.b ∷ []) names_none)

  pub flat_b : u.heading.shape ≡ FlatShape
  flat_b = shape_found y.b old.public.tables y.j u y.agrees.tables.names y.two.here.get y.two.here.named (All-head IsNone y.b [] (All-tail IsNone y.a (y.b ∷ []) names_none))

  pub found_a : heading_at y.a (headings_of old.public.tables) ≡ Some t.heading
  found_a = heading_found y.a old.public.tables y.i t y.agrees.tables.names y.one.here.get y.one.here.named

  pub found_b : heading_at y.b (headings_of old.public.tables) ≡ Some u.heading
  found_b = heading_found y.b old.public.tables y.j u y.agrees.tables.names y.two.here.get y.two.here.named

  table_schemas : t.heading.schema ++ u.heading.schema ≡ (selection old.public select).flat.schema
  table_schemas =
      sym (ap (λ (source : Source). source_columns source (headings_of old.public.tables)) y.of_join
      ∙ (λ k. option_map_or (λ (h : Heading). h.schema) (found_a k) [] ++ option_map_or (λ (h : Heading). h.schema) (found_b k) []))

  table_slots : joined_slots old.public.pack old.public.buffer t.heading.capacity u.heading.capacity ≡ (selection old.public select).flat.capacity
  table_slots =
      sym (ap (counted_slots old.public) y.of_join
      ∙ (λ k. joined_slots old.public.pack old.public.buffer (option_map_or (λ (h : Heading). h.capacity) (found_a k) 0) (option_map_or (λ (h : Heading). h.capacity) (found_b k) 0)))

  pub both_schemas : y.left.schema ++ y.right.schema ≡ (selection old.public select).flat.schema
  both_schemas = (λ k. (y.one.is k).schema ++ (y.two.is k).schema) ∙ table_schemas

  pub both_slots : joined_slots old.public.pack old.public.buffer y.left.capacity y.right.capacity ≡ (selection old.public select).flat.capacity
  both_slots = (λ k. joined_slots old.public.pack old.public.buffer (y.one.is k).capacity (y.two.is k).capacity) ∙ table_slots

  abbrev pub q : Selection
  q = stated old.public select old.vault.next 1

  -- ---- the pass that pairs them
  abbrev pub pass : (lcol rcol : ℕ) → Pairing
  pass lcol rcol = join_in old.room y.left lcol y.right rcol

  abbrev pub joins : (lcol rcol : ℕ) → List Access
  joins lcol rcol = pass_script (pass lcol rcol) old.vault.next

  -- room was taken for it, the columns that are equal were found, and it answered so
  pub record IsPaired (lcol rcol : ℕ) (s1 : StoreState) (result : Result Flat OpErr) (after : World) : Type 0 where
    pub lcol_is : lcol ≡ left_place (length y.left.schema) (y.left.schema ++ y.right.schema) y.on y.equals
    pub rcol_is : rcol ≡ right_place (length y.left.schema) (y.left.schema ++ y.right.schema) y.on y.equals
    pub rests : ChangesNothing s s1
    pub paired : Joins (pass lcol rcol) result (at state old.vault s1) after
    pub told : TellsSlots (pass lcol rcol) (joined lcol rcol old.room.pack old.room.rows) result (at state old.vault s1) after

  pub table_is : (lcol rcol : ℕ) → table (pass lcol rcol) old.vault.next ≡ q.flat
  table_is lcol rcol =
      (λ k. record {
        schema = y.left.schema ++ y.right.schema;
        capacity = joined_slots (y.agrees.room.pack k) (y.agrees.room.rows k) y.left.capacity y.right.capacity;
        region = old.vault.next;
      })
      ∙ (λ k. record { schema = both_schemas k; capacity = both_slots k; region = old.vault.next })

  -- what is selected from its region
  pub join_query : (lcol rcol : ℕ) (flat : Flat) (condition : Condition) (cols : List ℕ) (columns others : Columns) → flat ≡ table (pass lcol rcol) old.vault.next → columns ≡ y.left.schema
      → others ≡ y.right.schema → condition ≡ where_at select.cond (columns ++ others) → cols ≡ printed_places select (columns ++ others)
      → ◌≡◌ {A = Selection} (record { public = old.public; flat = flat; condition = condition; cols = cols; ending = 1 }) q
  join_query lcol rcol flat condition cols columns others made_is columns_are others_are condition_is cols_are =
      let flat_is = made_is ∙ table_is lcol rcol in
      let all : columns ++ others ≡ q.flat.schema = (λ k. columns_are k ++ others_are k) ∙ both_schemas in
      stated_is old.public select flat condition cols 1 (ap (λ (f : Flat). f.schema) flat_is) (ap (λ (f : Flat). f.capacity) flat_is)
      (condition_is ∙ ap (where_at select.cond) all) (cols_are ∙ ap (printed_places select) all)
      ∙ ap (λ (r : ℕ). stated old.public select r 1) (ap (λ (f : Flat). f.region) flat_is)

  -- what both tables hold
  pub held_left : (s1 : StoreState) (slots : Slots) → ChangesNothing s s1 → Represents old.public.pack (flat_of t) slots (world_of state old s) → Represents old.room.pack y.left slots (at state old.vault s1)
  held_left s1 slots rests is =
      subst (λ (n : ℕ). Represents n y.left slots (at state old.vault s1)) (sym y.agrees.room.pack)
      (subst (λ (f : Flat). Represents old.public.pack f slots (at state old.vault s1)) (sym y.one.is) (represents_rests _ s s1 rests old.public.pack (flat_of t) slots is))

  pub held_right : (s1 : StoreState) (slots : Slots) → ChangesNothing s s1 → Represents old.public.pack (flat_of u) slots (world_of state old s) → Represents old.room.pack y.right slots (at state old.vault s1)
  held_right s1 slots rests is =
      subst (λ (n : ℕ). Represents n y.right slots (at state old.vault s1)) (sym y.agrees.room.pack)
      (subst (λ (f : Flat). Represents old.public.pack f slots (at state old.vault s1)) (sym y.two.is) (represents_rests _ s s1 rests old.public.pack (flat_of u) slots is))

  -- ---- the accesses
  -- what is asked is what the statement asks
  asks_by : (pad : Option ℕ) (lcol rcol : ℕ) (now : Seen) → rows_script (record old.public { pad = pad }) select now
      ≡ joins lcol rcol ++ (select_part (record old.public { pad = pad }) now (old.vault.next + 1) (extent_of (region_of q)) [] ++ ending_for pad now.k (discard_at old.vault.next))
  asks_by pad lcol rcol now =
      let p = record old.public { pad = pad } in
      ap (source_script p now) y.of_join
      ∙ (λ k. option_map_or (λ (one : Stored ℕ). option_map_or (λ (two : Stored ℕ). join_script p now one two) (stored_found y.b old.public.tables y.j u y.agrees.tables.names y.two.here.get y.two.here.named k) [])
      (stored_found y.a old.public.tables y.i t y.agrees.tables.names y.one.here.get y.one.here.named k) [])
      ∙ (λ k. pass_script (record { pack = sym y.agrees.room.pack k; left = sym y.one.is k; lcol = lcol; right = sym y.two.is k; rcol = rcol; buffered = buffered_blocks (sym y.agrees.room.pack k) (sym y.agrees.room.rows k) }) (y.agrees.next k)
      ++ select_part p now (y.agrees.next k + 1) (extent_of (record { heading = record { name = []; schema = table_schemas k; capacity = table_slots k; shape = FlatShape }; held = y.agrees.next k })) (discard_at (y.agrees.next k)))
      ∙ ap (λ (x : List Access). joins lcol rcol ++ x) (select_split p now (old.vault.next + 1) (region_of q) (discard_at old.vault.next))

  pub join_asks : (lcol rcol : ℕ) (now : Seen)
      → rows_script old.public select now ≡ joins lcol rcol ++ (selection_script q now (old.vault.next + 1) ++ ending_for old.public.pad now.k (discard_at old.vault.next))
  join_asks lcol rcol now = asks_by old.public.pad lcol rcol now

  long : (pad : Option ℕ) (lcol rcol : ℕ) (now : Seen) → length (rows_script (record old.public { pad = pad }) select now)
      ≡ length (joins lcol rcol)
      + (length (select_part (record old.public { pad = pad }) now (old.vault.next + 1) (extent_of (region_of q)) []) + length (ending_for pad now.k (discard_at old.vault.next)))
  long pad lcol rcol now =
      let part = select_part (record old.public { pad = pad }) now (old.vault.next + 1) (extent_of (region_of q)) [] in
      ap length (asks_by pad lcol rcol now) ∙ length-append (joins lcol rcol) (part ++ ending_for pad now.k (discard_at old.vault.next))
      ∙ ap (λ (n : ℕ). length (joins lcol rcol) + n) (length-append part (ending_for pad now.k (discard_at old.vault.next)))

  counted_long : length (count_part old.vault.next (blocks_of old.public (extent_of (region_of q)))) ≡ counted_after q
  counted_long = length-count_part old.vault.next (blocks_of old.public (extent_of (region_of q)))

  pub join_count : (lcol rcol : ℕ) → count_end old.public (rows_skeleton select) ≡ length (joins lcol rcol) + counted_after q
  join_count lcol rcol =
      let all = long None lcol rcol (seen_to Whole) in
      let count = ap length (append-nil (count_part old.vault.next (blocks_of old.public (extent_of (region_of q))))) ∙ counted_long in
      omega (arith, all, count)

  slots_some : 1 ≤ joined_slots old.public.pack old.public.buffer t.heading.capacity u.heading.capacity
  slots_some =
      let some = y.agrees.settings.pack_least in
      let enough = some_buffered old.public.pack old.public.buffer y.agrees.settings.pack_least y.agrees.settings.blocks in
      let lefts = some_of t.heading.capacity old.public.pack some (y.agrees.tables.each y.i t y.one.here.get).heading.stored.least in
      let rights = some_of u.heading.capacity old.public.pack some (y.agrees.tables.each y.j u y.two.here.get).heading.stored.least in
      let chunks = some_of (div_ceil t.heading.capacity old.public.pack) (buffered_blocks old.public.pack old.public.buffer) enough lefts in
      least_times _ _ _ chunks rights some

  pub join_least : 1 ≤ counted_after q
  join_least = some_of (selection old.public select).flat.capacity old.public.pack y.agrees.settings.pack_least (subst (λ (n : ℕ). 1 ≤ n) table_slots slots_some)

  one_ending : ending_len (rows_skeleton select) ≡ 1
  one_ending = ap (λ (source : Source). ending_len (RowsSkeleton source select.list)) y.of_join

  ending_long : (pad k : Option ℕ) (g : ℕ) → IsSome k → length (ending_for pad k (discard_at g)) ≡ 1
  ending_long (Some pad) k g some = refl
  ending_long None None g some = absurd (cc some)
  ending_long None (Some k) g some = refl

  pub join_walk : (lcol rcol : ℕ) (now : Seen) → IsSome now.k → walk_end old.public (rows_skeleton select) now ≡ length (joins lcol rcol) + walked_after q now
  join_walk lcol rcol now some =
      let all = long old.public.pad lcol rcol (record now { then = None }) in
      let last = ending_long old.public.pad now.k old.vault.next some in
      let ends = one_ending in
      let same = select_length old.public y.agrees.settings.pack_least (some_buffered old.public.pack old.public.buffer y.agrees.settings.pack_least y.agrees.settings.blocks)
      (record now { then = None }) (old.vault.next + 1) 0 (region_of q) [] in
      let parts = length-append (count_part old.vault.next (blocks_of old.public (extent_of (region_of q)))) (behind_count old.public.pad old.public (record now { then = None }) 0 (extent_of (region_of q)) []) in
      let count = counted_long in
      let least = join_least in
      omega (arith, all, last, ends, same, parts, count, least)

  pub join_some : 1 ≤ count_end old.public (rows_skeleton select)
  join_some = let is = join_count 0 0 in let least = join_least in omega (arith, is, least)

  -- ---- what it may ask
  pub join_fits : JoinFits old.public.pack old.public.buffer t.heading u.heading y.on y.equals
  join_fits =
      joins_fit (is_late (count_of old s)) (limits_of old.public) (headings_of old.public.tables) select.list y.a y.b y.on y.equals select.cond t.heading u.heading found_a found_b
      (subst (λ (source : Source). early_refusal (is_late (count_of old s)) (limits_of old.public) (headings_of old.public.tables) (RowsStmt (record { list = select.list; source = source; cond = select.cond })) ≡ None) y.of_join y.free)

  pub join_idle : IsIdle (width (y.left.schema ++ y.right.schema)) old.room
  join_idle =
      let idle = y.agrees.room.idle in
      let wide = join_fits.wide in
      let wider = idle.wide in
      subst (λ (cs : Columns). IsIdle (width cs) old.room) (λ k. (sym y.one.is k).schema ++ (sym y.two.is k).schema)
      (record { free = idle.free; shelf = idle.shelf; enough = idle.enough; wide = omega (arith, wide, wider) })

  table_sized : (k : ℕ) (x : Table) → slice_get old.public.tables k ≡ Some x → IsSized x.heading.schema x.heading.capacity
  table_sized k x get =
      let stored = (y.agrees.tables.each k x get).heading.stored in
      let few = stored.few in
      let most = stored.most in
      record { some = stored.some; few = omega (arith, few); wide = stored.wide; least = stored.least; most = omega (arith, most) }

  kept_flat : (s1 : StoreState) → ChangesNothing s s1 → (k : ℕ) (x : Table) → slice_get old.public.tables k ≡ Some x → x.heading.shape ≡ FlatShape → IsFlat old.room.pack (flat_of x) (at state old.vault s1)
  kept_flat s1 rests k x get shape =
      subst (λ (n : ℕ). IsFlat n (flat_of x) (at state old.vault s1)) (sym y.agrees.room.pack)
      (flat_kept (from old.vault.next) old.public.pack (flat_of x) (world_of state old s) (at state old.vault s1) (went_rests _ s s1 rests (from old.vault.next) y.agrees.ready).lasts
      (λ above. let below = region_below old.public.pack k old.public.tables x _ y.agrees.ready y.agrees.tables get in omega (arith, below, above)) ((y.agrees.tables.each k x get).written shape).flat)

  joined_sized : IsSized (t.heading.schema ++ u.heading.schema) (joined_slots old.room.pack old.room.rows t.heading.capacity u.heading.capacity)
  joined_sized =
      let first = (y.agrees.tables.each y.i t y.one.here.get).heading.stored.some in
      let one = (y.agrees.tables.each y.i t y.one.here.get).heading.stored.few in
      let two = (y.agrees.tables.each y.j u y.two.here.get).heading.stored.few in
      let both = length-append t.heading.schema u.heading.schema in
      subst (λ (n : ℕ). IsSized (t.heading.schema ++ u.heading.schema) n) (λ k. joined_slots (sym y.agrees.room.pack k) (sym y.agrees.room.rows k) t.heading.capacity u.heading.capacity)
      (record { some = omega (arith, first, both); few = omega (arith, one, two, both); wide = join_fits.wide; least = slots_some; most = join_fits.slots })

  -- the slots that are joined, and the accesses until they are counted
  pub slots_few : joined_slots old.public.pack old.public.buffer y.left.capacity y.right.capacity ≤ 16777216
  slots_few = subst (λ (n : ℕ). n ≤ 16777216) (λ k. joined_slots old.public.pack old.public.buffer (sym y.one.is k).capacity (sym y.two.is k).capacity) join_fits.slots

  -- those until then, and the discard behind
  abbrev pub asked_for : ℕ
  asked_for = blocks_for old.public.pack y.left.capacity + 3 * joined_blocks old.public.pack old.public.buffer y.left.capacity y.right.capacity + 2

  pub asks_few : (n : ℕ) → n ≡ asked_for → n ≤ 134217728
  asks_few n is =
      let some = y.agrees.settings.pack_least in
      let pairs = product_least (joined_blocks old.public.pack old.public.buffer y.left.capacity y.right.capacity) old.public.pack some in
      let slots = slots_few in
      let lefts = blocks_few old.public.pack y.left.capacity some in
      let most = (y.agrees.tables.each y.i t y.one.here.get).heading.stored.most in
      omega (arith, is, pairs, slots, lefts, most, ap (λ (f : Flat). f.capacity) y.one.is)

  pub join_may : (s1 : StoreState) (lcol rcol : ℕ) → ChangesNothing s s1 → lcol ≡ left_place (length y.left.schema) (y.left.schema ++ y.right.schema) y.on y.equals
      → rcol ≡ right_place (length y.left.schema) (y.left.schema ++ y.right.schema) y.on y.equals → MayJoin (pass lcol rcol) (at state old.vault s1)
  join_may s1 lcol rcol rests lcol_is rcol_is =
      subst (λ (f : Flat). MayJoin (join_in old.room f lcol y.right rcol) (at state old.vault s1)) (sym y.one.is)
      (subst (λ (f : Flat). MayJoin (join_in old.room (flat_of t) lcol f rcol) (at state old.vault s1)) (sym y.two.is)
      (record {
        left = kept_flat s1 rests y.i t y.one.here.get flat_a;
        right = kept_flat s1 rests y.j u y.two.here.get flat_b;
        left_size = table_sized y.i t y.one.here.get;
        right_size = table_sized y.j u y.two.here.get;
        sized = joined_sized;
        lcol = subst (λ (n : ℕ). n < length t.heading.schema) (sym (lcol_is ∙ (λ k. left_place (length (y.one.is k).schema) ((y.one.is k).schema ++ (y.two.is k).schema) y.on y.equals))) join_fits.left_column;
        rcol = subst (λ (n : ℕ). n < length u.heading.schema) (sym (rcol_is ∙ (λ k. right_place (length (y.one.is k).schema) ((y.one.is k).schema ++ (y.two.is k).schema) y.on y.equals))) join_fits.right_column;
      }))

  pub join_starts : (s1 : StoreState) (lcol rcol n padded : ℕ) → ChangesNothing s s1 → n ≡ asked_for → n + padded ≤ s1.spare → MayStart (1 + fill_length (pass lcol rcol)) (at state old.vault s1)
  join_starts s1 lcol rcol n padded rests is spare =
      let same = ap length rests.asked in
      let early = not_late (count_of old s) (allowed (is_late (count_of old s)) (limits_of old.public) (headings_of old.public.tables) (RowsStmt select) y.free).early in
      let lefts : blocks_for old.room.pack y.left.capacity ≡ blocks_for old.public.pack y.left.capacity = ap (λ (k : ℕ). blocks_for k y.left.capacity) y.agrees.room.pack in
      let pairs : joined_blocks old.room.pack old.room.rows y.left.capacity y.right.capacity ≡ joined_blocks old.public.pack old.public.buffer y.left.capacity y.right.capacity =
      λ k. joined_blocks (y.agrees.room.pack k) (y.agrees.room.rows k) y.left.capacity y.right.capacity in
      record {
        ready = ready_rests _ s s1 rests y.agrees.ready;
        spare = enough_left (blocks_for old.room.pack y.left.capacity) (joined_blocks old.room.pack old.room.rows y.left.capacity y.right.capacity) n padded s1.spare
            (is ∙ (λ k. sym lefts k + 3 * sym pairs k + 2)) spare;
        few = omega (arith, same, early);
      }
