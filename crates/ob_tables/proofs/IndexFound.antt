-- A statement on an index, before its access.
use Rattle.ob_tables.proofs.Words.{Access, Agrees, Answer, answer_labels, ap, append-nil, arith, Bool, Columns, columns_at, count_of, Cut, DrawPlace, Draws, drop, earlier, Engine, engine_start, Err, Event, false, Global, Got, Heading, headings_of, held_if, IfOk, Index, index_kept, inl, is_late, IsAccessed, IsDone, IsIndex, Join, Keyed, Lawful, length, limits_of, List, max, nat_lt, nat_tests, None, none, Ok, Option, option_map_or, OramErr, printed_places, Public, refl, refusal_now, Result, RevState, RoomState, seen, seen_cut, Serves, skeleton, slice_get, slice_set, Some, Source, Stmt, stored_region, StoreState, subst, sym, Tables, take, true, Vault, Vec, verdict, went_rests, whole_run, width, World, world_of, ℕ, [], ◌++◌, ◌+◌, ◌-◌, ◌<◌, ◌∙◌, ◌∷◌, ◌≡◌, ◌≤◌}
use Rattle.std.specs.Prelude.{OnOk, is_some}
use Rattle.std.proofs.Math.Seq.{take-append_seam}
use Rattle.std.proofs.lemmas.List.{length-set}
use Rattle.ob_base.specs.declared.schema.Table.{Table}
use Rattle.ob_base.specs.Events.{Head, Close, row_events}
use Rattle.ob_base.specs.Indexes.{rows_open}
use Rattle.ob_blocks.specs.Idle.{IsIdle}
use Rattle.ob_row.proofs.BagLemmas.{Same-refl}
use Rattle.ob_store.specs.Calls.{ChangesNothing}
use Rattle.ob_vault.specs.Places.{at}
use Rattle.ob_vault.specs.Words.{MayStart}
use Rattle.ob_oram.specs.Scripts.{script_length}
use Rattle.ob_mean.specs.declared.answer.Answer.TheVariants as A
use Rattle.ob_mean.specs.Prints.{Prints}
use Rattle.ob_mean.specs.Replay.{cut_at}
use Rattle.ob_mean.specs.Verdict.{leaf_gone, ended as seen_to}
use Rattle.ob_verdict.specs.Outcomes.{Partly}
use Rattle.ob_verdict.proofs.SeenProof.{access_shows_leaf}
use Rattle.ob_base.specs.declared.fault.NoMemory.{NoMemory}
use Rattle.ob_keyed.specs.Asking.{IsKeyed}
use Rattle.ob_keyed.specs.Serving.{GoneBy}
use Rattle.ob_keyed.proofs.Seen.{cuts_alike}
use Rattle.ob_keyed.proofs.Told.{finds_access}
use Rattle.std.specs.List.{All}
use Rattle.ob_base.specs.declared.skeleton.Source.TheVariants.{Table as OneTable}
use Rattle.ob_oram.specs.Accessing.{HasLeaves, leaves_after}
use Rattle.ob_names.specs.Names.{source_columns}
use Rattle.ob_sql.specs.declared.stmt.SelectRows.{SelectRows}
use Rattle.ob_sql.specs.declared.stmt.Stmt.TheVariants.{Create, Insert, Update, Delete, Drop as DropTable, SelectRows as RowsStmt, SelectTotals as TotalsStmt}
use Rattle.ob_mean.specs.Keyed.{one_table}
use Rattle.ob_mean.specs.Step.{select_columns}
use Rattle.ob_verdict.proofs.AcceptedProof.{places_fit}
use Rattle.ob_tables.specs.Indexed.{MayEmitGot, PrintsColumns}
use Rattle.ob_tables.proofs.FoundLemmas.{heading_found}
use Rattle.ob_tables.proofs.IndexTables.{set_here}
use Rattle.ob_tables.proofs.SourceColumns.{listed_few}
use Rattle.ob_tables.specs.declared.stop.RunStop.TheVariants as Stops
use Rattle.ob_tables.specs.Telling.{Represents, SeenCut}
use Rattle.ob_tables.proofs.HeldLemmas.{held_headings, stood_at}
use Rattle.ob_tables.proofs.RunLemmas.{engine_left, ran_unasked}
use Rattle.ob_tables.proofs.SealLemmas.{keeps_rests}
use Rattle.ob_tables.proofs.TableLemmas.{stored_found}
use Rattle.ob_tables.proofs.ToldLemmas.{few_asked, refused_none}

-- ---- nothing is a first part of any answer
some_prints : (labels : List (List ℕ)) (a : Answer) → (whole : List Event) × Prints labels a whole
some_prints labels (A.Rows rows) = (Head labels ∷ (row_events rows ++ Close (length rows) ∷ []), record { printed = rows; same = Same-refl rows; is = refl })
some_prints labels other = ([], refl)

pub partly_none : (labels : List (List ℕ)) (a : Answer) → Partly labels a []
partly_none labels a = let all = some_prints labels a in record { whole = all.0; prints = all.1; begun = (all.0, refl) }

-- ---- nothing was asked
-- nor is a leaf seen
cut_none : (slots leaf : ℕ) → seen_cut slots leaf 0 ≡ seen_to (Cut 0)
cut_none slots leaf =
    let off : nat_lt slots 0 ≡ false = grind (arith, nat_tests) in
    ap (λ (b : Bool). record (seen_to (Cut 0)) { leaf = held_if b (Some leaf) }) off

lawful_none : (p : Public) (m : ℕ) (stmt : Stmt) → refusal_now p m stmt ≡ None → Lawful p m stmt (seen_to (Cut 0))
lawful_none p m stmt now = record {
  static = (λ is. absurd (cc is), λ some. let none = ap is_some now in absurd (cc (some, none)));
  holds = tt;
  leaf = λ keyed. omega (arith);
  cut = omega (arith);
}

module _ {R : Type 0} (state : R → RevState) (stmt : Stmt) (old : Engine R) (s : StoreState) (k : ℕ)
    (agrees : Agrees state old s) (now : refusal_now old.public (count_of old s) stmt ≡ None)
    (accessed : IsAccessed stmt k old.public.tables old.indexes.items) where
  abbrev pub index : Index
  index = accessed.is.index

  abbrev table : Table
  table = accessed.is.table

  pub stands_old : IsIndex index (world_of state old s)
  stands_old = (agrees.tables.stand k index accessed.is.get).stands

  -- it is on that index
  abbrev pub keyed_on : IsKeyed old.public (count_of old s) stmt index
  keyed_on = record {
    name = accessed.name;
    table = stored_region table;
    accepted = now;
    keyed = accessed.keyed;
    found = stored_found accessed.name old.public.tables accessed.place table agrees.tables.names accessed.is.here.get accessed.is.here.named;
    shaped = accessed.is.of.indexed;
    distinct = (agrees.tables.each accessed.place table accessed.is.here.get).heading.stored.names;
    is = record { schema = accessed.is.of.schema; capacity = accessed.is.of.capacity; shaped = stands_old.stored.shaped };
    tree = accessed.is.of.tree;
    stash = accessed.is.of.stash;
    slots = (agrees.fit k index accessed.is.get).slots;
  }

  -- what its access asks
  pub idle_width : IsIdle (width index.schema) old.room
  idle_width =
      let idle = agrees.room.idle in
      let narrow = stands_old.stored.shaped.size.wide in
      let wide = idle.wide in
      record { free = idle.free; shelf = idle.shelf; enough = idle.enough; wide = omega (arith, narrow, wide) }

  pub rows_fit : rows_open index.height index.slots ≤ old.room.rows
  rows_fit = let rows = (agrees.fit k index accessed.is.get).rows in let same = agrees.room.rows in omega (arith, rows, same)

  module _ (s1 : StoreState) (rests : ChangesNothing s s1) where
    pub stands_now : IsIndex index (at state old.vault s1)
    stands_now = index_kept none (world_of state old s) (at state old.vault s1) (went_rests _ s s1 rests none agrees.ready).lasts index (λ off. off) (λ off. off) stands_old

    pub starts_access : script_length index ≤ s1.spare → MayStart (script_length index) (at state old.vault s1)
    starts_access spare = record {
      ready = (went_rests _ s s1 rests none agrees.ready).lasts.ready;
      spare = spare;
      few = few_asked old.public (count_of old s) stmt now _ (ap (λ (l : List Access). earlier (engine_start old) + length l) rests.asked);
    }

    -- ---- memory was wanted before it
    module _ (indexes : Vec Index Global) (draws : DrawPlace) where
      abbrev unasked : Engine R
      unasked = engine_left old indexes draws old.vault old.room old.public.tables (seen_to (Cut 0)) true

      none_asked : length s1.asked - length s.asked ≡ 0
      none_asked = let same = ap length rests.asked in omega (arith, same)

      seen_none : (tables : Tables) (d : Draws) → Represents state old s tables → SeenCut false d stmt tables old s unasked s1
      seen_none tables d held =
          let headed = held_headings old.public.pack old.indexes.items old.public.tables tables (world_of state old s) held.held in
          let stood = stood_at old.public.pack old.indexes.items accessed.name old.public.tables tables accessed.place table (world_of state old s) agrees.tables.names held.held accessed.is.here.get accessed.is.here.named in
          let found = finds_access old.public (count_of old s) tables stmt stood.table index keyed_on headed stood.found in
          let leaf = leaf_gone d (record { table = stood.table; ask = found.ask }) in
          sym (cut_none old.public.stash leaf)
          ∙ sym (cuts_alike false 0 old.public (skeleton stmt) leaf)
          ∙ ap (cut_at false 0 old.public (skeleton stmt)) (sym (access_shows_leaf d old.public (count_of old s) tables stmt (record { table = stood.table; ask = found.ask }) found.started found.is))
          ∙ ap (λ (n : ℕ). cut_at false n old.public (skeleton stmt) (seen d old.public (count_of old s) tables stmt)) (sym none_asked)

      pub serves_unasked : {E : Type 0} (grew cut : E → E → List Event → Type 0) (faults : E → ℕ) (out : E) → grew out out []
          → Serves state grew cut faults stmt (Err Stops.NoMemory) old s unasked s1 out out
      serves_unasked grew cut faults out starts = record {
        ran = ran_unasked state (skeleton stmt) old s s1 indexes draws old.public.tables agrees rests;
        early = refused_none (refusal_now old.public (count_of old s) stmt) (Err Stops.NoMemory) (seen_to (Cut 0)) now (λ is. absurd (cc is));
        lawful = lawful_none old.public (count_of old s) stmt now;
        memory = λ is. record {
          done = [];
          rest = whole_run old.public (skeleton stmt) (seen_to (Cut 0));
          split = refl;
          asked = rests.asked ∙ sym (append-nil s.asked);
          place = inl (inl refl);
        };
        full = λ is. absurd (cc is);
        seals = keeps_rests state old s s1 rests unasked refl;
        answered = tt;
        stopped = record {
          events = [];
          ends = inl starts;
          told = λ tables reads. partly_none (answer_labels stmt old.public) (verdict old.public (count_of old s) tables stmt);
        };
        sink = refl;
        emits = λ is. absurd (cc is);
        means = record {
          told = λ tables d of reads. tt;
          room = λ tables d of reads. tt;
          honest = λ tables reads. refl;
          held = λ tables d of reads. seen_none tables d reads.held;
          full = λ tables d of reads. record { full = λ is. absurd (cc is); reads = λ is. absurd (cc is); bound = λ is. omega (arith, none_asked) };
          begun = λ tables d of reads lie told. absurd (cc (reads.nolie, rests.lie, told));
        };
      }

      -- also where the same vault and the same store are left by another name
      pub serves_unasked_at : {E : Type 0} (grew cut : E → E → List Event → Type 0) (faults : E → ℕ) (out : E) → grew out out [] → (v : Vault R) (room : RoomState) (t : StoreState) → v ≡ old.vault → room ≡ old.room → t ≡ s1
          → Serves state grew cut faults stmt (Err Stops.NoMemory) old s (engine_left old indexes draws v room old.public.tables (seen_to (Cut 0)) true) t out out
      serves_unasked_at grew cut faults out starts v room t vault_is room_is store_is =
          subst (λ (u : StoreState). Serves state grew cut faults stmt (Err Stops.NoMemory) old s (engine_left old indexes draws v room old.public.tables (seen_to (Cut 0)) true) u out out) (sym store_is)
          (subst (λ (e : Engine R). Serves state grew cut faults stmt (Err Stops.NoMemory) old s e s1 out out)
          (λ i. engine_left old indexes draws (sym vault_is i) (sym room_is i) old.public.tables (seen_to (Cut 0)) true) (serves_unasked grew cut faults out starts))

  -- ---- what it may emit
  columns_of_table : (q : SelectRows) → stmt ≡ RowsStmt q → select_columns q (headings_of old.public.tables) ≡ index.schema
  columns_of_table q is = by_source q.source refl
    where
      by_source : (source : Source) → q.source ≡ source → select_columns q (headings_of old.public.tables) ≡ index.schema
      by_source (OneTable name) source_is =
          let name_is : name ≡ accessed.name = (let named = accessed.keyed in let one = ap one_table source_is in cc (named, is, one)) in
          ap (λ (x : Source). source_columns x (headings_of old.public.tables)) source_is
          ∙ ap (λ (n : List ℕ). columns_at n (headings_of old.public.tables)) name_is
          ∙ ap (λ (o : Option Heading). option_map_or (λ (h : Heading). h.schema) o [])
          (heading_found accessed.name old.public.tables accessed.place table agrees.tables.names accessed.is.here.get accessed.is.here.named)
          ∙ sym accessed.is.of.schema
      by_source (Join a b on equals) source_is = (let named = accessed.keyed in let one = ap one_table source_is in absurd (cc (named, is, one)))

  shown_columns : (q : SelectRows) → stmt ≡ RowsStmt q → PrintsColumns q index.schema
  shown_columns q is =
      let hs = headings_of old.public.tables in
      let fit = places_fit (is_late (count_of old s)) (limits_of old.public) hs q (ap (λ (x : Stmt). refusal_now old.public (count_of old s) x) (sym is) ∙ now) in
      let stored = (agrees.tables.each accessed.place table accessed.is.here.get).heading.stored.few in
      let wide : length index.schema ≤ 32 = let same = ap (λ (cs : Columns). length cs) accessed.is.of.schema in omega (arith, stored, same) in
      record {
        few = fit.few;
        wide = wide;
        are = record {
          few = listed_few q.list index.schema fit.few wide;
          within = subst (λ (cs : Columns). All (λ (i : ℕ). i < length cs) (printed_places q cs)) (columns_of_table q is) fit.printed;
        };
      }

  may_by : (z : Stmt) → stmt ≡ z → MayEmitGot z index.schema
  may_by (RowsStmt q) is = shown_columns q is
  may_by other is = tt

  -- after its access
  module _ (draw : ℕ) (keyed : Keyed) (left : List Index) (room : RoomState) (before after : World) (done : IsDone stmt k draw keyed old.indexes.items left old.room room before after) where
    before_is : index ≡ done.before
    before_is = let got = done.get in let there = accessed.is.get in cc (got, there)

    -- its index stands where it stood
    pub after_at : slice_get left k ≡ Some done.after
    after_at = subst (λ (is : List Index). slice_get is k ≡ Some done.after) (sym done.set) (set_here old.indexes.items k done.before done.after done.get)

    -- with the same columns, where it came to its end
    pub schema_left : (got : Got) → keyed.result ≡ Ok got → done.after.schema ≡ done.before.schema
    schema_left got answers =
        let leaves = subst (λ (r : Result Got OramErr). OnOk r (HasLeaves (leaves_after done.before done.gone.op draw) done.before done.after)) answers done.gone.gone.accesses.leaves in
        ap (λ (i : Index). i.schema) leaves.same

    pub may_emit : (got : Got) → keyed.result ≡ Ok got → MayEmitGot stmt done.after.schema
    may_emit got answers = subst (λ (cs : Columns). MayEmitGot stmt cs) (ap (λ (i : Index). i.schema) before_is ∙ sym (schema_left got answers)) (may_by stmt refl)

-- ---- what its access did, among the indexes
pub done_by : (stmt : Stmt) (k draw : ℕ) (r : Result Keyed NoMemory) (indexes left : List Index) (x y : Index) (old_room new_room : RoomState) (old new : World) → slice_get indexes k ≡ Some x → left ≡ slice_set indexes k y
    → OnOk r (new_room ≡ record old_room { high = max old_room.high (rows_open x.height x.slots) }) → IfOk r (λ keyed. GoneBy stmt x y draw keyed old new)
    → IfOk r (λ keyed. IsDone stmt k draw keyed indexes left old_room new_room old new)
done_by stmt k draw (Ok keyed) indexes left x y old_room new_room old new get set room gone = record { before = x; after = y; get = get; set = set; room = room; gone = gone }
done_by stmt k draw (Err e) indexes left x y old_room new_room old new get set room gone = tt

-- the indexes, once a slice of all of them was written back
pub written_back : (len k : ℕ) (left items : List Index) (x : Index) → left ≡ slice_set items k x → len ≡ length items → take len (left ++ drop (length left) items) ≡ left
written_back len k left items x set long =
    let same : length left ≡ length items = ap (λ (xs : List Index). length xs) set ∙ length-set items k x in
    ap (λ (n : ℕ). take n (left ++ drop (length left) items)) (long ∙ sym same) ∙ take-append_seam left (drop (length left) items)
