-- What an access of an index does, whatever the store answers.
use Rattle.ob_tables.proofs.Words.{Access, access_script, Agrees, answer_of, ap, AreDraws, AreTables, arith, Bool, Untampered, count_of, Cut, draw_at, draw_seed_of, drawn_by, DrawPlace, Draws, draws_taken, End, Engine, Err, false, free_after, Global, Got, got_outcome, held_if, Index, index_kept, inl, inr, is_access, is_fault, is_stop, IsAccessed, IsDone, IsFree, IsIndex, IsIndexOfTable, key_of, Keyed, left_region, length, List, nat_lt, None, none, Ok, Opens, OpErr, Option, OramErr, others_of, Outcome, RanStatement, refl, refusal_now, Result, RevState, RoomState, run_script, RunCause, RunStop, Seen, seen_cut, seen_whole, skeleton, slice_get, slice_index_or, slice_set, Some, Stmt, stop_of, stored_region, StoreState, subst, sym, true, two, Vault, Vec, Went, went_join, went_rests, Whole, World, world_of, ℕ, [], ◌%◌, ◌++◌, ◌+◌, ◌-◌, ◌^◌, ◌∙◌, ◌≡◌, ◌≤◌, ◌⊎◌}
use Rattle.std.proofs.Common.{OnOk}
use Rattle.ob_base.specs.declared.schema.Table.{Table}
use Rattle.ob_base.specs.Indexes.{leaf_of_draw, rows_open}
use Rattle.ob_store.specs.Calls.{ChangesNothing}
use Rattle.ob_vault.specs.Places.{at}
use Rattle.ob_vault.proofs.Runs.{lasts_trans}
use Rattle.ob_flat.specs.declared.fault.OpErr.TheVariants as OpErrs
use Rattle.ob_oram.specs.declared.fault.OramErr.TheVariants as OramErrs
use Rattle.ob_oram.specs.Indexes.{leaves_of}
use Rattle.ob_oram.specs.Short.{AccessShort, ShortCause}
use Rattle.ob_path.specs.Access as Tree
use Rattle.ob_row.specs.Rows.{Row}
use Rattle.ob_seal.proofs.Drawn.{draws_wrap}
use Rattle.ob_script.proofs.SavedParts.{run_is}
use Rattle.ob_script.specs.Saved.{left_then}
use Rattle.ob_script.specs.Script.{script}
use Rattle.ob_script.specs.Tables.{tables_then}
use Rattle.ob_sql.specs.declared.stmt.Stmt.TheVariants.{Create, Insert, Update, Delete, Drop as DropTable, SelectRows as RowsStmt, SelectTotals as TotalsStmt}
use Rattle.ob_mean.specs.Lawful.{height_at}
use Rattle.ob_mean.specs.Verdict.{next_draw}
use Rattle.ob_keyed.specs.Asking.{IsKeyed}
use Rattle.ob_keyed.specs.Seeing.{RanAs}
use Rattle.ob_keyed.specs.Serving.{Asked, ServesKeyed}
use Rattle.ob_keyed.proofs.Ran.{keyed_cut, keyed_ran}
use Rattle.ob_keyed.proofs.Seen.{height_at_is}
use Rattle.ob_keyed.proofs.Served.{serves}
use Rattle.ob_tables.specs.declared.stop.RunStop.TheVariants as Stops
use Rattle.ob_tables.specs.Leaves.{MovesLeaves, ReadsKey}
use Rattle.ob_tables.proofs.IndexKinds.{access_by}
use Rattle.ob_tables.proofs.IndexTables.{this, that, set_at, tables_accessed}
use Rattle.ob_tables.proofs.RunLemmas.{IsAnswered, MayHave, asks_none, engine_left, leaves_none, left_on, none_by, of_other, opens_some, unsaved}
use Rattle.ob_tables.proofs.TableLemmas.{no_entry, stored_found}

-- what an access answers is no fault of the store, and none refuses before it
pub got_answered : (stmt : Stmt) (got : Tree.Got Row) → IsAnswered (got_outcome stmt got)
got_answered (Insert table columns values) Tree.Absent = record { whole = λ n. refl; own = refl }
got_answered (Insert table columns values) (Tree.Found row) = record { whole = λ n. refl; own = refl }
got_answered (Insert table columns values) Tree.Done = record { whole = λ n. refl; own = refl }
got_answered (Insert table columns values) Tree.Duplicate = record { whole = λ n. refl; own = refl }
got_answered (Insert table columns values) Tree.OutOfRange = record { whole = λ n. refl; own = refl }
got_answered other got = record { whole = λ n. refl; own = refl }

pub short_cause : (e : OramErr) (a b : World) → ShortCause e a b → RunCause (Err (stop_of e)) a b
short_cause OramErrs.Failed a b cause = cause
short_cause other a b cause = cause

-- of a store that was only given room before
cause_after : (stop : RunStop) (a b c : World) → b.store.faults ≡ a.store.faults → (Untampered a → Untampered b) → RunCause (Err stop) b c → RunCause (Err stop) a c
cause_after (Stops.Tampered q x) a b c faults calm cause = (cause.0 ∙ faults, cause.1, λ was. cause.2 (calm was))
cause_after Stops.StoreFault a b c faults calm cause = (let rise = cause.0 in omega (arith, rise, faults), λ was. cause.1 (calm was))
cause_after Stops.KeeperFault a b c faults calm cause = absurd cause
cause_after other a b c faults calm cause = (cause.0 ∙ faults, λ was. cause.1 (calm was))

module _ {R : Type 0} (state : R → RevState) (stmt : Stmt) (old : Engine R) (s s1 : StoreState) (v : Vault R) (room : RoomState) (t : StoreState) (k draw : ℕ) (keyed : Keyed) (indexes : Vec Index Global) (draws : DrawPlace)
    (agrees : Agrees state old s) (rests : ChangesNothing s s1) (now : refusal_now old.public (count_of old s) stmt ≡ None)
    (accessed : IsAccessed stmt k old.public.tables old.indexes.items)
    (done : IsDone stmt k draw keyed old.indexes.items indexes.items old.room room (at state old.vault s1) (at state v t)) where
  abbrev pub before : World
  before = at state old.vault s1

  abbrev pub after : World
  after = at state v t

  abbrev pub x : Index
  x = done.before

  abbrev pub y : Index
  y = done.after

  abbrev pub table : Table
  table = accessed.is.table

  pub of_x : IsIndexOfTable table x
  of_x =
      let got = done.get in
      let there = accessed.is.get in
      let same : accessed.is.index ≡ x = cc (got, there) in
      subst (λ (i : Index). IsIndexOfTable table i) same accessed.is.of

  is_an_access : is_access old.public (skeleton stmt) ≡ true
  is_an_access =
      let here = accessed.is.here in
      access_by old.public accessed.place accessed.is.table accessed.name agrees.tables.names here.get here.named accessed.is.of.indexed stmt accessed.keyed

  pub stands : IsIndex x before
  stands =
      index_kept none (world_of state old s) before (went_rests _ s s1 rests none agrees.ready).lasts x (λ off. off) (λ off. off) (agrees.tables.stand k x done.get).stands

  abbrev pub on : IsKeyed old.public (count_of old s) stmt x
  on = record {
    name = accessed.name;
    table = stored_region table;
    accepted = now;
    keyed = accessed.keyed;
    found = stored_found accessed.name old.public.tables accessed.place table agrees.tables.names accessed.is.here.get accessed.is.here.named;
    shaped = of_x.indexed;
    distinct = (agrees.tables.each accessed.place table accessed.is.here.get).heading.stored.names;
    is = record { schema = of_x.schema; capacity = of_x.capacity; shaped = stands.stored.shaped };
    tree = of_x.tree;
    stash = of_x.stash;
    slots = (agrees.fit k x done.get).slots;
  }

  pub served : ServesKeyed stmt x y draw keyed before after
  served = serves stmt x y draw keyed before after stands.stored.shaped done.gone

  pub free : IsFree old.public room
  free = free_after old.public old.room room _ agrees.room done.room

  pub opened : (part : List Access) → Opens part old.room.high room.high
  opened part = subst (λ (r : RoomState). Opens part old.room.high r.high) (sym done.room) (opens_some part old.room.high (rows_open x.height x.slots) (omega (arith)))

  same_count : length t.asked - length s1.asked ≡ length t.asked - length s.asked
  same_count = λ j. length t.asked - length (rests.asked j)

  pub from_old : (a : List Access) → t.asked ≡ s1.asked ++ a → t.asked ≡ s.asked ++ a
  from_old a asked = asked ∙ ap (λ (l : List Access). l ++ a) rests.asked

  -- ---- the leaf that is read
  abbrev height : ℕ
  height = height_at old.public (skeleton stmt)

  -- where there is an index tables aren't saved: all that is asked is the script, and no region is left
  run_same : (now : Seen) → run_script old.public (skeleton stmt) now ≡ script old.public (skeleton stmt) now
  run_same now = run_is old.public (skeleton stmt) now (unsaved state old s k x agrees done.get)

  none_left : (end : End) (q : ℕ) (P : Type 0) → left_then old.public (skeleton stmt) end ≡ Some q → P
  none_left end q P = leaves_none old.public (skeleton stmt) end q P
      (none_by old.public.save (left_region old.public (skeleton stmt)) (inl (unsaved state old s k x agrees done.get)))

  not_saved : {P : Type 0} → old.public.save ≡ true → P
  not_saved saves = let not = unsaved state old s k x agrees done.get in absurd (cc (saves, not))

  module _ (drew : draw ≡ draw_at old.draws.key old.draws.next) where
    -- the number that it drew is the meaning's next
    pub draw_is : (d : Draws) → AreDraws old d → draw ≡ next_draw d
    draw_is d of =
        drew ∙ (λ i. draw_at (agrees.seeded i) (of.next i)) ∙ draws_wrap (key_of (draw_seed_of old.vault.keys)) d.drawn ∙ sym (of.draw d.drawn)

    reads_key : (d : Draws) → AreDraws old d → (taken : ℕ) (leaf : Option ℕ) (ended : Bool) → leaf ≡ Some keyed.leaf
        → (ended ≡ false → 1 ≤ taken) → (ended ≡ false → leaves_of y ≡ slice_set (leaves_of x) served.keys.key (leaf_of_draw x.height draw))
        → ReadsKey d taken height old.indexes.items leaf ended indexes.items
    reads_key d of taken leaf ended leaf_is drawn moved =
        let keys = served.keys in
        let next = draw_is d of in
        record {
          place = k;
          index = x;
          key = keys.key;
          get = done.get;
          high = sym (height_at_is old.public (count_of old s) stmt x on);
          read = leaf_is ∙ ap (λ (n : ℕ). Some n) (keys.read ∙ ap (λ (n : ℕ). slice_index_or (leaves_of x) keys.key (leaf_of_draw x.height n)) next);
          left = y;
          becomes = λ goes. done.set;
          tree = λ goes. ap (λ (i : Index). i.tree) served.asked.same;
          height_stays = λ goes. ap (λ (i : Index). i.height) served.asked.same;
          leaves = λ goes. moved goes ∙ ap (λ (n : ℕ). slice_set (leaves_of x) keys.key (leaf_of_draw x.height n)) next;
          drawn = drawn;
        }

    -- of one that was cut off, once more was asked than the stash
    moves_cut : (d : Draws) → AreDraws old d → (taken : ℕ) (b : Bool) → MovesLeaves d taken height old.indexes.items (held_if b (Some keyed.leaf)) true indexes.items
    moves_cut d of taken true =
        inr (inr (inr (reads_key d of taken (Some keyed.leaf) true refl (λ goes. absurd (cc goes)) (λ goes. absurd (cc goes)))))
    moves_cut d of taken false = inl (refl, λ goes. absurd (cc goes))

  -- ---- it went to its end
  module _ (got : Got) (answers : keyed.result ≡ Ok got) where
    pub moved_ok : leaves_of y ≡ slice_set (leaves_of x) served.keys.key (leaf_of_draw x.height draw)
    moved_ok = subst (λ (r : Result Got OramErr). OnOk r (leaves_of y ≡ slice_set (leaves_of x) served.keys.key (leaf_of_draw x.height draw))) answers served.keys.moved

    pub asked_ok : Asked x y keyed.leaf (Ok got) before after
    asked_ok = subst (λ (r : Result Got OramErr). Asked x y keyed.leaf r before after) answers served.asked

    pub all : Went (access_script x keyed.leaf) (two x.tree x.stash) (world_of state old s) after
    all = went_join (two x.tree x.stash) _ _ _ [] (access_script x keyed.leaf) (went_rests _ s s1 rests (two x.tree x.stash) agrees.ready) asked_ok.ok

    pub ran_as : RanAs old.public (count_of old s) stmt (seen_whole keyed.leaf) s1 t
    ran_as = keyed_ran old.public (count_of old s) stmt x y keyed.leaf (Ok got) before after on asked_ok

    may : MayHave old indexes.items
    may = record {
      fit = λ l z get. elim (set_at old.indexes.items k y l z (subst (λ (is : List Index). slice_get is l ≡ Some z) done.set get)) [
        | this here is ↦
            let was = agrees.fit k x done.get in
            let kept = asked_ok.same in
            record {
              slots = ap (λ (i : Index). i.slots) is ∙ ap (λ (i : Index). i.slots) kept ∙ was.slots;
              rows = subst (λ (i : Index). rows_open i.height i.slots ≤ old.public.buffer) (sym (is ∙ kept)) was.rows;
            }
        | that off was ↦ agrees.fit l z was
      ];
      aside = λ q closed of. elim (set_at old.indexes.items k y of.place of.index (subst (λ (is : List Index). slice_get is of.place ≡ Some of.index) done.set of.get)) [
        | this here is ↦ agrees.aside q closed (record { place = k; index = x; get = done.get; stash = sym (ap (λ (i : Index). i.stash) asked_ok.same) ∙ ap (λ (i : Index). i.stash) (sym is) ∙ of.stash })
        | that off was ↦ agrees.aside q closed (record { place = of.place; index = of.index; get = was; stash = of.stash })
      ];
      kept = λ keep. let none_there = agrees.kept keep in let got = done.get in absurd (no_entry old.indexes.items k x none_there got);
    }

    -- the tables stand
    are : AreTables old.public.tables (others_of old.closing indexes.items) indexes.items old.public.pack after
    are =
        subst (λ (is : List Index). AreTables old.public.tables (others_of old.closing is) is old.public.pack after) (sym done.set)
        (tables_accessed old.public.pack k old.public.tables old.closing old.indexes.items x y (world_of state old s) after all.lasts agrees.tables done.get asked_ok.same asked_ok.stands)

    pub ran_whole_access : draw ≡ draw_at old.draws.key old.draws.next → drawn_by old.public (skeleton stmt) ≡ 1 → (outcome : Outcome) → old.ended ≡ false → IsAnswered outcome → old.public.tables ≡ tables_then old.public (skeleton stmt) Whole → draws.key ≡ old.draws.key
        → ((d : Draws) → AreDraws old d → draws.next ≡ (d.drawn + draws_taken old.public (skeleton stmt) Whole) % 2 ^ 67)
        → RanStatement state (skeleton stmt) (Ok outcome) old s (engine_left old indexes draws v room old.public.tables (seen_whole keyed.leaf) old.ended) t
    ran_whole_access drew one outcome lives answered same key drawn =
        let part = run_script old.public (skeleton stmt) (seen_whole keyed.leaf) in
        let asked : t.asked ≡ s.asked ++ part = from_old part (ran_as.asked ∙ ap (λ (l : List Access). s1.asked ++ l) (sym (run_same (seen_whole keyed.leaf)))) in
        record {
          asked = asked;
          later = all.lasts.later;
          keys = all.lasts.keys;
          start = all.lasts.start;
          from_closing = refl;
          replaced = refl;
          ends = sym (answered.whole _);
          asks = asks_none outcome _ answered.own;
          cause = (of_other _ _ (is_fault outcome) answered.own all.did.faults, all.calm);
          room = free;
          opened = opened part;
          leaves = λ d of. inr (inr (inr (reads_key drew d of (draws_taken old.public (skeleton stmt) Whole) (Some keyed.leaf) old.ended refl (λ goes. omega (arith, one)) (λ goes. moved_ok))));
          goes_on = left_on state (skeleton stmt) old s v room t agrees free indexes draws old.public.tables (seen_whole keyed.leaf) part old.ended lives all.lasts.ready all.lasts.start all.lasts.keys
              asked refl same are may key drawn;
          stays = λ q is. none_left (seen_whole keyed.leaf).end q _ is;
          kept = λ saves. not_saved saves;
          indexed = λ stops. absurd (cc stops);
        }

    -- its emitter gave up after it
    pub ran_as_cut : RanAs old.public (count_of old s) stmt (seen_cut old.public.stash keyed.leaf (length t.asked - length s1.asked)) s1 t
    ran_as_cut = keyed_cut old.public (count_of old s) stmt x y keyed.leaf got before after on asked_ok

    pub ran_emission : draw ≡ draw_at old.draws.key old.draws.next → (e : OpErr) (n : ℕ) → (e ≡ OpErrs.Sink) ⊎ (e ≡ OpErrs.NoMemory) → n ≡ length t.asked - length s.asked
        → RanStatement state (skeleton stmt) (answer_of e) old s (engine_left old indexes draws v room old.public.tables (seen_cut old.public.stash keyed.leaf n) (is_stop (answer_of e))) t
    ran_emission drew e n never count =
        let is : length t.asked - length s1.asked ≡ n = same_count ∙ sym count in
        let seen = seen_cut old.public.stash keyed.leaf in
        let part = run_script old.public (skeleton stmt) (seen n) in
        let asked : t.asked ≡ s.asked ++ part =
        from_old part (subst (λ (m : ℕ). t.asked ≡ s1.asked ++ run_script old.public (skeleton stmt) (seen m)) is
        (ran_as_cut.asked ∙ ap (λ (l : List Access). s1.asked ++ l) (sym (run_same (seen (length t.asked - length s1.asked)))))) in
        let at_stop : (stop : RunStop) → (RunCause (Err stop) (world_of state old s) after)
        → RanStatement state (skeleton stmt) (Err stop) old s (engine_left old indexes draws v room old.public.tables (seen n) true) t = λ stop cause. record {
          asked = asked;
          later = all.lasts.later;
          keys = all.lasts.keys;
          start = all.lasts.start;
          from_closing = refl;
          replaced = refl;
          ends = ap (λ (m : ℕ). Cut m) count;
          asks = λ faulted. absurd faulted;
          cause = cause;
          room = free;
          opened = opened part;
          leaves = λ d of. moves_cut drew d of (drawn_by old.public (skeleton stmt)) (nat_lt old.public.stash n);
          goes_on = refl;
          stays = λ q is. none_left (seen n).end q _ is;
          kept = λ saves. not_saved saves;
          indexed = λ stops. is_an_access;
        } in
        elim never [
          | inl sink ↦ subst (λ (z : OpErr). RanStatement state (skeleton stmt) (answer_of z) old s (engine_left old indexes draws v room old.public.tables (seen n) (is_stop (answer_of z))) t) (sym sink)
              (at_stop Stops.SinkFault (all.did.faults, all.calm))
          | inr memory ↦ subst (λ (z : OpErr). RanStatement state (skeleton stmt) (answer_of z) old s (engine_left old indexes draws v room old.public.tables (seen n) (is_stop (answer_of z))) t) (sym memory)
              (at_stop Stops.NoMemory (all.did.faults, all.calm))
        ]

  -- ---- it gave up
  module _ (e : OramErr) (stops : keyed.result ≡ Err e) where
    pub asked_err : Asked x y keyed.leaf (Err e) before after
    asked_err = subst (λ (r : Result Got OramErr). Asked x y keyed.leaf r before after) stops served.asked

    pub short : AccessShort e x keyed.leaf before after
    short = asked_err.err

    pub ran_as_stopped : RanAs old.public (count_of old s) stmt (seen_cut old.public.stash keyed.leaf (length t.asked - length s1.asked)) s1 t
    ran_as_stopped = keyed_ran old.public (count_of old s) stmt x y keyed.leaf (Err e) before after on asked_err

    pub ran_stopped_access : draw ≡ draw_at old.draws.key old.draws.next → (n : ℕ) → n ≡ length t.asked - length s.asked
        → RanStatement state (skeleton stmt) (Err (stop_of e)) old s (engine_left old indexes draws v room old.public.tables (seen_cut old.public.stash keyed.leaf n) true) t
    ran_stopped_access drew n count =
        let is : length t.asked - length s1.asked ≡ n = same_count ∙ sym count in
        let seen = seen_cut old.public.stash keyed.leaf in
        let part = run_script old.public (skeleton stmt) (seen n) in
        let first = went_rests _ s s1 rests (two x.tree x.stash) agrees.ready in
        let lasts = lasts_trans (two x.tree x.stash) _ _ _ first.lasts short.lasts in
        record {
          asked = from_old part (subst (λ (m : ℕ). t.asked ≡ s1.asked ++ run_script old.public (skeleton stmt) (seen m)) is
              (ran_as_stopped.asked ∙ ap (λ (l : List Access). s1.asked ++ l) (sym (run_same (seen (length t.asked - length s1.asked))))));
          later = lasts.later;
          keys = lasts.keys;
          start = lasts.start;
          from_closing = refl;
          replaced = refl;
          ends = ap (λ (m : ℕ). Cut m) count;
          asks = λ faulted. absurd faulted;
          cause = cause_after (stop_of e) (world_of state old s) before after first.did.faults first.calm (short_cause e before after short.cause);
          room = free;
          opened = opened part;
          leaves = λ d of. moves_cut drew d of (drawn_by old.public (skeleton stmt)) (nat_lt old.public.stash n);
          goes_on = refl;
          stays = λ q is. none_left (seen n).end q _ is;
          kept = λ saves. not_saved saves;
          indexed = λ stops. is_an_access;
        }
