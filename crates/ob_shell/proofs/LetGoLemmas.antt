-- A store whose list lets go of what was traced: nothing else that is known of it, of an engine over it and of a text that was
-- answered has changed.
use Rattle.ob_shell.proofs.Words.{Agrees, Answer, ap, arith, Bool, by_fault, count_of, Does, Draws, Engine, false, Index, inl, inr, is_fault, IsReady, IsSteady, KeeperState, length, List, Machine, Ok, Option, Outcome, RanBatch, Represents, RevState, Since, skeleton, statements_of, Step, Stmt, StoreState, subst, sym, Table, Tables, Tally, true, World, world_of, ℕ, [], ◌<◌, ◌∷◌, ◌≡◌}
use Rattle.ob_base.specs.declared.schema.Shape.{Shape}
use Rattle.ob_base.specs.declared.schema.Shape.TheVariants.{Flat as FlatShape, Indexed}
use Rattle.ob_base.specs.Stored.{Stored}
use Rattle.ob_exec.specs.Ran.{CarriedOut, KeeperBehind, RanWhole}
use Rattle.ob_flat.specs.Flats as F
use Rattle.ob_flat.specs.declared.flat.Flat.{Flat}
use Rattle.ob_mean.specs.Verdict.{Held}
use Rattle.ob_oram.specs.Indexes.{IsIndex, IsStoredAs}
use Rattle.ob_path.specs.States.{State}
use Rattle.ob_row.specs.Rows.{Row}
use Rattle.ob_row.specs.Slots.{Slots}
use Rattle.ob_shell.specs.Steps.{AnswersText, Owes}
use Rattle.ob_shell.specs.Traces.{LetsGoFrom}
use Rattle.ob_store.specs.Calls.{without_list}
use Rattle.ob_tables.specs.Engines.{AreTables, IsTable}
use Rattle.ob_tables.specs.Serving.{Means}
use Rattle.ob_tables.specs.Telling.{AreHeld, HoldsTable, Kept, Meant, ReadsTrue}
use Rattle.ob_vault.specs.Calls.{Seals}
use Rattle.ob_vault.specs.State.{VaultState}
use Rattle.ob_vault.specs.Tied.{AllSealed, Untampered, Holds, Ready, Scope}
use Rattle.ob_vault.specs.declared.region.Order.{Order}

-- ---- of a vault and the store
module _ (v : VaultState) (t : StoreState) (room : ℕ) where
  abbrev pub was : World
  was = record { vault = v; store = t }

  abbrev pub now : World
  now = record { vault = v; store = without_list room t }

  ready_now : Ready was → Ready now
  ready_now is = record {
    tied = record {
      start = is.tied.start;
      count = is.tied.count;
      next = is.tied.next;
      above = is.tied.above;
      own = is.tied.own;
      live = λ q shape at. record { live = (is.tied.live q shape at).live };
      numbers = is.tied.numbers;
    };
    below = is.below;
    fits = is.fits;
    laps = is.laps;
  }

  pub calm_now : Untampered was → Untampered now
  calm_now calm = record { calm = calm.calm; within = calm.within }

  sealed_now : (good : ℕ → List ℕ → Bool) (scope : Scope) → AllSealed good scope was → AllSealed good scope now
  sealed_now good scope sealed = record {
    all = λ q x block from live last.
        let one = sealed.all q x block from live last in
        record { number = one.number; rows = one.rows; is = one.is; went = one.went; newest = one.newest; fine = one.fine };
  }

  pub seals_now : (good : ℕ → List ℕ → Bool) (old : World) → Seals good old was → Seals good old now
  seals_now good old seals = record { seals = λ scope few tells all. sealed_now good scope (seals.seals scope few tells all) }

  -- ---- of tables
  flat_now : (pack : ℕ) (flat : Flat) → F.IsFlat pack flat was → F.IsFlat pack flat now
  flat_now pack flat is = record {
    made = record {
      order = is.made.order;
      lives = record { live = is.made.lives.live };
      turn = record { turn = is.made.turn.turn; run = is.made.turn.run };
    };
    written = λ p below. record { number = (is.written p below).number };
  }

  in_turn_now : (order : Order) (flat : Flat) → F.IsInTurn order 1 flat 0 was → F.IsInTurn order 1 flat 0 now
  in_turn_now order flat is = record {
    own = record { above = is.own.above };
    lives = record { live = is.lives.live };
    turn = record { turn = is.turn.turn; run = is.turn.run };
    written = λ p below. record { number = (is.written p below).number };
  }

  holds_now : (q x : ℕ) (rows : List ℕ) → Holds q x rows was → Holds q x rows now
  holds_now q x rows is = record { last = is.last }

  slots_now : (pack : ℕ) (flat : Flat) (slots : Slots) → F.Represents pack flat slots was → F.Represents pack flat slots now
  slots_now pack flat slots is = record { size = is.size; fits = is.fits; holds = λ p below. holds_now _ _ _ (is.holds p below) }

  index_now : (index : Index) → IsIndex index was → IsIndex index now
  index_now index is = record {
    stored = record {
      shaped = is.stored.shaped;
      tree = in_turn_now _ _ is.stored.tree;
      stash = in_turn_now _ _ is.stored.stash;
      apart = is.stored.apart;
    };
    buffer = is.buffer;
  }

  lies_now : (index : Index) (s : State Row) → IsStoredAs index s was → IsStoredAs index s now
  lies_now index s is = record {
    lies = record { tree = slots_now _ _ _ is.lies.tree; stash = slots_now _ _ _ is.lies.stash; leaves = is.lies.leaves };
    stands = is.stands;
  }

  table_now : (pack : ℕ) (table : Table) → IsTable pack table was → IsTable pack table now
  table_now pack table is = record {
    heading = is.heading;
    least = is.least;
    live = record { shape = is.live.shape; lives = record { live = is.live.lives.live } };
    written = λ flat. let at = is.written flat in record { flat = flat_now _ _ at.flat; round = record { live = at.round.live } };
  }

  tables_now : (tables : List Table) (other : ℕ → Type 0) (indexes : List Index) (pack : ℕ) → AreTables tables other indexes pack was → AreTables tables other indexes pack now
  tables_now tables other indexes pack are = record {
    each = λ i table get. table_now pack table (are.each i table get);
    few = are.few;
    apart = are.apart;
    names = are.names;
    beside = λ q is. let at = are.beside q is in record { shape = at.shape; lives = record { live = at.lives.live }; off = at.off };
    only = are.only;
    stand = λ k x get.
        let at = are.stand k x get in
        record { place = at.place; table = at.table; get = at.get; of = at.of; beside = at.beside; stands = index_now x at.stands };
    has = are.has;
    one = are.one;
  }

  holds_table_now : (shape : Shape) (pack : ℕ) (indexes : List Index) (table : Table) (held : Stored Held) → HoldsTable shape pack indexes table held was → HoldsTable shape pack indexes table held now
  holds_table_now FlatShape pack indexes table held is = slots_now _ _ _ is
  holds_table_now Indexed pack indexes table held is = λ k x get tree. lies_now _ _ (is k x get tree)

  held_now : (pack : ℕ) (indexes : List Index) (ts : List Table) (tables : Tables) → AreHeld pack indexes ts tables was → AreHeld pack indexes ts tables now
  held_now pack indexes [] [] held = held
  held_now pack indexes [] (x ∷ tables) held = absurd held
  held_now pack indexes (table ∷ ts) [] held = absurd held
  held_now pack indexes (table ∷ ts) (x ∷ tables) held =
      (held.0, holds_table_now table.heading.shape pack indexes table x held.1, held_now pack indexes ts tables held.2)

-- ---- of an engine and the store
module _ {R : Type 0} (state : R → RevState) (e : Engine R) (t : StoreState) (room : ℕ) where
  abbrev pub left : StoreState
  left = without_list room t

  pub agrees_left : Agrees state e t → Agrees state e left
  agrees_left is = record {
    ready = ready_now (world_of state e t).vault t room is.ready;
    next = is.next;
    settings = is.settings;
    stash = is.stash;
    room = is.room;
    tables = tables_now (world_of state e t).vault t room _ _ _ _ is.tables;
    fit = is.fit;
    aside = is.aside;
    seeded = is.seeded;
    kept = is.kept;
    saved = is.saved;
  }

  pub represents_left : (tables : Tables) → Represents state e t tables → Represents state e left tables
  represents_left tables is = record { held = held_now (world_of state e t).vault t room _ _ _ _ is.held; in_place = is.in_place }

steady_left : (room : ℕ) (t : StoreState) → IsSteady t → IsSteady (without_list room t)
steady_left room t is = record {
  quiet = λ before. let quiet = is.quiet before in record { faults = quiet.faults; slips = quiet.slips; lie = quiet.lie };
  lied = is.lied;
}

pub since_left : (room : ℕ) (s t : StoreState) → Since s t → Since s (without_list room t)
since_left room s t is = record {
  faults = is.faults;
  tells = is.tells;
  lie = is.lie;
  disturbed = is.disturbed;
  steady = λ steady. steady_left room t (is.steady steady);
}

-- ---- of a statement that was answered, and of others that were served with it
module _ {R : Type 0} (state : R → RevState) (room : ℕ) (stmt : Stmt) (owed : List Stmt) (outcome : Outcome) (old : Engine R) (s : StoreState) (new : Engine R) (t : StoreState) where
  abbrev pub last : StoreState
  last = without_list room t

  reads_back : (tables : Tables) → ReadsTrue state old s last tables → ReadsTrue state old s t tables
  reads_back tables reads = record { tells = reads.tells; held = reads.held; nolie = reads.nolie }

  told_left : (failed : Bool) (tables : Tables) (d : Draws) (Whole : StoreState → Type 0) → (Whole t → Whole last)
      → by_fault failed (Kept state stmt d tables old s new t) (Whole t) → by_fault failed (Kept state stmt d tables old s new last) (Whole last)
  told_left true tables d Whole whole kept = record { unindexed = kept.unindexed; seen = kept.seen; held = represents_left state new t room tables kept.held }
  told_left false tables d Whole whole meant = whole meant

  means_left : Means state stmt owed (Ok outcome) old s new t → Means state stmt owed (Ok outcome) old s new last
  means_left means = record {
    told = λ tables d of reads.
        told_left (is_fault outcome) tables d (λ (u : StoreState). Meant state stmt owed (count_of old s) d tables outcome old new u)
        (λ meant. record { answer = meant.answer; seen = meant.seen; held = represents_left state new t room _ meant.held })
        (means.told tables d of (reads_back tables reads));
    room = λ tables d of reads. means.room tables d of (reads_back tables reads);
    honest = λ tables reads. means.honest tables (reads_back tables reads);
    held = λ tables d of reads. tt;
    full = λ tables d of reads. tt;
    begun = means.begun;
  }

  ran_left : RanWhole state (skeleton stmt) (Ok outcome) old s new t → RanWhole state (skeleton stmt) (Ok outcome) old s new last
  ran_left ran = record {
    asked = ran.asked;
    later = since_left room s t ran.later;
    keys = ran.keys;
    start = ran.start;
    from_closing = ran.from_closing;
    ends = ran.ends;
    asks = ran.asks;
    cause = (ran.cause.0, λ calm. calm_now (world_of state new t).vault t room (ran.cause.1 calm));
    room = ran.room;
    opened = ran.opened;
    leaves = ran.leaves;
    goes_on = record {
      agrees = agrees_left state new t room ran.goes_on.agrees;
      public = ran.goes_on.public;
      lives = ran.goes_on.lives;
      drawn = ran.goes_on.drawn;
    };
    settled = ran.settled;
    kept = ran.kept;
    stops = ran.stops;
  }

  keeper_left : (k0 k1 : KeeperState) → KeeperBehind state stmt owed (Ok outcome) old s new t k0 k1 → KeeperBehind state stmt owed (Ok outcome) old s new last k0 k1
  keeper_left k0 k1 (inl alone) = inl alone
  keeper_left k0 k1 (inr was) = inr (record {
    saved = was.saved;
    outcome = was.outcome;
    engine = was.engine;
    store = was.store;
    ran = was.ran;
    whole = was.whole;
    means = was.means;
    later = since_left room was.store t was.later;
    public = was.public;
    answered = was.answered;
    held = λ mark is.
        let held = was.held mark is in
        record { salt = held.salt; of = held.of; is = held.is; rests = held.rests };
    stays = tt;
    kept = tt;
  })

  carried_left : {Halts : Type 0} (k0 k1 : KeeperState) → CarriedOut state stmt owed Halts (Ok outcome) old s new t k0 k1 → CarriedOut state stmt owed Halts (Ok outcome) old s new last k0 k1
  carried_left k0 k1 did = record {
    ran = ran_left did.ran;
    early = did.early;
    lawful = did.lawful;
    memory = λ is. absurd (cc is);
    full = λ is. absurd (cc is);
    emits = did.emits;
    seals = λ good rows one closings. seals_now (world_of state new t).vault t room good _ (did.seals good rows one closings);
    means = means_left did.means;
    keeper = keeper_left k0 k1 did.keeper;
    counts = did.counts;
    drawn = did.drawn;
  }

-- ---- of a batch that was answered
module _ {R : Type 0} (state : R → RevState) (first : Stmt) (rest : List Stmt) (outcome : Outcome) (outcomes : List Outcome) (old : Engine R) (s : StoreState) (new : Engine R) (t : StoreState) (k0 k1 : KeeperState) where
  batch_left : (room : ℕ) → RanBatch state first rest (Ok outcome) outcomes old s new t k0 k1 → RanBatch state first rest (Ok outcome) outcomes old s new (without_list room t) k0 k1
  batch_left room did = record {
    carried = carried_left state room first rest outcome old s new t k0 k1 did.carried;
    shows = did.shows;
    others = did.others;
    told = λ tables d reads. did.told tables d (reads_back state room first rest outcome old s new t tables reads);
  }

  pub batch_from : (from : ℕ) (u : StoreState) → LetsGoFrom from t u → RanBatch state first rest (Ok outcome) outcomes old s new t k0 k1 → RanBatch state first rest (Ok outcome) outcomes old s new u k0 k1
  batch_from from u (inl (none, same)) did = subst (λ (v : StoreState). RanBatch state first rest (Ok outcome) outcomes old s new v k0 k1) (sym same) did
  batch_from from u (inr (more, room, is)) did = subst (λ (v : StoreState). RanBatch state first rest (Ok outcome) outcomes old s new v k0 k1) (sym is) (batch_left room did)

-- ---- of a text
module _ {R : Type 0} (state : R → RevState) (m0 m1 : Machine R) (room : ℕ) where
  abbrev pub behind : Machine R
  behind = record m1 { store = without_list room m1.store }

  does_left : (stmt : Stmt) (outcome : Outcome) → Does state m0 m1 stmt (Ok outcome) → Does state m0 behind stmt (Ok outcome)
  does_left stmt outcome does = record {
    free = does.free;
    alone = does.alone;
    flights = does.flights;
    along = does.along;
    agrees = does.agrees;
    ran = ran_left state room stmt (statements_of m1.owed) outcome m0.engine m0.store m1.engine m1.store does.ran;
    early = does.early;
    lawful = does.lawful;
    memory = λ is. absurd (cc is);
    full = λ is. absurd (cc is);
    emits = does.emits;
    seals = λ good rows one closings. seals_now (world_of state m1.engine m1.store).vault m1.store room good _ (does.seals good rows one closings);
    means = means_left state room stmt (statements_of m1.owed) outcome m0.engine m0.store m1.engine m1.store does.means;
    keeper = keeper_left state room stmt (statements_of m1.owed) outcome m0.engine m0.store m1.engine m1.store m0.keeper m1.keeper does.keeper;
    counts = does.counts;
    drawn = does.drawn;
  }

  owes_left : (failed : Bool) (stmt : Stmt) (d : Draws) (tables : Tables) → by_fault failed (m1.owed ≡ []) (Owes m0 m1 stmt d tables) → by_fault failed (behind.owed ≡ []) (Owes m0 behind stmt d tables)
  owes_left true stmt d tables none = none
  owes_left false stmt d tables owes = record { whole = owes.whole; listed = owes.listed; same = owes.same; answered = owes.answered }

  -- it asked something, so it is no text for which nothing was asked
  step_left : (text : List ℕ) (answer : Answer) → length m0.store.asked < length m1.store.asked → Step state m0 m1 text answer → Step state m0 behind text answer
  step_left text answer asks step = elim step.done [
    | inl bad ↦ absurd (let same = ap (λ (m : Machine R). length m.store.asked) bad.same in omega (arith, same, asks))
    | inr did ↦ record {
      done = inr (record {
        stmt = did.stmt;
        spells = did.spells;
        does = does_left did.stmt answer.outcome did.does;
        events = did.events;
        emits = did.emits;
        emitted = λ tables reads. did.emitted tables (record { tells = reads.tells; held = reads.held; nolie = reads.nolie });
        printed = did.printed;
        planned = did.planned;
        gathered = did.gathered;
        owes = λ tables d drawn reads. owes_left (is_fault answer.outcome) did.stmt d tables (did.owes tables d drawn (record { tells = reads.tells; held = reads.held; nolie = reads.nolie }));
      });
    }
  ]

  pub answers_left : {w0 w1 : Option (List ℕ)} {text : List ℕ} {r0 r1 : Tally} → length m0.store.asked < length m1.store.asked → AnswersText state w0 w1 r0 text r1 m0 m1 → AnswersText state w0 w1 r0 text r1 m0 behind
  answers_left {text = text} asks all = record {
    answer = all.answer;
    step = step_left text all.answer asks all.step;
    appends = all.appends;
    counted = all.counted;
  }

  pub ready_left : {Saves : Type 0} → IsReady state Saves m1 → IsReady state Saves behind
  ready_left ready = record { agrees = agrees_left state m1.engine m1.store room ready.agrees; lives = ready.lives; settled = ready.settled; saves = ready.saves }

-- ---- after a text, of which something was asked or nothing
pub asked_from : (from : ℕ) (s t : StoreState) → LetsGoFrom from s t → t.asked ≡ s.asked
asked_from from s t (inl (none, same)) = ap (λ (u : StoreState). u.asked) same
asked_from from s t (inr (more, room, is)) = ap (λ (u : StoreState). u.asked) is

module _ {R : Type 0} (state : R → RevState) (m0 m1 : Machine R) (t : StoreState) (from : ℕ) where
  pub ready_from : {Saves : Type 0} → LetsGoFrom from m1.store t → IsReady state Saves m1 → IsReady state Saves (record m1 { store = t })
  ready_from {Saves} (inl (none, same)) ready = subst (λ (u : StoreState). IsReady state Saves (record m1 { store = u })) (sym same) ready
  ready_from {Saves} (inr (more, room, is)) ready = subst (λ (u : StoreState). IsReady state Saves (record m1 { store = u })) (sym is) (ready_left state m0 m1 room ready)

  pub answers_from : {w0 w1 : Option (List ℕ)} {text : List ℕ} {r0 r1 : Tally} → from ≡ length m0.store.asked → LetsGoFrom from m1.store t → AnswersText state w0 w1 r0 text r1 m0 m1
      → AnswersText state w0 w1 r0 text r1 m0 (record m1 { store = t })
  answers_from {w0} {w1} {text} {r0} {r1} at (inl (none, same)) all = subst (λ (u : StoreState). AnswersText state w0 w1 r0 text r1 m0 (record m1 { store = u })) (sym same) all
  answers_from {w0} {w1} {text} {r0} {r1} at (inr (more, room, is)) all =
      subst (λ (u : StoreState). AnswersText state w0 w1 r0 text r1 m0 (record m1 { store = u })) (sym is) (answers_left state m0 m1 room (omega (arith, at, more)) all)
