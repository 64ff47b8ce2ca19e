-- Want of memory before a flight: nothing was asked.
use Rattle.ob_exec.proofs.Words.{Access, Agrees, allowed, ap, append-nil, arith, asked_by, asked_since, Bool, ChangesNothing, count_end, count_of, Create, Cut, cut_at, Delete, Draws, drop, Engine, engine_behind, Err, Event, false, flight_public, has_table, Hash, headings_of, held_empty, in_flight, inl, Insert, is_access, is_cut, is_late, is_some, is_there, IsAt, IsMeant, later_rests, Lawful, length, length-map, limits_of, List, list_any, map, merge, nat_le, nat_lt, None, not, Option, Outcome, partly_none, Plan, Public, RanFlight, ReadsTrueUntil, refl, Refusal, refusal_now, RevState, Seen, SelectsFromOne, Skeleton, skeleton, slice_get, Small, Some, Source, source_tables, Stmt, StoreState, subst, suc, sym, Tables, take, true, unfit_none, Update, walk_end, went_rests, Whole, world_of, ℕ, [], ◌++◌, ◌||◌, ◌∙◌, ◌∷◌, ◌≡◌, ◌≤◌}
use Rattle.std.specs.Prelude.{bytes_eq}
use Rattle.std.proofs.lemmas.Option.{same_Some}
use Rattle.ob_base.specs.declared.config.Plan.TheVariants.{Large, Continuous}
use Rattle.ob_base.specs.declared.schema.Table.{Table}
use Rattle.ob_mean.specs.Verdict.{ended, seen_by as seen_padded, seen_started, seen_with}
use Rattle.ob_script.specs.FlightLaws.{one_if, total}
use Rattle.ob_sql.specs.declared.stmt.SelectRows.{SelectRows}
use Rattle.ob_sql.specs.declared.stmt.Stmt.TheVariants.{Drop as DropTable, SelectRows as RowsStmt, SelectTotals as TotalsStmt}
use Rattle.ob_tables.specs.declared.stop.RunStop.TheVariants as Stops
use Rattle.ob_tables.proofs.LawfulLemmas.{lawful_refused}
use Rattle.ob_tables.proofs.RunLemmas.{opens_none}
use Rattle.ob_tables.proofs.SealLemmas.{keeps_rests}
use Rattle.ob_tables.proofs.TableLemmas.{named}
use Rattle.ob_tables.proofs.ToldLemmas.{started_seen}
use Rattle.ob_vault.specs.Calls.{Apart}
use Rattle.ob_exec.specs.Boarding.{seen_first, seen_if}
use Rattle.ob_exec.specs.InFlight.{AreFlight, Flies, IsFlown, served_as}
use Rattle.ob_exec.specs.RanFlight.{RanInTurns, StopsFlight, cut_off}
use Rattle.ob_exec.proofs.FlightTurned.{stops_unturned}
use Rattle.ob_exec.proofs.BoardOne.{early_same, from_one}
use Rattle.ob_exec.proofs.FlightBoards.{flies_in}
use Rattle.ob_exec.proofs.FlightFrames.{calm_start}
use Rattle.ob_exec.proofs.FlightLists.{get_first, map_get}
use Rattle.ob_exec.proofs.FlightStage.{HoldNow}
use Rattle.ob_exec.proofs.RowsOfTable.{capacity_of, count_of_table}
use Rattle.ob_exec.proofs.RowsSeconded.{held_none}
use Rattle.ob_exec.proofs.RowsTable.{some_of}
use Rattle.ob_exec.proofs.StageRefused.{meant_refused}
use Rattle.ob_exec.specs.Sources.{rows_skeleton}

-- ---- the table of a name
pub named_in : (name : List ℕ) (ts : List Table) → has_table name (headings_of ts) ≡ true → (i : ℕ) × ((t : Table) × IsAt name i t ts)
named_in name [] has = absurd (cc has)
named_in name (t ∷ ts) has = head (bytes_eq t.heading.name name) refl (named_in name ts)
  where
    head : (b : Bool) → bytes_eq t.heading.name name ≡ b → (has_table name (headings_of ts) ≡ true → (i : ℕ) × ((u : Table) × IsAt name i u ts)) → (i : ℕ) × ((u : Table) × IsAt name i u (t ∷ ts))
    head true hit rest = (0, (t, record { get = refl; named = named t.heading.name name hit }))
    head false miss rest =
        let there = rest (sym (ap (λ (b : Bool). b || has_table name (headings_of ts)) miss) ∙ has) in
        (suc there.0, (there.1.0, record { get = there.1.1.get; named = there.1.1.named }))

-- ---- what is seen in the end shows nothing before anything is asked
shows_alone : (n : ℕ) (p : Public) (plan : Plan) (places : List ℕ) → plan ≡ Small → ((seen_with (flight_public n p) plan places).then ≡ None) × ((seen_with (flight_public n p) plan places).leaf ≡ None)
shows_alone n p Small places is = (refl, refl)
shows_alone n p other places is = absurd (cc is)

shown_alone : (n : ℕ) (p : Public) (pad : Option ℕ) (slots : ℕ) (places : List ℕ) → ((seen_padded pad (flight_public n p) slots places).then ≡ None) × ((seen_padded pad (flight_public n p) slots places).leaf ≡ None)
shown_alone n p None slots [] = (refl, refl)
shown_alone n p None slots (i ∷ is) = shows_alone n p _ (i ∷ is) refl
shown_alone n p (Some pad) slots places = (refl, refl)

-- nothing of it is held after no access
held_nothing : (p : Public) (s : Skeleton) (x : Seen) → x.then ≡ None → x.leaf ≡ None → (1 ≤ count_end p s) → ended Whole ≡ record (cut_at false 0 p s x) { end = Whole }
held_nothing p s x second leaf counts = λ i. record {
  k = held_none x.k (count_end p s) 0 (omega (arith, counts)) i;
  plan = held_none x.plan (count_end p s) 0 (omega (arith, counts)) i;
  then = held_empty (nat_le (walk_end p s x) 0) x.then second i;
  leaf = held_empty (nat_lt p.stash 0) x.leaf leaf i;
  end = Whole;
}

held_plain : (p : Public) (s : Skeleton) → ended Whole ≡ record (cut_at false 0 p s (ended Whole)) { end = Whole }
held_plain p s = λ i. record {
  k = held_empty (nat_le (count_end p s) 0) None refl i;
  plan = held_empty (nat_le (count_end p s) 0) None refl i;
  then = held_empty (nat_le (walk_end p s (ended Whole)) 0) None refl i;
  leaf = held_empty (nat_lt p.stash 0) None refl i;
  end = Whole;
}

-- ---- one of them
module _ (m n : ℕ) (p : Public) (stmt : Stmt) (flies : Flies p m stmt) where
  abbrev q : Public
  q = flight_public n p

  same : refusal_now q m stmt ≡ refusal_now p m stmt
  same = early_same (is_late m) n p stmt flies.selects

  stands_going : refusal_now p m stmt ≡ None → Lawful q m stmt (ended (Cut 0))
  stands_going free = record {
    static = (λ is. absurd (cc is), λ some. absurd (let none : is_some (refusal_now q m stmt) ≡ false = ap is_some (same ∙ free) in cc (some, none)));
    holds = tt;
    leaf = λ keyed. absurd (let plain = flies.flat free in cc (keyed, plain));
    cut = omega arith;
  }

  stands_first : (o : Option Refusal) → refusal_now p m stmt ≡ o → IsFlown q m 0 stmt (seen_if o) None
  stands_first None is = stands_going is
  stands_first (Some why) is = lawful_refused q m stmt why (same ∙ is)

uncut : (o : Option Refusal) → one_if (is_cut (seen_if o).end) ≡ 0
uncut None = refl
uncut (Some why) = refl

none_cut : (late : Bool) (p : Public) (stmts : List Stmt) → cut_off (map (seen_first late p) stmts) ≡ 0
unfolding total
none_cut late p [] = refl
none_cut late p (stmt ∷ stmts) = let one = uncut (Rattle.ob_exec.specs.InFlight.early_of late p stmt) in let rest = none_cut late p stmts in omega (arith, one, rest)

drop_all : (xs : List Access) → drop (length xs) xs ≡ []
drop_all [] = refl
drop_all (x ∷ xs) = drop_all xs

module _ {R E : Type 0} (state : R → RevState) (grew cut : E → E → List Event → Type 0) (closed parted : E → E → ℕ → Outcome → Type 0) (faults : E → ℕ) (starts : (s : E) → grew s s [])
    (old : Engine R) (s s1 : StoreState) (agrees : Agrees state old s) (rests : ChangesNothing s s1) (stmts : List Stmt) (flown : AreFlight old.public (count_of old s) stmts) (words left : ℕ → ℕ) (out : E) where
  abbrev m : ℕ
  m = count_of old s

  abbrev p : Public
  p = old.public

  abbrev seens : List Seen
  seens = map (seen_first (is_late (count_of old s)) old.public) stmts

  abbrev new : Engine R
  new = engine_behind old old.vault old.room true

  none_since : asked_since s s1 ≡ 0
  none_since = let same = ap length rests.asked in omega (arith, same)

  none_asked : drop (length s.asked) s1.asked ≡ []
  none_asked = ap (drop (length s.asked)) rests.asked ∙ drop_all s.asked

  own_none : (k i : ℕ) → k ≡ 0 → asked_by p words stmts seens k i ≡ 0
  own_none k i is = ap (λ (j : ℕ). asked_by p words stmts seens j i) is

  flies_at : (i : ℕ) (stmt : Stmt) → slice_get stmts i ≡ Some stmt → Flies p m stmt
  flies_at = flies_in old.public (count_of old s) stmts flown

  seen_at : (i : ℕ) (stmt : Stmt) (seen : Seen) → slice_get stmts i ≡ Some stmt → slice_get seens i ≡ Some seen → seen_if (refusal_now p m stmt) ≡ seen
  seen_at i stmt seen there is = same_Some _ _ (sym (map_get (seen_first (is_late (count_of old s)) old.public) stmts i stmt there) ∙ is)

  flown_at : (i : ℕ) (stmt : Stmt) (seen : Seen) → slice_get stmts i ≡ Some stmt → slice_get seens i ≡ Some seen
      → IsFlown (in_flight stmts p) m (asked_by p words stmts seens (asked_since s s1) i) stmt seen None
  flown_at i stmt seen there is =
      subst (λ (k : ℕ). IsFlown (in_flight stmts p) m k stmt seen None) (sym (own_none (asked_since s s1) i none_since))
      (subst (λ (x : Seen). IsFlown (in_flight stmts p) m 0 stmt x None) (seen_at i stmt seen there is) (stands_first m (length stmts) p stmt (flies_at i stmt there) (refusal_now p m stmt) refl))

  -- ---- by its meaning
  module _ (tables : Tables) (reads : ReadsTrueUntil state old s new s1 tables) (stmt : Stmt) (flies : Flies old.public (count_of old s) stmt) (d : Draws) where
    held : HoldNow (in_flight stmts old.public) old.indexes.items tables (world_of state old s)
    held = record {
      tells = reads.tells;
      held = reads.held.held;
      in_place = reads.held.in_place;
      nolie = sym rests.lie ∙ unfit_none (world_of state new s1) (calm_start state old s s1 agrees rests reads.calm) reads.unfit;
    }

    counts_some : (select : SelectRows) → stmt ≡ RowsStmt select → refusal_now p m stmt ≡ None → 1 ≤ count_end (in_flight stmts p) (rows_skeleton select)
    counts_some select is free =
        let free_rows : refusal_now p m (RowsStmt select) ≡ None = sym (ap (refusal_now p m) is) ∙ free in
        let plain : is_access p (rows_skeleton select) ≡ false = sym (ap (λ (x : Stmt). is_access p (skeleton x)) is) ∙ flies.flat free in
        let one = from_one select.source select.list (subst (λ (x : Stmt). SelectsFromOne (skeleton x)) is flies.selects) in
        let there = is_there (has_table one.0 (headings_of p.tables))
        (sym (ap (λ (source : Source). list_any (λ (name : List ℕ). not (has_table name (headings_of p.tables))) (source_tables source)) one.1)
        ∙ (allowed (is_late m) (limits_of p) (headings_of p.tables) (RowsStmt select) free_rows).tables) in
        let t = named_in one.0 p.tables there in
        let least = (agrees.tables.each t.0 t.1.0 t.1.1.get).heading.stored.least in
        subst (λ (k : ℕ). 1 ≤ k) (sym (count_of_table (in_flight stmts p) t.0 t.1.0 one.0 select agrees.tables.names t.1.1.get t.1.1.named one.1 plain))
        (subst (λ (k : ℕ). 1 ≤ Rattle.std.specs.Int.div_ceil k p.pack) (capacity_of (in_flight stmts p) t.0 t.1.0 one.0 select agrees.tables.names t.1.1.get t.1.1.named one.1 plain)
        (some_of t.1.0.heading.capacity p.pack agrees.settings.pack_least least))

    starts_held : (x : Stmt) → stmt ≡ x → refusal_now p m stmt ≡ None → ended Whole ≡ record (cut_at false 0 (in_flight stmts p) (skeleton x) (seen_started (in_flight stmts p) tables x)) { end = Whole }
    starts_held (RowsStmt select) is free =
        let alone = shown_alone (length stmts) p p.pad _ _ in
        held_nothing (in_flight stmts p) (rows_skeleton select) (seen_started (in_flight stmts p) tables (RowsStmt select)) alone.0 alone.1 (counts_some select is free)
    starts_held (TotalsStmt select) is free = held_plain (in_flight stmts p) (skeleton (TotalsStmt select))
    starts_held other is free = absurd (subst (λ (x : Stmt). SelectsFromOne (skeleton x)) is flies.selects)

    meant_first : (o : Option Refusal) → refusal_now p m stmt ≡ o → IsMeant d (in_flight stmts p) m 0 0 tables stmt (seen_if o) None
    meant_first None is =
        starts_held stmt refl is
        ∙ ap (λ (x : Seen). record (cut_at false 0 (in_flight stmts p) (skeleton stmt) x) { end = Whole })
        (sym (started_seen (in_flight stmts p) m stmt (same m (length stmts) p stmt flies ∙ is) tables d old.indexes.items (world_of state old s) (flies.flat is) held.held))
    meant_first (Some why) is = sym (meant_refused (in_flight stmts p) m stmt why (same m (length stmts) p stmt flies ∙ is) old.indexes.items tables (world_of state old s) held d)

  meant_at : (tables : Tables) (d : Draws) → ReadsTrueUntil state old s new s1 tables → (i : ℕ) (stmt : Stmt) (seen : Seen) → slice_get stmts i ≡ Some stmt → slice_get seens i ≡ Some seen
      → IsMeant d (in_flight stmts p) m (asked_by p words stmts seens (asked_since s s1) i) (asked_by p words stmts seens (asked_since s s1) i) tables stmt seen None
  meant_at tables d reads i stmt seen there is =
      subst (λ (k : ℕ). IsMeant d (in_flight stmts p) m k k tables stmt seen None) (sym (own_none (asked_since s s1) i none_since))
      (subst (λ (x : Seen). IsMeant d (in_flight stmts p) m 0 0 tables stmt x None) (seen_at i stmt seen there is)
      (meant_first tables reads stmt (flies_at i stmt there) d (refusal_now p m stmt) refl))

  -- ---- the whole of it
  nothing_asked : {T : Type 0} → RanInTurns {T = T} state words (served_as stmts seens) (Err Stops.NoMemory) old s new s1
  nothing_asked {T} = record {
    asked = rests.asked ∙ sym (append-nil s.asked) ∙ ap (λ (k : ℕ). s.asked ++ take k (merge p (served_as stmts seens) words)) (sym none_since);
    later = later_rests s s1 rests;
    keys = refl;
    start = refl;
    from_closing = refl;
    replaced = refl;
    seen = refl;
    indexes = refl;
    drawn = λ d of. record { draw = of.draw; next = of.next };
    room = agrees.room;
    opened = subst (λ (l : List Access). Rattle.ob_select.specs.Opening.Opens l old.room.high old.room.high) (sym none_asked) (opens_none old.room.high);
    untouched = subst (λ (n : ℕ). Apart (λ q. n ≤ q) (world_of state old s) (world_of state old s1)) (sym agrees.next) (went_rests _ s s1 rests (λ r. old.vault.next ≤ r) agrees.ready).lasts.apart;
    goes_on = refl;
  }

  stops_first : StopsFlight state grew cut closed parted words stmts seens [] Stops.NoMemory old s new s1 out out
  stops_first =
      let first = get_first stmts (let some = flown.some in omega (arith, some)) in
      record {
        between = out;
        took = refl;
        stmt = first.0;
        seen = seen_first (is_late (count_of old s)) old.public first.0;
        next = first.1;
        shown = map_get (seen_first (is_late (count_of old s)) old.public) stmts 0 first.0 first.1;
        events = [];
        ends = inl (inl (starts out));
        told = λ tables reads. partly_none _ _;
        memory = λ none. inl (inl none_asked);
      }

  pub flight_unasked : {T : Type 0} → RanFlight {T = T} state grew cut closed parted faults words left stmts (map (seen_first (is_late (count_of old s)) old.public) stmts) (Err Stops.NoMemory) old s
      (engine_behind old old.vault old.room true) s1 out out
  flight_unasked {T} = record {
    long = length-map stmts (seen_first (is_late (count_of old s)) old.public);
    ran = nothing_asked;
    rest = tt;
    ended = [];
    all = tt;
    each = flown_at;
    emits = λ i stmt one there is. absurd (cc is);
    answered = tt;
    stopped = stops_first;
    turn = stops_unturned p (served_as stmts seens) words (asked_since s s1) none_since;
    sink = refl;
    cause = calm_start state old s s1 agrees rests;
    failures =
        let none = none_cut (is_late (count_of old s)) old.public stmts in
        let same = rests.faults in
        record { least = omega (arith, none, same); none = λ is. same };
    seals = keeps_rests state old s s1 rests new refl;
    means = record {
      told = meant_at;
      emitted = λ tables reads i stmt one there is. absurd (cc is);
      held = λ tables reads. tt;
      honest = λ tables reads. refl;
      begun = λ tables d reads lie is. absurd (let none = reads.nolie in let same = rests.lie in cc (none, same, is));
      earlier = λ i n stmt seen one there shown has within. absurd (cc has);
      asks = λ n less. absurd (let same = ap length rests.asked in omega (arith, same, less));
    };
  }
