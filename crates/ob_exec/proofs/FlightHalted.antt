-- What was emitted until a flight was stopped, and where it wanted memory.
use Rattle.ob_exec.proofs.Words.{Access, accesses_in, Agrees, AllMayFly, answer_labels, ap, append_assoc, AreSteady, arith, asked_by, asked_since, at, Untampered, ChangesNothing, Closed, count_of, done_of, drop, EmitErr, Emits, Emitted, EndedWithin, Engine, engine_behind, Err, Event, events_at, false, halt_of, HasHalted, in_flight, inl, inr, is_refused, IsFree, IsMeant, IsTrue, Kind, Lasts, length, length-map, List, map, Moment, None, none_before, OpErr, Option, Outcome, Partly, Progress, Public, RanFlight, ReadsTrue, ReadsTrueUntil, refl, RevState, RoomState, script, Seen, Served, SinkCause, Skeleton, skeleton, slice_get, Some, Stmt, StoreState, subst, sym, Tables, taker_of, true, Vault, verdict, whole_script, World, world_of, ℕ, [], ◌++◌, ◌+◌, ◌∙◌, ◌∷◌, ◌≡◌, ◌≤◌, ◌⊎◌}
use Rattle.std.specs.Prelude.{option_map}
use Rattle.std.proofs.lemmas.Option.{slice_get_within}
use Rattle.ob_base.specs.declared.emit.EmitErr.TheVariants as EmitErrs
use Rattle.ob_flat.specs.Flats.{Accepts}
use Rattle.ob_flat.specs.declared.fault.OpErr.TheVariants as OpErrs
use Rattle.ob_inflight.specs.Answers.{EndsBy, error_of}
use Rattle.ob_inflight.specs.Closing.{RisesBy, outcome_at}
use Rattle.ob_inflight.specs.FlightOutcome as FlightOutcome
use Rattle.ob_inflight.specs.FlightOutcome.{StopsInClosing, StopsInFinish, StopsInStep}
use Rattle.ob_inflight.specs.Kinds.{moment, share_at}
use Rattle.ob_inflight.specs.Progress.{KeepsCourse}
use Rattle.ob_select.specs.Memory.{AtEmission, AtMake, AtResult, ends_with_make}
use Rattle.ob_exec.specs.InFlight.{EndsAs, EndsMeant, IsFlown, served_as}
use Rattle.ob_exec.specs.RanFlight.{AtEmitter, BeforeMake, EndsSo, FlightCause, FlightMeans, InEnd, InTurn, MeantThen, RanInTurns, StopsClosing, StopsFlight, asked_next, cut_off}
use Rattle.ob_exec.proofs.FlightBegun.{begins_meant}
use Rattle.ob_exec.proofs.FlightEarlier.{asks_meant, meant_then}
use Rattle.ob_exec.proofs.FlightEnd.{rises_from}
use Rattle.ob_exec.proofs.FlightFrames.{apart_behind, calm_start, draws_behind, hold_now, lasts_all, opens_behind, sealed_behind}
use Rattle.ob_exec.proofs.FlightLists.{cuts_same, events_next, get_mapped, get_other, get_within, map_get, outcome_next, past_ended}
use Rattle.ob_exec.proofs.FlightRuns.{Boards, ServesOne, all_now, emits_now, emitted_now, may_now, partly_now, public_is, served_now, set_kept, steady_now, turned_now}
use Rattle.ob_exec.proofs.FlightStage.{AsksMake, HoldNow, IsSet, IsStage, LacksHere, closed_of, more_asked, whole_of}
use Rattle.ob_exec.proofs.FlightStopped.{calm_none, cause_behind, cause_quiet, drop_asked, each_at, emitter_never, ends_closing, ends_finishing, ends_make, ends_printing, ends_quiet, hold, hold_by, hold_last, long, meant_at, memory_is, none_ended, not_tampered, prints_or, serve, sink_by, statement}
use Rattle.ob_exec.proofs.FlightStops.{asked_first, asked_last, asked_most, asked_of, asked_place, in_end, in_turn, next_one_asks, same_seen, stops_turn}

module _ {R E F : Type 0} (state : R → RevState) (grew cut : E → E → List Event → Type 0) (closed parted : E → E → ℕ → Outcome → Type 0) (faults : E → ℕ)
    (k : Kind F) (old : Engine R) (s s1 : StoreState) (agrees : Agrees state old s) (rests : ChangesNothing s s1)
    (stage : IsStage k (count_of old s)) (steady_of : (p : Public) (flown : List Served) → AllMayFly flown → AreSteady p flown)
    (stmts : List Stmt) (words left : ℕ → ℕ) (share : ℕ) (e : OpErr) (flyers fs : List F) (shares kept : List (List ℕ))
    (v : Vault R) (room : RoomState) (t : StoreState) (free : IsFree old.public room)
    (boards : Boards k (count_of old s) old.public stmts (record { flyers = flyers; kept = shares; world = world_of state old s1 }))
    (out_old out_new : E)
    (st : FlightOutcome.StopsFlight k (taker_of grew cut closed parted) words share e (record { flyers = flyers; kept = shares; world = world_of state old s1 }) (record { flyers = fs; kept = kept; world = at state v t }) out_old out_new) where
  abbrev m : ℕ
  m = count_of old s

  abbrev p : Public
  p = in_flight stmts old.public

  abbrev start : Moment F
  start = record { flyers = flyers; kept = shares; world = world_of state old s1 }

  abbrev now : Moment F
  now = record { flyers = fs; kept = kept; world = at state v t }

  abbrev seens : List Seen
  seens = map (λ (f : F). (k.progress f).served.seen) st.last.flyers

  abbrev asked : ℕ → ℕ
  asked i = asked_by old.public words stmts seens (asked_since s t) i

  abbrev asks : Option (ℕ × Access)
  asks = asked_next old.public words stmts seens (asked_since s t)

  abbrev new : Engine R
  new = engine_behind old v room true

  abbrev shown : F → Seen
  shown f = (k.progress f).served.seen

  serve_at : (i : ℕ) (f : F) (stmt : Stmt) → slice_get st.last.flyers i ≡ Some f → slice_get stmts i ≡ Some stmt → ServesOne k m p stmt f
  serve_at = serve state grew cut closed parted faults k old s s1 agrees rests stage steady_of stmts words left share e flyers fs shares kept v room t free boards out_old out_new st

  hold_at : (i : ℕ) (f : F) → slice_get st.last.flyers i ≡ Some f → k.Holds f (share_at share i st.last.kept) (events_at st.ended st.current i) st.last.world
  hold_at = hold state grew cut closed parted faults k old s s1 agrees rests stage steady_of stmts words left share e flyers fs shares kept v room t free boards out_old out_new st

  held : (tables : Tables) → ReadsTrueUntil state old s new t tables → HoldNow old.public old.indexes.items tables st.last.world
  held = hold_last state grew cut closed parted faults k old s s1 agrees rests stage steady_of stmts words left share e flyers fs shares kept v room t free boards out_old out_new st

  held_by : (f : F) (stmt : Stmt) (tables : Tables) (w : World) → ServesOne k m p stmt f → HoldNow old.public old.indexes.items tables w → HoldNow (k.progress f).public old.indexes.items tables w
  held_by = hold_by state grew cut closed parted faults k old s s1 agrees rests stage steady_of stmts words left share e flyers fs shares kept v room t free boards out_old out_new st

  all_long : length st.last.flyers ≡ length stmts
  all_long = long state grew cut closed parted faults k old s s1 agrees rests stage steady_of stmts words left share e flyers fs shares kept v room t free boards out_old out_new st

  statement_of : (i : ℕ) (f : F) → slice_get st.last.flyers i ≡ Some f → (stmt : Stmt) × (slice_get stmts i ≡ Some stmt)
  statement_of = statement state grew cut closed parted faults k old s s1 agrees rests stage steady_of stmts words left share e flyers fs shares kept v room t free boards out_old out_new st

  place_asked : (f : F) → slice_get st.last.flyers st.place ≡ Some f → asked st.place ≡ (k.progress f).asked + more_asked st.last.world (at state v t)
  place_asked = asked_place state grew cut closed parted k old s s1 rests stage steady_of stmts words share e flyers shares now boards out_old out_new st

  -- ---- want of memory
  -- one is seen and answered so where the stop comes
  abbrev So : Stmt → Seen → List Event → Outcome → Type 0
  So stmt seen events = EndsSo state stmts stmt seen (asked_by old.public words stmts (map (λ (f : F). (k.progress f).served.seen) st.last.flyers) (asked_since s t) (length st.ended)) events old s (engine_behind old v room true) t

  -- whose turn it is
  abbrev Turned : ℕ → Type 0
  Turned place = InTurn old.public words stmts (map (λ (f : F). (k.progress f).served.seen) st.last.flyers) (asked_since s t) place

  abbrev Ended : ℕ → Type 0
  Ended place = InEnd old.public words stmts (map (λ (f : F). (k.progress f).served.seen) st.last.flyers) (asked_since s t) place

  -- one that has nothing left to ask has asked all
  whole_at : (f : F) (stmt : Stmt) → slice_get st.last.flyers st.place ≡ Some f → slice_get stmts st.place ≡ Some stmt → (k.progress f).over ≡ true
      → (k.progress f).asked ≡ length (script p (skeleton stmt) (shown f))
  whole_at f stmt at there over =
      let one = serve_at st.place f stmt at there in
      all_now k m stage steady_of old.public stmts words share start boards st.turn st.public st.ended st.current st.last st.aloft st.place f at 0
      (stage.over f _ _ _ (hold_at st.place f at) over 0)
      ∙ ap (λ (sk : Skeleton). length (script p sk (shown f))) (stage.outline f (k.progress f).served (stage.served f _ _ _ (hold_at st.place f at)) ∙ ap skeleton one.is)

  -- at a make, or before a result's, or the emitter's
  abbrev Wanted : (place : ℕ) (stmt : Stmt) (seen : Seen) (events : List Event) → (between : E) → Type 0
  Wanted place stmt seen events between =
      AtMake (drop (length s.asked) t.asked) ⊎ BeforeMake p stmts seens asked asks st.ended ⊎ AtEmitter grew cut parted (So stmt seen events) (Turned place) (Ended place) p stmt seen place (asked place) events between out_new

  since_asked : (a : Access) → t.asked ≡ st.last.world.store.asked ++ a ∷ [] → drop (length s.asked) t.asked ≡ accesses_in st.aloft.turned.log ++ a ∷ []
  since_asked a is =
      ap (drop (length s.asked)) (is ∙ ap (λ (l : List Access). l ++ a ∷ []) (asked_last state grew cut closed parted k old s s1 rests stage steady_of stmts words share e flyers shares now boards out_old out_new st)
      ∙ append_assoc s.asked (accesses_in st.aloft.turned.log) (a ∷ []))
      ∙ drop_asked s.asked (accesses_in st.aloft.turned.log ++ a ∷ [])

  at_make : AsksMake st.last.world (at state v t) → AtMake (drop (length s.asked) t.asked)
  at_make make =
      inr (subst (λ (l : List Access). IsTrue (ends_with_make l)) (sym (since_asked make.access make.asked)) (ends_make (accesses_in st.aloft.turned.log) make.access make.make))

  not_ended : (f : F) → slice_get st.last.flyers st.place ≡ Some f → (k.progress f).outcome ≡ None → slice_get st.ended st.place ≡ None
  not_ended f at going = none_mapped (slice_get st.ended st.place) (sym (st.aloft.stand.outcome st.place f at) ∙ going)
    where
      none_mapped : (o : Option Closed) → option_map (λ (one : Closed). one.outcome) o ≡ None → o ≡ None
      none_mapped None is = refl
      none_mapped (Some one) is = absurd (cc is)

  -- where it is yet to ask, its turn is an access
  abbrev Turn : F → Type 0
  Turn f = (k.progress f).over ≡ false → (a : Access) × (st.act ≡ Some a)

  next_asked : (a : Access) → st.act ≡ Some a → t.asked ≡ st.last.world.store.asked → asks ≡ Some (st.place, a)
  next_asked = next_one_asks state grew cut closed parted k old s s1 rests stage steady_of stmts words share e flyers shares now boards out_old out_new st

  before_make : (f : F) (stmt : Stmt) → slice_get st.last.flyers st.place ≡ Some f → slice_get stmts st.place ≡ Some stmt → (k.progress f).outcome ≡ None
      → (a : Access) × (st.act ≡ Some a) → t.asked ≡ st.last.world.store.asked
      → AtResult (k.progress f).public (k.progress f).stmt (shown f) (drop (k.progress f).asked (whole_of (k.progress f))) → BeforeMake p stmts seens asked asks st.ended
  before_make f stmt at there going turn same result =
      let one = serve_at st.place f stmt at there in
      let n : (k.progress f).asked ≡ asked st.place = let a = place_asked f at in let b = ap length same in omega (arith, a, b) in
      record {
        place = st.place;
        access = turn.0;
        turn = next_asked turn.0 turn.1 same;
        stmt = stmt;
        seen = shown f;
        get = there;
        shown = map_get (λ (f : F). (k.progress f).served.seen) st.last.flyers st.place f at;
        going = not_ended f at going;
        makes = subst (λ (x : ℕ). AtResult p stmt (shown f) (drop x (whole_script p (skeleton stmt) (shown f)))) n
            (subst (λ (x : Public). AtResult x stmt (shown f) (drop (k.progress f).asked (whole_script x (skeleton stmt) (shown f)))) one.public
            (subst (λ (x : Stmt). AtResult (k.progress f).public x (shown f) (drop (k.progress f).asked (whole_script (k.progress f).public (skeleton x) (shown f)))) one.is result));
      }

  -- the one that gave up prints, and it is the emitter's
  wanted : (f : F) (stmt : Stmt) (events : List Event) (between : E) → slice_get st.last.flyers st.place ≡ Some f → slice_get stmts st.place ≡ Some stmt → (k.progress f).outcome ≡ None
      → Turn f → (Turned st.place ⊎ (Ended st.place × (asked st.place ≡ length (script p (skeleton stmt) (shown f))))) → HasHalted cut between out_new → LacksHere (k.progress f) st.last.world (at state v t) → Wanted st.place stmt (shown f) events between
  wanted f stmt events between at there going turn its halts (inl make) = inl (at_make make)
  wanted f stmt events between at there going turn its halts (inr (inl (lacks, same, result))) = inr (inl (before_make f stmt at there going (turn lacks) same result))
  wanted f stmt events between here there going turn its halts (inr (inr (prints, emission))) =
      let one = serve_at st.place f stmt here there in
      let n : (k.progress f).asked + more_asked st.last.world (at state v t) ≡ asked st.place = sym (place_asked f here) in
      inr (inr (inl (
        its,
        subst (λ (x : ℕ). AtEmission p stmt (shown f) (drop x (whole_script p (skeleton stmt) (shown f)))) n
            (subst (λ (x : Public). AtEmission x stmt (shown f) (drop ((k.progress f).asked + more_asked st.last.world (at state v t)) (whole_script x (skeleton stmt) (shown f)))) one.public
            (subst (λ (x : Stmt). AtEmission (k.progress f).public x (shown f) (drop ((k.progress f).asked + more_asked st.last.world (at state v t)) (whole_script (k.progress f).public (skeleton x) (shown f)))) one.is emission)),
        halts,
      )))

  -- it doesn't print
  wanted_quiet : (f : F) (stmt other : Stmt) (seen : Seen) (place : ℕ) (events : List Event) (between : E) → slice_get st.last.flyers st.place ≡ Some f → slice_get stmts st.place ≡ Some stmt
      → (k.progress f).outcome ≡ None → (k.progress f).prints ≡ false → Turn f → LacksHere (k.progress f) st.last.world (at state v t) → Wanted place other seen events between
  wanted_quiet f stmt other seen place events between at there going quiet turn (inl make) = inl (at_make make)
  wanted_quiet f stmt other seen place events between at there going quiet turn (inr (inl (lacks, same, result))) = inr (inl (before_make f stmt at there going (turn lacks) same result))
  wanted_quiet f stmt other seen place events between at there going quiet turn (inr (inr (prints, emission))) = absurd (cc (quiet, prints))

  -- ---- what was emitted
  -- the first that has not ended
  next_one : (i : ℕ) (f : F) → slice_get st.last.flyers i ≡ Some f → (k.progress f).outcome ≡ None → (g : F) × (slice_get st.last.flyers (length st.ended) ≡ Some g)
  next_one i f at going =
      let past = past_ended st.ended i (sym (st.aloft.stand.outcome i f at) ∙ going) in
      let within = slice_get_within st.last.flyers i f at in
      get_within st.last.flyers (length st.ended) (omega (arith, past, within))

  -- the first part of its answer, by what it gave up with
  partly_halted : (f : F) (stmt : Stmt) (part : List Event) → slice_get st.last.flyers st.place ≡ Some f → slice_get stmts st.place ≡ Some stmt → st.place ≡ length st.ended
      → k.Halts f (events_at st.ended st.current st.place) part e st.last.world (at state v t)
      → (tables : Tables) → ReadsTrueUntil state old s new t tables → Partly (answer_labels stmt old.public) (verdict p m tables stmt) (st.current ++ part)
  partly_halted f stmt part here there first halts tables reads =
      let one = serve_at st.place f stmt here there in
      let emitted : events_at st.ended st.current st.place ≡ st.current = ap (events_at st.ended st.current) first ∙ events_next st.ended st.current in
      subst (λ (es : List Event). Partly (answer_labels stmt old.public) (verdict p m tables stmt) (es ++ part)) emitted
      (subst (λ (x : Public). Partly (answer_labels stmt x) (verdict x m tables stmt) (events_at st.ended st.current st.place ++ part)) one.public
      (subst (λ (x : Stmt). Partly (answer_labels x (k.progress f).public) (verdict (k.progress f).public m tables x) (events_at st.ended st.current st.place ++ part)) one.is
      (stage.halted f _ _ part e st.last.world (at state v t) (hold_at st.place f here) halts one.set old.indexes.items tables (held_by f stmt tables st.last.world one (held tables reads)) reads.unfit)))

  abbrev Halted : Type 0
  Halted = StopsFlight state grew cut closed parted words stmts seens st.ended (halt_of e) old s new t out_old out_new

  its_step : StopsInStep k (taker_of grew cut closed parted) e st.ended st.current st.place st.act st.last now st.emitted.between st.out_last out_new → Turned st.place
  its_step step = in_turn state grew cut closed parted k old s s1 rests stage steady_of stmts words share e flyers shares now boards out_old out_new st step

  its_end : (f : F) → slice_get st.last.flyers st.place ≡ Some f → st.act ≡ None → st.place ≡ length st.ended → Ended st.place
  its_end f at none first = in_end state grew cut closed parted k old s s1 rests stage steady_of stmts words share e flyers shares now boards out_old out_new st none first f at

  -- a step that prints
  halts_printing : (step : StopsInStep k (taker_of grew cut closed parted) e st.ended st.current st.place st.act st.last now st.emitted.between st.out_last out_new)
      → (k.progress step.before).prints ≡ true → Halted
  halts_printing step prints =
      let f = step.before in
      let first = step.first prints in
      let there = statement_of st.place f step.at in
      let ends = step.ends prints in
      record {
        between = st.emitted.between;
        took = st.emitted.took;
        stmt = there.0;
        seen = shown f;
        next = ap (slice_get stmts) (sym first) ∙ there.1;
        shown = ap (slice_get seens) (sym first) ∙ map_get (λ (f : F). (k.progress f).served.seen) st.last.flyers st.place f step.at;
        events = st.current ++ step.part;
        ends = ends_printing grew cut parted (So there.0 (shown f) (st.current ++ step.part)) (length st.ended) st.emitted.between out_new e (st.current ++ step.part) step.stops.never ends;
        told = partly_halted f there.0 step.part step.at there.1 first step.halts;
        memory = λ none.
            let wants = memory_is e none in
            subst (λ (n : ℕ). Wanted n there.0 (shown f) (st.current ++ step.part) st.emitted.between) first
            (wanted f there.0 (st.current ++ step.part) st.emitted.between step.at there.1 step.going (λ lacks. (step.stops.access, step.asks)) (inl (its_step step))
            (record { events = st.current ++ step.part; ends = subst (λ (x : OpErr). EndsBy grew cut x st.emitted.between out_new (st.current ++ step.part)) wants ends })
            (stage.memory f _ _ step.part st.last.world (at state v t) (hold_at st.place f step.at)
            (subst (λ (x : OpErr). k.Halts f (events_at st.ended st.current st.place) step.part x st.last.world (at state v t)) wants step.halts)
            (serve_at st.place f there.0 step.at there.1).set step.going));
      }

  -- one that doesn't
  halts_quietly : (step : StopsInStep k (taker_of grew cut closed parted) e st.ended st.current st.place st.act st.last now st.emitted.between st.out_last out_new)
      → (k.progress step.before).prints ≡ false → Halted
  halts_quietly step quiet =
      let f = step.before in
      let there = statement_of st.place f step.at in
      let g = next_one st.place f step.at step.going in
      let other = statement_of (length st.ended) g.0 g.1 in
      let same = (step.quiet quiet).1 in
      record {
        between = st.emitted.between;
        took = st.emitted.took;
        stmt = other.0;
        seen = shown g.0;
        next = other.1;
        shown = map_get (λ (f : F). (k.progress f).served.seen) st.last.flyers (length st.ended) g.0 g.1;
        events = st.current;
        ends = ends_quiet grew cut parted (So other.0 (shown g.0) st.current) (length st.ended) st.emitted.between out_new e st.current step.stops.never
            (λ sink. let prints = step.stops.emits sink in cc (quiet, prints))
            (subst (λ (x : E). grew st.emitted.between x st.current) (sym same) st.emitted.now);
        told = λ tables reads.
            subst (λ (es : List Event). Partly (answer_labels other.0 old.public) (verdict p m tables other.0) es) (events_next st.ended st.current)
            (partly_now k m stage steady_of old.public stmts words share start boards st.turn st.public st.ended st.current st.last st.aloft old.indexes.items tables (held tables reads) (length st.ended) g.0 other.0 g.1 other.1);
        memory = λ none.
            let wants = memory_is e none in
            wanted_quiet f there.0 other.0 (shown g.0) (length st.ended) st.current st.emitted.between step.at there.1 step.going quiet (λ lacks. (step.stops.access, step.asks))
            (stage.memory f _ _ step.part st.last.world (at state v t) (hold_at st.place f step.at)
            (subst (λ (x : OpErr). k.Halts f (events_at st.ended st.current st.place) step.part x st.last.world (at state v t)) wants step.halts)
            (serve_at st.place f there.0 step.at there.1).set step.going);
      }

  -- what is left of an answer
  halts_finishing : (fin : StopsInFinish k (taker_of grew cut closed parted) e st.ended st.current st.place st.act st.last now st.emitted.between out_new) → Halted
  halts_finishing fin =
      let f = fin.before in
      let there = statement_of st.place f fin.at in
      let halts : k.Halts f (events_at st.ended st.current st.place) fin.part e st.last.world (at state v t) =
      subst (λ (es : List Event). k.Halts f es fin.part e st.last.world (at state v t))
      (sym (ap (events_at st.ended st.current) fin.first ∙ events_next st.ended st.current)) fin.halts in
      record {
        between = st.emitted.between;
        took = st.emitted.took;
        stmt = there.0;
        seen = shown f;
        next = ap (slice_get stmts) (sym fin.first) ∙ there.1;
        shown = ap (slice_get seens) (sym fin.first) ∙ map_get (λ (f : F). (k.progress f).served.seen) st.last.flyers st.place f fin.at;
        events = st.current ++ fin.part;
        ends = subst (λ (x : OpErr). StopsClosing grew cut parted (So there.0 (shown f) (st.current ++ fin.part)) (halt_of x) (length st.ended) (st.current ++ fin.part) st.emitted.between out_new) (sym fin.is)
            (ends_finishing grew cut parted (So there.0 (shown f) (st.current ++ fin.part)) (length st.ended) st.emitted.between out_new fin.error (st.current ++ fin.part) fin.ends);
        told = partly_halted f there.0 fin.part fin.at there.1 fin.first halts;
        memory = λ none.
            let wants = memory_is e none in
            subst (λ (n : ℕ). Wanted n there.0 (shown f) (st.current ++ fin.part) st.emitted.between) fin.first
            (wanted f there.0 (st.current ++ fin.part) st.emitted.between fin.at there.1 (st.aloft.stand.outcome st.place f fin.at ∙ ap (outcome_at st.ended) fin.first ∙ outcome_next st.ended)
            (λ lacks. let over = fin.over in absurd (cc (over, lacks)))
            (inr (
              its_end f fin.at fin.none fin.first,
              (let all = place_asked f fin.at in let same = ap (λ (x : World). length x.store.asked) fin.world in omega (arith, all, same)) ∙ whole_at f there.0 fin.at there.1 fin.over,
            ))
            (record { events = st.current ++ fin.part; ends = fin.ends })
            (stage.memory f _ _ fin.part st.last.world (at state v t) (hold_at st.place f fin.at)
            (subst (λ (x : OpErr). k.Halts f (events_at st.ended st.current st.place) fin.part x st.last.world (at state v t)) wants halts)
            (serve_at st.place f there.0 fin.at there.1).set
            (st.aloft.stand.outcome st.place f fin.at ∙ ap (outcome_at st.ended) fin.first ∙ outcome_next st.ended)));
      }

  -- it is seen and answered as one that nothing stopped
  closing_so : (clo : StopsInClosing k (taker_of grew cut closed parted) share e st.ended st.place st.act st.last now st.emitted.between out_new) (stmt : Stmt) → slice_get stmts st.place ≡ Some stmt
      → So stmt (shown clo.before) clo.events clo.outcome
  closing_so clo stmt there =
      let f = clo.before in
      let one = serve_at st.place f stmt clo.at there in
      let answered = clo.answered in
      let course : KeepsCourse (k.progress f) (k.progress clo.after) = record {
        stmt = ap (λ (x : Progress). x.stmt) answered;
        flat = ap (λ (x : Progress). x.flat) answered;
        refusal = ap (λ (x : Progress). x.refusal) answered;
        public = ap (λ (x : Progress). x.public) answered;
      } in
      let set : IsSet m (k.progress clo.after) = set_kept m (k.progress f) (k.progress clo.after) course one.set in
      let after : ServesOne k m p stmt clo.after = record { is = course.stmt ∙ one.is; public = course.public ∙ one.public; set = set; selects = one.selects } in
      let some : (k.progress clo.after).outcome ≡ Some clo.outcome = ap (λ (x : Progress). x.outcome) answered in
      let long : (k.progress f).asked ≡ asked (length st.ended) =
      (let all = place_asked f clo.at in let none = ap (λ (x : World). length x.store.asked) clo.world in omega (arith, all, none)) ∙ ap asked clo.first in
      record {
        ends =
            subst (λ (n : ℕ). EndsAs p m n stmt (shown f) clo.outcome) long
            (subst (λ (x : Public). EndsAs x m (k.progress f).asked stmt (shown f) clo.outcome) one.public
            (subst (λ (x : Stmt). EndsAs (k.progress f).public m (k.progress f).asked x (shown f) clo.outcome) one.is
            (subst (λ (x : Progress). IsFlown x.public m x.asked x.stmt x.served.seen (closed_of x.outcome clo.events)) answered (stage.stands clo.after _ _ _ clo.holds set))));
        whole =
            sym long ∙ whole_at f stmt clo.at there clo.over;
        emits =
            subst (λ (x : Public). Emits stmt (answer_labels stmt x) clo.outcome clo.events) after.public
            (subst (λ (x : Stmt). Emits x (answer_labels x (k.progress clo.after).public) clo.outcome clo.events) after.is (stage.emits clo.after _ _ _ clo.holds set clo.outcome some));
        told = λ tables d reads.
            let here : HoldNow old.public old.indexes.items tables (at state v t) = subst (λ (w : World). HoldNow old.public old.indexes.items tables w) (sym clo.world) (held tables reads) in
            subst (λ (n : ℕ). EndsMeant d p m n tables stmt (shown f) clo.outcome) long
            (subst (λ (x : Public). EndsMeant d x m (k.progress f).asked tables stmt (shown f) clo.outcome) one.public
            (subst (λ (x : Stmt). EndsMeant d (k.progress f).public m (k.progress f).asked tables x (shown f) clo.outcome) one.is
            (subst (λ (x : Progress). IsMeant d x.public m x.asked x.asked tables x.stmt x.served.seen (closed_of x.outcome clo.events)) answered
            (stage.told clo.after _ _ _ clo.holds set old.indexes.items tables d (held_by clo.after stmt tables (at state v t) after here)))));
        emitted = λ tables reads.
            let here : HoldNow old.public old.indexes.items tables (at state v t) = subst (λ (w : World). HoldNow old.public old.indexes.items tables w) (sym clo.world) (held tables reads) in
            subst (λ (x : Public). Emitted stmt x m tables clo.outcome clo.events) after.public
            (subst (λ (x : Stmt). Emitted x (k.progress clo.after).public m tables clo.outcome clo.events) after.is
            (stage.emitted clo.after _ _ _ clo.holds set old.indexes.items tables (held_by clo.after stmt tables (at state v t) after here) clo.outcome some));
      }

  -- how it was answered
  halts_closing : (clo : StopsInClosing k (taker_of grew cut closed parted) share e st.ended st.place st.act st.last now st.emitted.between out_new) → Halted
  halts_closing clo =
      let f = clo.before in
      let there = statement_of st.place f clo.at in
      let one = serve_at st.place f there.0 clo.at there.1 in
      let answered = clo.answered in
      let course : KeepsCourse (k.progress f) (k.progress clo.after) = record {
        stmt = ap (λ (x : Progress). x.stmt) answered;
        flat = ap (λ (x : Progress). x.flat) answered;
        refusal = ap (λ (x : Progress). x.refusal) answered;
        public = ap (λ (x : Progress). x.public) answered;
      } in
      let after : ServesOne k m p there.0 clo.after = record { is = course.stmt ∙ one.is; public = course.public ∙ one.public; set = set_kept m (k.progress f) (k.progress clo.after) course one.set; selects = one.selects } in
      record {
        between = st.emitted.between;
        took = st.emitted.took;
        stmt = there.0;
        seen = shown f;
        next = ap (slice_get stmts) (sym clo.first) ∙ there.1;
        shown = ap (slice_get seens) (sym clo.first) ∙ map_get (λ (f : F). (k.progress f).served.seen) st.last.flyers st.place f clo.at;
        events = clo.events;
        ends = subst (λ (x : OpErr). StopsClosing grew cut parted (So there.0 (shown f) clo.events) (halt_of x) (length st.ended) clo.events st.emitted.between out_new) (sym clo.is)
            (ends_closing grew cut parted (So there.0 (shown f) clo.events) (length st.ended) st.emitted.between out_new clo.error clo.events clo.took clo.outcome (closing_so clo there.0 there.1) clo.grew
            (subst (λ (n : ℕ). parted clo.took out_new n clo.outcome) clo.first clo.parted));
        told = λ tables reads.
            let here : HoldNow old.public old.indexes.items tables (at state v t) = subst (λ (w : World). HoldNow old.public old.indexes.items tables w) (sym clo.world) (held tables reads) in
            subst (λ (x : Public). Partly (answer_labels there.0 x) (verdict x m tables there.0) clo.events) after.public
            (subst (λ (x : Stmt). Partly (answer_labels x (k.progress clo.after).public) (verdict (k.progress clo.after).public m tables x) clo.events) after.is
            (stage.partly clo.after _ _ _ clo.holds after.set old.indexes.items tables (held_by clo.after there.0 tables (at state v t) after here)));
        memory = λ none. inr (inr (inr (
          subst (λ (n : ℕ). Ended n) clo.first (its_end f clo.at clo.none clo.first),
          record {
            outcome = clo.outcome;
            ends = closing_so clo there.0 there.1;
            between = clo.took;
            took = clo.grew;
            parts = subst (λ (n : ℕ). parted clo.took out_new n clo.outcome) clo.first clo.parted;
          },
        )));
      }

  halted : Halted
  halted = elim st.by [
    | inl step ↦ elim (prints_or (k.progress step.before).prints) [
      | inl prints ↦ halts_printing step prints
      | inr quiet ↦ halts_quietly step quiet
    ]
    | inr (inl fin) ↦ halts_finishing fin
    | inr (inr clo) ↦ halts_closing clo
  ]

  -- ---- the whole of it
  lasts : Lasts (λ q. old.vault.next ≤ q) (world_of state old s) (at state v t)
  lasts = lasts_all state old s s1 agrees rests (at state v t) st.lasts

  until_end : (tables : Tables) → ReadsTrue state old s t tables → ReadsTrueUntil state old s new t tables
  until_end tables reads = record {
    tells = reads.tells;
    held = reads.held;
    calm = calm_none (world_of state old s) (none_before s t lasts.later reads.nolie);
    unfit = record { unfit = λ lie is. absurd (let none = reads.nolie in cc (none, is)) };
  }

  honest_by : (tables : Tables) → ReadsTrue state old s t tables → (q x : ℕ) → e ≡ OpErrs.Tampered q x → ⊥
  honest_by tables reads q x is = elim st.by [
    | inl step ↦
        let there = statement_of st.place step.before step.at in
        let one = serve_at st.place step.before there.0 step.at there.1 in
        stage.honest step.before _ _ step.part q x st.last.world (at state v t) (hold_at st.place step.before step.at)
        (subst (λ (y : OpErr). k.Halts step.before (events_at st.ended st.current st.place) step.part y st.last.world (at state v t)) is step.halts)
        one.set old.indexes.items tables (held_by step.before there.0 tables st.last.world one (held tables (until_end tables reads))) reads.nolie
    | inr (inl fin) ↦ emitter_refuses fin.error q x (sym fin.is ∙ is)
    | inr (inr clo) ↦ emitter_refuses clo.error q x (sym clo.is ∙ is)
  ]
    where
      emitter_refuses : (error : EmitErr) (q x : ℕ) → error_of error ≡ OpErrs.Tampered q x → ⊥
      emitter_refuses EmitErrs.Failed q x is = cc is
      emitter_refuses EmitErrs.NoMemory q x is = cc is

  never_failed : e ≡ OpErrs.Failed → ⊥
  never_failed is = elim st.by [
    | inl step ↦ step.stops.never is
    | inr (inl fin) ↦ emitter_never fin.error (sym fin.is ∙ is)
    | inr (inr clo) ↦ emitter_never clo.error (sym clo.is ∙ is)
  ]

  caused : (T : Type 0) → FlightCause {T = T} (Err (halt_of e)) (world_of state old s) (world_of state new t)
  caused T =
      let calm : Untampered (world_of state old s) → Untampered st.last.world = λ was. st.aloft.rest.calm (calm_start state old s s1 agrees rests was) in
      elim st.by [
        | inl step ↦ cause_behind T e (world_of state old s) st.last.world (at state v t) step.stops.never calm step.stops.cut.cause
        | inr (inl fin) ↦
            subst (λ (w : World). FlightCause {T = T} (Err (halt_of e)) (world_of state old s) w) (sym fin.world)
            (subst (λ (x : OpErr). FlightCause {T = T} (Err (halt_of x)) (world_of state old s) st.last.world) (sym fin.is) (cause_quiet T fin.error (world_of state old s) st.last.world calm))
        | inr (inr clo) ↦
            subst (λ (w : World). FlightCause {T = T} (Err (halt_of e)) (world_of state old s) w) (sym clo.world)
            (subst (λ (x : OpErr). FlightCause {T = T} (Err (halt_of x)) (world_of state old s) st.last.world) (sym clo.is) (cause_quiet T clo.error (world_of state old s) st.last.world calm))
      ]

  in_turns : (T : Type 0) → old.room.high ≤ room.high → 1 ≤ room.high → RanInTurns {T = T} state words (served_as stmts seens) (Err (halt_of e)) old s new t
  in_turns T kept some = record {
    asked = asked_first state grew cut closed parted k old s s1 rests stage steady_of stmts words share e flyers shares now boards out_old out_new st;
    later = lasts.later;
    keys = lasts.keys;
    start = lasts.start;
    from_closing = refl;
    replaced = refl;
    seen = refl;
    indexes = refl;
    drawn = draws_behind state old s s1 agrees rests v room t free st.lasts true;
    room = free;
    opened = opens_behind state old s s1 agrees rests v room t free st.lasts (drop (length s.asked) t.asked) kept some;
    untouched = apart_behind state old s s1 agrees rests v room t free st.lasts;
    goes_on = refl;
  }

  -- as they were before the act that gave up, in the world after it
  abbrev behind : Moment F
  behind = moment st.last.flyers st.last.kept (at state v t)

  by_last : map (λ (f : F). (k.progress f).served) st.last.flyers ≡ served_as stmts (map (λ (f : F). (k.progress f).served.seen) st.last.flyers)
  by_last = served_now k m stage steady_of old.public stmts words share start boards st.turn st.public st.ended st.current st.last st.aloft

  -- one that has ended asked nothing since
  asked_ended : (i : ℕ) (f : F) (one : Closed) → slice_get st.last.flyers i ≡ Some f → slice_get st.ended i ≡ Some one → asked i ≡ (k.progress f).asked
  asked_ended i f one at has = elim (asked_of state grew cut closed parted k old s s1 rests stage steady_of stmts words share e flyers shares now boards out_old out_new st i f at) [
    | inl same ↦ same.asked
    | inr more ↦
        let going : (k.progress f).outcome ≡ None = ap (λ (g : F). (k.progress g).outcome) more.same ∙ more.one.step.going in
        let none = none_ended state grew cut closed parted faults k old s s1 agrees rests stage steady_of stmts words left share e flyers fs shares kept v room t free boards out_old out_new st i f at going in
        absurd (cc (none, has))
  ]

  means_until : (T : Type 0) → FlightMeans {T = T} state words stmts seens asked
      (λ i. asked_by old.public words stmts seens (done_of (is_refused (halt_of e)) (asked_since s t)) i) st.ended (Err (halt_of e)) old s new t
  means_until T = record {
    told = meant_at state grew cut closed parted faults k old s s1 agrees rests stage steady_of stmts words left share e flyers fs shares kept v room t free boards out_old out_new st;
    emitted = λ tables reads i stmt one there is.
        let f = get_other stmts st.last.flyers i stmt all_long there in
        emitted_now k m stage steady_of old.public stmts words share start boards st.turn st.public st.ended st.current st.last st.aloft old.indexes.items tables (held tables reads) i f.0 stmt one f.1 there is;
    held = λ tables reads. tt;
    honest = λ tables reads. not_tampered e (honest_by tables reads);
    begun = λ tables d reads lie is.
        let b = st.begun (rests.lie ∙ reads.nolie) lie is in
        begins_meant k m stage steady_of old.public stmts words share start behind boards st.public b.turn st.ended b.stood old.indexes.items tables d
        (hold_now state old s s1 agrees rests b.stood.last.world b.stood.aloft.rest.lasts tables reads.tells reads.held b.none) lie b.reads s.asked rests.asked;
    earlier = λ i n stmt seen one there shown_there has within.
        let f = get_mapped (λ (f : F). (k.progress f).served.seen) st.last.flyers i seen shown_there in
        let all = may_now k m stage steady_of old.public stmts words share start boards st.turn st.public st.ended st.current st.last st.aloft in
        let there_within : EndedWithin old.public (map (λ (f : F). (k.progress f).served) st.last.flyers) words n i = subst (λ (xs : List Served). EndedWithin old.public xs words n i) (sym by_last) within in
        subst (λ (x : ℕ). MeantThen state stmts x n stmt seen one old s t) (sym (asked_ended i f.0 one f.1 has))
        (subst (λ (x : Seen). MeantThen state stmts (k.progress f.0).asked n stmt x one old s t) f.2
        (meant_then state k old s s1 agrees rests stage steady_of stmts words share flyers shares boards st.public st.turn st.ended behind st.past st.begun all i n there_within f.0 stmt one f.1 there has
        (turned_now k m stage steady_of old.public stmts words share start boards st.turn st.public st.ended st.current st.last st.aloft) (st.aloft.stand.outcome i f.0 f.1)));
    asks = λ n less.
        let all = may_now k m stage steady_of old.public stmts words share start boards st.turn st.public st.ended st.current st.last st.aloft in
        let many = asked_most state grew cut closed parted k old s s1 rests stage steady_of stmts words share e flyers shares now boards out_old out_new st in
        asks_meant state k old s s1 agrees rests stage steady_of stmts words share flyers shares boards st.public st.turn st.ended behind st.past st.begun all
        (steady_now k m stage steady_of old.public stmts words share start boards st.turn st.public st.ended st.current st.last st.aloft) (st.turn + 1) n st.went (omega (arith, less, many)) seens by_last;
  }

  pub flight_halted : (T : Type 0) → SinkCause {T = T} (Err e) (faults out_old) (faults out_new) → old.room.high ≤ room.high → 1 ≤ room.high
      → RanFlight {T = T} state grew cut closed parted faults words left stmts (map (λ (f : F). (k.progress f).served.seen) fs) (Err (halt_of e)) old s (engine_behind old v room true) t out_old out_new
  flight_halted T sink high some =
      subst (λ (xs : List Seen). RanFlight {T = T} state grew cut closed parted faults words left stmts xs (Err (halt_of e)) old s new t out_old out_new)
      (sym (same_seen state grew cut closed parted k old s s1 rests stage steady_of stmts words share e flyers shares now boards out_old out_new st))
      (record {
        long = length-map st.last.flyers (λ (f : F). (k.progress f).served.seen) ∙ all_long;
        ran = in_turns T high some;
        rest = tt;
        ended = st.ended;
        all = tt;
        each = each_at state grew cut closed parted faults k old s s1 agrees rests stage steady_of stmts words left share e flyers fs shares kept v room t free boards out_old out_new st;
        emits = λ i stmt one there is.
            let f = get_other stmts st.last.flyers i stmt all_long there in
            emits_now k m stage steady_of old.public stmts words share start boards st.turn st.public st.ended st.current st.last st.aloft i f.0 stmt one f.1 there is;
        answered = tt;
        stopped = halted;
        turn = stops_turn state grew cut closed parted k old s s1 rests stage steady_of stmts words share e flyers shares now boards out_old out_new st;
        sink = sink_by T e (faults out_old) (faults out_new) never_failed sink;
        cause = caused T;
        failures =
            let rises : RisesBy (cut_off seens) s1.faults st.last.world.store.faults =
            subst (λ (n : ℕ). RisesBy n s1.faults st.last.world.store.faults) (cuts_same k st.last.flyers (λ i f at. stage.failed f _ _ _ (hold_at i f at)))
            (record { least = st.aloft.rest.faults.least; none = st.aloft.rest.faults.none }) in
            rises_from (cut_off seens) s.faults s1.faults t.faults rests.faults (subst (λ (x : ℕ). RisesBy (cut_off seens) s1.faults x) (sym st.faults) rises);
        seals = sealed_behind state old s s1 agrees rests v room t free st.lasts true
            (λ good accepts. st.seals good (λ columns region. subst (λ (n : ℕ). Accepts good n columns region)
            (sym (ap (λ (x : Public). x.pack) (public_is k m stage steady_of old.public stmts words share start boards st.turn st.public st.ended st.current st.last st.aloft))) (accepts columns region)));
        means = means_until T;
      })
