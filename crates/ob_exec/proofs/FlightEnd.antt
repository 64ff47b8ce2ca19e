-- A flight that nothing stopped.
use Rattle.ob_exec.proofs.Words.{Access, accesses_in, Agrees, AllMayFly, ap, AreSteady, arith, asked_by, asked_since, at, Bool, ChangesNothing, count_of, Draws, drop, EndedWithin, Engine, engine_behind, Event, false, in_flight, is_some, IsFree, IsMeant, Kind, Lasts, length, length-append, length-map, List, map, merge, Moment, None, Ok, Option, Outcome, Public, RanFlight, ReadsTrueUntil, refl, RevState, RoomState, Seen, Served, slice_get, Some, Stmt, StoreState, subst, sym, Tables, taker_of, true, unfit_none, Vault, world_of, ℕ, [], ◌++◌, ◌+◌, ◌∙◌, ◌≡◌, ◌≤◌}
use Rattle.ob_inflight.specs.Closing.{RisesBy}
use Rattle.ob_inflight.specs.FlightOutcome.{HasFlown}
use Rattle.ob_script.specs.Flights.{Flight, next_flight, own, turns_of, own_asked}
use Rattle.ob_vault.specs.declared.region.Region.{Region}
use Rattle.ob_exec.specs.InFlight.{IsFlown, served_as}
use Rattle.ob_exec.specs.RanFlight.{FlightMeans, MeantThen, RanInTurns, cut_off}
use Rattle.ob_exec.proofs.FlightBegun.{begins_meant}
use Rattle.ob_exec.proofs.FlightEarlier.{asks_meant, meant_then}
use Rattle.ob_exec.proofs.FlightFrames.{agrees_behind, apart_behind, calm_start, draws_behind, held_behind, hold_now, lasts_all, opens_behind, sealed_behind}
use Rattle.ob_exec.proofs.FlightLists.{cuts_same, get_mapped}
use Rattle.ob_exec.proofs.FlightRuns.{Boards, all_merged, as_many, emits_now, emitted_now, first_now, flown_now, may_now, meant_now, next_now, own_now, served_now, some_ended, steady_now, they_hold, turned_now, turns_now}
use Rattle.ob_exec.proofs.FlightStage.{HoldNow, IsStage}

-- so many accesses more were asked
pub since_long : (s t : StoreState) (more : List Access) → t.asked ≡ s.asked ++ more → asked_since s t ≡ length more
since_long s t more is = let n = ap length is ∙ length-append s.asked more in omega (arith, n)

-- a shape that isn't there
none_or : (o : Option Region) → ((shape : Region) → o ≡ Some shape → ⊥) → o ≡ None
none_or None never = refl
none_or (Some shape) never = absurd (never shape refl)

-- the count of faults has risen so often from a state with as many
pub rises_from : (n a b c : ℕ) → b ≡ a → RisesBy n b c → RisesBy n a c
rises_from n a b c same rises = subst (λ (x : ℕ). RisesBy n x c) same (record { least = rises.least; none = rises.none })

module _ {R E F : Type 0} (state : R → RevState) (grew cut : E → E → List Event → Type 0) (closed parted : E → E → ℕ → Outcome → Type 0) (faults : E → ℕ)
    (k : Kind F) (old : Engine R) (s s1 : StoreState) (agrees : Agrees state old s) (rests : ChangesNothing s s1)
    (stage : IsStage k (count_of old s)) (steady_of : (p : Public) (flown : List Served) → AllMayFly flown → AreSteady p flown)
    (stmts : List Stmt) (words left : ℕ → ℕ) (share : ℕ) (flyers fs : List F) (shares kept : List (List ℕ))
    (v : Vault R) (room : RoomState) (t : StoreState) (free : IsFree old.public room)
    (boards : Boards k (count_of old s) old.public stmts (record { flyers = flyers; kept = shares; world = world_of state old s1 }))
    (out_old out_new : E)
    (h : HasFlown k (taker_of grew cut closed parted) words left share (record { flyers = flyers; kept = shares; world = world_of state old s1 }) (record { flyers = fs; kept = kept; world = at state v t }) out_old out_new) where
  abbrev m : ℕ
  m = count_of old s

  abbrev start : Moment F
  start = record { flyers = flyers; kept = shares; world = world_of state old s1 }

  abbrev now : Moment F
  now = record { flyers = fs; kept = kept; world = at state v t }

  abbrev seens : List Seen
  seens = map (λ (f : F). (k.progress f).served.seen) fs

  abbrev flown : List Served
  flown = served_as stmts seens

  abbrev log : List (ℕ × Access)
  log = h.aloft.turned.log

  since : Lasts (λ q. old.vault.next ≤ q) (world_of state old s1) (at state v t)
  since = h.aloft.rest.lasts

  asked_all : t.asked ≡ s.asked ++ accesses_in log
  asked_all = h.aloft.turned.asked ∙ ap (λ (l : List Access). l ++ accesses_in log) rests.asked

  log_long : asked_since s t ≡ length log
  log_long = since_long s t (accesses_in log) asked_all ∙ length-map log (λ (e : ℕ × Access). e.1)

  own_all : (i : ℕ) (f : F) → slice_get fs i ≡ Some f → asked_by old.public words stmts seens (asked_since s t) i ≡ (k.progress f).asked
  own_all i f at =
      ap (λ (flown : List Served). own_asked old.public flown words (asked_since s t) i) (sym (served_now k m stage steady_of old.public stmts words share start boards h.turn h.public h.ended [] now h.aloft))
      ∙ ap (λ (n : ℕ). own_asked old.public (map (λ (f : F). (k.progress f).served) fs) words n i) log_long
      ∙ ap (λ (l : List (ℕ × Access)). length (own i l)) (sym (first_now k m stage steady_of old.public stmts words share start boards h.turn h.public h.ended [] now h.aloft))
      ∙ own_now k m stage steady_of old.public stmts words share start boards h.turn h.public h.ended [] now h.aloft i f at

  -- no region is left that the flight made
  gone : (r : ℕ) → old.vault.next ≤ r → (at state v t).vault.revs.live r ≡ None
  gone r above = none_or _ (λ shape lives.
      let below = since.ready.below r shape lives in
      let made = h.aloft.rest.made r above below in
      let within = Rattle.std.proofs.lemmas.Option.slice_get_within fs made.place made.flyer made.at in
      let all = h.all in
      let over : is_some (k.progress made.flyer).outcome ≡ true =
      ap is_some (h.aloft.stand.outcome made.place made.flyer made.at) ∙ some_ended h.ended made.place (omega (arith, within, all)) in
      let none = stage.gone made.flyer _ _ _ (they_hold k m stage steady_of old.public stmts words share start boards h.turn h.public h.ended [] now h.aloft made.place made.flyer made.at)
      over r made.made in
      cc (lives, none))

  told_now : (ended : Bool) (tables : Tables) → ReadsTrueUntil state old s (engine_behind old v room ended) t tables → HoldNow old.public old.indexes.items tables (at state v t)
  told_now ended tables reads =
      hold_now state old s s1 agrees rests (at state v t) since tables reads.tells reads.held
      (unfit_none (at state v t) (h.aloft.rest.calm (calm_start state old s s1 agrees rests reads.calm)) reads.unfit)

  abbrev new : Engine R
  new = engine_behind old v room false

  at_place : (i : ℕ) (seen : Seen) → slice_get seens i ≡ Some seen → (f : F) × (slice_get fs i ≡ Some f) × ((k.progress f).served.seen ≡ seen)
  at_place i seen is = get_mapped (λ (f : F). (k.progress f).served.seen) fs i seen is

  abbrev asked : ℕ → ℕ
  asked i = asked_by old.public words stmts seens (asked_since s t) i

  flown_at : (i : ℕ) (stmt : Stmt) (seen : Seen) → slice_get stmts i ≡ Some stmt → slice_get seens i ≡ Some seen
      → IsFlown (in_flight stmts old.public) m (asked i) stmt seen (slice_get h.ended i)
  flown_at i stmt seen there is =
      let f = at_place i seen is in
      subst (λ (n : ℕ). IsFlown (in_flight stmts old.public) m n stmt seen (slice_get h.ended i)) (sym (own_all i f.0 f.1))
      (subst (λ (x : Seen). IsFlown (in_flight stmts old.public) m (k.progress f.0).asked stmt x (slice_get h.ended i)) f.2
      (flown_now k m stage steady_of old.public stmts words share start boards h.turn h.public h.ended [] now h.aloft i f.0 stmt f.1 there))

  meant_at : (tables : Tables) (d : Draws) → ReadsTrueUntil state old s new t tables → (i : ℕ) (stmt : Stmt) (seen : Seen) → slice_get stmts i ≡ Some stmt → slice_get seens i ≡ Some seen
      → IsMeant d (in_flight stmts old.public) m (asked i) (asked i) tables stmt seen (slice_get h.ended i)
  meant_at tables d reads i stmt seen there is =
      let f = at_place i seen is in
      subst (λ (n : ℕ). IsMeant d (in_flight stmts old.public) m n n tables stmt seen (slice_get h.ended i)) (sym (own_all i f.0 f.1))
      (subst (λ (x : Seen). IsMeant d (in_flight stmts old.public) m (k.progress f.0).asked (k.progress f.0).asked tables stmt x (slice_get h.ended i)) f.2
      (meant_now k m stage steady_of old.public stmts words share start boards h.turn h.public h.ended [] now h.aloft
      old.indexes.items tables (told_now false tables reads) d i f.0 stmt f.1 there))

  as_flown : map (λ (f : F). (k.progress f).served) fs ≡ flown
  as_flown = served_now k m stage steady_of old.public stmts words share start boards h.turn h.public h.ended [] now h.aloft

  turned : {T : Type 0} (x : T) → old.room.high ≤ room.high → 1 ≤ room.high → RanInTurns state words flown (Ok x) old s new t
  turned x kept some = record {
    asked = asked_all ∙ ap (λ (l : List Access). s.asked ++ l)
        (all_merged k m stage steady_of old.public stmts words share start boards h.turn h.public h.ended [] now h.aloft h.all ∙ ap (λ (y : List Served). merge old.public y words) as_flown);
    later = (lasts_all state old s s1 agrees rests (at state v t) since).later;
    keys = (lasts_all state old s s1 agrees rests (at state v t) since).keys;
    start = (lasts_all state old s s1 agrees rests (at state v t) since).start;
    from_closing = refl;
    replaced = refl;
    seen = refl;
    indexes = refl;
    drawn = draws_behind state old s s1 agrees rests v room t free since false;
    room = free;
    opened = opens_behind state old s s1 agrees rests v room t free since (drop (length s.asked) t.asked) kept some;
    untouched = apart_behind state old s s1 agrees rests v room t free since;
    goes_on = record {
      agrees = agrees_behind state old s s1 agrees rests v room t free since false gone;
      public = sym (next_now k m stage steady_of old.public stmts words share start boards h.turn h.public h.ended [] now h.aloft h.all)
          ∙ ap (λ (y : List Served). next_flight old.public y words) as_flown;
      lives = refl;
    };
  }

  means_all : {T : Type 0} (x : T) → FlightMeans state words stmts seens asked asked h.ended (Ok x) old s new t
  means_all x = record {
    told = meant_at;
    emitted = λ tables reads i stmt one there is.
        let f = Rattle.ob_exec.proofs.FlightLists.get_other stmts fs i stmt (as_many k m stage steady_of old.public stmts words share start boards h.turn h.public h.ended [] now h.aloft) there in
        emitted_now k m stage steady_of old.public stmts words share start boards h.turn h.public h.ended [] now h.aloft
        old.indexes.items tables (told_now false tables reads) i f.0 stmt one f.1 there is;
    held = λ tables reads. held_behind state old s s1 agrees rests v room t free since false tables reads.held;
    honest = λ tables reads. tt;
    begun = λ tables d reads lie is.
        let b = h.begun (rests.lie ∙ reads.nolie) lie is in
        begins_meant k m stage steady_of old.public stmts words share start now boards h.public b.turn h.ended b.stood old.indexes.items tables d
        (hold_now state old s s1 agrees rests b.stood.last.world b.stood.aloft.rest.lasts tables reads.tells reads.held b.none) lie b.reads s.asked rests.asked;
    earlier = λ i n stmt seen one there shown has e.
        let f = at_place i seen shown in
        let all = may_now k m stage steady_of old.public stmts words share start boards h.turn h.public h.ended [] now h.aloft in
        let within : EndedWithin old.public (map (λ (f : F). (k.progress f).served) fs) words n i = subst (λ (xs : List Served). EndedWithin old.public xs words n i) (sym as_flown) e in
        subst (λ (x : ℕ). MeantThen state stmts x n stmt seen one old s t) (sym (own_all i f.0 f.1))
        (subst (λ (x : Seen). MeantThen state stmts (k.progress f.0).asked n stmt x one old s t) f.2
        (meant_then state k old s s1 agrees rests stage steady_of stmts words share flyers shares boards h.public h.turn h.ended now h.past h.begun all i n within f.0 stmt one f.1 there has
        (turned_now k m stage steady_of old.public stmts words share start boards h.turn h.public h.ended [] now h.aloft) (h.aloft.stand.outcome i f.0 f.1)));
    asks = λ n less.
        let all = may_now k m stage steady_of old.public stmts words share start boards h.turn h.public h.ended [] now h.aloft in
        let turned = ap (λ (r : Flight). length r.log) (turned_now k m stage steady_of old.public stmts words share start boards h.turn h.public h.ended [] now h.aloft) in
        let many = log_long in
        asks_meant state k old s s1 agrees rests stage steady_of stmts words share flyers shares boards h.public h.turn h.ended now h.past h.begun all
        (steady_now k m stage steady_of old.public stmts words share start boards h.turn h.public h.ended [] now h.aloft) h.turn n h.went (omega (arith, less, turned, many)) seens as_flown;
  }

  pub flight_ended : {T : Type 0} (x : T) → faults out_new ≡ faults out_old → old.room.high ≤ room.high → 1 ≤ room.high
      → RanFlight state grew cut closed parted faults words left stmts (map (λ (f : F). (k.progress f).served.seen) fs) (Ok x) old s (engine_behind old v room false) t out_old out_new
  flight_ended x quiet kept some = record {
    long = length-map fs (λ (f : F). (k.progress f).served.seen) ∙ as_many k m stage steady_of old.public stmts words share start boards h.turn h.public h.ended [] now h.aloft;
    ran = turned x kept some;
    rest = λ i. h.rest i ∙ ap (λ (n : ℕ). words (n + i))
        (turns_now k m stage steady_of old.public stmts words share start boards h.turn h.public h.ended [] now h.aloft h.all ∙ ap (turns_of old.public) as_flown);
    ended = h.ended;
    all = h.all ∙ as_many k m stage steady_of old.public stmts words share start boards h.turn h.public h.ended [] now h.aloft;
    each = flown_at;
    emits = λ i stmt one there is.
        let f = Rattle.ob_exec.proofs.FlightLists.get_other stmts fs i stmt (as_many k m stage steady_of old.public stmts words share start boards h.turn h.public h.ended [] now h.aloft) there in
        emits_now k m stage steady_of old.public stmts words share start boards h.turn h.public h.ended [] now h.aloft i f.0 stmt one f.1 there is;
    answered = h.took;
    stopped = tt;
    turn = tt;
    sink = quiet;
    cause = λ calm. h.aloft.rest.calm (calm_start state old s s1 agrees rests calm);
    failures = rises_from (cut_off seens) s.faults s1.faults t.faults rests.faults
        (subst (λ (n : ℕ). RisesBy n s1.faults t.faults)
        (cuts_same k fs (λ i f at. stage.failed f _ _ _ (they_hold k m stage steady_of old.public stmts words share start boards h.turn h.public h.ended [] now h.aloft i f at)))
        (record { least = h.aloft.rest.faults.least; none = h.aloft.rest.faults.none }));
    seals = sealed_behind state old s s1 agrees rests v room t free since false
        (λ good accepts. h.aloft.rest.seals good (λ columns region. subst (λ (n : ℕ). Rattle.ob_flat.specs.Flats.Accepts good n columns region)
        (sym (ap (λ (x : Public). x.pack) (Rattle.ob_exec.proofs.FlightRuns.public_is k m stage steady_of old.public stmts words share start boards h.turn h.public h.ended [] now h.aloft))) (accepts columns region)));
    means = means_all x;
  }
