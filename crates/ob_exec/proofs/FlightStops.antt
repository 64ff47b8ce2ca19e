-- Whose the accesses are that were asked until a flight was stopped.
use Rattle.ob_exec.proofs.Words.{Access, accesses_in, AllMayFly, ap, append-nil, append_assoc, AreSteady, arith, asked_by, asked_since, boarding, Bool, cases_eq, cases_lt, ChangesNothing, count_of, done_of, EmitErr, EndedWithin, Engine, Event, false, first_of_merge, Flying, flying_of, halt_of, inl, inr, is_of_access, is_refused, is_some, IsTrue, Kind, length, length-append, length-map, List, map, merge, Moment, nat_lt, None, OpErr, Option, Outcome, Public, refl, RevState, Served, setting_off, slice_get, Some, Stmt, StoreState, subst, sym, take, taker_of, true, turns, World, world_of, ℕ, [], ◌++◌, ◌+◌, ◌-◌, ◌<◌, ◌∙◌, ◌∷◌, ◌≡◌, ◌≤◌, ◌⊎◌}
use Rattle.std.proofs.lemmas.Bool.{false≢true}
use Rattle.std.proofs.lemmas.List.{map-append}
use Rattle.ob_base.specs.declared.emit.EmitErr.TheVariants as EmitErrs
use Rattle.ob_flat.specs.declared.fault.OpErr.TheVariants as OpErrs
use Rattle.ob_inflight.specs.AfterTurns.{flight_in}
use Rattle.ob_inflight.specs.Answers.{error_of}
use Rattle.ob_inflight.specs.FlightOutcome.{StopsInStep}
use Rattle.ob_inflight.specs.FlightOutcome as FlightOutcome
use Rattle.ob_script.specs.FlightLaws.{PicksOne}
use Rattle.ob_script.specs.Flights.{Flight, acted, entry_of, flight, next_act, own, prints, own_asked}
use Rattle.ob_script.proofs.FlightLemmas.{own_append, own_entry, own_other}
use Rattle.ob_script.proofs.FlightTurns.{goes_or_rests, turns_more}
use Rattle.ob_script.proofs.ListPlaces.{get_set_same, get_take}
use Rattle.ob_exec.specs.InFlight.{served_as}
use Rattle.ob_exec.specs.RanFlight.{InEnd, InTurn, StopsInTurn, asked_next}
use Rattle.ob_exec.proofs.FlightEnd.{since_long}
use Rattle.ob_exec.proofs.FlightLists.{flying_back, flying_get, log_first, map_put}
use Rattle.ob_exec.proofs.FlightRuns.{Boards, as_many, first_now, may_now, merged_now, own_now, served_now, sets_now, steady_now, turned_now}
use Rattle.ob_exec.proofs.FlightTurned.{ended_below}
use Rattle.ob_exec.proofs.FlightStage.{IsStage, more_asked}

-- of one entry more
own_one : (i j : ℕ) (log : List (ℕ × Access)) (a : Access) → (i ≡ j → ⊥) → length (own i (log ++ (j, a) ∷ [])) ≡ length (own i log)
own_one i j log a off = ap length (own_append i log ((j, a) ∷ []) ∙ ap (λ (l : List Access). own i log ++ l) (own_other i j a off) ∙ append-nil (own i log))

own_same : (i j : ℕ) (log : List (ℕ × Access)) (a : Access) → i ≡ j → length (own i (log ++ (j, a) ∷ [])) ≡ length (own i log) + 1
own_same i j log a same =
    ap (λ (x : ℕ). length (own i (log ++ (x, a) ∷ []))) (sym same)
    ∙ ap length (own_append i log ((i, a) ∷ []) ∙ ap (λ (l : List Access). own i log ++ l) (own_entry i a)) ∙ length-append (own i log) (a ∷ [])

-- the last of some
get_last : {A : Type 0} (xs : List A) (x : A) → slice_get (xs ++ x ∷ []) (length xs) ≡ Some x
get_last [] x = refl
get_last (y ∷ ys) x = get_last ys x

-- a turn that asks nothing is an end
no_entry : (i : ℕ) (o : Option Access) → length (entry_of i o) ≡ 0 → o ≡ None
no_entry i None none = refl
no_entry i (Some a) none = absurd (omega (arith, none))

below_so : (i n : ℕ) → i < n → nat_lt i n ≡ true
below_so i n less = grind arith

never_self : (n : ℕ) → nat_lt n n ≡ false
never_self n = grind arith

-- a part of one access is nothing, or that one
none_or_one : (done rest : List Access) (a : Access) → done ++ rest ≡ a ∷ [] → (done ≡ []) ⊎ (done ≡ a ∷ [])
none_or_one [] rest a split = inl refl
none_or_one (x ∷ []) rest a split = inr (let same : x ≡ a = cc split in ap (λ (y : Access). y ∷ []) same)
none_or_one (x ∷ y ∷ ys) rest a split = absurd (cc split)

-- a give-up of the emitter is no error of an access
emitter_quiet : (error : EmitErr) → is_refused (halt_of (error_of error)) ≡ false
emitter_quiet EmitErrs.Failed = refl
emitter_quiet EmitErrs.NoMemory = refl

refused_access : (e : OpErr) → is_refused (halt_of e) ≡ true → IsTrue (is_of_access e)
refused_access (OpErrs.Tampered q x) is = refl
refused_access other is = absurd (cc is)

pub no_access : (e : OpErr) → (e ≡ OpErrs.Failed → ⊥) → is_refused (halt_of e) ≡ false → is_of_access e ≡ false
no_access OpErrs.Failed never is = absurd (never refl)
no_access (OpErrs.Tampered q x) never is = absurd (cc is)
no_access OpErrs.Sink never is = refl
no_access OpErrs.NoMemory never is = refl

module _ {R E F : Type 0} (state : R → RevState) (grew cut : E → E → List Event → Type 0)
    (closed parted : E → E → ℕ → Outcome → Type 0)
    (k : Kind F) (old : Engine R) (s s1 : StoreState) (rests : ChangesNothing s s1)
    (stage : IsStage k (count_of old s)) (steady_of : (p : Public) (flown : List Served) → AllMayFly flown → AreSteady p flown)
    (stmts : List Stmt) (words : ℕ → ℕ) (share : ℕ) (e : OpErr) (flyers : List F) (shares : List (List ℕ)) (now : Moment F)
    (boards : Boards k (count_of old s) old.public stmts (record { flyers = flyers; kept = shares; world = world_of state old s1 }))
    (out_old out_new : E)
    (st : FlightOutcome.StopsFlight k (taker_of grew cut closed parted) words share e (record { flyers = flyers; kept = shares; world = world_of state old s1 }) now out_old out_new) where
  abbrev start : Moment F
  start = record { flyers = flyers; kept = shares; world = world_of state old s1 }

  abbrev t : StoreState
  t = now.world.store

  abbrev last : Moment F
  last = st.last

  abbrev log : List (ℕ × Access)
  log = st.aloft.turned.log

  abbrev by_last : List Served
  by_last = map (λ (f : F). (k.progress f).served) st.last.flyers

  -- its step gave up
  abbrev pub Stepped : Type 0
  Stepped = StopsInStep k (taker_of grew cut closed parted) e st.ended st.current st.place st.act st.last now st.emitted.between st.out_last out_new

  -- ---- what is seen
  pub same_seen : map (λ (f : F). (k.progress f).served.seen) now.flyers ≡ map (λ (f : F). (k.progress f).served.seen) st.last.flyers
  same_seen = elim st.by [
    | inl step ↦ ap (map (λ (f : F). (k.progress f).served.seen)) step.flyers ∙ map_put (λ (f : F). (k.progress f).served.seen) last.flyers st.place step.before step.after step.at (ap (λ (x : Served). x.seen) step.stops.stays.served)
    | inr (inl fin) ↦ ap (map (λ (f : F). (k.progress f).served.seen)) fin.flyers ∙ map_put (λ (f : F). (k.progress f).served.seen) last.flyers st.place fin.before fin.after fin.at (ap (λ (x : _). x.served.seen) fin.same)
    | inr (inr clo) ↦ ap (map (λ (f : F). (k.progress f).served.seen)) clo.flyers ∙ map_put (λ (f : F). (k.progress f).served.seen) last.flyers st.place clo.before clo.after clo.at (ap (λ (x : _). x.served.seen) clo.answered)
  ]

  pub stop_served : served_as stmts (map (λ (f : F). (k.progress f).served.seen) st.last.flyers) ≡ map (λ (f : F). (k.progress f).served) st.last.flyers
  stop_served = sym (served_now k (count_of old s) stage steady_of old.public stmts words share start boards st.turn st.public st.ended st.current st.last st.aloft)

  -- ---- what was asked
  pub asked_last : st.last.world.store.asked ≡ s.asked ++ accesses_in st.aloft.turned.log
  asked_last = st.aloft.turned.asked ∙ ap (λ (l : List Access). l ++ accesses_in log) rests.asked

  -- nothing except what was by then, or one access more, which wasn't carried out where it was refused
  pub record AsksOne : Type 0 where
    pub step : Stepped
    pub asked : now.world.store.asked ≡ st.last.world.store.asked ++ step.stops.access ∷ []

  pub record AsksNone : Type 0 where
    pub asked : now.world.store.asked ≡ st.last.world.store.asked
    pub unrefused : is_refused (halt_of e) ≡ false

  unrefused_by : (b : Bool) → is_refused (halt_of e) ≡ b → (b ≡ true → ⊥) → is_refused (halt_of e) ≡ false
  unrefused_by true is never = absurd (never refl)
  unrefused_by false is never = is

  by_step : (step : Stepped) (done rest : List Access) → (IsTrue (is_of_access e) → length st.last.world.store.asked < length now.world.store.asked)
      → now.world.store.asked ≡ st.last.world.store.asked ++ done → (done ≡ []) ⊎ (done ≡ step.stops.access ∷ []) → AsksNone ⊎ AsksOne
  by_step step done rest asks asked (inl none) =
      let same : now.world.store.asked ≡ st.last.world.store.asked = asked ∙ ap (λ (l : List Access). st.last.world.store.asked ++ l) none ∙ append-nil st.last.world.store.asked in
      inl (record {
        asked = same;
        unrefused = unrefused_by (is_refused (halt_of e)) refl
            (λ refused. let more = asks (refused_access e refused) in let n = ap length same in omega (arith, more, n));
      })
  by_step step done rest asks asked (inr one) = inr (record { step = step; asked = asked ∙ ap (λ (l : List Access). st.last.world.store.asked ++ l) one })

  pub asked_more : AsksNone ⊎ AsksOne
  asked_more = elim st.by [
    | inl step ↦
        let began = step.stops.cut.began in
        by_step step began.done began.rest step.stops.cut.asks began.asked (none_or_one began.done began.rest step.stops.access began.split)
    | inr (inl fin) ↦ inl (record { asked = ap (λ (w : World). w.store.asked) fin.world; unrefused = ap (λ (x : OpErr). is_refused (halt_of x)) fin.is ∙ emitter_quiet fin.error })
    | inr (inr clo) ↦ inl (record { asked = ap (λ (w : World). w.store.asked) clo.world; unrefused = ap (λ (x : OpErr). is_refused (halt_of x)) clo.is ∙ emitter_quiet clo.error })
  ]

  -- ---- the log
  log_long : length (accesses_in log) ≡ length log
  log_long = length-map log (λ (e : ℕ × Access). e.1)

  steady : AreSteady old.public (map (λ (f : F). (k.progress f).served) st.last.flyers)
  steady = steady_now k (count_of old s) stage steady_of old.public stmts words share start boards st.turn st.public st.ended st.current st.last st.aloft

  -- as many of the whole flight's log are those of the turns by then
  pub take_last : take (length st.aloft.turned.log) (flight old.public (map (λ (f : F). (k.progress f).served) st.last.flyers) words).log ≡ st.aloft.turned.log
  take_last = sym (first_now k (count_of old s) stage steady_of old.public stmts words share start boards st.turn st.public st.ended st.current st.last st.aloft)

  sets : setting_off st.public start.world.vault.next (map (λ (f : F). (k.progress f).served) st.last.flyers) ≡ boarding old.public (map (λ (f : F). (k.progress f).served) st.last.flyers)
  sets = sets_now k (count_of old s) stage steady_of old.public stmts words share start boards st.turn st.public st.ended st.current st.last st.aloft by_last
      (length-map last.flyers (λ (f : F). (k.progress f).served) ∙ as_many k (count_of old s) stage steady_of old.public stmts words share start boards st.turn st.public st.ended st.current st.last st.aloft)

  log_more : (turns words (st.turn + 1) (boarding old.public (map (λ (f : F). (k.progress f).served) st.last.flyers))).log ≡ st.aloft.turned.log ++ entry_of st.place st.act
  log_more =
      ap (λ (r : Flight). (turns words (st.turn + 1) r).log) (sym sets)
      ∙ st.log by_last (may_now k (count_of old s) stage steady_of old.public stmts words share start boards st.turn st.public st.ended st.current st.last st.aloft)

  -- with one access more
  take_one : (a : Access) → st.act ≡ Some a → take (length log + 1) (flight old.public by_last words).log ≡ log ++ (st.place, a) ∷ []
  take_one a is =
      let here : (turns words (st.turn + 1) (boarding old.public by_last)).log ≡ log ++ (st.place, a) ∷ [] = log_more ∙ ap (λ (o : Option Access). log ++ entry_of st.place o) is in
      let n : length (turns words (st.turn + 1) (boarding old.public by_last)).log ≡ length log + 1 = ap length here ∙ length-append log ((st.place, a) ∷ []) in
      ap (λ (x : ℕ). take x (flight old.public by_last words).log) (sym n) ∙ sym (log_first old.public by_last words steady (st.turn + 1)) ∙ here

  -- whose it is, and which
  pub next_one_asks : (a : Access) → st.act ≡ Some a → now.world.store.asked ≡ st.last.world.store.asked
      → asked_next old.public words stmts (map (λ (f : F). (k.progress f).served.seen) st.last.flyers) (asked_since s now.world.store) ≡ Some (st.place, a)
  next_one_asks a is same =
      let n : asked_since s now.world.store ≡ length log = since_long s t (accesses_in log) (same ∙ asked_last) ∙ log_long in
      ap (λ (flown : List Served). slice_get (flight old.public flown words).log (asked_since s now.world.store)) stop_served
      ∙ ap (slice_get (flight old.public by_last words).log) n
      ∙ sym (get_take (flight old.public by_last words).log (length log + 1) (length log) (omega arith))
      ∙ ap (λ (l : List (ℕ × Access)). slice_get l (length log)) (take_one a is)
      ∙ get_last log (st.place, a)

  merged_one : (a : Access) → st.act ≡ Some a → accesses_in log ++ a ∷ [] ≡ take (length log + 1) (merge old.public by_last words)
  merged_one a is =
      let here : (turns words (st.turn + 1) (boarding old.public by_last)).log ≡ log ++ (st.place, a) ∷ [] = log_more ∙ ap (λ (o : Option Access). log ++ entry_of st.place o) is in
      let n : length (turns words (st.turn + 1) (boarding old.public by_last)).log ≡ length log + 1 = ap length here ∙ length-append log ((st.place, a) ∷ []) in
      sym (map-append (λ (e : ℕ × Access). e.1) log ((st.place, a) ∷ [])) ∙ ap accesses_in (sym here)
      ∙ first_of_merge old.public by_last words steady (st.turn + 1) ∙ ap (λ (x : ℕ). take x (merge old.public by_last words)) n

  -- ---- how many
  many_none : AsksNone → asked_since s now.world.store ≡ length st.aloft.turned.log
  many_none none = since_long s t (accesses_in log) (none.asked ∙ asked_last) ∙ log_long

  asked_one : (one : AsksOne) → now.world.store.asked ≡ s.asked ++ (accesses_in st.aloft.turned.log ++ one.step.stops.access ∷ [])
  asked_one one = one.asked ∙ ap (λ (l : List Access). l ++ one.step.stops.access ∷ []) asked_last ∙ append_assoc s.asked (accesses_in log) (one.step.stops.access ∷ [])

  many_one : AsksOne → asked_since s now.world.store ≡ length st.aloft.turned.log + 1
  many_one one =
      let n = since_long s t (accesses_in log ++ one.step.stops.access ∷ []) (asked_one one) in
      let m = length-append (accesses_in log) (one.step.stops.access ∷ []) in
      let l = log_long in
      omega (arith, n, m, l)

  -- they are the first that are merged
  first_to : (n : ℕ) (l : List Access) → asked_since s now.world.store ≡ n → l ≡ take n (merge old.public by_last words)
      → l ≡ take (asked_since s now.world.store) (merge old.public (served_as stmts (map (λ (f : F). (k.progress f).served.seen) st.last.flyers)) words)
  first_to n l same is =
      is ∙ ap (λ (x : ℕ). take x (merge old.public by_last words)) (sym same)
      ∙ ap (λ (flown : List Served). take (asked_since s now.world.store) (merge old.public flown words)) (sym stop_served)

  pub asked_first : now.world.store.asked ≡ s.asked ++ take (asked_since s now.world.store) (merge old.public (served_as stmts (map (λ (f : F). (k.progress f).served.seen) st.last.flyers)) words)
  asked_first = elim asked_more [
    | inl none ↦
        none.asked ∙ asked_last
        ∙ ap (λ (l : List Access). s.asked ++ l)
        (first_to (length log) (accesses_in log) (many_none none)
        (merged_now k (count_of old s) stage steady_of old.public stmts words share start boards st.turn st.public st.ended st.current st.last st.aloft))
    | inr one ↦
        asked_one one
        ∙ ap (λ (l : List Access). s.asked ++ l)
        (first_to (length log + 1) (accesses_in log ++ one.step.stops.access ∷ []) (many_one one) (merged_one one.step.stops.access one.step.asks))
  ]

  -- ---- by each
  own_of : (i n : ℕ) (l : List (ℕ × Access)) → take n (flight old.public by_last words).log ≡ l
      → own_asked old.public (served_as stmts (map (λ (f : F). (k.progress f).served.seen) st.last.flyers)) words n i ≡ length (own i l)
  own_of i n l is = ap (λ (flown : List Served). own_asked old.public flown words n i) stop_served ∙ ap (λ (x : List (ℕ × Access)). length (own i x)) is

  own_last : (i : ℕ) (f : F) → slice_get st.last.flyers i ≡ Some f → length (own i log) ≡ (k.progress f).asked
  own_last i f at = own_now k (count_of old s) stage steady_of old.public stmts words share start boards st.turn st.public st.ended st.current st.last st.aloft i f at

  -- how many accesses of its own one has asked, and how many of them were carried out
  abbrev asked : ℕ → ℕ
  asked i = asked_by old.public words stmts (map (λ (f : F). (k.progress f).served.seen) st.last.flyers) (asked_since s now.world.store) i

  abbrev carried : ℕ → ℕ
  carried i = asked_by old.public words stmts (map (λ (f : F). (k.progress f).served.seen) st.last.flyers) (done_of (is_refused (halt_of e)) (asked_since s now.world.store)) i

  -- as many as by then; or it is the one whose step gave up after an access more, which was carried out or not
  pub record AskedNoMore (i : ℕ) (f : F) : Type 0 where
    pub asked : asked_by old.public words stmts (map (λ (f : F). (k.progress f).served.seen) st.last.flyers) (asked_since s now.world.store) i ≡ (k.progress f).asked
    pub carried : asked_by old.public words stmts (map (λ (f : F). (k.progress f).served.seen) st.last.flyers) (done_of (is_refused (halt_of e)) (asked_since s now.world.store)) i ≡ (k.progress f).asked

  pub record AskedOneMore (i : ℕ) (f : F) : Type 0 where
    pub one : AsksOne
    pub same : f ≡ one.step.before
    pub at : slice_get st.last.flyers st.place ≡ Some f
    pub place : i ≡ st.place
    pub asked : asked_by old.public words stmts (map (λ (f : F). (k.progress f).served.seen) st.last.flyers) (asked_since s now.world.store) i ≡ (k.progress f).asked + 1
    pub carried : ((is_refused (halt_of e) ≡ true)
        × (asked_by old.public words stmts (map (λ (f : F). (k.progress f).served.seen) st.last.flyers) (done_of (is_refused (halt_of e)) (asked_since s now.world.store)) i ≡ (k.progress f).asked))
        ⊎ ((is_refused (halt_of e) ≡ false)
        × (asked_by old.public words stmts (map (λ (f : F). (k.progress f).served.seen) st.last.flyers) (done_of (is_refused (halt_of e)) (asked_since s now.world.store)) i ≡ (k.progress f).asked + 1))

  -- where the last was refused, the others were carried out
  carried_refused : (one : AsksOne) (i : ℕ) (f : F) → slice_get st.last.flyers i ≡ Some f → is_refused (halt_of e) ≡ true → carried i ≡ (k.progress f).asked
  carried_refused one i f at refused =
      let less : asked_since s now.world.store - 1 ≡ length log = let n = many_one one in omega (arith, n) in
      ap (λ (b : Bool). asked_by old.public words stmts (map (λ (f : F). (k.progress f).served.seen) st.last.flyers) (done_of b (asked_since s now.world.store)) i) refused
      ∙ ap (λ (n : ℕ). asked_by old.public words stmts (map (λ (f : F). (k.progress f).served.seen) st.last.flyers) n i) less
      ∙ own_of i (length log) log take_last ∙ own_last i f at

  carried_all : (i : ℕ) → is_refused (halt_of e) ≡ false → carried i ≡ asked i
  carried_all i unrefused = ap (λ (b : Bool). asked_by old.public words stmts (map (λ (f : F). (k.progress f).served.seen) st.last.flyers) (done_of b (asked_since s now.world.store)) i) unrefused

  asked_none : (none : AsksNone) (i : ℕ) (f : F) → slice_get st.last.flyers i ≡ Some f → asked i ≡ (k.progress f).asked
  asked_none none i f at =
      ap (λ (n : ℕ). asked_by old.public words stmts (map (λ (f : F). (k.progress f).served.seen) st.last.flyers) n i) (many_none none)
      ∙ own_of i (length log) log take_last ∙ own_last i f at

  asked_own : (one : AsksOne) (i : ℕ) → asked i ≡ length (own i (log ++ (st.place, one.step.stops.access) ∷ []))
  asked_own one i =
      ap (λ (n : ℕ). asked_by old.public words stmts (map (λ (f : F). (k.progress f).served.seen) st.last.flyers) n i) (many_one one)
      ∙ own_of i (length log + 1) (log ++ (st.place, one.step.stops.access) ∷ []) (take_one one.step.stops.access one.step.asks)

  refused_or : (b : Bool) → is_refused (halt_of e) ≡ b → (is_refused (halt_of e) ≡ true) ⊎ (is_refused (halt_of e) ≡ false)
  refused_or true is = inl is
  refused_or false is = inr is

  asked_of_one : (one : AsksOne) (i : ℕ) (f : F) → slice_get st.last.flyers i ≡ Some f → AskedNoMore i f ⊎ AskedOneMore i f
  asked_of_one one i f at = elim (cases_eq i st.place) [
    | inl here ↦
        let there : slice_get st.last.flyers st.place ≡ Some f = ap (slice_get st.last.flyers) (sym here) ∙ at in
        let same : f ≡ one.step.before = let two = one.step.at in cc (there, two) in
        let n : asked i ≡ (k.progress f).asked + 1 = asked_own one i ∙ own_same i st.place log one.step.stops.access here ∙ ap (λ (x : ℕ). x + 1) (own_last i f at) in
        inr (record {
          one = one;
          same = same;
          at = there;
          place = here;
          asked = n;
          carried = elim (refused_or (is_refused (halt_of e)) refl) [
            | inl refused ↦ inl (refused, carried_refused one i f at refused)
            | inr not ↦ inr (not, carried_all i not ∙ n)
          ];
        })
    | inr off ↦
        let n : asked i ≡ (k.progress f).asked = asked_own one i ∙ own_one i st.place log one.step.stops.access off ∙ own_last i f at in
        inl (record {
          asked = n;
          carried = elim (refused_or (is_refused (halt_of e)) refl) [
            | inl refused ↦ carried_refused one i f at refused
            | inr not ↦ carried_all i not ∙ n
          ];
        })
  ]

  pub asked_of : (i : ℕ) (f : F) → slice_get st.last.flyers i ≡ Some f → AskedNoMore i f ⊎ AskedOneMore i f
  asked_of i f at = elim asked_more [
    | inl none ↦ inl (record { asked = asked_none none i f at; carried = carried_all i none.unrefused ∙ asked_none none i f at })
    | inr one ↦ asked_of_one one i f at
  ]

  -- of the one that gave up, what was asked since is its own
  pub asked_place : (f : F) → slice_get st.last.flyers st.place ≡ Some f
      → asked_by old.public words stmts (map (λ (f : F). (k.progress f).served.seen) st.last.flyers) (asked_since s now.world.store) st.place
      ≡ (k.progress f).asked + more_asked st.last.world now.world
  asked_place f at = elim asked_more [
    | inl none ↦ let n = asked_none none st.place f at in let m = ap length none.asked in omega (arith, n, m)
    | inr one ↦
        let n = asked_own one st.place ∙ own_same st.place st.place log one.step.stops.access refl ∙ ap (λ (x : ℕ). x + 1) (own_last st.place f at) in
        let m = ap length one.asked ∙ length-append st.last.world.store.asked (one.step.stops.access ∷ []) in
        omega (arith, n, m)
  ]

  -- ---- in which turn it stopped
  turned : turns words st.turn (boarding old.public (map (λ (f : F). (k.progress f).served) st.last.flyers))
      ≡ flight_in k st.public st.last.world.vault.next st.last.flyers (map (λ (f : F). (k.progress f).served) st.last.flyers) st.aloft.turned.log
  turned = turned_now k (count_of old s) stage steady_of old.public stmts words share start boards st.turn st.public st.ended st.current st.last st.aloft

  ended_last : (i : ℕ) (x : Flying) → slice_get (turns words st.turn (boarding old.public (map (λ (f : F). (k.progress f).served) st.last.flyers))).flying i ≡ Some x → x.ended ≡ nat_lt i (length st.ended)
  ended_last i x at =
      let back = flying_back k (λ (f : F). (k.progress f).served) st.last.flyers i x (ap (λ (r : Flight). slice_get r.flying i) (sym turned) ∙ at) in
      ap (λ (y : Flying). y.ended) (sym back.2) ∙ ap is_some (st.aloft.stand.outcome i back.0 back.1) ∙ ended_below st.ended i

  -- by then these were asked, and one more at most
  long_now : length (turns words st.turn (boarding old.public (map (λ (f : F). (k.progress f).served) st.last.flyers))).log ≡ length st.aloft.turned.log
  long_now = ap (λ (r : Flight). length r.log) turned

  long_next : length (turns words (st.turn + 1) (boarding old.public (map (λ (f : F). (k.progress f).served) st.last.flyers))).log ≡ length st.aloft.turned.log + length (entry_of st.place st.act)
  long_next = ap length log_more ∙ length-append st.aloft.turned.log (entry_of st.place st.act)

  pub asked_most : asked_since s now.world.store ≤ length (turns words (st.turn + 1) (boarding old.public (map (λ (f : F). (k.progress f).served) st.last.flyers))).log
  asked_most = elim asked_more [
    | inl none ↦ let n = many_none none in let b = long_next in omega (arith, n, b)
    | inr one ↦ let n = many_one one in let b = long_next in let act = ap (λ (o : Option Access). length (entry_of st.place o)) one.step.asks in omega (arith, n, b, act)
  ]

  pub stops_turn : StopsInTurn old.public (served_as stmts (map (λ (f : F). (k.progress f).served.seen) st.last.flyers)) words (asked_since s now.world.store) (length st.ended)
  stops_turn =
      subst (λ (flown : List Served). StopsInTurn old.public flown words (asked_since s now.world.store) (length st.ended)) (sym stop_served)
      (elim asked_more [
        | inl none ↦ record {
          turn = st.turn;
          least = let n = many_none none in let a = long_now in omega (arith, n, a);
          most = asked_most;
          ended = ended_last;
        }
        | inr one ↦ record {
          turn = st.turn;
          least = let n = many_one one in let a = long_now in omega (arith, n, a);
          most = asked_most;
          ended = ended_last;
        }
      ])

  -- ---- whose turn it was
  -- its step gave up: after its access, or before that
  pub in_turn : Stepped → InTurn old.public words stmts (map (λ (f : F). (k.progress f).served.seen) st.last.flyers) (asked_since s now.world.store) st.place
  in_turn step = elim asked_more [
    | inl none ↦ inr (step.stops.access, next_one_asks step.stops.access step.asks none.asked)
    | inr one ↦
        let less : asked_since s now.world.store - 1 ≡ length log = let n = many_one one in omega (arith, n) in
        let before = ap (λ (n : ℕ). asked_by old.public words stmts (map (λ (f : F). (k.progress f).served.seen) st.last.flyers) n st.place) less ∙ own_of st.place (length log) log take_last in
        let after = asked_own one st.place ∙ own_same st.place st.place log one.step.stops.access refl in
        inl (omega (arith, before, after))
  ]

  abbrev by_then : Flight
  by_then = turns words st.turn (boarding old.public by_last)

  -- where nothing was asked the first that hadn't ended did
  module _ (none : st.act ≡ None) (first : st.place ≡ length st.ended) where
    logs_none : length (turns words (st.turn + 1) (boarding old.public by_last)).log ≡ length log
    logs_none = let n = long_next in let nothing = ap (λ (o : Option Access). length (entry_of st.place o)) none in omega (arith, n, nothing)

    going_on : (x : Flying) → slice_get by_then.flying st.place ≡ Some x → x.ended ≡ false
    going_on x at = ended_last st.place x at ∙ ap (λ (n : ℕ). nat_lt n (length st.ended)) first ∙ never_self (length st.ended)

    ends_in : (f : F) → slice_get st.last.flyers st.place ≡ Some f → EndedWithin old.public by_last words (length log) st.place
    ends_in f at =
        let x : Flying = flying_of (k.progress f) (k.progress f).served in
        let there : slice_get by_then.flying st.place ≡ Some x = ap (λ (r : Flight). slice_get r.flying st.place) turned ∙ flying_get k (λ (f : F). (k.progress f).served) st.last.flyers st.place f at in
        elim (goes_or_rests (words st.turn) by_then) [
          | inl all ↦ absurd (false≢true (sym (going_on x there) ∙ all.each st.place x there))
          | inr one ↦ picked_end one x there
        ]
      where
        picked_end : (one : PicksOne (words st.turn) by_then) (x : Flying) → slice_get by_then.flying st.place ≡ Some x → EndedWithin old.public by_last words (length log) st.place
        picked_end one x there =
            let g = one.flying in
            let act = next_act by_then.public g in
            let after = turns_more words st.turn (boarding old.public by_last) ∙ one.picks.turn in
            let size = ap (λ (r : Flight). length r.log) after ∙ length-append by_then.log (entry_of one.place act) in
            let quiet : act ≡ None = no_entry one.place act (let n = logs_none in let m = long_now in omega (arith, n, m, size)) in
            let printing : prints g.region act ≡ true = ap (prints g.region) quiet in
            let here : one.place ≡ st.place = elim (cases_lt one.place st.place) [
              | inl before ↦ absurd (false≢true (sym one.picks.goes_on ∙ ended_last one.place g one.picks.at ∙ below_so one.place (length st.ended) (omega (arith, before, first))))
              | inr past ↦ elim (cases_lt st.place one.place) [
                | inl behind ↦ absurd (false≢true (sym (going_on x there) ∙ one.picks.first printing st.place x behind there))
                | inr same ↦ omega (arith, past, same)
              ]
            ] in
            record {
              turn = st.turn + 1;
              one = acted act g;
              at = subst (λ (i : ℕ). slice_get (turns words (st.turn + 1) (boarding old.public by_last)).flying i ≡ Some (acted act g)) here
                  (ap (λ (r : Flight). slice_get r.flying one.place) after ∙ get_set_same by_then.flying one.place g (acted act g) one.picks.at);
              ended = ap (λ (o : Option Access). (acted o g).ended) quiet;
              within = let n = logs_none in omega (arith, n);
            }

    pub in_end : (f : F) → slice_get st.last.flyers st.place ≡ Some f
        → InEnd old.public words stmts (map (λ (f : F). (k.progress f).served.seen) st.last.flyers) (asked_since s now.world.store) st.place
    in_end f at = elim asked_more [
      | inl quiet ↦
          subst (λ (flown : List Served). EndedWithin old.public flown words (asked_since s now.world.store) st.place) (sym stop_served)
          (subst (λ (n : ℕ). EndedWithin old.public by_last words n st.place) (sym (many_none quiet)) (ends_in f at))
      | inr one ↦ absurd (let asks = one.step.asks in cc (none, asks))
    ]
