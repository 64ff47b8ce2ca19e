-- A flight that was stopped.
use Rattle.ob_exec.proofs.Words.{Access, act_of, Agrees, AllMayFly, ap, AreSteady, arith, asked_by, asked_since, at, Bool, Untampered, ChangesNothing, Closed, count_end, count_of, Cut, cut_at, done_of, Draws, drop, EmitErr, End, Engine, engine_behind, Err, Event, events_at, false, flight_public, halt_of, in_flight, inl, inr, is_access, is_refused, IsFree, IsMeant, IsNotTampered, IsTrue, IsUnfit, Kind, Lawful, length, length-append, length-map, List, map, Moment, None, OpErr, Option, Outcome, Public, ReadsTrueUntil, refl, Refusal, refusal_now, RevState, RoomState, script, Seen, Served, SinkCause, SinkStops, skeleton, slice_get, Some, Stmt, StoreState, subst, sym, Tables, taker_of, true, unfit_none, Vault, Whole, World, world_of, ℕ, [], ◌++◌, ◌<◌, ◌∙◌, ◌∷◌, ◌≡◌, ◌≤◌, ◌⊎◌}
use Rattle.ob_base.specs.declared.emit.EmitErr.TheVariants as EmitErrs
use Rattle.ob_flat.specs.declared.fault.OpErr.TheVariants as OpErrs
use Rattle.ob_flat.specs.Passes.{PassCause}
use Rattle.ob_inflight.specs.Answers.{EndsBy, error_of}
use Rattle.ob_inflight.specs.FlightOutcome as FlightOutcome
use Rattle.ob_inflight.specs.Kinds.{share_at}
use Rattle.ob_mean.specs.Verdict.{seen as seen_by}
use Rattle.ob_script.specs.Flights.{IsSteady}
use Rattle.ob_select.specs.Memory.{ends_with_make, is_make}
use Rattle.ob_tables.specs.declared.stop.RunStop.TheVariants as Stops
use Rattle.ob_exec.specs.InFlight.{IsFlown}
use Rattle.ob_exec.specs.RanFlight.{FlightCause, StopsClosing}
use Rattle.ob_exec.proofs.FlightFrames.{calm_start, hold_now}
use Rattle.ob_exec.proofs.FlightLists.{get_mapped, get_other}
use Rattle.ob_exec.proofs.FlightMore.{asks_within, ends_whole, held_more, meant_single, meant_unread, stands_more}
use Rattle.ob_exec.proofs.FlightRuns.{Boards, ServesOne, as_many, closed_now, flown_now, meant_now, steady_now, they_hold, they_serve}
use Rattle.ob_exec.proofs.FlightStage.{HoldNow, IsStage, closed_of}
use Rattle.ob_exec.proofs.FlightStops.{AskedOneMore, asked_of, no_access}
use Rattle.ob_mean.specs.Standing.{StandsAs, StandsMeant}

-- ---- plain facts
-- one that may be seen of a statement that is cut off isn't refused before any access
unrefused : (p : Public) (m : ℕ) (stmt : Stmt) (seen : Seen) (a : ℕ) → Lawful p m stmt (record seen { end = Cut a }) → refusal_now p m stmt ≡ None
unrefused p m stmt seen a lawful = go (refusal_now p m stmt) refl
  where
    go : (o : Option Refusal) → refusal_now p m stmt ≡ o → refusal_now p m stmt ≡ None
    go None is = is
    go (Some r) is = absurd (let never = lawful.static.1 (subst (λ (o : Option Refusal). Rattle.std.specs.Prelude.IsSome o) (sym is) refl) in cc never)

pub ends_make : (xs : List Access) (a : Access) → IsTrue (is_make a) → IsTrue (ends_with_make (xs ++ a ∷ []))
ends_make [] a make = make
ends_make (x ∷ []) a make = make
ends_make (x ∷ y ∷ xs) a make = ends_make (y ∷ xs) a make

-- what was asked since, of all
pub drop_asked : (before more : List Access) → drop (length before) (before ++ more) ≡ more
drop_asked [] more = refl
drop_asked (x ∷ xs) more = drop_asked xs more

pub never_more : (xs : List Access) (a : Access) → xs ≡ xs ++ a ∷ [] → ⊥
never_more xs a is = let n = ap length is in let m = length-append xs (a ∷ []) in omega (arith, n, m)

pub sink_by : (T : Type 0) (e : OpErr) (a b : ℕ) → (e ≡ OpErrs.Failed → ⊥) → SinkCause {T = T} (Err e) a b → SinkStops (Err (halt_of e)) a b
sink_by T OpErrs.Failed a b never cause = absurd (never refl)
sink_by T (OpErrs.Tampered q x) a b never cause = cause
sink_by T OpErrs.Sink a b never cause = cause
sink_by T OpErrs.NoMemory a b never cause = cause

-- an error's cause after some turns
pub cause_behind : (T : Type 0) (e : OpErr) (a b c : World) → (e ≡ OpErrs.Failed → ⊥) → (Untampered a → Untampered b) → PassCause e b c → FlightCause {T = T} (Err (halt_of e)) a c
cause_behind T OpErrs.Failed a b c never calm cause = absurd (never refl)
cause_behind T (OpErrs.Tampered q x) a b c never calm cause = (cause.1, λ was. cause.2 (calm was))
cause_behind T OpErrs.Sink a b c never calm cause = λ was. cause.1 (calm was)
cause_behind T OpErrs.NoMemory a b c never calm cause = λ was. cause.1 (calm was)

-- one of the emitter, by which nothing changed
pub cause_quiet : (T : Type 0) (error : EmitErr) (a b : World) → (Untampered a → Untampered b) → FlightCause {T = T} (Err (halt_of (error_of error))) a b
cause_quiet T EmitErrs.Failed a b calm = calm
cause_quiet T EmitErrs.NoMemory a b calm = calm

pub emitter_never : (error : EmitErr) → error_of error ≡ OpErrs.Failed → ⊥
emitter_never EmitErrs.Failed is = cc is
emitter_never EmitErrs.NoMemory is = cc is

module _ {E : Type 0} (grew cut : E → E → List Event → Type 0) (parted : E → E → ℕ → Outcome → Type 0) (Ends : Outcome → Type 0) (place : ℕ) (between out : E) where
  -- how the emitter ends, where it printed
  pub ends_printing : (e : OpErr) (events : List Event) → (e ≡ OpErrs.Failed → ⊥) → EndsBy grew cut e between out events → StopsClosing grew cut parted Ends (halt_of e) place events between out
  ends_printing OpErrs.Failed events never ends = absurd (never refl)
  ends_printing (OpErrs.Tampered q x) events never ends = ends
  ends_printing OpErrs.Sink events never ends = inl ends
  ends_printing OpErrs.NoMemory events never ends = inl (inr ends)

  -- and where it didn't
  pub ends_quiet : (e : OpErr) (events : List Event) → (e ≡ OpErrs.Failed → ⊥) → (e ≡ OpErrs.Sink → ⊥) → grew between out events → StopsClosing grew cut parted Ends (halt_of e) place events between out
  ends_quiet OpErrs.Failed events never sink ends = absurd (never refl)
  ends_quiet (OpErrs.Tampered q x) events never sink ends = ends
  ends_quiet OpErrs.Sink events never sink ends = absurd (sink refl)
  ends_quiet OpErrs.NoMemory events never sink ends = inl (inl ends)

  pub ends_finishing : (error : EmitErr) (events : List Event) → cut between out events → StopsClosing grew cut parted Ends (halt_of (error_of error)) place events between out
  ends_finishing EmitErrs.Failed events ends = inl ends
  ends_finishing EmitErrs.NoMemory events ends = inl (inr ends)

  pub ends_closing : (error : EmitErr) (events : List Event) (took : E) (outcome : Outcome) → Ends outcome → grew between took events → parted took out place outcome
      → StopsClosing grew cut parted Ends (halt_of (error_of error)) place events between out
  ends_closing EmitErrs.Failed events took outcome so grew parted = inr (record { outcome = outcome; ends = so; between = took; took = grew; parts = parted })
  ends_closing EmitErrs.NoMemory events took outcome so grew parted = inr (record { outcome = outcome; ends = so; between = took; took = grew; parts = parted })

pub prints_or : (b : Bool) → (b ≡ true) ⊎ (b ≡ false)
prints_or true = inl refl
prints_or false = inr refl

pub memory_is : (e : OpErr) → halt_of e ≡ Stops.NoMemory → e ≡ OpErrs.NoMemory
memory_is OpErrs.NoMemory is = refl
memory_is other is = absurd (cc is)

pub not_tampered : (e : OpErr) → ((q x : ℕ) → e ≡ OpErrs.Tampered q x → ⊥) → IsNotTampered (halt_of e)
not_tampered (OpErrs.Tampered q x) never = absurd (never q x refl)
not_tampered other never = refl

-- a world in which no changed block was read
pub calm_none : (w : World) → w.store.lie ≡ None → Untampered w
calm_none w none = record { calm = λ lie is. absurd (cc (none, is)); within = λ lie is. absurd (cc (none, is)) }

module _ {R E F : Type 0} (state : R → RevState) (grew cut : E → E → List Event → Type 0) (closed parted : E → E → ℕ → Outcome → Type 0) (faults : E → ℕ)
    (k : Kind F) (old : Engine R) (s s1 : StoreState) (agrees : Agrees state old s) (rests : ChangesNothing s s1)
    (stage : IsStage k (count_of old s)) (steady_of : (p : Public) (flown : List Served) → AllMayFly flown → AreSteady p flown)
    (stmts : List Stmt) (words left : ℕ → ℕ) (share : ℕ) (e : OpErr) (flyers fs : List F) (shares kept : List (List ℕ))
    (v : Vault R) (room : RoomState) (t : StoreState) (free : IsFree old.public room)
    (boards : Boards k (count_of old s) old.public stmts (record { flyers = flyers; kept = shares; world = world_of state old s1 }))
    (out_old out_new : E)
    (st : FlightOutcome.StopsFlight k (taker_of grew cut closed parted) words share e (record { flyers = flyers; kept = shares; world = world_of state old s1 }) (record { flyers = fs; kept = kept; world = at state v t }) out_old out_new) where
  abbrev m : ℕ
  m = count_of old s

  abbrev p : Public
  p = in_flight stmts old.public

  abbrev start : Moment F
  start = record { flyers = flyers; kept = shares; world = world_of state old s1 }

  abbrev now : Moment F
  now = record { flyers = fs; kept = kept; world = at state v t }

  abbrev seens : List Seen
  seens = map (λ (f : F). (k.progress f).served.seen) st.last.flyers

  abbrev asked : ℕ → ℕ
  asked i = asked_by old.public words stmts seens (asked_since s t) i

  abbrev carried : ℕ → ℕ
  carried i = asked_by old.public words stmts seens (done_of (is_refused (halt_of e)) (asked_since s t)) i

  abbrev new : Engine R
  new = engine_behind old v room true

  abbrev shown : F → Seen
  shown f = (k.progress f).served.seen

  -- ---- those that flew, just before the act that gave up
  pub serve : (i : ℕ) (f : F) (stmt : Stmt) → slice_get st.last.flyers i ≡ Some f → slice_get stmts i ≡ Some stmt → ServesOne k m p stmt f
  serve i f stmt at there = they_serve k m stage steady_of old.public stmts words share start boards st.turn st.public st.ended st.current st.last st.aloft i f stmt at there

  pub hold : (i : ℕ) (f : F) → slice_get st.last.flyers i ≡ Some f → k.Holds f (share_at share i st.last.kept) (events_at st.ended st.current i) st.last.world
  hold i f at = they_hold k m stage steady_of old.public stmts words share start boards st.turn st.public st.ended st.current st.last st.aloft i f at

  pub long : length st.last.flyers ≡ length stmts
  long = as_many k m stage steady_of old.public stmts words share start boards st.turn st.public st.ended st.current st.last st.aloft

  pub statement : (i : ℕ) (f : F) → slice_get st.last.flyers i ≡ Some f → (stmt : Stmt) × (slice_get stmts i ≡ Some stmt)
  statement i f at = get_other st.last.flyers stmts i f (sym long) at

  steady_at : (i : ℕ) (f : F) → slice_get st.last.flyers i ≡ Some f → IsSteady p (k.progress f).served
  steady_at i f at =
      let served = λ (f : F). (k.progress f).served in
      subst (λ (n : ℕ). IsSteady (flight_public n old.public) (served f)) (length-map st.last.flyers served ∙ long)
      (steady_now k m stage steady_of old.public stmts words share start boards st.turn st.public st.ended st.current st.last st.aloft i (served f)
      (Rattle.ob_exec.proofs.FlightLists.map_get served st.last.flyers i f at))

  pub none_ended : (i : ℕ) (f : F) → slice_get st.last.flyers i ≡ Some f → (k.progress f).outcome ≡ None → slice_get st.ended i ≡ None
  none_ended i f at going =
      sym (closed_now k m stage steady_of old.public stmts words share start boards st.turn st.public st.ended st.current st.last st.aloft i f at)
      ∙ ap (λ (o : Option Outcome). closed_of o (events_at st.ended st.current i)) going

  flown : (i : ℕ) (f : F) (stmt : Stmt) → slice_get st.last.flyers i ≡ Some f → slice_get stmts i ≡ Some stmt → IsFlown p m (k.progress f).asked stmt (shown f) (slice_get st.ended i)
  flown i f stmt at there = flown_now k m stage steady_of old.public stmts words share start boards st.turn st.public st.ended st.current st.last st.aloft i f stmt at there

  -- one whose next access was asked
  record NextAsked (i : ℕ) (f : F) (stmt : Stmt) : Type 0 where
    none : slice_get st.ended i ≡ None
    within : (k.progress f).asked < length (script p (skeleton stmt) (k.progress f).served.seen)
    standing : StandsAs p m (k.progress f).asked stmt (k.progress f).served.seen (k.progress f).served.seen.end
    whole : (k.progress f).served.seen.end ≡ Whole
    started : refusal_now p m stmt ≡ None
    flat : is_access p (skeleton stmt) ≡ false
    single : (k.progress f).served.seen.then ≡ None

  flat_of_set : (f : F) (stmt : Stmt) → ServesOne k m p stmt f → refusal_now p m stmt ≡ None → is_access p (skeleton stmt) ≡ false
  flat_of_set f stmt one none =
      let table = one.set.table (one.set.refusal ∙ (λ j. refusal_now (one.public j) m (one.is j)) ∙ none) in
      sym (λ j. is_access (one.public j) (skeleton (one.is j))) ∙ table.plain

  next_asked : (i : ℕ) (f : F) (stmt : Stmt) (access : Access) (next : ℕ) → slice_get st.last.flyers i ≡ Some f → slice_get stmts i ≡ Some stmt
      → (k.progress f).outcome ≡ None → act_of (k.progress f) (k.progress f).served next ≡ Some access → NextAsked i f stmt
  next_asked i f stmt access next at there going act =
      let one = serve i f stmt at there in
      let may = stage.served f _ _ _ (hold i f at) in
      let none = none_ended i f at going in
      let within : (k.progress f).asked < length (script p (skeleton stmt) (k.progress f).served.seen) =
      subst (λ (sk : _). (k.progress f).asked < length (script p sk (k.progress f).served.seen)) (stage.outline f _ may ∙ ap skeleton one.is)
      (asks_within p (k.progress f) (k.progress f).served next access (steady_at i f at) one.public act) in
      let standing : StandsAs p m (k.progress f).asked stmt (shown f) (shown f).end =
      subst (λ (o : Option Closed). IsFlown p m (k.progress f).asked stmt (shown f) o) none (flown i f stmt at there) in
      let whole = ends_whole p m stmt (shown f) (k.progress f).asked (shown f).end refl within standing in
      let started = unrefused p m stmt (shown f) (k.progress f).asked (subst (λ (end : End). StandsAs p m (k.progress f).asked stmt (shown f) end) whole standing) in
      record {
        none = none;
        within = within;
        standing = standing;
        whole = whole;
        started = started;
        flat = flat_of_set f stmt one started;
        single = stage.single f _ may;
      }

  -- whose step gave up after it
  stepped_next : (i : ℕ) (f : F) (stmt : Stmt) → slice_get st.last.flyers i ≡ Some f → slice_get stmts i ≡ Some stmt
      → AskedOneMore state grew cut closed parted k old s s1 rests stage steady_of stmts words share e flyers shares now boards out_old out_new st i f → NextAsked i f stmt
  stepped_next i f stmt at there one =
      let step = one.one.step in
      let before = step.before in
      next_asked i f stmt step.stops.access st.last.world.vault.next at there
      (ap (λ (g : F). (k.progress g).outcome) one.same ∙ step.going)
      (subst (λ (g : F). act_of (k.progress g) (k.progress g).served st.last.world.vault.next ≡ Some step.stops.access) (sym one.same)
      (step.stops.next (k.progress before).served (stage.served before _ _ _ (hold st.place before step.at))))

  -- ---- each may be seen so
  pub each_at : (i : ℕ) (stmt : Stmt) (seen : Seen) → slice_get stmts i ≡ Some stmt → slice_get seens i ≡ Some seen → IsFlown p m (asked i) stmt seen (slice_get st.ended i)
  each_at i stmt seen there is =
      let f = get_mapped shown st.last.flyers i seen is in
      subst (λ (x : Seen). IsFlown p m (asked i) stmt x (slice_get st.ended i)) f.2
      (elim (asked_of state grew cut closed parted k old s s1 rests stage steady_of stmts words share e flyers shares now boards out_old out_new st i f.0 f.1) [
        | inl same ↦ subst (λ (n : ℕ). IsFlown p m n stmt (shown f.0) (slice_get st.ended i)) (sym same.asked) (flown i f.0 stmt f.1 there)
        | inr one ↦
            let next = stepped_next i f.0 stmt f.1 there one in
            subst (λ (o : Option Closed). IsFlown p m (asked i) stmt (shown f.0) o) (sym next.none)
            (subst (λ (n : ℕ). StandsAs p m n stmt (shown f.0) (shown f.0).end) (sym one.asked)
            (stands_more p m stmt (shown f.0) (k.progress f.0).asked (shown f.0).end refl next.flat next.single next.within next.standing))
      ])

  -- ---- no changed block was read by then
  pub calm_last : Untampered (world_of state old s) → Untampered st.last.world
  calm_last calm = st.aloft.rest.calm (calm_start state old s s1 agrees rests calm)

  pub lie_last : Untampered (world_of state old s) → IsUnfit (at state v t) → st.last.world.store.lie ≡ None
  lie_last calm unfit = elim st.by [
    | inl step ↦ Rattle.ob_tables.proofs.EmitLemmas.lie_none _ st.last.world (at state v t) step.stops.cut.lasts (calm_last calm) unfit
    | inr (inl fin) ↦ unfit_none st.last.world (calm_last calm) (subst (λ (w : World). IsUnfit w) fin.world unfit)
    | inr (inr clo) ↦ unfit_none st.last.world (calm_last calm) (subst (λ (w : World). IsUnfit w) clo.world unfit)
  ]

  pub hold_last : (tables : Tables) → ReadsTrueUntil state old s new t tables → HoldNow old.public old.indexes.items tables st.last.world
  hold_last tables reads =
      hold_now state old s s1 agrees rests st.last.world st.aloft.rest.lasts tables reads.tells reads.held (lie_last reads.calm reads.unfit)

  pub hold_by : (f : F) (stmt : Stmt) (tables : Tables) (w : World) → ServesOne k m p stmt f → HoldNow old.public old.indexes.items tables w → HoldNow (k.progress f).public old.indexes.items tables w
  hold_by f stmt tables w one held =
      subst (λ (x : Public). HoldNow x old.indexes.items tables w) (sym one.public)
      (record { tells = held.tells; held = held.held; in_place = held.in_place; nolie = held.nolie })

  -- its rows were counted by then where what gave up wasn't its access
  counted : (i : ℕ) (f : F) (stmt : Stmt) → slice_get stmts i ≡ Some stmt
      → AskedOneMore state grew cut closed parted k old s s1 rests stage steady_of stmts words share e flyers shares now boards out_old out_new st i f
      → is_refused (halt_of e) ≡ false → count_end p (skeleton stmt) ≤ (k.progress f).asked
  counted i f stmt there one unrefused =
      let step = one.one.step in
      let it = serve st.place step.before stmt step.at (ap (λ (j : ℕ). slice_get stmts j) (sym one.place) ∙ there) in
      elim (stage.stays step.before _ _ step.part e st.last.world (at state v t) (hold st.place step.before step.at) step.halts it.set (no_access e step.stops.never unrefused)) [
        | inl least ↦
            let same : count_end p (skeleton stmt) ≡ count_end (k.progress step.before).public (skeleton (k.progress step.before).stmt) = sym (λ j. count_end (it.public j) (skeleton (it.is j))) in
            let n : (k.progress f).asked ≡ (k.progress step.before).asked = ap (λ (g : F). (k.progress g).asked) one.same in
            omega (arith, least, same, n)
        | inr none ↦ absurd (never_more st.last.world.store.asked step.stops.access (sym none ∙ one.one.asked))
      ]

  -- ---- each is seen as it is meant
  pub meant_at : (tables : Tables) (d : Draws) → ReadsTrueUntil state old s new t tables → (i : ℕ) (stmt : Stmt) (seen : Seen) → slice_get stmts i ≡ Some stmt → slice_get seens i ≡ Some seen
      → IsMeant d p m (asked i) (carried i) tables stmt seen (slice_get st.ended i)
  meant_at tables d reads i stmt seen there is =
      let f = get_mapped shown st.last.flyers i seen is in
      let held = hold_last tables reads in
      let was = meant_now k m stage steady_of old.public stmts words share start boards st.turn st.public st.ended st.current st.last st.aloft old.indexes.items tables held d i f.0 stmt f.1 there in
      subst (λ (x : Seen). IsMeant d p m (asked i) (carried i) tables stmt x (slice_get st.ended i)) f.2
      (elim (asked_of state grew cut closed parted k old s s1 rests stage steady_of stmts words share e flyers shares now boards out_old out_new st i f.0 f.1) [
        | inl same ↦
            subst (λ (n : ℕ). IsMeant d p m n (carried i) tables stmt (shown f.0) (slice_get st.ended i)) (sym same.asked)
            (subst (λ (n : ℕ). IsMeant d p m (k.progress f.0).asked n tables stmt (shown f.0) (slice_get st.ended i)) (sym same.carried) was)
        | inr one ↦
            let next = stepped_next i f.0 stmt f.1 there one in
            let meaning = seen_by d p m tables stmt in
            let here : shown f.0 ≡ record (cut_at false (k.progress f.0).asked p (skeleton stmt) meaning) { end = Whole } =
            subst (λ (end : End). StandsMeant d p m (k.progress f.0).asked (k.progress f.0).asked tables stmt (shown f.0) end) next.whole
            (subst (λ (o : Option Closed). IsMeant d p m (k.progress f.0).asked (k.progress f.0).asked tables stmt (shown f.0) o) next.none was) in
            let then_too : shown f.0 ≡ record (cut_at false (carried i) p (skeleton stmt) meaning) { end = Whole } =
            elim one.carried [
              | inl (refused, same) ↦ here ∙ ap (λ (n : ℕ). record (cut_at false n p (skeleton stmt) meaning) { end = Whole }) (sym same)
              | inr (not, more) ↦
                  here ∙ held_more (k.progress f.0).asked p (skeleton stmt) meaning (counted i f.0 stmt there one not)
                  (meant_single (length stmts) old.public m stmt next.started next.flat tables d old.indexes.items st.last.world held.held)
                  (meant_unread (length stmts) old.public m stmt next.started next.flat tables d old.indexes.items st.last.world held.held)
                  ∙ ap (λ (n : ℕ). record (cut_at false n p (skeleton stmt) meaning) { end = Whole }) (sym more)
            ] in
            subst (λ (o : Option Closed). IsMeant d p m (asked i) (carried i) tables stmt (shown f.0) o) (sym next.none)
            (subst (λ (end : End). StandsMeant d p m (asked i) (carried i) tables stmt (shown f.0) end) (sym next.whole) then_too)
      ])
