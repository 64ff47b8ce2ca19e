-- What holds of statements that fly before others disturb the store.
use Rattle.ob_shell.proofs.Words.{Access, after, All, All-cons, All-head, All-nil, All-tail, Answer, ap, append-nil, append_assoc, AreDraws, arith, asked_of, Begins, Bool, Disturbance, Draws, drop, Ending, false, Gathered, Gathering, How, if◌then◌else◌, inl, inr, is_full_now, IsBefore, IsSteady, IsTrue, length, length-append, List, Machine, map, MayFly, None, Ok, Option, Public, public_of, RanInFlight, refl, Result, RevState, RunStop, Position, Seen, seen_or_cut, served_as, served_long, Session, session_of, skeleton, Some, Spelt, StepTogether, Stmt, subst, sym, Tables, take, take-append-drop, take-append-le, turns_of, ℕ, [], ⊤, ◌&&◌, ◌++◌, ◌+◌, ◌∙◌, ◌∷◌, ◌≡◌, ◌≤◌}
use Rattle.ob_headline.proofs.FlightPositions.{FlownUntil, positions_get, until_by}
use Rattle.ob_headline.specs.Batches.{after_now, gathered_now}
use Rattle.ob_headline.specs.Disturbed.{MeantUntil, behind_flown, flown_meant}
use Rattle.ob_headline.specs.Flights.{asked_until, at_position, positions_in_flight}
use Rattle.ob_headline.specs.Meaning.{AnswersMeant}
use Rattle.ob_inflight.specs.Closing.{Closed}
use Rattle.ob_mean.specs.Batches.{is_unrefused}
use Rattle.ob_mean.specs.Replay.{Alone, With, how_now}
use Rattle.ob_script.specs.Flights.{boarding, flight_accesses, merge, next_flight, words_from}
use Rattle.ob_script.specs.Trace.{Served as Entry}
use Rattle.ob_shell.proofs.UntamperedLemmas.{first_calm}
use Rattle.ob_shell.proofs.DisturbLemmas.{before_less, few_or_more}
use Rattle.ob_shell.proofs.FlightBefore.{MeansEarly, all_early, all_same, all_until, asks_more, begins_early}
use Rattle.ob_shell.proofs.FlightEarly.{flown_until}
use Rattle.ob_shell.proofs.FlightEnd.{aloft as left_in_flight, all_fs as left_fs, are_stmts as left_stmts, in_all, positions_left, spelt_left, stood as left_stood, turn_of as left_turn}
use Rattle.ob_shell.proofs.FlightFacts.{all_get, positions_are}
use Rattle.ob_shell.proofs.FlightMeant.{at_same}
use Rattle.ob_shell.proofs.FlightMore.{at_turn, spelt_up, up}
use Rattle.ob_shell.proofs.FlightSeen.{AllAnswered, FirstAnswered, IsAnswerOf, Stood}
use Rattle.ob_shell.proofs.FlightWalk.{all_fs, answered, are_served, are_stmts, asked_on, grew_by, long_fs, most_on, public_on, positions_on, stood, words_on}
use Rattle.ob_shell.proofs.FlownLists.{StmtInFlight, positions_in, served_in_all, served_of, stmts_in}
use Rattle.ob_shell.proofs.HowLemmas.{StartsApart, met_trace, starts_as}
use Rattle.ob_shell.proofs.MeantFirst.{met_flown}
use Rattle.ob_shell.proofs.ReplayLemmas.{free_holds, holds_free, no_lie}
use Rattle.ob_shell.proofs.SelectLemmas.{flown_apart, flown_gathers}
use Rattle.ob_shell.proofs.WalkEntries.{most_at, positions_at, trace_at}
use Rattle.ob_shell.proofs.WalkLemmas.{EarlyAt, EarlyFrom, Walked}
use Rattle.ob_shell.proofs.WalkWhole.{FliesEarly}
use Rattle.ob_shell.specs.Steps.{Holds, has_failed}
use Rattle.ob_store.specs.Calls.{IsQuiet}

-- ---- what is meant of those that were answered
module _ (n : ℕ) (s : Session) where
  -- one of them, and what is after it if it had ended by then
  one_until : (g : Option Gathering) (v : Position) (stmt : Stmt) (one : Answer) (x : Entry) (positions : List Position) (spelt : List Spelt) (answers : List Answer) (seen : List Entry) → FlownUntil n s v stmt one x
      → (v.until ≤ n → (w : Session) → w.tables ≡ s.tables → w.draws ≡ s.draws → MeantUntil n None positions w spelt answers seen)
      → (u : Session) → u.tables ≡ s.tables → u.draws ≡ s.draws → MeantUntil n g (v ∷ positions) u (Ok stmt ∷ spelt) (one ∷ answers) (x ∷ seen)
  unfolding MeantUntil
  one_until g v stmt one x positions spelt answers seen first rest u ts ds =
      let w = at_position v s in
      let same : at_position v u ≡ w = at_same v s u ts ds in
      let how : how_now g w stmt ≡ Alone = ap (λ (b : Bool). if b && is_unrefused w.public w.asked stmt then With else Alone) (flown_apart w.public g (skeleton stmt) first.flies) in
      let none : gathered_now g w stmt ≡ None = flown_gathers w.public w.asked g stmt (seen_or_cut (how_now g w stmt) w stmt).end first.flies in
      subst (λ (y : Session). v.until ≤ n → (is_full_now y stmt ≡ false) × AnswersMeant y stmt one × (x.seen ≡ seen_or_cut (how_now g y stmt) y stmt)
      × MeantUntil n (gathered_now g y stmt) positions (after_now g y stmt) spelt answers seen) (sym same) (λ few. (
        first.room few,
        first.answers few,
        first.seen few ∙ ap (λ (h : How). seen_or_cut h w stmt) (sym how),
        subst (λ (h : Option Gathering). MeantUntil n h positions (after_now g w stmt) spelt answers seen) (sym none)
            (subst (λ (h : How). MeantUntil n None positions (after h w stmt) spelt answers seen) (sym how) (rest few (after Alone w stmt) first.tables first.draws)),
      ))

  abbrev FirstUntil : List StmtInFlight → List Answer → Type 0
  FirstUntil fs [] = ⊤
  FirstUntil [] (one ∷ kept) = ⊥
  FirstUntil (f ∷ fs) (one ∷ kept) = FlownUntil n s f.position f.stmt one (served_of f) × FirstUntil fs kept

  own_until : (f : StmtInFlight) (one : Answer) → Stood f → MeansEarly n s f → IsAnswerOf f one → FlownUntil n s f.position f.stmt one (served_of f)
  own_until f one stood means answer = flown_until n s f one stood answer means.listed (λ few.
      let told = means.told answer.how answer.closed few in record { answered = told.answered; shown = told.shown; prints = told.prints })

  first_until : (fs : List StmtInFlight) (kept : List Answer) → All Stood fs → All (MeansEarly n s) fs → FirstAnswered fs kept → FirstUntil fs kept
  first_until fs [] stand means all = tt
  first_until [] (one ∷ kept) stand means all = absurd all
  first_until (f ∷ fs) (one ∷ kept) stand means all =
      (own_until f one (All-head Stood f fs stand) (All-head (MeansEarly n s) f fs means) all.0, first_until fs kept (All-tail Stood f fs stand) (All-tail (MeansEarly n s) f fs means) all.1)

  -- where more comes after all of them
  module _ (positions : List Position) (spelt : List Spelt) (answers : List Answer) (seen : List Entry) where
    whole_until : (fs : List StmtInFlight) (given : List Answer) (g : Option Gathering) → (fs ≡ [] → g ≡ None) → All Stood fs → All (MeansEarly n s) fs → AllAnswered fs given
        → (All (λ (v : Position). v.until ≤ n) (positions_in fs) → (w : Session) → w.tables ≡ s.tables → w.draws ≡ s.draws → MeantUntil n None positions w spelt answers seen)
        → (u : Session) → u.tables ≡ s.tables → u.draws ≡ s.draws → MeantUntil n g (positions_in fs ++ positions) u (map Ok (stmts_in fs) ++ spelt) (given ++ answers) (served_in_all fs ++ seen)
    whole_until [] [] g none stand means all rest u ts ds = subst (λ (o : Option Gathering). MeantUntil n o positions u spelt answers seen) (sym (none refl)) (rest (All-nil (λ (v : Position). v.until ≤ n)) u ts ds)
    whole_until [] (one ∷ given) g none stand means all rest u ts ds = absurd all
    whole_until (f ∷ fs) [] g none stand means all rest u ts ds = absurd all
    whole_until (f ∷ fs) (one ∷ given) g none stand means all rest u ts ds =
        one_until g f.position f.stmt one (served_of f) (positions_in fs ++ positions) (map Ok (stmts_in fs) ++ spelt) (given ++ answers) (served_in_all fs ++ seen) (own_until f one (All-head Stood f fs stand) (All-head (MeansEarly n s) f fs means) all.0)
        (λ few w tw dw. whole_until fs given None (λ is. refl) (All-tail Stood f fs stand) (All-tail (MeansEarly n s) f fs means) all.1
        (λ more. rest (All-cons (λ (v : Position). v.until ≤ n) f.position (positions_in fs) few more)) w tw dw) u ts ds

  -- of the first of them
  left_until : (fs : List StmtInFlight) (kept : List Answer) (g : Option Gathering) → FirstUntil fs kept → (u : Session) → u.tables ≡ s.tables → u.draws ≡ s.draws → MeantUntil n g (positions_in fs) u (map Ok (stmts_in fs)) kept (served_in_all fs)
  unfolding MeantUntil
  left_until [] [] g all u ts ds = tt
  left_until [] (one ∷ kept) g all u ts ds = absurd all
  left_until (f ∷ fs) [] g all u ts ds = tt
  left_until (f ∷ fs) (one ∷ kept) g all u ts ds =
      one_until g f.position f.stmt one (served_of f) (positions_in fs) (map Ok (stmts_in fs)) kept (served_in_all fs) all.0 (λ few w tw dw. left_until fs kept None all.1 w tw dw) u ts ds

-- ---- a flight that was left
module _ {R : Type 0} (state : R → RevState) (m0 m1 : Machine R) (stmts : List Stmt) (seens : List Seen) (ended : List Closed) (result : Result (Unit {0}) RunStop) (may : MayFly state m0 m1 stmts)
    (ran : RanInFlight state m0.flights.words m1.flights.words stmts seens ended result m0.engine m0.store m1.engine m1.store) where
  abbrev p : Public
  p = public_of m0.engine

  -- what these texts ask by their meaning
  record AsksSo (d : Draws) (tables : Tables) (spelt : List Spelt) : Type 0 where
    behind : List Access
    asks : met_trace (most_at m0) m0.flights.words m0.gathered.batch (session_of m0 d tables) (map Ok stmts ++ spelt) ≡ merge (public_of m0.engine) (flown_meant (session_of m0 d tables) stmts) m0.flights.words ++ behind

  asks_so : (d : Draws) (tables : Tables) → Holds state m0 d tables → (spelt : List Spelt) → StartsApart (most_at m0) (public_of m0.engine) (length stmts) spelt → AsksSo d tables spelt
  asks_so d tables held spelt apart =
      let s = session_of m0 d tables in
      let flown = flown_meant s stmts in
      let words1 = words_from m0.flights.words (turns_of p flown) in
      let s1 = behind_flown m0.flights.words s flown in
      record {
        behind = met_trace (most_at m0) words1 None s1 spelt;
        asks = met_flown (most_at m0) m0.flights.words s held.listed words1 s1 m0.gathered.batch stmts spelt may.fly may.some may.few apart refl refl;
      }

  pub early_left : (kept : List Answer) → FirstAnswered (left_fs state m0 m1 stmts seens ended result may ran) kept
      → EarlyAt state m0 m1 (left_turn state m0 m1 stmts seens ended result may ran ∷ []) (spelt_left state m0 m1 stmts seens ended result may ran) kept
      (take (length kept) (left_in_flight state m0 m1 stmts seens ended result may ran) ++ drop (length kept) (left_in_flight state m0 m1 stmts seens ended result may ran))
  early_left kept first d drawn tells steady tables held sound n before few =
      let s = session_of m0 d tables in
      let g = m0.gathered.batch in
      let most = most_at m0 in
      let words = m0.flights.words in
      let fs = left_fs state m0 m1 stmts seens ended result may ran in
      let aloft = left_in_flight state m0 m1 stmts seens ended result may ran in
      let spelt = spelt_left state m0 m1 stmts seens ended result may ran in
      let asks = asks_so d tables held [] tt in
      let same : met_trace most words g s spelt ≡ merge p (flown_meant s stmts) words ++ asks.behind =
      ap (λ (l : List Stmt). met_trace most words g s (map Ok l)) (left_stmts state m0 m1 stmts seens ended result may ran)
      ∙ ap (λ (l : List Spelt). met_trace most words g s l) (sym (append-nil (map Ok stmts))) ∙ asks.asks in
      let means = all_early state m0 m1 stmts seens ended result may ran d tables held tells steady n before (Some (in_all state m0 m1 stmts seens ended result may ran)) in
      record {
        meant = subst (λ (vs : List Position). MeantUntil n g vs s spelt kept (take (length kept) aloft ++ drop (length kept) aloft)) (positions_left state m0 m1 stmts seens ended result may ran)
            (subst (λ (l : List Entry). MeantUntil n g (positions_in fs) s spelt kept l) (sym (take-append-drop (length kept) aloft))
            (left_until n s fs kept g (first_until n s fs kept (left_stood state m0 m1 stmts seens ended result may ran) means first) s refl refl));
        begins = subst (λ (l : List Access). Begins (take n m1.store.asked) (m0.store.asked ++ l)) (sym same)
            (begins_early state m0 m1 stmts seens ended result may ran d tables held tells steady n before few asks.behind);
        quiet = λ le. elim (few_or_more (length m1.store.asked) n) [
          | inl within ↦ within
          | inr past ↦ absurd (
              let more = asks_more state m0 m1 stmts seens ended result may ran d tables held tells steady n before few past in
              let long = ap length same in
              let parts = length-append (merge p (flown_meant s stmts) words) asks.behind in
              let whole = length-append m0.store.asked (met_trace most words g s spelt) in
              omega (arith, le, more, long, parts, whole))
        ];
      }

-- ---- one that ended
module _ {R : Type 0} (state : R → RevState) (m0 m1 : Machine R) (flown : List (List ℕ)) (given : List Answer) (step : StepTogether state m0 m1 flown given) where
  abbrev ran_up : RanInFlight {T = Unit {0}} state m0.flights.words m1.flights.words step.stmts step.seens step.flew.ended (Ok tt) m0.engine m0.store m1.engine m1.store
  ran_up = step.flew.ran

  abbrev fs_up : List StmtInFlight
  fs_up = all_fs state m0 m1 flown given step

  abbrev in_flight_up : List Entry
  in_flight_up = up state m0 m1 flown given step

  batch_on : m1.gathered.batch ≡ None
  batch_on = ap (λ (x : Gathered). x.batch) step.may.gathered

  -- the next one after them flies with none of them
  apart_on : (spelt : List Spelt) → StartsApart (most_at m1) (public_of m1.engine) m1.gathered.flown spelt → StartsApart (most_at m0) (public_of m0.engine) (length step.stmts) spelt
  apart_on spelt starts =
      let many : m1.gathered.flown ≡ length step.stmts = ap (λ (x : Gathered). x.flown) step.may.gathered in
      let most = most_on state m0 m1 flown given step in
      starts_as (most_at m0) (public_of m1.engine) (public_of m0.engine) (length step.stmts) spelt (sym (ap (λ (q : Public). q.tables) (public_on state m0 m1 flown given step)))
      (subst (λ (k : ℕ). StartsApart k (public_of m1.engine) (length step.stmts) spelt) most (subst (λ (k : ℕ). StartsApart (most_at m1) (public_of m1.engine) k spelt) many starts))

  -- each had ended by then only where all was asked by then
  asked_by_then : (n : ℕ) → All (λ (v : Position). v.until ≤ n) (positions_in fs_up) → length m1.store.asked ≤ n
  asked_by_then n all =
      let served = served_as step.stmts step.seens in
      let p = public_of m0.engine in
      let words = m0.flights.words in
      let vs = positions_in_flight p (asked_of m0) served words None 0 (length served) in
      let there : All (λ (v : Position). v.until ≤ n) vs = subst (λ (l : List Position). All (λ (v : Position). v.until ≤ n) l) (positions_are state m0 m1 step.stmts step.seens step.flew.ended (Ok tt) step.may ran_up None) all in
      let long = served_long step.stmts step.seens ran_up.long in
      all_until state m0 m1 step.stmts step.seens step.flew.ended (Ok tt) step.may ran_up n (λ i less.
      let zero : 0 + i ≡ i = omega arith in
      subst (λ (k : ℕ). asked_of m0 + asked_until words k (turns_of p served) (boarding p served) ≤ n) zero
      (all_get (λ (v : Position). v.until ≤ n) vs there i _ (positions_get p (asked_of m0) served words None 0 (length served) i (omega (arith, less, long)))))

  module _ (d : Draws) (drawn : AreDraws m0.engine d) (tells : IsTrue m0.store.tells) (steady : IsSteady m0.store) (tables : Tables) (held : Holds state m0 d tables) (n : ℕ) (before : IsBefore m0.store.disturbed n) where
    abbrev s0 : Session
    s0 = session_of m0 d tables

    abbrev s1 : Session
    s1 = session_of m1 d tables

    module _ (within : length m1.store.asked ≤ n) where
      quiet_on : IsQuiet m1.store
      quiet_on =
          let later = ran_up.ran.later in
          (later.steady steady).quiet (subst (λ (o : Option (List Disturbance)). IsBefore o (length m1.store.asked)) (sym later.disturbed) (before_less m0.store.disturbed (length m1.store.asked) n within before))

      held_on : Holds state m1 d tables
      held_on =
          let none = quiet_on.lie in
          holds_free state m1 d tables step.may.owed (ran_up.means.held tables (record {
            tells = tells;
            held = free_holds state m0 d tables step.may.free held;
            calm = first_calm state m0.engine m0.store (no_lie m0.store.lie m0.store m1.store refl ran_up.ran.later none);
            unfit = record { unfit = λ lie is. absurd (cc (none, is)) };
          }))

      same_up : in_flight_up ≡ flown_meant (session_of m0 d tables) step.stmts
      same_up =
          are_served state m0 m1 flown given step
          ∙ all_same state m0 m1 step.stmts step.seens step.flew.ended (Ok tt) step.may ran_up d tables held tells steady n before ran_up.all ran_up.ran.asked within

      met_on : (spelt : List Spelt) → StartsApart (most_at m1) (public_of m1.engine) m1.gathered.flown spelt
          → met_trace (most_at m0) m0.flights.words m0.gathered.batch s0 (map Ok step.stmts ++ spelt) ≡ merge (public_of m0.engine) (flown_meant s0 step.stmts) m0.flights.words ++ met_trace (most_at m0) m1.flights.words None s1 spelt
      met_on spelt starts =
          let p = public_of m0.engine in
          let words = m0.flights.words in
          let public = public_on state m0 m1 flown given step ∙ ap (λ (xs : List Entry). next_flight p xs words) same_up in
          let asked = asked_on state m0 m1 flown given step ∙ ap (λ (xs : List Entry). asked_of m0 + length (flight_accesses p xs None words)) same_up in
          met_flown (most_at m0) words s0 held.listed m1.flights.words s1 m0.gathered.batch step.stmts spelt step.may.fly step.may.some step.may.few (apart_on spelt starts)
          (words_on state m0 m1 flown given step ∙ ap (λ (xs : List Entry). words_from words (turns_of p xs)) same_up)
          (λ i. record { public = public i; tables = tables; asked = asked i; draws = d })

    module _ {Lost : Type 0} (ending : Ending) (m m2 : Machine R) (texts more : List (List ℕ)) (answers : List Answer) (part : List ℕ) (rest : Walked state Lost ending m1 m m2 texts more answers part) where
      abbrev all_behind : List Entry
      all_behind = rest.seen ++ rest.last

      abbrev spelt_all : List Spelt
      spelt_all = spelt_up state m0 m1 flown given step ++ rest.spelt

      there : length m1.store.asked ≤ n → EarlyFrom state n (most_at m1) m1.flights.words m1.gathered.batch (positions_at m1 rest.entries) s1 m1.store.asked m2.store.asked rest.spelt answers all_behind
      there within =
          let later = ran_up.ran.later in
          rest.early d (ran_up.ran.drawn d drawn) (subst (λ (b : Bool). IsTrue b) (sym later.tells) tells) (later.steady steady) tables (held_on within) (ap has_failed batch_on) n
          (subst (λ (o : Option (List Disturbance)). IsBefore o n) (sym later.disturbed) before) within

      meant_all : MeantUntil n m0.gathered.batch (positions_at m0 (at_turn state m0 m1 flown given step ∷ rest.entries)) s0 spelt_all (given ++ answers) ((in_flight_up ++ rest.seen) ++ rest.last)
      meant_all =
          let g = m0.gathered.batch in
          let means = all_early state m0 m1 step.stmts step.seens step.flew.ended (Ok tt) step.may ran_up d tables held tells steady n before None in
          subst (λ (vs : List Position). MeantUntil n g vs s0 spelt_all (given ++ answers) ((in_flight_up ++ rest.seen) ++ rest.last)) (positions_on state m0 m1 flown given step rest.entries)
          (subst (λ (l : List Entry). MeantUntil n g (positions_in fs_up ++ positions_at m1 rest.entries) s0 spelt_all (given ++ answers) l) (sym (append_assoc in_flight_up rest.seen rest.last))
          (whole_until n s0 (positions_at m1 rest.entries) rest.spelt answers all_behind fs_up given g (λ is. absurd (let none = ap length is in let some = step.may.some in let long = long_fs state m0 m1 flown given step in omega (arith, none, some, long)))
          (stood state m0 m1 flown given step) means (answered state m0 m1 flown given step)
          (λ all w ts ds. until_by n s1 w (sym ts) (sym ds) None (positions_at m1 rest.entries) rest.spelt answers all_behind
          (subst (λ (o : Option Gathering). MeantUntil n o (positions_at m1 rest.entries) s1 rest.spelt answers all_behind) batch_on (there (asked_by_then n all)).meant)) s0 refl refl))

      abbrev met_all : List Access
      met_all = met_trace (most_at m0) m0.flights.words m0.gathered.batch s0 spelt_all

      stmts_all : met_all ≡ met_trace (most_at m0) m0.flights.words m0.gathered.batch s0 (map Ok step.stmts ++ rest.spelt)
      stmts_all = ap (λ (l : List Stmt). met_trace (most_at m0) m0.flights.words m0.gathered.batch s0 (map Ok l ++ rest.spelt)) (are_stmts state m0 m1 flown given step)

      joined : length m1.store.asked ≤ n → m1.store.asked ++ met_trace (most_at m1) m1.flights.words m1.gathered.batch s1 rest.spelt ≡ m0.store.asked ++ met_all
      joined within =
          let p = public_of m0.engine in
          let words = m0.flights.words in
          let grew = grew_by state m0 m1 flown given step in
          let most = most_on state m0 m1 flown given step in
          let behind = met_trace (most_at m0) m1.flights.words None s1 rest.spelt in
          (λ i. grew i ++ met_trace (most i) m1.flights.words (batch_on i) s1 rest.spelt)
          ∙ append_assoc m0.store.asked (merge p in_flight_up words) behind
          ∙ ap (λ (xs : List Entry). m0.store.asked ++ (merge p xs words ++ behind)) (same_up within)
          ∙ ap (λ (l : List Access). m0.store.asked ++ l) (sym (stmts_all ∙ met_on within rest.spelt rest.entered.starts))

      early_all : length m0.store.asked ≤ n
          → EarlyFrom state n (most_at m0) m0.flights.words m0.gathered.batch (positions_at m0 (at_turn state m0 m1 flown given step ∷ rest.entries)) s0 m0.store.asked m2.store.asked spelt_all (given ++ answers) ((in_flight_up ++ rest.seen) ++ rest.last)
      early_all few = elim (few_or_more (length m1.store.asked) n) [
        | inl within ↦ record {
          meant = meant_all;
          begins = subst (λ (l : List Access). Begins (take n m2.store.asked) l) (joined within) (there within).begins;
          quiet = λ le. (there within).quiet (subst (λ (l : List Access). length l ≤ n) (sym (joined within)) le);
        }
        | inr past ↦
            let p = public_of m0.engine in
            let words = m0.flights.words in
            let all = merge p (flown_meant s0 step.stmts) words in
            let cut : take n m2.store.asked ≡ take n m1.store.asked = ap (take n) rest.asked ∙ take-append-le n m1.store.asked (trace_at m1 rest.entries) (omega (arith, past)) in
            let asks = asks_so state m0 m1 step.stmts step.seens step.flew.ended (Ok tt) step.may ran_up d tables held rest.spelt (apart_on rest.spelt rest.entered.starts) in
            let same : met_all ≡ all ++ asks.behind = stmts_all ∙ asks.asks in
            record {
              meant = meant_all;
              begins = subst (λ (l : List Access). Begins l (m0.store.asked ++ met_all)) (sym cut)
                  (subst (λ (l : List Access). Begins (take n m1.store.asked) (m0.store.asked ++ l)) (sym same)
                  (begins_early state m0 m1 step.stmts step.seens step.flew.ended (Ok tt) step.may ran_up d tables held tells steady n before few asks.behind));
              quiet = λ le. absurd (
                  let more = asks_more state m0 m1 step.stmts step.seens step.flew.ended (Ok tt) step.may ran_up d tables held tells steady n before few past in
                  let long = ap length same in
                  let parts = length-append all asks.behind in
                  let whole = length-append m0.store.asked met_all in
                  omega (arith, le, more, long, parts, whole));
            }
      ]

pub flies_early : {R : Type 0} {Lost : Type 0} (state : R → RevState) → FliesEarly state Lost
flies_early state ending m0 m1 m m2 flown texts more given answers part step rest d drawn tells steady tables held sound n before few =
    early_all state m0 m1 flown given step d drawn tells steady tables held n before ending m m2 texts more answers part rest few
