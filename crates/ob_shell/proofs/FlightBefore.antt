-- What flies before others disturb the store: the first of what it asks is meant, and each that had ended by then is as it is meant.
use Rattle.ob_shell.proofs.Words.{Access, All, answer_labels, ap, append_assoc, arith, asked_of, Begins, Bool, cases_lt, Disturbance, Draws, drop, Err, false, headings, headings_of, inl, inr, IsBefore, IsSteady, IsTrue, length, length-append, length-map, List, Machine, map, MayFly, None, Ok, Option, option_map_or, outcome_of, Public, public_of, RanInFlight, refl, Represents, Result, RevState, RunStop, Seen, served_as, served_long, Session, session_of, skeleton, slice_get, Some, Stmt, subst, suc, sym, Tables, take, take-append-drop, true, turns_of, zero, ℕ, [], ◌++◌, ◌+◌, ◌-◌, ◌<◌, ◌∙◌, ◌∷◌, ◌≡◌, ◌≤◌}
use Rattle.std.proofs.lemmas.List.{length-take, take-take, take_all}
use Rattle.std.proofs.lemmas.Option.{slice_get_within}
use Rattle.ob_exec.specs.RanFlight.{EndedWithin, asked_since, in_flight, meant_of, stopped_after}
use Rattle.ob_headline.proofs.UntilLemmas.{until_not}
use Rattle.ob_headline.specs.Disturbed.{flown_meant}
use Rattle.ob_headline.specs.Flights.{asked_until, has_ended}
use Rattle.ob_inflight.specs.Closing.{Closed}
use Rattle.ob_mean.specs.Prints.{Prints}
use Rattle.ob_mean.specs.Verdict.{seen as seen_by, verdict}
use Rattle.ob_script.proofs.FlightEnds.{all_ended, flying_long, turns_needed}
use Rattle.ob_script.proofs.FlightTurns.{goes_or_rests}
use Rattle.ob_script.proofs.ListPlaces.{get_none}
use Rattle.ob_script.specs.Flights.{AreSteady, Flight, Flying, boarding, flight, flight_accesses, flight_public, merge, turns}
use Rattle.ob_script.specs.Trace.{Served}
use Rattle.ob_shell.proofs.DisturbLemmas.{before_less}
use Rattle.ob_shell.proofs.EndedUntil.{ended_at, ended_until}
use Rattle.ob_shell.proofs.FlightFacts.{fs, places}
use Rattle.ob_shell.proofs.FlightSteady.{steady_flown}
use Rattle.ob_shell.proofs.FlightUntil.{AsMeant, as_meant}
use Rattle.ob_shell.proofs.FlownLists.{StmtInFlight, each_flown}
use Rattle.ob_shell.proofs.ReplayLemmas.{free_holds}
use Rattle.ob_shell.specs.FlightAnswers.{asked_own}
use Rattle.ob_shell.specs.Steps.{Holds}

-- ---- first parts of lists
take_past : {A : Type 0} (n : ℕ) (xs ys : List A) → length xs ≤ n → take n (xs ++ ys) ≡ xs ++ take (n - length xs) ys
take_past n [] ys few = let same : n ≡ n - 0 = omega arith in ap (λ (k : ℕ). take k ys) same
take_past zero (x ∷ xs) ys few = absurd (omega (arith, few))
take_past (suc n) (x ∷ xs) ys few =
    let same : n - length xs ≡ suc n - suc (length xs) = omega arith in
    ap (λ (l : List _). x ∷ l) (take_past n xs ys (omega (arith, few)) ∙ ap (λ (k : ℕ). xs ++ take k ys) same)

-- ---- statements by what is seen of each
mapped_served : (f : Stmt → Seen) (stmts : List Stmt) → served_as stmts (map f stmts) ≡ map (λ (stmt : Stmt). record { skeleton = skeleton stmt; seen = f stmt }) stmts
mapped_served f [] = refl
mapped_served f (stmt ∷ stmts) = ap (λ (l : List Served). record { skeleton = skeleton stmt; seen = f stmt } ∷ l) (mapped_served f stmts)

seens_are : (f : Stmt → Seen) (stmts : List Stmt) (seens : List Seen) → length seens ≡ length stmts → ((k : ℕ) (stmt : Stmt) (seen : Seen) → slice_get stmts k ≡ Some stmt → slice_get seens k ≡ Some seen → seen ≡ f stmt) → seens ≡ map f stmts
seens_are f [] [] long each = refl
seens_are f [] (seen ∷ seens) long each = absurd (omega (arith, long))
seens_are f (stmt ∷ stmts) [] long each = absurd (omega (arith, long))
seens_are f (stmt ∷ stmts) (seen ∷ seens) long each =
    let first = each 0 stmt seen refl refl in
    let rest = seens_are f stmts seens (omega (arith, long)) (λ k s x get shown. each (suc k) s x get shown) in
    λ i. first i ∷ rest i

-- ---- when all had ended
module _ (p : Public) (flown : List Served) (words : ℕ → ℕ) (steady : AreSteady p flown) where
  ended_of : (i : ℕ) (o : Option Flying) (s : Flight) (b : Bool) → slice_get s.flying i ≡ o → option_map_or (λ (f : Flying). f.ended) o false ≡ b → has_ended i s ≡ b
  ended_of i o s b at is = ap (λ (x : Option Flying). option_map_or (λ (f : Flying). f.ended) x false) at ∙ is

  has_all : (i : ℕ) → i < length flown → has_ended i (flight p flown words) ≡ true
  has_all i less = go (slice_get (flight p flown words).flying i) refl
    where
      go : (o : Option Flying) → slice_get (flight p flown words).flying i ≡ o → has_ended i (flight p flown words) ≡ true
      go (Some f) at = ended_of i (Some f) (flight p flown words) true at ((all_ended p flown words steady (turns_of p flown) (omega arith)).each i f at)
      go None at = absurd (let past = get_none (flight p flown words).flying i at in let long = flying_long p flown words steady (turns_of p flown) in omega (arith, past, long, less))

  -- the last of them ends when all was asked
  last_ended : (k : ℕ) → ((i : ℕ) → i < length flown → asked_until words i (turns_of p flown) (boarding p flown) ≤ k) → length (merge p flown words) ≤ k
  unfolding turns
  last_ended k each =
      let log = (flight p flown words).log in
      let all = go (turns_of p flown) refl in
      let long = length-map log (λ (e : ℕ × Access). e.1) in
      omega (arith, all, long)
    where
      none_first : length (turns words 0 (boarding p flown)).log ≤ k
      none_first = omega arith

      go : (t : ℕ) → turns_of p flown ≡ t → length (turns words t (boarding p flown)).log ≤ k
      go zero is = none_first
      go (suc t) is = elim (goes_or_rests (words t) (turns words t (boarding p flown))) [
        | inl all ↦ absurd (let most = turns_needed p flown words steady t all in omega (arith, most, is))
        | inr one ↦
            let within = slice_get_within (turns words t (boarding p flown)).flying one.place one.flying one.picks.at in
            let long = flying_long p flown words steady t in
            let not : has_ended one.place (turns words t (boarding p flown)) ≡ false = ended_of one.place (Some one.flying) (turns words t (boarding p flown)) false one.picks.at one.picks.goes_on in
            let least = until_not words one.place (boarding p flown) t (suc t) (omega arith) not in
            let most : asked_until words one.place (suc t) (boarding p flown) ≤ k = subst (λ (u : ℕ). asked_until words one.place u (boarding p flown) ≤ k) is (each one.place (omega (arith, within, long))) in
            omega (arith, least, most)
      ]

-- ---- of each
-- one that has ended is answered and seen as it is meant, if it had ended by then
pub record EarlySo (s : Session) (f : StmtInFlight) (how : Closed) : Type 0 where
  pub answered : how.outcome ≡ outcome_of f.stmt (verdict f.position.public f.position.asked s.tables f.stmt)
  pub shown : f.seen ≡ seen_by s.draws f.position.public f.position.asked s.tables f.stmt
  pub prints : Prints (answer_labels f.stmt f.position.public) (verdict f.position.public f.position.asked s.tables f.stmt) how.events

pub record MeansEarly (n : ℕ) (s : Session) (f : StmtInFlight) : Type 0 where
  pub listed : headings s.tables ≡ headings_of f.position.public.tables
  pub told : (how : Closed) → f.closed ≡ Some how → f.position.until ≤ n → EarlySo s f how

module _ {R : Type 0} (state : R → RevState) (m0 m1 : Machine R) (stmts : List Stmt) (seens : List Seen) (ended : List Closed) (result : Result (Unit {0}) RunStop) (may : MayFly state m0 m1 stmts)
    (ran : RanInFlight state m0.flights.words m1.flights.words stmts seens ended result m0.engine m0.store m1.engine m1.store) where
  abbrev p : Public
  p = public_of m0.engine

  abbrev words : ℕ → ℕ
  words = m0.flights.words

  abbrev flown : List Served
  flown = served_as stmts seens

  abbrev total : ℕ
  total = asked_since m0.store m1.store

  steady_all : AreSteady p flown
  steady_all = steady_flown state m0 m1 stmts seens ended result may ran

  long_is : length flown ≡ length stmts
  long_is = served_long stmts seens ran.long

  -- what was asked
  grew_by : (r : Result (Unit {0}) RunStop) → m1.store.asked ≡ m0.store.asked ++ flight_accesses p flown (stopped_after r total) words → m1.store.asked ≡ m0.store.asked ++ take total (merge p flown words)
  grew_by (Ok x) is =
      let all = merge p flown words in
      let long = ap length is in
      let both = length-append m0.store.asked all in
      let most : length all ≤ total = omega (arith, long, both) in
      is ∙ ap (λ (l : List Access). m0.store.asked ++ l) (sym (take_all total all most))
  grew_by (Err stop) is = is

  grew : m1.store.asked ≡ m0.store.asked ++ take total (merge p flown words)
  grew = grew_by result ran.ran.asked

  few_asked : total ≤ length (merge p flown words)
  few_asked =
      let all = merge p flown words in
      let long = ap length grew in
      let both = length-append m0.store.asked (take total all) in
      let part = length-take total all in
      omega (arith, long, both, part)

  many : length m1.store.asked ≡ length m0.store.asked + total
  many =
      let all = merge p flown words in
      let long = ap length grew in
      let both = length-append m0.store.asked (take total all) in
      omega (arith, long, both)

  module _ (d : Draws) (tables : Tables) (held : Holds state m0 d tables) (tells : IsTrue m0.store.tells) (steady : IsSteady m0.store) (n : ℕ) (before : IsBefore m0.store.disturbed n) where
    abbrev s : Session
    s = session_of m0 d tables

    stands : Represents state m0.engine m0.store tables
    stands = free_holds state m0 d tables may.free held

    abbrev shows : Stmt → Seen
    shows stmt = seen_by d (in_flight stmts p) (asked_of m0) tables stmt

    are_meant : meant_of d p (asked_of m0) tables stmts ≡ flown_meant s stmts
    are_meant = mapped_served (λ (stmt : Stmt). seen_by d (in_flight stmts p) (asked_of m0) tables stmt) stmts

    -- ---- what is asked by then
    firsts : (k : ℕ) → k < total → length m0.store.asked + k ≤ n → take (k + 1) (merge p flown words) ≡ take (k + 1) (merge p (flown_meant s stmts) words)
    firsts k less few =
        let a = ran.means.asks k less in
        let most = a.few in
        let quiet = (a.later.steady steady).quiet (subst (λ (o : Option (List Disturbance)). IsBefore o (length a.mid.asked)) (sym a.later.disturbed) (before_less m0.store.disturbed (length a.mid.asked) n (omega (arith, most, few)) before)) in
        a.told tables d (record { tells = tells; held = stands; nolie = quiet.lie }) quiet.faults
        ∙ ap (λ (xs : List Served). take (k + 1) (merge p xs words)) are_meant

    same_first : (h : ℕ) → h ≤ total → length m0.store.asked + h ≤ n + 1 → take h (merge p flown words) ≡ take h (merge p (flown_meant s stmts) words)
    same_first zero le few = refl
    same_first (suc k) le few =
        let next : k + 1 ≡ suc k = omega arith in
        subst (λ (j : ℕ). take j (merge p flown words) ≡ take j (merge p (flown_meant s stmts) words)) next (firsts k (omega (arith, le)) (omega (arith, few)))

    begins_by : (h : ℕ) → h ≤ total → length m0.store.asked + h ≤ n + 1 → take n m1.store.asked ≡ m0.store.asked ++ take h (merge p flown words) → (behind : List Access) → Begins (take n m1.store.asked) (m0.store.asked ++ (merge p (flown_meant s stmts) words ++ behind))
    begins_by h le few is behind =
        let all = merge p (flown_meant s stmts) words in
        let same : take n m1.store.asked ≡ m0.store.asked ++ take h all = is ∙ ap (λ (l : List Access). m0.store.asked ++ l) (same_first h le few) in
        record {
          rest = drop h all ++ behind;
          joined = ap (λ (l : List Access). m0.store.asked ++ (l ++ behind)) (sym (take-append-drop h all))
              ∙ ap (λ (l : List Access). m0.store.asked ++ l) (append_assoc (take h all) (drop h all) behind)
              ∙ sym (append_assoc m0.store.asked (take h all) (drop h all ++ behind))
              ∙ ap (λ (l : List Access). l ++ (drop h all ++ behind)) (sym same);
        }

    first_of_both : length m0.store.asked ≤ n → take n m1.store.asked ≡ m0.store.asked ++ take (n - length m0.store.asked) (take total (merge p flown words))
    first_of_both few = ap (take n) grew ∙ take_past n m0.store.asked (take total (merge p flown words)) few

    -- they begin with what is meant
    pub begins_early : length m0.store.asked ≤ n → (behind : List Access) → Begins (take n m1.store.asked) (m0.store.asked ++ (merge p (flown_meant s stmts) words ++ behind))
    begins_early few behind = elim (cases_lt (n - length m0.store.asked) total) [
      | inl past ↦ begins_by (n - length m0.store.asked) (omega (arith, past)) (omega (arith, few))
          (first_of_both few ∙ ap (λ (l : List Access). m0.store.asked ++ l) (take-take (n - length m0.store.asked) total (merge p flown words) (omega (arith, past)))) behind
      | inr within ↦
          let all = take total (merge p flown words) in
          let part = length-take total (merge p flown words) in
          begins_by total (omega arith) (omega (arith, few, within))
          (first_of_both few ∙ ap (λ (l : List Access). m0.store.asked ++ l) (take_all (n - length m0.store.asked) all (omega (arith, part, within)))) behind
    ]

    -- and the meaning asks more, where more was asked
    pub asks_more : length m0.store.asked ≤ n → n < length m1.store.asked → n < length m0.store.asked + length (merge p (flown_meant s stmts) words)
    asks_more few past =
        let k = n - length m0.store.asked in
        let sum = many in
        let same = ap length (firsts k (omega (arith, few, past, sum)) (omega (arith, few))) in
        let one = length-take (k + 1) (merge p flown words) in
        let other = length-take (k + 1) (merge p (flown_meant s stmts) words) in
        let most = few_asked in
        omega (arith, few, past, sum, same, one, other, most)

    -- ---- of each that had ended by then
    early_at : (k j : ℕ) (stmt : Stmt) (seen : Seen) (how : Closed) → slice_get stmts k ≡ Some stmt → slice_get seens k ≡ Some seen → slice_get ended k ≡ Some how → EndedWithin p flown words j k → length m0.store.asked + j ≤ n
        → AsMeant d stmts tables stmt seen how m0.engine m0.store
    early_at k j stmt seen how get shown closed within few =
        as_meant state stmts (asked_own p words stmts seens m0.store m1.store k) j stmt seen how m0.engine m0.store m1.store (ran.means.earlier k j stmt seen how get shown closed within) steady n before few tables d tells stands

    has_here : (k : ℕ) (stmt : Stmt) → slice_get stmts k ≡ Some stmt → has_ended k (flight p flown words) ≡ true
    has_here k stmt get = has_all p flown words steady_all k (let less = slice_get_within stmts k stmt get in let long = long_is in omega (arith, less, long))

    early_until : (k : ℕ) (stmt : Stmt) (seen : Seen) (how : Closed) → slice_get stmts k ≡ Some stmt → slice_get seens k ≡ Some seen → slice_get ended k ≡ Some how → asked_of m0 + asked_until words k (turns_of p flown) (boarding p flown) ≤ n
        → AsMeant d stmts tables stmt seen how m0.engine m0.store
    early_until k stmt seen how get shown closed few =
        let j = asked_until words k (turns_of p flown) (boarding p flown) in
        early_at k j stmt seen how get shown closed (ended_until p flown words k j (turns_of p flown) (has_here k stmt get) (omega arith)) (omega (arith, few))

    pub all_early : (left : Option ℕ) → All (MeansEarly n (session_of m0 d tables)) (fs state m0 m1 stmts seens ended result may ran left)
    all_early left = each_flown (places state m0 m1 stmts seens ended result may ran left) (MeansEarly n (session_of m0 d tables)) 0 stmts seens ended (λ k stmt seen get shown. record {
      listed = held.listed;
      told = λ how closed few.
          let at : 0 + k ≡ k = omega arith in
          let there : asked_of m0 + asked_until words k (turns_of p flown) (boarding p flown) ≤ n = subst (λ (i : ℕ). asked_of m0 + asked_until words i (turns_of p flown) (boarding p flown) ≤ n) at few in
          let told = early_until k stmt seen how get shown closed there in
          record {
            answered = subst (λ (i : ℕ). how.outcome ≡ outcome_of stmt (verdict (flight_public i p) (asked_of m0) tables stmt)) (sym long_is) told.answered;
            shown = subst (λ (i : ℕ). seen ≡ seen_by d (flight_public i p) (asked_of m0) tables stmt) (sym long_is) told.shown;
            prints = subst (λ (i : ℕ). Prints (answer_labels stmt (flight_public i p)) (verdict (flight_public i p) (asked_of m0) tables stmt) how.events) (sym long_is) told.prints;
          };
    })

    -- ---- where all was
    seen_early : length ended ≡ length stmts → m1.store.asked ≡ m0.store.asked ++ merge p flown words → length m1.store.asked ≤ n → (k : ℕ) (stmt : Stmt) (seen : Seen) → slice_get stmts k ≡ Some stmt → slice_get seens k ≡ Some seen → seen ≡ shows stmt
    seen_early all whole few k stmt seen get shown = go (slice_get ended k) refl
      where
        go : (o : Option Closed) → slice_get ended k ≡ o → seen ≡ shows stmt
        go None at = absurd (let past = get_none ended k at in let less = slice_get_within stmts k stmt get in omega (arith, past, less, all))
        go (Some how) at =
            let log = (flight p flown words).log in
            let long = length-map log (λ (e : ℕ × Access). e.1) in
            let sum = ap length whole ∙ length-append m0.store.asked (merge p flown words) in
            (early_at k (length (merge p flown words)) stmt seen how get shown at (ended_at p flown words k (length (merge p flown words)) (turns_of p flown) (has_here k stmt get) (omega (arith, long))) (omega (arith, sum, few))).shown

    pub all_same : length ended ≡ length stmts → m1.store.asked ≡ m0.store.asked ++ merge (public_of m0.engine) (served_as stmts seens) m0.flights.words → length m1.store.asked ≤ n → served_as stmts seens ≡ flown_meant (session_of m0 d tables) stmts
    all_same all whole few = ap (served_as stmts) (seens_are shows stmts seens ran.long (seen_early all whole few)) ∙ are_meant

  -- all had ended only when all was asked
  pub all_until : (n : ℕ) → ((i : ℕ) → i < length stmts → asked_of m0 + asked_until m0.flights.words i (turns_of (public_of m0.engine) (served_as stmts seens)) (boarding (public_of m0.engine) (served_as stmts seens)) ≤ n) → length m1.store.asked ≤ n
  all_until n each =
      let sum = many in
      let most = few_asked in
      let long = long_is in
      elim (cases_lt n (asked_of m0)) [
        | inl none ↦ absurd (let one = each 0 (let some = may.some in omega (arith, some)) in omega (arith, one, none))
        | inr some ↦
            let all = last_ended p flown words steady_all (n - asked_of m0) (λ i less. let one = each i (omega (arith, less, long)) in omega (arith, one)) in
            omega (arith, all, sum, most, some)
      ]
