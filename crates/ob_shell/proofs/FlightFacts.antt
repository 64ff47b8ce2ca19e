-- What is known of each statement of a flight, from what the engine did.
use Rattle.ob_shell.proofs.Words.{All, All-head, All-tail, Answer, answer_of, ap, AreSpelt, arith, asked_of, Draws, drop, Emitted, headings, headings_of, IsFlown, length, List, Machine, map, may_fly, MayFly, None, Ok, Option, Public, public_of, RanInFlight, ReadsTrueUntil, refl, Result, RevState, RunStop, Seen, served_as, served_long, Session, session_of, skeleton, slice_get, Some, SpellFirst, Spelt, statements, Stmt, subst, suc, sym, Tables, take, true, turns_of, zero, ℕ, [], ◌++◌, ◌+◌, ◌<◌, ◌∙◌, ◌∷◌, ◌≡◌, ◌≤◌}
use Rattle.ob_exec.specs.InFlight.{IsMeant}
use Rattle.ob_exec.specs.RanFlight.{asked_by, asked_since, carried_out}
use Rattle.ob_headline.specs.Flights.{asked_until, position_in_flight, positions_in_flight, stand_at}
use Rattle.ob_inflight.specs.Closing.{Closed}
use Rattle.ob_script.specs.Flights.{boarding, flight_public}
use Rattle.ob_script.specs.Trace.{Served}
use Rattle.ob_shell.proofs.FlightMeant.{AllMean, Means, meant_so}
use Rattle.ob_shell.proofs.FlightSeen.{AllAnswered, FirstAnswered, GoesBy, IsIn, PlacesFrom, Stood, flown_places}
use Rattle.ob_shell.proofs.FlownLists.{StmtInFlight, Places, each_flown, flown_at, flown_list, flown_positions, flown_served, flown_stmts, positions_in, served_in_all, stmts_in}
use Rattle.ob_shell.proofs.HowLemmas.{may_by}
use Rattle.ob_shell.specs.FlightAnswers.{answers_of, asked_own}

-- ---- lists
pub all_get : {A : Type 0} (P : A → Type 0) (xs : List A) → All P xs → (k : ℕ) (x : A) → slice_get xs k ≡ Some x → P x
all_get P [] all k x is = absurd (cc is)
all_get P (y ∷ xs) all zero x is = let same : y ≡ x = cc is in subst P same (All-head P y xs all)
all_get P (y ∷ xs) all (suc k) x is = all_get P xs (All-tail P y xs all) k x is

pub past_none : {A : Type 0} (xs : List A) (i : ℕ) → slice_get xs i ≡ None → length xs ≤ i
past_none [] i is = omega arith
past_none (x ∷ xs) zero is = absurd (cc is)
past_none (x ∷ xs) (suc i) is = let rest = past_none xs i is in omega (arith, rest)

pub get_less : {A : Type 0} (xs : List A) (k : ℕ) (x : A) → slice_get xs k ≡ Some x → k < length xs
get_less [] k x is = absurd (cc is)
get_less (y ∷ xs) zero x is = omega arith
get_less (y ∷ xs) (suc k) x is = let rest = get_less xs k x is in omega (arith, rest)

-- ---- their answers
pub whole_answered : (at : Places) (i : ℕ) (stmts : List Stmt) (seens : List Seen) (ended : List Closed) → length seens ≡ length stmts → length ended ≡ length stmts → AllAnswered (flown_list at i stmts seens ended) (answers_of ended seens)
unfolding flown_list
whole_answered at i [] seens [] long all = tt
whole_answered at i [] seens (one ∷ ended) long all = absurd (omega (arith, all))
whole_answered at i (stmt ∷ stmts) [] ended long all = absurd (omega (arith, long))
whole_answered at i (stmt ∷ stmts) (seen ∷ seens) [] long all = absurd (omega (arith, all))
whole_answered at i (stmt ∷ stmts) (seen ∷ seens) (one ∷ ended) long all =
    (record { how = one; closed = refl; is = refl }, whole_answered at (i + 1) stmts seens ended (omega (arith, long)) (omega (arith, all)))

-- of the first that have ended
pub first_answered : (at : Places) (i : ℕ) (stmts : List Stmt) (seens : List Seen) (ended : List Closed) (kept lost : List Answer) → length seens ≡ length stmts → length ended ≤ length stmts → answers_of ended seens ≡ kept ++ lost
    → FirstAnswered (flown_list at i stmts seens ended) kept
unfolding flown_list
first_answered at i stmts seens ended [] lost long few is = tt
first_answered at i [] seens [] (a ∷ kept) lost long few is = absurd (cc is)
first_answered at i [] seens (one ∷ ended) (a ∷ kept) lost long few is = absurd (omega (arith, few))
first_answered at i (stmt ∷ stmts) [] ended (a ∷ kept) lost long few is = absurd (omega (arith, long))
first_answered at i (stmt ∷ stmts) (seen ∷ seens) [] (a ∷ kept) lost long few is = absurd (cc is)
first_answered at i (stmt ∷ stmts) (seen ∷ seens) (one ∷ ended) (a ∷ kept) lost long few is =
    let head : answer_of one seen ≡ a = cc is in
    let rest : answers_of ended seens ≡ kept ++ lost = cc is in
    (record { how = one; closed = refl; is = sym head }, first_answered at (i + 1) stmts seens ended kept lost (omega (arith, long)) (omega (arith, few)) rest)

-- ---- what they mean
pub all_mean : (s : Session) (fs : List StmtInFlight) (given : List Answer) → All Stood fs → All (Means s) fs → AllAnswered fs given → AllMean s fs given
all_mean s [] [] stood means all = tt
all_mean s [] (one ∷ given) stood means all = absurd all
all_mean s (f ∷ fs) [] stood means all = absurd all
all_mean s (f ∷ fs) (one ∷ given) stood means all =
    (meant_so s f one (All-head Stood f fs stood) all.0 (All-head (Means s) f fs means), all_mean s fs given (All-tail Stood f fs stood) (All-tail (Means s) f fs means) all.1)

-- ---- texts
pub spell_flown : (texts more : List (List ℕ)) (stmts : List Stmt) (spelt : List Spelt) → AreSpelt texts stmts → SpellFirst more spelt → SpellFirst (texts ++ more) (map Ok stmts ++ spelt)
unfolding SpellFirst
spell_flown [] more [] spelt are rest = rest
spell_flown [] more (stmt ∷ stmts) spelt are rest = absurd are
spell_flown (text ∷ texts) more [] spelt are rest = absurd are
spell_flown (text ∷ texts) more (stmt ∷ stmts) spelt are rest = (are.0, spell_flown texts more stmts spelt are.1 rest)

pub spelt_long : (texts : List (List ℕ)) (stmts : List Stmt) → AreSpelt texts stmts → length texts ≡ length stmts
spelt_long [] [] are = refl
spelt_long [] (stmt ∷ stmts) are = absurd are
spelt_long (text ∷ texts) [] are = absurd are
spelt_long (text ∷ texts) (stmt ∷ stmts) are = ap (λ (n : ℕ). suc n) (spelt_long texts stmts are.1)

pub statements_more : (stmts : List Stmt) (n k : ℕ) (spelt : List Spelt) → k ≡ length stmts + n → length (statements (take k (map Ok stmts ++ spelt))) ≡ length stmts + length (statements (take n spelt))
unfolding statements
statements_more [] n k spelt is = let same : k ≡ n = omega (arith, is) in ap (λ (j : ℕ). length (statements (take j spelt))) same ∙ (let none : length (statements (take n spelt)) ≡ 0 + length (statements (take n spelt)) = omega arith in none)
statements_more (stmt ∷ stmts) n zero spelt is = absurd (omega (arith, is))
statements_more (stmt ∷ stmts) n (suc k) spelt is = let rest = statements_more stmts n k spelt (omega (arith, is)) in omega (arith, rest)

pub drop_more : {A : Type 0} (xs ys : List A) (n k : ℕ) → k ≡ length xs + n → drop k (xs ++ ys) ≡ drop n ys
drop_more [] ys n k is = let same : k ≡ n = omega (arith, is) in ap (λ (j : ℕ). drop j ys) same
drop_more (x ∷ xs) ys n zero is = absurd (omega (arith, is))
drop_more (x ∷ xs) ys n (suc k) is = drop_more xs ys n k (omega (arith, is))

-- ---- when each had ended
-- it has exactly where it had when so many accesses were asked
abbrev pub ByThen : Option Closed → (until asked : ℕ) → Type 0
ByThen (Some one) until asked = until ≤ asked
ByThen None until asked = asked ≤ until

-- so each of the first n
abbrev pub EachBy : (words : ℕ → ℕ) → Public → List Served → List Closed → (asked n : ℕ) → Type 0
EachBy words p flown ended asked n = (i : ℕ) → i < n → ByThen (slice_get ended i) (asked_until words i (turns_of p flown) (boarding p flown)) asked

goes_by : (words : ℕ → ℕ) (p : Public) (m : ℕ) (flown : List Served) (asked i : ℕ) (o : Option Closed) → ByThen o (asked_until words i (turns_of p flown) (boarding p flown)) asked
    → GoesBy o (Some (stand_at p flown words i asked)) (position_in_flight p m flown words (Some asked) i)
goes_by words p m flown asked i (Some one) by = omega (arith, by)
goes_by words p m flown asked i None by = omega (arith, by)

-- ---- of each
module _ {R : Type 0} (state : R → RevState) (m0 m1 : Machine R) (stmts : List Stmt) (seens : List Seen) (ended : List Closed) (result : Result (Unit {0}) RunStop) (may : MayFly state m0 m1 stmts)
    (ran : RanInFlight state m0.flights.words m1.flights.words stmts seens ended result m0.engine m0.store m1.engine m1.store) (left : Option ℕ) where
  abbrev p : Public
  p = public_of m0.engine

  abbrev words : ℕ → ℕ
  words = m0.flights.words

  abbrev pub flown : List Served
  flown = served_as stmts seens

  abbrev pub places : Places
  places = record {
    position = position_in_flight p (asked_of m0) flown words left;
    own = asked_own p words stmts seens m0.store m1.store;
    done = asked_by p words stmts seens (carried_out result (asked_since m0.store m1.store));
  }

  abbrev pub fs : List StmtInFlight
  fs = flown_list places 0 stmts seens ended

  long_is : length stmts ≡ length flown
  long_is = sym (served_long stmts seens ran.long)

  zero_more : (k : ℕ) → 0 + k ≡ k
  zero_more k = omega arith

  at_place : (P : StmtInFlight → Type 0) (k : ℕ) (stmt : Stmt) (seen : Seen) (closed : Option Closed) → P (flown_at places k stmt seen closed) → P (flown_at places (0 + k) stmt seen closed)
  at_place P k stmt seen closed = subst (λ (n : ℕ). P (flown_at places n stmt seen closed)) (sym (zero_more k))

  pub all_stood : All Stood fs
  all_stood = each_flown places Stood 0 stmts seens ended (λ k stmt seen get shown. at_place Stood k stmt seen (slice_get ended k) (record {
    fly = may_by p (flight_public (length flown) p) (skeleton stmt) refl ∙ all_get (λ (x : Stmt). may_fly p (skeleton x) ≡ true) stmts may.fly k stmt get;
    flown = subst (λ (n : ℕ). IsFlown (flight_public n p) (asked_of m0) (asked_own p words stmts seens m0.store m1.store k) stmt seen (slice_get ended k)) long_is (ran.each k stmt seen get shown);
    emits = λ one closed. ran.emits k stmt one get closed;
  }))

  pub all_places : PlacesFrom 0 fs
  all_places = flown_places places (λ i. refl) 0 stmts seens ended

  pub all_unleft : left ≡ None → All (λ (f : StmtInFlight). f.position.left ≡ None) fs
  all_unleft none = each_flown places (λ (f : StmtInFlight). f.position.left ≡ None) 0 stmts seens ended (λ k stmt seen get shown. ap (λ (o : Option ℕ). (position_in_flight p (asked_of m0) flown words o (0 + k)).left) none)

  -- where so many accesses were asked when they were left
  pub in_at : left ≡ Some (asked_since m0.store m1.store) → EachBy words p flown ended (asked_since m0.store m1.store) (length stmts) → (k : ℕ) (stmt : Stmt) → slice_get stmts k ≡ Some stmt
      → GoesBy (slice_get ended k) (places.position (0 + k)).left (places.position (0 + k))
  in_at is each k stmt get =
      subst (λ (o : Option ℕ). GoesBy (slice_get ended k) (position_in_flight p (asked_of m0) flown words o (0 + k)).left (position_in_flight p (asked_of m0) flown words o (0 + k))) (sym is)
      (subst (λ (n : ℕ). GoesBy (slice_get ended k) (Some (stand_at p flown words n (asked_since m0.store m1.store))) (position_in_flight p (asked_of m0) flown words (Some (asked_since m0.store m1.store)) n)) (sym (zero_more k))
      (goes_by words p (asked_of m0) flown (asked_since m0.store m1.store) k (slice_get ended k) (each k (get_less stmts k stmt get))))

  pub all_in : left ≡ Some (asked_since m0.store m1.store) → EachBy words p flown ended (asked_since m0.store m1.store) (length stmts) → All IsIn fs
  all_in is each = each_flown places IsIn 0 stmts seens ended (λ k stmt seen get shown. record {
    stand = stand_at p flown words (0 + k) (asked_since m0.store m1.store);
    left = ap (λ (o : Option ℕ). (position_in_flight p (asked_of m0) flown words o (0 + k)).left) is;
    own = refl;
    by = in_at is each k stmt get;
  })

  pub positions_are : positions_in fs ≡ positions_in_flight p (asked_of m0) flown words left 0 (length flown)
  positions_are = flown_positions places p (asked_of m0) flown words left (λ i. refl) 0 stmts seens ended ran.long ∙ ap (λ (n : ℕ). positions_in_flight p (asked_of m0) flown words left 0 n) long_is

  pub served_are : served_in_all fs ≡ flown
  served_are = flown_served places 0 stmts seens ended

  pub stmts_are : stmts_in fs ≡ stmts
  stmts_are = flown_stmts places 0 stmts seens ended ran.long

  -- over the tables before
  pub all_means : (d : Draws) (tables : Tables) → headings tables ≡ headings_of p.tables → ReadsTrueUntil state m0.engine m0.store m1.engine m1.store tables → All (Means (session_of m0 d tables)) fs
  all_means d tables listed reads = each_flown places (Means (session_of m0 d tables)) 0 stmts seens ended (λ k stmt seen get shown. at_place (Means (session_of m0 d tables)) k stmt seen (slice_get ended k) (record {
    listed = listed;
    told = subst (λ (n : ℕ). IsMeant d (flight_public n p) (asked_of m0) (places.own k) (places.done k) tables stmt seen (slice_get ended k)) long_is (ran.means.told tables d reads k stmt seen get shown);
    emitted = λ one closed. subst (λ (n : ℕ). Emitted stmt (flight_public n p) (asked_of m0) tables one.outcome one.events) long_is (ran.means.emitted tables reads k stmt one get closed);
  }))
