-- A walk over texts that were answered together, and then over the others.
use Rattle.ob_shell.proofs.Words.{Access, All, All-cons, All-head, All-nil, All-tail, Answer, ap, append_assoc, arith, asked_of, Draws, Gathered, Gathering, Given, if◌then◌else◌, indexes_of, length, length-append, length-map, List, Machine, map, may_fly, most_flown, nat_lt, None, Ok, Option, place_now, Public, public_of, refl, RevState, Position, Seen, SelectsFromOne, served_as, skeleton, slice_get, Spelt, StepTogether, Stmt, subst, sym, take, true, turns_of, ℕ, [], ◌&&◌, ◌++◌, ◌+◌, ◌∙◌, ◌∷◌, ◌≡◌, ◌≤◌}
use Rattle.ob_headline.specs.Accesses.{AreSeen}
use Rattle.ob_headline.specs.Flights.{AreEntries, AreGathered, EndedBy, MayFly as FlyMay, after_entries, positions_in_flight, served_by}
use Rattle.ob_script.specs.Flights.{Entry as Turn, Together, flight_accesses, next_flight, words_from}
use Rattle.ob_script.specs.Trace.{Served as Entry}
use Rattle.ob_shell.proofs.FlightFacts.{all_get, all_places, all_stood, all_unleft, fs, positions_are, served_are, stmts_are, whole_answered}
use Rattle.ob_shell.proofs.FlightSeen.{AllAnswered, PlacesFrom, Stood, flown_lawful, gathers_flown, whole_ended, whole_seen}
use Rattle.ob_shell.proofs.FlownLists.{StmtInFlight, positions_in, served_in_all, served_of, stmts_in}
use Rattle.ob_shell.proofs.LeafLemmas.{Reads, reads_unasked}
use Rattle.ob_shell.proofs.PositionLemmas.{after_flown_then, positions_flown_then, trace_flown_then}
use Rattle.ob_shell.proofs.SelectLemmas.{flown_leaf, flown_selects}
use Rattle.ob_shell.proofs.WalkEntries.{EntriesSo, flown_are, most_at, positions_at, trace_at}
use Rattle.ob_shell.proofs.HowLemmas.{StartsApart}
use Rattle.ob_shell.proofs.ReplayLemmas.{counts_on}

-- ---- how they are served
module _ {R : Type 0} (state : R → RevState) (m0 m1 : Machine R) (texts : List (List ℕ)) (given : List Answer) (step : StepTogether state m0 m1 texts given) where
  abbrev p : Public
  p = public_of m0.engine

  abbrev pub all_fs : List StmtInFlight
  all_fs = fs state m0 m1 step.stmts step.seens step.flew.ended (Ok tt) step.may step.flew.ran None

  abbrev pub aloft : List Entry
  aloft = served_in_all all_fs

  pub stood : All Stood all_fs
  stood = all_stood state m0 m1 step.stmts step.seens step.flew.ended (Ok tt) step.may step.flew.ran None

  pub are_served : aloft ≡ served_as step.stmts step.seens
  are_served = served_are state m0 m1 step.stmts step.seens step.flew.ended (Ok tt) step.may step.flew.ran None

  pub are_stmts : stmts_in all_fs ≡ step.stmts
  are_stmts = stmts_are state m0 m1 step.stmts step.seens step.flew.ended (Ok tt) step.may step.flew.ran None

  pub long_fs : length all_fs ≡ length step.stmts
  long_fs = sym (length-map all_fs (λ (f : StmtInFlight). f.stmt)) ∙ ap length are_stmts

  pub long_in_flight : length aloft ≡ length step.stmts
  long_in_flight = length-map all_fs served_of ∙ long_fs

  pub answered : AllAnswered all_fs given
  answered = subst (λ (xs : List Answer). AllAnswered all_fs xs) (sym step.flew.answered)
      (whole_answered _ 0 step.stmts step.seens step.flew.ended step.flew.ran.long step.flew.ran.all)

  -- what goes on after them
  pub words_on : m1.flights.words ≡ words_from m0.flights.words (turns_of p aloft)
  words_on = (λ i k. step.flew.ran.rest k i) ∙ ap (λ (xs : List Entry). words_from m0.flights.words (turns_of p xs)) (sym are_served)

  pub public_on : public_of m1.engine ≡ next_flight p aloft m0.flights.words
  public_on = step.flew.ran.ran.goes_on.public ∙ ap (λ (xs : List Entry). next_flight p xs m0.flights.words) (sym are_served)

  pub grew_by : m1.store.asked ≡ m0.store.asked ++ flight_accesses p aloft None m0.flights.words
  grew_by = step.flew.ran.ran.asked ∙ ap (λ (xs : List Entry). m0.store.asked ++ flight_accesses p xs None m0.flights.words) (sym are_served)

  pub asked_on : asked_of m1 ≡ asked_of m0 + length (flight_accesses p aloft None m0.flights.words)
  asked_on = counts_on m0 m1 (flight_accesses p aloft None m0.flights.words) step.flew.ran.ran.start grew_by

  abbrev pub turn_of : Turn
  turn_of = Together aloft None

  pub positions_on : (entries : List Turn) → positions_in all_fs ++ positions_at m1 entries ≡ positions_at m0 (turn_of ∷ entries)
  positions_on entries =
      ap (λ (l : List Position). l ++ positions_at m1 entries) (positions_are state m0 m1 step.stmts step.seens step.flew.ended (Ok tt) step.may step.flew.ran None)
      ∙ ap (λ (xs : List Entry). positions_in_flight p (asked_of m0) xs m0.flights.words None 0 (length xs) ++ positions_at m1 entries) (sym are_served)
      ∙ sym (positions_flown_then m0.flights.words m1.flights.words p (public_of m1.engine) (asked_of m0) (asked_of m1) aloft None words_on public_on asked_on entries)

  pub trace_on : (asked : List Access) (entries : List Turn) → asked ≡ m1.store.asked ++ trace_at m1 entries → asked ≡ m0.store.asked ++ trace_at m0 (turn_of ∷ entries)
  trace_on asked entries is =
      let here = flight_accesses p aloft None m0.flights.words in
      is ∙ ap (λ (l : List Access). l ++ trace_at m1 entries) grew_by ∙ append_assoc m0.store.asked here (trace_at m1 entries)
      ∙ ap (λ (l : List Access). m0.store.asked ++ l) (sym (trace_flown_then m0.flights.words m1.flights.words p (public_of m1.engine) (asked_of m0) (asked_of m1) aloft None words_on public_on asked_on entries))

  pub after_on : (entries : List Turn) → after_entries m1.flights.words 0 (public_of m1.engine) entries ≡ after_entries m0.flights.words 0 p (turn_of ∷ entries)
  after_on entries = sym (after_flown_then m0.flights.words m1.flights.words p (public_of m1.engine) (asked_of m0) (asked_of m1) aloft None words_on public_on asked_on entries)

  pub most_on : most_at m1 ≡ most_at m0
  most_on = λ i. most_flown (step.may.settings i) (public_on i)

  may_all : FlyMay (most_at m0) aloft
  may_all = record {
    some = let some = step.may.some in omega (arith, some, long_in_flight);
    few = let few = step.may.few in omega (arith, few, long_in_flight);
    select = selects all_fs stood;
  }
    where
      selects : (xs : List StmtInFlight) → All Stood xs → All (λ (x : Entry). SelectsFromOne x.skeleton) (served_in_all xs)
      selects [] all = All-nil (λ (x : Entry). SelectsFromOne x.skeleton)
      selects (f ∷ xs) all =
          All-cons (λ (x : Entry). SelectsFromOne x.skeleton) (served_of f) (served_in_all xs) (flown_selects f.position.public (skeleton f.stmt) (All-head Stood f xs all).fly) (selects xs (All-tail Stood f xs all))

  -- the first comes apart from what was gathered
  first_apart : (xs : List StmtInFlight) → stmts_in xs ≡ step.stmts → All Stood xs → PlacesFrom 0 xs → length xs ≤ most_at m0 → (positions : List Position) (spelt : List Spelt) → AreGathered (most_at m0) (length xs) positions spelt
      → AreGathered (most_at m0) m0.gathered.flown (positions_in xs ++ positions) (map Ok (stmts_in xs) ++ spelt) × StartsApart (most_at m0) p m0.gathered.flown (map Ok (stmts_in xs) ++ spelt)
  first_apart [] is all places few positions spelt rest = absurd (let none = ap length is in let some = step.may.some in omega (arith, none, some))
  first_apart (f ∷ xs) is all places few positions spelt rest =
      let begins : place_now (most_at m0) p m0.gathered.flown (skeleton f.stmt) ≡ 0 = (step.may.begins f.stmt (ap (λ (l : List Stmt). slice_get l 0) (sym is))).flown in
      let same : place_now (most_at m0) f.position.public m0.gathered.flown (skeleton f.stmt) ≡ 0 =
      (λ i. if (fly_both i) && nat_lt m0.gathered.flown (most_at m0) then m0.gathered.flown else 0) ∙ begins in
      (gathers_flown (most_at m0) positions spelt m0.gathered.flown f xs all places few same rest, begins)
    where
      fly_both : may_fly f.position.public (skeleton f.stmt) ≡ may_fly p (skeleton f.stmt)
      fly_both =
          let at : may_fly p (skeleton f.stmt) ≡ true = all_get (λ (x : Stmt). may_fly p (skeleton x) ≡ true) step.stmts step.may.fly 0 f.stmt (ap (λ (l : List Stmt). slice_get l 0) (sym is)) in
          (All-head Stood f xs all).fly ∙ sym at

  pub flown_entries : (entries : List Turn) (spelt : List Spelt) (seen last : List Entry) → EntriesSo m1 entries spelt seen last → EntriesSo m0 (turn_of ∷ entries) (map Ok (stmts_in all_fs) ++ spelt) (aloft ++ seen) last
  unfolding served_by
  flown_entries entries spelt seen last rest =
      let gathered : m1.gathered.flown ≡ length all_fs = ap (λ (g : Gathered). g.flown) step.may.gathered ∙ sym long_fs in
      let first = first_apart all_fs are_stmts stood (all_places state m0 m1 step.stmts step.seens step.flew.ended (Ok tt) step.may step.flew.ran None) (let few = step.may.few in omega (arith, few, long_fs)) (positions_at m1 entries) spelt
      (subst (λ (k : ℕ). AreGathered k (length all_fs) (positions_at m1 entries) spelt) most_on (subst (λ (k : ℕ). AreGathered (most_at m1) k (positions_at m1 entries) spelt) gathered rest.gathers)) in
      let long : length (aloft ++ seen) ≡ length aloft + length seen = length-append aloft seen in
      let same : length all_fs + length seen ≡ length (aloft ++ seen) = omega (arith, long, long_in_flight, long_fs) in
      record {
        served = ap (λ (l : List Entry). aloft ++ l) rest.served ∙ sym (append_assoc aloft seen last);
        are = subst (λ (k : ℕ). AreEntries (most_at m0) k (turn_of ∷ entries)) (sym long) (flown_are (most_at m0) (length seen) aloft entries may_all (subst (λ (k : ℕ). AreEntries k (length seen) entries) most_on rest.are));
        gathers = subst (λ (vs : List Position). AreGathered (most_at m0) m0.gathered.flown vs (map Ok (stmts_in all_fs) ++ spelt)) (positions_on entries) first.0;
        ended = subst (λ (vs : List Position). All (λ (v : Position). EndedBy v.left v) (take (length (aloft ++ seen)) vs)) (positions_on entries)
            (subst (λ (k : ℕ). All (λ (v : Position). EndedBy v.left v) (take k (positions_in all_fs ++ positions_at m1 entries))) same
            (whole_ended all_fs (positions_at m1 entries) (length seen) (all_unleft state m0 m1 step.stmts step.seens step.flew.ended (Ok tt) step.may step.flew.ran None refl) rest.ended));
        starts = first.1;
      }

  -- what is seen of them
  pub flown_seen : (Leaves : Public → Stmt → Seen → Type 0) (g : Option Gathering) (entries : List Turn) (spelt : List Spelt) (answers : List Answer) (seen : List Entry) → AreSeen Leaves (positions_at m1 entries) m1.gathered.batch spelt answers seen
      → AreSeen Leaves (positions_at m0 (turn_of ∷ entries)) g (map Ok (stmts_in all_fs) ++ spelt) (given ++ answers) (aloft ++ seen)
  flown_seen Leaves g entries spelt answers seen rest =
      let none : m1.gathered.batch ≡ None = ap (λ (x : Gathered). x.batch) step.may.gathered in
      subst (λ (vs : List Position). AreSeen Leaves vs g (map Ok (stmts_in all_fs) ++ spelt) (given ++ answers) (aloft ++ seen)) (positions_on entries)
      (whole_seen Leaves (positions_at m1 entries) spelt answers seen (subst (λ (o : Option Gathering). AreSeen Leaves (positions_at m1 entries) o spelt answers seen) none rest)
      all_fs given g (λ is. absurd (let none_left = ap length is in let some = step.may.some in omega (arith, none_left, some, long_fs))) stood answered)

  -- no leaf is read
  pub flown_drawn : (d : Draws) (g : Given d (indexes_of m0.engine)) (entries : List Turn) (seen : List Entry) → Reads d (indexes_of m0.engine) g (positions_at m1 entries) seen → Reads d (indexes_of m0.engine) g (positions_at m0 (turn_of ∷ entries)) (aloft ++ seen)
  flown_drawn d g entries seen rest = subst (λ (vs : List Position). Reads d (indexes_of m0.engine) g vs (aloft ++ seen)) (positions_on entries) (go all_fs given stood answered)
    where
      go : (xs : List StmtInFlight) (given : List Answer) → All Stood xs → AllAnswered xs given → Reads d (indexes_of m0.engine) g (positions_in xs ++ positions_at m1 entries) (served_in_all xs ++ seen)
      go [] given all told = rest
      go (f ∷ xs) [] all told = absurd told
      go (f ∷ xs) (one ∷ given) all told =
          let own = All-head Stood f xs all in
          reads_unasked d (indexes_of m0.engine) g f.position (positions_in xs ++ positions_at m1 entries) (served_of f) (served_in_all xs ++ seen)
          (flown_leaf f.position.public f.position.asked f.stmt f.seen own.fly (flown_lawful f one own told.0)) (go xs given (All-tail Stood f xs all) told.1)
