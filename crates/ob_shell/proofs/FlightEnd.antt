-- A flight that was left, as the last of what was served.
use Rattle.ob_shell.proofs.Words.{Access, AfterCount, All, All-cons, All-head, All-nil, All-tail, Answer, ap, append-nil, append_assoc, AreDraws, AreSpelt, arith, asked_of, Bool, Cut, cut_off, done_of, Draws, drop, End, Ending, EndsUntampered, Err, false, Gathering, Given, if◌then◌else◌, Index, indexes_of, is_tampered, IsFlown, IsTrue, Batched, length, length-append, length-map, List, Machine, map, may_fly, MayFly, nat_lt, None, Ok, Option, place_now, Public, public_of, Ran, RanInFlight, ReadsTrueUntil, refl, Result, RevState, RunStop, Position, Seen, SelectsFromOne, served_as, Session, session_of, session_stop, skeleton, slice_get, Some, SpellFirst, Spelt, StandsAs, statements, statements_of, Static, Stmt, subst, suc, sym, Tables, take, take-append-drop, true, Whole, zero, ℕ, [], ◌&&◌, ◌++◌, ◌+◌, ◌-◌, ◌<◌, ◌∙◌, ◌∷◌, ◌≡◌, ◌≤◌, ◌⊎◌}
use Rattle.std.proofs.lemmas.List.{length-drop, length-take, take_all}
use Rattle.ob_exec.specs.RanFlight.{asked_since, stopped_after, asked_by, carried_out}
use Rattle.ob_headline.specs.Accesses.{AreSeen, LeavesInFlight, any_cut, ends_within}
use Rattle.ob_headline.specs.Failures.{failures}
use Rattle.ob_headline.specs.Flights.{AreEntries, AreGathered, EndedBy, GoesOn, MayFly as FlyMay, after_entries, positions_in_flight, served_by, whole_of}
use Rattle.ob_inflight.specs.Closing.{Closed}
use Rattle.ob_script.specs.Flights.{Entry as Turn, Together, flight_accesses, merge, trace_in, own_asked}
use Rattle.ob_script.specs.Trace.{Served as Entry}
use Rattle.ob_shell.proofs.FailureLemmas.{cut_few}
use Rattle.ob_shell.proofs.FlightFacts.{EachBy, all_get, all_in, all_means, all_places, all_stood, fs, in_at, positions_are, served_are, spell_flown, spelt_long, stmts_are, places}
use Rattle.ob_shell.proofs.FlightSeen.{FirstAnswered, IsIn, PlacesFrom, Stood, gathers_flown, left_seen, cut_more}
use Rattle.ob_shell.proofs.FlownLists.{StmtInFlight, positions_in, served_in_all, served_of, stmts_in, each_flown}
use Rattle.ob_shell.proofs.PositionLemmas.{positions_flown_last, trace_flown_last}
use Rattle.ob_shell.proofs.SelectLemmas.{flown_selects, flown_leaf}
use Rattle.ob_shell.proofs.WalkEntries.{EntriesSo, left_are, most_at, positions_at, trace_at, whole_left}
use Rattle.ob_shell.proofs.HowLemmas.{StartsApart}
use Rattle.ob_shell.specs.Steps.{Holds, Owed}
use Rattle.ob_headline.specs.Meaning.{AnswersFrom, done_in}
use Rattle.ob_shell.proofs.FlightCuts.{cut_same, failed_same, none_cut}
use Rattle.ob_shell.proofs.FlightMeant.{BeginsSo, LeftMean, Means, StandsSo as FlownStandsSo, left_meant, meant_so, stands_so}
use Rattle.ob_shell.proofs.LeafLemmas.{Reads, reads_none, reads_unasked}
use Rattle.ob_shell.proofs.FlightLeaves.{leaves_kept}
use Rattle.ob_shell.proofs.LeavePath.{HaveFlown, Path, in_flight_along, in_flight_so}
use Rattle.ob_shell.proofs.ReplayLemmas.{free_holds}
use Rattle.ob_shell.proofs.WalkLemmas.{EarlyAt, Walked}

-- as many statements as there are
pub statements_taken : (stmts : List Stmt) (n : ℕ) → n ≤ length stmts → length (statements (take n (map Ok stmts))) ≡ n
unfolding statements
statements_taken stmts zero few = refl
statements_taken [] (suc n) few = absurd (omega (arith, few))
statements_taken (stmt ∷ stmts) (suc n) few = ap (λ (k : ℕ). suc k) (statements_taken stmts n (omega (arith, few)))

pub taken_long : {A : Type 0} (n : ℕ) (xs : List A) → n ≤ length xs → length (take n xs) ≡ n
taken_long n xs few = let long = length-take n xs in omega (arith, long, few)

module _ {R : Type 0} (state : R → RevState) (m0 m1 : Machine R) (stmts : List Stmt) (seens : List Seen) (ended : List Closed) (result : Result (Unit {0}) RunStop) (may : MayFly state m0 m1 stmts)
    (ran : RanInFlight state m0.flights.words m1.flights.words stmts seens ended result m0.engine m0.store m1.engine m1.store) where
  abbrev p : Public
  p = public_of m0.engine

  abbrev pub in_all : ℕ
  in_all = asked_since m0.store m1.store

  abbrev pub all_fs : List StmtInFlight
  all_fs = fs state m0 m1 stmts seens ended result may ran (Some in_all)

  abbrev pub aloft : List Entry
  aloft = served_in_all all_fs

  pub stood : All Stood all_fs
  stood = all_stood state m0 m1 stmts seens ended result may ran (Some in_all)

  -- each had ended by then exactly where it has an answer
  abbrev pub AreBy : Type 0
  AreBy = EachBy m0.flights.words p (served_as stmts seens) ended in_all (length stmts)

  are_in : AreBy → All IsIn all_fs
  are_in each = all_in state m0 m1 stmts seens ended result may ran (Some in_all) refl each

  pub are_served : aloft ≡ served_as stmts seens
  are_served = served_are state m0 m1 stmts seens ended result may ran (Some in_all)

  pub are_stmts : stmts_in all_fs ≡ stmts
  are_stmts = stmts_are state m0 m1 stmts seens ended result may ran (Some in_all)

  pub long_fs : length all_fs ≡ length stmts
  long_fs = sym (length-map all_fs (λ (f : StmtInFlight). f.stmt)) ∙ ap length are_stmts

  pub long_in_flight : length aloft ≡ length stmts
  long_in_flight = length-map all_fs served_of ∙ long_fs

  abbrev pub turn_of : Turn
  turn_of = Together aloft (Some in_all)

  pub positions_left : positions_in all_fs ≡ positions_at m0 (turn_of ∷ [])
  positions_left =
      positions_are state m0 m1 stmts seens ended result may ran (Some in_all)
      ∙ ap (λ (xs : List Entry). positions_in_flight p (asked_of m0) xs m0.flights.words (Some in_all) 0 (length xs)) (sym are_served)
      ∙ sym (positions_flown_last m0.flights.words p (asked_of m0) aloft (Some in_all))

  abbrev asks : Option ℕ → List Access
  asks o = flight_accesses p (served_as stmts seens) o m0.flights.words

  asked_first : (r : Result (Unit {0}) RunStop) → m1.store.asked ≡ m0.store.asked ++ asks (stopped_after r in_all) → m1.store.asked ≡ m0.store.asked ++ asks (Some in_all)
  asked_first (Ok x) is =
      let all = merge p (served_as stmts seens) m0.flights.words in
      let long = ap length is in
      let both = length-append m0.store.asked all in
      let most : length all ≤ in_all = omega (arith, long, both) in
      is ∙ ap (λ (l : List Access). m0.store.asked ++ l) (sym (take_all in_all all most))
  asked_first (Err stop) is = is

  pub asked_left : m1.store.asked ≡ m0.store.asked ++ trace_at m0 (turn_of ∷ [])
  asked_left =
      asked_first result ran.ran.asked
      ∙ ap (λ (xs : List Entry). m0.store.asked ++ flight_accesses p xs (Some in_all) m0.flights.words) (sym are_served)
      ∙ ap (λ (l : List Access). m0.store.asked ++ l) (sym (trace_flown_last m0.flights.words p aloft (Some in_all)))

  may_all : FlyMay (most_at m0) aloft
  may_all = record {
    some = let some = may.some in omega (arith, some, long_in_flight);
    few = let few = may.few in omega (arith, few, long_in_flight);
    select = selects all_fs stood;
  }
    where
      selects : (xs : List StmtInFlight) → All Stood xs → All (λ (x : Entry). SelectsFromOne x.skeleton) (served_in_all xs)
      selects [] all = All-nil (λ (x : Entry). SelectsFromOne x.skeleton)
      selects (f ∷ xs) all =
          All-cons (λ (x : Entry). SelectsFromOne x.skeleton) (served_of f) (served_in_all xs) (flown_selects f.position.public (skeleton f.stmt) (All-head Stood f xs all).fly) (selects xs (All-tail Stood f xs all))

  -- the first comes apart from what was gathered
  first_apart : (xs : List StmtInFlight) → stmts_in xs ≡ stmts → All Stood xs → PlacesFrom 0 xs → length xs ≤ most_at m0
      → AreGathered (most_at m0) m0.gathered.flown (positions_in xs ++ []) (map Ok (stmts_in xs) ++ []) × StartsApart (most_at m0) p m0.gathered.flown (map Ok (stmts_in xs))
  unfolding AreGathered
  first_apart [] is all places few = absurd (let none = ap length is in let some = may.some in omega (arith, none, some))
  first_apart (f ∷ xs) is all places few =
      let begins : place_now (most_at m0) p m0.gathered.flown (skeleton f.stmt) ≡ 0 = (may.begins f.stmt (ap (λ (l : List Stmt). slice_get l 0) (sym is))).flown in
      let same : place_now (most_at m0) f.position.public m0.gathered.flown (skeleton f.stmt) ≡ 0 =
      (λ i. if (fly_both i) && nat_lt m0.gathered.flown (most_at m0) then m0.gathered.flown else 0) ∙ begins in
      (gathers_flown (most_at m0) [] [] m0.gathered.flown f xs all places few same tt, begins)
    where
      fly_both : may_fly f.position.public (skeleton f.stmt) ≡ may_fly p (skeleton f.stmt)
      fly_both =
          let at : may_fly p (skeleton f.stmt) ≡ true = all_get (λ (x : Stmt). may_fly p (skeleton x) ≡ true) stmts may.fly 0 f.stmt (ap (λ (l : List Stmt). slice_get l 0) (sym is)) in
          (All-head Stood f xs all).fly ∙ sym at

  abbrev pub spelt_left : List Spelt
  spelt_left = map Ok (stmts_in all_fs)

  -- the first n of them were answered
  module _ (n : ℕ) (short : n < length stmts) (had : All (λ (v : Position). EndedBy v.left v) (take n (positions_in all_fs))) where
    pub kept_long : length (take n aloft) ≡ n
    kept_long = taken_long n aloft (omega (arith, short, long_in_flight))

    pub left_entries : EntriesSo m0 (turn_of ∷ []) spelt_left (take n aloft) (drop n aloft)
    unfolding served_by
    left_entries =
        let first = first_apart all_fs are_stmts stood (all_places state m0 m1 stmts seens ended result may ran (Some in_all)) (let few = may.few in omega (arith, few, long_fs)) in
        record {
          served = append-nil aloft ∙ sym (take-append-drop n aloft);
          are = subst (λ (k : ℕ). AreEntries (most_at m0) k (turn_of ∷ [])) (sym kept_long) (left_are (most_at m0) n in_all aloft may_all (omega (arith, short, long_in_flight)));
          gathers =
              subst (λ (vs : List Position). AreGathered (most_at m0) m0.gathered.flown vs spelt_left) positions_left
              (subst (λ (vs : List Position). AreGathered (most_at m0) m0.gathered.flown vs spelt_left) (append-nil (positions_in all_fs))
              (subst (λ (xs : List Spelt). AreGathered (most_at m0) m0.gathered.flown (positions_in all_fs ++ []) xs) (append-nil spelt_left) first.0));
          ended = subst (λ (vs : List Position). All (λ (v : Position). EndedBy v.left v) (take (length (take n aloft)) vs)) positions_left
              (subst (λ (k : ℕ). All (λ (v : Position). EndedBy v.left v) (take k (positions_in all_fs))) (sym kept_long) had);
          starts = first.1;
        }

    -- what is seen of them
    pub seen_left : AreBy → (Leaves : Public → Stmt → Seen → Type 0) (g : Option Gathering) (kept : List Answer) → FirstAnswered all_fs kept
        → AreSeen Leaves (positions_at m0 (turn_of ∷ [])) g spelt_left kept (take n aloft ++ drop n aloft)
    seen_left each Leaves g kept first =
        subst (λ (vs : List Position). AreSeen Leaves vs g spelt_left kept (take n aloft ++ drop n aloft)) positions_left
        (subst (λ (l : List Entry). AreSeen Leaves (positions_in all_fs) g spelt_left kept l) (sym (take-append-drop n aloft)) (left_seen Leaves all_fs kept g stood (are_in each) first))

    -- nothing was whole before
    pub passed_left : m0.store.asked ≡ m0.store.asked ++ trace_at m0 (whole_of (length (take n aloft)) (turn_of ∷ []))
    unfolding trace_in
    passed_left =
        let none : whole_of (length (take n aloft)) (turn_of ∷ []) ≡ [] = whole_left (length (take n aloft)) aloft (Some in_all) (omega (arith, short, long_in_flight, kept_long)) in
        sym (append-nil m0.store.asked) ∙ ap (λ (es : List Turn). m0.store.asked ++ trace_at m0 es) (sym none)

    pub stands_left : public_of m0.engine ≡ after_entries m0.flights.words 0 (public_of m0.engine) (whole_of (length (take n aloft)) (turn_of ∷ []))
    unfolding after_entries
    stands_left =
        let none : whole_of (length (take n aloft)) (turn_of ∷ []) ≡ [] = whole_left (length (take n aloft)) aloft (Some in_all) (omega (arith, short, long_in_flight, kept_long)) in
        ap (λ (es : List Turn). after_entries m0.flights.words 0 (public_of m0.engine) es) (sym none)

-- ---- each of them
-- it reads no leaf
leaf_in : (p : Public) (m n : ℕ) (stmt : Stmt) (seen : Seen) (end : End) → may_fly p (skeleton stmt) ≡ true → StandsAs p m n stmt seen end → seen.leaf ≡ None
leaf_in p m n stmt seen Static fly stands = flown_leaf p m stmt seen fly stands
leaf_in p m n stmt seen Whole fly stands = flown_leaf p m stmt (record seen { end = Cut n }) fly stands
leaf_in p m n stmt seen AfterCount fly stands = absurd stands
leaf_in p m n stmt seen Batched fly stands = absurd stands
leaf_in p m n stmt seen (Cut cut) fly stands = flown_leaf p m stmt seen fly stands.2

leaf_of : (p : Public) (m n : ℕ) (stmt : Stmt) (seen : Seen) (o : Option Closed) → may_fly p (skeleton stmt) ≡ true → IsFlown p m n stmt seen o → seen.leaf ≡ None
leaf_of p m n stmt seen (Some one) fly flown = flown_leaf p m stmt seen fly flown.lawful
leaf_of p m n stmt seen None fly flown = leaf_in p m n stmt seen seen.end fly flown

reads_flown : (d : Draws) (indexes : List Index) (g : Given d indexes) (xs : List StmtInFlight) → All Stood xs → Reads d indexes g (positions_in xs) (served_in_all xs)
reads_flown d indexes g [] all = reads_none d indexes g []
reads_flown d indexes g (f ∷ xs) all =
    let own = All-head Stood f xs all in
    reads_unasked d indexes g f.position (positions_in xs) (served_of f) (served_in_all xs) (leaf_of f.position.public f.position.asked f.own f.stmt f.seen f.closed own.fly own.flown)
    (reads_flown d indexes g xs (All-tail Stood f xs all))

-- no more of them failed than the store cut off
failed_first : (xs : List StmtInFlight) (kept : List Answer) → All Stood xs → FirstAnswered xs kept → failures kept ≤ cut_off (served_in_all xs)
unfolding failures cut_off
failed_first xs [] all first = omega arith
failed_first [] (one ∷ kept) all first = absurd first
failed_first (f ∷ xs) (one ∷ kept) all first =
    let own = failed_same (f ∷ []) (one ∷ []) (All-cons Stood f [] (All-head Stood f xs all) (All-nil Stood)) (first.0, tt) in
    let rest = failed_first xs kept (All-tail Stood f xs all) first.1 in
    omega (arith, own, rest)

-- and it was left after so many accesses that were carried out
record IsDoneIn (ending : Ending) (f : StmtInFlight) : Type 0 where
  is_in : IsIn f
  done : f.done ≡ done_in ending is_in.stand

done_by : (b : Bool) (p : Public) (flown : List Entry) (words : ℕ → ℕ) (k i : ℕ) → own_asked p flown words (done_of b k) i ≡ (if b then own_asked p flown words (k - 1) i else own_asked p flown words k i)
done_by true p flown words k i = refl
done_by false p flown words k i = refl

-- what they mean
all_stands : (ending : Ending) (s : Session) (xs : List StmtInFlight) → All Stood xs → All (IsDoneIn ending) xs → All (Means s) xs → All (FlownStandsSo ending s) xs
all_stands ending s [] at_rest done means = All-nil (FlownStandsSo ending s)
all_stands ending s (f ∷ xs) at_rest done means =
    let at = All-head (IsDoneIn ending) f xs done in
    All-cons (FlownStandsSo ending s) f xs (stands_so ending s f (All-head Stood f xs at_rest) at.is_in at.done (All-head (Means s) f xs means))
    (all_stands ending s xs (All-tail Stood f xs at_rest) (All-tail (IsDoneIn ending) f xs done) (All-tail (Means s) f xs means))

left_mean : (ending : Ending) (s : Session) (part : List ℕ) (xs : List StmtInFlight) (kept : List Answer) → All Stood xs → All (IsDoneIn ending) xs → All (Means s) xs → FirstAnswered xs kept → length kept < length xs
    → ((f : StmtInFlight) → slice_get xs (length kept) ≡ Some f → Stood f → IsIn f → Means s f → BeginsSo ending s f part) → LeftMean ending s part xs kept
left_mean ending s part [] kept stood done means first short begins = absurd (omega (arith, short))
left_mean ending s part (f ∷ xs) [] stood done means first short begins =
    (begins f refl (All-head Stood f xs stood) (All-head (IsDoneIn ending) f xs done).is_in (All-head (Means s) f xs means), all_stands ending s (f ∷ xs) stood done means)
left_mean ending s part (f ∷ xs) (one ∷ kept) stood done means first short begins = (
  meant_so s f one (All-head Stood f xs stood) first.0 (All-head (Means s) f xs means),
  left_mean ending s part xs kept (All-tail Stood f xs stood) (All-tail (IsDoneIn ending) f xs done) (All-tail (Means s) f xs means) first.1 (omega (arith, short)) begins,
)

-- ---- the last of a walk
module _ {R : Type 0} (state : R → RevState) (m0 m1 : Machine R) (stmts : List Stmt) (seens : List Seen) (ended : List Closed) (result : Result (Unit {0}) RunStop) (may : MayFly state m0 m1 stmts)
    (ran : RanInFlight state m0.flights.words m1.flights.words stmts seens ended result m0.engine m0.store m1.engine m1.store) (run : RunStop) where
  abbrev pub ends_by : Ending
  ends_by = Ran (Err (session_stop run))

  abbrev pub fs_here : List StmtInFlight
  fs_here = all_fs state m0 m1 stmts seens ended result may ran

  abbrev here : List Entry
  here = aloft state m0 m1 stmts seens ended result may ran

  abbrev total : ℕ
  total = in_all state m0 m1 stmts seens ended result may ran

  abbrev entries : List Turn
  entries = turn_of state m0 m1 stmts seens ended result may ran ∷ []

  abbrev spelt_here : List Spelt
  spelt_here = spelt_left state m0 m1 stmts seens ended result may ran

  flown_so : HaveFlown state m0 m1
  flown_so = record {
    free = may.free;
    owed = may.owed;
    keeper = may.keeper;
    later = ran.ran.later;
    kept = λ q below. ran.ran.untouched.rests q (λ above. omega (arith, below, above));
  }

  done_here : AreBy state m0 m1 stmts seens ended result may ran → carried_out result total ≡ done_of (is_tampered ends_by) total → All (IsDoneIn ends_by) fs_here
  done_here each carried = each_flown (places state m0 m1 stmts seens ended result may ran (Some total)) (IsDoneIn ends_by) 0 stmts seens ended (λ k stmt seen get shown. record {
    is_in = record { stand = _; left = refl; own = refl; by = in_at state m0 m1 stmts seens ended result may ran (Some total) refl each k stmt get };
    done =
        ap (λ (n : ℕ). asked_by (public_of m0.engine) m0.flights.words stmts seens n (0 + k)) carried
        ∙ done_by (is_tampered ends_by) (public_of m0.engine) (served_as stmts seens) m0.flights.words total (0 + k);
  })

  pub left_walked : {Lost : Type 0} (texts more : List (List ℕ)) → AreSpelt texts stmts → carried_out result total ≡ done_of (is_tampered ends_by) total → (ends_within ends_by ≡ true → ⊥)
      → (kept : List Answer) → FirstAnswered fs_here kept → length kept < length stmts → All (λ (v : Position). EndedBy v.left v) (take (length kept) (positions_in fs_here)) → AreBy state m0 m1 stmts seens ended result may ran → (part : List ℕ)
      → ((d : Draws) → AreDraws m0.engine d → (tables : Tables) → ReadsTrueUntil state m0.engine m0.store m1.engine m1.store tables → (f : StmtInFlight) → slice_get fs_here (length kept) ≡ Some f → Stood f → IsIn f → Means (session_of m0 d tables) f
      → BeginsSo ends_by (session_of m0 d tables) f part)
      → LeavesInFlight ends_by m1.store.asked (drop (length (take (length kept) here)) (positions_at m0 entries)) (statements (drop (length (take (length kept) texts)) spelt_here)) (drop (length kept) here)
      → GoesOn (drop (length (take (length kept) here)) (positions_at m0 entries)) ⊎ Lost
      → ((d : Draws) → AreDraws m0.engine d → IsTrue m0.store.tells → (tables : Tables) → Holds state m0 d tables → m1.store.lie ≡ None → EndsUntampered ends_by)
      → EarlyAt state m0 m1 entries spelt_here kept (take (length kept) here ++ drop (length kept) here)
      → Walked state Lost ends_by m0 m0 m1 (take (length kept) texts) (drop (length kept) texts ++ more) kept part
  unfolding SpellFirst
  left_walked texts more spelt carried off kept first short had each part begins wants goes fine early =
      let n = length kept in
      let long_texts : length texts ≡ length stmts = spelt_long texts stmts spelt in
      let long_here : length here ≡ length stmts = long_in_flight state m0 m1 stmts seens ended result may ran in
      let long_spelt : length spelt_here ≡ length stmts = length-map (stmts_in fs_here) Ok ∙ ap length (are_stmts state m0 m1 stmts seens ended result may ran) in
      let taken_texts : length (take n texts) ≡ n = taken_long n texts (omega (arith, short, long_texts)) in
      let both : take n texts ++ (drop n texts ++ more) ≡ texts ++ more = sym (append_assoc (take n texts) (drop n texts) more) ∙ ap (λ (l : List (List ℕ)). l ++ more) (take-append-drop n texts) in
      let gone = length-drop n here in
      let spells_all : SpellFirst (take n texts ++ (drop n texts ++ more)) spelt_here =
      subst (λ (l : List (List ℕ)). SpellFirst l spelt_here) (sym both)
      (subst (λ (xs : List Spelt). SpellFirst (texts ++ more) xs) (append-nil spelt_here)
      (subst (λ (l : List Stmt). SpellFirst (texts ++ more) (map Ok l ++ [])) (sym (are_stmts state m0 m1 stmts seens ended result may ran)) (spell_flown texts more stmts [] spelt tt))) in
      let split = take-append-drop n here in
      let parts : cut_off (take n here) + cut_off (drop n here) ≡ cut_off here = sym (cut_more (take n here) (drop n here)) ∙ ap cut_off split in
      let among : cut_off here ≡ cut_off (served_as stmts seens) = ap cut_off (are_served state m0 m1 stmts seens ended result may ran) in
      let counted = cut_same stmts seens ran.long in
      let least = ran.failures.least in
      record {
        spelt = spelt_here;
        spells = spells_all;
        follow =
            subst (λ (l : List Owed). SpellFirst (take n texts ++ (drop n texts ++ more)) (spelt_here ++ map Ok (statements_of l))) (sym may.owed)
            (subst (λ (xs : List Spelt). SpellFirst (take n texts ++ (drop n texts ++ more)) xs) (sym (append-nil spelt_here)) spells_all);
        reached = omega (arith, taken_texts, short, long_spelt);
        each = sym taken_texts;
        seen = take n here;
        last = drop n here;
        begun = omega (arith, gone, taken_texts, long_spelt, long_here, short);
        entries = entries;
        entered = left_entries state m0 m1 stmts seens ended result may ran n short had;
        in_access = λ ends. absurd (off ends);
        each_seen = kept_long state m0 m1 stmts seens ended result may ran n short had ∙ sym (
            ap (λ (k : ℕ). length (statements (take k spelt_here))) taken_texts
            ∙ statements_taken (stmts_in fs_here) n (let same = ap length (are_stmts state m0 m1 stmts seens ended result may ran) in omega (arith, short, same)));
        lawful = λ most old fails d drawn g. seen_left state m0 m1 stmts seens ended result may ran n short had each _ m0.gathered.batch kept first;
        aloft = wants;
        on = goes;
        passed = passed_left state m0 m1 stmts seens ended result may ran n short had;
        stands = stands_left state m0 m1 stmts seens ended result may ran n short had;
        asked = asked_left state m0 m1 stmts seens ended result may ran;
        keys = ran.ran.keys;
        start = ran.ran.start;
        from_closing = λ unsaved. ran.ran.from_closing;
        public = λ whole. absurd whole;
        save = refl;
        unfailed = λ not.
            let none = none_cut here (subst (λ (l : List Entry). any_cut l ≡ false) split not) in
            ran.failures.none (omega (arith, none, among, counted));
        cuts = let most = cut_few (drop (length (take n here)) (positions_at m0 entries)) (drop n here) in omega (arith, least, parts, among, counted, most);
        failed = λ alone. let few = failed_first fs_here kept (stood state m0 m1 stmts seens ended result may ran) first in omega (arith, least, few, among, counted);
        drawn = λ d drawn g.
            subst (λ (vs : List Position). Reads d (indexes_of m0.engine) g vs (take n here ++ drop n here)) (positions_left state m0 m1 stmts seens ended result may ran)
            (subst (λ (l : List Entry). Reads d (indexes_of m0.engine) g (positions_in fs_here) l) (sym split) (reads_flown d (indexes_of m0.engine) g fs_here (stood state m0 m1 stmts seens ended result may ran)));
        lie = ran.ran.later.lie;
        meant = λ d drawn tells calm unfit tables held.
            let s = session_of m0 d tables in
            let reads : ReadsTrueUntil state m0.engine m0.store m1.engine m1.store tables = record { tells = tells; held = free_holds state m0 d tables may.free held; calm = calm; unfit = unfit } in
            let mean = left_mean ends_by s part fs_here kept (stood state m0 m1 stmts seens ended result may ran) (done_here each carried) (all_means state m0 m1 stmts seens ended result may ran (Some total) d tables held.listed reads) first
            (let long = long_fs state m0 m1 stmts seens ended result may ran in omega (arith, short, long)) (begins d drawn tables reads) in
            let told = left_meant ends_by s part fs_here kept mean s refl refl in
            record {
              broken = told.0;
              meant = subst (λ (vs : List Position). AnswersFrom ends_by vs s spelt_here told.0 kept (take n here ++ drop n here) part) (positions_left state m0 m1 stmts seens ended result may ran)
                  (subst (λ (l : List Entry). AnswersFrom ends_by (positions_in fs_here) s spelt_here told.0 kept l part) (sym split) told.1);
              behind = record {
                whole = λ whole. absurd whole;
                path = subst (λ (vs : List Position). Path state ends_by m0 m1 d tables vs spelt_here kept told.0) (positions_left state m0 m1 stmts seens ended result may ran)
                    (in_flight_so flown_so (leaves_kept s fs_here kept told.0 told.2));
              };
            };
        untampered = fine;
        early = early;
        along = in_flight_along flown_so;
      }
