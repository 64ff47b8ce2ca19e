-- Where a stop came within a flight.
use Rattle.ob_shell.proofs.Words.{All, Answer, answer_labels, answer_of, ap, append-nil, append_assoc, append_cancel_left, arith, asked_of, Bool, cases_lt, CutTogether, done_of, Draws, drop, Emitted, Err, false, inl, inr, is_tampered, length, length-append, List, LosesSome, Machine, nat_lt, None, Option, option_map_or, Outputs, printed, PrintsUntil, Public, public_of, Ran, RanInFlight, ReadsTrueUntil, refl, RevState, RunStop, Position, Seen, served_as, Session, session_of, session_stop, slice_get, Some, Spelt, statements, Stmt, subst, suc, sym, Tables, take, take-append-drop, Took, true, turns_of, World, zero, ℕ, [], ◌++◌, ◌+◌, ◌<◌, ◌∙◌, ◌∷◌, ◌≡◌, ◌≤◌, ◌⊎◌}
use Rattle.ob_exec.specs.InFlight.{EndsAs, EndsMeant}
use Rattle.ob_exec.specs.RanFlight.{FlightCause, StopsInTurn}
use Rattle.ob_headline.proofs.FlightLeft.{ended_left}
use Rattle.ob_headline.proofs.TakenLemmas.{LosesSo}
use Rattle.ob_headline.proofs.UntilLemmas.{until_ended, until_not}
use Rattle.ob_headline.specs.Accesses.{LeavesInFlight, ends_within}
use Rattle.ob_headline.specs.Flights.{EndedBy, GoesOn, asked_until, has_ended, positions_in_flight, stand_at}
use Rattle.ob_inflight.specs.Closing.{Closed}
use Rattle.ob_mean.specs.Verdict.{verdict}
use Rattle.ob_print.specs.Cuts.{IsCutOf}
use Rattle.ob_script.proofs.FlightEnds.{all_ended, flying_long}
use Rattle.ob_script.specs.Flights.{AreSteady, Flight, Flying, boarding, turns, Entry as Turn, flight_public}
use Rattle.ob_script.specs.Trace.{Served as Entry}
use Rattle.ob_shell.proofs.FlightEnd.{all_fs, aloft, in_all, left_walked, long_in_flight, positions_left, spelt_left, taken_long, turn_of}
use Rattle.ob_shell.proofs.FlightFacts.{ByThen, EachBy, first_answered, get_less, past_none, places, positions_are}
use Rattle.ob_shell.proofs.FlightLast.{LastWalk}
use Rattle.ob_shell.proofs.FlightMeant.{BeginsSo, Means, meant_so}
use Rattle.ob_shell.proofs.FlightSeen.{FirstAnswered, IsIn, Stood}
use Rattle.ob_shell.proofs.FlightStop.{nth_answered, prints_whole, taken_on}
use Rattle.ob_shell.proofs.FlownLists.{StmtInFlight, Places, flown_at, flown_list, positions_in}
use Rattle.ob_shell.proofs.StopLemmas.{tampered_as, stop_untampered}
use Rattle.ob_shell.proofs.WalkLemmas.{EarlyAt}
use Rattle.ob_shell.specs.FlightAnswers.{answers_of}
use Rattle.ob_tables.specs.Telling.{is_refused}
use Rattle.ob_tables.specs.declared.stop.RunStop.TheVariants as Runs
use Rattle.ob_shell.proofs.ReplayLemmas.{free_holds}
use Rattle.ob_shell.proofs.WalkEntries.{positions_at}
use Rattle.ob_verdict.specs.Outcomes.{Emits, Partly}

-- ---- what a sink took
-- of the one after those that it took whole
abbrev pub PrintsBehind : RunStop → (lost : List Answer) → (part left : List ℕ) → Type 0
PrintsBehind run [] part left = PrintsUntil (session_stop run) left part
PrintsBehind run (one ∷ lost) part left = PrintsUntil (session_stop run) left one.bytes

pub record SinkSo (w0 w1 : Option (List ℕ)) (Lost : Type 0) (run : RunStop) (first answers : List Answer) (part : List ℕ) : Type 0 where
  pub kept : List Answer
  pub lost : List Answer
  pub parts : answers ≡ kept ++ lost
  pub took : Took w0 w1 (printed (first ++ kept))
  pub left : List ℕ
  pub prints : PrintsBehind run lost part left
  pub cut : Outputs w0 w1 Lost (printed (first ++ kept) ++ left)
  -- none of them was lost, or it was for this cause, or memory was wanting
  pub why : (lost ≡ []) ⊎ (Lost ⊎ (run ≡ Runs.NoMemory))

sink_on : (w0 w1 : Option (List ℕ)) (Lost : Type 0) (run : RunStop) (first answers : List Answer) (part : List ℕ) (kept lost : List Answer) → answers ≡ kept ++ lost → Took w0 w1 (printed (first ++ kept)) → LosesSo w0 w1 Lost (first ++ kept) lost part → SinkSo w0 w1 Lost run first answers part
sink_on w0 w1 Lost run first answers part kept [] parts took loses = record { kept = kept; lost = []; parts = parts; took = took; left = part; prints = prints_whole run part; cut = loses; why = inl refl }
sink_on w0 w1 Lost run first answers part kept (one ∷ lost) parts took loses = record { kept = kept; lost = one ∷ lost; parts = parts; took = took; left = one.bytes; prints = prints_whole run one.bytes; cut = loses.1; why = inr (inl loses.0) }

-- exactly what it took
record Exactly (w0 w1 : Option (List ℕ)) (Lost : Type 0) (whole behind : List ℕ) : Type 0 where
  left : List ℕ
  is : IsCutOf left behind
  cut : Outputs w0 w1 Lost (whole ++ left)

exactly : (w0 w1 : Option (List ℕ)) (Lost : Type 0) (whole behind : List ℕ) → Took w0 w1 whole → Outputs w0 w1 (Unit {0}) (whole ++ behind) → Exactly w0 w1 Lost whole behind
exactly None w1 Lost whole behind took out = record {
  left = behind;
  is = record { lost = []; whole = sym (append-nil behind) };
  cut = record { grown = whole ++ behind; appends = tt; prefix = record { lost = []; whole = sym (append-nil (whole ++ behind)) }; all = inl refl };
}
exactly (Some a) None Lost whole behind took out = absurd out.appends
exactly (Some a) (Some b) Lost whole behind took out =
    let grown : out.grown ≡ whole ++ took.after = append_cancel_left a _ _ (sym out.appends ∙ took.appends) in
    record {
      left = took.after;
      is = record { lost = out.prefix.lost; whole = append_cancel_left whole _ _ (out.prefix.whole ∙ ap (λ (l : List ℕ). l ++ out.prefix.lost) grown ∙ append_assoc whole took.after out.prefix.lost) };
      cut = record { grown = whole ++ took.after; appends = took.appends; prefix = record { lost = []; whole = sym (append-nil (whole ++ took.after)) }; all = inl refl };
    }

sink_cut : (w0 w1 : Option (List ℕ)) (Lost : Type 0) (first answers : List Answer) (part : List ℕ) (kept lost : List Answer) → answers ≡ kept ++ lost → Took w0 w1 (printed (first ++ kept)) → LosesSo w0 w1 (Unit {0}) (first ++ kept) lost part → SinkSo w0 w1 Lost Runs.NoMemory first answers part
sink_cut w0 w1 Lost first answers part kept [] parts took loses =
    let on = exactly w0 w1 Lost (printed (first ++ kept)) part took loses in
    record { kept = kept; lost = []; parts = parts; took = took; left = on.left; prints = on.is; cut = on.cut; why = inl refl }
sink_cut w0 w1 Lost first answers part kept (one ∷ lost) parts took loses =
    let on = exactly w0 w1 Lost (printed (first ++ kept)) one.bytes took loses.1 in
    record { kept = kept; lost = one ∷ lost; parts = parts; took = took; left = on.left; prints = on.is; cut = on.cut; why = inr (inr refl) }

-- a stop for want of memory comes with a first part of that
loosely : (w0 w1 : Option (List ℕ)) (Lost : Type 0) (whole bytes text : List ℕ) → IsCutOf bytes text → Outputs w0 w1 Lost (whole ++ bytes) → Outputs w0 w1 (Unit {0}) (whole ++ text)
loosely w0 w1 Lost whole bytes text is out = record {
  grown = out.grown;
  appends = out.appends;
  prefix = record {
    lost = out.prefix.lost ++ is.lost;
    whole =
        ap (λ (l : List ℕ). whole ++ l) is.whole ∙ sym (append_assoc whole bytes is.lost) ∙ ap (λ (l : List ℕ). l ++ is.lost) out.prefix.whole ∙ append_assoc out.grown out.prefix.lost is.lost;
  };
  all = inr tt;
}

same_text : (w0 w1 : Option (List ℕ)) (Lost : Type 0) (first : List Answer) (bytes text : List ℕ) → bytes ≡ text → Outputs w0 w1 Lost (printed first ++ bytes) → Outputs w0 w1 Lost (printed first ++ text)
same_text w0 w1 Lost first bytes text is out = subst (λ (l : List ℕ). Outputs w0 w1 Lost (printed first ++ l)) is out

pub sink_so : (w0 w1 : Option (List ℕ)) (Lost : Type 0) (run : RunStop) (first answers : List Answer) (bytes part : List ℕ) → Outputs w0 w1 Lost (printed first ++ bytes) → Took w0 w1 (printed first) → PrintsUntil (session_stop run) bytes (printed answers ++ part) → SinkSo w0 w1 Lost run first answers part
sink_so w0 w1 Lost Runs.NoMemory first answers bytes part out whole prints =
    let on = taken_on w0 w1 (Unit {0}) first answers part (loosely w0 w1 Lost (printed first) bytes (printed answers ++ part) prints out) whole in
    sink_cut w0 w1 Lost first answers part on.kept on.lost on.parts on.took on.loses
sink_so w0 w1 Lost (Runs.Tampered region place) first answers bytes part out whole prints =
    let on = taken_on w0 w1 Lost first answers part (same_text w0 w1 Lost first bytes (printed answers ++ part) prints out) whole in
    sink_on w0 w1 Lost (Runs.Tampered region place) first answers part on.kept on.lost on.parts on.took on.loses
sink_so w0 w1 Lost Runs.SinkFault first answers bytes part out whole prints =
    let on = taken_on w0 w1 Lost first answers part (same_text w0 w1 Lost first bytes (printed answers ++ part) prints out) whole in
    sink_on w0 w1 Lost Runs.SinkFault first answers part on.kept on.lost on.parts on.took on.loses
sink_so w0 w1 Lost Runs.StoreFault first answers bytes part out whole prints =
    let on = taken_on w0 w1 Lost first answers part (same_text w0 w1 Lost first bytes (printed answers ++ part) prints out) whole in
    sink_on w0 w1 Lost Runs.StoreFault first answers part on.kept on.lost on.parts on.took on.loses
sink_so w0 w1 Lost Runs.StashFull first answers bytes part out whole prints =
    let on = taken_on w0 w1 Lost first answers part (same_text w0 w1 Lost first bytes (printed answers ++ part) prints out) whole in
    sink_on w0 w1 Lost Runs.StashFull first answers part on.kept on.lost on.parts on.took on.loses
sink_so w0 w1 Lost Runs.KeeperFault first answers bytes part out whole prints =
    let on = taken_on w0 w1 Lost first answers part (same_text w0 w1 Lost first bytes (printed answers ++ part) prints out) whole in
    sink_on w0 w1 Lost Runs.KeeperFault first answers part on.kept on.lost on.parts on.took on.loses

-- ---- the stop
pub never_within : (run : RunStop) (old new : World) → FlightCause {T = Unit {0}} (Err run) old new → ends_within (Ran (Err (session_stop run))) ≡ true → ⊥
never_within Runs.StoreFault old new cause is = cause
never_within Runs.StashFull old new cause is = cause
never_within Runs.KeeperFault old new cause is = cause
never_within other old new cause is = cc is

pub carried_by : (run : RunStop) (k : ℕ) → done_of (is_refused run) k ≡ done_of (is_tampered (Ran (Err (session_stop run)))) k
carried_by run k = ap (λ (b : Bool). done_of b k) (tampered_as run)

-- ---- which had ended
less_so : (i n : ℕ) → i < n → nat_lt i n ≡ true
less_so i n less = grind arith

module _ (p : Public) (flown : List Entry) (words : ℕ → ℕ) (k count : ℕ) (steady : AreSteady p flown) (few : count ≤ length flown) (stops : StopsInTurn p flown words k count) where
  ended_here : (i : ℕ) → i < count → (o : Option Flying) → slice_get (turns words stops.turn (boarding p flown)).flying i ≡ o → has_ended i (turns words stops.turn (boarding p flown)) ≡ true
  ended_here i less (Some f) is = ap (λ (x : Option Flying). option_map_or (λ (g : Flying). g.ended) x false) is ∙ stops.ended i f is ∙ less_so i count less
  ended_here i less None is = absurd (let past = past_none (turns words stops.turn (boarding p flown)).flying i is in let long = flying_long p flown words steady stops.turn in omega (arith, past, long, less, few))

  pub ended_by : (i : ℕ) → i < count → asked_until words i (turns_of p flown) (boarding p flown) ≤ k
  ended_by i less =
      let all = until_ended words i (boarding p flown) stops.turn (turns_of p flown) (ended_here i less (slice_get (turns words stops.turn (boarding p flown)).flying i) refl) in
      let least = stops.least in
      omega (arith, all, least)

-- of a flight that was left the first of those from there on hadn't ended
goes_from : (words : ℕ → ℕ) (p : Public) (m : ℕ) (all : List Entry) (asked i n j : ℕ) → asked ≤ asked_until words (i + j) (turns_of p all) (boarding p all) → GoesOn (drop j (positions_in_flight p m all words (Some asked) i n))
unfolding positions_in_flight
goes_from words p m all asked i zero zero on = tt
goes_from words p m all asked i zero (suc j) on = tt
goes_from words p m all asked i (suc n) zero on =
    let same : i + 0 ≡ i = omega arith in
    let here : asked ≤ asked_until words i (turns_of p all) (boarding p all) = subst (λ (k : ℕ). asked ≤ asked_until words k (turns_of p all) (boarding p all)) same on in
    omega (arith, here)
goes_from words p m all asked i (suc n) (suc j) on =
    let next : i + suc j ≡ (i + 1) + j = omega arith in
    goes_from words p m all asked (i + 1) n j (subst (λ (k : ℕ). asked ≤ asked_until words k (turns_of p all) (boarding p all)) next on)

pub flown_get : (at : Places) (i k : ℕ) (stmts : List Stmt) (seens : List Seen) (ended : List Closed) (stmt : Stmt) (seen : Seen) → slice_get stmts k ≡ Some stmt → slice_get seens k ≡ Some seen
    → slice_get (flown_list at i stmts seens ended) k ≡ Some (flown_at at (i + k) stmt seen (slice_get ended k))
unfolding flown_list
flown_get at i k [] seens ended stmt seen get shown = absurd (cc get)
flown_get at i k (x ∷ stmts) [] ended stmt seen get shown = absurd (cc shown)
flown_get at i zero (x ∷ stmts) (y ∷ seens) [] stmt seen get shown = let a : x ≡ stmt = cc get in let b : y ≡ seen = cc shown in let z : i ≡ i + 0 = omega arith in λ j. Some (flown_at at (z j) (a j) (b j) None)
flown_get at i zero (x ∷ stmts) (y ∷ seens) (one ∷ ended) stmt seen get shown = let a : x ≡ stmt = cc get in let b : y ≡ seen = cc shown in let z : i ≡ i + 0 = omega arith in λ j. Some (flown_at at (z j) (a j) (b j) (Some one))
flown_get at i (suc k) (x ∷ stmts) (y ∷ seens) [] stmt seen get shown = let z : (i + 1) + k ≡ i + suc k = omega arith in flown_get at (i + 1) k stmts seens [] stmt seen get shown ∙ (λ j. Some (flown_at at (z j) stmt seen None))
flown_get at i (suc k) (x ∷ stmts) (y ∷ seens) (one ∷ ended) stmt seen get shown = let z : (i + 1) + k ≡ i + suc k = omega arith in flown_get at (i + 1) k stmts seens ended stmt seen get shown ∙ (λ j. Some (flown_at at (z j) stmt seen (slice_get ended k)))

served_few : (stmts : List Stmt) (seens : List Seen) → length seens ≡ length stmts → length (served_as stmts seens) ≡ length stmts
served_few [] seens long = refl
served_few (stmt ∷ stmts) [] long = absurd (omega (arith, long))
served_few (stmt ∷ stmts) (seen ∷ seens) long = ap (λ (n : ℕ). suc n) (served_few stmts seens (omega (arith, long)))

answers_few : (ended : List Closed) (seens : List Seen) → length ended ≤ length seens → length (answers_of ended seens) ≡ length ended
answers_few [] seens few = refl
answers_few (one ∷ ended) [] few = absurd (omega (arith, few))
answers_few (one ∷ ended) (seen ∷ seens) few = ap (λ (n : ℕ). suc n) (answers_few ended seens (omega (arith, few)))

not_less : (i n : ℕ) → n ≤ i → nat_lt i n ≡ false
not_less i n past = grind arith

module _ (p : Public) (flown : List Entry) (words : ℕ → ℕ) (k count : ℕ) (steady : AreSteady p flown) (stops : StopsInTurn p flown words k count) (i : ℕ) (past : count ≤ i) (less : i < length flown) where
  abbrev at_turn : Flight
  at_turn = turns words stops.turn (boarding p flown)

  going_by : (o : Option Flying) → slice_get at_turn.flying i ≡ o → k ≤ asked_until words i (turns_of p flown) (boarding p flown)
  going_by None is = absurd (let over = past_none at_turn.flying i is in let long = flying_long p flown words steady stops.turn in omega (arith, over, long, less))
  going_by (Some f) is = elim (cases_lt stops.turn (turns_of p flown)) [
    | inl before ↦
        let next : stops.turn + 1 ≡ suc stops.turn = omega arith in
        let most : k ≤ length (turns words (suc stops.turn) (boarding p flown)).log = subst (λ (n : ℕ). k ≤ length (turns words n (boarding p flown)).log) next stops.most in
        let here = until_not words i (boarding p flown) stops.turn (turns_of p flown) before
        (ap (λ (x : Option Flying). option_map_or (λ (g : Flying). g.ended) x false) is ∙ stops.ended i f is ∙ not_less i count past) in
        omega (arith, most, here)
    | inr over ↦ absurd (cc ((all_ended p flown words steady stops.turn over).each i f is, stops.ended i f is, not_less i count past))
  ]

  -- the next one had not ended before, nor had any after it
  pub going_past : k ≤ asked_until words i (turns_of p flown) (boarding p flown)
  going_past = going_by (slice_get at_turn.flying i) refl

pub going_on : (p : Public) (flown : List Entry) (words : ℕ → ℕ) (k count : ℕ) → AreSteady p flown → count < length flown → StopsInTurn p flown words k count → k ≤ asked_until words count (turns_of p flown) (boarding p flown)
going_on p flown words k count steady less stops = going_past p flown words k count steady stops count (omega arith) less

module _ {R : Type 0} (state : R → RevState) (m1 m2 : Machine R) (more : List (List ℕ)) (bytes : List ℕ) (w0 w1 : Option (List ℕ)) (Lost : Type 0) (first : List Answer) (run : RunStop) (done : CutTogether state m1 m2 more run bytes)
    (steady : AreSteady (public_of m1.engine) (served_as done.stmts done.seens)) where
  abbrev ran : RanInFlight {T = Unit {0}} state m1.flights.words m2.flights.words done.stmts done.seens done.flew.ended (Err run) m1.engine m1.store m2.engine m2.store
  ran = done.flew.ran

  abbrev fs_cut : List StmtInFlight
  fs_cut = all_fs state m1 m2 done.stmts done.seens done.flew.ended (Err run) done.may ran

  abbrev total : ℕ
  total = in_all state m1 m2 done.stmts done.seens done.flew.ended (Err run) done.may ran

  abbrev flown : List Entry
  flown = served_as done.stmts done.seens

  abbrev p : Public
  p = public_of m1.engine

  abbrev e : ℕ
  e = length done.flew.ended

  abbrev at : Places
  at = places state m1 m2 done.stmts done.seens done.flew.ended (Err run) done.may ran (Some total)

  less_e : e < length done.stmts
  less_e = get_less done.stmts e done.flew.stmt done.flew.next

  long_flown : length done.stmts ≡ length flown
  long_flown = sym (served_few done.stmts done.seens ran.long)

  pub had : (j : ℕ) → j ≤ e → All (λ (v : Position). EndedBy v.left v) (take j (positions_in fs_cut))
  had j few = subst (λ (vs : List Position). All (λ (v : Position). EndedBy v.left v) (take j vs)) (sym (positions_are state m1 m2 done.stmts done.seens done.flew.ended (Err run) done.may ran (Some total)))
      (ended_left m1.flights.words p (asked_of m1) flown total 0 (length flown) j (λ k less.
      ended_by p flown m1.flights.words total e steady (omega (arith, less_e, long_flown)) ran.turn (0 + k) (omega (arith, less, few))))

  by_then : (i : ℕ) → i < length flown → (o : Option Closed) → slice_get done.flew.ended i ≡ o → ByThen o (asked_until m1.flights.words i (turns_of p flown) (boarding p flown)) total
  by_then i less (Some one) is = ended_by p flown m1.flights.words total e steady (omega (arith, less_e, long_flown)) ran.turn i (get_less done.flew.ended i one is)
  by_then i less None is = going_past p flown m1.flights.words total e steady ran.turn i (past_none done.flew.ended i is) less

  are_by : EachBy m1.flights.words p flown done.flew.ended total (length done.stmts)
  are_by i less = by_then i (omega (arith, less, long_flown)) (slice_get done.flew.ended i) refl

  abbrev next_one : Option Closed → StmtInFlight
  next_one closed = flown_at at e done.flew.stmt done.flew.seen closed

  next_at : slice_get fs_cut e ≡ Some (next_one (slice_get done.flew.ended e))
  next_at =
      let z : 0 + e ≡ e = omega arith in
      flown_get at 0 e done.stmts done.seens done.flew.ended done.flew.stmt done.flew.seen done.flew.next done.flew.shown ∙ (λ j. Some (flown_at at (z j) done.flew.stmt done.flew.seen (slice_get done.flew.ended e)))

  -- of the next one a first part was printed, or it had been answered
  module _ (d : Draws) (tables : Tables) (reads : ReadsTrueUntil state m1.engine m1.store m2.engine m2.store tables) (left : List ℕ) (prints : PrintsUntil (session_stop run) left done.flew.part) where
    abbrev s : Session
    s = session_of m1 d tables

    begins_next : (o : Option Closed) → Stood (next_one o) → Means s (next_one o) → BeginsSo (Ran (Err (session_stop run))) s (next_one o) left
    begins_next o stood means = elim done.flew.emits.text [
      | inl is ↦ record {
        stand = stand_at p flown m1.flights.words e total;
        left = refl;
        emits = inl (record {
          on = let on = going_on p flown m1.flights.words total e steady (omega (arith, less_e, long_flown)) ran.turn in omega (arith, on);
          events = done.flew.emits.events;
          begun = subst (λ (n : ℕ). Partly (answer_labels done.flew.stmt p) (verdict (flight_public n p) (asked_of m1) tables done.flew.stmt) done.flew.emits.events) long_flown (done.flew.emits.told tables reads);
          printed = subst (λ (l : List ℕ). PrintsUntil (session_stop run) left l) is prints;
        });
      }
      | inr whole ↦
          let outcome = whole.0 in
          let ends = whole.1 in
          let how : Closed = record { outcome = outcome; events = done.flew.emits.events } in
          let stood1 : Stood (next_one (Some how)) = record {
            fly = stood.fly;
            flown = subst (λ (n : ℕ). EndsAs (flight_public n p) (asked_of m1) (at.own e) done.flew.stmt done.flew.seen outcome) long_flown ends.ends;
            emits = λ one closed. let same : how ≡ one = cc closed in subst (λ (x : Closed). Emits done.flew.stmt (answer_labels done.flew.stmt p) x.outcome x.events) same ends.emits;
          } in
          let means1 : Means s (next_one (Some how)) = record {
            listed = means.listed;
            told = subst (λ (n : ℕ). EndsMeant d (flight_public n p) (asked_of m1) (at.own e) tables done.flew.stmt done.flew.seen outcome) long_flown (ends.told tables d reads);
            emitted = λ one closed. let same : how ≡ one = cc closed in
                subst (λ (x : Closed). Emitted done.flew.stmt (flight_public (length flown) p) (asked_of m1) tables x.outcome x.events) same
                (subst (λ (n : ℕ). Emitted done.flew.stmt (flight_public n p) (asked_of m1) tables outcome done.flew.emits.events) long_flown (ends.emitted tables reads));
          } in
          let answer = answer_of how done.flew.seen in
          let own = meant_so s (next_one (Some how)) answer stood1 (record { how = how; closed = refl; is = refl }) means1 in
          record {
            stand = stand_at p flown m1.flights.words e total;
            left = refl;
            emits = inr (record { how = own.how; cuts = own.cuts; seen = own.seen; answer = answer; answers = own.answer; printed = subst (λ (l : List ℕ). PrintsUntil (session_stop run) left l) whole.2 prints });
          }
    ]

  begins_cut : (kept lost : List Answer) → answers_of done.flew.ended done.seens ≡ kept ++ lost → (left : List ℕ) → PrintsBehind run lost done.flew.part left
      → (d : Draws) (tables : Tables) → ReadsTrueUntil state m1.engine m1.store m2.engine m2.store tables → (f : StmtInFlight) → slice_get fs_cut (length kept) ≡ Some f → Stood f → IsIn f → Means (session_of m1 d tables) f → BeginsSo (Ran (Err (session_stop run))) (session_of m1 d tables) f left
  begins_cut kept [] parts left prints d tables reads f is stood inn means =
      let long = ap length parts ∙ ap length (append-nil kept) in
      let few = answers_few done.flew.ended done.seens (let all = ran.long in omega (arith, all, less_e)) in
      let n : length kept ≡ e = omega (arith, long, few) in
      let same : next_one (slice_get done.flew.ended e) ≡ f = let both : Some (next_one (slice_get done.flew.ended e)) ≡ Some f = sym next_at ∙ ap (slice_get fs_cut) (sym n) ∙ is in cc both in
      subst (λ (x : StmtInFlight). BeginsSo (Ran (Err (session_stop run))) (session_of m1 d tables) x left) same
      (begins_next d tables reads left prints (slice_get done.flew.ended e) (subst Stood (sym same) stood) (subst (λ (x : StmtInFlight). Means (session_of m1 d tables) x) (sym same) means))
  begins_cut kept (one ∷ lost) parts left prints d tables reads f is stood inn means =
      let each = first_answered at 0 done.stmts done.seens done.flew.ended (kept ++ (one ∷ lost)) [] ran.long (omega (arith, less_e)) (parts ∙ sym (append-nil (kept ++ (one ∷ lost)))) in
      let own = meant_so (session_of m1 d tables) f one stood (nth_answered fs_cut kept one lost f each is) means in
      record { stand = inn.stand; left = inn.left; emits = inr (record { how = own.how; cuts = own.cuts; seen = own.seen; answer = one; answers = own.answer; printed = prints }) }

  abbrev here : List Entry
  here = aloft state m1 m2 done.stmts done.seens done.flew.ended (Err run) done.may ran

  abbrev pub entries_cut : List Turn
  entries_cut = turn_of state m1 m2 done.stmts done.seens done.flew.ended (Err run) done.may ran ∷ []

  abbrev pub spelt_cut : List Spelt
  spelt_cut = spelt_left state m1 m2 done.stmts done.seens done.flew.ended (Err run) done.may ran

  goes_cut : (j : ℕ) → j ≡ e → GoesOn (drop j (positions_at m1 entries_cut))
  goes_cut j is =
      subst (λ (vs : List Position). GoesOn (drop j vs)) (sym (positions_are state m1 m2 done.stmts done.seens done.flew.ended (Err run) done.may ran (Some total)) ∙ positions_left state m1 m2 done.stmts done.seens done.flew.ended (Err run) done.may ran)
      (goes_from m1.flights.words p (asked_of m1) flown total 0 (length flown) j
      (let same : e ≡ 0 + j = omega (arith, is) in
      subst (λ (k : ℕ). total ≤ asked_until m1.flights.words k (turns_of p flown) (boarding p flown)) same (going_on p flown m1.flights.words total e steady (omega (arith, less_e, long_flown)) ran.turn)))

  pub cut_last : Outputs w0 w1 Lost (printed first ++ bytes) → Took w0 w1 (printed first)
      → ((kept : List Answer) → length kept ≤ e → LeavesInFlight (Ran (Err (session_stop run))) m2.store.asked (drop (length (take (length kept) here)) (positions_at m1 entries_cut)) (statements (drop (length (take (length kept) done.flown)) spelt_cut)) (drop (length kept) here))
      → ((kept : List Answer) → FirstAnswered fs_cut kept → EarlyAt state m1 m2 entries_cut spelt_cut kept (take (length kept) here ++ drop (length kept) here))
      → LastWalk state (Ran (Err (session_stop run))) m1 m2 more bytes w0 w1 Lost first
  cut_last out whole wants early =
      let on = sink_so w0 w1 Lost run first (answers_of done.flew.ended done.seens) bytes done.flew.part out whole done.flew.printed in
      let n = length on.kept in
      let sum = ap length on.parts ∙ length-append on.kept on.lost in
      let few = answers_few done.flew.ended done.seens (let all = ran.long in omega (arith, all, less_e)) in
      let under : n ≤ e = omega (arith, sum, few) in
      let each = first_answered at 0 done.stmts done.seens done.flew.ended on.kept on.lost ran.long (omega (arith, less_e)) on.parts in
      let taken : length (take n here) ≡ n = taken_long n here (let long = long_in_flight state m1 m2 done.stmts done.seens done.flew.ended (Err run) done.may ran in omega (arith, long, under, less_e)) in
      let goes : GoesOn (drop (length (take n here)) (positions_at m1 entries_cut)) ⊎ LosesSome Lost (Ran (Err (session_stop run))) = elim on.why [
        | inl none ↦ let gone = ap length none in inl (goes_cut (length (take n here)) (omega (arith, taken, sum, few, gone)))
        | inr why ↦ elim why [
          | inl lost ↦ inr (inl lost)
          | inr wants ↦ inr (inr (inr (ap (λ (r : RunStop). Ran (Err (session_stop r))) wants)))
        ]
      ] in
      record {
        held = take n done.flown;
        rest = drop n done.flown ++ done.more;
        parts = done.parts ∙ ap (λ (l : List (List ℕ)). l ++ done.more) (sym (take-append-drop n done.flown)) ∙ append_assoc (take n done.flown) (drop n done.flown) done.more;
        kept = on.kept;
        left = on.left;
        walk = left_walked state m1 m2 done.stmts done.seens done.flew.ended (Err run) done.may ran run done.flown done.more done.spelt (carried_by run total) (never_within run _ _ ran.cause)
            on.kept each (omega (arith, under, less_e)) (had n under) are_by on.left
            (λ d drawn tables reads f is stood inn means. begins_cut on.kept on.lost on.parts on.left on.prints d tables reads f is stood inn means)
            (wants on.kept under)
            goes
            (λ d drawn tells tables held honest. stop_untampered run (ran.means.honest tables (record { tells = tells; held = free_holds state m1 d tables done.may.free held; nolie = honest })))
            (early on.kept each);
        cut = on.cut;
        whole = on.took;
        same = inr (run, refl);
      }
