-- A flight that was left for want of memory.
use Rattle.ob_shell.proofs.Words.{Access, All, All-head, All-tail, Answer, ap, arith, Bool, CutTogether, drop, Ending, Err, false, inl, inr, IsTrue, length, List, Machine, None, Option, option_map_or, Public, public_of, Ran, RanInFlight, refl, RevState, RunStop, script, Position, Seen, served_as, served_long, session_stop, skeleton, slice_get, Some, statements, Stmt, subst, suc, sym, take, take-append-drop, turns_of, whole_script, zero, ℕ, [], ◌+◌, ◌∙◌, ◌∷◌, ◌≡◌, ◌≤◌, ◌⊎◌}
use Rattle.std.specs.Prelude.{◌==◌}
use Rattle.std.proofs.lemmas.Bool.{eq-eqb}
use Rattle.std.proofs.lemmas.List.{drop_all, length-drop, length-take-le}
use Rattle.ob_exec.specs.RanFlight.{InEnd, InTurn, asked_next, in_flight}
use Rattle.ob_headline.proofs.UntilLemmas.{until_ended}
use Rattle.ob_headline.specs.Accesses.{FirstWants, HasTurn, LeavesInFlight, LeavesFlight, MakesInFlight, OneMakes, WantsInFlight, ends_within}
use Rattle.ob_headline.specs.Flights.{EndedBy, OnBy, LeftAt, stand_at}
use Rattle.ob_script.specs.Flights.{AreSteady, Flying, boarding, flight_public}
use Rattle.ob_script.specs.Trace.{Served as Entry}
use Rattle.ob_select.proofs.SelectRuns.{ends-more}
use Rattle.ob_select.specs.Memory.{AtEmission, AtMake, AtResult, ends_with_make}
use Rattle.ob_shell.proofs.FlightCut.{flown_get, going_on, had}
use Rattle.ob_shell.proofs.FlightEnd.{all_fs, aloft, in_all, long_in_flight, positions_left, spelt_left, turn_of}
use Rattle.ob_shell.proofs.FlightFacts.{get_less, past_none, places, spelt_long}
use Rattle.ob_shell.proofs.FlightSeen.{spelt_in}
use Rattle.ob_shell.proofs.FlightSteady.{steady_flown}
use Rattle.ob_shell.proofs.FlownLists.{StmtInFlight, Places, each_flown, flown_at, positions_in, served_in_all}
use Rattle.ob_shell.proofs.WalkEntries.{positions_at}
use Rattle.ob_tables.specs.declared.stop.RunStop.TheVariants as Runs

-- ---- for which of them
abbrev HadEnded : Position → Type 0
HadEnded v = EndedBy v.left v

-- just before the result of the one at a place is made, after those that were answered
one_makes : (fs : List StmtInFlight) (n i : ℕ) (f : StmtInFlight) → n ≤ i → slice_get fs i ≡ Some f → MakesInFlight f.position.left f.position.public f.stmt f.seen
    → OneMakes (drop n (positions_in fs)) (statements (drop n (spelt_in fs))) (drop n (served_in_all fs))
unfolding OneMakes statements
one_makes [] n i f from is makes = absurd (cc is)
one_makes (x ∷ fs) zero zero f from is makes = let same : f ≡ x = cc is in inl (subst (λ (y : StmtInFlight). MakesInFlight y.position.left y.position.public y.stmt y.seen) same makes)
one_makes (x ∷ fs) zero (suc i) f from is makes = inr (one_makes fs zero i f (omega arith) is makes)
one_makes (x ∷ fs) (suc n) zero f from is makes = absurd (omega (arith, from))
one_makes (x ∷ fs) (suc n) (suc i) f from is makes = one_makes fs n i f (omega (arith, from)) is makes

-- it hadn't ended, and memory was wanting for it
abbrev WantsOn : StmtInFlight → Type 0
WantsOn f = OnBy f.position.left f.position × WantsInFlight f.position.left f.position f.stmt f.seen

-- for the one at a place, before which all had ended
first_wants : (fs : List StmtInFlight) (n i : ℕ) (f : StmtInFlight) → n ≤ i → slice_get fs i ≡ Some f → All HadEnded (take i (positions_in fs)) → WantsOn f
    → FirstWants (drop n (positions_in fs)) (statements (drop n (spelt_in fs))) (drop n (served_in_all fs))
unfolding FirstWants statements
first_wants [] n i f from is had wants = absurd (cc is)
first_wants (x ∷ fs) zero zero f from is had wants = let same : f ≡ x = cc is in inl (subst WantsOn same wants)
first_wants (x ∷ fs) zero (suc i) f from is had wants = inr (All-head HadEnded x.position (take i (positions_in fs)) had, first_wants fs zero i f (omega arith) is (All-tail HadEnded x.position (take i (positions_in fs)) had) wants)
first_wants (x ∷ fs) (suc n) zero f from is had wants = absurd (omega (arith, from))
first_wants (x ∷ fs) (suc n) (suc i) f from is had wants = first_wants fs n i f (omega (arith, from)) is (All-tail HadEnded x.position (take i (positions_in fs)) had) wants

-- one or the other, after the first n of them
abbrev OneOf : (n : ℕ) → List StmtInFlight → Type 0
OneOf n fs =
    OneMakes (drop n (positions_in fs)) (statements (drop n (spelt_in fs))) (drop n (served_in_all fs))
    ⊎ FirstWants (drop n (positions_in fs)) (statements (drop n (spelt_in fs))) (drop n (served_in_all fs))

-- so many accesses were asked when its flight was left
record IsLeftAt (total : ℕ) (f : StmtInFlight) : Type 0 where
  stand : LeftAt
  left : f.position.left ≡ Some stand
  all : stand.all ≡ total

left_for_want : (fs : List StmtInFlight) (n total : ℕ) (ending : Ending) (asked : List Access) → All (IsLeftAt total) fs → ends_within ending ≡ false
    → (total ≡ 0) ⊎ (IsTrue (ends_with_make asked) ⊎ OneOf n fs)
    → LeavesInFlight ending asked (drop n (positions_in fs)) (statements (drop n (spelt_in fs))) (drop n (served_in_all fs))
left_for_want [] zero total ending asked left off why = tt
left_for_want [] (suc n) total ending asked left off why = tt
left_for_want (f ∷ fs) zero total ending asked left off why =
    let own = All-head (IsLeftAt total) f fs left in
    subst (λ (o : Option LeftAt). LeavesFlight o ending asked (OneOf zero (f ∷ fs))) (sym own.left) (
      off,
      λ is. elim why [
        | inl none ↦ inl (own.all ∙ none)
        | inr rest ↦ inr rest
      ],
    )
left_for_want (f ∷ fs) (suc n) total ending asked left off why = left_for_want fs n total ending asked (All-tail (IsLeftAt total) f fs left) off why

-- ---- for one of them
-- in its turn, just before its result is made, after so many accesses of its own
abbrev MakesBehind : Public → (turn : Bool) → (own : ℕ) → Stmt → Seen → Type 0
MakesBehind p turn own stmt seen =
    IsTrue turn × AtResult p stmt seen (drop own (whole_script p (skeleton stmt) seen))

-- in its turn where its rows are emitted, or in its end, after so many
abbrev EndsBehind : Public → LeftAt → (Ended : Type 0) → Stmt → Seen → Type 0
EndsBehind p stand Ended stmt seen =
    (HasTurn stand × AtEmission p stmt seen (drop stand.own (whole_script p (skeleton stmt) seen)))
    ⊎ (Ended × (drop stand.own (script p (skeleton stmt) seen) ≡ []))

module _ {R : Type 0} (state : R → RevState) (m1 m2 : Machine R) (more : List (List ℕ)) (part : List ℕ) (run : RunStop) (cut : CutTogether state m1 m2 more run part) where
  abbrev ran : RanInFlight {T = Unit {0}} state m1.flights.words m2.flights.words cut.stmts cut.seens cut.flew.ended (Err run) m1.engine m1.store m2.engine m2.store
  ran = cut.flew.ran

  abbrev fs_cut : List StmtInFlight
  fs_cut = all_fs state m1 m2 cut.stmts cut.seens cut.flew.ended (Err run) cut.may ran

  abbrev total : ℕ
  total = in_all state m1 m2 cut.stmts cut.seens cut.flew.ended (Err run) cut.may ran

  abbrev here : List Entry
  here = aloft state m1 m2 cut.stmts cut.seens cut.flew.ended (Err run) cut.may ran

  abbrev p : Public
  p = public_of m1.engine

  abbrev e : ℕ
  e = length cut.flew.ended

  abbrev at : Places
  at = places state m1 m2 cut.stmts cut.seens cut.flew.ended (Err run) cut.may ran (Some total)

  -- whether it was the turn of the one at a place
  abbrev turn_at : ℕ → Bool
  turn_at i = (stand_at p (served_as cut.stmts cut.seens) m1.flights.words i total).turn

  found : (i : ℕ) (stmt : Stmt) (seen : Seen) → slice_get cut.stmts i ≡ Some stmt → slice_get cut.seens i ≡ Some seen → slice_get fs_cut i ≡ Some (flown_at at i stmt seen (slice_get cut.flew.ended i))
  found i stmt seen get shown =
      let z : 0 + i ≡ i = omega arith in
      flown_get at 0 i cut.stmts cut.seens cut.flew.ended stmt seen get shown ∙ (λ j. Some (flown_at at (z j) stmt seen (slice_get cut.flew.ended i)))

  as_long : length cut.stmts ≡ length (served_as cut.stmts cut.seens)
  as_long = sym (served_long cut.stmts cut.seens ran.long)

  makes_at : (n i : ℕ) (stmt : Stmt) (seen : Seen) → n ≤ i → slice_get cut.stmts i ≡ Some stmt → slice_get cut.seens i ≡ Some seen → MakesBehind (in_flight cut.stmts p) (turn_at i) (at.own i) stmt seen → OneOf n fs_cut
  makes_at n i stmt seen from get shown makes =
      inl (one_makes fs_cut n i (flown_at at i stmt seen (slice_get cut.flew.ended i)) from (found i stmt seen get shown)
      (subst (λ (k : ℕ). MakesBehind (flight_public k p) (turn_at i) (at.own i) stmt seen) as_long makes))

  -- those before the next one had ended, and it hadn't
  steady : AreSteady p (served_as cut.stmts cut.seens)
  steady = steady_flown state m1 m2 cut.stmts cut.seens cut.flew.ended (Err run) cut.may ran

  had_before : All HadEnded (take e (positions_in fs_cut))
  had_before = had state m1 m2 more part None None (Unit {0}) [] run cut steady e (omega arith)

  goes_on : OnBy (at.position e).left (at.position e)
  goes_on =
      let under = get_less cut.stmts e cut.flew.stmt cut.flew.next in
      let on = going_on p (served_as cut.stmts cut.seens) m1.flights.words total e steady (omega (arith, under, as_long)) ran.turn in
      omega (arith, on)

  -- where the one at a place was left
  abbrev stand : ℕ → LeftAt
  stand i = stand_at p (served_as cut.stmts cut.seens) m1.flights.words i total

  ends_next : (n : ℕ) → n ≤ e → EndsBehind (in_flight cut.stmts p) (stand e) ((at.position e).until ≡ (at.position e).asked + total) cut.flew.stmt cut.flew.seen → OneOf n fs_cut
  ends_next n from wants =
      inr (first_wants fs_cut n e (flown_at at e cut.flew.stmt cut.flew.seen (slice_get cut.flew.ended e)) from (found e cut.flew.stmt cut.flew.seen cut.flew.next cut.flew.shown) had_before
      (goes_on, subst (λ (k : ℕ). EndsBehind (flight_public k p) (stand e) ((at.position e).until ≡ (at.position e).asked + total) cut.flew.stmt cut.flew.seen) as_long wants))

  all_left : All (IsLeftAt total) fs_cut
  all_left = each_flown at (IsLeftAt total) 0 cut.stmts cut.seens cut.flew.ended (λ k stmt seen get shown. record { stand = stand_at p (served_as cut.stmts cut.seens) m1.flights.words (0 + k) total; left = refl; all = refl })

  -- ---- why it was left
  abbrev Wants : (n : ℕ) → Type 0
  Wants n = (total ≡ 0) ⊎ (IsTrue (ends_with_make m2.store.asked) ⊎ OneOf n fs_cut)

  at_make : (n : ℕ) → AtMake (drop (length m1.store.asked) m2.store.asked) → Wants n
  at_make n (inl none) =
      let gone = length-drop (length m1.store.asked) m2.store.asked in
      let long = ap length none in
      inl (omega (arith, gone, long))
  at_make n (inr make) =
      inr (inl (subst (λ (l : List Access). IsTrue (ends_with_make l)) (take-append-drop (length m1.store.asked) m2.store.asked)
      (ends-more (take (length m1.store.asked) m2.store.asked) (drop (length m1.store.asked) m2.store.asked) make)))

  in_turn : (i : ℕ) (a : Access) → asked_next p m1.flights.words cut.stmts cut.seens total ≡ Some (i, a) → IsTrue (turn_at i)
  in_turn i a is = subst (λ (o : Option (ℕ × Access)). IsTrue (option_map_or (λ (e : ℕ × Access). e.0 == i) o false)) (sym is) (eq-eqb i i refl)

  its_turn : InTurn p m1.flights.words cut.stmts cut.seens total e → HasTurn (stand e)
  its_turn (inl last) = inl last
  its_turn (inr (a, next)) = inr (in_turn e a next)

  -- its end would have come next
  end_next : InEnd p m1.flights.words cut.stmts cut.seens total e → (at.position e).until ≡ (at.position e).asked + total
  end_next ends =
      let all = until_ended m1.flights.words e (boarding p (served_as cut.stmts cut.seens)) ends.turn (turns_of p (served_as cut.stmts cut.seens))
      (ap (λ (o : Option Flying). option_map_or (λ (f : Flying). f.ended) o false) ends.at ∙ ends.ended) in
      let within = ends.within in
      let on = goes_on in
      omega (arith, all, within, on)

  nothing_left : at.own e ≡ length (script (in_flight cut.stmts p) (skeleton cut.flew.stmt) cut.flew.seen) → drop (at.own e) (script (in_flight cut.stmts p) (skeleton cut.flew.stmt) cut.flew.seen) ≡ []
  nothing_left whole = drop_all (at.own e) (script (in_flight cut.stmts p) (skeleton cut.flew.stmt) cut.flew.seen) (omega (arith, whole))

  why_left : run ≡ Runs.NoMemory → (n : ℕ) → n ≤ e → Wants n
  why_left memory n few = elim (cut.flew.memory memory) [
    | inl make ↦ at_make n make
    | inr (inl before) ↦
        let past = past_none cut.flew.ended before.place before.going in
        inr (inr (makes_at n before.place before.stmt before.seen (omega (arith, past, few)) before.get before.shown (in_turn before.place before.access before.turn, before.makes)))
    | inr (inr (inl (inl turned, emits))) ↦ inr (inr (ends_next n few (inl (its_turn turned, emits))))
    | inr (inr (inl (inr (ends, whole), emits))) ↦ inr (inr (ends_next n few (inr (end_next ends, nothing_left whole))))
    | inr (inr (inr (ends, closes))) ↦ inr (inr (ends_next n few (inr (end_next ends, nothing_left closes.2.whole))))
  ]

  pub wants_left : run ≡ Runs.NoMemory → (kept : List Answer) → length kept ≤ e
      → LeavesInFlight (Ran (Err (session_stop run))) m2.store.asked
      (drop (length (take (length kept) here)) (positions_at m1 (turn_of state m1 m2 cut.stmts cut.seens cut.flew.ended (Err run) cut.may ran ∷ [])))
      (statements (drop (length (take (length kept) cut.flown)) (spelt_left state m1 m2 cut.stmts cut.seens cut.flew.ended (Err run) cut.may ran)))
      (drop (length kept) here)
  wants_left memory kept few =
      let n = length kept in
      let under = get_less cut.stmts e cut.flew.stmt cut.flew.next in
      let long_here = long_in_flight state m1 m2 cut.stmts cut.seens cut.flew.ended (Err run) cut.may ran in
      let long_texts = spelt_long cut.flown cut.stmts cut.spelt in
      let of_here : length (take n here) ≡ n = length-take-le n here (omega (arith, few, under, long_here)) in
      let of_texts : length (take n cut.flown) ≡ n = length-take-le n cut.flown (omega (arith, few, under, long_texts)) in
      let off : ends_within (Ran (Err (session_stop run))) ≡ false = ap (λ (r : RunStop). ends_within (Ran (Err (session_stop r)))) memory in
      let left = left_for_want fs_cut n total (Ran (Err (session_stop run))) m2.store.asked all_left off (why_left memory n few) in
      let positions = positions_left state m1 m2 cut.stmts cut.seens cut.flew.ended (Err run) cut.may ran in
      subst (λ (vs : List Position). LeavesInFlight (Ran (Err (session_stop run))) m2.store.asked (drop (length (take n here)) vs) (statements (drop (length (take n cut.flown)) (spelt_in fs_cut))) (drop n here)) positions
      (subst (λ (k : ℕ). LeavesInFlight (Ran (Err (session_stop run))) m2.store.asked (drop k (positions_in fs_cut)) (statements (drop (length (take n cut.flown)) (spelt_in fs_cut))) (drop n here)) (sym of_here)
      (subst (λ (k : ℕ). LeavesInFlight (Ran (Err (session_stop run))) m2.store.asked (drop n (positions_in fs_cut)) (statements (drop k (spelt_in fs_cut))) (drop n here)) (sym of_texts) left))
