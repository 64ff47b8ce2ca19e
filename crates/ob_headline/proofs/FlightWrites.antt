-- Statements in flight write to regions that they make, or to those of an index, whatever the turns.
use Rattle.ob_headline.proofs.Words.{Access, Accesses, AfterCount, All, All-head, Answer, ap, append_assoc, AreEntries, AreSeen, arith, Base, Bool, cases_lt, Continuous, Cut, drop, End, Ending, Err, false, Gathering, gathering_after, get_back, get_front, Hash, Holds, inl, inr, is_access, Batched, KeySet, Large, Lawful, length, List, Make, map, most_of, next, None, Ok, Option, option_map, Plan, Public, refl, script, positions_of, Seen, Served, slice_get, Small, Some, Spelt, Static, Stmt, StoreState, Story, subst, suc, sym, Table, take, trace_of, true, Whole, words_of, Write, zero, ℕ, [], ⊤, ◌++◌, ◌+◌, ◌-◌, ◌<◌, ◌∙◌, ◌∷◌, ◌≡◌, ◌≤◌, ◌⊎◌}
use Rattle.std.specs.Prelude.{unwrap_or, slice_set}
use Rattle.std.proofs.lemmas.Bool.{cases_eq}
use Rattle.std.proofs.lemmas.List.Elements.{All-tail}
use Rattle.ob_base.specs.declared.config.Planner.TheVariants.{Forced}
use Rattle.ob_headline.proofs.IndexWrites.{next_index}
use Rattle.ob_headline.proofs.OwnLemmas.{InOrder, in_order, ordered_own}
use Rattle.ob_headline.specs.Accesses.{IsLeft}
use Rattle.ob_headline.specs.Flights.{IsEntry, Position, after_entries, LeftAt, positions, positions_in_flight, served_by}
use Rattle.ob_headline.specs.Shown.{OfIndex, WritesOwn, Wrote}
use Rattle.ob_script.proofs.FlightLemmas.{public_turns}
use Rattle.ob_script.proofs.ListPlaces.{get_set_other, get_set_same}
use Rattle.ob_script.proofs.Steady.{steady_of}
use Rattle.ob_script.specs.FlightLaws.{MayFly, SelectsFromOne}
use Rattle.ob_script.specs.Flights.{Alone, Entry, Flight, Flying, Together, accesses_in, acted, boarded, boarding, entry_of, flight, flight_accesses, gates_of, gone_on, merge, next_act, next_flight, picked, place_by, region_after, runnable, trace_in, turn, turns, turns_of, words_from}
use Rattle.ob_mean.specs.Standing.{StandsAs}

-- no second plan comes after none
no_second : (x : Served) → x.seen.then ≡ None → InOrder x.seen.plan x.seen.then
no_second x none = subst (λ (o : Option Plan). InOrder x.seen.plan o) (sym none) (go x.seen.plan)
  where
    go : (plan : Option Plan) → InOrder plan None
    go None = tt
    go (Some plan) = tt

-- ---- one turn
module _ (from : ℕ) where
  -- a statement that may fly, whose region, if it made one, is none of those before
  record Fits (f : Flying) : Type 0 where
    may : MayFly f.served
    above : (g : ℕ) → f.region ≡ Some g → from ≤ g

  -- a write to a region from this one on, or of an index
  abbrev IsAbove : Flight → Access → Type 0
  IsAbove s a = (q x : ℕ) → a ≡ Write q x → (from ≤ q) ⊎ OfIndex s.public.tables q

  record Above (s : Flight) : Type 0 where
    next : from ≤ s.public.next_region
    fits : (i : ℕ) (f : Flying) → slice_get s.flying i ≡ Some f → Fits f
    writes : (j i : ℕ) (a : Access) → slice_get s.log j ≡ Some (i, a) → IsAbove s a

  region_from : (region : Option ℕ) (n : ℕ) → from ≤ n → ((g : ℕ) → region ≡ Some g → from ≤ g) → from ≤ unwrap_or region n
  region_from None n le above = le
  region_from (Some g) n le above = above g refl

  module _ (s : Flight) (i : ℕ) (f : Flying) (at : slice_get s.flying i ≡ Some f) (above : Above s) where
    abbrev g : ℕ
    g = unwrap_or f.region s.public.next_region

    abbrev p : Public
    p = record s.public { next_region = g }

    le : from ≤ g
    le = region_from f.region s.public.next_region above.next (above.fits i f at).above

    may : MayFly f.served
    may = (above.fits i f at).may

    -- what it asks next
    written : (is : Bool) → is_access p f.served.skeleton ≡ is → WritesOwn p f.served → (q x : ℕ) → slice_get (script p f.served.skeleton f.served.seen) f.asked ≡ Some (Write q x) → (from ≤ q) ⊎ OfIndex s.public.tables q
    written true keyed own q x here = inr ((own.index keyed).each f.asked q x (record { is = here }))
    written false flat own q x here = inl (let up = ((own.own flat).each f.asked q x (record { is = here })).0 in omega (arith, le, up))

    act_above : (act : Option Access) → next_act s.public f ≡ act → (a : Access) → act ≡ Some a → IsAbove s a
    act_above act is a here q x write =
        written (is_access p f.served.skeleton) refl (ordered_own p f.served (no_second f.served may.one_plan)) q x (is ∙ here ∙ ap Some write)

    region_above : (act : Option Access) → next_act s.public f ≡ act → (h : ℕ) → region_after act f.region ≡ Some h → from ≤ h
    region_above (Some (Make q blocks len)) is h region =
        let own : q ≡ g = (steady_of s.public f.served may).makes_own f.asked g q blocks len is in
        let same : q ≡ h = cc region in
        omega (arith, le, own, same)
    region_above other is h region = (above.fits i f at).above h region

    fits_acted : (act : Option Access) → next_act s.public f ≡ act → Fits (acted act f)
    fits_acted None is = record { may = may; above = (above.fits i f at).above }
    fits_acted (Some a) is = record { may = may; above = region_above (Some a) is }

    log_above : (act : Option Access) → next_act s.public f ≡ act → (j k : ℕ) (a : Access) → slice_get (s.log ++ entry_of i act) j ≡ Some (k, a) → IsAbove s a
    log_above act is j k a there = elim (cases_lt j (length s.log)) [
      | inl less ↦ above.writes j k a (sym (get_front s.log (entry_of i act) j less) ∙ there)
      | inr past ↦ last act is (j - length s.log) (sym (get_back s.log (entry_of i act) j past) ∙ there)
    ]
      where
        last : (act : Option Access) → next_act s.public f ≡ act → (n : ℕ) → slice_get (entry_of i act) n ≡ Some (k, a) → IsAbove s a
        last None is n get = absurd (cc get)
        last (Some b) is zero get = act_above (Some b) is a (ap (option_map (λ (e : ℕ × Access). e.1)) get)
        last (Some b) is (suc n) get = absurd (cc get)

    above_gone : (act : Option Access) → next_act s.public f ≡ act → Above (gone_on i act f s)
    above_gone act is = record {
      next = omega (arith, above.next);
      fits = λ j h there. elim (cases_eq j i) [
        | inl here ↦
            let mine : slice_get (slice_set s.flying i (acted act f)) i ≡ Some h = ap (slice_get (slice_set s.flying i (acted act f))) (sym here) ∙ there in
            let one : acted act f ≡ h = let two = get_set_same s.flying i f (acted act f) at in cc (two, mine) in
            subst (λ (k : Flying). Fits k) one (fits_acted act is)
        | inr off ↦ above.fits j h (sym (get_set_other s.flying i j (acted act f) off) ∙ there)
      ];
      writes = log_above act is;
    }

  above_picked : (s : Flight) (i : ℕ) (o : Option Flying) → slice_get s.flying i ≡ o → Above s → Above (picked i o s)
  above_picked s i None at above = above
  above_picked s i (Some f) at above = above_gone s i f at above (next_act s.public f) refl

  above_turns : (words : ℕ → ℕ) (n : ℕ) (s : Flight) → Above s → Above (turns words n s)
  unfolding turns turn
  above_turns words zero s above = above
  above_turns words (suc n) s above =
      let r = turns words n s in
      let i = place_by (words n) (length r.flying) (runnable true 0 (gates_of r)) in
      above_picked r i (slice_get r.flying i) refl (above_turns words n s above)

-- ---- a whole flight
-- each may fly
unfoldable pub AllMayFly : List Served → Type 0
AllMayFly [] = ⊤
AllMayFly (x ∷ xs) = MayFly x × AllMayFly xs

fits_boarded : (from : ℕ) (flown : List Served) → AllMayFly flown → (i : ℕ) (f : Flying) → slice_get (map boarded flown) i ≡ Some f → Fits from f
unfolding AllMayFly
fits_boarded from [] may i f at = absurd (cc at)
fits_boarded from (x ∷ flown) may zero f at =
    let same : boarded x ≡ f = cc at in
    subst (λ (h : Flying). Fits from h) same (record { may = may.0; above = λ g none. absurd (cc none) })
fits_boarded from (x ∷ flown) may (suc i) f at = fits_boarded from flown may.1 i f at

module _ (p : Public) (flown : List Served) (words : ℕ → ℕ) (may : AllMayFly flown) where
  above_flight : Above p.next_region (flight p flown words)
  above_flight = above_turns p.next_region words (turns_of p flown) (boarding p flown) (record {
    next = omega arith;
    fits = fits_boarded p.next_region flown may;
    writes = λ j i a none. absurd (cc none);
  })

  settings_stay : (flight p flown words).public.tables ≡ p.tables
  settings_stay = ap (λ (q : Public). q.tables) (public_turns words (turns_of p flown) (boarding p flown))

  in_log : (log : List (ℕ × Access)) (i : ℕ) (a : Access) → slice_get (accesses_in log) i ≡ Some a → (k : ℕ) × (slice_get log i ≡ Some (k, a))
  in_log [] i a there = absurd (cc there)
  in_log (e ∷ log) zero a there = let same : e.1 ≡ a = cc there in (e.0, λ j. Some (e.0, same j))
  in_log (e ∷ log) (suc i) a there = in_log log i a there

  in_first : (n : ℕ) (xs : List Access) (i : ℕ) (a : Access) → slice_get (take n xs) i ≡ Some a → slice_get xs i ≡ Some a
  in_first zero xs i a there = absurd (cc there)
  in_first (suc n) [] i a there = absurd (cc there)
  in_first (suc n) (x ∷ xs) zero a there = there
  in_first (suc n) (x ∷ xs) (suc i) a there = in_first n xs i a there

  merge_writes : (i q x : ℕ) → slice_get (merge p flown words) i ≡ Some (Write q x) → (p.next_region ≤ q) ⊎ OfIndex p.tables q
  merge_writes i q x there =
      let entry = in_log (flight p flown words).log i (Write q x) there in
      subst (λ (ts : List Table). (p.next_region ≤ q) ⊎ OfIndex ts q) settings_stay (above_flight.writes i entry.0 (Write q x) entry.1 q x refl)

  flight_writes : (left : Option ℕ) (i q x : ℕ) → slice_get (flight_accesses p flown left words) i ≡ Some (Write q x) → (p.next_region ≤ q) ⊎ OfIndex p.tables q
  flight_writes None i q x there = merge_writes i q x there
  flight_writes (Some n) i q x there = merge_writes i q x (in_first n (merge p flown words) i (Write q x) there)

-- ---- all entries
unfoldable pub AreOrdered : List Entry → Type 0
AreOrdered [] = ⊤
AreOrdered (Alone x ∷ entries) = InOrder x.seen.plan x.seen.then × AreOrdered entries
AreOrdered (Together flown left ∷ entries) = AllMayFly flown × AreOrdered entries

-- all that they write is in regions from the next one on, or in those of an index that there is
pub entries_from : (words : ℕ → ℕ) (t : ℕ) (p : Public) (entries : List Entry) → AreOrdered entries → (i q x : ℕ) → slice_get (trace_in words t p entries) i ≡ Some (Write q x) → (p.next_region ≤ q) ⊎ OfIndex p.tables q
unfolding trace_in AreOrdered
entries_from words t p [] ordered i q x is = absurd (cc is)
entries_from words t p (Alone y ∷ entries) ordered i q x is =
    let here = script p y.skeleton y.seen in
    let there = trace_in words t (next p y.skeleton y.seen) entries in
    elim (cases_lt i (length here)) [
      | inl less ↦ written (is_access p y.skeleton) refl (ordered_own p y ordered.0) (record { is = sym (get_front here there i less) ∙ is })
      | inr past ↦ elim (entries_from words t (next p y.skeleton y.seen) entries ordered.1 (i - length here) q x (sym (get_back here there i past) ∙ is)) [
        | inl later ↦ inl (omega (arith, later))
        | inr of ↦ elim (next_index p y.skeleton y.seen q of) [ inl old ↦ inr old | inr new ↦ inl new ]
      ]
    ]
  where
    written : (b : Bool) → is_access p y.skeleton ≡ b → WritesOwn p y → Wrote (script p y.skeleton y.seen) i q x → (p.next_region ≤ q) ⊎ OfIndex p.tables q
    written true keyed own wrote = inr ((own.index keyed).each i q x wrote)
    written false flat own wrote = inl ((own.own flat).each i q x wrote).0
entries_from words t p (Together flown left ∷ entries) ordered i q x is =
    let w = words_from words t in
    let here = flight_accesses p flown left w in
    let there = trace_in words (t + turns_of p flown) (next_flight p flown w) entries in
    let above = above_flight p flown w ordered.0 in
    elim (cases_lt i (length here)) [
      | inl less ↦ flight_writes p flown w ordered.0 left i q x (sym (get_front here there i less) ∙ is)
      | inr past ↦ elim (entries_from words (t + turns_of p flown) (next_flight p flown w) entries ordered.1 (i - length here) q x (sym (get_back here there i past) ∙ is)) [
        | inl later ↦ inl (omega (arith, later, above.next))
        | inr of ↦ inr of
      ]
    ]

-- ---- what is lawful is in order
-- by Small no other plan comes behind
small_alone : (p : Public) (stmt : Stmt) (seen : Seen) (k : Option ℕ) (plan second : Option Plan) → p.planner ≡ Forced Small → Holds p stmt seen k plan second → second ≡ None
small_alone p stmt seen k plan None small holds = refl
small_alone p stmt seen None None (Some second) small holds = absurd holds
small_alone p stmt seen None (Some plan) (Some second) small holds = absurd holds
small_alone p stmt seen (Some k) None (Some second) small holds = absurd holds
small_alone p stmt seen (Some k) (Some Small) (Some second) small holds = absurd holds
small_alone p stmt seen (Some k) (Some Large) (Some second) small holds = absurd holds
small_alone p stmt seen (Some k) (Some Continuous) (Some second) small holds = absurd holds
small_alone p stmt seen (Some k) (Some Hash) (Some Small) small holds = absurd (cc (small, holds.3))
small_alone p stmt seen (Some k) (Some Hash) (Some Large) small holds = absurd holds
small_alone p stmt seen (Some k) (Some Hash) (Some Continuous) small holds = absurd holds
small_alone p stmt seen (Some k) (Some Hash) (Some Hash) small holds = absurd holds

-- plans are in order, and none comes after Small where that is forced
abbrev IsOrdered : Public → Seen → Type 0
IsOrdered p seen = InOrder seen.plan seen.then × (p.planner ≡ Forced Small → seen.then ≡ None)

unfoldable AreOrderedBy : List Position → List Served → Type 0
AreOrderedBy positions [] = ⊤
AreOrderedBy [] (x ∷ seen) = ⊥
AreOrderedBy (v ∷ positions) (x ∷ seen) = IsOrdered v.public x.seen × AreOrderedBy positions seen

lawful_ordered : (p : Public) (m : ℕ) (stmt : Stmt) (seen : Seen) → Lawful p m stmt seen → IsOrdered p seen
lawful_ordered p m stmt seen lawful = (in_order p stmt seen seen.k seen.plan seen.then lawful.holds, λ small. small_alone p stmt seen seen.k seen.plan seen.then small lawful.holds)

stands_ordered : (p : Public) (m n : ℕ) (stmt : Stmt) (seen : Seen) (end : End) → StandsAs p m n stmt seen end → IsOrdered p seen
stands_ordered p m n stmt seen Static lawful = lawful_ordered p m stmt seen lawful
stands_ordered p m n stmt seen Whole lawful = lawful_ordered p m stmt (record seen { end = Cut n }) lawful
stands_ordered p m n stmt seen AfterCount lawful = absurd lawful
stands_ordered p m n stmt seen Batched lawful = absurd lawful
stands_ordered p m n stmt seen (Cut cut) lawful = lawful_ordered p m stmt seen lawful.2

left_ordered : (Leaves : Public → Stmt → Seen → Type 0) (left : Option LeftAt) (v : Position) (g : Option Gathering) (stmt : Stmt) (seen : Seen) → IsLeft Leaves left v g stmt seen → IsOrdered v.public seen
left_ordered Leaves None v g stmt seen is = lawful_ordered v.public v.asked stmt seen is.0
left_ordered Leaves (Some stand) v g stmt seen is = elim is [
  | inl ended ↦ lawful_ordered v.public v.asked stmt seen ended.1
  | inr stands ↦ stands_ordered v.public v.asked stand.own stmt seen seen.end stands.1
]

seen_ordered : (Leaves : Public → Stmt → Seen → Type 0) (positions : List Position) (g : Option Gathering) (spelt : List Spelt) (answers : List Answer) (seen : List Served) → AreSeen Leaves positions g spelt answers seen → AreOrderedBy positions seen
unfolding AreSeen AreOrderedBy
seen_ordered Leaves positions g [] answers seen are = subst (λ (xs : List Served). AreOrderedBy positions xs) (sym are) tt
seen_ordered Leaves positions g (Err at ∷ spelt) [] seen are = seen_ordered Leaves positions None spelt [] seen are
seen_ordered Leaves positions g (Err at ∷ spelt) (one ∷ answers) seen are = seen_ordered Leaves positions None spelt answers seen are.1
seen_ordered Leaves positions g (Ok stmt ∷ spelt) [] [] are = absurd are
seen_ordered Leaves positions g (Ok stmt ∷ spelt) (one ∷ answers) [] are = absurd are
seen_ordered Leaves [] g (Ok stmt ∷ spelt) [] (x ∷ seen) are = absurd are
seen_ordered Leaves [] g (Ok stmt ∷ spelt) (one ∷ answers) (x ∷ seen) are = absurd are
seen_ordered Leaves (v ∷ positions) g (Ok stmt ∷ spelt) [] (x ∷ seen) are =
    (left_ordered Leaves v.left v g stmt x.seen are.1, seen_ordered Leaves positions (gathering_after v.public v.asked g stmt x.seen.end) spelt [] seen are.2)
seen_ordered Leaves (v ∷ positions) g (Ok stmt ∷ spelt) (one ∷ answers) (x ∷ seen) are =
    (lawful_ordered v.public v.asked stmt x.seen are.1, seen_ordered Leaves positions (gathering_after v.public v.asked g stmt x.seen.end) spelt answers seen are.3)

-- ---- by entries
module _ (p : Public) (m : ℕ) (all : List Served) (words : ℕ → ℕ) (left : Option ℕ) where
  -- those of a flight, and those after it
  split_ordered : (i : ℕ) (flown : List Served) (behind : List Position) (rest : List Served) → All (λ (x : Served). SelectsFromOne x.skeleton) flown
      → AreOrderedBy (positions_in_flight p m all words left i (length flown) ++ behind) (flown ++ rest) → AllMayFly flown × AreOrderedBy behind rest
  unfolding AreOrderedBy AllMayFly positions_in_flight
  split_ordered i [] behind rest selects are = (tt, are)
  split_ordered i (x ∷ flown) behind rest selects are =
      let more = split_ordered (i + 1) flown behind rest (All-tail (λ (y : Served). SelectsFromOne y.skeleton) x flown selects) are.1 in
      ((record { skeleton = All-head (λ (y : Served). SelectsFromOne y.skeleton) x flown selects; one_plan = are.0.1 refl }, more.0), more.1)

entries_ordered : (most answered : ℕ) (words : ℕ → ℕ) (t : ℕ) (p : Public) (m : ℕ) (entries : List Entry) → AreEntries most answered entries → AreOrderedBy (positions words t p m entries) (served_by entries) → AreOrdered entries
unfolding AreEntries AreOrdered AreOrderedBy positions served_by
entries_ordered most answered words t p m [] are ordered = tt
entries_ordered most answered words t p m (Alone x ∷ entries) are ordered =
    (ordered.0.0, entries_ordered most (answered - 1) words t (next p x.skeleton x.seen) (m + length (script p x.skeleton x.seen)) entries are.2 ordered.1)
entries_ordered most answered words t p m (Together flown left ∷ entries) are ordered =
    let w = words_from words t in
    let select = select_of left are.0 in
    let both = split_ordered p m flown w left 0 flown _ (served_by entries) select ordered in
    (both.0, entries_ordered most (answered - length flown) words (t + turns_of p flown) (next_flight p flown w) (m + length (flight_accesses p flown left w)) entries are.2 both.1)
  where
    select_of : (left : Option ℕ) → IsEntry most answered (Together flown left) → All (λ (x : Served). SelectsFromOne x.skeleton) flown
    select_of None is = is.0.select
    select_of (Some asked) is = is.0.select

pub run_ordered : (base : Base) (keys : KeySet) (ending : Ending) (story : Story) (old new : StoreState) → Accesses base keys ending story old new → AreOrdered story.entries
run_ordered base keys ending story old new accesses =
    let seen = seen_ordered _ (positions_of base story.entries) None story.spelt story.answers (story.seen ++ story.last) accesses.lawful in
    entries_ordered (most_of base) (length story.seen) (words_of base) 0 base.public base.count story.entries accesses.entered.entries
    (subst (λ (xs : List Served). AreOrderedBy (positions_of base story.entries) xs) (sym accesses.entered.served) seen)

-- all that a run writes is in regions from the next one on, or in those of an index that there is
pub run_writes : (base : Base) (keys : KeySet) (ending : Ending) (story : Story) (old new : StoreState) → Accesses base keys ending story old new → (i q x : ℕ) → slice_get (trace_of base story.entries) i ≡ Some (Write q x)
    → (base.public.next_region ≤ q) ⊎ OfIndex base.public.tables q
run_writes base keys ending story old new accesses = entries_from (words_of base) 0 base.public story.entries (run_ordered base keys ending story old new accesses)

-- ---- after some of them
turns_behind : (words : ℕ → ℕ) (t : ℕ) (p : Public) → List Entry → ℕ
turns_behind words t p [] = t
turns_behind words t p (Alone x ∷ entries) = turns_behind words t (next p x.skeleton x.seen) entries
turns_behind words t p (Together flown left ∷ entries) = turns_behind words (t + turns_of p flown) (next_flight p flown (words_from words t)) entries

trace_split : (words : ℕ → ℕ) (k t : ℕ) (p : Public) (entries : List Entry)
    → trace_in words t p entries ≡ trace_in words t p (take k entries) ++ trace_in words (turns_behind words t p (take k entries)) (after_entries words t p (take k entries)) (drop k entries)
unfolding trace_in turns_behind after_entries
trace_split words zero t p entries = refl
trace_split words (suc k) t p [] = refl
trace_split words (suc k) t p (Alone x ∷ entries) =
    let here = script p x.skeleton x.seen in
    let q = next p x.skeleton x.seen in
    ap (λ (l : List Access). here ++ l) (trace_split words k t q entries) ∙ sym (append_assoc here _ _)
trace_split words (suc k) t p (Together flown left ∷ entries) =
    let here = flight_accesses p flown left (words_from words t) in
    let q = next_flight p flown (words_from words t) in
    ap (λ (l : List Access). here ++ l) (trace_split words k (t + turns_of p flown) q entries) ∙ sym (append_assoc here _ _)

ordered_rest : (k : ℕ) (entries : List Entry) → AreOrdered entries → AreOrdered (drop k entries)
unfolding AreOrdered
ordered_rest zero entries ordered = ordered
ordered_rest (suc k) [] ordered = ordered
ordered_rest (suc k) (Alone x ∷ entries) ordered = ordered_rest k entries ordered.1
ordered_rest (suc k) (Together flown left ∷ entries) ordered = ordered_rest k entries ordered.1

-- so a write to a region that the first k of them made, or that was made before, and that is no index's, is one of theirs, or
-- came before
pub written_by : (words : ℕ → ℕ) (k t : ℕ) (p : Public) (entries : List Entry) → AreOrdered entries → (before : List Access) (i q x : ℕ) → slice_get (before ++ trace_in words t p entries) i ≡ Some (Write q x)
    → q < (after_entries words t p (take k entries)).next_region → (OfIndex (after_entries words t p (take k entries)).tables q → ⊥) → i < length (before ++ trace_in words t p (take k entries))
written_by words k t p entries ordered before i q x is made off =
    let behind : Public = after_entries words t p (take k entries) in
    let u : ℕ = turns_behind words t p (take k entries) in
    let first = before ++ trace_in words t p (take k entries) in
    let rest = trace_in words u behind (drop k entries) in
    let split : before ++ trace_in words t p entries ≡ first ++ rest = ap (λ (l : List Access). before ++ l) (trace_split words k t p entries) ∙ sym (append_assoc before (trace_in words t p (take k entries)) rest) in
    let there : slice_get (first ++ rest) i ≡ Some (Write q x) = ap (λ (l : List Access). slice_get l i) (sym split) ∙ is in
    elim (cases_lt i (length first)) [
      | inl less ↦ less
      | inr past ↦ elim (entries_from words u behind (drop k entries) (ordered_rest k entries ordered) (i - length first) q x (sym (get_back first rest i past) ∙ there)) [
        | inl later ↦ absurd (omega (arith, made, later))
        | inr of ↦ absurd (off of)
      ]
    ]
