-- What had ended within a flight's first accesses is as it is meant, whatever is read later.
use Rattle.ob_exec.proofs.Words.{Access, accesses_in, Agrees, AllMay, AllMayFly, ap, AreSteady, arith, boarding, Bool, cases_lt, ChangesNothing, Closed, count_of, Draws, EndedWithin, Engine, false, first_of_merge, Flying, flying_of, in_flight, inl, inr, is_cut, is_fault, is_some, IsMeant, IsTrue, Kind, length, length-append, length-map, FalseRead, List, map, merge, Moment, None, none_before, Option, option_map_or, Progress, Public, ReadsTrue, refl, RevState, Seen, Served, setting_off, skeleton, slice_get, Some, Stmt, StoreState, subst, suc, sym, Tables, take, true, turns, world_of, zero, ℕ, [], ◌++◌, ◌+◌, ◌<◌, ◌∙◌, ◌∷◌, ◌≡◌, ◌≤◌}
use Rattle.std.specs.Prelude.{option_map}
use Rattle.std.proofs.lemmas.Option.{same_Some}
use Rattle.ob_base.specs.declared.access.Access.TheVariants.{Read}
use Rattle.ob_inflight.specs.AfterTurns.{BeginsIn, HasStood, HaveStood, IsBegun, flight_in, flying_in, HasGoneOn, HaveGoneOn}
use Rattle.ob_inflight.specs.Closing.{RisesBy, outcome_at}
use Rattle.ob_inflight.proofs.Stopping.{keeps_still}
use Rattle.ob_script.specs.FlightLaws.{one_if}
use Rattle.ob_script.specs.Flights.{Flight}
use Rattle.ob_script.proofs.FlightEnds.{total_part}
use Rattle.ob_script.proofs.FlightLemmas.{logs_grow}
use Rattle.ob_store.proofs.Steps.{later_trans}
use Rattle.ob_exec.specs.InFlight.{EndsAs, EndsMeant, IsFlown, served_as}
use Rattle.ob_exec.specs.RanFlight.{MeantThen, AsksMeant, meant_of}
use Rattle.ob_exec.proofs.FlightFrames.{hold_now, lasts_all}
use Rattle.ob_exec.proofs.FlightLists.{flying_get, get_other}
use Rattle.ob_exec.proofs.FlightRuns.{Boards, as_many, emitted_now, flown_now, meant_now, sets_now, they_hold, they_serve}
use Rattle.ob_exec.proofs.FlightStage.{IsStage, HoldNow, shown_of}
use Rattle.ob_mean.specs.Verdict.{seen as seen_by}
use Rattle.ob_exec.proofs.FlightBegun.{all_fly, all_mean, same}
use Rattle.ob_tables.proofs.CutLemmas.{end_cut}

-- ---- what was asked stays
abbrev has_ended : (i : ℕ) → Flight → Bool
has_ended i s = option_map_or (λ (f : Flying). f.ended) (slice_get s.flying i) false

-- ---- one that has ended
module _ {F : Type 0} (k : Kind F) where
  flying_there : (fs : List F) (xs : List Served) (i : ℕ) (f : F) → AllMay k.May fs xs → slice_get fs i ≡ Some f → (x : Served) × (slice_get (flying_in k fs xs) i ≡ Some (flying_of (k.progress f) x))
  unfolding flying_in AllMay
  flying_there [] xs i f all at = absurd (cc at)
  flying_there (g ∷ fs) [] i f all at = absurd all
  flying_there (g ∷ fs) (x ∷ xs) zero f all at = (x, ap (λ (h : F). Some (flying_of (k.progress h) x)) (same_Some g f at))
  flying_there (g ∷ fs) (x ∷ xs) (suc i) f all at = flying_there fs xs i f all.1 at

closed_there : (ended more : List Closed) (i : ℕ) (one : Closed) → is_some (outcome_at ended i) ≡ true → slice_get (ended ++ more) i ≡ Some one → slice_get ended i ≡ Some one
closed_there [] more i one is at = absurd (cc is)
closed_there (c ∷ ended) more zero one is at = at
closed_there (c ∷ ended) more (suc i) one is at = closed_there ended more i one is at

-- ---- first parts
take_less : {A : Type 0} (n m : ℕ) (xs : List A) → n ≤ m → take n (take m xs) ≡ take n xs
take_less zero m xs le = refl
take_less (suc n) zero xs le = absurd (omega (arith, le))
take_less (suc n) (suc m) [] le = refl
take_less (suc n) (suc m) (x ∷ xs) le = ap (λ (l : List _). x ∷ l) (take_less n m xs (omega (arith, le)))

-- where a count goes past k
crossing : (f : ℕ → ℕ) (k most : ℕ) → f 0 ≤ k → k < f most → (n : ℕ) × (n < most) × (f n ≤ k) × (k < f (suc n))
crossing f k zero first less = absurd (omega (arith, first, less))
crossing f k (suc n) first less = elim (cases_lt k (f n)) [
  | inl before ↦ let one = crossing f k n first before in (one.0, omega (arith, one.1), one.2, one.3)
  | inr most ↦ (n, omega arith, most, less)
]

mapped_same : {A B C : Type 0} (v : A → C) (w : B → C) (xs : List A) (ys : List B) → length xs ≡ length ys → ((i : ℕ) (x : A) (y : B) → slice_get xs i ≡ Some x → slice_get ys i ≡ Some y → v x ≡ w y) → map v xs ≡ map w ys
mapped_same v w [] [] same each = refl
mapped_same v w [] (y ∷ ys) same each = absurd (cc same)
mapped_same v w (x ∷ xs) [] same each = absurd (cc same)
mapped_same v w (x ∷ xs) (y ∷ ys) same each = let one = each 0 x y refl refl in let rest = mapped_same v w xs ys (cc same) (λ i a b at there. each (suc i) a b at there) in λ j. one j ∷ rest j

module _ {R F : Type 0} (state : R → RevState) (k : Kind F) (old : Engine R) (s s1 : StoreState) (agrees : Agrees state old s) (rests : ChangesNothing s s1)
    (stage : IsStage k (count_of old s)) (steady_of : (p : Public) (flown : List Served) → AllMayFly flown → AreSteady p flown)
    (stmts : List Stmt) (words : ℕ → ℕ) (share : ℕ) (flyers : List F) (shares : List (List ℕ))
    (boards : Boards k (count_of old s) old.public stmts (record { flyers = flyers; kept = shares; world = world_of state old s1 }))
    (q : Public) (turn : ℕ) (ended_now : List Closed) (now : Moment F)
    (past : HaveStood k words q share turn ended_now (record { flyers = flyers; kept = shares; world = world_of state old s1 }) now)
    (begun : IsBegun k words q share ended_now (record { flyers = flyers; kept = shares; world = world_of state old s1 }) now)
    (all : AllMay k.May now.flyers (map (λ (f : F). (k.progress f).served) now.flyers)) where
  abbrev m : ℕ
  m = count_of old s

  abbrev p : Public
  p = old.public

  abbrev start : Moment F
  start = record { flyers = flyers; kept = shares; world = world_of state old s1 }

  abbrev by_now : List Served
  by_now = map (λ (f : F). (k.progress f).served) now.flyers

  -- the flight, by what is served now
  abbrev flight_at : ℕ → Flight
  flight_at n = turns words n (boarding old.public (map (λ (f : F). (k.progress f).served) now.flyers))

  -- ---- after fewer turns
  module _ (n : ℕ) (h : HasStood k words q share n ended_now (record { flyers = flyers; kept = shares; world = world_of state old s1 }) now) where
    may_then : AllMay k.May h.last.flyers (map (λ (f : F). (k.progress f).served) now.flyers)
    may_then = h.keeps.may (map (λ (f : F). (k.progress f).served) now.flyers) all

    long : length h.last.flyers ≡ length stmts
    long = as_many k m stage steady_of p stmts words share start boards n q h.ended h.current h.last h.aloft

    sets : setting_off q start.world.vault.next (map (λ (f : F). (k.progress f).served) now.flyers) ≡ boarding old.public (map (λ (f : F). (k.progress f).served) now.flyers)
    sets = sets_now k m stage steady_of p stmts words share start boards n q h.ended h.current h.last h.aloft by_now
        (length-map now.flyers (λ (f : F). (k.progress f).served) ∙ h.keeps.size ∙ long)

    turned_then : turns words n (boarding old.public (map (λ (f : F). (k.progress f).served) now.flyers))
        ≡ flight_in k q h.last.world.vault.next h.last.flyers (map (λ (f : F). (k.progress f).served) now.flyers) h.aloft.turned.log
    turned_then = ap (turns words n) (sym sets) ∙ h.aloft.turned.turns by_now may_then

    -- so many accesses were asked by then
    asked_then : length h.last.world.store.asked ≡ length s.asked + length (flight_at n).log
    asked_then =
        let whole = ap length h.aloft.turned.asked ∙ length-append s1.asked (accesses_in h.aloft.turned.log) in
        let many = length-map h.aloft.turned.log (λ (e : ℕ × Access). e.1) in
        let same = ap (λ (r : Flight). length r.log) turned_then in
        let first = ap length rests.asked in
        omega (arith, whole, many, same, first)

    outcome_then : (i : ℕ) (f : F) → has_ended i (flight_at n) ≡ true → slice_get h.last.flyers i ≡ Some f → is_some (k.progress f).outcome ≡ true
    outcome_then i f is at =
        let there = flying_there k h.last.flyers by_now i f may_then at in
        let get = ap (λ (r : Flight). slice_get r.flying i) turned_then ∙ there.1 in
        sym (ap (λ (o : Option Flying). option_map_or (λ (g : Flying). g.ended) o false) get) ∙ is

  -- where the first changed block was read, by a later turn than that
  lie_behind : (lie : FalseRead) → (b : BeginsIn k words q share lie ended_now (record { flyers = flyers; kept = shares; world = world_of state old s1 }) now)
      → length lie.before < length s.asked + length (turns words (b.turn + 1) (boarding old.public (map (λ (f : F). (k.progress f).served) now.flyers))).log
  lie_behind lie b =
      let reads = b.reads by_now (may_then b.turn b.stood) in
      let log : List (ℕ × Access) = (turns words (b.turn + 1) (setting_off q start.world.vault.next by_now)).log in
      let whole = sym (length-append lie.before (Read lie.region lie.place ∷ reads.rest)) ∙ ap length reads.is ∙ length-append s1.asked (accesses_in log) in
      let one : length (Read lie.region lie.place ∷ reads.rest) ≡ length reads.rest + 1 = omega arith in
      let many = length-map log (λ (e : ℕ × Access). e.1) in
      let same = ap (λ (r : Flight). length (turns words (b.turn + 1) r).log) (sets b.turn b.stood) in
      let first = ap length rests.asked in
      omega (arith, whole, one, many, same, first)

  -- so many turns, within which no changed block was read that was read after so many accesses
  record Unread (n few : ℕ) : Type 0 where
    stood : HasStood k words q share n ended_now (record { flyers = flyers; kept = shares; world = world_of state old s1 }) now
    unread : s.lie ≡ None → (lie : FalseRead) → now.world.store.lie ≡ Some lie → length s.asked + few ≤ length lie.before → stood.last.world.store.lie ≡ None

  unread_by : (n few : ℕ) → n ≤ turn → length (turns words n (boarding old.public (map (λ (f : F). (k.progress f).served) now.flyers))).log ≤ few → Unread n few
  unread_by n few le within = go now.world.store.lie refl s.lie refl
    where
      go : (o : Option FalseRead) → now.world.store.lie ≡ o → (u : Option FalseRead) → s.lie ≡ u → Unread n few
      go None is u was = record { stood = past n le; unread = λ none lie told some. absurd (cc (is, told)) }
      go (Some lie) is (Some other) was = record { stood = past n le; unread = λ none lie told some. absurd (cc (none, was)) }
      go (Some lie) is None was = elim (cases_lt (length lie.before) (length s.asked + few)) [
        | inl less ↦ record {
          stood = past n le;
          unread = λ none other told some. absurd (let same : other ≡ lie = cc (told, is) in let e = ap (λ (l : FalseRead). length l.before) same in omega (arith, e, some, less));
        }
        | inr some ↦
            let b = begun (rests.lie ∙ was) lie is in
            let behind = lie_behind lie b in
            let inside : n ≤ b.turn = elim (cases_lt b.turn n) [
              | inl less ↦ absurd (let grows = logs_grow words (boarding old.public by_now) (b.turn + 1) n (omega (arith, less)) in omega (arith, grows, behind, some, within))
              | inr most ↦ most
            ] in
            let w = b.past n inside in
            record {
              stood = record {
                last = w.last;
                ended = w.ended;
                current = w.current;
                aloft = w.aloft;
                keeps = keeps_still k w.ended b.stood.ended ended_now w.last b.stood.last now w.keeps b.stood.keeps;
                later = later_trans w.last.world.store b.stood.last.world.store now.world.store w.later b.stood.later;
              };
              unread = λ none other told least. none_before w.last.world.store b.stood.last.world.store w.later b.none;
            }
      ]

  module _ (i few : ℕ) (e : EndedWithin old.public (map (λ (f : F). (k.progress f).served) now.flyers) words few i) (g : F) (stmt : Stmt) (one : Closed)
      (at : slice_get now.flyers i ≡ Some g) (there : slice_get stmts i ≡ Some stmt) (closed : slice_get ended_now i ≡ Some one) where
    module _ (n : ℕ) (is : has_ended i (turns words n (boarding old.public (map (λ (f : F). (k.progress f).served) now.flyers))) ≡ true)
        (within : length (turns words n (boarding old.public (map (λ (f : F). (k.progress f).served) now.flyers))).log ≤ few) (u : Unread n few) where
      abbrev last : Moment F
      last = u.stood.last

      one_then : (f : F) × (slice_get u.stood.last.flyers i ≡ Some f)
      one_then = get_other now.flyers u.stood.last.flyers i g (sym u.stood.keeps.size) at

      has_outcome : is_some (k.progress one_then.0).outcome ≡ true
      has_outcome = outcome_then n u.stood i one_then.0 is one_then.1

      same_progress : k.progress g ≡ k.progress one_then.0
      same_progress = u.stood.keeps.same i one_then.0 g one_then.1 at has_outcome

      closed_then : slice_get u.stood.ended i ≡ Some one
      closed_then = closed_there u.stood.ended u.stood.keeps.more i one
          (ap is_some (sym (u.stood.aloft.stand.outcome i one_then.0 one_then.1)) ∙ has_outcome)
          (ap (λ (l : List Closed). slice_get l i) (sym u.stood.keeps.first) ∙ closed)

      ends_then : EndsAs (in_flight stmts old.public) (count_of old s) (k.progress one_then.0).asked stmt (k.progress one_then.0).served.seen one.outcome
      ends_then =
          subst (λ (o : Option Closed). IsFlown (in_flight stmts old.public) m (k.progress one_then.0).asked stmt (k.progress one_then.0).served.seen o) closed_then
          (flown_now k m stage steady_of p stmts words share start boards n q u.stood.ended u.stood.current u.stood.last u.stood.aloft i one_then.0 stmt one_then.1 there)

      failed_then : IsTrue (is_fault one.outcome) → RisesBy 1 s.faults u.stood.last.world.store.faults
      failed_then fault =
          let cut = ap is_cut ends_then.ends ∙ end_cut one.outcome (k.progress one_then.0).asked ∙ fault in
          let failed : (k.progress one_then.0).failed ≡ true =
          sym (stage.failed one_then.0 _ _ _ (they_hold k m stage steady_of p stmts words share start boards n q u.stood.ended u.stood.current u.stood.last u.stood.aloft i one_then.0 one_then.1)) ∙ cut in
          let part = total_part (λ (f : F). one_if (k.progress f).failed) u.stood.last.flyers i one_then.0 one_then.1 in
          let mine : one_if (k.progress one_then.0).failed ≡ 1 = ap one_if failed in
          let rises = u.stood.aloft.rest.faults.least in
          record { least = let first = rests.faults in omega (arith, rises, part, mine, first); none = λ no. absurd (cc no) }

      then_so : MeantThen state stmts (k.progress g).asked few stmt (k.progress g).served.seen one old s now.world.store
      then_so = record {
        mid = u.stood.last.world.store;
        later = (lasts_all state old s s1 agrees rests u.stood.last.world u.stood.aloft.rest.lasts).later;
        few = let asked = asked_then n u.stood in omega (arith, asked, within);
        lie = u.stood.later.lie;
        unread = u.unread;
        fails = failed_then;
        told = λ tables d reads.
            let held = hold_now state old s s1 agrees rests u.stood.last.world u.stood.aloft.rest.lasts tables reads.tells reads.held reads.nolie in (
              subst (λ (x : Progress). EndsMeant d (in_flight stmts old.public) m x.asked tables stmt x.served.seen one.outcome) (sym same_progress)
                  (subst (λ (o : Option Closed). IsMeant d (in_flight stmts old.public) m (k.progress one_then.0).asked (k.progress one_then.0).asked tables stmt (k.progress one_then.0).served.seen o) closed_then
                  (meant_now k m stage steady_of p stmts words share start boards n q u.stood.ended u.stood.current u.stood.last u.stood.aloft old.indexes.items tables held d i one_then.0 stmt one_then.1 there)),
              emitted_now k m stage steady_of p stmts words share start boards n q u.stood.ended u.stood.current u.stood.last u.stood.aloft old.indexes.items tables held i one_then.0 stmt one one_then.1 there closed_then,
            );
      }

    -- by the turn within which it had ended, or by all if these are fewer
    pub meant_then : {next : ℕ} {log : List (ℕ × Access)} → turns words turn (boarding old.public (map (λ (f : F). (k.progress f).served) now.flyers)) ≡ flight_in k q next now.flyers (map (λ (f : F). (k.progress f).served) now.flyers) log
        → (k.progress g).outcome ≡ outcome_at ended_now i → MeantThen state stmts (k.progress g).asked few stmt (k.progress g).served.seen one old s now.world.store
    meant_then turned outcome = elim (cases_lt turn e.turn) [
      | inl less ↦
          let within : length (flight_at turn).log ≤ few = let grows = logs_grow words (boarding old.public by_now) turn e.turn (omega (arith, less)) in omega (arith, grows, e.within) in
          let get = ap (λ (r : Flight). slice_get r.flying i) turned ∙ flying_get k (λ (f : F). (k.progress f).served) now.flyers i g at in
          let is : has_ended i (flight_at turn) ≡ true =
          ap (λ (o : Option Flying). option_map_or (λ (x : Flying). x.ended) o false) get ∙ ap is_some (outcome ∙ ap (option_map (λ (c : Closed). c.outcome)) closed) in
          then_so turn is within (unread_by turn few (omega arith) within)
      | inr most ↦
          let is : has_ended i (flight_at e.turn) ≡ true = ap (λ (o : Option Flying). option_map_or (λ (x : Flying). x.ended) o false) e.at ∙ e.ended in
          then_so e.turn is e.within (unread_by e.turn few (omega (arith, most)) e.within)
    ]

  -- ---- what was asked by then
  module _ (steady : AreSteady old.public (map (λ (f : F). (k.progress f).served) now.flyers)) (n few : ℕ) (less : few < length (turns words (n + 1) (boarding old.public (map (λ (f : F). (k.progress f).served) now.flyers))).log)
      (within : length (turns words n (boarding old.public (map (λ (f : F). (k.progress f).served) now.flyers))).log ≤ few)
      (w : HasGoneOn k words q share n ended_now (record { flyers = flyers; kept = shares; world = world_of state old s1 }) now) where
    -- of what may be served, by its log
    first_by : (flown : List Served) → AreSteady old.public flown → (turns words (n + 1) (boarding old.public flown)).log ≡ w.log → few < length w.log
        → take (few + 1) (merge old.public flown words) ≡ take (few + 1) (accesses_in w.log)
    first_by flown steady is some =
        let long : length (turns words (n + 1) (boarding old.public flown)).log ≡ length w.log = ap length is in
        sym (take_less (few + 1) (length (turns words (n + 1) (boarding old.public flown)).log) (merge old.public flown words) (omega (arith, long, some)))
        ∙ ap (take (few + 1)) (sym (first_of_merge old.public flown words steady (n + 1)) ∙ ap accesses_in is)

    log_by_now : (turns words (n + 1) (boarding old.public (map (λ (f : F). (k.progress f).served) now.flyers))).log ≡ w.log
    log_by_now = ap (λ (r : Flight). (turns words (n + 1) r).log) (sym (sets n w.stood)) ∙ w.next by_now (may_then n w.stood)

    many_now : few < length w.log
    many_now = let long = ap length log_by_now in omega (arith, long, less)

    module _ (tables : Tables) (d : Draws) (reads : ReadsTrue state old s w.stood.last.world.store tables) (none : w.stood.last.world.store.faults ≡ 0) where
      held_there : HoldNow old.public old.indexes.items tables w.stood.last.world
      held_there = hold_now state old s s1 agrees rests w.stood.last.world w.stood.aloft.rest.lasts tables reads.tells reads.held reads.nolie

      unfailed : (i : ℕ) (f : F) → slice_get w.stood.last.flyers i ≡ Some f → (k.progress f).failed ≡ false
      unfailed i f at = go (k.progress f).failed refl
        where
          go : (b : Bool) → (k.progress f).failed ≡ b → (k.progress f).failed ≡ false
          go false is = is
          go true is = absurd (
              let part = total_part (λ (h : F). one_if (k.progress h).failed) w.stood.last.flyers i f at in
              let mine : one_if (k.progress f).failed ≡ 1 = ap one_if is in
              let rises = w.stood.aloft.rest.faults.least in
              omega (arith, part, mine, rises, none))

      abbrev meant : List Served
      meant = map (λ (f : F). record { skeleton = skeleton (k.progress f).stmt; seen = shown_of (k.progress f).failed d m tables (k.progress f) }) w.stood.last.flyers

      all_there : AllMay k.May w.stood.last.flyers (map (λ (f : F). record { skeleton = skeleton (k.progress f).stmt; seen = shown_of (k.progress f).failed d m tables (k.progress f) }) w.stood.last.flyers)
      all_there = all_mean k m stage steady_of p stmts words share start now boards q n ended_now w.stood old.indexes.items tables d held_there

      steady_there : AreSteady old.public meant
      steady_there = steady_of old.public meant (all_fly k m stage steady_of p stmts words share start now boards q n ended_now w.stood old.indexes.items tables d held_there)

      sets_there : setting_off q start.world.vault.next meant ≡ boarding old.public meant
      sets_there = sets_now k m stage steady_of p stmts words share start boards n q w.stood.ended w.stood.current w.stood.last w.stood.aloft meant
          (length-map w.stood.last.flyers (λ (f : F). record { skeleton = skeleton (k.progress f).stmt; seen = shown_of (k.progress f).failed d m tables (k.progress f) }) ∙ long n w.stood)

      log_meant : (turns words (n + 1) (boarding old.public meant)).log ≡ w.log
      log_meant = ap (λ (r : Flight). (turns words (n + 1) r).log) (sym sets_there) ∙ w.next meant all_there

      same_seens : map (λ (f : F). shown_of (k.progress f).failed d m tables (k.progress f)) w.stood.last.flyers ≡ map (λ (stmt : Stmt). seen_by d (in_flight stmts old.public) m tables stmt) stmts
      same_seens = mapped_same (λ (f : F). shown_of (k.progress f).failed d m tables (k.progress f)) (λ (stmt : Stmt). seen_by d (in_flight stmts old.public) m tables stmt) w.stood.last.flyers stmts (long n w.stood)
          (λ i f stmt at there.
          let one = they_serve k m stage steady_of p stmts words share start boards n q w.stood.ended w.stood.current w.stood.last w.stood.aloft i f stmt at there in
          ap (λ (b : Bool). shown_of b d m tables (k.progress f)) (unfailed i f at) ∙ (λ j. seen_by d (one.public j) m tables (one.is j)))

      meant_are : meant ≡ meant_of d old.public m tables stmts
      meant_are = same k m stage steady_of p stmts words share start now boards q n ended_now w.stood old.indexes.items tables d held_there ∙ ap (served_as stmts) same_seens

      told_there : take (few + 1) (merge old.public (map (λ (f : F). (k.progress f).served) now.flyers) words) ≡ take (few + 1) (merge old.public (meant_of d old.public m tables stmts) words)
      told_there =
          first_by by_now steady log_by_now many_now ∙ sym (first_by meant steady_there log_meant many_now)
          ∙ ap (λ (xs : List Served). take (few + 1) (merge old.public xs words)) meant_are

    asks_so : (seens : List Seen) → map (λ (f : F). (k.progress f).served) now.flyers ≡ served_as stmts seens → AsksMeant state words stmts seens few old s now.world.store
    asks_so seens are = record {
      mid = w.stood.last.world.store;
      later = (lasts_all state old s s1 agrees rests w.stood.last.world w.stood.aloft.rest.lasts).later;
      few = let asked = asked_then n w.stood in omega (arith, asked, within);
      lie = w.stood.later.lie;
      told = λ tables d reads none.
          subst (λ (xs : List Served). take (few + 1) (merge old.public xs words) ≡ take (few + 1) (merge old.public (meant_of d old.public m tables stmts) words)) are (told_there tables d reads none);
    }

  pub asks_meant : (steady : AreSteady old.public (map (λ (f : F). (k.progress f).served) now.flyers)) (most few : ℕ) → HaveGoneOn k words q share most ended_now (record { flyers = flyers; kept = shares; world = world_of state old s1 }) now
      → few < length (turns words most (boarding old.public (map (λ (f : F). (k.progress f).served) now.flyers))).log
      → (seens : List Seen) → map (λ (f : F). (k.progress f).served) now.flyers ≡ served_as stmts seens → AsksMeant state words stmts seens few old s now.world.store
  unfolding turns
  asks_meant steady most few went less seens are =
      let c = crossing (λ (n : ℕ). length (turns words n (boarding old.public by_now)).log) few most none_first less in
      let next : suc c.0 ≡ c.0 + 1 = omega arith in
      asks_so steady c.0 few (subst (λ (n : ℕ). few < length (turns words n (boarding old.public (map (λ (f : F). (k.progress f).served) now.flyers))).log) next c.3) c.2 (went c.0 c.1) seens are
    where
      none_first : length (turns words 0 (boarding old.public by_now)).log ≤ few
      none_first = omega arith
