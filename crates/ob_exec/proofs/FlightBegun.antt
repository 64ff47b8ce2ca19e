-- The first changed block that a flight reads is one that its statements read by their meaning.
use Rattle.ob_exec.proofs.Words.{Access, accesses_in, AfterCount, AllMay, AllMayFly, ap, append_assoc, AreSteady, Bool, Closed, Cut, cut_at, Draws, drop, End, false, first_of_merge, in_flight, Index, inl, inr, Batched, Kind, length, length-map, FalseRead, List, map, merge, Moment, Public, ReadsIn, refl, Seen, Served, setting_off, skeleton, slice_get, Some, Static, Stmt, subst, sym, Tables, take, true, turns, Whole, ℕ, ◌++◌, ◌+◌, ◌∙◌, ◌∷◌, ◌≡◌}
use Rattle.std.proofs.lemmas.List.{take-append-drop}
use Rattle.ob_base.specs.declared.access.Access.TheVariants.{Read}
use Rattle.ob_inflight.specs.AfterTurns.{HasStood}
use Rattle.ob_mean.specs.Verdict.{seen as seen_by}
use Rattle.ob_script.specs.FlightLaws.{MayFly}
use Rattle.ob_script.specs.Flights.{Flight}
use Rattle.ob_exec.specs.InFlight.{MeantUntil, served_as}
use Rattle.ob_exec.specs.RanFlight.{BeginsMeant}
use Rattle.ob_exec.proofs.FlightLists.{all_may, get_mapped, get_other, seen_same}
use Rattle.ob_exec.proofs.FlightStage.{HoldNow, IsStage, shown_of}
use Rattle.ob_exec.proofs.FlightRuns.{Boards, as_many, may_fly, sets_now, they_hold, they_serve}

-- what is read within the first of some accesses is read within all
reads_first : (lie : FalseRead) (asked all : List Access) (n : ℕ) → ReadsIn lie (asked ++ take n all) → ReadsIn lie (asked ++ all)
reads_first lie asked all n reads = record {
  rest = reads.rest ++ drop n all;
  is = sym (append_assoc lie.before (Read lie.region lie.place ∷ reads.rest) (drop n all))
      ∙ ap (λ (l : List Access). l ++ drop n all) reads.is ∙ append_assoc asked (take n all) (drop n all)
      ∙ ap (λ (l : List Access). asked ++ l) (take-append-drop n all);
}

-- what its meaning shows may be meant, however it ended
meant_whole : (d : Draws) (p : Public) (m : ℕ) (tables : Tables) (stmt : Stmt) (end : End) (shown : Seen) → shown ≡ seen_by d p m tables stmt → MeantUntil d p m tables stmt end shown
meant_whole d p m tables stmt (Cut n) shown is = inl is
meant_whole d p m tables stmt other shown is = is

module _ {F : Type 0} (k : Kind F) (m : ℕ) (stage : IsStage k m) (steady_of : (p : Public) (flown : List Served) → AllMayFly flown → AreSteady p flown)
    (p : Public) (stmts : List Stmt) (words : ℕ → ℕ) (share : ℕ) (start now : Moment F) (boards : Boards k m p stmts start)
    (q : Public) (turn : ℕ) (ended_now : List Closed) (h : HasStood k words q share turn ended_now start now)
    (indexes : List Index) (tables : Tables) (d : Draws) (held : HoldNow p indexes tables h.last.world) where
  -- what each shows by its meaning, or did until the store failed it
  abbrev shows : F → Seen
  shows f = shown_of (k.progress f).failed d m tables (k.progress f)

  abbrev meant_served : F → Served
  meant_served f = record { skeleton = skeleton (k.progress f).stmt; seen = shown_of (k.progress f).failed d m tables (k.progress f) }

  abbrev meant : List Seen
  meant = map shows h.last.flyers

  pub long : length h.last.flyers ≡ length stmts
  long = as_many k m stage steady_of p stmts words share start boards turn q h.ended h.current h.last h.aloft

  pub same : map meant_served h.last.flyers ≡ served_as stmts (map (λ (f : F). shown_of (k.progress f).failed d m tables (k.progress f)) h.last.flyers)
  same = seen_same k shows h.last.flyers stmts long (λ i f stmt at there. (they_serve k m stage steady_of p stmts words share start boards turn q h.ended h.current h.last h.aloft i f stmt at there).is)

  may_mean : (i : ℕ) (f : F) → slice_get h.last.flyers i ≡ Some f → k.May f (meant_served f)
  may_mean i f at =
      let stmt = get_other h.last.flyers stmts i f (sym long) at in
      let one = they_serve k m stage steady_of p stmts words share start boards turn q h.ended h.current h.last h.aloft i f stmt.0 at stmt.1 in
      stage.means f _ _ _ (they_hold k m stage steady_of p stmts words share start boards turn q h.ended h.current h.last h.aloft i f at) one.set indexes tables d
      (subst (λ (x : Public). HoldNow x indexes tables h.last.world) (sym one.public) (record { tells = held.tells; held = held.held; in_place = held.in_place; nolie = held.nolie }))

  pub all_mean : AllMay k.May h.last.flyers (map (λ (f : F). record { skeleton = skeleton (k.progress f).stmt; seen = shown_of (k.progress f).failed d m tables (k.progress f) }) h.last.flyers)
  all_mean = all_may k meant_served h.last.flyers may_mean

  pub all_fly : AllMayFly (map (λ (f : F). record { skeleton = skeleton (k.progress f).stmt; seen = shown_of (k.progress f).failed d m tables (k.progress f) }) h.last.flyers)
  all_fly = record {
    each = λ i x at.
        let one = get_mapped meant_served h.last.flyers i x at in
        subst (λ (y : Served). MayFly y) one.2
        (may_fly k m stage steady_of p stmts words share start boards turn q h.ended h.current h.last h.aloft i one.0 (meant_served one.0) one.1 (may_mean i one.0 one.1));
  }

  reads : (lie : FalseRead) → ((xs : List Served) → AllMay k.May h.last.flyers xs → ReadsIn lie (start.world.store.asked ++ accesses_in (turns words (turn + 1) (setting_off q start.world.vault.next xs)).log))
      → ReadsIn lie (start.world.store.asked ++ merge p (map (λ (f : F). record { skeleton = skeleton (k.progress f).stmt; seen = shown_of (k.progress f).failed d m tables (k.progress f) }) h.last.flyers) words)
  reads lie given =
      let flown = map meant_served h.last.flyers in
      let sets = sets_now k m stage steady_of p stmts words share start boards turn q h.ended h.current h.last h.aloft flown (length-map h.last.flyers meant_served ∙ long) in
      reads_first lie start.world.store.asked (merge p flown words) _
      (subst (λ (l : List Access). ReadsIn lie (start.world.store.asked ++ l))
      (ap (λ (r : Flight). accesses_in (turns words (turn + 1) r).log) sets ∙ first_of_merge p flown words (steady_of p flown all_fly) (turn + 1))
      (given flown all_mean))

  -- what the store had failed by then stays so
  meant_by : (failed : Bool) (f g : F) (stmt : Stmt) → (k.progress f).failed ≡ failed → (k.progress f).stmt ≡ stmt → (k.progress f).public ≡ in_flight stmts p
      → ((k.progress f).failed ≡ true → (k.progress g).served ≡ (k.progress f).served)
      → ((k.progress f).failed ≡ true → (k.progress f).served.seen.end ≡ Cut (k.progress f).asked)
      → MeantUntil d (in_flight stmts p) m tables stmt (k.progress g).served.seen.end (shown_of (k.progress f).failed d m tables (k.progress f))
  meant_by false f g stmt is serves public stays cut =
      meant_whole d (in_flight stmts p) m tables stmt (k.progress g).served.seen.end _
      (ap (λ (x : Bool). shown_of x d m tables (k.progress f)) is ∙ (λ j. seen_by d (public j) m tables (serves j)))
  meant_by true f g stmt is serves public stays cut =
      let ends : (k.progress g).served.seen.end ≡ Cut (k.progress f).asked = ap (λ (x : Served). x.seen.end) (stays is) ∙ cut is in
      subst (λ (x : End). MeantUntil d (in_flight stmts p) m tables stmt x (shown_of (k.progress f).failed d m tables (k.progress f))) (sym ends)
      (inr (ap (λ (x : Bool). shown_of x d m tables (k.progress f)) is
      ∙ (λ j. cut_at true (k.progress f).asked (public j) (skeleton (serves j)) (seen_by d (public j) m tables (serves j)))))

  pub begins_meant : (lie : FalseRead) → ((xs : List Served) → AllMay k.May h.last.flyers xs → ReadsIn lie (start.world.store.asked ++ accesses_in (turns words (turn + 1) (setting_off q start.world.vault.next xs)).log))
      → (asked : List Access) → start.world.store.asked ≡ asked
      → BeginsMeant p m d tables stmts (map (λ (f : F). (k.progress f).served.seen) now.flyers) words asked lie
  begins_meant lie given asked is = record {
    meant = map (λ (f : F). shown_of (k.progress f).failed d m tables (k.progress f)) h.last.flyers;
    long = length-map h.last.flyers shows ∙ long;
    each = λ i stmt seen shown there at is.
        let g = get_mapped (λ (f : F). (k.progress f).served.seen) now.flyers i seen at in
        let f = get_mapped shows h.last.flyers i shown is in
        let one = they_serve k m stage steady_of p stmts words share start boards turn q h.ended h.current h.last h.aloft i f.0 stmt f.1 there in
        subst (λ (x : Seen). MeantUntil d (in_flight stmts p) m tables stmt seen.end x) f.2
        (subst (λ (x : Seen). MeantUntil d (in_flight stmts p) m tables stmt x.end (shows f.0)) g.2
        (meant_by (k.progress f.0).failed f.0 g.0 stmt refl one.is one.public (λ failed. (h.keeps.failed i f.0 g.0 f.1 g.1 failed).0)
        (stage.cut f.0 _ _ _ (they_hold k m stage steady_of p stmts words share start boards turn q h.ended h.current h.last h.aloft i f.0 f.1))));
    reads = subst (λ (l : List Access). ReadsIn lie (l ++ merge p (served_as stmts (map (λ (f : F). shown_of (k.progress f).failed d m tables (k.progress f)) h.last.flyers)) words)) is
        (subst (λ (flown : List Served). ReadsIn lie (start.world.store.asked ++ merge p flown words)) same (reads lie given));
  }
