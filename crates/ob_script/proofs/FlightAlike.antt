-- Flights that go alike as far as the same is asked.
use Rattle.std.proofs.Common.{◌≡◌, ℕ, zero, suc, ◌+◌, true, false, List, [], ◌∷◌, ◌++◌, Some, None, Option, length, map, refl, sym, ◌∙◌, ap, subst, inl, inr, arith}
use Rattle.std.specs.Prelude.{option_map, slice_get, slice_set, take, unwrap_or}
use Rattle.std.proofs.lemmas.Bool.{cases_eq, false≢true}
use Rattle.std.proofs.lemmas.List.{length-map, map-set, take-take}
use Rattle.std.proofs.lemmas.Option.{same_Some, slice_get-map}
use Rattle.ob_base.specs.declared.access.Access.{Access}
use Rattle.ob_base.specs.declared.config.Public.{Public}
use Rattle.ob_script.specs.Trace.{Served}
use Rattle.ob_script.specs.Flights.{AreSteady, Flight, accesses_in, merge, Flying, acted, asked_at, boarded, boarding, entry_of, flight_public, gate_of, gates_of, gone_on, made_by, next_act, place_by, prints, region_after, runnable, turn, turns}
use Rattle.ob_script.specs.FlightLaws.{AllAskAlike, AsksAlike, FlyAlike, IsFirstOf, NextAlike, Picks, Way, all_over, next_place, seen_as, way_of}
use Rattle.ob_script.proofs.FlightEnds.{first_of_merge}
use Rattle.ob_script.proofs.FlightLemmas.{boarded_served, public_turns, served_turns}
use Rattle.ob_script.proofs.FlightTurns.{ended_over, goes_or_rests, over_ended, picks_at, rests, turns_more}
use Rattle.ob_script.proofs.ListPlaces.{get_set_other, get_set_same, get_take}

-- ---- statements on the same way
abbrev way_after : Option Access → Way → Way
way_after None w = record w { ended = true }
way_after (Some access) w = record w { asked = w.asked + 1; region = region_after (Some access) w.region }

way_acted : (act : Option Access) (f : Flying) → way_of (acted act f) ≡ way_after act (way_of f)
way_acted None f = refl
way_acted (Some access) f = refl

-- they differ in nothing except what is seen of them
same_as : (f g : Flying) → way_of f ≡ way_of g → seen_as g.served f ≡ g
same_as f g way = λ i. record { served = g.served; asked = (way i).asked; region = (way i).region; ended = (way i).ended }

record OnWay (gs : List Flying) (i : ℕ) (f : Flying) : Type 0 where
  flying : Flying
  at : slice_get gs i ≡ Some flying
  way : way_of f ≡ way_of flying

on_way : (fs gs : List Flying) → map way_of fs ≡ map way_of gs → (i : ℕ) (f : Flying) → slice_get fs i ≡ Some f → OnWay gs i f
on_way fs gs ways i f at = go (slice_get gs i) refl
  where
    here : slice_get (map way_of gs) i ≡ Some (way_of f)
    here = ap (λ (l : List Way). slice_get l i) (sym ways) ∙ slice_get-map way_of fs i ∙ ap (option_map way_of) at

    go : (o : Option Flying) → slice_get gs i ≡ o → OnWay gs i f
    go None none =
        let there : slice_get (map way_of gs) i ≡ None = slice_get-map way_of gs i ∙ ap (option_map way_of) none in
        cc (here, there)
    go (Some g) there = record { flying = g; at = there; way = same_Some (way_of f) (way_of g) (sym here ∙ slice_get-map way_of gs i ∙ ap (option_map way_of) there) }

-- their gates are the same where their next acts print alike
gates_by : (q : Public) (fs gs : List Flying) → map way_of fs ≡ map way_of gs
    → ((i : ℕ) (f g : Flying) → slice_get fs i ≡ Some f → slice_get gs i ≡ Some g → prints f.region (next_act q f) ≡ prints f.region (next_act q (seen_as g.served f)))
    → map (gate_of q) fs ≡ map (gate_of q) gs
gates_by q [] [] ways alike = refl
gates_by q [] (g ∷ gs) ways alike = cc
gates_by q (f ∷ fs) [] ways alike = cc
gates_by q (f ∷ fs) (g ∷ gs) ways alike =
    let way : way_of f ≡ way_of g = cc ways in
    let rest : map way_of fs ≡ map way_of gs = cc ways in
    let print = alike 0 f g refl refl in
    let seen : gate_of q f ≡ gate_of q (seen_as g.served f) = λ i. record { ended = f.ended; prints = print i } in
    (λ i. (seen ∙ ap (gate_of q) (same_as f g way)) i ∷ gates_by q fs gs rest (λ j h k at there. alike (suc j) h k at there) i)

-- ---- one turn
-- an act more of the same statement
gone_alike : (i : ℕ) (act : Option Access) (f g : Flying) (s r : Flight) → way_of f ≡ way_of g → FlyAlike s r → FlyAlike (gone_on i act f s) (gone_on i act g r)
gone_alike i act f g s r way alike = record {
  public = λ j. record (alike.public j) { next_region = (alike.public j).next_region + made_by act };
  ways = map-set way_of s.flying i (acted act f)
      ∙ (λ j. slice_set (alike.ways j) i ((way_acted act f ∙ ap (way_after act) way ∙ sym (way_acted act g)) j))
      ∙ sym (map-set way_of r.flying i (acted act g));
  log = ap (λ (l : List (ℕ × Access)). l ++ entry_of i act) alike.log;
}

-- where the gates and the next act are the same
pub alike_turn : (word : ℕ) (s r : Flight) → FlyAlike s r → gates_of s ≡ gates_of r
    → ((i : ℕ) (f g : Flying) → Picks word s i f → slice_get r.flying i ≡ Some g → way_of f ≡ way_of g → next_act s.public f ≡ next_act r.public g)
    → FlyAlike (turn word s) (turn word r)
alike_turn word s r alike gates acts = elim (goes_or_rests word s) [
  | inl all ↦
      let also = ended_over r (ap all_over (sym gates) ∙ over_ended s all) in
      subst (λ (x : Flight). FlyAlike x (turn word r)) (sym (rests word s all)) (subst (λ (y : Flight). FlyAlike s y) (sym (rests word r also)) alike)
  | inr one ↦
      let i = one.place in
      let f = one.flying in
      let size : length r.flying ≡ length s.flying = sym (length-map r.flying way_of) ∙ ap length (sym alike.ways) ∙ length-map s.flying way_of in
      let place : next_place word r ≡ i = (λ j. place_by word (size j) (runnable true 0 (sym gates j))) ∙ one.picks.place in
      let way = on_way s.flying r.flying alike.ways i f one.picks.at in
      let g = way.flying in
      let also = picks_at word r i g place way.at in
      let act = acts i f g one.picks way.at way.way in
      subst (λ (x : Flight). FlyAlike x (turn word r)) (sym one.picks.turn)
      (subst (λ (y : Flight). FlyAlike (gone_on i (next_act s.public f) f s) y) (sym also.turn)
      (subst (λ (a : Option Access). FlyAlike (gone_on i (next_act s.public f) f s) (gone_on i a g r)) act (gone_alike i (next_act s.public f) f g s r way.way alike)))
]

-- ---- what is seen in the end
module _ (p : Public) where
  -- the settings stay
  abbrev Goes : Flight → Type 0
  Goes s = s.public ≡ record p { next_region = s.public.next_region }

  -- what it asked before its last act it asked alike, and that act is the same
  record IsBefore (s : Flight) (f : Flying) (y : Served) : Type 0 where
    alike : AsksAlike p f y
    act : next_act s.public f ≡ next_act s.public (seen_as y f)

  before_act : (s : Flight) (f : Flying) (y : Served) (act : Option Access) → Goes s → f.ended ≡ false → next_act s.public f ≡ act → AsksAlike p (acted act f) y → IsBefore s f y
  before_act s f y None same goes_on is after = record {
    alike = record { asked = after.asked; prints = after.prints; ended = λ ended. absurd (false≢true (sym goes_on ∙ ended)) };
    act = is ∙ sym (ap (λ (q : Public). next_act q (seen_as y f)) same ∙ after.ended refl s.public.next_region);
  }
  before_act s f y (Some a) same goes_on is after = record {
    alike = record {
      asked = λ g. sym (take-take f.asked (f.asked + 1) (asked_at p g f.served) (omega arith)) ∙ ap (take f.asked) (after.asked g) ∙ take-take f.asked (f.asked + 1) (asked_at p g y) (omega arith);
      prints = λ g. ap (prints f.region) (here (unwrap_or f.region g));
      ended = λ ended. absurd (false≢true (sym goes_on ∙ ended));
    };
    act = ap (λ (q : Public). next_act q f) same ∙ here (unwrap_or f.region s.public.next_region) ∙ sym (ap (λ (q : Public). next_act q (seen_as y f)) same);
  }
    where
      here : (g : ℕ) → slice_get (asked_at p g f.served) f.asked ≡ slice_get (asked_at p g y) f.asked
      here g =
          sym (get_take (asked_at p g f.served) (f.asked + 1) f.asked (omega arith)) ∙ ap (λ (l : List Access). slice_get l f.asked) (after.asked g)
          ∙ get_take (asked_at p g y) (f.asked + 1) f.asked (omega arith)

  -- so before a turn all had asked alike, and the next act was the same
  record AreBefore (word : ℕ) (s : Flight) (ys : List Served) : Type 0 where
    alike : AllAskAlike p s ys
    next : NextAlike word s ys

  before_turn : (word : ℕ) (s : Flight) (ys : List Served) → Goes s → AllAskAlike p (turn word s) ys → AreBefore word s ys
  before_turn word s ys same after = elim (goes_or_rests word s) [
    | inl all ↦ record {
      alike = subst (λ (r : Flight). AllAskAlike p r ys) (rests word s all) after;
      next = record { act = λ i f y picks at. absurd (false≢true (sym picks.goes_on ∙ all.each i f picks.at)) };
    }
    | inr one ↦
        let i = one.place in
        let f = one.flying in
        let act = next_act s.public f in
        let given : AllAskAlike p (gone_on i act f s) ys = subst (λ (r : Flight). AllAskAlike p r ys) one.picks.turn after in
        let mine = λ (y : Served) (at : slice_get ys i ≡ Some y). before_act s f y act same one.picks.goes_on refl (given.each i (acted act f) y (get_set_same s.flying i f (acted act f) one.picks.at) at) in
        record {
          alike = record {
            each = λ j h y at there. elim (cases_eq j i) [
              | inl here ↦
                  let is : f ≡ h = same_Some f h (sym one.picks.at ∙ ap (slice_get s.flying) (sym here) ∙ at) in
                  subst (λ (x : Flying). AsksAlike p x y) is (mine y (ap (slice_get ys) (sym here) ∙ there)).alike
              | inr off ↦ given.each j h y (get_set_other s.flying i j (acted act f) off ∙ at) there
            ];
          };
          next = record {
            act = λ j h y picks there.
                let here : j ≡ i = sym picks.place ∙ one.picks.place in
                let is : f ≡ h = same_Some f h (sym one.picks.at ∙ ap (slice_get s.flying) (sym here) ∙ picks.at) in
                subst (λ (x : Flying). next_act s.public x ≡ next_act s.public (seen_as y x)) is (mine y (ap (slice_get ys) (sym here) ∙ there)).act;
          };
        }
  ]

  -- one turn more, where the gates and the act that is asked are alike
  alike_more : (word : ℕ) (s r : Flight) (ys : List Served) → Goes s → map (λ (f : Flying). f.served) r.flying ≡ ys → FlyAlike s r → AllAskAlike p s ys → NextAlike word s ys
      → FlyAlike (turn word s) (turn word r)
  alike_more word s r ys same served alike all next = alike_turn word s r alike gates acts
    where
      at_served : (i : ℕ) (g : Flying) → slice_get r.flying i ≡ Some g → slice_get ys i ≡ Some g.served
      at_served i g at = sym (ap (λ (l : List Served). slice_get l i) served) ∙ slice_get-map (λ (f : Flying). f.served) r.flying i ∙ ap (option_map (λ (f : Flying). f.served)) at

      gates : gates_of s ≡ gates_of r
      gates =
          gates_by s.public s.flying r.flying alike.ways (λ i f g at there.
          ap (λ (q : Public). prints f.region (next_act q f)) same ∙ (all.each i f g.served at (at_served i g there)).prints s.public.next_region
          ∙ sym (ap (λ (q : Public). prints f.region (next_act q (seen_as g.served f))) same))
          ∙ ap (λ (q : Public). map (gate_of q) r.flying) alike.public

      acts : (i : ℕ) (f g : Flying) → Picks word s i f → slice_get r.flying i ≡ Some g → way_of f ≡ way_of g → next_act s.public f ≡ next_act r.public g
      acts i f g picks at way =
          next.act i f g.served picks (at_served i g at) ∙ ap (next_act s.public) (same_as f g way) ∙ ap (λ (q : Public). next_act q g) alike.public

  -- many turns, where in the end all have asked alike
  alike_turns : (words : ℕ → ℕ) (n : ℕ) (s r : Flight) (ys : List Served) → ((m : ℕ) → Goes (turns words m s)) → ((m : ℕ) → map (λ (f : Flying). f.served) (turns words m r).flying ≡ ys)
      → FlyAlike s r → AllAskAlike p (turns words n s) ys → FlyAlike (turns words n s) (turns words n r)
  unfolding turns
  alike_turns words zero s r ys same served alike all = alike
  alike_turns words (suc n) s r ys same served alike all =
      let before = before_turn (words n) (turns words n s) ys (same n) all in
      alike_more (words n) (turns words n s) (turns words n r) ys (same n) (served n) (alike_turns words n s r ys same served alike before.alike) before.alike before.next

-- ---- whole flights
boarded_ways : (xs ys : List Served) → length xs ≡ length ys → map way_of (map boarded xs) ≡ map way_of (map boarded ys)
boarded_ways [] [] size = refl
boarded_ways [] (y ∷ ys) size = absurd (omega (arith, size))
boarded_ways (x ∷ xs) [] size = absurd (omega (arith, size))
boarded_ways (x ∷ xs) (y ∷ ys) size = ap (λ (l : List Way). way_of (boarded x) ∷ l) (boarded_ways xs ys (omega (arith, size)))

module _ (p : Public) (xs ys : List Served) (words : ℕ → ℕ) (size : length xs ≡ length ys) where
  start : FlyAlike (boarding p xs) (boarding p ys)
  start = record { public = ap (λ (n : ℕ). flight_public n p) size; ways = boarded_ways xs ys size; log = refl }

  same : (m : ℕ) → Goes (flight_public (length xs) p) (turns words m (boarding p xs))
  same m = public_turns words m (boarding p xs)

  served : (m : ℕ) → map (λ (f : Flying). f.served) (turns words m (boarding p ys)).flying ≡ ys
  served m = served_turns words m (boarding p ys) ∙ boarded_served ys

  -- if so far each has asked what it would have asked, and prints alike, were it served as the other, the flights are alike so far
  pub flights_alike : (n : ℕ) → AllAskAlike (flight_public (length xs) p) (turns words n (boarding p xs)) ys
      → FlyAlike (turns words n (boarding p xs)) (turns words n (boarding p ys))
  flights_alike n all = alike_turns (flight_public (length xs) p) words n (boarding p xs) (boarding p ys) ys same served start all

  -- and a turn further, of which the act alone is the same
  pub flights_alike_more : (n : ℕ) → AllAskAlike (flight_public (length xs) p) (turns words n (boarding p xs)) ys → NextAlike (words n) (turns words n (boarding p xs)) ys
      → FlyAlike (turns words (n + 1) (boarding p xs)) (turns words (n + 1) (boarding p ys))
  flights_alike_more n all next =
      let s = turns words n (boarding p xs) in
      let r = turns words n (boarding p ys) in
      let more = alike_more (flight_public (length xs) p) (words n) s r ys (same n) (served n) (flights_alike n all) all next in
      subst (λ (x : Flight). FlyAlike x (turns words (n + 1) (boarding p ys))) (sym (turns_more words n (boarding p xs)))
      (subst (λ (y : Flight). FlyAlike (turn (words n) s) y) (sym (turns_more words n (boarding p ys))) more)

  -- then what was asked is the first part of what the others ask in all
  pub first_alike : AreSteady p ys → (n : ℕ) → FlyAlike (turns words n (boarding p xs)) (turns words n (boarding p ys)) → IsFirstOf (merge p ys words) (turns words n (boarding p xs))
  first_alike steady n alike =
      ap accesses_in alike.log ∙ first_of_merge p ys words steady n ∙ sym (ap (λ (l : List (ℕ × Access)). take (length l) (merge p ys words)) alike.log)
