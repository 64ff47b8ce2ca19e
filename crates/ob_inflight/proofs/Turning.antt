-- What one turn asks, whatever the statements turn out to be served.
use Rattle.std.proofs.Common.{◌≡◌, ℕ, zero, suc, ◌+◌, ◌<◌, ◌≤◌, Bool, true, List, [], ◌∷◌, ◌++◌, Some, None, Option, map, length, drop, refl, sym, ◌∙◌, ap, subst, arith, append_assoc}
use Rattle.std.specs.Prelude.{is_some, slice_get, slice_set}
use Rattle.std.proofs.lemmas.List.{append-nil, map-append}
use Rattle.ob_base.specs.Events.{Event}
use Rattle.ob_base.specs.declared.access.Access.{Access}
use Rattle.ob_base.specs.declared.config.Public.{Public}
use Rattle.ob_script.specs.Flights.{Flight, Flying, Gate, accesses_in, acted, boarded, entry_of, gate_of, gates_of, gone_on, made_by, next_act, picked as picked_in, place_by, prints, runnable, turn, turns}
use Rattle.ob_script.specs.Trace.{Served}
use Rattle.ob_vault.specs.Rows.{SameSizes}
use Rattle.ob_vault.specs.State.{World}
use Rattle.ob_inflight.specs.AfterTurns.{AllMay, AreFlying, Turned, acts_of, flight_in, flying_in, setting_off}
use Rattle.ob_inflight.specs.Closing.{Closed, outcome_at}
use Rattle.ob_inflight.specs.Kinds.{Kind, Moment}
use Rattle.ob_inflight.specs.Leaving.{Leaves}
use Rattle.ob_inflight.specs.Picking.{going}
use Rattle.ob_script.specs.FlightLaws.{one_if, total}
use Rattle.ob_inflight.specs.Progress.{ActsAs, act_of, flying_of, numbered}
use Rattle.ob_script.proofs.FlightEnds.{total_set}
use Rattle.std.proofs.lemmas.Option.{same_Some}
use Rattle.ob_script.proofs.FlightTurns.{turns_more}
use Rattle.ob_inflight.proofs.Picks.{runnable_behind}

-- the laws of a kind
pub record Laws {F : Type 0} (k : Kind F) : Type 0 where
  pub served : (f : F) (kept : List (List ℕ)) (events : List Event) (w : World) → k.Holds f kept events w → k.May f (k.progress f).served
  pub acts : (f : F) (x : Served) (n : ℕ) → k.May f x → ActsAs (k.progress f) x n
  pub frames : (f : F) (kept : List (List ℕ)) (events : List Event) (w v : World) → Leaves (k.Needs f) w v → k.Holds f kept events w → k.Holds f kept events v
  pub below : (f : F) (kept : List (List ℕ)) (events : List Event) (w : World) (q : ℕ) → k.Holds f kept events w → k.Needs f q → q < w.vault.next
  pub refits : (f : F) (rows kept more own : List (List ℕ)) → SameSizes rows more → SameSizes kept own → k.Fits f rows kept → k.Fits f more own

-- what turns out to be served at a place
pub record MayAt {F : Type 0} (k : Kind F) (i : ℕ) (f : F) (xs : List Served) : Type 0 where
  pub x : Served
  pub get : slice_get xs i ≡ Some x
  pub may : k.May f x

module _ {F : Type 0} (k : Kind F) where
  pub may_at : (fs : List F) (xs : List Served) (i : ℕ) (f : F) → AllMay k.May fs xs → slice_get fs i ≡ Some f → MayAt k i f xs
  unfolding AllMay
  may_at [] xs i f all at = cc
  may_at (g ∷ fs) [] i f all at = absurd all
  may_at (g ∷ fs) (x ∷ xs) zero f all at = record { x = x; get = refl; may = subst (λ (h : F). k.May h x) (same_Some _ _ at) all.0 }
  may_at (g ∷ fs) (x ∷ xs) (suc i) f all at = let m = may_at fs xs i f all.1 at in record { x = m.x; get = m.get; may = m.may }

  pub may_before : (fs : List F) (xs : List Served) (i : ℕ) (f g : F) → slice_get fs i ≡ Some f → ((x : Served) → k.May g x → k.May f x)
      → AllMay k.May (slice_set fs i g) xs → AllMay k.May fs xs
  unfolding AllMay
  may_before [] xs i f g at earlier all = all
  may_before (h ∷ fs) [] zero f g at earlier all = absurd all
  may_before (h ∷ fs) [] (suc i) f g at earlier all = absurd all
  may_before (h ∷ fs) (x ∷ xs) zero f g at earlier all = (subst (λ (y : F). k.May y x) (sym (same_Some _ _ at)) (earlier x all.0), all.1)
  may_before (h ∷ fs) (x ∷ xs) (suc i) f g at earlier all = (all.0, may_before fs xs i f g at earlier all.1)

  flying_at : (fs : List F) (xs : List Served) (i : ℕ) (f : F) (x : Served) → slice_get fs i ≡ Some f → slice_get xs i ≡ Some x → slice_get (flying_in k fs xs) i ≡ Some (flying_of (k.progress f) x)
  unfolding flying_in
  flying_at [] xs i f x at get = cc
  flying_at (g ∷ fs) [] i f x at get = cc
  flying_at (g ∷ fs) (y ∷ xs) zero f x at get = λ j. Some (flying_of (k.progress (same_Some _ _ at j)) (same_Some _ _ get j))
  flying_at (g ∷ fs) (y ∷ xs) (suc i) f x at get = flying_at fs xs i f x at get

  flying_set : (fs : List F) (xs : List Served) (i : ℕ) (g : F) (x : Served) → slice_get xs i ≡ Some x → flying_in k (slice_set fs i g) xs ≡ slice_set (flying_in k fs xs) i (flying_of (k.progress g) x)
  unfolding flying_in
  flying_set [] xs i g x get = refl
  flying_set (f ∷ fs) [] i g x get = cc
  flying_set (f ∷ fs) (y ∷ xs) zero g x get = λ j. flying_of (k.progress g) (same_Some _ _ get j) ∷ flying_in k fs xs
  flying_set (f ∷ fs) (y ∷ xs) (suc i) g x get = ap (λ (l : List Flying). flying_of (k.progress f) y ∷ l) (flying_set fs xs i g x get)

  -- ---- who is picked
  gate : F → Gate
  gate f = record { ended = is_some (k.progress f).outcome; prints = (k.progress f).prints }

  gate-ended : (f : F) → (gate f).ended ≡ is_some (k.progress f).outcome
  unfolding gate
  gate-ended f = refl

  module _ (laws : Laws k) (p : Public) (next : ℕ) where
    gate_one : (f : F) (x : Served) → (k.progress f).public ≡ p → k.May f x → gate_of (numbered next p) (flying_of (k.progress f) x) ≡ gate f
    unfolding gate
    gate_one f x public may =
        let fl : Flying = flying_of (k.progress f) x in
        let is : prints (k.progress f).region (next_act (numbered next p) fl) ≡ (k.progress f).prints =
        ap (λ (q : Public). prints (k.progress f).region (next_act (numbered next q) fl)) (sym public) ∙ (laws.acts f x next may).prints in
        λ j. record { ended = is_some (k.progress f).outcome; prints = is j }

    gates_in : (fs : List F) (xs : List Served) → ((i : ℕ) (f : F) → slice_get fs i ≡ Some f → (k.progress f).public ≡ p) → AllMay k.May fs xs
        → map (gate_of (numbered next p)) (flying_in k fs xs) ≡ map gate fs
    unfolding AllMay flying_in
    gates_in [] xs public all = refl
    gates_in (f ∷ fs) [] public all = absurd all
    gates_in (f ∷ fs) (x ∷ xs) public all = λ j. gate_one f x (public 0 f refl) all.0 j ∷ gates_in fs xs (λ i g at. public (suc i) g at) all.1 j

  gate_at : (fs : List F) (i : ℕ) (g : Gate) → slice_get (map gate fs) i ≡ Some g → (f : F) × (slice_get fs i ≡ Some f) × (g ≡ gate f)
  gate_at [] i g at = cc
  gate_at (f ∷ fs) zero g at = (f, refl, sym (same_Some _ _ at))
  gate_at (f ∷ fs) (suc i) g at = gate_at fs i g at

  prints_drop : (n : ℕ) (fs : List F) → map (λ (g : Gate). g.prints) (drop n (map gate fs)) ≡ map (λ (f : F). (k.progress f).prints) (drop n fs)
  unfolding gate
  prints_drop zero fs = go fs
    where
      go : (fs : List F) → map (λ (g : Gate). g.prints) (map gate fs) ≡ map (λ (f : F). (k.progress f).prints) fs
      go [] = refl
      go (f ∷ fs) = ap (λ (l : List Bool). (k.progress f).prints ∷ l) (go fs)
  prints_drop (suc n) [] = refl
  prints_drop (suc n) (f ∷ fs) = prints_drop n fs

outcome_done : (ended : List Closed) (i : ℕ) → i < length ended → is_some (outcome_at ended i) ≡ true
outcome_done [] i less = absurd (omega (arith, less))
outcome_done (one ∷ ended) zero less = refl
outcome_done (one ∷ ended) (suc i) less = outcome_done ended i (omega (arith, less))

pub outcome_open : (ended : List Closed) (i : ℕ) → length ended ≤ i → outcome_at ended i ≡ None
outcome_open [] i most = refl
outcome_open (one ∷ ended) zero most = absurd (omega (arith, most))
outcome_open (one ∷ ended) (suc i) most = outcome_open ended i (omega (arith, most))

-- a turn of the one that is picked
turn_at : (word i : ℕ) (s : Flight) (fl : Flying) (act : Option Access) → place_by word (length s.flying) (runnable true 0 (gates_of s)) ≡ i → slice_get s.flying i ≡ Some fl
    → next_act s.public fl ≡ act → turn word s ≡ gone_on i act fl s
unfolding turn
turn_at word i s fl act place at is =
    ap (λ (j : ℕ). picked_in j (slice_get s.flying j) s) place
    ∙ ap (λ (o : Option Flying). picked_in i o s) at
    ∙ ap (λ (a : Option Access). gone_on i a fl s) is

-- the accesses of an act
pub asks_of : Option Access → List Access
asks_of None = []
asks_of (Some access) = access ∷ []

pub asks_none : asks_of None ≡ []
unfolding asks_of
asks_none = refl

pub asks_some : (a : Access) → asks_of (Some a) ≡ a ∷ []
unfolding asks_of
asks_some a = refl

log_more : (i : ℕ) (act : Option Access) (log : List (ℕ × Access)) → accesses_in (log ++ entry_of i act) ≡ accesses_in log ++ asks_of act
unfolding asks_of
log_more i None log = map-append (λ (e : ℕ × Access). e.1) log []
log_more i (Some a) log = map-append (λ (e : ℕ × Access). e.1) log ((i, a) ∷ [])

module _ {F : Type 0} (k : Kind F) (laws : Laws k) (words : ℕ → ℕ) (n : ℕ) (p : Public) (share : ℕ) (ended : List Closed) (current : List Event) (start last : Moment F)
    (stand : AreFlying k p share ended current last) (turned : Turned k words n p start last) (i : ℕ) (f : F) (at : slice_get last.flyers i ≡ Some f)
    (picked : (none : ℕ) → i ≡ place_by (words n) none (going true (length ended) (map (λ (f : F). (k.progress f).prints) (drop (length ended) last.flyers))))
    (act : Option Access) (next : (x : Served) → k.May f x → act_of (k.progress f) x last.world.vault.next ≡ act) where
  places : (xs : List Served) → AllMay k.May last.flyers xs → runnable true 0 (map (gate_of (numbered last.world.vault.next p)) (flying_in k last.flyers xs))
      ≡ going true (length ended) (map (λ (f : F). (k.progress f).prints) (drop (length ended) last.flyers))
  places xs all =
      let e = length ended in
      ap (runnable true 0) (gates_in k laws p last.world.vault.next last.flyers xs stand.public all)
      ∙ runnable_behind e 0 (map (gate k) last.flyers)
      (λ j g get less. let o = gate_at k last.flyers j g get in ap (λ (h : Gate). h.ended) o.2 ∙ gate-ended k o.0 ∙ ap is_some (stand.outcome j o.0 o.1) ∙ outcome_done ended j less)
      (λ j g get most. let o = gate_at k last.flyers j g get in ap (λ (h : Gate). h.ended) o.2 ∙ gate-ended k o.0 ∙ ap is_some (stand.outcome j o.0 o.1 ∙ outcome_open ended j most))
      ∙ ap (λ (m : ℕ). going true m (map (λ (g : Gate). g.prints) (drop e (map (gate k) last.flyers)))) (omega arith)
      ∙ ap (going true e) (prints_drop k e last.flyers)

  pub turn_on : (xs : List Served) → (all : AllMay k.May last.flyers xs) → turns words (n + 1) (setting_off p start.world.vault.next xs)
      ≡ gone_on i act (flying_of (k.progress f) (may_at k last.flyers xs i f all at).x) (flight_in k p last.world.vault.next last.flyers xs turned.log)
  turn_on xs all =
      let m = may_at k last.flyers xs i f all at in
      let s : Flight = flight_in k p last.world.vault.next last.flyers xs turned.log in
      let fl : Flying = flying_of (k.progress f) m.x in
      let place : place_by (words n) (length s.flying) (runnable true 0 (gates_of s)) ≡ i =
      ap (place_by (words n) (length s.flying)) (places xs all) ∙ sym (picked (length s.flying)) in
      let is : next_act s.public fl ≡ act =
      ap (λ (q : Public). next_act (numbered last.world.vault.next q) fl) (sym (stand.public i f at)) ∙ next m.x m.may in
      turns_more words n (setting_off p start.world.vault.next xs)
      ∙ ap (turn (words n)) (turned.turns xs all)
      ∙ turn_at (words n) i s fl act place (flying_at k last.flyers xs i f m.x at m.get) is

  -- what was asked then is what was asked before, and that act
  pub log_on : (xs : List Served) → AllMay k.May last.flyers xs → accesses_in (turns words (n + 1) (setting_off p start.world.vault.next xs)).log ≡ accesses_in turned.log ++ asks_of act
  log_on xs all = ap (λ (s : Flight). accesses_in s.log) (turn_on xs all) ∙ log_more i act turned.log

  module _ (g : F) (now : Moment F) (flyers : now.flyers ≡ slice_set last.flyers i g) (may : (x : Served) → k.May g x → k.May f x)
      (after : (x : Served) → acted act (flying_of (k.progress f) x) ≡ flying_of (k.progress g) x)
      (made : now.world.vault.next ≡ last.world.vault.next + made_by act) (asked : now.world.store.asked ≡ last.world.store.asked ++ asks_of act)
      (acts : (k.progress g).asked + one_if (is_some (k.progress g).outcome) ≡ (k.progress f).asked + one_if (is_some (k.progress f).outcome) + 1) where
    all_before : (xs : List Served) → AllMay k.May now.flyers xs → AllMay k.May last.flyers xs
    all_before xs all = may_before k last.flyers xs i f g at may (subst (λ (fs : List F). AllMay k.May fs xs) flyers all)

    pub turned_next : Turned k words (n + 1) p start now
    turned_next = record {
      log = turned.log ++ entry_of i act;
      asked = asked ∙ ap (λ (l : List Access). l ++ asks_of act) turned.asked ∙ append_assoc start.world.store.asked (accesses_in turned.log) (asks_of act)
          ∙ ap (λ (l : List Access). start.world.store.asked ++ l) (sym (log_more i act turned.log));
      may = λ xs all. turned.may xs (all_before xs all);
      turns = λ xs all.
          let before = all_before xs all in
          let m = may_at k last.flyers xs i f before at in
          let fly : slice_set (flying_in k last.flyers xs) i (acted act (flying_of (k.progress f) m.x)) ≡ flying_in k now.flyers xs =
          ap (slice_set (flying_in k last.flyers xs) i) (after m.x) ∙ sym (flying_set k last.flyers xs i g m.x m.get) ∙ ap (λ (fs : List F). flying_in k fs xs) (sym flyers) in
          turn_on xs before
          ∙ (λ j. record { public = numbered (sym made j) p; flying = fly j; log = turned.log ++ entry_of i act });
      acts =
          let n_of : F → ℕ = λ (h : F). (k.progress h).asked + one_if (is_some (k.progress h).outcome) in
          let sum = total_set n_of last.flyers i f g at in
          let is : acts_of k now.flyers ≡ total n_of (slice_set last.flyers i g) = ap (total n_of) flyers in
          omega (arith, sum, is, acts, turned.acts);
    }

-- before the first turn
pub turned_none : {F : Type 0} (k : Kind F) (words : ℕ → ℕ) (p : Public) (start : Moment F)
    → ((i : ℕ) (f : F) → slice_get start.flyers i ≡ Some f → (k.progress f).asked ≡ 0) → ((i : ℕ) (f : F) → slice_get start.flyers i ≡ Some f → (k.progress f).region ≡ None)
    → ((i : ℕ) (f : F) → slice_get start.flyers i ≡ Some f → (k.progress f).outcome ≡ None) → acts_of k start.flyers ≡ 0 → Turned k words 0 p start start
unfolding turns AllMay flying_in
turned_none {F} k words p start asked region outcome acts = record {
  log = [];
  asked = sym (append-nil start.world.store.asked);
  may = λ xs all. all;
  turns = λ xs all. λ j. record { public = numbered start.world.vault.next p; flying = go start.flyers xs asked region outcome all j; log = [] };
  acts = acts;
}
  where
    go : (fs : List F) (xs : List Served) → ((i : ℕ) (f : F) → slice_get fs i ≡ Some f → (k.progress f).asked ≡ 0) → ((i : ℕ) (f : F) → slice_get fs i ≡ Some f → (k.progress f).region ≡ None)
        → ((i : ℕ) (f : F) → slice_get fs i ≡ Some f → (k.progress f).outcome ≡ None) → AllMay k.May fs xs → map boarded xs ≡ flying_in k fs xs
    go [] [] asked region outcome all = refl
    go [] (x ∷ xs) asked region outcome all = absurd all
    go (f ∷ fs) [] asked region outcome all = absurd all
    go (f ∷ fs) (x ∷ xs) asked region outcome all = λ j.
        (record { served = x; asked = sym (asked 0 f refl) j; region = sym (region 0 f refl) j; ended = is_some (sym (outcome 0 f refl) j) })
        ∷ go fs xs (λ i g at. asked (suc i) g at) (λ i g at. region (suc i) g at) (λ i g at. outcome (suc i) g at) all.1 j
