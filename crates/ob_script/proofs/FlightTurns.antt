-- Which statement goes next.
use Rattle.std.proofs.Common.{◌≡◌, ℕ, zero, suc, ◌+◌, ◌%◌, ◌<◌, ◌⊎◌, Bool, true, false, List, [], ◌∷◌, ◌++◌, Some, None, Option, length, refl, sym, ◌∙◌, ap, subst, inl, inr, arith}
use Rattle.std.specs.Prelude.{◌&&◌, ◌||◌, not, if◌then◌else◌, option_map, slice_get, take}
use Rattle.std.proofs.Math.Nat.{mod-lt}
use Rattle.std.proofs.lemmas.Bool.{and_from, and_parts, false≢true}
use Rattle.std.proofs.lemmas.List.{append-nil, append_assoc, length-append, length-map, length-take-le}
use Rattle.std.proofs.lemmas.Option.{same_Some, slice_get-get_or, slice_get-map, slice_get_past, slice_get_within}
use Rattle.ob_script.specs.Flights.{Flight, Flying, Gate, gate_of, gates_of, may_go, picked, place_by, prints, runnable, turn, turns}
use Rattle.ob_script.specs.FlightLaws.{AllEnded, Picks, PicksOne, all_over, next_place}
use Rattle.ob_script.proofs.Eaches.{at_back}
use Rattle.ob_script.proofs.ListPlaces.{get_none, take_next}

-- ---- tests
may_parts : (first ended prints : Bool) → (not ended && (first || not prints)) ≡ true → (ended ≡ false) × (prints ≡ true → first ≡ true)
may_parts first true prints h = absurd (false≢true h)
may_parts true false prints h = (refl, λ p. refl)
may_parts false false true h = absurd (false≢true h)
may_parts false false false h = (refl, λ p. p)

and_true : (b : Bool) → (b && true) ≡ b
and_true true = refl
and_true false = refl

and_assoc : (a b c : Bool) → ((a && b) && c) ≡ (a && (b && c))
and_assoc true b c = refl
and_assoc false b c = refl

-- ---- the places of those that may go
-- one that may has not ended, and if its next act prints, all before it have
record IsOpen (first : Bool) (k i : ℕ) (gates : List Gate) : Type 0 where
  place : ℕ
  is : i ≡ k + place
  gate : Gate
  at : slice_get gates place ≡ Some gate
  goes_on : gate.ended ≡ false
  leads : gate.prints ≡ true → (first ≡ true) × ((j : ℕ) (g : Gate) → j < place → slice_get gates j ≡ Some g → g.ended ≡ true)

open_here : (first : Bool) (k : ℕ) (g : Gate) (gates : List Gate) → may_go first g ≡ true → IsOpen first k k (g ∷ gates)
open_here first k g gates may =
    let parts = may_parts first g.ended g.prints may in
    record { place = 0; is = omega arith; gate = g; at = refl; goes_on = parts.0; leads = λ p. (parts.1 p, λ j h less at. absurd (omega (arith, less))) }

open_later : (first : Bool) (k i : ℕ) (g : Gate) (gates : List Gate) → IsOpen (first && g.ended) (k + 1) i gates → IsOpen first k i (g ∷ gates)
open_later first k i g gates o = record {
  place = suc o.place;
  is = omega (arith, o.is);
  gate = o.gate;
  at = o.at;
  goes_on = o.goes_on;
  leads = λ p.
      let led = o.leads p in
      let ends = and_parts first g.ended led.0 in
      (ends.0, all_before led.1 ends.1);
}
  where
    all_before : ((j : ℕ) (h : Gate) → j < o.place → slice_get gates j ≡ Some h → h.ended ≡ true) → g.ended ≡ true
        → (j : ℕ) (h : Gate) → j < suc o.place → slice_get (g ∷ gates) j ≡ Some h → h.ended ≡ true
    all_before rest ended zero h less at = ap (λ (x : Gate). x.ended) (sym (same_Some g h at)) ∙ ended
    all_before rest ended (suc j) h less at = rest j h (omega (arith, less)) at

runnable_open : (first : Bool) (k : ℕ) (gates : List Gate) (j i : ℕ) → slice_get (runnable first k gates) j ≡ Some i → IsOpen first k i gates
unfolding runnable
runnable_open first k [] j i h = cc
runnable_open first k (g ∷ gates) j i h = go (λ m there. open_later first k i g gates (runnable_open (first && g.ended) (k + 1) gates m i there)) (may_go first g) refl j h
  where
    go : ((m : ℕ) → slice_get (runnable (first && g.ended) (k + 1) gates) m ≡ Some i → IsOpen first k i (g ∷ gates))
        → (b : Bool) → may_go first g ≡ b → (m : ℕ) → slice_get ((if b then k ∷ [] else []) ++ runnable (first && g.ended) (k + 1) gates) m ≡ Some i → IsOpen first k i (g ∷ gates)
    go more true is zero there = subst (λ (n : ℕ). IsOpen first k n (g ∷ gates)) (same_Some k i there) (open_here first k g gates is)
    go more true is (suc m) there = more m there
    go more false is m there = more m there

-- the first that has not ended always may
runnable_none : (k : ℕ) (gates : List Gate) → runnable true k gates ≡ [] → (i : ℕ) (g : Gate) → slice_get gates i ≡ Some g → g.ended ≡ true
unfolding runnable
runnable_none k [] none i g at = cc
runnable_none k (h ∷ gates) none i g at = go (λ j nothing there. runnable_none (k + 1) gates nothing j g there) h.ended refl none i at
  where
    go : ((j : ℕ) → runnable true (k + 1) gates ≡ [] → slice_get gates j ≡ Some g → g.ended ≡ true)
        → (b : Bool) → h.ended ≡ b → ((if not b && true then k ∷ [] else []) ++ runnable b (k + 1) gates) ≡ [] → (i : ℕ) → slice_get (h ∷ gates) i ≡ Some g → g.ended ≡ true
    go rest false is some i at = cc
    go rest true is nothing zero at = ap (λ (x : Gate). x.ended) (sym (same_Some h g at)) ∙ is
    go rest true is nothing (suc i) at = rest i nothing at

-- where all have, none may
runnable_over : (first : Bool) (k : ℕ) (gates : List Gate) → ((i : ℕ) (g : Gate) → slice_get gates i ≡ Some g → g.ended ≡ true) → runnable first k gates ≡ []
unfolding runnable
runnable_over first k [] all = refl
runnable_over first k (g ∷ gates) all =
    ap (λ (b : Bool). (if not b && (first || not g.prints) then k ∷ [] else []) ++ runnable (first && g.ended) (k + 1) gates) (all 0 g refl)
    ∙ runnable_over (first && g.ended) (k + 1) gates (λ i h at. all (suc i) h at)

-- one more at the end, for a loop from the front
pub runnable_push : (first : Bool) (k : ℕ) (gates : List Gate) (g : Gate)
    → runnable first k (gates ++ g ∷ []) ≡ runnable first k gates ++ (if may_go (first && all_over gates) g then (k + length gates) ∷ [] else [])
unfolding runnable all_over
runnable_push first k [] g =
    let same : k ≡ k + 0 = omega arith in
    append-nil (if may_go first g then k ∷ [] else []) ∙ (λ i. if may_go (sym (and_true first) i) g then (same i) ∷ [] else [])
runnable_push first k (h ∷ gates) g =
    let here : List ℕ = if may_go first h then k ∷ [] else [] in
    let same : k + 1 + length gates ≡ k + suc (length gates) = omega arith in
    ap (λ (l : List ℕ). here ++ l) (runnable_push (first && h.ended) (k + 1) gates g)
    ∙ (λ i. here ++ (runnable (first && h.ended) (k + 1) gates ++ (if may_go (and_assoc first h.ended (all_over gates) i) g then (same i) ∷ [] else [])))
    ∙ sym (append_assoc here (runnable (first && h.ended) (k + 1) gates) (if may_go (first && (h.ended && all_over gates)) g then (k + suc (length gates)) ∷ [] else []))

pub all_over_push : (gates : List Gate) (g : Gate) → all_over (gates ++ g ∷ []) ≡ (all_over gates && g.ended)
unfolding all_over
all_over_push [] g = and_true g.ended
all_over_push (h ∷ gates) g = ap (λ (b : Bool). h.ended && b) (all_over_push gates g) ∙ sym (and_assoc h.ended (all_over gates) g.ended)

-- the same for the first gates of a list
pub runnable_more : (gates : List Gate) (i : ℕ) (g : Gate) → slice_get gates i ≡ Some g
    → runnable true 0 (take (i + 1) gates) ≡ runnable true 0 (take i gates) ++ (if may_go (all_over (take i gates)) g then i ∷ [] else [])
runnable_more gates i g at =
    let within = slice_get_within gates i g at in
    let size : 0 + length (take i gates) ≡ i = let e = length-take-le i gates (omega (arith, within)) in omega (arith, e) in
    ap (runnable true 0) (take_next gates i g at) ∙ runnable_push true 0 (take i gates) g
    ∙ ap (λ (n : ℕ). runnable true 0 (take i gates) ++ (if may_go (all_over (take i gates)) g then n ∷ [] else [])) size

pub all_over_more : (gates : List Gate) (i : ℕ) (g : Gate) → slice_get gates i ≡ Some g → all_over (take (i + 1) gates) ≡ (all_over (take i gates) && g.ended)
all_over_more gates i g at = ap all_over (take_next gates i g at) ∙ all_over_push (take i gates) g

-- the place at which one that may go stands among them: as many as may before it
pub runnable_at : (first : Bool) (k : ℕ) (gates : List Gate) (i : ℕ) (g : Gate) → slice_get gates i ≡ Some g → may_go (first && all_over (take i gates)) g ≡ true
    → slice_get (runnable first k gates) (length (runnable first k (take i gates))) ≡ Some (k + i)
unfolding runnable all_over
runnable_at first k [] i g at may = cc
runnable_at first k (h ∷ gates) zero g at may =
    let here : may_go first h ≡ true = ap (may_go first) (same_Some h g at) ∙ ap (λ (b : Bool). may_go b g) (sym (and_true first)) ∙ may in
    let same : k ≡ k + 0 = omega arith in
    ap (λ (b : Bool). slice_get ((if b then k ∷ [] else []) ++ runnable (first && h.ended) (k + 1) gates) 0) here ∙ ap Some same
runnable_at first k (h ∷ gates) (suc i) g at may =
    let here : List ℕ = if may_go first h then k ∷ [] else [] in
    let before = runnable (first && h.ended) (k + 1) (take i gates) in
    let same : k + 1 + i ≡ k + suc i = omega arith in
    at_back here (runnable (first && h.ended) (k + 1) gates) (length (here ++ before)) (length before) (k + suc i) (length-append here before)
    (runnable_at (first && h.ended) (k + 1) gates i g at (ap (λ (b : Bool). may_go b g) (and_assoc first h.ended (all_over (take i gates))) ∙ may) ∙ ap Some same)

-- ---- the one that is picked
-- a place that is picked is one of the places, if there are any
place_at : (word none : ℕ) (places : List ℕ) → (places ≡ []) ⊎ (slice_get places (word % length places) ≡ Some (place_by word none places))
place_at word none [] = inl refl
place_at word none (k ∷ places) = inr (slice_get-get_or (k ∷ places) (word % length (k ∷ places)) none (mod-lt word {m = length (k ∷ places)} (omega arith)))

gate_at : (s : Flight) (i : ℕ) (f : Flying) → slice_get s.flying i ≡ Some f → slice_get (gates_of s) i ≡ Some (gate_of s.public f)
gate_at s i f at = slice_get-map (gate_of s.public) s.flying i ∙ ap (option_map (gate_of s.public)) at

module _ (word : ℕ) (s : Flight) where
  -- none is picked where none may go
  none_picked : runnable true 0 (gates_of s) ≡ [] → next_place word s ≡ length s.flying
  none_picked none = ap (place_by word (length s.flying)) none

  picked_open : (i : ℕ) → next_place word s ≡ i → i < length s.flying → IsOpen true 0 i (gates_of s)
  picked_open i is within = elim (place_at word (length s.flying) (runnable true 0 (gates_of s))) [
    | inl none ↦ let past = none_picked none in absurd (omega (arith, is, past, within))
    | inr got ↦ runnable_open true 0 (gates_of s) (word % length (runnable true 0 (gates_of s))) i (got ∙ ap Some is)
  ]

  -- the statement at the place that the word tells goes on
  pub picks_at : (i : ℕ) (f : Flying) → place_by word (length s.flying) (runnable true 0 (gates_of s)) ≡ i → slice_get s.flying i ≡ Some f → Picks word s i f
  unfolding turn
  picks_at i f is at =
      let o = picked_open i is (slice_get_within s.flying i f at) in
      let here : i ≡ o.place = omega (arith, o.is) in
      let gate : o.gate ≡ gate_of s.public f = same_Some o.gate (gate_of s.public f) (sym o.at ∙ ap (slice_get (gates_of s)) (sym here) ∙ gate_at s i f at) in
      record {
        place = is;
        at = at;
        goes_on = sym (ap (λ (g : Gate). g.ended) gate) ∙ o.goes_on;
        turn = ap (λ (k : ℕ). picked k (slice_get s.flying k) s) is ∙ ap (λ (o : Option Flying). picked i o s) at;
        first = λ printing j g less there.
            (o.leads (ap (λ (g : Gate). g.prints) gate ∙ printing)).1 j (gate_of s.public g) (omega (arith, less, here)) (gate_at s j g there);
      }

  -- the same by gates that were found, with the statements in order
  pub picks_by : (gates : List Gate) (i : ℕ) (f : Flying) → gates_of s ≡ gates → place_by word (length gates) (runnable true 0 gates) ≡ i → slice_get s.flying i ≡ Some f → Picks word s i f
  picks_by gates i f same is at =
      let size : length s.flying ≡ length gates = sym (length-map s.flying (gate_of s.public)) ∙ ap length same in
      picks_at i f ((λ j. place_by word (size j) (runnable true 0 (same j))) ∙ is) at

  -- there is one that goes on, unless all have ended
  pub goes_or_rests : AllEnded s ⊎ PicksOne word s
  goes_or_rests = go (slice_get s.flying (next_place word s)) refl
    where
      go : (o : Option Flying) → slice_get s.flying (next_place word s) ≡ o → AllEnded s ⊎ PicksOne word s
      go (Some f) at = inr (record { place = next_place word s; flying = f; picks = picks_at (next_place word s) f refl at })
      go None at = elim (place_at word (length s.flying) (runnable true 0 (gates_of s))) [
        | inl none ↦ inl (record { each = λ i f there. runnable_none 0 (gates_of s) none i (gate_of s.public f) (gate_at s i f there) })
        | inr got ↦
            let o = runnable_open true 0 (gates_of s) (word % length (runnable true 0 (gates_of s))) (next_place word s) got in
            let within = slice_get_within (gates_of s) o.place o.gate o.at in
            let size = length-map s.flying (gate_of s.public) in
            let past = get_none s.flying (next_place word s) at in
            absurd (omega (arith, o.is, within, size, past))
      ]

-- whether all have ended, by the gates
over_each : (gates : List Gate) → all_over gates ≡ true → (i : ℕ) (g : Gate) → slice_get gates i ≡ Some g → g.ended ≡ true
unfolding all_over
over_each [] over i g at = cc
over_each (h ∷ gates) over zero g at = ap (λ (x : Gate). x.ended) (sym (same_Some h g at)) ∙ (and_parts h.ended (all_over gates) over).0
over_each (h ∷ gates) over (suc i) g at = over_each gates (and_parts h.ended (all_over gates) over).1 i g at

pub ended_over : (s : Flight) → all_over (gates_of s) ≡ true → AllEnded s
ended_over s over = record { each = λ i f at. over_each (gates_of s) over i (gate_of s.public f) (gate_at s i f at) }

each_over : (gates : List Gate) → ((i : ℕ) (g : Gate) → slice_get gates i ≡ Some g → g.ended ≡ true) → all_over gates ≡ true
unfolding all_over
each_over [] all = refl
each_over (g ∷ gates) all = and_from g.ended (all_over gates) (all 0 g refl) (each_over gates (λ i h at. all (suc i) h at))

gates_ended : (s : Flight) → AllEnded s → (i : ℕ) (g : Gate) → slice_get (gates_of s) i ≡ Some g → g.ended ≡ true
gates_ended s all i g at = go (slice_get s.flying i) refl
  where
    go : (o : Option Flying) → slice_get s.flying i ≡ o → g.ended ≡ true
    go None none = cc (slice_get-map (gate_of s.public) s.flying i, ap (option_map (gate_of s.public)) none, at)
    go (Some f) there = ap (λ (x : Gate). x.ended) (same_Some g (gate_of s.public f) (sym at ∙ gate_at s i f there)) ∙ all.each i f there

pub over_ended : (s : Flight) → AllEnded s → all_over (gates_of s) ≡ true
over_ended s all = each_over (gates_of s) (gates_ended s all)

-- and then nothing changes
pub rests : (word : ℕ) (s : Flight) → AllEnded s → turn word s ≡ s
unfolding turn
rests word s all =
    let place = none_picked word s (runnable_over true 0 (gates_of s) (gates_ended s all)) in
    ap (λ (k : ℕ). picked k (slice_get s.flying k) s) place ∙ ap (λ (o : Option Flying). picked (length s.flying) o s) (slice_get_past s.flying (length s.flying) (omega arith))

-- ---- many turns
pub turns_more : (words : ℕ → ℕ) (n : ℕ) (s : Flight) → turns words (n + 1) s ≡ turn (words n) (turns words n s)
unfolding turns
turns_more words n s = let next : n + 1 ≡ suc n = omega arith in ap (λ (m : ℕ). turns words m s) next

-- the first of them first
pub turns_shift : (words : ℕ → ℕ) (n : ℕ) (s : Flight) → turns words (suc n) s ≡ turns (λ t. words (t + 1)) n (turn (words 0) s)
unfolding turns
turns_shift words zero s = refl
turns_shift words (suc n) s =
    let next : suc n ≡ n + 1 = omega arith in
    (λ i. turn (words (next i)) (turns_shift words n s i))

pub rest_turns : (words : ℕ → ℕ) (n k : ℕ) (s : Flight) → AllEnded (turns words n s) → turns words (k + n) s ≡ turns words n s
unfolding turns
rest_turns words n zero s all = let same : 0 + n ≡ n = omega arith in ap (λ (m : ℕ). turns words m s) same
rest_turns words n (suc k) s all =
    let next : suc k + n ≡ suc (k + n) = omega arith in
    ap (λ (m : ℕ). turns words m s) next ∙ ap (turn (words (k + n))) (rest_turns words n k s all) ∙ rests (words (k + n)) (turns words n s) all
