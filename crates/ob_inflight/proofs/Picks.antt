-- Who is picked.
use Rattle.std.proofs.Common.{◌≡◌, ◌+◌, ◌<◌, ◌≤◌, ◌%◌, ℕ, zero, suc, Bool, true, false, if◌then◌else◌, List, [], ◌∷◌, ◌++◌, Some, map, length, drop, refl, sym, ◌∙◌, ap, arith}
use Rattle.std.specs.Prelude.{◌||◌, ◌&&◌, not, slice_get}
use Rattle.std.proofs.lemmas.Option.{same_Some, slice_get-get_or}
use Rattle.std.proofs.Math.Nat.{mod-lt}
use Rattle.ob_script.specs.Flights.{Gate, may_go, place_by, runnable}
use Rattle.ob_inflight.specs.Picking.{going}

-- none of them has ended
pub runnable_going : (first : Bool) (place : ℕ) (gates : List Gate) → ((i : ℕ) (g : Gate) → slice_get gates i ≡ Some g → g.ended ≡ false)
    → runnable first place gates ≡ going first place (map (λ (g : Gate). g.prints) gates)
unfolding runnable going
runnable_going first place [] none = refl
runnable_going first place (g ∷ gates) none =
    let open_now = none 0 g refl in
    let more = runnable_going false (place + 1) gates (λ i h at. none (suc i) h at) in
    let may : may_go first g ≡ (first || not g.prints) = ap (λ (b : Bool). not b && (first || not g.prints)) open_now in
    let next : (first && g.ended) ≡ false = ap (λ (b : Bool). first && b) open_now ∙ and_false first in
    (λ i. (if may i then place ∷ [] else []) ++ runnable (next i) (place + 1) gates)
    ∙ ap (λ (l : List ℕ). (if first || not g.prints then place ∷ [] else []) ++ l) more
  where
    and_false : (b : Bool) → (b && false) ≡ false
    and_false true = refl
    and_false false = refl

-- the first ones have
pub runnable_behind : (ended place : ℕ) (gates : List Gate) → ((i : ℕ) (g : Gate) → slice_get gates i ≡ Some g → i < ended → g.ended ≡ true)
    → ((i : ℕ) (g : Gate) → slice_get gates i ≡ Some g → ended ≤ i → g.ended ≡ false)
    → runnable true place gates ≡ going true (place + ended) (map (λ (g : Gate). g.prints) (drop ended gates))
unfolding runnable going
runnable_behind zero place gates done rest =
    let e : place + 0 ≡ place = omega arith in
    runnable_going true place gates (λ i g at. rest i g at (omega arith))
    ∙ ap (λ (n : ℕ). going true n (map (λ (g : Gate). g.prints) gates)) (sym e)
runnable_behind (suc ended) place [] done rest = refl
runnable_behind (suc ended) place (g ∷ gates) done rest =
    let over = done 0 g refl (omega arith) in
    let none : may_go true g ≡ false = ap (λ (b : Bool). not b && (true || not g.prints)) over in
    let more = runnable_behind ended (place + 1) gates (λ i h at less. done (suc i) h at (omega (arith, less))) (λ i h at most. rest (suc i) h at (omega (arith, most))) in
    let e : place + 1 + ended ≡ place + suc ended = omega arith in
    (λ i. (if none i then place ∷ [] else []) ++ runnable (over i) (place + 1) gates)
    ∙ more
    ∙ ap (λ (n : ℕ). going true n (map (λ (g : Gate). g.prints) (drop ended gates))) e

-- ---- the one that is picked
-- it is the first of them, or doesn't print
pub record IsGoing (first : Bool) (place i : ℕ) (prints : List Bool) : Type 0 where
  pub at : ℕ
  pub is : i ≡ place + at
  pub printing : Bool
  pub get : slice_get prints at ≡ Some printing
  pub quiet : printing ≡ true → (at ≡ 0) × (first ≡ true)

going_later : (first : Bool) (place i : ℕ) (b : Bool) (prints : List Bool) → IsGoing false (place + 1) i prints → IsGoing first place i (b ∷ prints)
going_later first place i b prints o = record {
  at = suc o.at;
  is = omega (arith, o.is);
  printing = o.printing;
  get = o.get;
  quiet = λ is. absurd (cc (o.quiet is).1);
}

pub going_at : (first : Bool) (place : ℕ) (prints : List Bool) (j i : ℕ) → slice_get (going first place prints) j ≡ Some i → IsGoing first place i prints
unfolding going
going_at first place [] j i h = cc
going_at true place (b ∷ prints) zero i h = record { at = 0; is = omega (arith, same_Some _ _ h); printing = b; get = refl; quiet = λ is. (refl, refl) }
going_at true place (b ∷ prints) (suc j) i h = going_later true place i b prints (going_at false (place + 1) prints j i h)
going_at false place (true ∷ prints) j i h = going_later false place i true prints (going_at false (place + 1) prints j i h)
going_at false place (false ∷ prints) zero i h = record { at = 0; is = omega (arith, same_Some _ _ h); printing = false; get = refl; quiet = λ is. cc is }
going_at false place (false ∷ prints) (suc j) i h = going_later false place i false prints (going_at false (place + 1) prints j i h)

pub going_some : (place : ℕ) (b : Bool) (prints : List Bool) → 1 ≤ length (going true place (b ∷ prints))
unfolding going
going_some place b prints = omega arith

pub picked_going : (word none place : ℕ) (prints : List Bool) → 1 ≤ length (going true place prints) → IsGoing true place (place_by word none (going true place prints)) prints
picked_going word none place prints some =
    let places = going true place prints in
    let small = mod-lt word {m = length places} some in
    going_at true place prints (word % length places) (place_by word none places) (slice_get-get_or places (word % length places) none small)
