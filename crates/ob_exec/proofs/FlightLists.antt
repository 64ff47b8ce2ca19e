-- The statements of a flight, those that fly for them, and what is seen of each.
use Rattle.ob_exec.proofs.Words.{AllMay, ap, AreSteady, arith, boarding, cases_lt, Closed, Event, events_at, flight_public, Flying, flying_of, inl, inr, is_cut, Kind, length, List, map, None, Option, Public, refl, Seen, Served, setting_off, skeleton, slice_get, Some, Stmt, suc, sym, take, turns, zero, ℕ, [], ◌++◌, ◌+◌, ◌-◌, ◌<◌, ◌∙◌, ◌∷◌, ◌≡◌, ◌≤◌, ◌⊎◌}
use Rattle.std.specs.Prelude.{option_map, slice_set}
use Rattle.std.proofs.lemmas.List.{take_all, take_at}
use Rattle.std.proofs.lemmas.Option.{same_Some, slice_get-map}
use Rattle.ob_inflight.specs.AfterTurns.{acts_of, failed_of, flying_in}
use Rattle.ob_inflight.specs.Closing.{outcome_at}
use Rattle.ob_script.specs.FlightLaws as L
use Rattle.ob_script.specs.Flights.{Flight, boarded, flight, turns_of}
use Rattle.ob_script.proofs.FlightEnds.{settled}
use Rattle.ob_script.proofs.FlightLemmas.{grows_turns}
use Rattle.ob_exec.specs.InFlight.{served_as}
use Rattle.ob_exec.specs.RanFlight.{cut_off}
use Rattle.ob_exec.proofs.FlightStage.{closed_of}

-- ---- lists, place by place
-- as long a list has something at each place, too
pub get_other : {A B : Type 0} (xs : List A) (ys : List B) (i : ℕ) (x : A) → length ys ≡ length xs → slice_get xs i ≡ Some x → (y : B) × (slice_get ys i ≡ Some y)
get_other [] ys i x same at = absurd (cc at)
get_other (x ∷ xs) [] i z same at = absurd (cc same)
get_other (x ∷ xs) (y ∷ ys) zero z same at = (y, refl)
get_other (x ∷ xs) (y ∷ ys) (suc i) z same at = get_other xs ys i z (cc same) at

-- and one that isn't empty has something at its first
pub get_first : {A : Type 0} (xs : List A) → 1 ≤ length xs → (x : A) × (slice_get xs 0 ≡ Some x)
get_first [] some = absurd (omega (arith, some))
get_first (x ∷ xs) some = (x, refl)

-- what is within has something there
pub get_within : {A : Type 0} (xs : List A) (i : ℕ) → i < length xs → (x : A) × (slice_get xs i ≡ Some x)
get_within [] i within = absurd (omega (arith, within))
get_within (x ∷ xs) zero within = (x, refl)
get_within (x ∷ xs) (suc i) within = get_within xs i (omega (arith, within))

from_map : {A B : Type 0} (v : A → B) (o : Option A) (y : B) → option_map v o ≡ Some y → (x : A) × (o ≡ Some x) × (v x ≡ y)
from_map v None y is = absurd (cc is)
from_map v (Some x) y is = (x, refl, same_Some (v x) y is)

-- what stands at a place of a map is of what stands there
pub get_mapped : {A B : Type 0} (v : A → B) (xs : List A) (i : ℕ) (y : B) → slice_get (map v xs) i ≡ Some y → (x : A) × (slice_get xs i ≡ Some x) × (v x ≡ y)
get_mapped v xs i y at = from_map v (slice_get xs i) y (sym (slice_get-map v xs i) ∙ at)

pub map_get : {A B : Type 0} (v : A → B) (xs : List A) (i : ℕ) (x : A) → slice_get xs i ≡ Some x → slice_get (map v xs) i ≡ Some (v x)
map_get v xs i x at = slice_get-map v xs i ∙ ap (option_map v) at

-- one more is after those that there were
pub get_more : {A : Type 0} (xs : List A) (y : A) (i : ℕ) (z : A) → slice_get (xs ++ y ∷ []) i ≡ Some z → (slice_get xs i ≡ Some z) ⊎ ((i ≡ length xs) × (y ≡ z))
get_more [] y zero z at = inr (refl, same_Some y z at)
get_more [] y (suc i) z at = absurd (cc at)
get_more (x ∷ xs) y zero z at = inl at
get_more (x ∷ xs) y (suc i) z at = elim (get_more xs y i z at) [
  | inl old ↦ inl old
  | inr new ↦ inr (ap suc new.0, new.1)
]

-- a list in which one is put that maps alike maps alike
pub map_put : {A B : Type 0} (v : A → B) (xs : List A) (i : ℕ) (x y : A) → slice_get xs i ≡ Some x → v y ≡ v x → map v (slice_set xs i y) ≡ map v xs
map_put v [] i x y at same = refl
map_put v (z ∷ xs) zero x y at same = let e = same_Some z x at in ap (λ (w : _). w ∷ map v xs) (same ∙ ap v (sym e))
map_put v (z ∷ xs) (suc i) x y at same = ap (λ (l : List _). v z ∷ l) (map_put v xs i x y at same)

-- ---- what is seen of each statement, and what is served then
pub served_long : (stmts : List Stmt) (seens : List Seen) → length seens ≡ length stmts → length (served_as stmts seens) ≡ length stmts
served_long [] seens same = refl
served_long (stmt ∷ stmts) [] same = absurd (cc same)
served_long (stmt ∷ stmts) (seen ∷ seens) same = ap suc (served_long stmts seens (cc same))

-- ---- a flight as it begins
pub sets_off : (p q : Public) (n next : ℕ) (xs : List Served) → q ≡ flight_public n p → length xs ≡ n → next ≡ p.next_region → setting_off q next xs ≡ boarding p xs
sets_off p q n next xs same long is =
    let alike : q ≡ flight_public (length xs) p = same ∙ ap (λ (m : ℕ). flight_public m p) (sym long) in
    λ j. record {
      public = record (alike j) { next_region = is j };
      flying = map boarded xs;
      log = [];
    }

-- ---- those that fly
module _ {F : Type 0} (k : Kind F) where
  pub all_may : (v : F → Served) (fs : List F) → ((i : ℕ) (f : F) → slice_get fs i ≡ Some f → k.May f (v f)) → AllMay k.May fs (map v fs)
  unfolding AllMay
  all_may v [] each = tt
  all_may v (f ∷ fs) each = (each 0 f refl, all_may v fs (λ i g at. each (suc i) g at))

  pub flying_get : (v : F → Served) (fs : List F) (i : ℕ) (f : F) → slice_get fs i ≡ Some f → slice_get (flying_in k fs (map v fs)) i ≡ Some (flying_of (k.progress f) (v f))
  unfolding flying_in
  flying_get v [] i f at = absurd (cc at)
  flying_get v (g ∷ fs) zero f at = ap (λ (h : F). Some (flying_of (k.progress h) (v h))) (same_Some g f at)
  flying_get v (g ∷ fs) (suc i) f at = flying_get v fs i f at

  pub flying_back : (v : F → Served) (fs : List F) (i : ℕ) (x : Flying) → slice_get (flying_in k fs (map v fs)) i ≡ Some x
      → (f : F) × (slice_get fs i ≡ Some f) × (flying_of (k.progress f) (v f) ≡ x)
  unfolding flying_in
  flying_back v [] i x at = absurd (cc at)
  flying_back v (g ∷ fs) zero x at = (g, refl, same_Some (flying_of (k.progress g) (v g)) x at)
  flying_back v (g ∷ fs) (suc i) x at = flying_back v fs i x at

  -- as many acts
  pub acts_same : (v : F → Served) (fs : List F) → L.acts_in (flying_in k fs (map v fs)) ≡ acts_of k fs
  unfolding flying_in L.total
  acts_same v [] = refl
  acts_same v (f ∷ fs) = let rest = acts_same v fs in omega (arith, rest)

  -- as many of them were cut off as the store failed
  pub cuts_same : (fs : List F) → ((i : ℕ) (f : F) → slice_get fs i ≡ Some f → is_cut (k.progress f).served.seen.end ≡ (k.progress f).failed)
      → failed_of k fs ≡ cut_off (map (λ (f : F). (k.progress f).served.seen) fs)
  unfolding L.total
  cuts_same [] each = refl
  cuts_same (f ∷ fs) each =
      let rest = cuts_same fs (λ i g at. each (suc i) g at) in
      let one = ap L.one_if (sym (each 0 f refl)) in
      omega (arith, rest, one)

  -- what is served, by what is seen
  pub served_same : (fs : List F) (stmts : List Stmt) → length fs ≡ length stmts
      → ((i : ℕ) (f : F) (stmt : Stmt) → slice_get fs i ≡ Some f → slice_get stmts i ≡ Some stmt → (k.progress f).served.skeleton ≡ skeleton stmt)
      → map (λ (f : F). (k.progress f).served) fs ≡ served_as stmts (map (λ (f : F). (k.progress f).served.seen) fs)
  served_same [] [] same each = refl
  served_same [] (stmt ∷ stmts) same each = absurd (cc same)
  served_same (f ∷ fs) [] same each = absurd (cc same)
  served_same (f ∷ fs) (stmt ∷ stmts) same each =
      let one = each 0 f stmt refl refl in
      let rest = served_same fs stmts (cc same) (λ i g s at there. each (suc i) g s at there) in
      λ j. record { skeleton = one j; seen = (k.progress f).served.seen } ∷ rest j

  -- the same if something else is seen of them
  pub seen_same : (v : F → Seen) (fs : List F) (stmts : List Stmt) → length fs ≡ length stmts
      → ((i : ℕ) (f : F) (stmt : Stmt) → slice_get fs i ≡ Some f → slice_get stmts i ≡ Some stmt → (k.progress f).stmt ≡ stmt)
      → map (λ (f : F). record { skeleton = skeleton (k.progress f).stmt; seen = v f }) fs ≡ served_as stmts (map v fs)
  seen_same v [] [] same each = refl
  seen_same v [] (stmt ∷ stmts) same each = absurd (cc same)
  seen_same v (f ∷ fs) [] same each = absurd (cc same)
  seen_same v (f ∷ fs) (stmt ∷ stmts) same each =
      let one = each 0 f stmt refl refl in
      let rest = seen_same v fs stmts (cc same) (λ i g s at there. each (suc i) g s at there) in
      λ j. record { skeleton = skeleton (one j); seen = v f } ∷ rest j

-- ---- the answers of those that have ended
pub closed_at : (ended : List Closed) (current : List Event) (i : ℕ) → closed_of (outcome_at ended i) (events_at ended current i) ≡ slice_get ended i
closed_at [] current i = refl
closed_at (one ∷ ended) current zero = refl
closed_at (one ∷ ended) current (suc i) = closed_at ended current i

pub events_next : (ended : List Closed) (current : List Event) → events_at ended current (length ended) ≡ current
events_next [] current = refl
events_next (one ∷ ended) current = events_next ended current

pub outcome_next : (ended : List Closed) → outcome_at ended (length ended) ≡ None
outcome_next [] = refl
outcome_next (one ∷ ended) = outcome_next ended

-- one that has not ended stands after those that have
pub past_ended : (ended : List Closed) (i : ℕ) → outcome_at ended i ≡ None → length ended ≤ i
past_ended [] i none = omega arith
past_ended (one ∷ ended) zero none = absurd (cc none)
past_ended (one ∷ ended) (suc i) none = let e = past_ended ended i none in omega (arith, e)

-- nothing stands after a list's end
pub past_none : {A : Type 0} (xs : List A) (i : ℕ) → slice_get xs i ≡ None → length xs ≤ i
past_none [] i none = omega arith
past_none (x ∷ xs) zero none = absurd (cc none)
past_none (x ∷ xs) (suc i) none = let e = past_none xs i none in omega (arith, e)

-- and what stands after them has not ended
pub none_past : (ended : List Closed) (i : ℕ) → length ended ≤ i → slice_get ended i ≡ None
none_past [] i past = refl
none_past (one ∷ ended) zero past = absurd (omega (arith, past))
none_past (one ∷ ended) (suc i) past = none_past ended i (omega (arith, past))

-- ---- logs
-- the log of some turns is the first part of the whole
module _ (p : Public) (flown : List Served) (words : ℕ → ℕ) (steady : AreSteady p flown) where
  pub log_first : (n : ℕ) → (turns words n (boarding p flown)).log ≡ take (length (turns words n (boarding p flown)).log) (flight p flown words).log
  log_first n = elim (cases_lt n (turns_of p flown)) [
    | inl before ↦
        let more = turns_of p flown - n in
        let sum : more + n ≡ turns_of p flown = omega (arith, before) in
        let grown = grows_turns words (boarding p flown) n more in
        let whole : (flight p flown words).log ≡ (turns words n (boarding p flown)).log ++ grown.rest =
        ap (λ (m : ℕ). (turns words m (boarding p flown)).log) (sym sum) ∙ grown.log in
        sym (ap (take (length (turns words n (boarding p flown)).log)) whole
        ∙ take_at (turns words n (boarding p flown)).log grown.rest (length (turns words n (boarding p flown)).log) refl)
    | inr past ↦
        let same : (flight p flown words).log ≡ (turns words n (boarding p flown)).log = ap (λ (s : Flight). s.log) (sym (settled p flown words steady n past)) in
        sym (ap (take (length (turns words n (boarding p flown)).log)) same
        ∙ take_all (length (turns words n (boarding p flown)).log) (turns words n (boarding p flown)).log (omega arith))
  ]
