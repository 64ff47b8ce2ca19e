-- What the laws of flights speak of: which statements may fly, what one turn does, how a flight ends, and which flights go
-- alike. `all_over`, `total` and `accesses_for` stay shut in proofs.
use Rattle.std.specs.Prelude.{◌≡◌, ◌<◌, ◌≤◌, ◌+◌, ℕ, Bool, true, false, ◌&&◌, List, [], ◌∷◌, length, map, take, Option, Some, None, slice_get, ⊤}
use Rattle.ob_base.specs.declared.access.Access.{Access}
use Rattle.ob_base.specs.declared.config.Public.{Public}
use Rattle.ob_base.specs.declared.skeleton.Source.TheVariants.{Table as OneTable, Join}
use Rattle.ob_base.specs.declared.skeleton.Skeleton.{Skeleton}
use Rattle.ob_base.specs.declared.skeleton.Skeleton.TheVariants.{Create, Insert, Update, Delete, Drop as DropTable, Rows, Groups}
use Rattle.ob_script.specs.Script.{script}
use Rattle.ob_script.specs.Trace.{Served}
use Rattle.ob_script.specs.Flights.{Flight, Flying, Gate, accesses_in, asked_at, boarding, flight, flight_public, gates_of, gone_on, merge, next_act, own, place_by, prints, runnable, turn, turns, turns_of}

-- ---- which statements may fly
-- a SELECT without a join
abbrev pub SelectsFromOne : Skeleton → Type 0
SelectsFromOne (Create table cs n shape) = ⊥
SelectsFromOne (Insert table cs) = ⊥
SelectsFromOne (Update table cs) = ⊥
SelectsFromOne (Delete table) = ⊥
SelectsFromOne (DropTable table) = ⊥
SelectsFromOne (Rows (OneTable name) cs) = ⊤
SelectsFromOne (Rows (Join a b on equals) cs) = ⊥
SelectsFromOne (Groups table cs key) = ⊤

-- no other plan was taken after the first
pub record MayFly (x : Served) : Type 0 where
  pub skeleton : SelectsFromOne x.skeleton
  pub one_plan : x.seen.then ≡ None

pub record AllMayFly (flown : List Served) : Type 0 where
  pub each : (i : ℕ) (x : Served) → slice_get flown i ≡ Some x → MayFly x

-- ---- one turn
-- each has ended
pub record AllEnded (s : Flight) : Type 0 where
  pub each : (i : ℕ) (f : Flying) → slice_get s.flying i ≡ Some f → f.ended ≡ true

-- the place that the word tells
abbrev pub next_place : (word : ℕ) → Flight → ℕ
next_place word s = place_by word (length s.flying) (runnable true 0 (gates_of s))

-- the word picks this statement, which has not ended; if its next act prints, all before it have
pub record Picks (word : ℕ) (s : Flight) (i : ℕ) (f : Flying) : Type 0 where
  pub place : next_place word s ≡ i
  pub at : slice_get s.flying i ≡ Some f
  pub goes_on : f.ended ≡ false
  pub turn : turn word s ≡ gone_on i (next_act s.public f) f s
  pub first : prints f.region (next_act s.public f) ≡ true
      → (j : ℕ) (g : Flying) → j < i → slice_get s.flying j ≡ Some g → g.ended ≡ true

-- it picks one
pub record PicksOne (word : ℕ) (s : Flight) : Type 0 where
  pub place : ℕ
  pub flying : Flying
  pub picks : Picks word s place flying

-- whether all of these have ended
unfoldable pub all_over : List Gate → Bool
all_over [] = true
all_over (g ∷ gates) = g.ended && all_over gates

-- ---- a whole flight
-- the sum of a number of each
unfoldable pub total : {F : Type 0} → (F → ℕ) → List F → ℕ
total n [] = 0
total n (f ∷ fs) = n f + total n fs

abbrev pub one_if : Bool → ℕ
one_if false = 0
one_if true = 1

-- how many have ended, and how many acts they did: an access each, or the end
abbrev pub number_ended : List Flying → ℕ
number_ended fs = total (λ (f : Flying). one_if f.ended) fs

abbrev pub acts_in : List Flying → ℕ
acts_in fs = total (λ (f : Flying). f.asked + one_if f.ended) fs

-- how many accesses these statements ask together
unfoldable pub accesses_for : Public → List Served → ℕ
accesses_for p [] = 0
accesses_for p (x ∷ xs) = length (script p x.skeleton x.seen) + accesses_for p xs

-- each of n turns asked an access, or a statement ended in it
abbrev pub TurnsAddUp : (n : ℕ) → Flight → Type 0
TurnsAddUp n s = length s.log + number_ended s.flying ≡ n

-- what was asked so far are the first of these accesses
abbrev pub IsFirstOf : List Access → Flight → Type 0
IsFirstOf all s = accesses_in s.log ≡ take (length s.log) all

-- what a statement asked in its flight is all that it asks where its region has this number: that which it made, if it made one
pub record AsksWhole (p : Public) (flown : List Served) (words : ℕ → ℕ) (i : ℕ) (x : Served) : Type 0 where
  pub region : ℕ
  pub made : (f : Flying) (g : ℕ) → slice_get (flight p flown words).flying i ≡ Some f → f.region ≡ Some g → region ≡ g
  pub asked : own i (flight p flown words).log ≡ asked_at (flight_public (length flown) p) region x

-- a flight comes to its end
pub record EndsWhole (p : Public) (flown : List Served) (words : ℕ → ℕ) : Type 0 where
  -- after a turn for each access and one for each end all have ended, and not before
  pub ended : (n : ℕ) → turns_of p flown ≤ n → AllEnded (turns words n (boarding p flown))
  pub needed : (n : ℕ) → AllEnded (turns words n (boarding p flown)) → turns_of p flown ≤ n
  -- more turns change nothing
  pub settled : (n : ℕ) → turns_of p flown ≤ n → turns words n (boarding p flown) ≡ flight p flown words
  -- and up to there none is in vain
  pub adds_up : (n : ℕ) → n ≤ turns_of p flown → TurnsAddUp n (turns words n (boarding p flown))
  pub acts : (n : ℕ) → n ≤ turns_of p flown → acts_in (turns words n (boarding p flown)).flying ≡ n
  pub ends : number_ended (flight p flown words).flying ≡ length flown
  -- all that each asks is asked, and no more
  pub long : length (merge p flown words) ≡ accesses_for (flight_public (length flown) p) flown
  pub whole : (i : ℕ) (x : Served) → slice_get flown i ≡ Some x → AsksWhole p flown words i x
  -- at any stop the first of it was
  pub first : (n : ℕ) → IsFirstOf (merge p flown words) (turns words n (boarding p flown))

-- ---- flights that go alike
-- how far a statement is, whatever is seen of it
pub record Way : Type 0 where
  pub asked : ℕ
  pub region : Option ℕ
  pub ended : Bool

abbrev pub way_of : Flying → Way
way_of f = record { asked = f.asked; region = f.region; ended = f.ended }

-- flights of which the same was asked by the same statements
pub record FlyAlike (s r : Flight) : Type 0 where
  pub public : s.public ≡ r.public
  pub ways : map way_of s.flying ≡ map way_of r.flying
  pub log : s.log ≡ r.log

-- its next act where this is the next region
abbrev pub next_at : Public → ℕ → Flying → Option Access
next_at p g f = next_act (record p { next_region = g }) f

-- the same one, if something else is seen of it in the end
abbrev pub seen_as : Served → Flying → Flying
seen_as y f = record f { served = y }

-- so far it would have asked the same and printed alike
pub record AsksAlike (p : Public) (f : Flying) (y : Served) : Type 0 where
  pub asked : (g : ℕ) → take f.asked (asked_at p g f.served) ≡ take f.asked (asked_at p g y)
  pub prints : (g : ℕ) → prints f.region (next_at p g f) ≡ prints f.region (next_at p g (seen_as y f))
  pub ended : f.ended ≡ true → (g : ℕ) → next_at p g (seen_as y f) ≡ None

-- so would each
pub record AllAskAlike (p : Public) (s : Flight) (ys : List Served) : Type 0 where
  pub each : (i : ℕ) (f : Flying) (y : Served) → slice_get s.flying i ≡ Some f → slice_get ys i ≡ Some y → AsksAlike p f y

-- the statement that goes next has the same next act
pub record NextAlike (word : ℕ) (s : Flight) (ys : List Served) : Type 0 where
  pub act : (i : ℕ) (f : Flying) (y : Served) → Picks word s i f → slice_get ys i ≡ Some y
      → next_act s.public f ≡ next_act s.public (seen_as y f)
