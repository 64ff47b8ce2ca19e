-- How statements in flight stand after some turns, and what these turns asked.
use Rattle.std.specs.Prelude.{◌≡◌, ◌<◌, ◌≤◌, ◌+◌, ◌++◌, ◌*◌, ◌^◌, ℕ, true, false, List, [], ◌∷◌, Some, None, is_some, length, map, slice_get}
use Rattle.ob_base.specs.Events.{Event}
use Rattle.ob_base.specs.declared.access.Access.{Access}
use Rattle.ob_base.specs.declared.config.Public.{Public}
use Rattle.ob_inflight.specs.Closing.{Closed, RisesBy, events_at, outcome_at}
use Rattle.ob_inflight.specs.Kinds.{Kind, Moment, share_at}
use Rattle.ob_script.specs.FlightLaws.{one_if, total}
use Rattle.ob_inflight.specs.Progress.{KeepsCourse, SealsBlocks, flying_of, numbered}
use Rattle.ob_script.specs.Flights.{Flight, Flying, accesses_in, boarded, turns}
use Rattle.ob_script.specs.Trace.{Served}
use Rattle.ob_store.specs.Runs.{Later}
use Rattle.ob_store.specs.State.{FalseRead}
use Rattle.ob_vault.specs.Calls.{Lasts}
use Rattle.ob_vault.specs.Numbers.{spent}
use Rattle.ob_vault.specs.Tied.{Untampered, ReadsIn, Ready}

-- ---- a list of statements
-- each may still turn out to be served so
unfoldable pub AllMay : {F : Type 0} → (F → Served → Type 0) → List F → List Served → Type 0
AllMay May [] [] = Unit {0}
AllMay May [] (x ∷ xs) = ⊥
AllMay May (f ∷ fs) [] = ⊥
AllMay May (f ∷ fs) (x ∷ xs) = May f x × AllMay May fs xs

-- what flies, if these turn out to be served
unfoldable pub flying_in : {F : Type 0} → Kind F → List F → List Served → List Flying
flying_in k [] xs = []
flying_in k (f ∷ fs) [] = []
flying_in k (f ∷ fs) (x ∷ xs) = flying_of (k.progress f) x ∷ flying_in k fs xs

-- the flight then, where this is the next region and this was asked
abbrev pub flight_in : {F : Type 0} → Kind F → Public → (next : ℕ) → List F → List Served
    → List (ℕ × Access) → Flight
flight_in k p next fs xs log = record {
  public = numbered next p;
  flying = flying_in k fs xs;
  log = log;
}

-- and as it begins
abbrev pub setting_off : Public → (next : ℕ) → List Served → Flight
setting_off p next xs = record { public = numbered next p; flying = map boarded xs; log = [] }

-- of so many accesses the store has room, so many may be asked, so many acts were done, and the store failed so many
abbrev pub booked_by : {F : Type 0} → Kind F → List F → ℕ
booked_by k fs = total (λ f. (k.progress f).booked) fs

abbrev pub most_of : {F : Type 0} → Kind F → List F → ℕ
most_of k fs = total (λ f. (k.progress f).most) fs

abbrev pub acts_of : {F : Type 0} → Kind F → List F → ℕ
acts_of k fs = total (λ f. (k.progress f).asked + one_if (is_some (k.progress f).outcome)) fs

abbrev pub failed_of : {F : Type 0} → Kind F → List F → ℕ
failed_of k fs = total (λ f. one_if (k.progress f).failed) fs

-- ---- how they stand
-- the first ones have ended so, and then these events were emitted for the next one
pub record AreFlying {F : Type 0} (k : Kind F) (p : Public) (share : ℕ) (ended : List Closed)
    (current : List Event)
    (now : Moment F) : Type 0 where
  pub ready : Ready now.world
  pub holds : (i : ℕ) (f : F) → slice_get now.flyers i ≡ Some f
      → k.Holds f (share_at share i now.kept) (events_at ended current i) now.world
  pub outcome : (i : ℕ) (f : F) → slice_get now.flyers i ≡ Some f
      → (k.progress f).outcome ≡ outcome_at ended i
  pub public : (i : ℕ) (f : F) → slice_get now.flyers i ≡ Some f → (k.progress f).public ≡ p
  -- no one needs what another has made
  pub apart : (i j : ℕ) (f g : F) → slice_get now.flyers i ≡ Some f
      → slice_get now.flyers j ≡ Some g → (i ≡ j → ⊥)
      → (q : ℕ) → (k.progress f).region ≡ Some q → k.Needs g q → ⊥
  pub below : (i : ℕ) (f : F) → slice_get now.flyers i ≡ Some f → (q : ℕ)
      → (k.progress f).region ≡ Some q
      → q < now.world.vault.next
  pub spare : booked_by k now.flyers ≤ now.world.store.spare
  pub few : (i : ℕ) (f : F) → slice_get now.flyers i ≡ Some f → (k.progress f).booked ≤ 2 ^ 59
  -- where one of them is yet to ask
  pub most : (i : ℕ) (f : F) → slice_get now.flyers i ≡ Some f → (k.progress f).over ≡ false
      → spent now.world + most_of k now.flyers < 2 ^ 63 + 2 ^ 60
  pub several : length now.flyers ≤ 8
  pub shares : length now.kept ≡ length now.flyers * share
  pub narrow : share < 2 ^ 32

-- the rows fit those that have not ended
pub record AllFit {F : Type 0} (k : Kind F) (share : ℕ) (rows : List (List ℕ)) (now : Moment F)
    : Type 0 where
  pub each : (i : ℕ) (f : F) → slice_get now.flyers i ≡ Some f → (k.progress f).outcome ≡ None
      → k.Fits f rows (share_at share i now.kept)

-- nothing was asked of any of them, nor emitted
pub record AreBoarded {F : Type 0} (k : Kind F) (share : ℕ) (rows : List (List ℕ)) (now : Moment F)
    : Type 0 where
  pub public : Public
  pub stand : AreFlying k public share [] [] now
  pub fit : AllFit k share rows now
  pub unasked : (i : ℕ) (f : F) → slice_get now.flyers i ≡ Some f → (k.progress f).asked ≡ 0
  pub unmade : (i : ℕ) (f : F) → slice_get now.flyers i ≡ Some f → (k.progress f).region ≡ None
  pub unfailed : (i : ℕ) (f : F) → slice_get now.flyers i ≡ Some f → (k.progress f).failed ≡ false

-- ---- n turns
-- whatever the statements turn out to be served, what was asked is what the turns of that ask
pub record Turned {F : Type 0} (k : Kind F) (words : ℕ → ℕ) (n : ℕ) (p : Public)
    (start now : Moment F) : Type 0 where
  pub log : List (ℕ × Access)
  pub asked : now.world.store.asked ≡ start.world.store.asked ++ accesses_in log
  pub may : (xs : List Served) → AllMay k.May now.flyers xs → AllMay k.May start.flyers xs
  pub turns : (xs : List Served) → AllMay k.May now.flyers xs
      → turns words n (setting_off p start.world.vault.next xs)
      ≡ flight_in k p now.world.vault.next now.flyers xs log
  pub acts : acts_of k now.flyers ≡ n

-- one of them made the region
pub record IsMade {F : Type 0} (k : Kind F) (q : ℕ) (now : Moment F) : Type 0 where
  pub place : ℕ
  pub flyer : F
  pub at : slice_get now.flyers place ≡ Some flyer
  pub made : (k.progress flyer).region ≡ Some q

-- what has changed is in regions that they made, and each fault of the store is one of theirs
pub record LeavesRest {F : Type 0} (k : Kind F) (p : Public) (start now : Moment F) : Type 0 where
  pub lasts : Lasts (λ q. start.world.vault.next ≤ q) start.world now.world
  pub own : (i : ℕ) (f : F) → slice_get now.flyers i ≡ Some f → (q : ℕ)
      → (k.progress f).region ≡ Some q
      → start.world.vault.next ≤ q
  pub made : (q : ℕ) → start.world.vault.next ≤ q → q < now.world.vault.next → IsMade k q now
  pub faults : RisesBy (failed_of k now.flyers) start.world.store.faults now.world.store.faults
  pub calm : Untampered start.world → Untampered now.world
  pub seals : SealsBlocks p.pack start.world now.world

-- they serve what they served
pub record KeepCourse {F : Type 0} (k : Kind F) (start now : Moment F) : Type 0 where
  pub size : length now.flyers ≡ length start.flyers
  pub each : (i : ℕ) (f g : F) → slice_get start.flyers i ≡ Some f → slice_get now.flyers i ≡ Some g
      → KeepsCourse (k.progress f) (k.progress g)

pub record IsInFlight {F : Type 0} (k : Kind F) (words : ℕ → ℕ) (n : ℕ) (p : Public) (share : ℕ)
    (ended : List Closed)
    (current : List Event) (start now : Moment F) : Type 0 where
  pub stand : AreFlying k p share ended current now
  pub turned : Turned k words n p start now
  pub rest : LeavesRest k p start now
  pub course : KeepCourse k start now

-- what was so at a moment is so later: those that had ended are the first of those that have, and as they were; those that
-- the store had failed are seen as they were; and whatever may still turn out to be served might then
pub record KeepsOn {F : Type 0} (k : Kind F) (ended_last ended : List Closed) (last now : Moment F)
    : Type 0 where
  pub size : length now.flyers ≡ length last.flyers
  pub more : List Closed
  pub first : ended ≡ ended_last ++ more
  pub same : (i : ℕ) (f g : F) → slice_get last.flyers i ≡ Some f → slice_get now.flyers i ≡ Some g
      → is_some (k.progress f).outcome ≡ true → k.progress g ≡ k.progress f
  pub failed : (i : ℕ) (f g : F) → slice_get last.flyers i ≡ Some f
      → slice_get now.flyers i ≡ Some g
      → (k.progress f).failed ≡ true → ((k.progress g).served ≡ (k.progress f).served)
      × ((k.progress g).failed ≡ true)
  pub may : (xs : List Served) → AllMay k.May now.flyers xs → AllMay k.May last.flyers xs

-- after so many turns they stood as they should, and what was so then is so still
pub record HasStood {F : Type 0} (k : Kind F) (words : ℕ → ℕ) (p : Public) (share turn : ℕ)
    (ended_now : List Closed) (start now : Moment F) : Type 0 where
  pub last : Moment F
  pub ended : List Closed
  pub current : List Event
  pub aloft : IsInFlight k words turn p share ended current start last
  pub keeps : KeepsOn k ended ended_now last now
  pub later : Later last.world.store now.world.store

-- and so after each of the turns by now
abbrev pub HaveStood : {F : Type 0} → Kind F → (words : ℕ → ℕ) → Public → (share turn : ℕ)
    → (ended_now : List Closed) → (start now : Moment F) → Type 0
HaveStood k words p share turn ended_now start now =
    (n : ℕ) → n ≤ turn → HasStood k words p share n ended_now start now

-- one turn more was taken there, or begun: its act is one, whatever may still turn out to be served then
pub record HasGoneOn {F : Type 0} (k : Kind F) (words : ℕ → ℕ) (p : Public) (share turn : ℕ)
    (ended_now : List Closed) (start now : Moment F) : Type 0 where
  pub stood : HasStood k words p share turn ended_now start now
  pub log : List (ℕ × Access)
  pub next : (xs : List Served) → AllMay k.May stood.last.flyers xs
      → (turns words (turn + 1) (setting_off p start.world.vault.next xs)).log ≡ log

abbrev pub HaveGoneOn : {F : Type 0} → Kind F → (words : ℕ → ℕ) → Public → (share turn : ℕ)
    → (ended_now : List Closed) → (start now : Moment F) → Type 0
HaveGoneOn k words p share turn ended_now start now =
    (n : ℕ) → n < turn → HasGoneOn k words p share n ended_now start now

-- ---- the first block that was read and is not what was written
-- it was read in the turn after these: whatever they turn out to be served, its read is among the accesses by then
pub record BeginsIn {F : Type 0} (k : Kind F) (words : ℕ → ℕ) (p : Public) (share : ℕ) (lie : FalseRead)
    (ended_now : List Closed) (start now : Moment F) : Type 0 where
  pub turn : ℕ
  pub stood : HasStood k words p share turn ended_now start now
  pub none : stood.last.world.store.lie ≡ None
  pub past : HaveStood k words p share turn stood.ended start stood.last
  pub reads : (xs : List Served) → AllMay k.May stood.last.flyers xs
      → ReadsIn lie (start.world.store.asked
      ++ accesses_in (turns words (turn + 1) (setting_off p start.world.vault.next xs)).log)

abbrev pub IsBegun : {F : Type 0} → Kind F → (words : ℕ → ℕ) → Public → (share : ℕ)
    → (ended_now : List Closed) → (start now : Moment F) → Type 0
IsBegun k words p share ended_now start now =
    start.world.store.lie ≡ None → (lie : FalseRead) → now.world.store.lie ≡ Some lie
    → BeginsIn k words p share lie ended_now start now
