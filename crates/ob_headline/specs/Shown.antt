-- What a watcher is shown of a run beside its accesses: blocks, each sealed for a place of a region that the run made,
-- under a number that no other write has. How long a block is isn't said here: each write is of a block of its region's
-- length.
use Rattle.std.specs.Prelude.{ℕ, ◌≡◌, ◌≢◌, ◌⊎◌, ◌≤◌, ◌<◌, ◌+◌, ◌++◌, ⊤, Bool, true, false, IsTrue, List, [], ◌∷◌, length, slice_get, take, Option, Some, None}
use Rattle.std.proofs.Common.{inl, inr}
use Rattle.ob_base.specs.Accesses.{writes}
use Rattle.ob_base.specs.Counts.{Rises}
use Rattle.ob_base.specs.declared.access.Access.{Access}
use Rattle.ob_base.specs.declared.access.Access.TheVariants.{Write}
use Rattle.ob_base.specs.declared.config.Config.{Config}
use Rattle.ob_base.specs.declared.config.Public.{Public}
use Rattle.ob_base.specs.declared.schema.Shape.TheVariants.{Indexed}
use Rattle.ob_base.specs.declared.schema.Table.{Table}
use Rattle.ob_headline.specs.Bases.{Base}
use Rattle.ob_headline.specs.Flights.{public_after, trace_of}
use Rattle.ob_headline.specs.KeptHeadline.{PassesBoth, RunKept}
use Rattle.ob_headline.specs.Reruns.{GoOnFromOne, SomeRun, asked_by, keys_by}
use Rattle.ob_headline.specs.Words.{Answer, Begins, Outside}
use Rattle.ob_headline.specs.Sealing.{PassesHere}
use Rattle.ob_headline.specs.declared.ending.KeptEnding.{KeptEnding}
use Rattle.ob_headline.specs.declared.ending.Report.{Report}
use Rattle.ob_headline.specs.declared.flight.FlightSettings.{FlightSettings}
use Rattle.ob_mean.specs.Replay.{is_access}
use Rattle.ob_reopen.specs.Keepers.{KeeperState}
use Rattle.ob_script.specs.Script.{script}
use Rattle.ob_script.specs.Trace.{Served, next}
use Rattle.ob_seal.specs.KeySet.{KeySet}
use Rattle.ob_seal.specs.Sealed.{keys_of, sealed}
use Rattle.ob_store.specs.State.{StoreState}
use Rattle.ob_vault.specs.State.{Start}
use Rattle.ob_vault.specs.Tied.{at_of}

-- the access at this position, from 0, is a write to this place
pub record Wrote (asked : List Access) (i region place : ℕ) : Type 0 where
  pub is : slice_get asked i ≡ Some (Write region place)

-- ---- where writes go
-- each write goes to a region from the first number on and below the second
pub record WritesWithin (from below : ℕ) (asked : List Access) : Type 0 where
  pub each : (i region place : ℕ) → Wrote asked i region place → (from ≤ region) × (region < below)

-- a region of an index: that of its tree, or of its stash, which is the next one
abbrev pub IsOfIndex : Table → ℕ → Type 0
IsOfIndex t region =
    (t.heading.shape ≡ Indexed) × ((region ≡ t.region) ⊎ (region ≡ t.region + 1))

-- one of these tables is an index that has this region
abbrev pub OfIndex : List Table → ℕ → Type 0
OfIndex [] region = ⊥
OfIndex (t ∷ tables) region = IsOfIndex t region ⊎ OfIndex tables region

-- each write goes to a region of an index
pub record WritesIndexes (tables : List Table) (asked : List Access) : Type 0 where
  pub each : (i region place : ℕ) → Wrote asked i region place → OfIndex tables region

-- a statement that accesses no index writes to those regions alone that it makes, and an access to those of an index alone
pub record WritesOwn (p : Public) (x : Served) : Type 0 where
  pub own : is_access p x.skeleton ≡ false → WritesWithin p.next_region
      (next p x.skeleton x.seen).next_region (script p x.skeleton x.seen)
  pub index : is_access p x.skeleton ≡ true → WritesIndexes p.tables (script p x.skeleton x.seen)

-- each statement does so
unfoldable pub WriteOwn : Public → List Served → Type 0
WriteOwn p [] = ⊤
WriteOwn p (x ∷ seen) = WritesOwn p x × WriteOwn (next p x.skeleton x.seen) seen

-- ---- the numbers of writes
-- that of the write at this position: they count on from an earlier run's
abbrev pub number_at : Start → List Access → ℕ → ℕ
number_at start asked i = start.writes + (writes (take i asked) + 1)

-- no other write has the number of this one: those of earlier runs and those before it have smaller ones, and those behind
-- it have greater ones
pub record IsAlone (start : Start) (asked : List Access) (i : ℕ) : Type 0 where
  pub above : start.writes < number_at start asked i
  pub before : (j region place : ℕ) → Wrote asked j region place → j < i
      → number_at start asked j < number_at start asked i
  pub behind : (j region place : ℕ) → Wrote asked j region place → i < j
      → number_at start asked i < number_at start asked j

-- ---- blocks
-- after these accesses a block is sealed for its place, under the number of a write to it: of the last one, unless a call
-- of the run has failed
pub record IsShown (good : List ℕ → Bool) (keys : KeySet) (start : Start) (Failed : Type 0)
    (asked : List Access) (region place : ℕ) (block : List ℕ) : Type 0 where
  pub position : ℕ
  pub wrote : Wrote asked position region place
  pub alone : IsAlone start asked position
  pub latest : ¬ Failed → (i : ℕ) → Wrote asked i region place → i ≤ position
  pub clear : List ℕ
  pub sealed : block ≡ sealed keys (at_of region place (number_at start asked position)) clear
  pub passes : IsTrue (good clear)

-- each block of a live region from this one on is, by every test that these blocks pass
pub record Shows (Passes : (List ℕ → Bool) → Type 0) (keys : KeySet) (start : Start)
    (old new : StoreState) : Type 0 where
  pub each : (region place : ℕ) (block : List ℕ) → start.region < region → new.live region ≢ None
      → new.last region place ≡ Some block → (good : List ℕ → Bool) → Passes good
      → IsShown good keys start (Rises old.faults new.faults) new.asked region place block

-- ---- whole runs
-- the first region that a run makes is the one after those of earlier runs, which wrote to none from there on
pub record IsBegun (base : Base) : Type 0 where
  pub next : base.public.next_region ≡ base.start.region + 1
  pub fresh : (region place : ℕ) → base.start.region < region
      → base.start.given region place ≡ 0

-- once a run ended, over a store that tells what it holds, each block of a live region that the run made is shown
abbrev pub ShowsSealed : SomeRun → Type 0
ShowsSealed one = IsTrue one.old.store.tells → Shows (PassesHere one.base) (keys_by one)
    one.base.start one.old.store one.new.store

-- ---- within a run
-- a region was live in the first state, and is in the second
pub record LivesOn (between new : StoreState) (region : ℕ) : Type 0 where
  pub then : between.live region ≢ None
  pub now : new.live region ≢ None

-- from this state of the store on the run doesn't write to the place
abbrev pub IsLeft : SomeRun → (between : StoreState) → (region place : ℕ) → Type 0
IsLeft one between region place =
    (i : ℕ) → Wrote (asked_by one) i region place → i < length between.asked

-- a state of the store within a run, after some of its accesses: where a region lives on, its places hold what they held,
-- unless they are written. Each call of a store leaves them so.
pub record IsBetween (one : SomeRun) (between : StoreState) : Type 0 where
  pub begins : Begins between.asked (asked_by one)
  pub stays : (region place : ℕ) → LivesOn between one.new.store region
      → IsLeft one between region place
      → one.new.store.last region place ≡ between.last region place

-- in it a block is shown, under the number of a write that came before
abbrev pub IsShownIn : SomeRun → (between : StoreState) → (region place : ℕ) → (block : List ℕ)
    → Type 0
IsShownIn one between region place block = (good : List ℕ → Bool) → PassesHere one.base good
    → IsShown good (keys_by one) one.base.start
    (Rises one.old.store.faults one.new.store.faults) between.asked region place block

-- each one is of a region that the run had made and that lives on to its end, unless its place is written again
pub record ShowsBetween (one : SomeRun) (between : StoreState) : Type 0 where
  pub each : (region place : ℕ) (block : List ℕ) → one.base.start.region < region
      → LivesOn between one.new.store region → between.last region place ≡ Some block
      → IsLeft one between region place → IsShownIn one between region place block

-- the accesses of the first k entries, which are statements that are served alone, and flights, after what the run begins
-- with, and what is public after them
abbrev pub asked_behind : SomeRun → (k : ℕ) → List Access
asked_behind one k = one.base.before ++ trace_of one.base (take k one.run.story.entries)

abbrev pub public_behind : SomeRun → (k : ℕ) → Public
public_behind one k = public_after one.base (take k one.run.story.entries)

-- after the first k of them each one is of a region that was made by then, is no index's and lives on to the end of the run
pub record ShowsBehind (one : SomeRun) (k : ℕ) (between : StoreState) : Type 0 where
  pub each : (region place : ℕ) (block : List ℕ) → one.base.start.region < region
      → region < (public_behind one k).next_region
      → (OfIndex (public_behind one k).tables region → ⊥) → LivesOn between one.new.store region
      → between.last region place ≡ Some block → IsShownIn one between region place block

-- ---- a run with `--keep`
-- once it ended, each block of a live region that its statements or its closing made is shown
abbrev pub ShowsKept : {settings : Option Config} {flight : Option FlightSettings}
    {Takes : Type 0} {tracing : Bool} {old new : Outside} {keeper0 keeper1 : KeeperState}
    {ending : KeptEnding} {answers : List Answer} {report : Report}
    → RunKept settings flight Takes tracing old new keeper0 keeper1 ending answers report → Type 0
ShowsKept (inl run) = ⊤
ShowsKept (inr (inl run)) = ⊤
ShowsKept {new = new} (inr (inr run)) = IsTrue run.opened.tells
    → Shows (PassesBoth run.base.public.pack) (keys_of run.secret) run.base.start
    run.opened new.store

-- ---- two runs
-- both blocks are sealed for their place under one number
pub record AreNumberedAlike (keys0 keys1 : KeySet) (region place : ℕ) (block0 block1 : List ℕ)
    : Type 0 where
  pub number : ℕ
  pub clear0 : List ℕ
  pub clear1 : List ℕ
  pub sealed0 : block0 ≡ sealed keys0 (at_of region place number) clear0
  pub sealed1 : block1 ≡ sealed keys1 (at_of region place number) clear1

-- a run whose calls didn't fail, over a store that tells what it holds
pub record IsTold (one : SomeRun) : Type 0 where
  pub begun : IsBegun one.base
  pub tells : IsTrue one.old.store.tells
  pub unfailed : ¬ Rises one.old.store.faults one.new.store.faults

-- two such runs that go on from the same, and asked the same
pub record AskedTheSame (a b : SomeRun) : Type 0 where
  pub from : GoOnFromOne a b
  pub writes : a.base.start.writes ≡ b.base.start.writes
  pub asked : asked_by a ≡ asked_by b
  pub told : IsTold a
  pub told_too : IsTold b

-- so are all that lie at one place in the stores of both, of live regions that they made
pub record ShowNumbersAlike (a b : SomeRun) : Type 0 where
  pub each : (region place : ℕ) (block0 block1 : List ℕ) → a.base.start.region < region
      → a.new.store.live region ≢ None → a.new.store.last region place ≡ Some block0
      → b.new.store.live region ≢ None → b.new.store.last region place ≡ Some block1
      → AreNumberedAlike (keys_by a) (keys_by b) region place block0 block1
