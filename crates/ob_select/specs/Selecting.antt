-- A SELECT of rows from one region, a table's or a joined one: its count, its plans, and the rows that are emitted.
use Rattle.std.specs.Prelude.{◌≡◌, ◌⊎◌, ◌<◌, ◌≤◌, ◌+◌, ◌-◌, ◌^◌, ⊤, ℕ, Bool, List, [], ◌∷◌, ◌++◌, map, length, IsTrue, IsSome, None, Some, Option, Result, Err, OnOk, OnErr, IfOk, IfErr, MatchResult, nat_le}
use Rattle.ob_base.specs.declared.schema.Shape.TheVariants.{Flat as FlatShape}
use Rattle.ob_base.specs.declared.access.Access.{Access}
use Rattle.ob_base.specs.declared.config.Plan.{Plan}
use Rattle.ob_base.specs.declared.config.Plan.TheVariants.{Small, Continuous, Hash}
use Rattle.ob_base.specs.declared.config.Planner.TheVariants.{Auto, Forced}
use Rattle.ob_base.specs.declared.config.Public.{Public}
use Rattle.ob_base.specs.declared.refusal.Refusal.{Refusal}
use Rattle.ob_base.specs.declared.refusal.Refusal.TheVariants.{NotConsecutive, Overflow, PadPassed}
use Rattle.ob_base.specs.declared.seen.Seen.{Seen}
use Rattle.ob_base.specs.declared.seen.End.TheVariants.{Whole, AfterCount}
use Rattle.ob_base.specs.declared.shown.Shown.{Shown}
use Rattle.ob_base.specs.Events.{Event, Leads, IsEmitted, row_events}
use Rattle.ob_base.specs.Plans.{choose}
use Rattle.ob_base.specs.Schemas.{Columns}
use Rattle.ob_base.specs.Stored.{Stored}
use Rattle.ob_room.specs.RoomState.{RoomState}
use Rattle.ob_row.specs.Condition.{Condition}
use Rattle.ob_row.specs.Totals.{printed}
use Rattle.ob_row.specs.Slots.{Slots, rows, selected}
use Rattle.ob_row.specs.Truth.{is_true}
use Rattle.ob_script.specs.Script.{blocks_of, extent_of, padded_part, select_part}
use Rattle.ob_vault.specs.State.{World}
use Rattle.ob_store.specs.State.{FalseRead}
use Rattle.ob_vault.specs.Numbers.{spent}
use Rattle.ob_vault.specs.Tied.{Ready, ReadsIn, IsUnfit}
use Rattle.ob_vault.specs.Calls.{Seals}
use Rattle.ob_flat.specs.declared.fault.OpErr.{OpErr}
use Rattle.ob_flat.specs.declared.fault.OpErr.TheVariants.{Failed, Sink, NoMemory}
use Rattle.ob_flat.specs.declared.flat.Flat.{Flat}
use Rattle.ob_flat.specs.Flats.{Accepts, IsSized, IsFlat, Represents}
use Rattle.ob_flat.specs.Passes.{SinkCause, is_of_access}
use Rattle.ob_flat.specs.Words.{PassRan}
use Rattle.ob_emit.specs.Emitting.{AreColumns, header}
use Rattle.ob_mean.specs.Replay.{done_of, held_if}
use Rattle.ob_mean.specs.Verdict.{ended as seen_to, rows_refusal, seen_rows}
use Rattle.ob_verdict.specs.Laws.{selected_result}
use Rattle.ob_select.specs.declared.selecting.Query.{Query}
use Rattle.ob_select.specs.declared.selecting.Selected.{Selected}
use Rattle.ob_select.specs.declared.selecting.Selected.TheVariants.{Rows, Refused}
use Rattle.ob_select.specs.Settings.{AreSettings, IsFree}
use Rattle.ob_select.specs.Halting.{EmitsUntil}
use Rattle.ob_select.specs.Memory.{AtMake, BeforeResult, HasCounted, HasHalted, is_reading}
use Rattle.std.specs.List.{list_all}

-- what is public, the region as a table, the condition, the places of the columns that are printed, and how many
-- accesses will follow that room is kept for
pub record Selection : Type 0 where
  pub public : Public
  pub flat : Flat
  pub condition : Condition
  pub cols : List ℕ
  pub ending : ℕ

abbrev pub selection_of : Public → Query → Selection
selection_of public query = record {
  public = public;
  flat = query.flat.now;
  condition = query.pred.now;
  cols = query.cols.now;
  ending = query.ending;
}

-- its region as a table's, whatever its name
abbrev pub region_of : Selection → Stored ℕ
region_of q = record {
  heading = record { name = []; schema = q.flat.schema; capacity = q.flat.capacity; shape = FlatShape };
  held = q.flat.region;
}

-- the places of the selected slots
abbrev pub places : Selection → Slots → List ℕ
places q slots = selected (is_true q.condition) slots

-- what is asked, by what is seen, where g is the next region
abbrev pub selection_script : Selection → Seen → (g : ℕ) → List Access
selection_script q seen g = select_part q.public seen g (extent_of (region_of q)) []

-- the accesses until the rows are counted, and until the first plan's result has been read back
abbrev pub counted_after : Selection → ℕ
counted_after q = blocks_of q.public (extent_of (region_of q))

abbrev pub walked_after : Selection → Seen → ℕ
walked_after q seen = length (selection_script q (record seen { then = None }) 0) - 1

-- ---- the meaning
abbrev pub selected_as : Option Refusal → (k : ℕ) → Selected
selected_as None k = Rows k
selected_as (Some r) k = Refused r

abbrev pub selection_answer : Selection → Slots → Selected
selection_answer q slots =
    selected_as (rows_refusal q.public (places q slots)) (length (places q slots))

-- what is seen of it where it comes to its end
abbrev pub selection_seen : Selection → Slots → Seen
selection_seen q slots = seen_rows q.public (length slots) (places q slots)

-- the slots of its last result, except for those to which it is padded
abbrev pub result_of : Selection → Slots → Slots
result_of q slots = selected_result q.public (is_true q.condition) slots

-- its rows as they are printed, in order of their slots; none where none is selected
abbrev pub shown_where : (places : List ℕ) → List (List Shown) → List (List Shown)
shown_where [] shown = []
shown_where (i ∷ is) shown = shown

abbrev pub shown_rows : Selection → Slots → List (List Shown)
shown_rows q slots = shown_where (places q slots) (map (printed q.cols) (rows (result_of q slots)))

-- all that is emitted: nothing of what is refused
abbrev pub emitted_unless : Option Refusal → List Event → List Event
emitted_unless None events = events
emitted_unless (Some r) events = []

abbrev pub answer_events : Selection → Slots → List Event
answer_events q slots =
    emitted_unless (rows_refusal q.public (places q slots))
    (header q.flat.schema q.cols ++ row_events (shown_rows q slots))

-- ---- what is known of the slots
-- those of a table, each block of which was read as it was written
pub record SelectsToEnd (q : Selection) (old new : World) : Type 0 where
  pub tells : IsTrue old.store.tells
  pub slots : Slots
  pub is : Represents q.public.pack q.flat slots old
  pub nolie : new.store.lie ≡ None

-- and of one that was read so until the selection halted, maybe at a changed block
pub record SelectsToHalt (q : Selection) (old new : World) : Type 0 where
  pub tells : IsTrue old.store.tells
  pub slots : Slots
  pub is : Represents q.public.pack q.flat slots old
  pub nolie : old.store.lie ≡ None
  pub unfit : IsUnfit new

-- ---- what may be held of k, the plan and the one after it, whatever the rows are
pub record IsPlanOf (q : Selection) (k : ℕ) (plan : Plan) : Type 0 where
  pub some : 1 ≤ k
  pub consecutive : Bool
  pub chosen : plan
      ≡ choose q.public.planner q.public.pack q.public.buffer q.flat.capacity k consecutive

-- k is a count of its slots, where results aren't padded
pub record IsCountOf (q : Selection) (k : ℕ) : Type 0 where
  pub unpadded : q.public.pad ≡ None
  pub most : k ≤ q.flat.capacity

abbrev pub MayHold : Selection → (k : Option ℕ) → (plan second : Option Plan) → Type 0
MayHold q None None None = ⊤
MayHold q (Some k) None None = IsCountOf q k × ((k ≡ 0) ⊎ (q.public.planner ≡ Forced Continuous))
MayHold q (Some k) (Some plan) None = IsCountOf q k × IsPlanOf q k plan
MayHold q (Some k) (Some Hash) (Some Small) =
    IsCountOf q k × IsPlanOf q k Hash × (q.public.planner ≡ Auto)
MayHold q _ _ _ = ⊥

-- it came to its end, and without a plan where none was counted
pub record EndsCounted (seen : Seen) : Type 0 where
  pub counted : ℕ
  pub count : seen.k ≡ Some counted
  pub end : seen.end ≡ Whole
  pub none : seen.plan ≡ None → counted ≡ 0

-- a forced Continuous refused more rows than none, after the count
pub record EndsUnplanned (q : Selection) (seen : Seen) : Type 0 where
  pub k : ℕ
  pub some : 1 ≤ k
  pub count : seen.k ≡ Some k
  pub forced : q.public.planner ≡ Forced Continuous
  pub plan : seen.plan ≡ None
  pub end : seen.end ≡ AfterCount

-- a forced Hash left a row out
pub record EndsOverflowed (q : Selection) (seen : Seen) : Type 0 where
  pub forced : q.public.planner ≡ Forced Hash
  pub plan : seen.plan ≡ Some Hash
  pub second : seen.then ≡ None
  pub end : seen.end ≡ Whole

-- nothing is seen but that it came to its end, where results are padded
pub record EndsPadded (q : Selection) (seen : Seen) : Type 0 where
  pub padded : IsSome q.public.pad
  pub nothing : seen ≡ seen_to Whole

abbrev pub EndsSelected : Selection → Selected → Seen → Type 0
EndsSelected q (Rows k) seen = EndsCounted seen ⊎ EndsPadded q seen
EndsSelected q (Refused PadPassed) seen = EndsPadded q seen
EndsSelected q (Refused NotConsecutive) seen = EndsUnplanned q seen
EndsSelected q (Refused (Overflow i)) seen = EndsOverflowed q seen
EndsSelected q (Refused _) seen = ⊥

-- what is held was reached within n accesses
pub record Reaches (q : Selection) (seen : Seen) (n : ℕ) : Type 0 where
  pub count : IsSome seen.k → counted_after q ≤ n
  pub walk : IsSome seen.then → walked_after q seen ≤ n

-- what is held after n accesses, of which the last was carried out or not, is what is seen of these slots
pub record HoldsSeen (q : Selection) (slots : Slots) (failed : Bool) (n : ℕ)
    (seen : Seen) : Type 0 where
  pub k : seen.k
      ≡ held_if (nat_le (counted_after q) (done_of failed n)) (selection_seen q slots).k
  pub plan : seen.plan
      ≡ held_if (nat_le (counted_after q) (done_of failed n)) (selection_seen q slots).plan
  pub second : seen.then
      ≡ held_if (nat_le (walked_after q (selection_seen q slots)) (done_of failed n))
      (selection_seen q slots).then

-- ---- what a selection asks
-- how many accesses of a padded result room is kept for before its rows are counted: all, and of another none
abbrev pub padded_after : (pad : Option ℕ) → Selection → ℕ
padded_after None q = 0
padded_after (Some pad) q = length (padded_part q.public pad 0 (extent_of (region_of q)))

pub record MaySelect (q : Selection) (room : RoomState) (w : World) : Type 0 where
  pub settings : AreSettings q.public
  pub free : IsFree q.public room
  pub ready : Ready w
  pub spare : counted_after q + padded_after q.public.pad q + q.ending ≤ w.store.spare
  pub short : q.ending ≤ 1
  pub few : spent w < 2 ^ 63 + 2 ^ 58
  pub flat : IsFlat q.public.pack q.flat w
  pub size : IsSized q.flat.schema q.flat.capacity
  pub columns : AreColumns q.flat.schema q.cols

-- ---- what it does
-- regions from this number on
abbrev pub from : ℕ → ℕ → Type 0
from g region = g ≤ region

-- want of memory comes at a make, just before that of a result that isn't padded, or once it has counted, nothing is left
-- to be written, and the emitter gave up, which is this
pub record LacksMemoryIn (q : Selection) (seen : Seen) (old new : World)
    (Halts : Type 0) : Type 0 where
  pub done : List Access
  pub rest : List Access
  pub split : done ++ rest ≡ selection_script q seen old.vault.next
  pub asked : new.store.asked ≡ old.store.asked ++ done
  pub some : done ≡ [] → ⊥
  pub place : AtMake done ⊎ BeforeResult q.public seen rest
      ⊎ (HasCounted q.public seen × IsTrue (list_all is_reading rest) × Halts)

-- rows were emitted, or nothing of what was refused
abbrev pub EmitsSelected : {E : Type 0} → (grew : E → E → List Event → Type 0) → Selection
    → Selected → (old new : World) → (out_old out_new : E) → Type 0
EmitsSelected grew q (Rows k) old new out_old out_new =
    IsEmitted grew (header q.flat.schema q.cols)
    (λ (s : SelectsToEnd q old new). shown_rows q s.slots) 0 k out_old out_new
EmitsSelected grew q (Refused r) old new out_old out_new = out_new ≡ out_old

-- blocks of this many rows or dummies are good in every region
abbrev pub AcceptsRows : (good : ℕ → List ℕ → Bool) → (pack : ℕ) → Type 0
AcceptsRows good pack = (columns : Columns) (region : ℕ) → Accepts good pack columns region

-- blocks of rows are sealed where they lie
abbrev pub SealsRows : (pack : ℕ) → (old new : World) → Type 0
SealsRows pack old new = (good : ℕ → List ℕ → Bool) → AcceptsRows good pack → Seals good old new

-- all rows of the room are free again, and one at least was open
pub record UsesRoom (old new : RoomState) : Type 0 where
  pub same : new ≡ record old { high = new.high }
  pub kept : old.high ≤ new.high
  pub some : 1 ≤ new.high

-- the rows of a region were counted, put into a result or two, and emitted; no region is left except those that there were
pub record SelectsFrom {E : Type 0} (grew cut : E → E → List Event → Type 0) (faults : E → ℕ)
    (q : Selection) (result : Result Selected OpErr) (seen : Seen) (old new : World)
    (out_old out_new : E) : Type 0 where
  pub ran : PassRan (selection_script q seen old.vault.next) (from old.vault.next) result old new
  pub gone : (r : ℕ) → old.vault.next ≤ r → new.vault.revs.live r ≡ None
  pub spare : OnOk result (q.ending ≤ new.store.spare)
  pub seals : SealsRows q.public.pack old new
  pub holds : MayHold q seen.k seen.plan seen.then
  pub leaf : seen.leaf ≡ None
  pub ended : IfOk result (λ answer. EndsSelected q answer seen)
  pub reached : OnErr result (Reaches q seen (length new.store.asked - length old.store.asked))
  pub memory : result ≡ Err NoMemory
      → LacksMemoryIn q seen old new (HasHalted (Leads grew cut) out_old out_new)
  pub emitted : IfOk result (λ answer. EmitsSelected grew q answer old new out_old out_new)
  pub halted : IfErr result (λ e. EmitsUntil grew cut e (header q.flat.schema q.cols)
      (λ (s : SelectsToHalt q old new). answer_events q s.slots) out_old out_new)
  pub sink : SinkCause result (faults out_old) (faults out_new)
  pub told : (s : SelectsToEnd q old new) → MatchResult result
      (λ answer. (answer ≡ selection_answer q s.slots) × (seen ≡ selection_seen q s.slots))
      (λ e. (e ≡ Failed) ⊎ (e ≡ Sink) ⊎ (e ≡ NoMemory))
  pub held : (s : SelectsToHalt q old new) → IfErr result (λ e.
      HoldsSeen q s.slots (is_of_access e) (length new.store.asked - length old.store.asked) seen)
  -- the first changed block that is read is one that is read of these slots
  pub begun : (s : SelectsToEnd q old old) (lie : FalseRead) → new.store.lie ≡ Some lie
      → ReadsIn lie
      (old.store.asked ++ selection_script q (selection_seen q s.slots) old.vault.next)
