-- How a SELECT of rows in flight stands, over the present world.
use Rattle.std.specs.Prelude.{◌≡◌, ◌⊎◌, ◌<◌, ◌≤◌, ◌+◌, ◌*◌, ℕ, zero, suc, Bool, true, false, not, nat_lt, IsTrue, List, [], ◌∷◌, ◌++◌, length, Option, Some, None, IsSome}
use Rattle.ob_base.specs.declared.access.Access.{Access}
use Rattle.ob_base.specs.declared.config.Plan.TheVariants.{Small as SmallPlan}
use Rattle.ob_base.specs.declared.refusal.Refusal.TheVariants.{PadPassed, StoreFault}
use Rattle.ob_base.specs.declared.refusal.Refusal.{Refusal}
use Rattle.ob_base.specs.declared.seen.End.TheVariants.{Whole, Cut}
use Rattle.ob_base.specs.declared.seen.Seen.{Seen}
use Rattle.ob_base.specs.declared.shown.Shown.{Shown}
use Rattle.ob_base.specs.Events.{Event, Close, row_events}
use Rattle.ob_base.specs.Schemas.{width}
use Rattle.ob_emit.specs.Emitting.{HasEmitted, header}
use Rattle.ob_flat.specs.declared.fault.OpErr.{OpErr}
use Rattle.ob_flat.specs.declared.fault.OpErr.TheVariants.{Sink, NoMemory}
use Rattle.ob_flat.specs.Flats.{Represents}
use Rattle.ob_flat.specs.Scans.{MayScan}
use Rattle.ob_flat.specs.Words.{FitBlock}
use Rattle.ob_mean.specs.Prints.{Begun}
use Rattle.ob_mean.specs.Verdict.{counted, ended as seen_to, rows_refusal}
use Rattle.ob_row.specs.Slots.{Slots}
use Rattle.ob_row.specs.Truth.{is_true}
use Rattle.ob_select.specs.Memory.{is_make}
use Rattle.ob_select.specs.Selecting.{Selection, HoldsSeen, answer_events, places, selection_seen}
use Rattle.ob_small.specs.Keeping.{chosen}
use Rattle.ob_small.specs.Selection as Small
use Rattle.ob_small.specs.Steps.{HasCollected, IsFilledTo, IsUnordered}
use Rattle.ob_vault.specs.Rows.{Wide}
use Rattle.ob_vault.specs.State.{World}
use Rattle.ob_vault.specs.Tied.{IsUnfit, Ready}
use Rattle.ob_vault.specs.Words.{IsHonest}
use Rattle.ob_verdict.specs.declared.outcome.Outcome.{Outcome}
use Rattle.ob_verdict.specs.declared.outcome.Outcome.TheVariants.{Rows, Refused}
use Rattle.ob_stages.specs.declared.rows.RowsFlight.{RowsFlight}
use Rattle.ob_stages.specs.declared.rows.Stage.{Stage}
use Rattle.ob_stages.specs.declared.rows.Stage.TheVariants.{Count, Make, Read, Write, Emit, Discard, Over}
use Rattle.ob_stages.specs.RowsStates.{RowsAt, IsPlaced, is_printing, kept_blocks, passes_pad, result_in, rows_at, seen_taking, small, table_blocks, taken}

-- ---- its open rows
-- those of a block
pub record FitsBlock (q : Selection) (rows : List (List ℕ)) : Type 0 where
  pub count : length rows ≡ q.public.pack
  pub fit : FitBlock q.flat.schema rows

-- and as many as its share has blocks
pub record FitsShare (q : Selection) (kept : List (List ℕ)) : Type 0 where
  pub space : length kept ≡ kept_blocks q * q.public.pack
  pub wide : Wide (width q.flat.schema) kept

pub record FitRows (q : Selection) (rows kept : List (List ℕ)) : Type 0 where
  pub block : FitsBlock q rows
  pub share : FitsShare q kept

abbrev pub RowsFits : RowsFlight → (rows kept : List (List ℕ)) → Type 0
RowsFits f rows kept = FitRows (rows_at f).q rows kept

-- ---- regions
-- the region of its result, while it has one
abbrev pub own_at : Stage → (made : Option ℕ) → Option ℕ
own_at (Count u) made = made
own_at Make made = made
own_at (Read pass u seen) made = made
own_at (Write pass x) made = made
own_at (Emit x) made = made
own_at Discard made = made
own_at Over made = None

-- others leave its table and its result
abbrev pub NeedsAt : RowsAt → ℕ → Type 0
NeedsAt g r = (r ≡ g.q.flat.region) ⊎ (own_at g.stage g.region ≡ Some r)

abbrev pub RowsNeeds : RowsFlight → ℕ → Type 0
RowsNeeds f r = NeedsAt (rows_at f) r

-- ---- what was counted, and what is kept
-- of the slots that its table has now, each block of which was read as it was written
pub record IsCountOf (g : RowsAt) (w : World) (chosen_of : Slots → Slots) : Type 0 where
  pub told : (slots : Slots) → Represents g.q.public.pack g.q.flat slots w → w.store.lie ≡ None
      → g.k ≡ length (chosen_of slots)

abbrev pub all_selected : RowsAt → Slots → Slots
all_selected g slots = chosen (is_true g.q.condition) slots

-- the table was read up to this block, and no row of it is kept
abbrev pub Picked : RowsAt → (u n : ℕ) → World → Type 0
Picked g u n w = HasCollected g.q.public.pack g.q.flat (is_true g.q.condition) u n 0 0 [] w

-- a pass has read it up to this block
abbrev pub Collected : RowsAt → (pass u seen : ℕ) → (kept : List (List ℕ)) → World → Type 0
Collected g pass u seen kept w =
    HasCollected g.q.public.pack g.q.flat (is_true g.q.condition) u seen
    ((pass * kept_blocks g.q) * g.q.public.pack) (taken g.q g.k) kept w

-- its region, and that its first blocks, so many, were written
pub record HasFilled (g : RowsAt) (blocks : ℕ) (w : World) : Type 0 where
  pub own : ℕ
  pub region : g.region ≡ Some own
  pub unordered : IsUnordered g.q.public.pack (result_in g.q g.k own) w
  pub filled : IsFilledTo (small g.q g.k) (result_in g.q g.k own) blocks w

-- ---- what was emitted
abbrev pub head_of : Selection → List Event
head_of q = header q.flat.schema q.cols

-- the header and these rows, or nothing
abbrev pub events_if : Bool → Selection → List (List Shown) → List Event
events_if true q shown = head_of q ++ row_events shown
events_if false q shown = []

-- of the result's first blocks, so many, none where more rows are selected than it is padded to
abbrev pub is_shown : (passed : Bool) → (blocks : ℕ) → Bool
is_shown true blocks = false
is_shown false blocks = nat_lt 0 blocks

-- its rows in the first blocks that were read
pub record HasRead (g : RowsAt) (own blocks : ℕ) (rows : List (List Shown)) (w : World) : Type 0 where
  pub may : MayScan g.q.public.pack (result_in g.q g.k own) w
  pub emitted : passes_pad g ≡ false
      → HasEmitted g.q.public.pack (result_in g.q g.k own) g.q.cols blocks g.shown rows w

-- so many blocks of it were read, and their rows emitted
pub record HasShown (g : RowsAt) (blocks : ℕ) (events : List Event) (w : World) : Type 0 where
  pub rows : List (List Shown)
  pub is : events ≡ events_if (is_shown (passes_pad g) blocks) g.q rows
  pub passed : passes_pad g ≡ true → g.shown ≡ 0
  pub filled : HasFilled g (Small.results (small g.q g.k)) w
  pub read : HasRead g filled.own blocks rows w

-- ---- its answer
-- an answer of rows ends with their number
abbrev pub closing_of : Outcome → List Event
closing_of (Rows k) = Close k ∷ []
closing_of _ = []

abbrev pub answered_by : Option Refusal → (k : ℕ) → Outcome
answered_by None k = Rows k
answered_by (Some r) k = Refused r

-- what it means over these slots
abbrev pub meant_outcome : Selection → Slots → Outcome
meant_outcome q slots = answered_by (rows_refusal q.public (places q slots)) (length (places q slots))

abbrev pub meant_events : Selection → Slots → List Event
meant_events q slots = answer_events q slots ++ closing_of (meant_outcome q slots)

-- what is seen of one that came to its end: no plan where none is selected
abbrev pub seen_counted : (k : ℕ) → Seen
seen_counted zero = counted 0 None None Whole
seen_counted (suc k) = counted (suc k) (Some SmallPlan) None Whole

abbrev pub seen_ended : (pad : Option ℕ) → (k : ℕ) → Seen
seen_ended None k = seen_counted k
seen_ended (Some pad) k = seen_to Whole

-- its header is still to be emitted: of no rows no result was made
abbrev pub is_headless : (pad : Option ℕ) → (k : ℕ) → Bool
is_headless None zero = true
is_headless None (suc k) = false
is_headless (Some pad) k = false

abbrev pub left_of : Bool → Selection → List Event
left_of true q = head_of q
left_of false q = []

abbrev pub outcome_of : (passed : Bool) → (shown : ℕ) → Outcome
outcome_of true shown = Refused PadPassed
outcome_of false shown = Rows shown

-- all was asked, and what is left of its answer is to be emitted
pub record IsToEnd (g : RowsAt) (events : List Event) (w : World) : Type 0 where
  pub seen : g.seen ≡ seen_ended g.q.public.pad g.k
  pub few : (g.k ≤ g.q.flat.capacity) × (g.shown ≤ g.q.flat.capacity)
  pub rows : List (List Shown)
  pub is : events ++ left_of (is_headless g.q.public.pad g.k) g.q ≡ events_if (not (passes_pad g)) g.q rows
  pub count : passes_pad g ≡ false → g.shown ≡ length rows
  pub told : (slots : Slots) → Represents g.q.public.pack g.q.flat slots w → IsHonest w w
      → (outcome_of (passes_pad g) g.shown ≡ meant_outcome g.q slots) × (g.seen ≡ selection_seen g.q slots)
      × (events ++ left_of (is_headless g.q.public.pad g.k) g.q ≡ answer_events g.q slots)

-- what may be seen of one that the store failed at its last access, of so many: it had counted, or not
pub record IsCutSeen (q : Selection) (asked : ℕ) (x : Seen) : Type 0 where
  pub k : ℕ
  pub few : k ≤ q.flat.capacity
  pub some : 1 ≤ taken q k
  pub behind : table_blocks q < asked
  pub is : x ≡ record (seen_taking q.public.pad k) { end = Cut asked }

abbrev pub MayBeCut : Selection → (asked : ℕ) → Seen → Type 0
MayBeCut q asked seen = (seen ≡ seen_to (Cut asked)) ⊎ IsCutSeen q asked seen

-- nothing was emitted, or the header and some rows
abbrev pub HasBegun : Selection → List Event → Type 0
HasBegun q events = (events ≡ []) ⊎ ((rows : List (List Shown)) × (events ≡ head_of q ++ row_events rows))

-- the store failed it
pub record IsCutOff (q : Selection) (x : Seen) (asked : ℕ) (events : List Event) (w : World) : Type 0 where
  pub some : 1 ≤ asked
  pub seen : MayBeCut q asked x
  pub begun : HasBegun q events
  pub told : (slots : Slots) → Represents q.public.pack q.flat slots w → IsHonest w w
      → HoldsSeen q slots true asked x × Begun events (answer_events q slots)

-- it was answered with so many rows
pub record AnswersSo (q : Selection) (n : ℕ) (x : Seen) (events : List Event) : Type 0 where
  pub k : ℕ
  pub seen : x ≡ seen_ended q.public.pad k
  pub few : (k ≤ q.flat.capacity) × (n ≤ q.flat.capacity)
  pub rows : List (List Shown)
  pub count : n ≡ length rows
  pub is : events ≡ (head_of q ++ row_events rows) ++ Close n ∷ []

-- or refused, as its rows are more than results are padded to
pub record RefusesRows (q : Selection) (x : Seen) (events : List Event) : Type 0 where
  pub padded : IsSome q.public.pad
  pub seen : x ≡ seen_to Whole
  pub none : events ≡ []

-- as it is meant
pub record AsMeant (q : Selection) (o : Outcome) (seen : Seen) (events : List Event) (w : World) : Type 0 where
  pub told : (slots : Slots) → Represents q.public.pack q.flat slots w → IsHonest w w
      → (o ≡ meant_outcome q slots) × (seen ≡ selection_seen q slots) × (events ≡ meant_events q slots)

-- how a SELECT of rows was answered, whatever the store gave, and what is known of it where that is told
abbrev pub AnswersRows : Selection → Outcome → Seen → (asked : ℕ) → List Event → World → Type 0
AnswersRows q (Rows n) seen asked events w = AnswersSo q n seen events × AsMeant q (Rows n) seen events w
AnswersRows q (Refused PadPassed) seen asked events w = RefusesRows q seen events × AsMeant q (Refused PadPassed) seen events w
AnswersRows q (Refused StoreFault) seen asked events w = IsCutOff q seen asked events w
AnswersRows q _ seen asked events w = ⊥

-- ---- how it stands
-- the region that it made is gone
pub record IsGone (made : Option ℕ) (w : World) : Type 0 where
  pub below : (r : ℕ) → made ≡ Some r → r < w.vault.next
  pub gone : (r : ℕ) → made ≡ Some r → w.vault.revs.live r ≡ None

-- it has nothing left to ask
abbrev pub EndedAt : (failed : Bool) → Option Outcome → RowsAt → List Event → World → Type 0
EndedAt true None g events w = IsCutOff g.q g.seen g.asked events w
EndedAt false None g events w = IsToEnd g events w
EndedAt failed (Some o) g events w = AnswersRows g.q o g.seen g.asked events w

abbrev pub HoldsAt : Stage → RowsAt → (kept : List (List ℕ)) → List Event → World → Type 0
HoldsAt (Count u) g kept events w = (events ≡ []) × Picked g u g.k w
HoldsAt Make g kept events w = (events ≡ []) × IsCountOf g w (all_selected g)
HoldsAt (Read pass u seen) g kept events w =
    (events ≡ []) × IsCountOf g w (all_selected g) × Collected g pass u seen kept w × HasFilled g (pass * kept_blocks g.q) w
HoldsAt (Write pass x) g kept events w =
    (events ≡ []) × IsCountOf g w (all_selected g) × ((seen : ℕ) × Collected g pass (table_blocks g.q) seen kept w)
    × HasFilled g (pass * kept_blocks g.q + x) w
HoldsAt (Emit x) g kept events w = IsCountOf g w (all_selected g) × HasShown g x events w
HoldsAt Discard g kept events w =
    IsCountOf g w (all_selected g) × HasShown g (Small.results (small g.q g.k)) events w
HoldsAt Over g kept events w = IsGone g.region w × EndedAt g.failed g.outcome g events w

pub record Holds (g : RowsAt) (kept : List (List ℕ)) (events : List Event) (w : World) : Type 0 where
  pub ready : Ready w
  pub placed : IsPlaced g
  pub table : MayScan g.q.public.pack g.q.flat w
  pub at : HoldsAt g.stage g kept events w

abbrev pub RowsHold : RowsFlight → (kept : List (List ℕ)) → List Event → World → Type 0
RowsHold f kept events w = Holds (rows_at f) kept events w

-- one of which nothing was asked stands as soon as its table may be read
abbrev pub BoardsRows : Selection → (Hold : (kept : List (List ℕ)) → List Event → World → Type 0) → Type 0
BoardsRows q Hold = (w : World) → Ready w → MayScan q.public.pack q.flat w → (kept : List (List ℕ)) → Hold kept [] w

-- ---- where it gave up
-- what is known of it on its way
pub record IsOnWay (g : RowsAt) (events : List Event) (slots : Slots) : Type 0 where
  pub held : HoldsSeen g.q slots false g.asked g.seen
  pub begun : Begun events (meant_events g.q slots)

-- memory was wanted at the make of its result, or just before it where room was to be taken for that; or the emitter wanted it
pub record LacksAt (g : RowsAt) (old new : World) : Type 0 where
  pub place : ((g.stage ≡ Make) × (g.q.public.pad ≡ None) × (new.store.asked ≡ old.store.asked))
      ⊎ ((g.stage ≡ Make) × ((access : Access) × IsTrue (is_make access) × (new.store.asked ≡ old.store.asked ++ access ∷ [])))
      ⊎ ((is_printing g.stage ≡ true) × (g.failed ≡ false))

pub record Halts (g : RowsAt) (events part : List Event) (e : OpErr) (old new : World) : Type 0 where
  pub told : (slots : Slots) → Represents g.q.public.pack g.q.flat slots old → IsHonest old old → IsUnfit new
      → IsOnWay g (events ++ part) slots
  -- no block was changed where none is read that was
  pub honest : (slots : Slots) → Represents g.q.public.pack g.q.flat slots old → IsHonest old new
      → (e ≡ Sink) ⊎ (e ≡ NoMemory)
  pub counted : (e ≡ Sink) ⊎ (e ≡ NoMemory) → table_blocks g.q ≤ g.asked
  pub memory : e ≡ NoMemory → LacksAt g old new

abbrev pub RowsHalt : RowsFlight → (events part : List Event) → OpErr → (old new : World) → Type 0
RowsHalt f events part e old new = Halts (rows_at f) events part e old new
