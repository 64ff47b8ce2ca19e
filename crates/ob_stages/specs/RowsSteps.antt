-- What a step of a SELECT of rows in flight asks, and what it does.
use Rattle.std.specs.Prelude.{◌≡◌, ◌⊎◌, ◌<◌, ◌≤◌, ◌+◌, ◌-◌, ◌^◌, min, nat_lt, if◌then◌else◌, ℕ, zero, suc, Bool, true, false, List, [], ◌∷◌, ◌++◌, ◌*◌, ◌==◌, Option, Some, None, Result, OnOk, OnErr, IfOk, IfErr}
use Rattle.ob_base.specs.declared.config.Plan.TheVariants.{Small}
use Rattle.ob_base.specs.declared.seen.End.TheVariants.{Cut}
use Rattle.ob_base.specs.declared.emit.EmitErr.{EmitErr}
use Rattle.ob_base.specs.declared.refusal.Refusal.TheVariants.{PadPassed, StoreFault}
use Rattle.ob_base.specs.Events.{Event, Close, EmitCause, Leads}
use Rattle.ob_emit.specs.Emitting.{EmitsBlock, WalksBlock}
use Rattle.ob_flat.specs.declared.fault.OpErr.TheVariants.{Sink, NoMemory}
use Rattle.ob_flat.specs.declared.flat.Flat.{Flat}
use Rattle.ob_mean.specs.Prints.{Begun}
use Rattle.ob_verdict.specs.declared.outcome.Outcome.{Outcome}
use Rattle.ob_verdict.specs.declared.outcome.Outcome.TheVariants.{Rows, Refused}
use Rattle.ob_flat.specs.declared.fault.OpErr.{OpErr}
use Rattle.ob_flat.specs.Passes.{SinkCause}
use Rattle.ob_flat.specs.Slots.{AreSlots}
use Rattle.ob_inflight.specs.Answers.{Tells}
use Rattle.ob_inflight.specs.Progress.{Steps, StopsStep}
use Rattle.ob_vault.specs.Numbers.{spent}
use Rattle.ob_vault.specs.State.{World}
use Rattle.ob_vault.specs.Tied.{Ready}
use Rattle.ob_vault.specs.VaultCalls.{Forgets}
use Rattle.ob_row.specs.Spelling.{Begins}
use Rattle.ob_vault.specs.Rows.{Wide, row_at}
use Rattle.ob_base.specs.Schemas.{Columns, width}
use Rattle.std.specs.Prelude.{length}
use Rattle.ob_store.specs.State.{StoreState}
use Rattle.ob_store.specs.Calls.{ChangesNothing}
use Rattle.ob_stages.specs.declared.rows.Stage.{Stage}
use Rattle.ob_stages.specs.declared.rows.Stage.TheVariants.{Count, Make, Read, Over}
use Rattle.ob_stages.specs.RowsStates.{RowsAt, MayServe, passes_pad, progress_of, table_blocks, whole_length}
use Rattle.ob_stages.specs.RowsHolds.{Halts, Holds, NeedsAt, is_headless, left_of}

-- ---- what is asked
-- how it stands, whatever rows are kept
pub record IsHeldIn (g : RowsAt) (w : World) : Type 0 where
  pub kept : List (List ℕ)
  pub events : List Event
  pub holds : Holds g kept events w

-- it is at this stage, and the store has room for what it has booked
pub record StepsAt (g : RowsAt) (stage : Stage) (others : ℕ) (w : World) : Type 0 where
  pub at : g.stage ≡ stage
  pub ready : Ready w
  pub few : spent w + (progress_of g).most < 2 ^ 63 + 2 ^ 60
  pub spare : others + g.booked ≤ w.store.spare
  pub beside : others ≤ 2 ^ 62

-- ---- what it becomes
-- one access more was asked
abbrev pub gone_to : Stage → RowsAt → RowsAt
gone_to stage g = record g { stage = stage; asked = g.asked + 1; booked = g.booked - 1 }

-- a block was counted, after which it has come to this
abbrev pub counted_whole : (pad : Option ℕ) → (k : ℕ) → RowsAt → RowsAt
counted_whole None zero g = gone_to Over (record g { seen = record g.seen { k = Some 0 } })
counted_whole None (suc k) g = gone_to Make (record g { seen = record g.seen { k = Some (suc k); plan = Some Small } })
counted_whole (Some pad) k g = gone_to Make g

-- no more than there are slots
abbrev pub counted_to : (u n : ℕ) → RowsAt → RowsAt
counted_to u n g =
    if nat_lt (u + 1) (table_blocks g.q) then gone_to (Count (u + 1)) (record g { k = n })
    else counted_whole g.q.public.pad (min n g.q.flat.capacity) (record g { k = min n g.q.flat.capacity })

-- it was the last, which failed
abbrev pub gone_wrong : RowsAt → RowsAt
gone_wrong g = record g {
  stage = Over;
  asked = g.asked + 1;
  booked = 0;
  seen = record g.seen { end = Cut (g.asked + 1) };
  failed = true;
}

-- the region that it made was taken out of the vault, if it made one
abbrev pub ForgetsOwn : Option ℕ → (old new : World) → Type 0
ForgetsOwn None old new = new ≡ old
ForgetsOwn (Some region) old new = Forgets region old new

-- before a pass its kept rows are dummies
abbrev pub Clears : Stage → (kept after : List (List ℕ)) → Type 0
Clears (Read pass u seen) kept after = (columns : Columns) → Wide (width columns) kept
    → (i : ℕ) → i < length kept → Begins columns None (row_at after i)
Clears _ kept after = after ≡ kept

-- the kept rows of a block, from x on, a block at a time
pub record HasPart (columns : Columns) (pack x : ℕ) (kept : List (List ℕ)) : Type 0 where
  pub some : 1 ≤ pack
  pub few : length kept ≤ 1048576
  pub inside : x * pack + pack ≤ length kept
  pub wide : Wide (width columns) kept
  pub spells : AreSlots columns kept

-- the store has room for so many accesses beside the others'
pub record TakesRoom {E : Type 0} (g : RowsAt) (others : ℕ) (result : Result ℕ E) (old new : StoreState) : Type 0 where
  pub rests : ChangesNothing old new
  pub spare : IfOk result (λ n. (n ≡ whole_length g.q g.k - g.asked) × (others + n ≤ new.spare))
  pub padded : OnErr result (g.q.public.pad ≡ None)

-- ---- what is done
-- one access was asked, and nothing emitted
pub record QuietStep {T : Type 0} (g h : RowsAt) (others : ℕ) (kept after : List (List ℕ))
    (result : Result T OpErr) (old new : World) : Type 0 where
  pub steps : OnOk result (Steps others (progress_of g) (progress_of h) (MayServe g) (MayServe h)
      (NeedsAt g) (NeedsAt h) old new)
  pub stops : IfErr result (λ e. StopsStep e (progress_of g) (progress_of h) (MayServe g) old new)
  pub holds : OnOk result ((events : List Event) → Holds g kept events old → Holds h after events new)
  pub halts : IfErr result (λ e. (events : List Event) → Holds g kept events old → Halts g events [] e old new)

-- or one was asked, and rows were emitted
pub record LoudStep {E T : Type 0} (grew cut : E → E → List Event → Type 0) (faults : E → ℕ)
    (g h : RowsAt) (others : ℕ) (kept : List (List ℕ)) (result : Result T OpErr) (old new : World)
    (out_old out_new : E) : Type 0 where
  pub steps : OnOk result (Steps others (progress_of g) (progress_of h) (MayServe g) (MayServe h)
      (NeedsAt g) (NeedsAt h) old new)
  pub stops : IfErr result (λ e. StopsStep e (progress_of g) (progress_of h) (MayServe g) old new)
  pub tells : Tells grew cut true (Holds g kept) (Holds h kept) (Halts g) result old new out_old out_new
  pub sink : SinkCause result (faults out_old) (faults out_new)

-- a block of its result was read, and nothing emitted, as it is refused
pub record WalksInstead {E : Type 0} (pack : ℕ) (fresh : Flat) (place : ℕ) (result : Result ℕ OpErr)
    (old new : World) (out_old out_new : E) : Type 0 where
  pub walks : WalksBlock pack fresh place result old new
  pub none : IfOk result (λ n. n ≡ 0)
  pub quiet : out_new ≡ out_old

-- or its rows were emitted, after the header at the first one
pub record ShowsBehind {E : Type 0} (grew cut : E → E → List Event → Type 0) (faults : E → ℕ) (pack : ℕ)
    (g : RowsAt) (fresh : Flat) (place : ℕ) (result : Result ℕ OpErr) (old new : World)
    (out_old out_new : E) : Type 0 where
  pub mid : E
  pub begun : Leads grew grew out_old mid (left_of (place == 0) g.q)
  pub same : faults mid ≡ faults out_old
  pub block : EmitsBlock grew cut faults pack fresh g.q.cols place g.shown result old new mid out_new

-- or the output ends within that, and nothing was asked
pub record StopsHead {E : Type 0} (grew cut : E → E → List Event → Type 0) (faults : E → ℕ)
    (g : RowsAt) (place : ℕ) (result : Result ℕ OpErr) (old new : World)
    (out_old out_new : E) : Type 0 where
  pub stops : OnOk result ⊥
  pub either : IfErr result (λ e. (e ≡ Sink) ⊎ (e ≡ NoMemory))
  pub same : new ≡ old
  pub leads : Leads grew cut out_old out_new (left_of (place == 0) g.q)
  pub cause : SinkCause result (faults out_old) (faults out_new)

abbrev pub ShowsBy : {E : Type 0} → (passed : Bool) → (grew cut : E → E → List Event → Type 0) → (faults : E → ℕ)
    → (pack : ℕ) → RowsAt → Flat → (place : ℕ) → Result ℕ OpErr → (old new : World) → (out_old out_new : E) → Type 0
ShowsBy true grew cut faults pack g fresh place result old new out_old out_new =
    WalksInstead pack fresh place result old new out_old out_new
ShowsBy false grew cut faults pack g fresh place result old new out_old out_new =
    ShowsBehind grew cut faults pack g fresh place result old new out_old out_new
    ⊎ StopsHead grew cut faults g place result old new out_old out_new

pub record ShowsBlock {E : Type 0} (grew cut : E → E → List Event → Type 0) (faults : E → ℕ) (pack : ℕ)
    (g : RowsAt) (fresh : Flat) (place : ℕ) (result : Result ℕ OpErr) (old new : World)
    (out_old out_new : E) : Type 0 where
  pub shows : ShowsBy (passes_pad g) grew cut faults pack g fresh place result old new out_old out_new

-- ---- its end
-- its answer, and what of it is emitted at the end
abbrev pub said : (failed passed : Bool) → (shown : ℕ) → Outcome
said true passed shown = Refused StoreFault
said false true shown = Refused PadPassed
said false false shown = Rows shown

abbrev pub to_say : (failed passed : Bool) → (left : List Event) → (shown : ℕ) → List Event
to_say true passed left shown = []
to_say false true left shown = []
to_say false false left shown = left ++ Close shown ∷ []

abbrev pub said_of : RowsAt → Outcome
said_of g = said g.failed (passes_pad g) g.shown

abbrev pub to_say_of : RowsAt → List Event
to_say_of g = to_say g.failed (passes_pad g) (left_of (is_headless g.q.public.pad g.k) g.q) g.shown

-- a first part of that was emitted
pub record SaysPart {E : Type 0} (grew cut : E → E → List Event → Type 0) (g : RowsAt)
    (out_old out_new : E) : Type 0 where
  pub going : g.failed ≡ false
  pub part : List Event
  pub leads : Leads grew cut out_old out_new part
  pub begun : Begun part (to_say_of g)

-- it was answered
pub record Answers {E : Type 0} (grew cut : E → E → List Event → Type 0) (faults : E → ℕ) (g : RowsAt)
    (result : Result Outcome EmitErr) (out_old out_new : E) : Type 0 where
  pub ok : IfOk result (λ o. (o ≡ said_of g) × Leads grew grew out_old out_new (to_say_of g))
  pub err : OnErr result (SaysPart grew cut g out_old out_new)
  pub sink : EmitCause result (faults out_old) (faults out_new)
