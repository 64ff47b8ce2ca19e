-- What is emitted of a table, and how.
use Rattle.std.specs.Prelude.{◌≡◌, ◌⊎◌, ◌<◌, ◌≤◌, ℕ, ◌+◌, ◌*◌, Bool, IsTrue, false, not, List, [], ◌∷◌, ◌++◌, map, nat_lt, bytes_eq, Option, Some, None, slice_get, if◌then◌else◌, Result, Ok, Err, OnOk, IfOk, IfErr, length, take}
use Rattle.std.specs.List.{All, list_any}
use Rattle.std.specs.Option.{option_map_or}
use Rattle.ob_base.specs.declared.schema.Column.{Column}
use Rattle.ob_base.specs.declared.shown.Shown.{Shown}
use Rattle.ob_base.specs.declared.emit.EmitErr.TheVariants as EmitErrs
use Rattle.ob_base.specs.Accesses.{read_at}
use Rattle.ob_base.specs.Counts.{Rises}
use Rattle.ob_base.specs.Events.{Event, Head, row_events, IsEmitted, IsBegun, IsHalted}
use Rattle.ob_base.specs.Labels.{column_label}
use Rattle.ob_base.specs.Schemas.{Columns}
use Rattle.ob_row.specs.Rows.{Row}
use Rattle.ob_row.specs.Slots.{Slots, rows}
use Rattle.ob_row.specs.Totals.{printed}
use Rattle.ob_row.specs.Spelling.{Begins}
use Rattle.ob_blocks.specs.Blocks.{block_at}
use Rattle.ob_script.specs.Parts.{count_part}
use Rattle.ob_vault.specs.State.{World}
use Rattle.ob_vault.specs.Calls.{none}
use Rattle.ob_vault.specs.Words.{SealsAll}
use Rattle.ob_flat.specs.declared.flat.Flat.{Flat}
use Rattle.ob_flat.specs.declared.fault.OpErr.{OpErr}
use Rattle.ob_flat.specs.declared.fault.OpErr.TheVariants.{Failed, Tampered, Sink, NoMemory}
use Rattle.ob_flat.specs.Slots.{AreSlots}
use Rattle.ob_flat.specs.Flats.{IsWritten, Represents, whole_blocks}
use Rattle.ob_flat.specs.Passes.{SinkCause}
use Rattle.ob_flat.specs.Scans.{MayScan}
use Rattle.ob_flat.specs.Words.{PassRan, TamperedAt, TamperedIn, blocks_of}
use Rattle.ob_flat.specs.Emission.{SlotsToEnd, SlotsToHalt}
use Rattle.ob_emit.specs.declared.slots.Halt.{Halt}
use Rattle.ob_emit.specs.declared.slots.Halt.TheVariants as Halts

-- the row of a slot below the capacity, as it is printed
abbrev pub slot_shown : ℕ → List ℕ → ℕ → Option Row → List (List Shown)
slot_shown capacity cols i None = []
slot_shown capacity cols i (Some row) = if nat_lt i capacity then printed cols row ∷ [] else []

-- those of all slots, counted from i
abbrev pub slots_shown : ℕ → List ℕ → ℕ → Slots → List (List Shown)
slots_shown capacity cols i [] = []
slots_shown capacity cols i (slot ∷ slots) = slot_shown capacity cols i slot ++ slots_shown capacity cols (i + 1) slots

-- those of a table's block at a place
abbrev pub block_shown : (pack : ℕ) → Flat → List ℕ → (place : ℕ) → Slots → List (List Shown)
block_shown pack flat cols place slots = slots_shown flat.capacity cols (place * pack)
    (block_at pack (whole_blocks pack flat.capacity slots) place)

-- those of its first blocks, so many
abbrev pub blocks_shown : (pack : ℕ) → Flat → List ℕ → (done : ℕ) → Slots → List (List Shown)
blocks_shown pack flat cols done slots = slots_shown flat.capacity cols 0
    (take (done * pack) (whole_blocks pack flat.capacity slots))

-- all rows of a table
abbrev pub table_shown : List ℕ → Slots → List (List Shown)
table_shown cols slots = map (printed cols) (rows slots)

-- columns of more than one table are those of a join
abbrev pub is_joined : Columns → Bool
is_joined [] = false
is_joined (c ∷ columns) = list_any (λ (d : Column). not (bytes_eq d.table c.table)) columns

-- the label of the column at a place
abbrev pub label_at : Bool → Columns → ℕ → List ℕ
label_at joins columns i = option_map_or (column_label joins) (slice_get columns i) []

-- the header of the columns at these places
abbrev pub labels_of : Columns → List ℕ → List (List ℕ)
labels_of columns cols = map (label_at (is_joined columns) columns) cols

abbrev pub header : Columns → List ℕ → List Event
header columns cols = Head (labels_of columns cols) ∷ []

-- a failure of the emitter comes only where its count of faults rose, and any other answer leaves it
abbrev pub HaltCause : {T : Type 0} → Result T Halt → ℕ → ℕ → Type 0
HaltCause (Ok x) old new = new ≡ old
HaltCause (Err Halts.Malformed) old new = new ≡ old
HaltCause (Err (Halts.Emit EmitErrs.Failed)) old new = Rises old new
HaltCause (Err (Halts.Emit EmitErrs.NoMemory)) old new = new ≡ old

-- what was emitted until a block's rows halted: some of the rows, or where the emitter gave up its output ends within
-- what it took last
abbrev pub HaltsAs : {E Source : Type 0} → (grew cut : E → E → List Event → Type 0) → Halt
    → (Source → List (List Shown)) → (out_old out_new : E) → Type 0
HaltsAs grew cut Halts.Malformed shown out_old out_new = IsBegun grew [] shown out_old out_new
HaltsAs grew cut (Halts.Emit e) shown out_old out_new =
    IsHalted grew cut (λ s. row_events (shown s)) out_old out_new

-- the same of a pass, after its header
abbrev pub EndsAs : {E Source : Type 0} → (grew cut : E → E → List Event → Type 0) → OpErr
    → (head : List Event) → (Source → List (List Shown)) → (out_old out_new : E) → Type 0
EndsAs grew cut Failed head shown out_old out_new = IsBegun grew head shown out_old out_new
EndsAs grew cut (Tampered region place) head shown out_old out_new =
    IsBegun grew head shown out_old out_new
EndsAs grew cut Sink head shown out_old out_new =
    IsHalted grew cut (λ s. head ++ row_events (shown s)) out_old out_new
EndsAs grew cut NoMemory head shown out_old out_new =
    IsHalted grew cut (λ s. head ++ row_events (shown s)) out_old out_new

-- the error of a pass that halted at this block
abbrev pub halt_error : Halt → ℕ → ℕ → OpErr
halt_error Halts.Malformed region place = Tampered region place
halt_error (Halts.Emit EmitErrs.Failed) region place = Sink
halt_error (Halts.Emit EmitErrs.NoMemory) region place = NoMemory

-- places of columns, no more than a table may have
pub record AreColumns (columns : Columns) (cols : List ℕ) : Type 0 where
  pub few : length cols ≤ 32
  pub within : All (λ i. i < length columns) cols

-- the first bytes spell a slot
pub record IsSlot (columns : Columns) (row : List ℕ) : Type 0 where
  pub slot : Option Row
  pub is : Begins columns slot row

-- the row of the slot of index i was emitted, if it has one below the capacity
pub record EmitsSlot {E : Type 0} (grew cut : E → E → List Event → Type 0) (faults : E → ℕ)
    (flat : Flat) (cols : List ℕ) (i : ℕ) (row : List ℕ)
    (result : Result Bool Halt) (out_old out_new : E) : Type 0 where
  pub below : IfOk result (λ some. IsTrue some → i < flat.capacity)
  pub emitted : IfOk result (λ some. IsEmitted grew []
      (λ (s : IsSlot flat.schema row). slot_shown flat.capacity cols i s.slot)
      0 (if some then 1 else 0) out_old out_new)
  pub halted : IfErr result (λ halt. HaltsAs grew cut halt
      (λ (s : IsSlot flat.schema row). slot_shown flat.capacity cols i s.slot) out_old out_new)
  pub read : OnOk result (IsSlot flat.schema row)
  pub malformed : IfErr result (λ halt. halt ≡ Halts.Malformed → IsSlot flat.schema row → ⊥)
  pub cause : HaltCause result (faults out_old) (faults out_new)

-- the rows of a block were, of which the first slot has this index, behind as many as were seen
pub record EmitsRows {E : Type 0} (grew cut : E → E → List Event → Type 0) (faults : E → ℕ)
    (flat : Flat) (cols : List ℕ) (first seen : ℕ) (rows : List (List ℕ))
    (result : Result ℕ Halt) (out_old out_new : E) : Type 0 where
  pub most : IfOk result (λ k. (k ≤ first + length rows) × (k ≤ flat.capacity))
  pub emitted : IfOk result (λ k. IsEmitted grew []
      (λ (s : AreSlots flat.schema rows). slots_shown flat.capacity cols first s.slots)
      seen k out_old out_new)
  pub halted : IfErr result (λ halt. HaltsAs grew cut halt
      (λ (s : AreSlots flat.schema rows). slots_shown flat.capacity cols first s.slots)
      out_old out_new)
  pub read : OnOk result (AreSlots flat.schema rows)
  pub malformed : IfErr result (λ halt. halt ≡ Halts.Malformed → AreSlots flat.schema rows → ⊥)
  pub cause : HaltCause result (faults out_old) (faults out_new)

-- one block of a table was read, and its rows emitted, behind as many as were seen
pub record EmitsBlock {E : Type 0} (grew cut : E → E → List Event → Type 0) (faults : E → ℕ)
    (pack : ℕ) (flat : Flat) (cols : List ℕ) (place seen : ℕ)
    (result : Result ℕ OpErr) (old new : World) (out_old out_new : E) : Type 0 where
  pub ran : PassRan (read_at flat.region place) none result old new
  pub never : IfErr result (λ e. (e ≡ Failed) ⊎ (e ≡ Sink) ⊎ (e ≡ NoMemory)
      ⊎ TamperedAt pack flat place e new)
  pub seals : SealsAll old new
  pub most : IfOk result (λ k. (k ≤ (place + 1) * pack) × (k ≤ flat.capacity))
  pub emitted : IfOk result (λ k. IsEmitted grew []
      (λ (s : SlotsToEnd pack flat old new). block_shown pack flat cols place s.slots)
      seen k out_old out_new)
  pub halted : IfErr result (λ e. EndsAs grew cut e []
      (λ (s : SlotsToHalt pack flat old new). block_shown pack flat cols place s.slots)
      out_old out_new)
  pub cause : SinkCause result (faults out_old) (faults out_new)
  pub told : (slots : Slots) → Represents pack flat slots old → new.store.lie ≡ None
      → IfErr result (λ e. (e ≡ Failed) ⊎ (e ≡ Sink) ⊎ (e ≡ NoMemory))

-- the first `done` blocks were read, whatever was asked of other regions between the reads, and their k
-- rows emitted: these are shown, of the slots that the table has now
pub record HasEmitted (pack : ℕ) (flat : Flat) (cols : List ℕ) (done k : ℕ)
    (shown : List (List Shown)) (w : World) : Type 0 where
  pub table : MayScan pack flat w
  pub most : (k ≤ done * pack) × (k ≤ flat.capacity)
  pub count : k ≡ length shown
  pub told : (s : SlotsToEnd pack flat w w) → shown ≡ blocks_shown pack flat cols done s.slots

-- each block of a table was read, in order, and its rows emitted after this header
pub record Emits {E : Type 0} (grew cut : E → E → List Event → Type 0) (faults : E → ℕ)
    (pack : ℕ) (flat : Flat) (cols : List ℕ) (head : List Event)
    (result : Result ℕ OpErr) (old new : World) (out_old out_new : E) : Type 0 where
  pub ran : PassRan (count_part flat.region (blocks_of pack flat)) none result old new
  pub never : IfErr result (λ e. (e ≡ Failed) ⊎ (e ≡ Sink) ⊎ (e ≡ NoMemory)
      ⊎ TamperedIn pack flat e new)
  pub seals : SealsAll old new
  pub source : IsWritten pack flat new
  pub most : IfOk result (λ k. k ≤ flat.capacity)
  pub emitted : IfOk result (λ k. IsEmitted grew head
      (λ (s : SlotsToEnd pack flat old new). table_shown cols s.slots) 0 k out_old out_new)
  pub halted : IfErr result (λ e. EndsAs grew cut e head
      (λ (s : SlotsToHalt pack flat old new). table_shown cols s.slots) out_old out_new)
  pub cause : SinkCause result (faults out_old) (faults out_new)
  pub told : (slots : Slots) → Represents pack flat slots old → new.store.lie ≡ None
      → IfErr result (λ e. (e ≡ Failed) ⊎ (e ≡ Sink) ⊎ (e ≡ NoMemory))

-- one block was read, and nothing emitted
pub record WalksBlock {T : Type 0} (pack : ℕ) (flat : Flat) (place : ℕ)
    (result : Result T OpErr) (old new : World) : Type 0 where
  pub ran : PassRan (read_at flat.region place) none result old new
  pub never : IfErr result (λ e. (e ≡ Failed) ⊎ TamperedAt pack flat place e new)
  pub seals : SealsAll old new
  pub told : (slots : Slots) → Represents pack flat slots old → new.store.lie ≡ None
      → IfErr result (λ e. e ≡ Failed)

-- each was read, and nothing emitted
pub record Walks {T : Type 0} (pack : ℕ) (flat : Flat)
    (result : Result T OpErr) (old new : World) : Type 0 where
  pub ran : PassRan (count_part flat.region (blocks_of pack flat)) none result old new
  pub never : IfErr result (λ e. (e ≡ Failed) ⊎ TamperedIn pack flat e new)
  pub seals : SealsAll old new
  pub source : IsWritten pack flat new
  pub told : (slots : Slots) → Represents pack flat slots old → new.store.lie ≡ None
      → IfErr result (λ e. e ≡ Failed)
