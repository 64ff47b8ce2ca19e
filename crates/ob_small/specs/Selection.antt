-- A Small selection: its sizes, what its calls ask, and what they do.
use Rattle.std.specs.Prelude.{◌≡◌, ◌⊎◌, ◌≤◌, ◌<◌, ◌+◌, ◌*◌, ◌==◌, ℕ, Bool, IsTrue, List, None, Result, OnOk, IfOk, IfErr, MatchResult, length, if◌then◌else◌}
use Rattle.std.specs.Int.{div_ceil}
use Rattle.ob_base.specs.declared.access.Access.{Access}
use Rattle.ob_base.specs.Limits.{buffered_blocks}
use Rattle.ob_base.specs.Lists.{each}
use Rattle.ob_base.specs.Numbers.{blocks_for}
use Rattle.ob_base.specs.Schemas.{Columns, width}
use Rattle.ob_room.specs.RoomState.{RoomState}
use Rattle.ob_script.specs.Parts.{count_part, write_from, small_pass, small_part}
use Rattle.ob_row.specs.Condition.{Condition}
use Rattle.ob_row.specs.Rows.{Row}
use Rattle.ob_row.specs.Slots.{Slots, selected, small_slots}
use Rattle.ob_row.specs.Truth.{is_true}
use Rattle.ob_vault.specs.declared.region.Region.{Region}
use Rattle.ob_vault.specs.declared.region.Order.{Order}
use Rattle.ob_vault.specs.declared.region.Order.TheVariants.{Round}
use Rattle.ob_vault.specs.State.{World}
use Rattle.ob_vault.specs.Tied.{IsOwn, Lives, Written, OnTurn, Holds}
use Rattle.ob_vault.specs.Calls.{none, one}
use Rattle.ob_vault.specs.Rows.{Wide}
use Rattle.ob_vault.specs.Words.{IsHonest, SealsAll}
use Rattle.ob_blocks.specs.Blocks.{block_at}
use Rattle.ob_flat.specs.declared.flat.Flat.{Flat}
use Rattle.ob_flat.specs.declared.fault.OpErr.{OpErr}
use Rattle.ob_flat.specs.declared.fault.OpErr.TheVariants.{Failed, NoMemory}
use Rattle.ob_flat.specs.Slots.{AreSlots, block_bytes}
use Rattle.ob_flat.specs.Flats.{IsMade, IsFlat, HoldsBlock, HoldsRows, Represents, table_region, whole_blocks}
use Rattle.ob_flat.specs.Words.{PassRan, TamperedIn, SealsTable, Makes, NoMemoryBehind, blocks_of}
use Rattle.ob_flat.specs.Creates.{make_script}
use Rattle.ob_small.specs.Keeping.{chosen, fitted, AreKept}

-- a table of `pack` slots a block, the test of its rows, how many of these are put into the result, and
-- how many of its blocks are kept at once
pub record Selection : Type 0 where
  pub pack : ℕ
  pub flat : Flat
  pub p : Row → Bool
  pub k : ℕ
  pub buffered : ℕ

abbrev pub select_of : (pack buffered : ℕ) → Flat → Condition → ℕ → Selection
select_of pack buffered flat condition k = record {
  pack = pack;
  flat = flat;
  p = is_true condition;
  k = k;
  buffered = buffered;
}

-- in a room as many are kept as may be open beside two
abbrev pub select_in : RoomState → Flat → Condition → ℕ → Selection
select_in room flat condition k =
    select_of room.pack (buffered_blocks room.pack room.rows) flat condition k

-- the blocks of the table, and of the result
abbrev pub blocks : Selection → ℕ
blocks s = blocks_of s.pack s.flat

abbrev pub results : Selection → ℕ
results s = blocks_for s.pack s.k

-- each pass fills as many blocks of the result as are kept
abbrev pub passes : Selection → ℕ
passes s = div_ceil (results s) s.buffered

abbrev pub table : Selection → ℕ → Flat
table s region = record { schema = s.flat.schema; capacity = s.k; region = region }

-- its slots: those of the first k selected rows, and empty ones where there are fewer
abbrev pub result_slots : Selection → Slots → Slots
result_slots s slots = fitted s.k (small_slots s.p slots)

-- what is asked in a pass, to fill a result, and for a whole selection
abbrev pub pass_script : Selection → ℕ → ℕ → List Access
pass_script s to j = small_pass s.flat.region to (blocks s) (results s) s.buffered j

abbrev pub fill_script : Selection → ℕ → List Access
fill_script s to = each (passes s) (pass_script s to)

abbrev pub select_script : Selection → ℕ → List Access
select_script s to =
    small_part s.flat.region to (blocks s) (results s) s.buffered (s.pack * width s.flat.schema)

-- how many accesses fill it
abbrev pub fill_length : Selection → ℕ
fill_length s = passes s * blocks s + results s

-- these are the rows that are kept: those of so many blocks, and each as wide as the table's
pub record AreBuffers (s : Selection) (kept : List (List ℕ)) : Type 0 where
  pub some : 1 ≤ s.buffered
  pub space : length kept ≡ s.buffered * s.pack
  pub wide : Wide (width s.flat.schema) kept

-- a new table is the result's, and has no blocks yet
pub record IsNew (s : Selection) (to : Flat) (w : World) : Type 0 where
  pub same : to ≡ table s to.region
  pub least : 1 ≤ s.k
  pub most : s.k ≤ 16777216
  pub made : IsMade s.pack to w
  pub apart : s.flat.region ≡ to.region → ⊥

-- rows of n blocks are there, wide enough, and each spells a slot
pub record AreBlocks (columns : Columns) (pack n : ℕ) (rows : List (List ℕ)) : Type 0 where
  pub many : n * pack ≤ length rows
  pub wide : Wide (width columns) rows
  pub spells : AreSlots columns rows

-- a table that this run made is live, and the next write to it is in turn at place n, or, where it has n, at the first
pub record IsNext (pack : ℕ) (flat : Flat) (n : ℕ) (w : World) : Type 0 where
  pub own : IsOwn flat.region w
  pub order : Order
  pub lives : Lives flat.region (table_region order pack flat.schema flat.capacity) w
  pub turn : OnTurn flat.region (table_region order pack flat.schema flat.capacity)
      (if n == blocks_of pack flat then 0 else n) w

-- n places more have a property than those before place `first`
pub record Extends (P : ℕ → World → Type 0) (first n : ℕ) (old new : World) : Type 0 where
  pub each : (p : ℕ) → p < first + n → (p < first → P p old) → P p new

-- place p holds the block of a result of these selected slots
abbrev pub HoldsChosen : ℕ → Flat → Slots → ℕ → World → Type 0
HoldsChosen pack to slots p w =
    Holds to.region p (block_bytes to.schema (block_at pack
    (whole_blocks pack to.capacity (fitted to.capacity slots)) p)) w

-- each block of a table was read once, in order, and of its selected rows those from number `from` on
-- and below k were kept, as many as there is space for
pub record Collects {T : Type 0} (pack : ℕ) (flat : Flat) (p : Row → Bool) (from k : ℕ)
    (kept : List (List ℕ)) (result : Result T OpErr) (old new : World) : Type 0 where
  pub ran : PassRan (count_part flat.region (blocks_of pack flat)) none result old new
  pub never : IfErr result (λ e. (e ≡ Failed) ⊎ TamperedIn pack flat e new)
  pub seals : SealsAll old new
  pub turns : OnOk result ((q x : ℕ) (shape : Region)
      → OnTurn q shape x old → OnTurn q shape x new)
  pub spells : OnOk result (AreSlots flat.schema kept)
  pub told : (slots : Slots) → Represents pack flat slots old → new.store.lie ≡ None
      → MatchResult result
      (λ _. AreKept flat.schema (chosen p slots) from k kept) (λ e. e ≡ Failed)

-- the first n blocks of the kept rows were written to a table from place `first` on, in order; they are
-- rows or dummies, whatever the store gave
pub record Writes {T : Type 0} (pack : ℕ) (to : Flat) (first n : ℕ) (kept : List (List ℕ))
    (result : Result T OpErr) (old new : World) : Type 0 where
  pub ran : PassRan (each n (write_from to.region first)) (one to.region) result old new
  pub never : IfErr result (λ e. e ≡ Failed)
  pub seals : SealsTable pack to.schema to.region old new
  pub next : OnOk result (IsNext pack to (first + n) new)
  pub written : OnOk result (Extends (Written to.region) first n old new)
  pub rows : OnOk result (IsTrue old.store.tells
      → Extends (HoldsBlock pack to.schema to.region) first n old new)
  pub told : OnOk result (IsTrue old.store.tells → (slots : Slots)
      → AreKept to.schema slots (first * pack) to.capacity kept
      → Extends (HoldsChosen pack to slots) first n old new)

-- a new table was filled, pass after pass
pub record Fills {T : Type 0} (s : Selection) (to : ℕ)
    (result : Result T OpErr) (old new : World) : Type 0 where
  pub ran : PassRan (fill_script s to) (one to) result old new
  pub never : IfErr result (λ e. (e ≡ Failed) ⊎ TamperedIn s.pack s.flat e new)
  pub seals : SealsTable s.pack s.flat.schema to old new
  pub filled : OnOk result (IsFlat s.pack (table s to) new)
  pub rows : OnOk result (IsTrue old.store.tells → HoldsRows s.pack (table s to) new)
  pub told : IsHonest old new → (slots : Slots) → Represents s.pack s.flat slots old
      → MatchResult result
      (λ _. Represents s.pack (table s to) (result_slots s slots) new) (λ e. e ≡ Failed)

-- and was made before; where k is the number of the selected rows, it has these and no others
pub record Selects (s : Selection) (result : Result Flat OpErr) (old new : World) : Type 0 where
  pub ran : PassRan (select_script s old.vault.next) (one old.vault.next) result old new
  pub never : IfErr result (λ e. (e ≡ Failed) ⊎ (e ≡ NoMemory) ⊎ TamperedIn s.pack s.flat e new)
  pub memory : NoMemoryBehind (make_script s.pack (table s old.vault.next)) result old new
  pub makes : Makes Round s.pack (table s old.vault.next) result old new
  pub rows : IfOk result (λ fresh. IsTrue old.store.tells → HoldsRows s.pack fresh new)
  pub source : IsFlat s.pack s.flat new
  pub told : IsHonest old new → (slots : Slots) → Represents s.pack s.flat slots old
      → MatchResult result
      (λ fresh. Represents s.pack fresh (result_slots s slots) new)
      (λ e. (e ≡ Failed) ⊎ (e ≡ NoMemory))
  pub exact : IsHonest old new → (slots : Slots) → s.k ≡ length (selected s.p slots)
      → Represents s.pack s.flat slots old
      → IfOk result (λ fresh. Represents s.pack fresh (small_slots s.p slots) new)
