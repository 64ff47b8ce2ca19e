-- What a Continuous selection does with one row, with a block of a table, and with all of it.
use Rattle.std.specs.Prelude.{◌≡◌, ◌⊎◌, ◌≤◌, ◌<◌, ◌+◌, ◌*◌, ◌%◌, ℕ, Bool, List, IsTrue, Option, None, Result, OnOk, OnErr, IfOk, IfErr, MatchResult, length, take}
use Rattle.ob_base.specs.declared.access.Access.{Access}
use Rattle.ob_base.specs.Lists.{each}
use Rattle.ob_base.specs.Numbers.{blocks_for}
use Rattle.ob_base.specs.Schemas.{width}
use Rattle.ob_script.specs.Parts.{copy_at, slots_in, continuous_block, continuous_part}
use Rattle.ob_row.specs.Rows.{Row}
use Rattle.ob_row.specs.Results.{RowTest, continuous_slots}
use Rattle.ob_row.specs.Slots.{Slots, selected, is_consecutive}
use Rattle.ob_row.specs.Spelling.{Begins}
use Rattle.ob_vault.specs.State.{World}
use Rattle.ob_vault.specs.Tied.{Lives}
use Rattle.ob_vault.specs.Calls.{one}
use Rattle.ob_vault.specs.Rows.{Wide}
use Rattle.ob_vault.specs.Words.{IsHonest}
use Rattle.ob_blocks.specs.Blocks.{scanned}
use Rattle.ob_flat.specs.declared.flat.Flat.{Flat}
use Rattle.ob_flat.specs.declared.fault.OpErr.{OpErr}
use Rattle.ob_flat.specs.declared.fault.OpErr.TheVariants.{Failed, NoMemory}
use Rattle.ob_flat.specs.Slots.{Spelt, AreSlots}
use Rattle.ob_flat.specs.Flats.{IsSized, FitsRegion, IsInTurn, IsFlat, IsWritten, HoldsSlots, HoldsRows, Represents, table_region}
use Rattle.ob_flat.specs.Words.{PassRan, TamperedAt, TamperedIn, SealsTable, NoMemoryBehind, FitBlock, blocks_of}
use Rattle.ob_flat.specs.Creates.{make_script, table_of}
use Rattle.ob_cont.specs.Putting.{order_for, put_if, put_at, put_slots, place_of, put_part}

-- what is asked to put the rows of block u, and those of all blocks of a table
abbrev pub block_script : ℕ → Flat → Flat → ℕ → List Access
block_script pack flat to u =
    each (slots_in pack flat.capacity u) (put_part to.region pack to.capacity u)

abbrev pub fill_script : ℕ → Flat → Flat → List Access
fill_script pack flat to =
    each (blocks_of pack flat)
    (continuous_block flat.region to.region pack flat.capacity to.capacity)

-- and for a whole selection
abbrev pub select_script : ℕ → Flat → ℕ → ℕ → List Access
select_script pack flat k to =
    continuous_part flat.region to pack flat.capacity k (pack * width flat.schema)

-- how many accesses they are
abbrev pub fill_length : ℕ → Flat → ℕ
fill_length pack flat = blocks_of pack flat + 2 * flat.capacity

abbrev pub select_length : ℕ → Flat → ℕ → ℕ
select_length pack flat k = 1 + blocks_for pack k + fill_length pack flat

-- a result in which the place of slot i may be written next
pub record IsDue (pack : ℕ) (to : Flat) (i : ℕ) (w : World) : Type 0 where
  pub some : 1 ≤ pack
  pub most : pack ≤ 16
  pub size : FitsRegion pack to.schema to.capacity
  pub turn : IsInTurn (order_for pack) pack to (place_of pack to.capacity i) w

-- a result of a table each of whose places was written, the first of which may be next
pub record IsTarget (pack : ℕ) (flat to : Flat) (w : World) : Type 0 where
  pub apart : flat.region ≡ to.region → ⊥
  pub schema : to.schema ≡ flat.schema
  pub size : FitsRegion pack to.schema to.capacity
  pub turn : IsInTurn (order_for pack) pack to 0 w

-- the rows of block u of a table
pub record IsBlock (pack : ℕ) (flat : Flat) (u : ℕ) (rows : List (List ℕ)) : Type 0 where
  pub size : IsSized flat.schema flat.capacity
  pub within : u < blocks_of pack flat
  pub count : length rows ≡ pack
  pub wide : Wide (width flat.schema) rows
  pub spells : AreSlots flat.schema rows

-- rows for a block of a table, and for one of its result
pub record AreBuffers (flat : Flat) (rows held : List (List ℕ)) : Type 0 where
  pub count : length rows ≡ length held
  pub rows_fit : FitBlock flat.schema rows
  pub held_fit : FitBlock flat.schema held

-- the block with the place of slot i was read and written, with the slot's row where it is selected
pub record PutsRow {T : Type 0} (pack : ℕ) (to : Flat) (i : ℕ) (row : List ℕ) (is_put : Bool)
    (result : Result T OpErr) (old new : World) : Type 0 where
  pub ran : PassRan (copy_at to.region to.region (place_of pack to.capacity i)) (one to.region)
      result old new
  pub never : IfErr result (λ e. (e ≡ Failed)
      ⊎ TamperedAt pack to (place_of pack to.capacity i) e new)
  pub seals : SealsTable pack to.schema to.region old new
  pub turn : OnOk result
      (IsInTurn (order_for pack) pack to (place_of pack to.capacity (i + 1)) new)
  pub rows : OnOk result (IsTrue old.store.tells → HoldsRows pack to old → HoldsRows pack to new)
  pub told : IsHonest old new → (there : Option Row) (made : Slots)
      → Begins to.schema there row → HoldsSlots pack to made old
      → MatchResult result
      (λ _. HoldsSlots pack to (put_if is_put (i % to.capacity) there made) new)
      (λ e. e ≡ Failed)

-- the same for each slot of block u of a table, whose rows these are
pub record PutsBlock {T : Type 0} (pack : ℕ) (flat : Flat) (p : RowTest) (to : Flat) (u : ℕ)
    (block : List (List ℕ)) (result : Result T OpErr) (old new : World) : Type 0 where
  pub ran : PassRan (block_script pack flat to u) (one to.region) result old new
  pub never : IfErr result (λ e. (e ≡ Failed) ⊎ TamperedIn pack to e new)
  pub seals : SealsTable pack to.schema to.region old new
  pub turn : OnOk result (IsInTurn (order_for pack) pack to
      (place_of pack to.capacity (u * pack + slots_in pack flat.capacity u)) new)
  pub rows : OnOk result (IsTrue old.store.tells → HoldsRows pack to old → HoldsRows pack to new)
  pub told : IsHonest old new → (slots made : Slots)
      → Spelt flat.schema slots block → HoldsSlots pack to made old
      → MatchResult result
      (λ _. HoldsSlots pack to
      (scanned (put_at to.capacity p) (u * pack) made (take (slots_in pack flat.capacity u) slots))
      new)
      (λ e. e ≡ Failed)

-- and for each slot of a table, whose blocks were read
pub record Fills {T : Type 0} (pack : ℕ) (flat : Flat) (p : RowTest) (to : Flat)
    (result : Result T OpErr) (old new : World) : Type 0 where
  pub ran : PassRan (fill_script pack flat to) (one to.region) result old new
  pub never : IfErr result (λ e. (e ≡ Failed)
      ⊎ TamperedIn pack flat e new ⊎ TamperedIn pack to e new)
  pub seals : SealsTable pack to.schema to.region old new
  pub written : OnOk result (IsWritten pack to new)
  pub rows : OnOk result (IsTrue old.store.tells → HoldsRows pack to old → HoldsRows pack to new)
  pub told : IsHonest old new → (slots made : Slots)
      → Represents pack flat slots old → HoldsSlots pack to made old
      → MatchResult result
      (λ _. HoldsSlots pack to (scanned (put_at to.capacity p) 0 made slots) new)
      (λ e. e ≡ Failed)

-- and the result was made and filled with dummies before, or is gone
pub record Selects (pack : ℕ) (flat : Flat) (p : RowTest) (k : ℕ)
    (result : Result Flat OpErr) (old new : World) : Type 0 where
  pub ran : PassRan (select_script pack flat k old.vault.next) (one old.vault.next) result old new
  pub never : IfErr result (λ e. (e ≡ Failed) ⊎ (e ≡ NoMemory)
      ⊎ TamperedIn pack flat e new
      ⊎ TamperedIn pack (table_of flat.schema k old.vault.next) e new)
  pub memory : NoMemoryBehind (make_script pack (table_of flat.schema k old.vault.next))
      result old new
  pub value : IfOk result (λ fresh. fresh ≡ table_of flat.schema k old.vault.next)
  pub lives : OnOk result (Lives old.vault.next
      (table_region (order_for pack) pack flat.schema k) new)
  pub written : IfOk result (λ fresh. IsWritten pack fresh new)
  pub rows : IfOk result (λ fresh. IsTrue old.store.tells → HoldsRows pack fresh new)
  pub gone : OnErr result (new.vault.revs.live old.vault.next ≡ None)
  pub seals : SealsTable pack flat.schema old.vault.next old new
  pub source : IsFlat pack flat new
  pub told : IsHonest old new → (slots : Slots) → Represents pack flat slots old
      → MatchResult result
      (λ fresh. Represents pack fresh (put_slots k p slots) new)
      (λ e. (e ≡ Failed) ⊎ (e ≡ NoMemory))
  -- where k rows are selected, from slots that follow one another, it has them all
  pub exact : IsHonest old new → (slots : Slots) → k ≡ length (selected p slots)
      → IsTrue (is_consecutive (selected p slots)) → Represents pack flat slots old
      → IfOk result (λ fresh. Represents pack fresh (continuous_slots k p slots) new)
