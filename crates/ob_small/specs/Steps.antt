-- A Small selection block by block: what each step does, and what the steps so far have come to, whatever was asked of
-- other regions between them.
use Rattle.std.specs.Prelude.{◌≡◌, ◌⊎◌, ◌≤◌, ◌<◌, ◌+◌, ◌++◌, ◌*◌, ℕ, Bool, IsTrue, List, None, Result, OnOk, IfOk, IfErr, MatchResult, length, take}
use Rattle.ob_base.specs.Accesses.{read_at, write_at}
use Rattle.ob_base.specs.Schemas.{Columns, width}
use Rattle.ob_row.specs.Rows.{Row}
use Rattle.ob_row.specs.Slots.{Slots}
use Rattle.ob_vault.specs.declared.region.Region.{Region}
use Rattle.ob_vault.specs.declared.region.Order.{Order}
use Rattle.ob_vault.specs.declared.region.Order.TheVariants.{Any}
use Rattle.ob_vault.specs.State.{World}
use Rattle.ob_vault.specs.Revs.{turn_after}
use Rattle.ob_vault.specs.Tied.{IsOwn, Lives, Written, OnTurn}
use Rattle.ob_vault.specs.Calls.{Only, none, one}
use Rattle.ob_vault.specs.Rows.{Wide}
use Rattle.ob_vault.specs.Words.{IsHonest, SealsAll}
use Rattle.ob_blocks.specs.Blocks.{block_at}
use Rattle.ob_flat.specs.declared.flat.Flat.{Flat}
use Rattle.ob_flat.specs.declared.fault.OpErr.{OpErr}
use Rattle.ob_flat.specs.declared.fault.OpErr.TheVariants.{Failed}
use Rattle.ob_flat.specs.Slots.{AreSlots}
use Rattle.ob_flat.specs.Flats.{HoldsBlock, Represents, table_region, whole_blocks}
use Rattle.ob_flat.specs.Scans.{MayScan}
use Rattle.ob_flat.specs.Words.{PassRan, TamperedAt, SealsTable, blocks_of}
use Rattle.ob_small.specs.Keeping.{AreKept, chosen}
use Rattle.ob_small.specs.Selection.{Selection, HoldsChosen}

-- ---- reading
-- so many selected slots come before, and the rows spell those of them that are kept
pub record AreSeen (columns : Columns) (before : Slots) (seen from k : ℕ)
    (rows : List (List ℕ)) : Type 0 where
  pub count : seen ≡ length before
  pub kept : AreKept columns before from k rows

-- the selected slots in the first u blocks of a table
abbrev pub chosen_in : (pack : ℕ) → Flat → (Row → Bool) → Slots → (u : ℕ) → Slots
chosen_in pack flat p slots u = chosen p (take (u * pack) (whole_blocks pack flat.capacity slots))

-- one block of a table was read, and its selected rows were counted, and kept, with those seen before
pub record CollectsBlock (pack : ℕ) (flat : Flat) (p : Row → Bool) (place seen from k : ℕ)
    (first last : List (List ℕ)) (result : Result ℕ OpErr) (old new : World) : Type 0 where
  pub ran : PassRan (read_at flat.region place) none result old new
  pub never : IfErr result (λ e. (e ≡ Failed) ⊎ TamperedAt pack flat place e new)
  pub seals : SealsAll old new
  pub turns : OnOk result ((q x : ℕ) (shape : Region)
      → OnTurn q shape x old → OnTurn q shape x new)
  pub most : IfOk result (λ n. n ≤ seen + pack)
  pub spells : OnOk result (AreSlots flat.schema first → AreSlots flat.schema last)
  pub told : (slots : Slots) → Represents pack flat slots old → new.store.lie ≡ None
      → MatchResult result
      (λ n. (before : Slots) → AreSeen flat.schema before seen from k first
      → AreSeen flat.schema
      (before ++ chosen p (block_at pack (whole_blocks pack flat.capacity slots) place))
      n from k last)
      (λ e. e ≡ Failed)

-- a pass over a table has come to block u: it has seen so many selected rows, and these are kept
pub record HasCollected (pack : ℕ) (flat : Flat) (p : Row → Bool) (u seen from k : ℕ)
    (rows : List (List ℕ)) (w : World) : Type 0 where
  pub table : MayScan pack flat w
  pub within : u ≤ blocks_of pack flat
  pub few : seen ≤ u * pack
  pub spells : AreSlots flat.schema rows
  pub told : (slots : Slots) → Represents pack flat slots w → w.store.lie ≡ None
      → AreSeen flat.schema (chosen_in pack flat p slots u) seen from k rows

-- ---- writing
-- the rows of a block, wide enough, and each spells a slot
pub record IsBlock (columns : Columns) (rows : List (List ℕ)) : Type 0 where
  pub some : 1 ≤ length rows
  pub wide : Wide (width columns) rows
  pub spells : AreSlots columns rows

-- this run made the region of a table, in whichever order, and a write to this place is in turn
pub record MayWrite (pack : ℕ) (to : Flat) (place : ℕ) (w : World) : Type 0 where
  pub own : IsOwn to.region w
  pub order : Order
  pub lives : Lives to.region (table_region order pack to.schema to.capacity) w
  pub within : place < blocks_of pack to
  pub turn : OnTurn to.region (table_region order pack to.schema to.capacity) place w

-- this run made the region of a table, to be written in any order
pub record IsUnordered (pack : ℕ) (to : Flat) (w : World) : Type 0 where
  pub own : IsOwn to.region w
  pub lives : Lives to.region (table_region Any pack to.schema to.capacity) w

-- the rows of one block were written to this place of a table, and to no other; they are rows or dummies, and where
-- they spell the block of a result of these selected slots, the place holds that
pub record WritesBlock {T : Type 0} (pack : ℕ) (to : Flat) (place : ℕ) (block : List (List ℕ))
    (result : Result T OpErr) (old new : World) : Type 0 where
  pub ran : PassRan (write_at to.region place) (one to.region) result old new
  pub never : IfErr result (λ e. e ≡ Failed)
  pub seals : SealsTable pack to.schema to.region old new
  pub only : Only to.region place old new
  pub turn : (shape : Region) → Lives to.region shape old
      → OnTurn to.region shape (turn_after shape place) new
  pub written : OnOk result (Written to.region place new)
  pub rows : OnOk result (IsTrue old.store.tells
      → HoldsBlock pack to.schema to.region place new)
  pub told : OnOk result (IsTrue old.store.tells → (slots : Slots)
      → AreKept to.schema slots (place * pack) to.capacity block
      → HoldsChosen pack to slots place new)

-- the first x places of the result of a selection were written: they hold rows or dummies, and where the table's slots
-- are told, its blocks
pub record IsFilledTo (s : Selection) (to : Flat) (x : ℕ) (w : World) : Type 0 where
  pub written : (p : ℕ) → p < x → Written to.region p w
  pub rows : IsTrue w.store.tells
      → (p : ℕ) → p < x → HoldsBlock s.pack to.schema to.region p w
  pub told : IsHonest w w → (slots : Slots) → Represents s.pack s.flat slots w
      → (p : ℕ) → p < x → HoldsChosen s.pack to (chosen s.p slots) p w
