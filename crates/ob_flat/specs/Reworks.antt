-- What is done to one block of a table that is changed in place.
use Rattle.std.specs.Prelude.{◌≡◌, ◌⊎◌, ◌≤◌, ◌<◌, ◌+◌, ◌*◌, ◌==◌, if◌then◌else◌, ℕ, IsTrue, Result, OnOk, IfErr, MatchResult}
use Rattle.ob_script.specs.Parts.{copy_at}
use Rattle.ob_vault.specs.declared.region.Order.{Order}
use Rattle.ob_vault.specs.State.{World}
use Rattle.ob_vault.specs.Calls.{one}
use Rattle.ob_vault.specs.Words.{IsHonest}
use Rattle.ob_row.specs.Slots.{Slots}
use Rattle.ob_blocks.specs.Blocks.{block_at, with_block}
use Rattle.ob_flat.specs.declared.flat.Flat.{Flat}
use Rattle.ob_flat.specs.declared.fault.OpErr.{OpErr}
use Rattle.ob_flat.specs.declared.fault.OpErr.TheVariants.{Failed}
use Rattle.ob_flat.specs.Flats.{FitsRegion, IsInTurn, HoldsSlots, HoldsRows}
use Rattle.ob_flat.specs.Words.{PassRan, TamperedAt, SealsTable, blocks_of}

-- a place of a table that may be read and then written
pub record MayRework (pack : ℕ) (flat : Flat) (place : ℕ) (w : World) : Type 0 where
  pub some : 1 ≤ pack
  pub most : pack ≤ 16
  pub size : FitsRegion pack flat.schema flat.capacity
  pub within : place < blocks_of pack flat
  pub order : Order
  pub turn : IsInTurn order pack flat place w

-- the place after one, or the first
abbrev pub place_behind : ℕ → Flat → ℕ → ℕ
place_behind pack flat place = if place + 1 == blocks_of pack flat then 0 else place + 1

-- where the next write to the table was in turn at this place, it is at the one behind
pub record MovesTurn (pack : ℕ) (flat : Flat) (place : ℕ) (old new : World) : Type 0 where
  pub moves : (order : Order) → IsInTurn order pack flat place old
      → IsInTurn order pack flat (place_behind pack flat place) new

-- a block was read, changed and written to its place again: its slots have become these, and they
-- are rows or dummies, whatever the store gave
pub record Reworks {T : Type 0} (pack : ℕ) (flat : Flat) (place : ℕ)
    (Makes : ℕ → Slots → Slots → Type 0) (Suits : Type 0)
    (result : Result T OpErr) (old new : World) : Type 0 where
  pub ran : PassRan (copy_at flat.region flat.region place) (one flat.region) result old new
  pub never : IfErr result (λ e. (e ≡ Failed) ⊎ TamperedAt pack flat place e new)
  pub seals : SealsTable pack flat.schema flat.region old new
  pub suits : OnOk result Suits
  pub turn : OnOk result (MovesTurn pack flat place old new)
  pub holds : OnOk result (IsTrue old.store.tells
      → HoldsRows pack flat old → HoldsRows pack flat new)
  pub told : IsHonest old new → (slots : Slots) → HoldsSlots pack flat slots old
      → MatchResult result
      (λ _. (made : Slots) × Makes (place * pack) (block_at pack slots place) made
      × HoldsSlots pack flat (with_block pack slots place made) new)
      (λ e. e ≡ Failed)
