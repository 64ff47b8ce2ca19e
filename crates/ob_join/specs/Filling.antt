-- A result that is filled place by place.
use Rattle.std.specs.Prelude.{◌<◌, ◌==◌, ℕ, if◌then◌else◌}
use Rattle.ob_base.specs.Numbers.{blocks_for}
use Rattle.ob_vault.specs.declared.region.Region.{Region}
use Rattle.ob_vault.specs.declared.region.Order.{Order}
use Rattle.ob_vault.specs.State.{World}
use Rattle.ob_vault.specs.Tied.{IsOwn, Lives, Written, OnTurn, Holds}
use Rattle.ob_row.specs.Slots.{Slots}
use Rattle.ob_blocks.specs.Blocks.{block_at}
use Rattle.ob_flat.specs.declared.flat.Flat.{Flat}
use Rattle.ob_flat.specs.Slots.{block_bytes}
use Rattle.ob_flat.specs.Flats.{table_region}

-- this run made it, its first n places were written, and the next is in turn
pub record IsFilling (pack : ℕ) (flat : Flat) (n : ℕ) (w : World) : Type 0 where
  pub own : IsOwn flat.region w
  pub order : Order
  pub lives : Lives flat.region (table_region order pack flat.schema flat.capacity) w
  pub turn : OnTurn flat.region (table_region order pack flat.schema flat.capacity)
      (if n == blocks_for pack flat.capacity then 0 else n) w
  pub written : (p : ℕ) → p < n → Written flat.region p w

-- they hold the blocks of these slots
pub record HoldsFirst (pack : ℕ) (flat : Flat) (slots : Slots) (n : ℕ) (w : World) : Type 0 where
  pub holds : (p : ℕ) → p < n
      → Holds flat.region p (block_bytes flat.schema (block_at pack slots p)) w

-- each write that was in turn is
pub record TurnsStay (old new : World) : Type 0 where
  pub stay : (q x : ℕ) (shape : Region) → OnTurn q shape x old → OnTurn q shape x new
