use Rattle.std.proofs.Common.{◌≡◌, ◌≤◌, ◌<◌, ◌==◌, ◌*◌, if◌then◌else◌, ℕ, IsTrue, take, length, count_by}
use Rattle.ob_base.specs.Lists.{each}
use Rattle.ob_base.specs.Numbers.{blocks_for}
use Rattle.ob_script.specs.Parts.{copy_at}
use Rattle.ob_vault.specs.declared.region.Order.{Order}
use Rattle.ob_vault.specs.Calls.{Went, one}
use Rattle.ob_vault.specs.Tied.{Lives, OnTurn, Written, Holds}
use Rattle.ob_vault.specs.Rows.{SameSizes}
use Rattle.ob_vault.specs.Places.{at}
use Rattle.ob_blocks.specs.Blocks.{block_at, map_at}
use Rattle.ob_row.specs.Slots.{Slots}
use Rattle.ob_flat.specs.Slots.{block_bytes}
use Rattle.ob_flat.specs.Flats.{HoldsBlock, Represents, table_region, whole_blocks}
use Rattle.ob_vault.specs.Words.{IsHonest}
use Rattle.ob_flat.specs.Words.{SealsTable}
use Rattle.ob_flat.proofs.swap.swap_blocks.Given as goal

abbrev pub invariant-loop-u : goal.invariant-loop-u
invariant-loop-u g l =
    let old = at g.R.Revisions.state l.initial.vault (g.S.BlockStore.state l.initial.store) in
    let now = at g.R.Revisions.state l.vault (g.S.BlockStore.state l.store) in
    let pack = length l.initial.rows in
    let blocks = blocks_for pack l.flat.capacity in
    record {
      went : Went (each l.u (copy_at l.flat.region l.to)) (one l.to) old now;
      seals : SealsTable pack l.flat.schema l.to old now;
      order : Order;
      lives : Lives l.to (table_region order pack l.flat.schema l.flat.capacity) now;
      turn : OnTurn l.to (table_region order pack l.flat.schema l.flat.capacity) (if l.u == blocks then 0 else l.u) now;
      written : (p : ℕ) → p < l.u → Written l.to p now;
      same : SameSizes l.initial.rows l.rows;
      few : l.k ≤ l.u * pack;
      holds : IsTrue old.store.tells → (p : ℕ) → p < l.u → HoldsBlock pack l.flat.schema l.to p now;
      told : IsHonest old now → (slots : Slots) → Represents pack l.flat slots old
          → (l.k ≡ count_by (g.C.Change.picks l.change) (take (l.u * pack) (whole_blocks pack l.flat.capacity slots)))
          × ((p : ℕ) → p < l.u → Holds l.to p (block_bytes l.flat.schema (block_at pack (map_at (g.C.Change.to l.change) 0 (whole_blocks pack l.flat.capacity slots)) p)) now);
    }
