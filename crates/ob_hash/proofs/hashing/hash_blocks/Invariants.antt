use Rattle.std.proofs.Common.{◌*◌, [], length, replicate}
use Rattle.ob_base.specs.Lists.{each}
use Rattle.ob_script.specs.Parts.{hash_block}
use Rattle.ob_vault.specs.Rows.{SameSizes}
use Rattle.ob_vault.specs.Places.{at}
use Rattle.ob_vault.specs.Words.{IsHonest}
use Rattle.ob_row.specs.Slots.{Slots}
use Rattle.ob_row.specs.Truth.{is_true}
use Rattle.ob_flat.specs.Flats.{Represents, HoldsSlots}
use Rattle.ob_hash.specs.Bucketed.{spread}
use Rattle.ob_hash.specs.Hashing.{layout_of, bucket_size}
use Rattle.ob_hash.specs.Selecting.{HasPlaced}
use Rattle.ob_hash.proofs.Kept.{Kept}
use Rattle.ob_hash.proofs.hashing.hash_blocks.Given as goal

abbrev pub invariant-loop-u : goal.invariant-loop-u
invariant-loop-u g l =
    let old = at g.R.Revisions.state l.initial.vault (g.S.BlockStore.state l.initial.store) in
    let now = at g.R.Revisions.state l.vault (g.S.BlockStore.state l.store) in
    let pack = length l.initial.rows in
    let layout = layout_of pack l.hashed in
    let flat = l.flat in
    record {
      keeps : Kept layout (each l.u (hash_block flat.region layout.table.region pack flat.capacity layout.k layout.depth)) old now;
      rows : SameSizes l.initial.rows l.rows;
      block : SameSizes l.initial.block l.block;
      told : IsHonest old now → (slots : Slots) → Represents pack flat slots old
          → HoldsSlots pack layout.table (spread (bucket_size layout) slots (replicate layout.k [])) old → HasPlaced layout (is_true l.pred) slots (l.u * pack) l.unplaced now;
    }
