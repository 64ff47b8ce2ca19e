use Rattle.std.proofs.Common.{◌≡◌, ◌*◌, ◌+◌, length}
use Rattle.ob_base.specs.Lists.{each}
use Rattle.ob_vault.specs.Rows.{SameSizes}
use Rattle.ob_vault.specs.Places.{at}
use Rattle.ob_vault.specs.Words.{IsHonest}
use Rattle.ob_row.specs.Slots.{Slots}
use Rattle.ob_row.specs.Truth.{is_true}
use Rattle.ob_blocks.specs.Blocks.{block_at}
use Rattle.ob_flat.specs.Slots.{Spelt}
use Rattle.ob_flat.specs.Flats.{whole_blocks}
use Rattle.ob_hash.specs.Hashing.{slot_part, layout_of}
use Rattle.ob_hash.specs.Selecting.{HasPlaced}
use Rattle.ob_hash.proofs.Kept.{Kept}
use Rattle.ob_hash.proofs.placing.place_rows.Given as goal

abbrev pub invariant-loop-j : goal.invariant-loop-j
invariant-loop-j g l =
    let old = at g.R.Revisions.state l.initial.vault (g.S.BlockStore.state l.initial.store) in
    let now = at g.R.Revisions.state l.vault (g.S.BlockStore.state l.store) in
    let pack = length l.initial.block in
    let layout = layout_of pack l.hashed in
    let p = is_true l.pred in
    record {
      keeps : Kept layout (each l.j (slot_part layout.table.region layout.k layout.depth (l.u * pack))) old now;
      same : SameSizes l.initial.block l.block;
      told : IsHonest old now → (slots : Slots) → length slots ≡ l.flat.capacity → Spelt l.flat.schema (block_at pack (whole_blocks pack l.flat.capacity slots) l.u) l.rows
          → HasPlaced layout p slots (l.u * pack) l.initial.unplaced old → HasPlaced layout p slots (l.u * pack + l.j) l.unplaced now;
    }
