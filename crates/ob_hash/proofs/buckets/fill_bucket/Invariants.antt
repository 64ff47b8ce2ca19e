use Rattle.std.proofs.Common.{◌≡◌, ◌*◌, Option, length}
use Rattle.ob_base.specs.Lists.{each}
use Rattle.ob_vault.specs.Rows.{SameSizes}
use Rattle.ob_vault.specs.Places.{at}
use Rattle.ob_vault.specs.Words.{IsHonest}
use Rattle.ob_row.specs.Rows.{Row}
use Rattle.ob_row.specs.Slots.{Slots}
use Rattle.ob_row.specs.Spelling.{Begins}
use Rattle.ob_flat.specs.Flats.{HoldsSlots}
use Rattle.ob_hash.specs.Waiting.{waits_after}
use Rattle.ob_hash.specs.Filling.{IsRow}
use Rattle.ob_hash.specs.Hashing.{block_part, layout_of}
use Rattle.ob_hash.proofs.Kept.{Kept}
use Rattle.ob_hash.proofs.Ranges.{blocks_from, shown}
use Rattle.ob_hash.proofs.buckets.fill_bucket.Given as goal

abbrev pub invariant-loop-y : goal.invariant-loop-y
invariant-loop-y g l =
    let old = at g.R.Revisions.state l.initial.vault (g.S.BlockStore.state l.initial.store) in
    let now = at g.R.Revisions.state l.vault (g.S.BlockStore.state l.store) in
    let pack = length l.initial.block in
    let flat = l.hashed.flat.now in
    let first = l.bucket * l.hashed.depth in
    record {
      keeps : Kept (layout_of pack l.hashed) (each l.y (block_part flat.region l.hashed.depth l.bucket)) old now;
      same : SameSizes l.initial.block l.block;
      row : IsRow flat.schema l.filling.row.now;
      told : IsHonest old now → (slots : Slots) (own : Option Row) → HoldsSlots pack flat slots old → Begins flat.schema own l.row
          → (l.filling.row.now ≡ l.row) × (l.filling.waits ≡ waits_after l.waits (blocks_from pack first l.y slots)) × HoldsSlots pack flat (shown pack first l.y l.waits own slots) now;
    }
