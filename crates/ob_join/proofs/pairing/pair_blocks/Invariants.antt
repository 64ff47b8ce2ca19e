use Rattle.std.proofs.Common.{◌+◌, ◌*◌, length}
use Rattle.ob_base.specs.Lists.{each}
use Rattle.ob_base.specs.Numbers.{blocks_for}
use Rattle.ob_script.specs.Parts.{pair_at}
use Rattle.ob_vault.specs.Calls.{Went, one}
use Rattle.ob_vault.specs.Rows.{SameSizes}
use Rattle.ob_vault.specs.Places.{at}
use Rattle.ob_row.specs.Slots.{Slots}
use Rattle.ob_flat.specs.Slots.{Spelt}
use Rattle.ob_flat.specs.Flats.{Represents}
use Rattle.ob_vault.specs.Words.{IsHonest}
use Rattle.ob_flat.specs.Words.{SealsTable}
use Rattle.ob_join.specs.Join.{HasChunk, join_of}
use Rattle.ob_join.specs.Filling.{IsFilling, HoldsFirst}
use Rattle.ob_join.proofs.pairing.pair_blocks.Given as goal

abbrev pub invariant-loop-v : goal.invariant-loop-v
invariant-loop-v g l =
    let old = at g.R.Revisions.state l.initial.vault (g.S.BlockStore.state l.initial.store) in
    let now = at g.R.Revisions.state l.vault (g.S.BlockStore.state l.store) in
    let pack = length l.initial.rows in
    let rights = blocks_for pack l.sides.right.now.capacity in
    let start = l.fn.chunk * rights in
    record {
      went : Went (each l.v (pair_at l.sides.right.now.region l.to.region rights l.fn.chunk)) (one l.to.region) old now;
      seals : SealsTable pack l.to.schema l.to.region old now;
      filling : IsFilling pack l.to (start + l.v) now;
      same : SameSizes l.initial.rows l.rows;
      out : SameSizes l.initial.out l.out;
      told : IsHonest old now → (left right all : Slots) → Spelt l.sides.left.now.schema left l.kept → Represents pack l.sides.right.now right old
          → HasChunk (join_of pack l.sides) l.fn.chunk left right all → HoldsFirst pack l.to all start old → HoldsFirst pack l.to all (start + l.v) now;
    }
