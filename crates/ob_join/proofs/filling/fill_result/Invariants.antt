use Rattle.std.proofs.Common.{◌≡◌, ◌*◌, length}
use Rattle.ob_base.specs.Lists.{each}
use Rattle.ob_vault.specs.Calls.{Went, one}
use Rattle.ob_vault.specs.Rows.{SameSizes}
use Rattle.ob_vault.specs.Places.{at}
use Rattle.ob_row.specs.Slots.{Slots}
use Rattle.ob_flat.specs.Flats.{Represents}
use Rattle.ob_vault.specs.Words.{IsHonest}
use Rattle.ob_flat.specs.Words.{SealsTable}
use Rattle.ob_join.specs.Join.{join_of, rights, columns, chunk_script, result_slots}
use Rattle.ob_join.specs.Filling.{IsFilling, HoldsFirst}
use Rattle.ob_join.proofs.filling.fill_result.Given as goal

abbrev pub invariant-loop-chunk : goal.invariant-loop-chunk
invariant-loop-chunk g l =
    let old = at g.R.Revisions.state l.initial.vault (g.S.BlockStore.state l.initial.store) in
    let now = at g.R.Revisions.state l.vault (g.S.BlockStore.state l.store) in
    let pack = length l.initial.rows in
    let j = join_of pack l.sides in
    record {
      went : Went (each l.chunk (chunk_script j l.to.region)) (one l.to.region) old now;
      seals : SealsTable pack (columns j) l.to.region old now;
      most : l.order.most ≡ l.initial.order.most;
      kept : SameSizes l.initial.kept l.kept;
      rows : SameSizes l.initial.rows l.rows;
      out : SameSizes l.initial.out l.out;
      filling : IsFilling pack l.to (l.chunk * rights j) now;
      told : IsHonest old now → (left right : Slots) → Represents pack j.left left old → Represents pack j.right right old
          → HoldsFirst pack l.to (result_slots j left right) (l.chunk * rights j) now;
    }
