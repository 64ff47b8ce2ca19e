use Rattle.std.proofs.Common.{◌*◌, min, IsTrue, take, length}
use Rattle.ob_base.specs.Lists.{each}
use Rattle.ob_script.specs.Parts.{continuous_block}
use Rattle.ob_vault.specs.Calls.{Went, one}
use Rattle.ob_vault.specs.Rows.{SameSizes}
use Rattle.ob_vault.specs.Places.{at}
use Rattle.ob_vault.specs.Words.{IsHonest}
use Rattle.ob_row.specs.Slots.{Slots}
use Rattle.ob_row.specs.Truth.{is_true}
use Rattle.ob_blocks.specs.Blocks.{scanned}
use Rattle.ob_flat.specs.Flats.{IsInTurn, HoldsSlots, HoldsRows, Represents}
use Rattle.ob_flat.specs.Words.{SealsTable}
use Rattle.ob_cont.specs.Putting.{order_for, put_at, place_of}
use Rattle.ob_cont.proofs.filling.fill_result.Given as goal

abbrev pub invariant-loop-u : goal.invariant-loop-u
invariant-loop-u g l =
    let old = at g.R.Revisions.state l.initial.vault (g.S.BlockStore.state l.initial.store) in
    let now = at g.R.Revisions.state l.vault (g.S.BlockStore.state l.store) in
    let pack = length l.initial.held in
    let n = l.flat.capacity in
    record {
      went : Went (each l.u (continuous_block l.flat.region l.to.region pack n l.to.capacity)) (one l.to.region) old now;
      seals : SealsTable pack l.to.schema l.to.region old now;
      same : SameSizes l.initial.rows l.rows;
      held : SameSizes l.initial.held l.held;
      turn : IsInTurn (order_for pack) pack l.to (place_of pack l.to.capacity (min (l.u * pack) n)) now;
      rows : IsTrue old.store.tells → HoldsRows pack l.to old → HoldsRows pack l.to now;
      told : IsHonest old now → (slots made : Slots) → Represents pack l.flat slots old → HoldsSlots pack l.to made old
          → HoldsSlots pack l.to (scanned (put_at l.to.capacity (is_true l.pred)) 0 made (take (l.u * pack) slots)) now;
    }
