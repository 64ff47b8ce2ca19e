use Rattle.std.proofs.Common.{◌==◌, if◌then◌else◌, IsTrue, length}
use Rattle.ob_base.specs.Lists.{each}
use Rattle.ob_script.specs.Parts.{copy_at}
use Rattle.ob_vault.specs.declared.region.Order.{Order}
use Rattle.ob_vault.specs.Calls.{Went, one}
use Rattle.ob_vault.specs.Rows.{SameSizes}
use Rattle.ob_vault.specs.Places.{at}
use Rattle.ob_row.specs.Slots.{Slots, kept}
use Rattle.ob_row.specs.Truth.{is_true}
use Rattle.ob_flat.specs.Flats.{IsInTurn, HoldsSlots, HoldsRows, Represents, whole_blocks}
use Rattle.ob_vault.specs.Words.{IsHonest}
use Rattle.ob_flat.specs.Words.{SealsTable, blocks_of}
use Rattle.ob_large.proofs.Halfway.{half}
use Rattle.ob_large.proofs.emptying.empty_unselected.Given as goal

abbrev pub invariant-loop-u : goal.invariant-loop-u
invariant-loop-u g l =
    let old = at g.R.Revisions.state l.initial.vault (g.S.BlockStore.state l.initial.store) in
    let now = at g.R.Revisions.state l.vault (g.S.BlockStore.state l.store) in
    let pack = length l.initial.rows in
    let flat = l.flat in
    record {
      went : Went (each l.u (copy_at flat.region flat.region)) (one flat.region) old now;
      seals : SealsTable pack flat.schema flat.region old now;
      order : Order;
      turn : IsInTurn order pack flat (if l.u == blocks_of pack flat then 0 else l.u) now;
      same : SameSizes l.initial.rows l.rows;
      holds : IsTrue old.store.tells → HoldsRows pack flat old → HoldsRows pack flat now;
      told : IsHonest old now → (slots : Slots) → Represents pack flat slots old
          → HoldsSlots pack flat (half (kept (is_true l.pred)) pack l.u (whole_blocks pack flat.capacity slots)) now;
    }
