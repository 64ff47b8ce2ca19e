use Rattle.std.proofs.Common.{◌+◌, ◌*◌, IsTrue}
use Rattle.ob_base.specs.Lists.{each}
use Rattle.ob_script.specs.Parts.{write_from}
use Rattle.ob_vault.specs.Tied.{Written}
use Rattle.ob_vault.specs.Calls.{Went, one}
use Rattle.ob_vault.specs.Places.{at}
use Rattle.ob_row.specs.Slots.{Slots}
use Rattle.ob_flat.specs.Flats.{HoldsBlock}
use Rattle.ob_flat.specs.Words.{SealsTable}
use Rattle.ob_small.specs.Keeping.{AreKept}
use Rattle.ob_small.specs.Selection.{IsNext, Extends, HoldsChosen}
use Rattle.ob_small.proofs.writing.write_blocks.Given as goal

abbrev pub invariant-loop-x : goal.invariant-loop-x
invariant-loop-x g l =
    let old = at g.R.Revisions.state l.initial.vault (g.S.BlockStore.state l.initial.store) in
    let now = at g.R.Revisions.state l.vault (g.S.BlockStore.state l.store) in
    let to = l.to in
    record {
      went : Went (each l.x (write_from to.region l.first)) (one to.region) old now;
      seals : SealsTable l.pack to.schema to.region old now;
      next : IsNext l.pack to (l.first + l.x) now;
      written : Extends (Written to.region) l.first l.x old now;
      rows : IsTrue old.store.tells → Extends (HoldsBlock l.pack to.schema to.region) l.first l.x old now;
      told : IsTrue old.store.tells → (slots : Slots) → AreKept to.schema slots (l.first * l.pack) to.capacity l.kept → Extends (HoldsChosen l.pack to slots) l.first l.x old now;
    }
