use Rattle.std.proofs.Common.{◌≡◌, length}
use Rattle.ob_vault.specs.Rows.{SameSizes}
use Rattle.ob_vault.specs.Places.{at}
use Rattle.ob_row.specs.Slots.{Slots}
use Rattle.ob_oram.specs.Opens.{IsOpen}
use Rattle.ob_oram.specs.Walking.{OpensWalk}
use Rattle.ob_oram.proofs.WalkReads.{ReadsFirst}
use Rattle.ob_oram.proofs.reading.read_walk.Given as goal

abbrev pub invariant-loop-c : goal.invariant-loop-c
invariant-loop-c g l =
    let old = at g.R.Revisions.state l.initial.vault (g.S.BlockStore.state l.initial.store) in
    let now = at g.R.Revisions.state l.vault (g.S.BlockStore.state l.store) in
    record {
      reads : ReadsFirst l.index l.walk l.c old now;
      same : SameSizes l.initial.rows l.rows;
      buffer : length l.buffer ≡ length l.initial.buffer;
      opens : (slots : Slots) → IsOpen l.index l.remap slots l.initial.buffer l.initial.rows
          → (after : Slots) × IsOpen l.index l.remap after l.buffer l.rows × OpensWalk l.index l.walk l.c slots after old now;
    }
