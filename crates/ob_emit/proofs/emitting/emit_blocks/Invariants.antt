use Rattle.std.proofs.Common.{◌≡◌, List, length}
use Rattle.ob_base.specs.declared.shown.Shown.{Shown}
use Rattle.ob_base.specs.Events.{Leads, row_events}
use Rattle.ob_base.specs.Lists.{each}
use Rattle.ob_base.specs.Accesses.{read_at}
use Rattle.ob_vault.specs.Calls.{Went, none}
use Rattle.ob_vault.specs.Words.{SealsAll}
use Rattle.ob_vault.specs.Rows.{SameSizes}
use Rattle.ob_vault.specs.Places.{at}
use Rattle.ob_emit.specs.Emitting.{HasEmitted}
use Rattle.ob_emit.proofs.emitting.emit_blocks.Given as goal

abbrev pub invariant-loop-u : goal.invariant-loop-u
invariant-loop-u g l =
    let old = at g.R.Revisions.state l.initial.vault (g.S.BlockStore.state l.initial.store) in
    let now = at g.R.Revisions.state l.vault (g.S.BlockStore.state l.store) in
    record {
      cells : length l.cells ≡ 32;
      went : Went (each l.u (read_at l.flat.region)) none old now;
      seals : SealsAll old now;
      same : SameSizes l.initial.rows l.rows;
      shown : List (List Shown);
      emitted : HasEmitted (length l.initial.rows) l.flat l.cols l.u l.k shown now;
      leads : Leads g.E.Emit.grew g.E.Emit.grew l.initial.out l.out (row_events shown);
      faults : g.E.Emit.faults l.out ≡ g.E.Emit.faults l.initial.out;
    }
