use Rattle.std.proofs.Common.{◌*◌, min, length}
use Rattle.ob_base.specs.Lists.{each}
use Rattle.ob_vault.specs.Calls.{Went, one}
use Rattle.ob_vault.specs.Rows.{SameSizes}
use Rattle.ob_vault.specs.Places.{at}
use Rattle.ob_flat.specs.Words.{SealsTable}
use Rattle.ob_small.specs.Selection.{IsNext, select_of, results, pass_script}
use Rattle.ob_small.specs.Steps.{IsFilledTo}
use Rattle.ob_small.proofs.filling.fill_result.Given as goal

abbrev pub invariant-loop-j : goal.invariant-loop-j
invariant-loop-j g l =
    let old = at g.R.Revisions.state l.initial.vault (g.S.BlockStore.state l.initial.store) in
    let now = at g.R.Revisions.state l.vault (g.S.BlockStore.state l.store) in
    let pack = length l.initial.rows in
    let to = l.to in
    let s = select_of pack l.buffered l.flat l.pred to.capacity in
    let done = min (l.j * l.buffered) (results s) in
    record {
      went : Went (each l.j (pass_script s to.region)) (one to.region) old now;
      seals : SealsTable pack l.flat.schema to.region old now;
      rows : SameSizes l.initial.rows l.rows;
      kept : SameSizes l.initial.kept l.kept;
      next : IsNext pack to done now;
      filled : IsFilledTo s to done now;
    }
