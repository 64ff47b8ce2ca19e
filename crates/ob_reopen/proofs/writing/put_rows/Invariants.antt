use Rattle.ob_vault.specs.Rows.{SameSizes}
use Rattle.ob_vault.specs.Places.{at}
use Rattle.ob_reopen.proofs.WriteLemmas.{WrittenSoFar}
use Rattle.ob_reopen.proofs.writing.put_rows.Given as goal

abbrev pub invariant-loop-place : goal.invariant-loop-place
invariant-loop-place g l =
    let old = at g.R.Revisions.state l.initial.vault (g.S.BlockStore.state l.initial.store) in
    let now = at g.R.Revisions.state l.vault (g.S.BlockStore.state l.store) in
    record {
      written : WrittenSoFar l.region l.listed l.place old now;
      same : SameSizes l.initial.rows l.rows;
    }
