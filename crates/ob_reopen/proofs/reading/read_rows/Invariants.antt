use Rattle.std.proofs.Common.{◌+◌, ◌≤◌, vec_capacity}
use Rattle.ob_vault.specs.Rows.{SameSizes}
use Rattle.ob_vault.specs.Places.{at}
use Rattle.ob_reopen.proofs.ReadLemmas.{ReadSoFar}
use Rattle.ob_reopen.proofs.reading.read_rows.Given as goal

abbrev pub invariant-loop-place : goal.invariant-loop-place
invariant-loop-place g l =
    let old = at g.R.Revisions.state l.initial.vault (g.S.BlockStore.state l.initial.store) in
    let now = at g.R.Revisions.state l.vault (g.S.BlockStore.state l.store) in
    record {
      read : ReadSoFar l.closing l.place l.listed.items old now;
      same : SameSizes l.initial.rows l.rows;
      space : l.closing.blocks ≤ 1 + vec_capacity l.listed;
    }
