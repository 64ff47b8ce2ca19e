use Rattle.ob_vault.specs.Places.{at}
use Rattle.ob_reopen.proofs.TableLemmas.{OpenedUpTo}
use Rattle.ob_reopen.proofs.tables.reopen_tables.Given as goal

abbrev pub invariant-loop-i : goal.invariant-loop-i
invariant-loop-i g l =
    let old = at g.R.Revisions.state l.initial.vault (g.S.BlockStore.state l.initial.store) in
    let now = at g.R.Revisions.state l.vault (g.S.BlockStore.state l.store) in
    OpenedUpTo l.closing l.listed l.i old now
