use Rattle.ob_vault.specs.Places.{at}
use Rattle.ob_oram.proofs.WalkWrites.{WritesFirst}
use Rattle.ob_oram.proofs.writing.write_walk.Given as goal

abbrev pub invariant-loop-c : goal.invariant-loop-c
invariant-loop-c g l =
    WritesFirst l.index l.walk l.rows l.c (at g.R.Revisions.state l.initial.vault (g.S.BlockStore.state l.initial.store)) (at g.R.Revisions.state l.vault (g.S.BlockStore.state l.store))
