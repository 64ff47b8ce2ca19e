use Rattle.ob_vault.specs.Places.{at}
use Rattle.ob_pass_tests.specs.Tables.{Changed}
use Rattle.ob_pass_tests.proofs.tables.take_steps.Given as goal

abbrev pub invariant-loop-line : goal.invariant-loop-line
invariant-loop-line g l =
    Changed l.initial.room l.room l.initial.flat l.flat
    (at g.R.Revisions.state l.initial.vault (g.S.BlockStore.state l.initial.store)) (at g.R.Revisions.state l.vault (g.S.BlockStore.state l.store))
