use Rattle.ob_vault.specs.Places.{at}
use Rattle.ob_oram_bench.specs.Sessions.{IsSession}
use Rattle.ob_oram_bench.proofs.runs.full_load.Given as goal

abbrev pub invariant-loop-i : goal.invariant-loop-i
invariant-loop-i g l = IsSession l.room l.index (at g.R.Revisions.state l.vault (g.S.BlockStore.state l.store))
