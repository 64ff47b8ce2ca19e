use Rattle.ob_vault.specs.Places.{at}
use Rattle.ob_oram_bench.specs.Sessions.{IsSession}
use Rattle.ob_oram_bench.proofs.lines.take_steps.Given as goal

abbrev pub invariant-loop-step : goal.invariant-loop-step
invariant-loop-step g l = IsSession l.room l.index (at g.R.Revisions.state l.vault (g.S.BlockStore.state l.store))
