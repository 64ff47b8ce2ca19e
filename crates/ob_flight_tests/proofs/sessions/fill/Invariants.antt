use Rattle.ob_flight_tests.specs.Sessions.{IsSession}
use Rattle.ob_flight_tests.proofs.sessions.fill.Given as goal

abbrev pub invariant-loop-text : goal.invariant-loop-text
invariant-loop-text g l = IsSession g.R.Revisions.state l.engine (g.S.BlockStore.state l.store)
