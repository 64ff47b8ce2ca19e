use Rattle.ob_shell.proofs.Words.{refl}
use Rattle.ob_shell.proofs.CloseLemmas.{reported_closed}
use Rattle.ob_shell.proofs.CountLemmas.{silenced_kept, silenced_rose}
use Rattle.ob_shell.proofs.TopLemmas.{takes_of}
use Rattle.ob_shell.proofs.top.serve_over.Goals as goal

pub returns-clause-reported : goal.returns-clause-reported
returns-clause-reported g c =
    let run = c.run-ended.ensures in
    let closed = c.close.ensures in
    (c.run-ended.result.tally, reported_closed c.run-ended.result _ _ _ _ closed.status closed.high (takes_of _ run.words tt) run.shown run.cause closed.quiet closed.line (silenced_rose _ _ _ run.quiet) (silenced_kept _ _ _ run.quiet) refl refl)
