use Rattle.ob_shell.proofs.Words.{ap, GeneratedState}
use Rattle.ob_shell.proofs.CountLemmas.{silenced_kept, silenced_rose}
use Rattle.ob_shell.proofs.GeneratingLemmas.{ran_generated, concludes_at, concludes_by, trace_rose, traced_by_fault}
use Rattle.ob_shell.proofs.TopLemmas.{takes_of}
use Rattle.ob_shell.proofs.generating.serve_generated.Goals as goal

pub returns : goal.returns
returns g c =
    let run = c.run-ended.ensures in
    let ended = c.run-ended.result in
    let trace0 = g.T.Sink.faults c.args.trace.now in
    let trace1 = g.T.Sink.faults c.run-ended.new.trace in
    let rose = silenced_rose ended.quiet _ _ run.quiet in
    let asked = (g.S.BlockStore.state c.run-ended.new.store).asked in
    let report = c.conclude.result in
    ran_generated c.args.seed c.run-ended.new.input.left ended.ending ended.high trace0 trace1 _ _ report (takes_of ended.ending run.words tt)
    (rw (ap (λ (s : GeneratedState). s.left) c.new-input.ensures) at run.shown) run.cause (traced_by_fault rose run.traced)
    (concludes_at ended.high c.conclude.ensures.high
    (concludes_by ended.tally asked _ _ trace0 trace1 _ _ report ended.ending ended.quiet c.conclude.ensures.concluded (λ quiet. trace_rose trace0 trace1 (rose quiet))
    (silenced_kept ended.quiet _ _ run.quiet) _ run.cause))

pub run-ended-requires-clause-took : goal.run-ended-requires-clause-took
run-ended-requires-clause-took g c = rw c.requires.fresh c.new-digest.ensures
