use Rattle.ob_shell.proofs.Words.{ap, BeginsToSave, faults_of, flying, KeptEnded, machine_of, no_flights, refl, rules, stop_of, subst}
use Rattle.ob_shell.proofs.SavedRunLemmas.{serves_saved}
use Rattle.ob_shell.proofs.TallyLemmas.{plain_whole}
use Rattle.ob_shell.proofs.saving.serve_saving.Goals as goal
use Rattle.ob_shell.specs.EngagingSaved.{ServesSaved}

pub returns-clause-served : goal.returns-clause-served
returns-clause-served g c base config keys secret salt engages =
    let ran = c.serve-served.ensures in
    let ended = c.ended_with.ensures in
    let now = c.serve-served.new in
    let store0 = g.S.BlockStore.state c.args.store.now in
    let k0 = g.K.Keeper.state c.args.keeper.now in
    subst (λ k. ServesSaved g.R.Revisions.state (flying c.args.flight base) keys secret salt c.args.tracing c.plainly.result c.args.feed.now now.feed (g.I.Source.left c.args.input.now) (g.I.Source.left now.input) (g.I.Source.gave now.input)
    (g.O.Sink.written c.args.out.now) (g.O.Sink.written now.out) (g.T.Sink.written c.args.trace.now) (g.T.Sink.written now.trace) store0 (g.S.BlockStore.state now.store)
    (faults_of (g.I.Source.faults c.args.input.now) (g.O.Sink.faults c.args.out.now) (g.T.Sink.faults c.args.trace.now)) (faults_of (g.I.Source.faults now.input) (g.O.Sink.faults now.out) (g.T.Sink.faults now.trace))
    k0 (g.K.Keeper.state k) (BeginsToSave g.R.Revisions.state secret salt base keys (machine_of c.args.engine store0 k0 no_flights))) {x = now.commit.keeper.now} (search rules)
    (rw c.plainly.ensures
    (serves_saved _ base config keys secret salt c.args.engine c.serve-served.new.engine _ _ _ ran.ran.0 _ _ engages _ (rw ended.high c.high.ensures.most) (rw ended.high c.high.ensures.value) c.args.tracing _ _ _ _ _ _ _ _ _ (stop_of c.serve-served.result) _ _
    (rw ended.quiet ran.ran.1) (rw ended.quiet ran.traced) ran.cause (rw ended.quiet ran.quiet) (rw ended.ending refl) ended.tally))

pub returns-clause-took : goal.returns-clause-took
returns-clause-took g c =
    λ refused is. plain_whole c.serve-served.result c.ended_with.result.ending _ refused c.ended_with.ensures.ending (ap (λ (k : KeptEnded). k.ending) c.plainly.ensures) is c.serve-served.ensures.took
