use Rattle.ob_shell.proofs.Words.{faults_of, GeneratedState, None, outside_of, Some, subst}
use Rattle.ob_shell.proofs.salting.salt_generated.Goals as goal
use Rattle.ob_shell.specs.Salting.{RanSalted}

pub returns : goal.returns
returns g c =
    let ended = c.run_salted-ended.result in
    let trace0 = g.T.Sink.faults c.args.trace.now in
    let trace1 = g.T.Sink.faults c.run_salted-ended.new.trace in
    let left = c.run_salted-ended.new.input.left in
    let gave = c.run_salted-ended.new.input.gave in
    let k0 = g.K.Keeper.state c.args.keeper.now in
    let k1 = g.K.Keeper.state c.run_salted-ended.new.keeper in
    record {
      ended = ended;
      left = left;
      gave = gave;
      ran = subst (λ (s : GeneratedState). RanSalted c.args.words.config c.args.words.flight c.args.words.trace ended
          (outside_of (Some s.left) s.gave None (g.T.Sink.written c.args.trace.now) (g.S.BlockStore.state c.args.store.now) (faults_of 0 0 trace0))
          (outside_of (Some left) gave None (g.T.Sink.written c.run_salted-ended.new.trace) (g.S.BlockStore.state c.run_salted-ended.new.store) (faults_of 0 0 trace1)) k0 k1) c.new-input.ensures c.run_salted-ended.ensures.ran;
      high = c.conclude_kept.ensures.high;
      concluded = c.conclude_kept.ensures.concluded;
    }

pub run_salted-ended-requires-clause-took : goal.run_salted-ended-requires-clause-took
run_salted-ended-requires-clause-took g c = rw c.requires.fresh c.new-digest.ensures
