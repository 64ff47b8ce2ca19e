use Rattle.ob_shell.proofs.Words.{Access, Appends, arith, List, machine_of, refl, rules, subst, sym, traced, true, ◌∙◌, ◌≡◌}
use Rattle.ob_shell.proofs.LetGoLemmas.{answers_from, asked_from, ready_from}
use Rattle.ob_shell.proofs.TakesLemmas.{stops_unlost}
use Rattle.ob_shell.proofs.TraceLemmas.{lost_trace, since, until}
use Rattle.ob_tables.specs.declared.stop.RunStop.TheVariants.{SinkFault}
use Rattle.ob_shell.proofs.CountLemmas.{traced_cause}
use Rattle.ob_shell.proofs.StepLemmas.{stops_after}
use Rattle.ob_shell.proofs.session.serve_stmt.Goals as goal

pub trace_from-requires-clause-listed : goal.trace_from-requires-clause-listed
trace_from-requires-clause-listed g c = omega (arith, c.in-Ok.ensures.listed, g.met.S.BlockStore.within_asked c.args.store.now, c.count-asked_before.ensures)

pub trace_from-requires-in-Err-false-clause-listed : goal.trace_from-requires-in-Err-false-clause-listed
trace_from-requires-in-Err-false-clause-listed g c = omega (arith, c.in-Err-false.ensures.listed, g.met.S.BlockStore.within_asked c.args.store.now, c.count-asked_before.ensures)

pub returns-in-Err-clause-serves : goal.returns-in-Err-clause-serves
returns-in-Err-clause-serves g c = λ flights.
    record {
      ready = tt;
      most = λ settings. tt;
      tables = λ flies. tt;
      done = tt;
      stopped = λ h text may spells. stops_after SinkFault refl ((c.in-Ok.ensures.serves flights).done h text may spells);
      cause = search rules;
      quiet = search rules;
    }

-- after a sink's fault nothing was traced
pub returns-in-Err-true-clause-traced_stop : goal.returns-in-Err-true-clause-traced_stop
returns-in-Err-true-clause-traced_stop g c = lost_trace c.in-Err-true.ensures.asked refl

pub returns-in-Err-true-clause-serves : goal.returns-in-Err-true-clause-serves
returns-in-Err-true-clause-serves g c = λ flights.
    let told = c.in-Err-true.ensures.serves flights in
    let lost : c.in-Err-true.field-0.quiet ≡ true = search rules in
    record {
      ready = tt;
      most = λ settings. tt;
      tables = λ flies. tt;
      done = tt;
      stopped = rw lost at told.stopped;
      cause = traced_cause c.in-Err-true.field-0.stop c.in-Err-true.field-0.stop _ _ _ _ refl told.cause (omega arith);
      quiet = search (told, rules);
    }

pub returns-in-Err-false-clause-serves : goal.returns-in-Err-false-clause-serves
returns-in-Err-false-clause-serves g c = λ flights.
    let told = c.in-Err-false.ensures.serves flights in
    record {
      ready = tt;
      most = λ settings. tt;
      tables = λ flies. tt;
      done = tt;
      stopped = λ h text may spells. stops_unlost {quiet = c.in-Err-false.field-0.quiet} (search rules) (told.stopped h text may spells);
      cause = traced_cause c.in-Err-false.field-0.stop c.in-Err-false.field-0.stop _ _ _ _ refl told.cause c.trace_from-in-Err-false.ensures.cause.later;
      quiet = search (told, rules);
    }

pub returns-in-Ok-trace_from-clause-serves : goal.returns-in-Ok-trace_from-clause-serves
returns-in-Ok-trace_from-clause-serves g c = λ flights.
    let serves = c.in-Ok.ensures.serves flights in
    let goes = c.let_go_from.ensures in
    let m0 = machine_of c.args.engine.now (g.S.BlockStore.state c.args.store.now) (g.B.Commit.state c.args.commit.now) flights in
    record {
      ready = ready_from _ m0 _ _ _ goes serves.ready;
      most = serves.most;
      tables = serves.tables;
      done = λ h text may spells. answers_from _ _ _ _ _ c.count-asked_before.ensures goes (serves.done h text may spells);
      stopped = tt;
      cause = search rules;
      quiet = search rules;
    }

pub returns-in-Ok-trace_from-clause-traced : goal.returns-in-Ok-trace_from-clause-traced
returns-in-Ok-trace_from-clause-traced g c =
    let asked = c.in-Ok.ensures.asked in
    record {
      seen = asked.0;
      grew = asked_from _ _ _ c.let_go_from.ensures ∙ asked.1;
      appends = subst (λ (l : List Access). Appends (g.T.Sink.written c.args.trace.now) (g.T.Sink.written c.trace_from.new.trace) (traced c.args.tracing l)) (since _ _ asked.0 c.count-asked_before.result asked.1 c.count-asked_before.ensures) c.in-Ok-trace_from.ensures.ok;
    }

pub returns-in-Ok-trace_from-clause-took : goal.returns-in-Ok-trace_from-clause-took
returns-in-Ok-trace_from-clause-took g c =
    let asked = c.in-Ok.ensures.asked in
    let before = until _ _ asked.0 c.count-asked_before.result asked.1 c.count-asked_before.ensures in
    subst (λ (l : List Access). g.D.Digester.took c.trace_from.new.digest l) (sym (asked_from _ _ _ c.let_go_from.ensures))
    (c.trace_from.ensures.took (subst (λ (l : List Access). g.D.Digester.took c.args.digest.now l) (sym before) c.requires.took))
