use Rattle.ob_shell.proofs.Words.{Access, Appends, arith, inr, List, refl, rules, subst, sym, traced, true, ◌∙◌, ◌≡◌}
use Rattle.ob_shell.proofs.CountLemmas.{traced_cause}
use Rattle.ob_shell.proofs.FlightPrints.{cuts_behind, cuts_unlost}
use Rattle.ob_shell.proofs.LetGoFlights.{counts_from}
use Rattle.ob_shell.proofs.LetGoLemmas.{asked_from}
use Rattle.ob_shell.proofs.TraceLemmas.{lost_trace, since, until}
use Rattle.ob_shell.proofs.flying.serve_flight.Goals as goal

pub trace_from-requires-clause-listed : goal.trace_from-requires-clause-listed
trace_from-requires-clause-listed g c = omega (arith, c.in-Ok.ensures.listed, g.met.S.BlockStore.within_asked c.args.store.now, c.count-asked_before.ensures)

pub trace_from-requires-in-Err-false-clause-listed : goal.trace_from-requires-in-Err-false-clause-listed
trace_from-requires-in-Err-false-clause-listed g c = omega (arith, c.in-Err-false.ensures.listed, g.met.S.BlockStore.within_asked c.args.store.now, c.count-asked_before.ensures)

-- the trace's sink failed
pub returns-in-Err-clause-runs : goal.returns-in-Err-clause-runs
returns-in-Err-clause-runs g c =
    record {
      done = tt;
      stopped = inr (cuts_behind c.in-Ok.ensures.runs.done);
      cause = search rules;
      quiet = search rules;
    }

pub returns-in-Err-true-clause-traced_stop : goal.returns-in-Err-true-clause-traced_stop
returns-in-Err-true-clause-traced_stop g c = lost_trace c.in-Err-true.ensures.asked refl

-- a sink of the answers had failed
pub returns-in-Err-true-clause-runs : goal.returns-in-Err-true-clause-runs
returns-in-Err-true-clause-runs g c =
    let told = c.in-Err-true.ensures.runs in
    let lost : c.in-Err-true.field-0.quiet ≡ true = search rules in
    record {
      done = tt;
      stopped = rw lost at told.stopped;
      cause = traced_cause c.in-Err-true.field-0.stop c.in-Err-true.field-0.stop _ _ _ _ refl told.cause (omega arith);
      quiet = search (told, rules);
    }

pub returns-in-Err-false-clause-runs : goal.returns-in-Err-false-clause-runs
returns-in-Err-false-clause-runs g c =
    let told = c.in-Err-false.ensures.runs in
    record {
      done = tt;
      stopped = cuts_unlost {quiet = c.in-Err-false.field-0.quiet} (search rules) told.stopped;
      cause = traced_cause c.in-Err-false.field-0.stop c.in-Err-false.field-0.stop _ _ _ _ refl told.cause c.trace_from-in-Err-false.ensures.cause.later;
      quiet = search rules;
    }

pub returns-in-Ok-trace_from-clause-runs : goal.returns-in-Ok-trace_from-clause-runs
returns-in-Ok-trace_from-clause-runs g c =
    record {
      done = counts_from _ _ _ _ _ _ _ _ _ _ _ _ _ _ c.let_go_from.ensures c.in-Ok.ensures.runs.done;
      stopped = tt;
      cause = search rules;
      quiet = search rules;
    }

pub returns-in-Ok-trace_from-clause-traced : goal.returns-in-Ok-trace_from-clause-traced
returns-in-Ok-trace_from-clause-traced g c =
    let asked = c.in-Ok.ensures.asked in
    record {
      seen = asked.0;
      grew = asked_from _ _ _ c.let_go_from.ensures ∙ asked.1;
      appends = subst (λ (l : List Access). Appends (g.T.Sink.written c.args.trace.now) (g.T.Sink.written c.trace_from.new.trace) (traced c.args.tracing l)) (since _ _ asked.0 c.count-asked_before.result asked.1 c.count-asked_before.ensures) c.in-Ok-trace_from.ensures.ok;
    }

pub returns-in-Ok-trace_from-clause-took : goal.returns-in-Ok-trace_from-clause-took
returns-in-Ok-trace_from-clause-took g c =
    let asked = c.in-Ok.ensures.asked in
    let before = until _ _ asked.0 c.count-asked_before.result asked.1 c.count-asked_before.ensures in
    subst (λ (l : List Access). g.D.Digester.took c.trace_from.new.digest l) (sym (asked_from _ _ _ c.let_go_from.ensures))
    (c.trace_from.ensures.took (subst (λ (l : List Access). g.D.Digester.took c.args.digest.now l) (sym before) c.requires.took))
