use Rattle.ob_shell.proofs.Words.{arith, false, inr, refl, rules, Tally, true, ◌∙◌, ◌≡◌}
use Rattle.ob_shell.proofs.InFlightLemmas.{named_until, named_whole}
use Rattle.ob_shell.proofs.CountLemmas.{rises_earlier}
use Rattle.ob_shell.proofs.FlightPrints.{counts_whole, prints_behind, prints_lost, prints_until, prints_whole}
use Rattle.ob_shell.proofs.ServeLemmas.{flush_loses, flush_silences, stop_cause}
use Rattle.ob_shell.proofs.flying.fly_stmts.Goals as goal

pub returns-in-Ok-flush-clause-runs : goal.returns-in-Ok-flush-clause-runs
returns-in-Ok-flush-clause-runs g c =
    record {
      done = counts_whole c.args.tally _ _ (prints_whole (λ e. g.K.Sink.written e.printer.out.out.now) (λ e. e.printer.out.waiting.items) (λ e. e.outcomes.now) c.requires.none c.in-Ok.ensures.ran
          (record { took = λ a b events p. (p.0, p.2); ends = λ a b place outcome p. (p.0, p.2); halves = λ a b events p. p.0; parts = λ a b place outcome p. p.0 })
          c.requires.kept c.in-Ok-flush.ensures.cut (λ (h : false ≡ true). absurd (cc))) c.tally_flown.ensures refl;
      stopped = tt;
      cause = search rules;
      quiet = search rules;
    }

pub returns-in-Err-flush-clause-runs : goal.returns-in-Err-flush-clause-runs
returns-in-Err-flush-clause-runs g c =
    record {
      done = tt;
      stopped = inr (prints_behind (λ e. g.K.Sink.written e.printer.out.out.now) (λ e. e.printer.out.waiting.items) (λ e. e.outcomes.now) c.requires.none c.in-Ok.ensures.ran
          (record { took = λ a b events p. (p.0, p.2); ends = λ a b place outcome p. (p.0, p.2); halves = λ a b events p. p.0; parts = λ a b place outcome p. p.0 })
          c.flush.ensures.cut (refl, rises_earlier _ _ _ (omega (arith, c.in-Ok.ensures.ran.sink)) c.in-Err-flush.ensures.cause.failed));
      cause = search rules;
      quiet = search rules;
    }

pub returns-in-SinkFault-clause-runs : goal.returns-in-SinkFault-clause-runs
returns-in-SinkFault-clause-runs g c =
    let ran = rw c.in-SinkFault.is at c.in-Err.ensures.ran in
    record {
      done = tt;
      stopped = inr (prints_lost (λ e. g.K.Sink.written e.printer.out.out.now) (λ e. e.printer.out.waiting.items) (λ e. e.outcomes.now) c.requires.none _ ran
          (record { took = λ a b events p. (p.0, p.2); ends = λ a b place outcome p. (p.0, p.2); halves = λ a b events p. p.0; parts = λ a b place outcome p. p.0 })
          (refl, ran.sink));
      cause = search rules;
      quiet = search rules;
    }

pub returns-in_default-clause-runs : goal.returns-in_default-clause-runs
returns-in_default-clause-runs g c =
    let lost = flush_loses c.in-Err.stop c.flush-in_default.result c.is_err-quiet.result _ _ _ c.in_default.not-SinkFault c.in-Err.ensures.ran.sink c.is_err-quiet.ensures.value c.flush-in_default.ensures.cause in
    record {
      done = tt;
      stopped = inr (prints_until (λ e. g.K.Sink.written e.printer.out.out.now) (λ e. e.printer.out.waiting.items) (λ e. e.outcomes.now) c.requires.none c.in-Err.stop c.in-Err.ensures.ran
          (record { took = λ a b events p. (p.0, p.2); ends = λ a b place outcome p. (p.0, p.2); halves = λ a b events p. p.0; parts = λ a b place outcome p. p.0 })
          c.in_default.not-SinkFault c.flush-in_default.ensures.cut lost);
      cause = stop_cause Tally c.in-Err.stop _ _ _ c.in-Err.ensures.ran.sink c.flush-in_default.ensures.cause.later;
      quiet = flush_silences c.in-Err.stop c.flush-in_default.result c.is_err-quiet.result _ _ _ c.in_default.not-SinkFault c.in-Err.ensures.ran.sink c.is_err-quiet.ensures.value c.flush-in_default.ensures.cause;
    }

-- the sink is the same one
pub returns-in-Ok-flush-clause-same_sink : goal.returns-in-Ok-flush-clause-same_sink
returns-in-Ok-flush-clause-same_sink g c = c.flush.ensures.same_sink ∙ named_whole _ _ _ _ _ _ _ _ _ _ _ _ _ _ _ _ (λ e. e.printer.out.out.ghost_name) c.in-Ok.ensures.ran (record { took = λ a b events p. p.1; ends = λ a b place outcome p. p.1; halves = λ a b events p. p.1; parts = λ a b place outcome p. p.1 })

pub returns-in-Err-flush-clause-same_sink : goal.returns-in-Err-flush-clause-same_sink
returns-in-Err-flush-clause-same_sink g c = c.flush.ensures.same_sink ∙ named_whole _ _ _ _ _ _ _ _ _ _ _ _ _ _ _ _ (λ e. e.printer.out.out.ghost_name) c.in-Ok.ensures.ran (record { took = λ a b events p. p.1; ends = λ a b place outcome p. p.1; halves = λ a b events p. p.1; parts = λ a b place outcome p. p.1 })

pub returns-in-SinkFault-clause-same_sink : goal.returns-in-SinkFault-clause-same_sink
returns-in-SinkFault-clause-same_sink g c = named_until _ _ _ _ _ _ _ _ _ _ _ _ _ _ _ _ (λ e. e.printer.out.out.ghost_name) c.in-Err.stop c.in-Err.ensures.ran (record { took = λ a b events p. p.1; ends = λ a b place outcome p. p.1; halves = λ a b events p. p.1; parts = λ a b place outcome p. p.1 })

pub returns-in_default-clause-same_sink : goal.returns-in_default-clause-same_sink
returns-in_default-clause-same_sink g c = c.flush-in_default.ensures.same_sink ∙ named_until _ _ _ _ _ _ _ _ _ _ _ _ _ _ _ _ (λ e. e.printer.out.out.ghost_name) c.in-Err.stop c.in-Err.ensures.ran (record { took = λ a b events p. p.1; ends = λ a b place outcome p. p.1; halves = λ a b events p. p.1; parts = λ a b place outcome p. p.1 })
