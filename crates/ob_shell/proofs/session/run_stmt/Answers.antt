use Rattle.ob_shell.proofs.Words.{ap, arith, events_text, false, machine_of, most_flown, Outputs-by, public_of, refl, rules, Seen, seen_of, skeleton, true, ◌≡◌}
use Rattle.ob_print.proofs.SentLemmas.{Sends-cut, flushed, flushed_cut, flushed_whole}
use Rattle.ob_shell.proofs.CountLemmas.{rises_earlier}
use Rattle.ob_shell.proofs.ServeLemmas.{answered_by, failed_by, finished_by, flush_loses, flush_silences, select_tables, stop_cause, stopped_by}
use Rattle.ob_shell.specs.declared.session.Answered.{Answered}
use Rattle.ob_shell.proofs.session.run_stmt.Goals as goal

pub returns-in-Ok-flush-clause-serves : goal.returns-in-Ok-flush-clause-serves
returns-in-Ok-flush-clause-serves g c = λ flights.
    let on = c.in-Ok.ensures.ran.carried.ran.goes_on in
    let m0 = machine_of c.args.engine.now (g.S.BlockStore.state c.args.store.now) (g.B.Commit.state c.args.commit.now) flights in
    let m1 = machine_of c.run.new.engine (g.S.BlockStore.state c.run.new.store) (g.B.Commit.state c.run.new.commit) flights in
    record {
      most = λ settings. ap (most_flown settings) on.public;
      tables = λ flies. select_tables (public_of c.args.engine.now) (skeleton c.args.stmt.now) (seen_of c.run.new.engine) flies on.public;
      ready = record { agrees = on.agrees; lives = on.lives; settled = c.in-Ok.ensures.ran.carried.ran.settled; saves = c.in-Ok.ensures.saves };
      done = λ h text may spells. rw (ap (λ (s : Seen). s.plan) c.seen.ensures)
          (answered_by g.R.Revisions.state _ _ _ m0 m1 _ _ c.args.stmt.now c.requires.ready.agrees c.requires.alone refl h may _ _ text spells c.in-Ok.outcome c.in-Ok.ensures.ran
          (λ events took. flushed_whole (events_text events) c.requires.none took.0 c.in-Ok-flush.ensures.cut (λ (h : false ≡ true). absurd (cc))));
      stopped = tt;
      cause = search rules;
      quiet = search rules;
    }

pub returns-in-Err-flush-clause-serves : goal.returns-in-Err-flush-clause-serves
returns-in-Err-flush-clause-serves g c = λ flights.
    let m0 = machine_of c.args.engine.now (g.S.BlockStore.state c.args.store.now) (g.B.Commit.state c.args.commit.now) flights in
    let m1 = machine_of c.run.new.engine (g.S.BlockStore.state c.run.new.store) (g.B.Commit.state c.run.new.commit) flights in
    record {
      ready = tt;
      most = λ settings. tt;
      tables = λ flies. tt;
      done = tt;
      stopped = λ h text may spells.
          finished_by g.R.Revisions.state _ _ _ m0 m1 _ _ c.args.stmt.now c.requires.ready.agrees c.requires.alone refl h may _ _ text spells c.in-Ok.outcome c.in-Ok.ensures.ran
          (refl, rises_earlier _ _ _ (omega (arith, c.in-Ok.ensures.ran.sink)) c.in-Err-flush.ensures.cause.failed) (λ events took. flushed_cut (events_text events) c.requires.none took.0 c.flush.ensures.cut);
      cause = search rules;
      quiet = search rules;
    }

pub returns-in-SinkFault-clause-serves : goal.returns-in-SinkFault-clause-serves
returns-in-SinkFault-clause-serves g c = λ flights.
    let serves = rw c.in-SinkFault.is at c.in-Err.ensures.ran in
    let m0 = machine_of c.args.engine.now (g.S.BlockStore.state c.args.store.now) (g.B.Commit.state c.args.commit.now) flights in
    let m1 = machine_of c.run.new.engine (g.S.BlockStore.state c.run.new.store) (g.B.Commit.state c.run.new.commit) flights in
    record {
      ready = tt;
      most = λ settings. tt;
      tables = λ flies. tt;
      done = tt;
      stopped = λ h text may spells.
          failed_by g.R.Revisions.state _ _ _ m0 m1 _ _ c.args.stmt.now c.requires.ready.agrees c.requires.alone refl h may _ _ text spells serves (refl, serves.sink) (λ events began. Sends-cut (events_text events) c.requires.none began.0);
      cause = search rules;
      quiet = search rules;
    }

pub returns-in_default-clause-serves : goal.returns-in_default-clause-serves
returns-in_default-clause-serves g c = λ flights.
    let lost = flush_loses c.in-Err.stop c.flush-in_default.result c.is_err-quiet.result _ _ _ c.in_default.not-SinkFault c.in-Err.ensures.ran.sink c.is_err-quiet.ensures.value c.flush-in_default.ensures.cause in
    let m0 = machine_of c.args.engine.now (g.S.BlockStore.state c.args.store.now) (g.B.Commit.state c.args.commit.now) flights in
    let m1 = machine_of c.run.new.engine (g.S.BlockStore.state c.run.new.store) (g.B.Commit.state c.run.new.commit) flights in
    record {
      ready = tt;
      most = λ settings. tt;
      tables = λ flies. tt;
      done = tt;
      stopped = λ h text may spells.
          stopped_by g.R.Revisions.state _ _ _ m0 m1 _ _ c.args.stmt.now c.requires.ready.agrees c.requires.alone refl h may _ _ text spells c.in-Err.stop c.in_default.not-SinkFault c.in-Err.ensures.ran
          (λ events took. Outputs-by lost (flushed (events_text events) c.requires.none took.0 c.flush-in_default.ensures.cut))
          (λ events began. flushed_cut (events_text events) c.requires.none began.0 c.flush-in_default.ensures.cut);
      cause = stop_cause Answered c.in-Err.stop _ _ _ c.in-Err.ensures.ran.sink c.flush-in_default.ensures.cause.later;
      quiet = flush_silences c.in-Err.stop c.flush-in_default.result c.is_err-quiet.result _ _ _ c.in_default.not-SinkFault c.in-Err.ensures.ran.sink c.is_err-quiet.ensures.value c.flush-in_default.ensures.cause;
    }
