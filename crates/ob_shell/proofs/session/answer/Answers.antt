use Rattle.ob_shell.proofs.Words.{Appends-trans, arith, closing_line, inl, inr, Outputs-after, Outputs-fault, refl, rules, session_stop, Tally, ◌++◌, ◌∙◌}
use Rattle.ob_shell.proofs.CountLemmas.{rises_earlier, same_cause}
use Rattle.ob_shell.proofs.session.answer.Goals as goal
use Rattle.ob_shell.specs.declared.session.Answered.{Answered}

pub returns-in-Ok-write_all-clause-serves : goal.returns-in-Ok-write_all-clause-serves
returns-in-Ok-write_all-clause-serves g c = λ flights.
    let line = c.as_bytes.ensures ∙ c.closing_line.ensures in
    record {
      ready = (c.in-Ok.ensures.serves flights).ready;
      most = (c.in-Ok.ensures.serves flights).most;
      tables = (c.in-Ok.ensures.serves flights).tables;
      done = λ h text may spells. let body = (c.in-Ok.ensures.serves flights).done h text may spells in
          record { answer = _; step = body.step; appends = Appends-trans _ _ _ _ _ body.appends (rw line at c.in-Ok-write_all.ensures.ok); counted = c.tally_with.ensures };
      stopped = tt;
      cause = let told = c.in-Ok.ensures.serves flights in search (told, rules);
      quiet = let told = c.in-Ok.ensures.serves flights in search (told, rules);
    }

pub returns-in-Err-write_all-clause-serves : goal.returns-in-Err-write_all-clause-serves
returns-in-Err-write_all-clause-serves g c = λ flights.
    let line = c.as_bytes.ensures ∙ c.closing_line.ensures in
    record {
      ready = tt;
      most = λ settings. tt;
      tables = λ flies. tt;
      done = tt;
      stopped = λ h text may spells. let body = (c.in-Ok.ensures.serves flights).done h text may spells in record {
        bytes = body.body ++ closing_line c.in-Ok.answered.outcome;
        partly = inr (inr (inl (record { answer = record { outcome = c.in-Ok.answered.outcome; bytes = body.body ++ closing_line c.in-Ok.answered.outcome; plan = c.in-Ok.answered.plan }; step = body.step; whole = refl; fault = refl })));
        cut = Outputs-after _ body.appends (Outputs-fault (refl, rises_earlier _ _ _ (omega (arith, (c.in-Ok.ensures.serves flights).cause.out)) c.in-Err-write_all.ensures.cause.failed) (rw line at c.in-Err-write_all.ensures.cut));
      };
      cause = let told = c.in-Ok.ensures.serves flights in search (told, rules);
      quiet = let told = c.in-Ok.ensures.serves flights in search (told, rules);
    }

pub returns-in-Err-clause-serves : goal.returns-in-Err-clause-serves
returns-in-Err-clause-serves g c = λ flights.
    let told = c.in-Err.ensures.serves flights in
    record {
      ready = tt;
      most = λ settings. tt;
      tables = λ flies. tt;
      done = tt;
      stopped = told.stopped;
      cause = same_cause _ Answered Tally (session_stop c.in-Err.halted.stop) _ _ told.cause;
      quiet = told.quiet;
    }
