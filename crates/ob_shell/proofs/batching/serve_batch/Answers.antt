use Rattle.ob_shell.proofs.Words.{Access, Appends, arith, drop, inl, inr, length, List, machine_of, Outcome, Outputs, Outputs-by, printed, refl, subst, sym, Tally, traced, true, ◌∙◌, ◌∷◌, ◌≡◌}
use Rattle.std.proofs.lemmas.List.{take_at}
use Rattle.ob_shell.proofs.FlushLemmas.{batch_unsunk, idle_batch, lost_batch, lost_quiet, lost_with, served_batch, stopped_batch, traced_only, traced_quiet}
use Rattle.ob_shell.proofs.LetGoLemmas.{asked_from, batch_from}
use Rattle.ob_shell.proofs.LineLemmas.{counted_all}
use Rattle.ob_shell.proofs.TookLemmas.{traced_to}
use Rattle.ob_shell.proofs.TraceLemmas.{since, traced_none, traced_whole, until}
use Rattle.ob_shell.proofs.batching.serve_batch.Goals as goal
use Rattle.ob_shell.specs.Lines.{BatchCut, line_answers}

pub returns-in_default-clause-serves : goal.returns-in_default-clause-serves
returns-in_default-clause-serves g c = λ flights.
    let m = machine_of c.args.engine.now (g.S.BlockStore.state c.args.store.now) (g.B.Commit.state c.args.commit.now) flights in
    record {
      ready = tt;
      waits = tt;
      done = tt;
      stopped = λ h held comes spelt. idle_batch c.args.tracing _ _ m h refl;
      traced = tt;
      traced_stop = traced_whole _ (traced_none _ _ _);
      cause = ((λ alone. refl, inl refl), omega arith, omega arith);
      quiet = (refl, refl);
    }

-- the store still lists what was asked for them
pub write_batch-requires-clause-listed : goal.write_batch-requires-clause-listed
write_batch-requires-clause-listed g c = omega (arith, c.in-Ok-run_batch.ensures.listed, g.met.S.BlockStore.within_asked c.args.store.now, c.count-asked_before.ensures)

pub trace_from-requires-clause-listed : goal.trace_from-requires-clause-listed
trace_from-requires-clause-listed g c = omega (arith, c.in-Err.ensures.listed, g.met.S.BlockStore.within_asked c.args.store.now, c.count-asked_before.ensures)

pub returns-in-Ok-write_batch-clause-serves : goal.returns-in-Ok-write_batch-clause-serves
returns-in-Ok-write_batch-clause-serves g c = λ flights.
    let s0 = g.S.BlockStore.state c.args.store.now in
    let s1 = g.S.BlockStore.state c.run_batch.new.store in
    let s2 = g.S.BlockStore.state c.let_go_from.new.store in
    let outcome = c.in-Ok-run_batch.outcome in
    let outcomes = c.run_batch.new.outcomes in
    let first = c.in-Ok-run_batch.ensures.ran in
    let split = since s0.asked s1.asked _ _ first.carried.ran.asked c.count-asked_before.ensures in
    let ran = batch_from g.R.Revisions.state c.args.first.now c.args.rest.now outcome outcomes c.args.engine.now s0 c.run_batch.new.engine s1 _ _ c.count-asked_before.result s2 c.let_go_from.ensures first in
    let on = ran.carried.ran.goes_on in
    let now = c.in-Ok-write_batch.ensures in
    let w0 = g.K.Sink.written c.args.out.now in
    let w1 = g.K.Sink.written c.write_batch.new.out in
    let t0 = g.T.Sink.written c.args.trace.now in
    let t1 = g.T.Sink.written c.write_batch.new.trace in
    let size : length outcomes ≡ c.in-Ok.outcomes.len = omega (arith, c.run_batch.auto.outcomes, c.as_mut_slice.ensures.len) in
    let written = c.as_slice.ensures.value ∙ take_at outcomes _ c.in-Ok.outcomes.len size in
    let tallied = c.as_slice-in-Ok-write_batch.ensures.value ∙ take_at outcomes _ c.in-Ok.outcomes.len size in
    record {
      ready = record { agrees = on.agrees; lives = on.lives; settled = ran.carried.ran.settled; saves = c.in-Ok-run_batch.ensures.saves };
      waits = tt;
      done = λ h held comes spelt.
          served_batch g.R.Revisions.state c.args.engine.now c.run_batch.new.engine s0 s2 _ _ flights c.args.first.now c.args.rest.now c.requires.ready.agrees c.requires.batch c.args.tracing h comes held spelt _ _ outcome outcomes ran
          (subst (λ (l : List Outcome). Appends w0 w1 (printed (line_answers (outcome ∷ l)))) written now.ok)
          (counted_all c.args.tally _ _ outcome outcomes _ c.tally_with-counted.ensures tallied c.tally_all.ensures);
      stopped = tt;
      traced = record { seen = _; grew = ran.carried.ran.asked; appends = subst (λ (l : List Access). Appends t0 t1 (traced c.args.tracing l)) split now.traced };
      traced_stop = tt;
      cause = record { source = refl; out = now.cause.0; trace = now.cause.1 };
      quiet = (now.cause.0, now.cause.1);
    }

-- and the digest took it
pub returns-in-Ok-write_batch-clause-took : goal.returns-in-Ok-write_batch-clause-took
returns-in-Ok-write_batch-clause-took g c =
    let s0 = g.S.BlockStore.state c.args.store.now in
    let s1 = g.S.BlockStore.state c.run_batch.new.store in
    let s2 = g.S.BlockStore.state c.let_go_from.new.store in
    let before = until s0.asked s1.asked _ c.count-asked_before.result c.in-Ok-run_batch.ensures.ran.carried.ran.asked c.count-asked_before.ensures in
    subst (λ (l : List Access). g.D.Digester.took c.write_batch.new.digest l) (sym (asked_from _ s1 s2 c.let_go_from.ensures))
    (c.in-Ok-write_batch.ensures.took (subst (λ (l : List Access). g.D.Digester.took c.args.digest.now l) (sym before) c.requires.took))

-- a sink failed
pub returns-in-Ok-run_batch-clause-serves : goal.returns-in-Ok-run_batch-clause-serves
returns-in-Ok-run_batch-clause-serves g c = λ flights.
    let s0 = g.S.BlockStore.state c.args.store.now in
    let s1 = g.S.BlockStore.state c.run_batch.new.store in
    let outcome = c.in-Ok-run_batch.outcome in
    let outcomes = c.run_batch.new.outcomes in
    let ran = c.in-Ok-run_batch.ensures.ran in
    let split = since s0.asked s1.asked _ _ ran.carried.ran.asked c.count-asked_before.ensures in
    let now = c.in-Err-write_batch.ensures in
    let w0 = g.K.Sink.written c.args.out.now in
    let w1 = g.K.Sink.written c.write_batch.new.out in
    let t0 = g.T.Sink.written c.args.trace.now in
    let t1 = g.T.Sink.written c.write_batch.new.trace in
    let size : length outcomes ≡ c.in-Ok.outcomes.len = omega (arith, c.run_batch.auto.outcomes, c.as_mut_slice.ensures.len) in
    let cut = subst (λ (l : List Outcome). BatchCut (outcome ∷ l) w0 w1 t0 t1 (traced c.args.tracing (drop c.count-asked_before.result s1.asked)) (g.K.Sink.faults c.args.out.now) (g.K.Sink.faults c.write_batch.new.out)) (c.as_slice.ensures.value ∙ take_at outcomes _ c.in-Ok.outcomes.len size) now.cut in
    record {
      ready = tt;
      waits = tt;
      done = tt;
      stopped = λ h held comes spelt.
          lost_batch g.R.Revisions.state c.args.engine.now c.run_batch.new.engine s0 s1 _ _ flights c.args.first.now c.args.rest.now c.requires.ready.agrees c.requires.batch c.args.tracing h comes held spelt outcome outcomes ran
          (lost_with (λ rose. (refl, rose)) cut.lines) cut.traced
          (elim cut.behind [
            | inl none ↦ inl none
            | inr appends ↦ inr (traced_to (record { seen = _; grew = ran.carried.ran.asked; appends = subst (λ (l : List Access). Appends t0 t1 (traced c.args.tracing l)) split appends }))
          ]);
      traced = tt;
      traced_stop = record { seen = _; grew = ran.carried.ran.asked; cut = subst (λ (l : List Access). Outputs t0 t1 (true ≡ true) (traced c.args.tracing l)) split (Outputs-by (λ err. refl) now.cut.traced) };
      cause = ((λ alone. refl, inl refl), now.cause.0);
      quiet = now.cause.0;
    }

-- or the engine was stopped
pub returns-clause-serves : goal.returns-clause-serves
returns-clause-serves g c = λ flights.
    let s0 = g.S.BlockStore.state c.args.store.now in
    let s1 = g.S.BlockStore.state c.run_batch.new.store in
    let ran = c.in-Err.ensures.ran in
    let split = since s0.asked s1.asked _ _ ran.carried.ran.asked c.count-asked_before.ensures in
    let cut = c.trace_from.ensures.cut in
    record {
      ready = tt;
      waits = tt;
      done = tt;
      stopped = λ h held comes spelt.
          stopped_batch g.R.Revisions.state c.args.engine.now c.run_batch.new.engine s0 s1 _ _ flights c.args.first.now c.args.rest.now c.requires.ready.agrees c.requires.batch c.args.tracing h comes held spelt c.in-Err.stop _ ran cut;
      traced = tt;
      traced_stop = record {
        seen = _;
        grew = ran.carried.ran.asked;
        cut = subst (λ (l : List Access). Outputs (g.T.Sink.written c.args.trace.now) (g.T.Sink.written c.trace_from.new.trace) (c.is_err-quiet.result ≡ true) (traced c.args.tracing l)) split (Outputs-by (lost_quiet c.trace_from.result c.is_err-quiet.result c.is_err-quiet.ensures.value) cut);
      };
      cause = traced_only Tally c.in-Err.stop (batch_unsunk c.in-Err.stop c.requires.batch ran) _ _ _ c.trace_from.ensures.cause.later;
      quiet = traced_quiet c.trace_from.result c.is_err-quiet.result _ _ _ c.is_err-quiet.ensures.value c.trace_from.ensures.cause;
    }
