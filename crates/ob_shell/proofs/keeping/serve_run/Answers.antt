use Rattle.ob_shell.proofs.Words.{ap, Err, inl, inr, KeptEnded, refl, told_nothing}
use Rattle.ob_shell.proofs.FewLemmas.{session_few}
use Rattle.ob_shell.proofs.GeneratingLemmas.{traced_by_fault}
use Rattle.ob_shell.proofs.KeepLemmas.{serves_all, serves_stop}
use Rattle.ob_shell.proofs.TallyLemmas.{plain_whole}
use Rattle.ob_shell.proofs.keeping.serve_run.Goals as goal

pub close_run-requires-clause-few : goal.close_run-requires-clause-few
close_run-requires-clause-few g c = (session_few _ _ _ c.in-Ok.tally c.in-Ok.ensures.ran.1 c.requires.ready.agrees c.requires.kept c.requires.few).few

pub close_run-requires-clause-flat : goal.close_run-requires-clause-flat
close_run-requires-clause-flat g c = (session_few _ _ _ c.in-Ok.tally c.in-Ok.ensures.ran.1 c.requires.ready.agrees c.requires.kept c.requires.few).flat

pub returns-in-Ok-clause-served : goal.returns-in-Ok-clause-served
returns-in-Ok-clause-served g c base config key engages =
    let ran = c.in-Ok.ensures in
    inr (serves_all _ base config key _ _ told_nothing told_nothing _ ran.ran.0 _ _ engages c.high-high.result c.high-high.ensures.most c.high-high.ensures.value c.args.tracing _ _ _ _ _ _ _ _ _ c.in-Ok.tally c.close_run.result _ _ _ _ _ _ ran.ran.1
    (traced_by_fault (λ loud. absurd (cc loud)) ran.traced) ran.cause.source ran.cause.out (rw ran.cause.trace at c.close_run.ensures.closes))

pub returns-in-Err-clause-served : goal.returns-in-Err-clause-served
returns-in-Err-clause-served g c base config key engages =
    let ran = c.in-Err.ensures in
    let ended = c.ended_with.ensures in
    inl (rw c.plainly.ensures
    (serves_stop _ base config key _ c.serve.new.engine told_nothing told_nothing _ ran.ran.0 _ _ engages c.high.result c.high.ensures.most c.high.ensures.value c.args.tracing _ _ _ _ _ _ _ _ _ c.in-Err.halted.stop _ _ _ _ ended.high (rw ended.quiet ran.ran.1)
    (rw ended.quiet ran.traced) ran.cause (rw ended.quiet ran.quiet) (rw ended.ending refl)))

pub returns-in-Ok-clause-took : goal.returns-in-Ok-clause-took
returns-in-Ok-clause-took g c = λ refused is. c.close_run.ensures.took

pub returns-in-Err-clause-took : goal.returns-in-Err-clause-took
returns-in-Err-clause-took g c =
    λ refused is. plain_whole (Err c.in-Err.halted) c.ended_with.result.ending _ refused c.ended_with.ensures.ending (ap (λ (k : KeptEnded). k.ending) c.plainly.ensures) is tt
