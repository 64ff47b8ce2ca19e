use Rattle.ob_shell.proofs.Words.{Access, arith, Err, inl, inr, List, Ok, refl, subst, sym, ◌∙◌}
use Rattle.ob_base.specs.declared.refusal.Stop.TheVariants.{SinkFault}
use Rattle.ob_headline.proofs.StopLemmas.{closing_stops}
use Rattle.ob_shell.proofs.EngageLemmas.{closes_run, closing_after, closing_until, not_plain}
use Rattle.ob_shell.proofs.keeping.close_run.Goals as goal

pub trace_from-requires-clause-listed : goal.trace_from-requires-clause-listed
trace_from-requires-clause-listed g c = omega (arith, c.in-Err.ensures.closes.later.log, g.met.S.BlockStore.within_asked c.args.store.now, c.count-from.ensures)

pub trace_from-requires-in-Ok-clause-listed : goal.trace_from-requires-in-Ok-clause-listed
trace_from-requires-in-Ok-clause-listed g c = omega (arith, c.in-Ok.ensures.closes.later.log, g.met.S.BlockStore.within_asked c.args.store.now, c.count-from.ensures)

pub trace_from-requires-in-Ok-clause-within : goal.trace_from-requires-in-Ok-clause-within
trace_from-requires-in-Ok-clause-within g c = closing_after (Ok c.in-Ok.mark) c.args.engine _ _ c.in-Ok.ensures.closes c.count-from.result c.count-from.ensures

pub returns-in-Err-clause-closes : goal.returns-in-Err-clause-closes
returns-in-Err-clause-closes g c =
    let traces = c.trace_from.ensures in
    rw (c.kept_at.ensures, c.closing_end.ensures)
    (closes_run c.args.tally c.args.tracing c.args.engine _ _ _ _ _ _ _ _ _ (Err c.in-Err.error) c.in-Err.ensures.closes c.trace_from.result c.count-from.result c.count-from.ensures traces.cut traces.cause (refl, refl)
    c.is_err-quiet.ensures.value c.requires.high (λ other. absurd (closing_stops c.in-Err.error _ other)))

pub returns-in-Err-trace_from-clause-closes : goal.returns-in-Err-trace_from-clause-closes
returns-in-Err-trace_from-clause-closes g c =
    let traces = c.trace_from-in-Ok.ensures in
    rw (c.kept_at-in-Err-trace_from.ensures, c.stopped.ensures)
    (closes_run c.args.tally c.args.tracing c.args.engine _ _ _ _ _ _ _ _ _ (Ok c.in-Ok.mark) c.in-Ok.ensures.closes c.trace_from-in-Ok.result c.count-from.result c.count-from.ensures traces.cut traces.cause
    (inl (refl, c.in-Err-trace_from.ensures.cause.failed, refl)) (rw c.in-Err-trace_from.is refl) c.requires.high (λ other. not_plain SinkFault _ _ refl other))

pub returns-in-Ok-set-clause-closes : goal.returns-in-Ok-set-clause-closes
returns-in-Ok-set-clause-closes g c =
    let traces = c.trace_from-in-Ok.ensures in
    let ended = c.ended_with.ensures in
    rw c.plainly.ensures
    (closes_run c.args.tally c.args.tracing c.args.engine _ _ _ _ _ _ _ _ _ (Ok c.in-Ok.mark) c.in-Ok.ensures.closes c.trace_from-in-Ok.result c.count-from.result c.count-from.ensures traces.cut traces.cause
    (inr (c.in-Ok-trace_from.ensures.cause.kept, record { result = c.set.result; sets = c.set.ensures.sets; ends = rw (ended.ending, c.in-Ok-set.is) refl })) (rw (ended.quiet, c.in-Ok-trace_from.is) refl)
    (ended.high ∙ c.requires.high) (λ is. ended.tally))

pub returns-in-Err-set-clause-closes : goal.returns-in-Err-set-clause-closes
returns-in-Err-set-clause-closes g c =
    let traces = c.trace_from-in-Ok.ensures in
    rw c.kept_at-in-Err-set.ensures
    (closes_run c.args.tally c.args.tracing c.args.engine _ _ _ _ _ _ _ _ _ (Ok c.in-Ok.mark) c.in-Ok.ensures.closes c.trace_from-in-Ok.result c.count-from.result c.count-from.ensures traces.cut traces.cause
    (inr (c.in-Ok-trace_from.ensures.cause.kept, record { result = c.set.result; sets = c.set.ensures.sets; ends = rw c.in-Err-set.is refl })) (rw c.in-Ok-trace_from.is refl) c.requires.high (λ other. absurd (cc other)))

pub returns-in-Err-clause-took : goal.returns-in-Err-clause-took
returns-in-Err-clause-took g c =
    let before = closing_until (Err c.in-Err.error) c.args.engine _ _ c.in-Err.ensures.closes c.count-from.result c.count-from.ensures in
    c.trace_from.ensures.took (subst (λ (l : List Access). g.D.Digester.took c.args.digest.now l) (sym before) c.requires.took)

pub returns-in-Err-trace_from-clause-took : goal.returns-in-Err-trace_from-clause-took
returns-in-Err-trace_from-clause-took g c =
    let before = closing_until (Ok c.in-Ok.mark) c.args.engine _ _ c.in-Ok.ensures.closes c.count-from.result c.count-from.ensures in
    c.trace_from-in-Ok.ensures.took (subst (λ (l : List Access). g.D.Digester.took c.args.digest.now l) (sym before) c.requires.took)

pub returns-in-Ok-set-clause-took : goal.returns-in-Ok-set-clause-took
returns-in-Ok-set-clause-took g c =
    let before = closing_until (Ok c.in-Ok.mark) c.args.engine _ _ c.in-Ok.ensures.closes c.count-from.result c.count-from.ensures in
    c.trace_from-in-Ok.ensures.took (subst (λ (l : List Access). g.D.Digester.took c.args.digest.now l) (sym before) c.requires.took)

pub returns-in-Err-set-clause-took : goal.returns-in-Err-set-clause-took
returns-in-Err-set-clause-took g c =
    let before = closing_until (Ok c.in-Ok.mark) c.args.engine _ _ c.in-Ok.ensures.closes c.count-from.result c.count-from.ensures in
    c.trace_from-in-Ok.ensures.took (subst (λ (l : List Access). g.D.Digester.took c.args.digest.now l) (sym before) c.requires.took)
