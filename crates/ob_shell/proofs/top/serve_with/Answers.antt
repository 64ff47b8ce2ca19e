use Rattle.ob_shell.proofs.Words.{ap, faults_of, Public, refl, ServesAlone, stop_of, StopCause, subst, ◌∙◌}
use Rattle.ob_shell.proofs.EngageLemmas.{ready_unsaved}
use Rattle.ob_shell.proofs.SessionLemmas.{ran_after}
use Rattle.ob_shell.proofs.StandLemmas.{stands_first, stands_flying}
use Rattle.ob_shell.proofs.TopLemmas.{ran_nothing}
use Rattle.ob_shell.proofs.TraceLemmas.{traced_none, traced_whole}
use Rattle.ob_shell.proofs.top.serve_with.Goals as goal

pub returns-in-Err-clause-ran : goal.returns-in-Err-clause-ran
returns-in-Err-clause-ran g c secret = ran_nothing _ _ _ _ _ _ _ _ _
    (record {
      unasked = c.requires.fresh;
      honest = g.met.S.BlockStore.starts_honest c.args.store.now c.requires.fresh;
      empty = λ q. g.met.S.BlockStore.starts_empty c.args.store.now q c.requires.fresh;
    }) refl c.requires.fed_by.late

pub returns-in-Err-clause-traced : goal.returns-in-Err-clause-traced
returns-in-Err-clause-traced g c = traced_whole _ (traced_none _ _ _)

pub returns-in-Ok-clause-ran : goal.returns-in-Ok-clause-ran
returns-in-Ok-clause-ran g c secret =
    ran_after _ _ _ _ _ _ _ _ _ _ _ _ _
    (stands_flying _ (stands_first _ _ _ _ _ (c.in-Ok.ensures.agrees (g.S.BlockStore.state c.args.store.now) c.requires.fresh) c.in-Ok.ensures.public c.in-Ok.ensures.keyed c.in-Ok.ensures.drawn c.in-Ok.ensures.started c.in-Ok.ensures.rows
    (record {
      unasked = c.requires.fresh;
      honest = g.met.S.BlockStore.starts_honest c.args.store.now c.requires.fresh;
      empty = λ q. g.met.S.BlockStore.starts_empty c.args.store.now q c.requires.fresh;
    }) (g.met.S.BlockStore.starts_steady c.args.store.now c.requires.fresh))) c.high.ensures.most c.high.ensures.value _ _ _ _ _ _ _ _ c.serve-ran.ensures.ran.1

pub serve-ran-requires-clause-ready : goal.serve-ran-requires-clause-ready
serve-ran-requires-clause-ready g c =
    ready_unsaved _ _ _ _ _ (c.in-Ok.ensures.agrees (g.S.BlockStore.state c.args.store.now) c.requires.fresh) c.in-Ok.ensures.alive c.in-Ok.ensures.settled (ap (λ (p : Public). p.save) c.in-Ok.ensures.public ∙ c.requires.within.unsaved)

pub returns-in-Ok-clause-cause : goal.returns-in-Ok-clause-cause
returns-in-Ok-clause-cause g c =
    let now = c.serve-ran.new in
    let before = faults_of (g.I.Source.faults c.args.input.now) (g.O.Sink.faults c.args.out.now) (g.T.Sink.faults c.args.trace.now) in
    let after = faults_of (g.I.Source.faults now.input) (g.O.Sink.faults now.out) (g.T.Sink.faults now.trace) in
    subst (λ (p : Public). StopCause (ServesAlone c.args.words.flight p) before after (stop_of c.serve-ran.result)) c.in-Ok.ensures.public c.serve-ran.ensures.cause
