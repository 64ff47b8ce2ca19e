use Rattle.ob_shell.proofs.Words.{Access, ap, arith, length, List, subst}
use Rattle.ob_shell.proofs.keeping.start_run.Goals as goal

pub trace_from-requires-clause-listed : goal.trace_from-requires-clause-listed
trace_from-requires-clause-listed g c =
    let none = ap (λ (l : List Access). length l) c.requires.fresh in
    omega (arith, c.find_engine.ensures.log, g.met.S.BlockStore.within_asked c.args.store.now, none)

pub trace_from-requires-in-Ok-clause-listed : goal.trace_from-requires-in-Ok-clause-listed
trace_from-requires-in-Ok-clause-listed g c =
    let none = ap (λ (l : List Access). length l) c.requires.fresh in
    omega (arith, c.find_engine.ensures.log, g.met.S.BlockStore.within_asked c.args.store.now, none)

pub returns-in-Err-clause-took : goal.returns-in-Err-clause-took
returns-in-Err-clause-took g c = c.trace_from.ensures.took (subst (λ (l : List Access). g.D.Digester.took c.args.digest.now l) c.requires.fresh c.requires.took)

pub returns-in-Err-trace_from-clause-took : goal.returns-in-Err-trace_from-clause-took
returns-in-Err-trace_from-clause-took g c = c.trace_from-in-Ok.ensures.took (subst (λ (l : List Access). g.D.Digester.took c.args.digest.now l) c.requires.fresh c.requires.took)

pub returns-in-Ok-set-clause-took : goal.returns-in-Ok-set-clause-took
returns-in-Ok-set-clause-took g c = c.trace_from-in-Ok.ensures.took (subst (λ (l : List Access). g.D.Digester.took c.args.digest.now l) c.requires.fresh c.requires.took)

pub returns-in-Err-set-clause-took : goal.returns-in-Err-set-clause-took
returns-in-Err-set-clause-took g c = c.trace_from-in-Ok.ensures.took (subst (λ (l : List Access). g.D.Digester.took c.args.digest.now l) c.requires.fresh c.requires.took)
