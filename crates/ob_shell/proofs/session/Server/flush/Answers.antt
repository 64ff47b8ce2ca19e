use Rattle.ob_shell.proofs.Words.{count_of, List, public_of, session_stop, Stmt, subst, sym, Tally, [], ◌∙◌}
use Rattle.ob_shell.proofs.CountLemmas.{same_cause}
use Rattle.ob_shell.proofs.TakesLemmas.{ready_with, takes_as, takes_broken}
use Rattle.ob_shell.proofs.session.Server.flush.Goals as goal
use Rattle.ob_shell.specs.Waiting.{AreBatched}

pub serve_waiting-requires : goal.serve_waiting-requires
serve_waiting-requires g c = record {
  waits = (
    c.args.manner.flight,
    subst (λ (l : List Stmt). AreBatched c.args.manner.flight (public_of c.args.self.now.engine.now) (count_of c.args.self.now.engine.now (g.S.BlockStore.state c.args.self.now.store.now)) l) (sym c.as_slice.ensures.value) c.requires.waits,
  );
  ready = ready_with c.requires.ready.ready;
  took = c.requires.ready.took;
}

pub returns-in-Ok-clause-flushes : goal.returns-in-Ok-clause-flushes
returns-in-Ok-clause-flushes g c =
    let waits = subst (λ (l : List Stmt). AreBatched c.args.manner.flight (public_of c.args.self.now.engine.now) (count_of c.args.self.now.engine.now (g.S.BlockStore.state c.args.self.now.store.now)) l) (sym c.as_slice.ensures.value) c.requires.waits in
    rw (sym c.as_slice.ensures.value, c.clear.ensures.items) (takes_as tt (c.in-Ok.ensures.serves c.args.manner.flight waits))

pub returns-in-Err-clause-flushes : goal.returns-in-Err-clause-flushes
returns-in-Err-clause-flushes g c =
    let waits = subst (λ (l : List Stmt). AreBatched c.args.manner.flight (public_of c.args.self.now.engine.now) (count_of c.args.self.now.engine.now (g.S.BlockStore.state c.args.self.now.store.now)) l) (sym c.as_slice.ensures.value) c.requires.waits in
    let serves = c.in-Err.ensures.serves c.args.manner.flight waits in
    rw (sym c.as_slice.ensures.value) (takes_broken c.in-Err.halted [] (λ h comes. comes) (same_cause _ Tally (Unit {0}) (session_stop c.in-Err.halted.stop) _ _ serves.cause) serves)

pub returns-in-Err-clause-idle : goal.returns-in-Err-clause-idle
returns-in-Err-clause-idle g c = λ empty. c.in-Err.ensures.idle (c.as_slice.ensures.value ∙ empty)

pub returns-in-Ok-clause-ready : goal.returns-in-Ok-clause-ready
returns-in-Ok-clause-ready g c =
    let waits = subst (λ (l : List Stmt). AreBatched c.args.manner.flight (public_of c.args.self.now.engine.now) (count_of c.args.self.now.engine.now (g.S.BlockStore.state c.args.self.now.store.now)) l) (sym c.as_slice.ensures.value) c.requires.waits in
    record { ready = (c.in-Ok.ensures.serves c.args.manner.flight waits).ready; took = c.in-Ok.ensures.took }
