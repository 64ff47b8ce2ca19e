use Rattle.ob_shell.proofs.Words.{count_of, flights_of, List, machine_of, None, Option, public_of, session_stop, Stmt, Stop, subst, sym, Tally, ◌∙◌}
use Rattle.ob_shell.proofs.CountLemmas.{same_cause}
use Rattle.ob_shell.proofs.GatherLemmas.{begins_none, begins_so}
use Rattle.ob_shell.proofs.TakesLemmas.{ready_with, takes_halted, takes_one}
use Rattle.ob_shell.proofs.session.Server.begin.Goals as goal
use Rattle.ob_shell.specs.Waiting.{GoesAlong}

pub gather-requires-clause-goes : goal.gather-requires-clause-goes
gather-requires-clause-goes g c =
    let s = c.args.self.now in
    let p = public_of s.engine.now in
    let m = count_of s.engine.now (g.S.BlockStore.state s.store.now) in
    subst (λ (l : List Stmt). GoesAlong c.args.manner.flight p m l c.args.stmt) (sym c.requires.none) (begins_so c.args.manner.flight p m c.args.stmt (sym c.begins.ensures ∙ c.if-begins.true))

pub returns-then-begins-clause-takes : goal.returns-then-begins-clause-takes
returns-then-begins-clause-takes g c = rw c.requires.none (rw c.requires.none at c.gather.ensures.takes)

pub serve_stmt-requires : goal.serve_stmt-requires
serve_stmt-requires g c =
    let s = c.args.self.now in
    let p = public_of s.engine.now in
    let m = count_of s.engine.now (g.S.BlockStore.state s.store.now) in
    record {
      alone = (begins_none c.args.manner.flight p m c.args.stmt (sym c.begins.ensures ∙ c.if-begins.false)).0;
      ready = ready_with c.requires.ready.ready;
      took = c.requires.ready.took;
    }

pub returns-in-Ok-clause-takes : goal.returns-in-Ok-clause-takes
returns-in-Ok-clause-takes g c =
    let s = c.args.self.now in
    let p = public_of s.engine.now in
    let m = count_of s.engine.now (g.S.BlockStore.state s.store.now) in
    let flights = flights_of c.args.manner.flight c.args.session.now.turns.last in
    let not = (begins_none c.args.manner.flight p m c.args.stmt (sym c.begins.ensures ∙ c.if-begins.false)).1 in
    rw c.requires.none
    (takes_one {m0 = machine_of s.engine.now (g.S.BlockStore.state s.store.now) (g.B.Commit.state s.commit.now) flights} c.args.stmt c.args.session.now.tally c.args.session.now.pending c.requires.spells None c.in-Ok.tally not (c.in-Ok.ensures.serves flights) c.in-Ok.ensures.traced)

pub returns-clause-takes : goal.returns-clause-takes
returns-clause-takes g c =
    let s = c.args.self.now in
    let flights = flights_of c.args.manner.flight c.args.session.now.turns.last in
    let serves = c.in-Err.ensures.serves flights in
    rw c.requires.none
    (takes_halted {m0 = machine_of s.engine.now (g.S.BlockStore.state s.store.now) (g.B.Commit.state s.commit.now) flights} c.args.stmt c.args.session.now.tally c.args.session.now.pending c.requires.spells c.in-Err.halted
    (same_cause _ Tally (Option Stop) (session_stop c.in-Err.halted.stop) _ _ serves.cause) serves c.in-Err.ensures.traced_stop)

pub returns-in-Ok-clause-ready : goal.returns-in-Ok-clause-ready
returns-in-Ok-clause-ready g c = record { ready = (c.in-Ok.ensures.serves (flights_of c.args.manner.flight c.args.session.now.turns.last)).ready; took = c.in-Ok.ensures.took }
