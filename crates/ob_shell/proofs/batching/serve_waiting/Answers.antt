use Rattle.ob_shell.proofs.Words.{arith, count_of, flights_of, length, List, machine_of, public_of, refl, Stmt, subst, sym, [], ◌∙◌, ◌∷◌, ◌≡◌}
use Rattle.ob_shell.proofs.FlightTakes.{batch_of, flown_of}
use Rattle.ob_shell.proofs.TakesLemmas.{ready_with, takes_idle}
use Rattle.ob_shell.proofs.batching.serve_waiting.Goals as goal
use Rattle.ob_shell.specs.Waiting.{AreBatched, AreFlown}

none : (batch : List Stmt) → length batch ≡ 0 → batch ≡ []
none [] is = refl
none (stmt ∷ batch) is = absurd (omega (arith, is))

pub returns-in_default-clause-serves : goal.returns-in_default-clause-serves
returns-in_default-clause-serves g c = λ settings waits.
    rw (none c.args.stmts.now c.in_default.ensures.cases)
    (takes_idle c.args.tracing [] c.args.tally _ _ _ (machine_of c.args.engine.now (g.S.BlockStore.state c.args.store.now) (g.B.Commit.state c.args.commit.now) (flights_of settings c.args.turns.now.last)) c.args.tally (ready_with c.requires.ready) tt (λ h free. refl))

pub serve_batch-requires : goal.serve_batch-requires
serve_batch-requires g c =
    let e = c.args.engine.now in
    let m = count_of e (g.S.BlockStore.state c.args.store.now) in
    let waits = subst (λ (l : List Stmt). AreBatched c.requires.waits.0 (public_of e) m l) c.in-Some.ensures.cases.0 c.requires.waits.1 in
    record {
      batch = batch_of c.requires.waits.0 (public_of e) m c.in-Some.first.now c.in-Some.rest.now waits (sym c.is_insert.ensures ∙ c.if-is_insert.true);
      ready = c.requires.ready;
      took = c.requires.took;
    }

pub returns-then-is_insert-clause-serves : goal.returns-then-is_insert-clause-serves
returns-then-is_insert-clause-serves g c = λ settings waits. rw c.in-Some.ensures.cases.0 (c.serve_batch.ensures.serves (flights_of settings c.args.turns.now.last))

pub serve_selects-requires : goal.serve_selects-requires
serve_selects-requires g c =
    let e = c.args.engine.now in
    let m = count_of e (g.S.BlockStore.state c.args.store.now) in
    let waits = subst (λ (l : List Stmt). AreBatched c.requires.waits.0 (public_of e) m l) c.in-Some.ensures.cases.0 c.requires.waits.1 in
    record {
      some = rw c.in-Some.ensures.cases.0 (omega arith);
      flown = (
        c.requires.waits.0,
        subst (λ (l : List Stmt). AreFlown c.requires.waits.0 (public_of e) l) (sym c.in-Some.ensures.cases.0)
            (flown_of c.requires.waits.0 (public_of e) m c.in-Some.first.now c.in-Some.rest.now waits (sym c.is_insert.ensures ∙ c.if-is_insert.false)),
      );
      ready = c.requires.ready;
      took = c.requires.took;
    }

pub returns-clause-serves : goal.returns-clause-serves
returns-clause-serves g c = λ settings waits.
    let e = c.args.engine.now in
    let m = count_of e (g.S.BlockStore.state c.args.store.now) in
    let there = subst (λ (l : List Stmt). AreBatched settings (public_of e) m l) c.in-Some.ensures.cases.0 waits in
    c.serve_selects.ensures.serves settings
    (subst (λ (l : List Stmt). AreFlown settings (public_of e) l) (sym c.in-Some.ensures.cases.0)
    (flown_of settings (public_of e) m c.in-Some.first.now c.in-Some.rest.now there (sym c.is_insert.ensures ∙ c.if-is_insert.false)))
