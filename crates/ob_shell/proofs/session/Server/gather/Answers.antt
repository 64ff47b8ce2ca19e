use Rattle.ob_shell.proofs.Words.{ap, arith, count_of, Err, flights_of, length, List, machine_of, None, Ok, Option, Public, public_of, refl, skeleton, Stmt, Stop, subst, sym, [], ◌++◌, ◌∙◌, ◌∷◌, ◌≡◌}
use Rattle.ob_shell.proofs.GatherLemmas.{batch_more, comes_before, full_by, gathered_more, pushed, takes_full, takes_gathered, unpushed, waits_by}
use Rattle.ob_shell.proofs.TakesLemmas.{halts_as, takes_as, takes_idle}
use Rattle.ob_shell.proofs.session.Server.gather.Goals as goal
use Rattle.ob_shell.specs.Waiting.{AreBatched, gather_most}

pub returns-then-is_err-clause-takes : goal.returns-then-is_err-clause-takes
returns-then-is_err-clause-takes g c =
    let s = c.args.self.now in
    let m = count_of s.engine.now (g.S.BlockStore.state s.store.now) in
    let batch = c.args.session.now.batch.items in
    let same : c.push.new.self.items ≡ batch = unpushed c.push.result c.is_err.result _ c.is_err.ensures.value c.if-is_err.true c.push.ensures.items in
    rw same (
      takes_idle c.args.manner.tracing batch c.args.session.now.tally _ _ _ (machine_of s.engine.now (g.S.BlockStore.state s.store.now) (g.B.Commit.state s.commit.now) (flights_of c.args.manner.flight c.args.session.now.turns.last)) _ c.requires.ready.ready (waits_by c.args.manner.flight (public_of s.engine.now) m batch c.args.stmt c.requires.goes)
          (λ h free. comes_before c.args.manner.flight (public_of s.engine.now) batch c.args.stmt h free),
      refl,
    )

pub returns-then-len-most-clause-takes : goal.returns-then-len-most-clause-takes
returns-then-len-most-clause-takes g c =
    let s = c.args.self.now in
    let m = count_of s.engine.now (g.S.BlockStore.state s.store.now) in
    let batch = c.args.session.now.batch.items in
    let more : c.push.new.self.items ≡ batch ++ c.args.stmt ∷ [] = pushed c.push.result c.is_err.result _ c.is_err.ensures.value c.if-is_err.false c.push.ensures.items in
    let most = c.gather_most-most.ensures ∙ ap (λ (p : Public). gather_most c.args.manner.flight p (skeleton c.args.stmt)) c.public.ensures in
    let size = ap length more in
    rw more
    (takes_gathered batch c.args.stmt c.args.session.now.pending c.requires.spells c.args.session.now.tally _ _ _ (machine_of s.engine.now (g.S.BlockStore.state s.store.now) (g.B.Commit.state s.commit.now) (flights_of c.args.manner.flight c.args.session.now.turns.last)) _ c.requires.ready.ready
    (gathered_more c.args.manner.flight (public_of s.engine.now) m batch c.args.stmt c.requires.goes (omega (arith, c.if-len-most.true, c.len.ensures, most, size, c.push.new.self.ok.0))))

pub flush-requires-clause-waits : goal.flush-requires-clause-waits
flush-requires-clause-waits g c =
    let s = c.args.self.now in
    let m = count_of s.engine.now (g.S.BlockStore.state s.store.now) in
    let batch = c.args.session.now.batch.items in
    let more : c.push.new.self.items ≡ batch ++ c.args.stmt ∷ [] = pushed c.push.result c.is_err.result _ c.is_err.ensures.value c.if-is_err.false c.push.ensures.items in
    subst (λ (l : List Stmt). AreBatched c.args.manner.flight (public_of s.engine.now) m l) (sym more) (batch_more c.args.manner.flight (public_of s.engine.now) m batch c.args.stmt c.requires.goes)

pub returns-in-Ok-clause-takes : goal.returns-in-Ok-clause-takes
returns-in-Ok-clause-takes g c =
    let s = c.args.self.now in
    let m = count_of s.engine.now (g.S.BlockStore.state s.store.now) in
    let batch = c.args.session.now.batch.items in
    let more : c.push.new.self.items ≡ batch ++ c.args.stmt ∷ [] = pushed c.push.result c.is_err.result _ c.is_err.ensures.value c.if-is_err.false c.push.ensures.items in
    let most = c.gather_most-most.ensures ∙ ap (λ (p : Public). gather_most c.args.manner.flight p (skeleton c.args.stmt)) c.public.ensures in
    let size = ap length more in
    takes_as None
    (takes_full batch c.args.stmt c.args.session.now.pending c.requires.spells (full_by c.args.manner.flight (public_of s.engine.now) m batch c.args.stmt c.requires.goes (omega (arith, c.if-len-most.false, c.len.ensures, most, size, c.push.new.self.ok.0))) (Ok tt) c.in-Ok.ensures.none (rw more at c.in-Ok.ensures.flushes))

pub returns-in-Err-clause-takes : goal.returns-in-Err-clause-takes
returns-in-Err-clause-takes g c =
    let s = c.args.self.now in
    let m = count_of s.engine.now (g.S.BlockStore.state s.store.now) in
    let batch = c.args.session.now.batch.items in
    let more : c.push.new.self.items ≡ batch ++ c.args.stmt ∷ [] = pushed c.push.result c.is_err.result _ c.is_err.ensures.value c.if-is_err.false c.push.ensures.items in
    let most = c.gather_most-most.ensures ∙ ap (λ (p : Public). gather_most c.args.manner.flight p (skeleton c.args.stmt)) c.public.ensures in
    let size = ap length more in
    halts_as (Option Stop) c.in-Err.halted
    (takes_full batch c.args.stmt c.args.session.now.pending c.requires.spells (full_by c.args.manner.flight (public_of s.engine.now) m batch c.args.stmt c.requires.goes (omega (arith, c.if-len-most.false, c.len.ensures, most, size, c.push.new.self.ok.0))) (Err c.in-Err.halted) tt (rw more at c.in-Err.ensures.flushes))
