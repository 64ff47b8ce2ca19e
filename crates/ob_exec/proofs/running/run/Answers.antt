use Rattle.ob_exec.proofs.Words.{HasHalted, is_due, Ok, refl, subst, ℕ, [], ◌≡◌}
use Rattle.ob_exec.proofs.FollowedRuns.{able_then, answered_so, counted_then, forgotten_then, may_behind, may_then, ran_then, saves_then, undue_then}
use Rattle.ob_base.specs.declared.refusal.Refusal.TheVariants.{StoreFault}
use Rattle.ob_exec.specs.GivenUp.{GaveUpFrom}
use Rattle.ob_verdict.specs.declared.outcome.Outcome.TheVariants.{Refused}
use Rattle.ob_exec.proofs.Shares.{share_alone}
use Rattle.ob_exec.proofs.running.run.Goals as goal

pub finish-requires : goal.finish-requires
finish-requires g c =
    let old = c.args.engine.now in
    let s = g.S.BlockStore.state c.args.store.now in
    let mid = c.serve-answer.new.engine in
    let s1 = g.S.BlockStore.state c.serve-answer.new.store in
    let answer = c.serve-answer.result in
    let halts = HasHalted g.E.Emit.cut c.args.out.now c.serve-answer.new.out in
    let share = share_alone g.R.Revisions.state g.E.Emit.grew g.E.Emit.cut g.E.Emit.faults c.args.stmt.now answer old s mid s1 c.args.out.now c.serve-answer.new.out c.serve-answer.ensures.serves c.serve-answer.ensures.shows in
    let begun = c.begin-begun.ensures in
    record {
      forgotten = forgotten_then g.R.Revisions.state c.args.stmt.now [] halts old s mid s1 c.requires.agrees c.requires.settled c.begin-begun.result begun answer share;
      may = may_then g.R.Revisions.state c.args.stmt.now [] halts old s mid s1 c.requires.agrees c.requires.settled c.begin-begun.result begun answer (g.B.Commit.Saves c.args.commit.now) share c.requires.saves;
      wants = saves_then g.R.Revisions.state c.args.stmt.now [] halts old s mid s1 c.requires.agrees c.requires.settled c.begin-begun.result begun answer share;
      saves = able_then g.R.Revisions.state c.args.stmt.now [] halts old s mid s1 c.requires.agrees c.requires.settled c.begin-begun.result begun answer (g.B.Commit.Saves c.args.commit.now) c.requires.saves;
      counted = counted_then g.R.Revisions.state c.args.stmt.now [] halts old s mid s1 c.requires.agrees c.requires.settled c.begin-begun.result begun answer share;
    }

pub returns-clause-ran : goal.returns-clause-ran
returns-clause-ran g c =
    ran_then g.R.Revisions.state g.E.Emit.grew g.E.Emit.cut g.E.Emit.faults c.args.stmt.now c.args.engine.now (g.S.BlockStore.state c.args.store.now) c.serve-answer.new.engine (g.S.BlockStore.state c.serve-answer.new.store)
    c.args.out.now c.serve-answer.new.out c.requires.agrees c.requires.settled c.begin-begun.result c.begin-begun.ensures c.finish.result c.finish.new.engine (g.S.BlockStore.state c.finish.new.store)
    (g.B.Commit.state c.args.commit.now) (g.B.Commit.state c.finish.new.commit) (g.B.Commit.Saves c.args.commit.now) c.requires.saves c.serve-answer.result c.serve-answer.ensures.serves c.serve-answer.ensures.shows c.finish.ensures.commits

pub returns-clause-saves : goal.returns-clause-saves
returns-clause-saves g c =
    let old = c.args.engine.now in
    let s = g.S.BlockStore.state c.args.store.now in
    let mid = c.serve-answer.new.engine in
    let s1 = g.S.BlockStore.state c.serve-answer.new.store in
    let answer = c.serve-answer.result in
    let halts = HasHalted g.E.Emit.cut c.args.out.now c.serve-answer.new.out in
    let share = share_alone g.R.Revisions.state g.E.Emit.grew g.E.Emit.cut g.E.Emit.faults c.args.stmt.now answer old s mid s1 c.args.out.now c.serve-answer.new.out c.serve-answer.ensures.serves c.serve-answer.ensures.shows in
    may_behind g.R.Revisions.state c.args.stmt.now [] halts old s mid s1 c.requires.agrees c.requires.settled c.begin-begun.result c.begin-begun.ensures (g.B.Commit.Saves c.args.commit.now) c.requires.saves
    c.finish.result c.finish.new.engine (g.S.BlockStore.state c.finish.new.store) (g.B.Commit.state c.args.commit.now) (g.B.Commit.state c.finish.new.commit)
    (g.B.Commit.Saves c.finish.new.commit) answer (is_due c.begin-begun.result.saved answer mid.seen.end) refl share c.finish.ensures.commits c.finish.ensures.stays

pub returns-clause-given_up : goal.returns-clause-given_up
returns-clause-given_up g c = λ is.
    let old = c.args.engine.now in
    let s = g.S.BlockStore.state c.args.store.now in
    let mid = c.serve-answer.new.engine in
    let s1 = g.S.BlockStore.state c.serve-answer.new.store in
    let answer = c.serve-answer.result in
    let halts = HasHalted g.E.Emit.cut c.args.out.now c.serve-answer.new.out in
    let share = share_alone g.R.Revisions.state g.E.Emit.grew g.E.Emit.cut g.E.Emit.faults c.args.stmt.now answer old s mid s1 c.args.out.now c.serve-answer.new.out c.serve-answer.ensures.serves c.serve-answer.ensures.shows in
    let answered : answer ≡ Ok (Refused StoreFault) = answered_so g.R.Revisions.state (is_due c.begin-begun.result.saved answer mid.seen.end) c.begin-begun.result answer c.finish.result mid s1 c.finish.new.engine (g.S.BlockStore.state c.finish.new.store)
    (g.B.Commit.state c.args.commit.now) (g.B.Commit.state c.finish.new.commit) (Refused StoreFault) c.finish.ensures.commits is in
    let undue = undue_then g.R.Revisions.state c.args.stmt.now [] halts old s mid s1 c.requires.agrees c.requires.settled c.begin-begun.result c.begin-begun.ensures answer share answered in
    subst (λ (q : ℕ). GaveUpFrom q (g.S.BlockStore.given_up c.finish.new.store) (g.S.BlockStore.state c.finish.new.store)) c.begin-begun.ensures.next (c.finish.ensures.given_up undue is)
