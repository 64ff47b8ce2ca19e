use Rattle.ob_exec.proofs.Words.{is_due, Ok, refl, subst, ℕ, ◌≡◌}
use Rattle.ob_exec.proofs.BatchRuns.{batch_then}
use Rattle.ob_exec.proofs.FollowedRuns.{able_then, answered_so, counted_then, forgotten_then, log_then, may_behind, may_then, saves_then, undue_then}
use Rattle.ob_base.specs.declared.refusal.Refusal.TheVariants.{StoreFault}
use Rattle.ob_exec.specs.GivenUp.{GaveUpFrom}
use Rattle.ob_verdict.specs.declared.outcome.Outcome.TheVariants.{Refused}
use Rattle.ob_exec.proofs.Shares.{share_batch}
use Rattle.ob_exec.proofs.batching.run_batch.Goals as goal

pub finish-requires : goal.finish-requires
finish-requires g c =
    let state = g.R.Revisions.state in
    let first = c.args.first.now in
    let rest = c.args.rest.now in
    let old = c.args.engine.now in
    let s = g.S.BlockStore.state c.args.store.now in
    let mid = c.insert_batch-answer.new.self in
    let s1 = g.S.BlockStore.state c.insert_batch-answer.new.store in
    let answer = c.insert_batch-answer.result in
    let share = share_batch state first rest answer c.insert_batch-answer.new.outcomes old s mid s1 c.requires.batch c.insert_batch-answer.ensures.serves in
    let begun = c.begin-begun.result in
    let is = c.begin-begun.ensures in
    record {
      forgotten = forgotten_then state first rest ⊥ old s mid s1 c.requires.agrees c.requires.settled begun is answer share;
      may = may_then state first rest ⊥ old s mid s1 c.requires.agrees c.requires.settled begun is answer (g.B.Commit.Saves c.args.commit.now) share c.requires.saves;
      wants = saves_then state first rest ⊥ old s mid s1 c.requires.agrees c.requires.settled begun is answer share;
      saves = able_then state first rest ⊥ old s mid s1 c.requires.agrees c.requires.settled begun is answer (g.B.Commit.Saves c.args.commit.now) c.requires.saves;
      counted = counted_then state first rest ⊥ old s mid s1 c.requires.agrees c.requires.settled begun is answer share;
    }

pub returns-clause-ran : goal.returns-clause-ran
returns-clause-ran g c =
    batch_then g.R.Revisions.state c.args.first.now c.args.rest.now c.insert_batch-answer.new.outcomes c.args.engine.now (g.S.BlockStore.state c.args.store.now)
    c.insert_batch-answer.new.self (g.S.BlockStore.state c.insert_batch-answer.new.store) c.begin-begun.result c.finish.result c.finish.new.engine (g.S.BlockStore.state c.finish.new.store)
    (g.B.Commit.state c.args.commit.now) (g.B.Commit.state c.finish.new.commit) c.requires.agrees c.requires.settled c.begin-begun.ensures c.requires.batch
    (g.B.Commit.Saves c.args.commit.now) c.requires.saves c.insert_batch-answer.result c.insert_batch-answer.ensures.serves c.finish.ensures.commits

pub returns-clause-saves : goal.returns-clause-saves
returns-clause-saves g c =
    let state = g.R.Revisions.state in
    let first = c.args.first.now in
    let rest = c.args.rest.now in
    let old = c.args.engine.now in
    let s = g.S.BlockStore.state c.args.store.now in
    let mid = c.insert_batch-answer.new.self in
    let s1 = g.S.BlockStore.state c.insert_batch-answer.new.store in
    let answer = c.insert_batch-answer.result in
    let share = share_batch state first rest answer c.insert_batch-answer.new.outcomes old s mid s1 c.requires.batch c.insert_batch-answer.ensures.serves in
    may_behind state first rest ⊥ old s mid s1 c.requires.agrees c.requires.settled c.begin-begun.result c.begin-begun.ensures (g.B.Commit.Saves c.args.commit.now) c.requires.saves
    c.finish.result c.finish.new.engine (g.S.BlockStore.state c.finish.new.store) (g.B.Commit.state c.args.commit.now) (g.B.Commit.state c.finish.new.commit)
    (g.B.Commit.Saves c.finish.new.commit) answer (is_due c.begin-begun.result.saved answer mid.seen.end) refl share c.finish.ensures.commits c.finish.ensures.stays

pub returns-clause-listed : goal.returns-clause-listed
returns-clause-listed g c =
    let state = g.R.Revisions.state in
    let first = c.args.first.now in
    let rest = c.args.rest.now in
    let old = c.args.engine.now in
    let s = g.S.BlockStore.state c.args.store.now in
    let mid = c.insert_batch-answer.new.self in
    let s1 = g.S.BlockStore.state c.insert_batch-answer.new.store in
    let answer = c.insert_batch-answer.result in
    let share = share_batch state first rest answer c.insert_batch-answer.new.outcomes old s mid s1 c.requires.batch c.insert_batch-answer.ensures.serves in
    log_then state first rest ⊥ old s mid s1 c.requires.agrees c.requires.settled c.begin-begun.result c.begin-begun.ensures (g.B.Commit.Saves c.args.commit.now) c.requires.saves
    c.finish.result c.finish.new.engine (g.S.BlockStore.state c.finish.new.store) (g.B.Commit.state c.args.commit.now) (g.B.Commit.state c.finish.new.commit)
    answer (is_due c.begin-begun.result.saved answer mid.seen.end) refl share c.finish.ensures.commits

pub returns-clause-given_up : goal.returns-clause-given_up
returns-clause-given_up g c = λ is.
    let state = g.R.Revisions.state in
    let first = c.args.first.now in
    let rest = c.args.rest.now in
    let old = c.args.engine.now in
    let s = g.S.BlockStore.state c.args.store.now in
    let mid = c.insert_batch-answer.new.self in
    let s1 = g.S.BlockStore.state c.insert_batch-answer.new.store in
    let answer = c.insert_batch-answer.result in
    let share = share_batch state first rest answer c.insert_batch-answer.new.outcomes old s mid s1 c.requires.batch c.insert_batch-answer.ensures.serves in
    let answered : answer ≡ Ok (Refused StoreFault) = answered_so g.R.Revisions.state (is_due c.begin-begun.result.saved answer mid.seen.end) c.begin-begun.result answer c.finish.result mid s1 c.finish.new.engine (g.S.BlockStore.state c.finish.new.store)
    (g.B.Commit.state c.args.commit.now) (g.B.Commit.state c.finish.new.commit) (Refused StoreFault) c.finish.ensures.commits is in
    let undue = undue_then state first rest ⊥ old s mid s1 c.requires.agrees c.requires.settled c.begin-begun.result c.begin-begun.ensures answer share answered in
    subst (λ (q : ℕ). GaveUpFrom q (g.S.BlockStore.given_up c.finish.new.store) (g.S.BlockStore.state c.finish.new.store)) c.begin-begun.ensures.next (c.finish.ensures.given_up undue is)
