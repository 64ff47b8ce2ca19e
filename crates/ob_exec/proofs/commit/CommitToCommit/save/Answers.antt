use Rattle.ob_exec.proofs.Words.{Err, RunStop, SavesTables, subst, sym}
use Rattle.ob_exec.proofs.SavingLemmas.{agrees_synced, rests_then, saved_all, unset, unsynced, unwritten, waits_synced}
use Rattle.ob_exec.proofs.commit.CommitToCommit.save.Goals as goal

pub save-requires : goal.save-requires
save-requires g c = let may = c.requires.may in record { agrees = may.agrees; lives = may.lives; settled = may.settled; flat = may.flat; few = may.few; salted = may.salted }

pub returns-in-Err-clause-saves : goal.returns-in-Err-clause-saves
returns-in-Err-clause-saves g c = λ save.
    let e = c.args.engine.now in
    let s = g.S.BlockStore.state c.args.store.now in
    let t = g.S.BlockStore.state c.save.new.store in
    let keeper = g.K.Keeper.state c.args.self.now.keeper.now in
    subst (λ (stop : RunStop). SavesTables {T = Unit {0}} g.R.Revisions.state c.args.left (Err stop) e s c.save.new.self t keeper keeper) (sym c.saving_stop.ensures)
    (unwritten g.R.Revisions.state c.args.left e s c.save.new.self t c.in-Err.error c.in-Err.ensures.saves keeper)

pub returns-in-Err-sync-clause-saves : goal.returns-in-Err-sync-clause-saves
returns-in-Err-sync-clause-saves g c = λ save.
    unsynced g.R.Revisions.state c.args.left c.args.engine.now (g.S.BlockStore.state c.args.store.now) c.in-Ok.mark c.save.new.self (g.S.BlockStore.state c.save.new.store) c.in-Ok.ensures.saves
    (g.S.BlockStore.state c.sync.new.self) c.sync.ensures.syncs (g.K.Keeper.state c.args.self.now.keeper.now) c.in-Err-sync.ensures.cause

pub returns-in-Err-set-clause-saves : goal.returns-in-Err-set-clause-saves
returns-in-Err-set-clause-saves g c = λ save.
    unset g.R.Revisions.state c.args.left c.args.engine.now (g.S.BlockStore.state c.args.store.now) c.in-Ok.mark c.save.new.self (g.S.BlockStore.state c.save.new.store) c.in-Ok.ensures.saves
    (g.S.BlockStore.state c.sync.new.self) c.sync.ensures.syncs c.in-Ok-sync.ensures.cause
    c.in-Err-set.field-0 (g.K.Keeper.state c.args.self.now.keeper.now) (g.K.Keeper.state c.set.new.self) c.in-Err-set.ensures.sets

pub settle-requires-clause-agrees : goal.settle-requires-clause-agrees
settle-requires-clause-agrees g c =
    let rests = rests_then g.R.Revisions.state c.args.left c.args.engine.now (g.S.BlockStore.state c.args.store.now) c.in-Ok.mark c.save.new.self (g.S.BlockStore.state c.save.new.store) c.in-Ok.ensures.saves
    (g.S.BlockStore.state c.sync.new.self) c.sync.ensures.syncs c.in-Ok-sync.ensures.cause in
    agrees_synced g.R.Revisions.state c.save.new.self (g.S.BlockStore.state c.save.new.store) (g.S.BlockStore.state c.sync.new.self) c.in-Ok.ensures.saves.ok.agrees rests

pub settle-requires-clause-waits : goal.settle-requires-clause-waits
settle-requires-clause-waits g c =
    let rests = rests_then g.R.Revisions.state c.args.left c.args.engine.now (g.S.BlockStore.state c.args.store.now) c.in-Ok.mark c.save.new.self (g.S.BlockStore.state c.save.new.store) c.in-Ok.ensures.saves
    (g.S.BlockStore.state c.sync.new.self) c.sync.ensures.syncs c.in-Ok-sync.ensures.cause in
    waits_synced g.R.Revisions.state c.save.new.self (g.S.BlockStore.state c.save.new.store) (g.S.BlockStore.state c.sync.new.self) rests c.args.left (c.in-Ok.ensures.saves.ok.waits c.args.left c.requires.may.waits)

pub returns-clause-saves : goal.returns-clause-saves
returns-clause-saves g c = λ save.
    saved_all g.R.Revisions.state c.args.left c.args.engine.now (g.S.BlockStore.state c.args.store.now) c.in-Ok.mark c.save.new.self (g.S.BlockStore.state c.save.new.store) c.in-Ok.ensures.saves
    (g.S.BlockStore.state c.sync.new.self) c.sync.ensures.syncs c.in-Ok-sync.ensures.cause
    c.requires.may.agrees c.requires.may.waits c.settle.new.self (g.S.BlockStore.state c.settle.new.store) c.settle.ensures.settles tt c.in-Ok-set.field-0
    (g.K.Keeper.state c.args.self.now.keeper.now) (g.K.Keeper.state c.set.new.self) c.in-Ok-set.ensures.sets
