use Rattle.std.proofs.Common.{refl}
use Rattle.ob_select.proofs.ResultReads.{emits_ok, emits_err, spare_left}
use Rattle.ob_select.proofs.results.emit_result.Goals as goal

pub discard-requires-clause-spare : goal.discard-requires-clause-spare
discard-requires-clause-spare g c = spare_left c.args.room.now.pack c.args.fresh _ _ c.requires.spare c.in-Ok.ensures.emits.ran.ok

pub returns-in-Ok-clause-emits : goal.returns-in-Ok-clause-emits
returns-in-Ok-clause-emits g c =
    emits_ok g.E.Emit.grew g.E.Emit.cut g.E.Emit.faults c.args.room.now.pack c.args.fresh c.args.cols.now _ _ _ _ _ c.discard.result c.in-Ok.n c.in-Ok.ensures.emits c.discard.ensures.discards

pub returns-in-Err-clause-emits : goal.returns-in-Err-clause-emits
returns-in-Err-clause-emits g c =
    let forgets = c.forget.ensures.forgets (g.S.BlockStore.state c.emit_all.new.store) in
    emits_err g.E.Emit.grew g.E.Emit.cut g.E.Emit.faults c.args.room.now.pack c.args.fresh c.args.cols.now _ _ _ _ _ c.in-Err.error (forgets.went c.in-Err.ensures.emits.ran.err.lasts.ready) refl forgets.gone forgets.seals c.in-Err.ensures.emits
