use Rattle.std.proofs.Common.{refl}
use Rattle.ob_select.proofs.ResultReads.{walks_ok, walks_err, spare_left}
use Rattle.ob_select.proofs.results.walk_result.Goals as goal

pub discard-requires-clause-spare : goal.discard-requires-clause-spare
discard-requires-clause-spare g c = spare_left c.args.room.now.pack c.args.fresh _ _ c.requires.spare c.in-Ok.ensures.walks.ran.ok

pub returns-in-Ok-clause-walks : goal.returns-in-Ok-clause-walks
returns-in-Ok-clause-walks g c =
    walks_ok c.args.room.now.pack c.args.fresh _ _ _ c.discard.result c.in-Ok.field-0 c.in-Ok.ensures.walks c.discard.ensures.discards

pub returns-in-Err-clause-walks : goal.returns-in-Err-clause-walks
returns-in-Err-clause-walks g c =
    let forgets = c.forget.ensures.forgets (g.S.BlockStore.state c.walk.new.store) in
    walks_err c.args.room.now.pack c.args.fresh _ _ _ (forgets.went c.in-Err.ensures.walks.ran.err.lasts.ready) refl forgets.gone forgets.seals c.in-Err.error c.in-Err.ensures.walks
