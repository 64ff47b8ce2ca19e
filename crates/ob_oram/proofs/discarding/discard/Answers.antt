use Rattle.std.proofs.lemmas.Result.{err_from_is_err_and}
use Rattle.ob_oram.proofs.BothGone.{first_failed, second_failed, none_failed}
use Rattle.ob_oram.proofs.discarding.discard.Goals as goal

pub returns-in_err-tree : goal.returns-in_err-tree
returns-in_err-tree g c =
    let p = err_from_is_err_and c.from_residual.result c.from_residual.ensures.1 in
    rw (p.1, p.2) (record { discards = first_failed c.args.index c.requires.stored.apart _ _ _ _ _ c.in_err-tree.ensures.drops c.drop_region-stash.ensures.drops })

pub returns-in_err-stash : goal.returns-in_err-stash
returns-in_err-stash g c =
    let p = err_from_is_err_and c.from_residual-in_err-stash.result c.from_residual-in_err-stash.ensures.1 in
    rw (p.1, p.2) (record { discards = second_failed c.args.index c.requires.stored.apart _ _ _ _ _ c.in_ok-tree.ensures.drops c.in_err-stash.ensures.drops })

pub returns : goal.returns
returns g c = record { discards = none_failed c.args.index c.requires.stored.apart _ _ _ _ _ c.in_ok-tree.ensures.drops c.in_ok-stash.ensures.drops }
