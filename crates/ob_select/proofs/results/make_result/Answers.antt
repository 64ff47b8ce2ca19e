use Rattle.ob_select.specs.Selecting.{selection_of}
use Rattle.ob_select.proofs.ResultMade.{made_small, made_large, made_cont, made_hash, starts_small, starts_large, starts_cont, starts_hash}
use Rattle.ob_select.proofs.results.make_result.Goals as goal

pub select-requires-clause-starts : goal.select-requires-clause-starts
select-requires-clause-starts g c =
    let may = c.requires.may in
    let q = selection_of c.args.public.now c.args.query.now in
    record { ready = may.ready; spare = starts_small q c.args.k c.args.vault.now.next c.args.room.now may.free may.settings _ (rw c.in-Small.is at c.requires.spare); few = may.few }

pub select-requires-in-Large-clause-starts : goal.select-requires-in-Large-clause-starts
select-requires-in-Large-clause-starts g c =
    let may = c.requires.may in
    let q = selection_of c.args.public.now c.args.query.now in
    record { ready = may.ready; spare = starts_large q c.args.k c.args.vault.now.next c.args.room.now may.free may.settings _ (rw c.in-Large.is at c.requires.spare); few = may.few }

pub select-requires-in-Continuous-clause-starts : goal.select-requires-in-Continuous-clause-starts
select-requires-in-Continuous-clause-starts g c =
    let may = c.requires.may in
    let q = selection_of c.args.public.now c.args.query.now in
    record { ready = may.ready; spare = starts_cont q c.args.k c.args.vault.now.next c.args.room.now may.free may.settings _ (rw c.in-Continuous.is at c.requires.spare); few = may.few }

pub select-requires-in-Hash-clause-starts : goal.select-requires-in-Hash-clause-starts
select-requires-in-Hash-clause-starts g c =
    let may = c.requires.may in
    let q = selection_of c.args.public.now c.args.query.now in
    record { ready = may.ready; spare = starts_hash q c.args.k c.args.vault.now.next c.args.room.now may.free may.settings _ (rw c.in-Hash.is at c.requires.spare); few = may.few }

pub returns-in-Small-clause-makes : goal.returns-in-Small-clause-makes
returns-in-Small-clause-makes g c =
    rw (c.in-Small.is, c.placed.ensures) (made_small (selection_of c.args.public.now c.args.query.now) c.args.k c.args.room.now c.requires.may.free _ _ c.select.result c.select.ensures.selects)

pub returns-in-Large-clause-makes : goal.returns-in-Large-clause-makes
returns-in-Large-clause-makes g c =
    rw (c.in-Large.is, c.placed-in-Large.ensures) (made_large (selection_of c.args.public.now c.args.query.now) c.args.k c.args.room.now c.requires.may.free _ _ c.select-in-Large.result c.select-in-Large.ensures.selects)

pub returns-in-Continuous-clause-makes : goal.returns-in-Continuous-clause-makes
returns-in-Continuous-clause-makes g c =
    rw (c.in-Continuous.is, c.placed-in-Continuous.ensures) (made_cont (selection_of c.args.public.now c.args.query.now) c.args.k c.args.room.now c.requires.may.free _ _ c.select-in-Continuous.result c.select-in-Continuous.ensures.selects)

pub returns-in-Hash-clause-makes : goal.returns-in-Hash-clause-makes
returns-in-Hash-clause-makes g c =
    rw c.in-Hash.is (made_hash (selection_of c.args.public.now c.args.query.now) c.args.k c.args.room.now c.requires.may.free _ _ c.requires.may.settings.pack_least c.select-in-Hash.result c.select-in-Hash.ensures.selects)
