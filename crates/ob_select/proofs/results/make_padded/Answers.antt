use Rattle.ob_select.specs.Selecting.{selection_of}
use Rattle.ob_select.proofs.ResultMade.{padded_small, padded_large, small_alone, starts_small, starts_large}
use Rattle.ob_select.proofs.results.make_padded.Goals as goal

pub select-requires-clause-starts : goal.select-requires-clause-starts
select-requires-clause-starts g c =
    let may = c.requires.may in
    let q = selection_of c.args._public.now c.args.query.now in
    record { ready = may.ready; spare = starts_large q c.args.rows c.args.vault.now.next c.args.room.now may.free may.settings _ (rw c.in-Large.is at c.requires.spare); few = may.few }

pub select_padded-requires-clause-starts : goal.select_padded-requires-clause-starts
select_padded-requires-clause-starts g c =
    let may = c.requires.may in
    let q = selection_of c.args._public.now c.args.query.now in
    record { ready = may.ready; spare = starts_small q c.args.rows c.args.vault.now.next c.args.room.now may.free may.settings _ (rw (small_alone c.args.plan c.requires.plan c.in-Small.is) at c.requires.spare); few = may.few }

pub returns-in-Large-clause-makes : goal.returns-in-Large-clause-makes
returns-in-Large-clause-makes g c =
    rw c.in-Large.is (padded_large (selection_of c.args._public.now c.args.query.now) c.args.rows c.args.room.now c.requires.may.free _ _ c.select.result c.select.ensures.selects)

pub returns-in-Small-clause-makes : goal.returns-in-Small-clause-makes
returns-in-Small-clause-makes g c =
    rw (small_alone c.args.plan c.requires.plan c.in-Small.is)
    (padded_small (selection_of c.args._public.now c.args.query.now) c.args.rows c.args.room.now c.requires.may.free _ _ c.select_padded.result c.select_padded.ensures.selects)
