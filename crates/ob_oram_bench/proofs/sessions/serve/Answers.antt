use Rattle.std.proofs.Common.{arith}
use Rattle.ob_vault.proofs.WordLemmas.{anew_lasts, anew_rests}
use Rattle.ob_oram.proofs.Resting.{index_rests}
use Rattle.ob_oram_bench.proofs.Rested.{starts_rests}
use Rattle.ob_oram_bench.proofs.Served.{goes_on}
use Rattle.ob_oram_bench.proofs.sessions.serve.Goals as goal

pub access-requires-clause-starts : goal.access-requires-clause-starts
access-requires-clause-starts g c =
    let is = c.requires.session.stands.stored.shaped in
    starts_rests _ _ _ c.in_ok-make_room.ensures.rests c.requires.session.ready _ (omega (arith, is.few, is.height.least 24, c.in_ok-make_room.ensures.spare)) c.in_ok-make_room.ensures.few

pub access-requires-clause-index : goal.access-requires-clause-index
access-requires-clause-index g c = index_rests _ _ _ c.in_ok-make_room.ensures.rests _ c.requires.session.stands

pub access-requires-clause-op : goal.access-requires-clause-op
access-requires-clause-op g c = rw c.requires.session.place c.requires.op

pub access-requires-clause-room : goal.access-requires-clause-room
access-requires-clause-room g c = c.requires.session.idle

pub access-requires-clause-rows : goal.access-requires-clause-rows
access-requires-clause-rows g c = c.requires.session.rows

pub returns-in-Ok : goal.returns-in-Ok
returns-in-Ok g c =
    let did = c.in-Ok.ensures.accesses in
    goes_on _ _ _ _ _ _ _ _ c.access.ensures.room did.leaves did.stands (anew_lasts did.ok.lasts (anew_rests _ _ _ c.in_ok-make_room.ensures.rests c.requires.session.ready)) c.requires.session
