use Rattle.std.proofs.Common.{arith}
use Rattle.ob_oram.proofs.Resting.{index_rests}
use Rattle.ob_oram_bench.proofs.Rested.{starts_rests}
use Rattle.ob_oram_bench.proofs.lines.discarded.Goals as goal

pub discard-requires-clause-spare : goal.discard-requires-clause-spare
discard-requires-clause-spare g c =
    let room = c.in_ok-make_room.ensures in
    let starts = starts_rests _ _ _ room.rests c.requires.ready 2 (omega (arith, room.spare)) room.few in
    record { ready = starts.ready; spare = starts.spare }

pub discard-requires-clause-stored : goal.discard-requires-clause-stored
discard-requires-clause-stored g c = (index_rests _ _ _ c.in_ok-make_room.ensures.rests _ c.requires.stands).stored
