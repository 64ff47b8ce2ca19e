use Rattle.std.proofs.Common.{◌≤◌, arith}
use Rattle.ob_vault.proofs.WordLemmas.{anew_rests}
use Rattle.ob_oram_bench.proofs.Made.{session_made}
use Rattle.ob_oram_bench.proofs.Rested.{starts_rests, tree_few}
use Rattle.ob_oram_bench.proofs.sessions.made.Goals as goal

pub create-requires-clause-starts : goal.create-requires-clause-starts
create-requires-clause-starts g c = λ h is.
    let low : h ≤ 16 = is.least 16 (omega (arith, c.if-draws-gt65536.false)) in
    let room = c.in_ok-make_room.ensures in
    starts_rests _ _ _ room.rests c.requires.ready _ (omega (arith, tree_few h low, room.spare, c.if-slots-gt1024.false)) room.few

pub returns-in-Ok : goal.returns-in-Ok
returns-in-Ok g c = record {
  session = session_made _ _ _ _ c.args.room.now c.in-Ok.index _ _ (omega (arith, c.if-draws-gt65536.false)) (omega (arith, c.if-slots-gt1024.false))
      c.in-Some.ensures.columns c.in-Some.ensures.wide (anew_rests _ _ _ c.in_ok-make_room.ensures.rests c.requires.ready) c.requires.room c.requires.rows c.in-Ok.ensures.creates _ _ c.in-Ok.ensures.room;
}
