use Rattle.ob_oram.proofs.WalkRows.{walk_is}
use Rattle.ob_oram.proofs.WalkWrites.{may_write, puts_as, row_written, row_failed}
use Rattle.ob_oram.proofs.writing.write_row.Goals as goal

pub place-place-requires-clause-walk : goal.place-place-requires-clause-walk
place-place-requires-clause-walk g c = walk_is c.args.index.now c.args.walk c.requires.shaped c.requires.walk

pub put-requires-clause-place : goal.put-requires-clause-place
put-requires-clause-place g c =
    rw (c.region_of.ensures, c.place-place.ensures, c.from_ref.ensures.value)
    (may_write c.args.index.now c.args.walk c.args.c c.requires.shaped c.requires.walk c.requires.within _ c.requires.turn c.requires.spells.0 c.args.row.now c.requires.spells.1)

pub returns-in-Ok : goal.returns-in-Ok
returns-in-Ok g c =
    let puts = puts_as _ _ _ c.region_of.ensures c.place-place.ensures c.from_ref.ensures.value c.in-Ok.ensures.puts in
    record { writes = row_written c.args.index.now c.args.walk c.args.c c.requires.shaped c.requires.walk c.requires.within _ c.requires.turn _ c.args.row.now c.requires.spells _ puts }

pub returns-in-Err : goal.returns-in-Err
returns-in-Err g c =
    let puts = puts_as _ _ _ c.region_of.ensures c.place-place.ensures c.from_ref.ensures.value c.in-Err.ensures.puts in
    record { writes = row_failed c.args.index.now c.args.walk c.args.c c.requires.shaped c.requires.walk c.requires.within _ c.requires.turn _ c.args.row.now c.requires.spells _ puts }
