use Rattle.ob_oram.proofs.IndexWrites.{writes_first, writes_second, asks_second}
use Rattle.ob_oram.proofs.accessing.write_index.Goals as goal

pub returns-in-Err : goal.returns-in-Err
returns-in-Err g c =
    let walk = rw c.path_walk.ensures at c.in-Err.ensures.writes in
    record { writes = writes_first c.args.index.now c.args.leaf c.requires.leaf c.args.rows.now _ c.requires.stored c.in-Err.e _ walk }

pub write_walk-requires-2-clause-asks : goal.write_walk-requires-2-clause-asks
write_walk-requires-2-clause-asks g c =
    let walk = rw c.path_walk.ensures at c.in-Ok.ensures.writes in
    rw c.stash_walk.ensures (asks_second c.args.index.now c.args.leaf _ _ c.requires.asks walk.ok)

pub returns : goal.returns
returns g c =
    let first = rw c.path_walk.ensures at c.in-Ok.ensures.writes in
    let second = rw c.stash_walk.ensures at c.write_walk-2.ensures.writes in
    record { writes = writes_second c.args.index.now c.args.leaf c.requires.leaf c.args.rows.now _ c.requires.stored _ first _ _ second }
