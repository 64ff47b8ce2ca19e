use Rattle.std.proofs.Common.{◌∙◌, sym}
use Rattle.std.proofs.lemmas.List.{length-replicate}
use Rattle.ob_base.specs.Indexes.{rows_open}
use Rattle.ob_oram.proofs.IndexReads.{reads_first, reads_second, spare_second, opens_both}
use Rattle.ob_oram.proofs.accessing.read_index.Goals as goal

pub returns-in-Err-clause-reads : goal.returns-in-Err-clause-reads
returns-in-Err-clause-reads g c =
    let walk = rw c.stash_walk.ensures at c.in-Err.ensures.reads in
    reads_first c.args.index.now c.args.leaf _ c.in-Err.e _ walk

pub read_walk-requires-2-clause-spare : goal.read_walk-requires-2-clause-spare
read_walk-requires-2-clause-spare g c =
    let walk = rw c.stash_walk.ensures at c.in-Ok.ensures.reads in
    rw c.path_walk.ensures (spare_second c.args.index.now c.args.leaf _ _ c.requires.spare walk.ok)

pub returns-clause-reads : goal.returns-clause-reads
returns-clause-reads g c =
    let first = rw c.stash_walk.ensures at c.in-Ok.ensures.reads in
    let second = rw c.path_walk.ensures at c.read_walk-2.ensures.reads in
    reads_second c.args.index.now c.args.leaf _ _ first.ok first.seals _ _ second

pub returns-clause-opens : goal.returns-clause-opens
returns-clause-opens g c =
    let index = c.args.index.now in
    let first = rw c.stash_walk.ensures at c.in-Ok.ensures.reads in
    let first_opens = rw c.stash_walk.ensures at c.in-Ok.ensures.opens in
    let second = rw c.path_walk.ensures at c.read_walk-2.ensures.reads in
    let second_opens = rw c.path_walk.ensures at c.read_walk-2.ensures.opens in
    let slots = first_opens _ c.requires.open in
    let count = c.read_walk-2.ensures.buffer ∙ c.in-Ok.ensures.buffer ∙ sym c.requires.open.sees.count ∙ length-replicate (rows_open index.height index.slots) _ in
    opens_both index c.args.remap c.args.leaf c.requires.leaf c.requires.stored.shaped _ _ _ slots.0 _ _ _ _ c.read_walk-2.result slots.2 first.ok second count second_opens slots.1
