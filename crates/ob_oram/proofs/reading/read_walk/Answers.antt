use Rattle.std.proofs.Common.{◌≡◌, ◌∙◌, ◌<◌, length, get_or, ap, arith}
use Rattle.std.proofs.lemmas.List.{length-set}
use Rattle.ob_oram.specs.Walks.{blocks_in, slot_in}
use Rattle.ob_oram.proofs.WalkRows.{walk_is, sizes_set}
use Rattle.ob_oram.proofs.WalkReads.{spare_left, reads_more, reads_ended, reads_all, opens_slot, opens_more, slot_below}
use Rattle.ob_oram.proofs.reading.read_walk.Goals as goal

pub blocks-c-end-requires : goal.blocks-c-end-requires
blocks-c-end-requires g c = walk_is c.args.index.now c.args.walk c.requires.shaped c.requires.walk

pub slot-slot-requires-clause-walk : goal.slot-slot-requires-clause-walk
slot-slot-requires-clause-walk g c = walk_is c.args.index.now c.args.walk c.requires.shaped c.requires.walk

pub read_row-requires-clause-spare : goal.read_row-requires-clause-spare
read_row-requires-clause-spare g c =
    let within : c.loop-c.c < blocks_in c.args.walk = omega (arith, c.loop-c-test.true, c.blocks-c-end.ensures) in
    spare_left c.args.index.now c.args.walk c.loop-c.c _ _ c.requires.spare c.loop-c.invariant.reads within

pub returns-in-Err-clause-reads : goal.returns-in-Err-clause-reads
returns-in-Err-clause-reads g c =
    let within : c.loop-c.c < blocks_in c.args.walk = omega (arith, c.loop-c-test.true, c.blocks-c-end.ensures) in
    reads_ended c.args.index.now c.args.remap c.args.walk c.loop-c.c c.requires.walk within _ _ _ c.loop-c.invariant.reads c.in-Err.e _ c.in-Err.ensures.reads

pub loop-c-preserved : goal.loop-c-preserved
loop-c-preserved g c =
    let index = c.args.index.now in
    let walk = c.args.walk in
    let n = c.loop-c.c in
    let before = c.loop-c.invariant in
    let row = c.in-Ok.ensures.reads in
    let within : n < blocks_in walk = omega (arith, c.loop-c-test.true, c.blocks-c-end.ensures) in
    let inside : slot_in walk n < length c.loop-c.buffer = omega (arith, slot_below index walk n c.requires.walk within, before.buffer, c.requires.buffer) in
    let size : length c.read_row.new.row ≡ length (get_or c.loop-c.rows (slot_in walk n) c.index-rows-slot.result) = c.in-Ok.ensures.size ∙ ap (λ k. length (get_or c.loop-c.rows k c.index-rows-slot.result)) c.slot-slot.ensures in
    rw c.slot-slot.ensures (record {
      reads = reads_more index c.args.remap walk n c.requires.walk within _ _ _ before.reads _ _ row;
      same = sizes_set c.args.rows.now c.loop-c.rows (slot_in walk n) c.index-rows-slot.result c.read_row.new.row before.same (omega (arith, inside, before.same.count, before.buffer, c.requires.buffer, c.requires.count)) size;
      buffer = length-set c.loop-c.buffer (slot_in walk n) c.in-Ok.held ∙ before.buffer;
      opens = λ slots opened.
          let was = before.opens slots opened in
          let next = opens_slot index c.args.remap walk n c.requires.walk within _ _ _ before.reads c.loop-c.buffer c.loop-c.rows slots was.0 was.1 was.2 inside c.in-Ok.held c.read_row.new.row row in
          (_, next, opens_more index c.args.remap walk n c.requires.walk within _ _ _ before.reads c.loop-c.buffer c.loop-c.rows slots was.0 was.1 was.2 inside c.in-Ok.held c.read_row.new.row row);
    })

pub returns-clause-reads : goal.returns-clause-reads
returns-clause-reads g c =
    let last : c.loop-c.c ≡ blocks_in c.args.walk = omega (arith, c.loop-c-test.false, c.loop-c.auto.c-end, c.blocks-c-end.ensures) in
    reads_all c.args.index.now c.args.walk c.loop-c.c _ _ _ c.requires.walk last c.loop-c.invariant.reads
