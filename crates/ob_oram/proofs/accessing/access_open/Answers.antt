use Rattle.std.proofs.Common.{true, false, arith}
use Rattle.ob_vault.proofs.WordLemmas.{honest_before}
use Rattle.ob_oram.proofs.Seeing.{sees_spelt}
use Rattle.ob_oram.proofs.AccessRuns.{asks_writes, ends_full, ends_reading, ends_writing, leaf_read_below, stored_lasts, went_all, all_sealed, stands_all}
use Rattle.ob_oram.proofs.AccessTold.{all_slots, arranged_by, leaf_read_is, range_is, still_even, told_answers, told_full, told_map, told_room}
use Rattle.ob_oram.proofs.Overfull.{reads_too_many}
use Rattle.ob_oram.proofs.WalkRows.{height_few}
use Rattle.ob_oram.proofs.accessing.access_open.Goals as goal

pub remap_for-remap-requires : goal.remap_for-remap-requires
remap_for-remap-requires g c = height_few c.args.index.now c.requires.stored.shaped

pub read_index-requires-clause-leaf : goal.read_index-requires-clause-leaf
read_index-requires-clause-leaf g c =
    rw (c.leaf_before-leaf.ensures, c.remap_for-remap.ensures) (leaf_read_below c.args.index.now c.requires.stored.shaped c.args.op.now c.args.draw)

pub returns-in-Err-clause-accesses : goal.returns-in-Err-clause-accesses
returns-in-Err-clause-accesses g c = λ left by.
    let reads = rw (c.leaf_before-leaf.ensures, c.remap_for-remap.ensures) at c.in-Err.ensures.reads in
    ends_reading c.args.index.now c.args.op.now c.args.draw _ c.requires.stored left c.in-Err.e _ reads by

pub place-requires-clause-height : goal.place-requires-clause-height
place-requires-clause-height g c = omega (arith, height_few c.args.index.now c.requires.stored.shaped)

pub returns-then-not-place-clause-rows : goal.returns-then-not-place-clause-rows
returns-then-not-place-clause-rows g c =
    still_even c.requires.even.0 _ _ _ _ c.requires.even.1 c.in-Ok.ensures.rows c.serve-got.ensures.rows c.place.ensures.count.1 (c.place.ensures.wide c.requires.even.0)

pub returns-in-Ok-write_index-clause-rows : goal.returns-in-Ok-write_index-clause-rows
returns-in-Ok-write_index-clause-rows g c =
    still_even c.requires.even.0 _ _ _ _ c.requires.even.1 c.in-Ok.ensures.rows c.serve-got.ensures.rows c.place.ensures.count.1 (c.place.ensures.wide c.requires.even.0)

pub returns-in-Err-write_index-clause-rows : goal.returns-in-Err-write_index-clause-rows
returns-in-Err-write_index-clause-rows g c =
    still_even c.requires.even.0 _ _ _ _ c.requires.even.1 c.in-Ok.ensures.rows c.serve-got.ensures.rows c.place.ensures.count.1 (c.place.ensures.wide c.requires.even.0)

pub write_index-requires-clause-asks : goal.write_index-requires-clause-asks
write_index-requires-clause-asks g c =
    let reads = rw (c.leaf_before-leaf.ensures, c.remap_for-remap.ensures) at c.in-Ok.ensures.reads in
    asks_writes c.args.index.now c.args.op.now c.args.draw _ c.requires.stored _ c.requires.starts reads.ok

pub write_index-requires-clause-stored : goal.write_index-requires-clause-stored
write_index-requires-clause-stored g c = stored_lasts c.args.index.now _ _ c.in-Ok.ensures.reads.ok.lasts c.requires.stored

pub write_index-requires-clause-leaf : goal.write_index-requires-clause-leaf
write_index-requires-clause-leaf g c =
    rw (c.leaf_before-leaf.ensures, c.remap_for-remap.ensures) (leaf_read_below c.args.index.now c.requires.stored.shaped c.args.op.now c.args.draw)

pub write_index-requires-clause-spells : goal.write_index-requires-clause-spells
write_index-requires-clause-spells g c =
    let opens = c.in-Ok.ensures.opens in
    let served = c.serve-got.ensures.serves opens.0 opens.1 opens.2.spare in
    let placed = c.place.ensures.sees _ _ _ served.0 served.1.sees in
    record { slots = placed.0; spelt = sees_spelt _ _ _ placed.0 _ _ placed.1 }

pub returns-then-not-place-clause-accesses : goal.returns-then-not-place-clause-accesses
returns-then-not-place-clause-accesses g c = λ left by.
    let index = c.args.index.now in
    let op = c.args.op.now in
    let leaf = leaf_read_is index op c.args.draw c.leaf_before-leaf.result c.remap_for-remap.result c.remap_for-remap.ensures c.leaf_before-leaf.ensures in
    let reads = rw leaf at c.in-Ok.ensures.reads in
    let opens = c.in-Ok.ensures.opens in
    let served = c.serve-got.ensures.serves opens.0 opens.1 opens.2.spare in
    let placed = c.if-not-place.ensures.sees _ _ _ served.0 served.1.sees in
    let count = all_slots index _ _ _ _ c.requires.open.sees.count c.requires.open.sees.same c.in-Ok.ensures.rows.count c.serve-got.ensures.rows.count in
    let arranged = arranged_by index op c.args.draw c.remap_for-remap.result c.leaf_before-leaf.result _ opens.0 served.0 placed.0 c.serve-got.result false _ _ c.remap_for-remap.ensures leaf count opens.2 served.2 served.1.keyed placed.2 in
    ends_full index op c.args.draw _ c.requires.stored left _ reads.ok reads.seals (told_full index op c.args.draw c.requires.op c.requires.stored.shaped opens.0 served.0 placed.0 c.serve-got.result _ _ reads.ok arranged)
    (reads_too_many index op c.args.draw c.requires.stored.shaped opens.0 served.0 placed.0 c.serve-got.result _ _ opens.1.keyed arranged) by

pub returns-in-Err-write_index-clause-accesses : goal.returns-in-Err-write_index-clause-accesses
returns-in-Err-write_index-clause-accesses g c = λ left by.
    let index = c.args.index.now in
    let op = c.args.op.now in
    let leaf = leaf_read_is index op c.args.draw c.leaf_before-leaf.result c.remap_for-remap.result c.remap_for-remap.ensures c.leaf_before-leaf.ensures in
    let reads = rw leaf at c.in-Ok.ensures.reads in
    let writes = rw leaf at c.in-Err-write_index.ensures.writes in
    let opens = c.in-Ok.ensures.opens in
    let served = c.serve-got.ensures.serves opens.0 opens.1 opens.2.spare in
    let placed = c.if-not-place.ensures.sees _ _ _ served.0 served.1.sees in
    let count = all_slots index _ _ _ _ c.requires.open.sees.count c.requires.open.sees.same c.in-Ok.ensures.rows.count c.serve-got.ensures.rows.count in
    let arranged = arranged_by index op c.args.draw c.remap_for-remap.result c.leaf_before-leaf.result _ opens.0 served.0 placed.0 c.serve-got.result true _ _ c.remap_for-remap.ensures leaf count opens.2 served.2 served.1.keyed placed.2 in
    ends_writing index op c.args.draw _ c.requires.stored left _ reads.ok reads.seals (told_room index op c.args.draw c.requires.op c.requires.stored.shaped opens.0 served.0 placed.0 c.serve-got.result _ _ reads.ok arranged)
    c.in-Err-write_index.e _ _ writes by

pub returns-in-Ok-write_index-clause-accesses : goal.returns-in-Ok-write_index-clause-accesses
returns-in-Ok-write_index-clause-accesses g c = λ left by.
    let index = c.args.index.now in
    let op = c.args.op.now in
    let leaf = leaf_read_is index op c.args.draw c.leaf_before-leaf.result c.remap_for-remap.result c.remap_for-remap.ensures c.leaf_before-leaf.ensures in
    let reads = rw leaf at c.in-Ok.ensures.reads in
    let writes = rw leaf at c.in-Ok-write_index.ensures.writes in
    let opens = c.in-Ok.ensures.opens in
    let served = c.serve-got.ensures.serves opens.0 opens.1 opens.2.spare in
    let placed = c.if-not-place.ensures.sees _ _ _ served.0 served.1.sees in
    let count = all_slots index _ _ _ _ c.requires.open.sees.count c.requires.open.sees.same c.in-Ok.ensures.rows.count c.serve-got.ensures.rows.count in
    let arranged = arranged_by index op c.args.draw c.remap_for-remap.result c.leaf_before-leaf.result _ opens.0 served.0 placed.0 c.serve-got.result true _ _ c.remap_for-remap.ensures leaf count opens.2 served.2 served.1.keyed placed.2 in
    let spelt = sees_spelt _ _ _ placed.0 _ _ placed.1 in
    record {
      ok = went_all index op c.args.draw _ c.requires.stored left _ reads.ok reads.seals _ _ writes;
      err = tt;
      seals = all_sealed index op c.args.draw _ c.requires.stored left _ reads.ok reads.seals _ _ writes;
      leaves = by.ok;
      ended = tt;
      stands = stands_all index op c.args.draw _ c.requires.stored left _ reads.ok reads.seals _ _ writes c.serve-got.result by;
      range = range_is index op c.args.draw c.remap_for-remap.ensures c.serve-got.ensures.range;
      maps = λ honest m is. told_map index op c.args.draw c.requires.op c.requires.stored.shaped opens.0 served.0 placed.0 c.serve-got.result _ _ reads.ok arranged _ spelt _ writes left by.ok honest m is;
      full = λ no. absurd (cc no);
      told = λ honest s lies. told_answers index op c.args.draw c.requires.op c.requires.stored.shaped opens.0 served.0 placed.0 c.serve-got.result _ _ reads.ok arranged _ spelt _ writes left by.ok honest s lies;
      room = λ honest s lies none.
          absurd (told_room index op c.args.draw c.requires.op c.requires.stored.shaped opens.0 served.0 placed.0 c.serve-got.result _ _ reads.ok arranged s (honest_before writes.ok.lasts honest) lies none);
    }
