use Rattle.std.proofs.Common.{◌∙◌, ◌≤◌, length, get_or, arith}
use Rattle.ob_base.specs.Schemas.{width}
use Rattle.ob_oram.proofs.WalkRows.{walk_is, gets_as, one_list, one_size, reads_row, reads_tampered, reads_malformed}
use Rattle.ob_oram.proofs.reading.read_row.Goals as goal

pub place-place-requires-clause-walk : goal.place-place-requires-clause-walk
place-place-requires-clause-walk g c = walk_is c.args.index.now c.args.walk c.requires.shaped c.requires.walk

pub hold-requires-clause-wide : goal.hold-requires-clause-wide
hold-requires-clause-wide g c = omega (arith, one_size c.args.row.now c.from_mut.ensures.value c.get.ensures.rows, c.requires.wide)

pub returns-in-Err-hold-clause-size : goal.returns-in-Err-hold-clause-size
returns-in-Err-hold-clause-size g c = omega (arith, one_size c.args.row.now c.from_mut.ensures.value c.get.ensures.rows, c.hold.ensures.size)

pub returns-in-Ok-hold-clause-size : goal.returns-in-Ok-hold-clause-size
returns-in-Ok-hold-clause-size g c = omega (arith, one_size c.args.row.now c.from_mut.ensures.value c.get.ensures.rows, c.hold.ensures.size)

pub returns-in-Err-Tampered-clause-reads : goal.returns-in-Err-Tampered-clause-reads
returns-in-Err-Tampered-clause-reads g c =
    let index = c.args.index.now in
    let row = c.args.row.now in
    let rows = c.get.new.rows in
    let gets = gets_as _ _ _ c.region_of-region.ensures c.place-place.ensures c.from_mut.ensures.value (one_list rows row (c.get.ensures.rows.count ∙ c.from_mut.ensures.len)) c.in-Err-Tampered.ensures.gets in
    rw (c.region_of-region.ensures, c.place-place.ensures)
    (reads_tampered index c.args.remap c.args.walk c.args.c c.requires.shaped c.requires.walk c.requires.within _ _ c.requires.written row (get_or rows 0 row) _ _ _ c.in-Err-Tampered.field-0-is gets)

pub returns-in-Ok-hold-clause-reads : goal.returns-in-Ok-hold-clause-reads
returns-in-Ok-hold-clause-reads g c =
    let index = c.args.index.now in
    let row = c.args.row.now in
    let rows = c.get.new.rows in
    let gets = gets_as _ _ _ c.region_of-region.ensures c.place-place.ensures c.from_mut.ensures.value (one_list rows row (c.get.ensures.rows.count ∙ c.from_mut.ensures.len)) c.in-Ok.ensures.gets in
    reads_row index c.args.remap c.args.walk c.args.c c.requires.shaped c.requires.walk c.requires.within _ _ c.requires.written row (get_or rows 0 row) c.in-Ok-hold.held c.hold.new.row gets c.in-Ok-hold.ensures.real c.in-Ok-hold.ensures.opens

pub returns-in-Err-hold-clause-reads : goal.returns-in-Err-hold-clause-reads
returns-in-Err-hold-clause-reads g c =
    let index = c.args.index.now in
    let row = c.args.row.now in
    let rows = c.get.new.rows in
    let gets = gets_as _ _ _ c.region_of-region.ensures c.place-place.ensures c.from_mut.ensures.value (one_list rows row (c.get.ensures.rows.count ∙ c.from_mut.ensures.len)) c.in-Ok.ensures.gets in
    let wide : width index.schema ≤ length (get_or rows 0 row) = omega (arith, one_size row c.from_mut.ensures.value c.get.ensures.rows, c.requires.wide) in
    rw (c.region_of-region.ensures, c.place-place.ensures)
    (reads_malformed index c.args.remap c.args.walk c.args.c c.requires.shaped c.requires.walk c.requires.within _ _ c.requires.written row (get_or rows 0 row) c.hold.new.row gets wide c.in-Err-hold.ensures.opens)
