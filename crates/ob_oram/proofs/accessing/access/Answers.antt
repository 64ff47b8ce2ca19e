use Rattle.std.proofs.Common.{◌≡◌, ◌∙◌, Ok, Err, length, max, sym, ap, arith}
use Rattle.ob_base.specs.Schemas.{width}
use Rattle.ob_flat.proofs.Rooms.{opened_wide, opened_closed}
use Rattle.ob_oram.specs.declared.index.Index.{Index}
use Rattle.ob_oram.specs.declared.op.Got.{Got}
use Rattle.ob_oram.specs.Accessing.{LeftBy}
use Rattle.ob_base.specs.Indexes.{rows_open}
use Rattle.ob_oram.specs.Indexes.{IsEnded}
use Rattle.ob_oram.proofs.WalkRows.{height_few}
use Rattle.ob_oram.proofs.AccessIndex.{accesses_other, buffer_size, has_buffer, has_remap, left_other, zero_buffer, zero_open}
use Rattle.ob_oram.proofs.accessing.access.Goals as goal

pub remap_for-remap-requires : goal.remap_for-remap-requires
remap_for-remap-requires g c = height_few c.args.index.now c.requires.index.stored.shaped

pub access_open-result-requires-clause-even : goal.access_open-result-requires-clause-even
access_open-result-requires-clause-even g c = (c.args.room.now.width, zero_buffer (length c.empty.new.buffer) c.args.room.now.width c.open-rows.ensures.value)

pub access_open-result-requires-clause-open : goal.access_open-result-requires-clause-open
access_open-result-requires-clause-open g c =
    let index = c.args.index.now in
    let buffer : length c.empty.new.buffer ≡ rows_open index.height index.slots = c.empty.ensures.count ∙ ap length c.as_mut_slice-slots.ensures.value ∙ ap (λ b. length b.items) c.replace-buffer.ensures.value ∙ c.requires.index.buffer in
    zero_open (length c.empty.new.buffer) c.args.room.now.width c.open-rows.ensures.value _ _ c.empty.new.buffer (rows_open index.height index.slots) (sym buffer) buffer c.empty.ensures.none c.requires.room.wide

pub clear_shelf-requires-clause-wide : goal.clear_shelf-requires-clause-wide
clear_shelf-requires-clause-wide g c =
    let index = c.args.index.now in
    let s = c.args.room.now in
    let buffer : length c.empty.new.buffer ≡ rows_open index.height index.slots = c.empty.ensures.count ∙ ap length c.as_mut_slice-slots.ensures.value ∙ ap (λ b. length b.items) c.replace-buffer.ensures.value ∙ c.requires.index.buffer in
    opened_wide (width index.schema) (length c.empty.new.buffer) s _ c.access_open-result.new.rows c.requires.room (omega (arith, buffer, c.requires.rows)) c.open-rows.ensures.value c.access_open-result.ensures.rows

pub returns-in-Ok-clause-room : goal.returns-in-Ok-clause-room
returns-in-Ok-clause-room g c =
    let index = c.args.index.now in
    let s = c.args.room.now in
    let buffer : length c.empty.new.buffer ≡ rows_open index.height index.slots = c.empty.ensures.count ∙ ap length c.as_mut_slice-slots.ensures.value ∙ ap (λ b. length b.items) c.replace-buffer.ensures.value ∙ c.requires.index.buffer in
    c.clear_shelf.ensures
    ∙ opened_closed (width index.schema) (length c.empty.new.buffer) s _ c.access_open-result.new.rows c.requires.room (omega (arith, buffer, c.requires.rows)) c.open-rows.ensures.value c.access_open-result.ensures.rows c.rows.ensures.sound
    ∙ ap (λ n. record s { high = max s.high n }) buffer

pub returns-in-Err-clause-room : goal.returns-in-Err-clause-room
returns-in-Err-clause-room g c =
    let index = c.args.index.now in
    let s = c.args.room.now in
    let buffer : length c.empty.new.buffer ≡ rows_open index.height index.slots = c.empty.ensures.count ∙ ap length c.as_mut_slice-slots.ensures.value ∙ ap (λ b. length b.items) c.replace-buffer.ensures.value ∙ c.requires.index.buffer in
    c.clear_shelf.ensures
    ∙ opened_closed (width index.schema) (length c.empty.new.buffer) s _ c.access_open-result.new.rows c.requires.room (omega (arith, buffer, c.requires.rows)) c.open-rows.ensures.value c.access_open-result.ensures.rows c.rows.ensures.sound
    ∙ ap (λ n. record s { high = max s.high n }) buffer

pub returns-in-Ok-clause-accesses : goal.returns-in-Ok-clause-accesses
returns-in-Ok-clause-accesses g c =
    let index = c.args.index.now in
    let op = c.args.op.now in
    let left = c.set_leaf.new.index in
    let size : length left.buffer.items ≡ rows_open index.height index.slots =
    ap (λ (i : Index). length i.buffer.items) c.set_leaf.ensures.same ∙ buffer_size c.replace-buffer.result c.access_open-result.new.buffer ∙ ap (λ b. length b.items) c.replace-buffer.ensures.value ∙ c.requires.index.buffer in
    let has = has_remap index left _ c.remap_for-remap.result op c.args.draw c.remap_for-remap.ensures c.set_leaf.ensures.same c.set_leaf.ensures.leaves in
    let by : LeftBy (Ok c.in-Ok.got) index op c.args.draw left = record { ok = has; err = tt; ended = tt; buffer = size } in
    accesses_other index c.replace-buffer.new.dest left op c.args.draw (Ok c.in-Ok.got) _ _ (c.in-Ok.ensures.accesses left (left_other index c.replace-buffer.new.dest left op c.args.draw (Ok c.in-Ok.got) by))

pub returns-in-Err-clause-accesses : goal.returns-in-Err-clause-accesses
returns-in-Err-clause-accesses g c =
    let index = c.args.index.now in
    let op = c.args.op.now in
    let left : Index = record index { buffer = c.replace-buffer.new.dest } in
    let ended : IsEnded left = record { none = ap (λ b. b.items) c.replace-buffer.ensures.after ∙ c.new.ensures.items } in
    let by : LeftBy {T = Got} (Err c.in-Err.e) index op c.args.draw left = record { ok = tt; err = has_buffer index c.replace-buffer.new.dest; ended = ended; buffer = tt } in
    accesses_other index c.replace-buffer.new.dest left op c.args.draw (Err c.in-Err.e) _ _ (c.in-Err.ensures.accesses left (left_other index c.replace-buffer.new.dest left op c.args.draw (Err c.in-Err.e) by))
