use Rattle.std.proofs.Common.{◌*◌, ◌+◌, max, sym, ◌∙◌, arith}
use Rattle.ob_base.specs.Schemas.{width}
use Rattle.ob_row.specs.Truth.{is_true}
use Rattle.ob_vault.specs.Places.{at}
use Rattle.ob_flat.proofs.Rooms.{block_fits}
use Rattle.ob_flat.proofs.Opened.{block_few}
use Rattle.ob_group.proofs.Kept.{back_count, back_wide, ends_wide, ends_closed, front_clear, groups_of_all, kept_are, open_most}
use Rattle.ob_group.proofs.grouping.group.Goals as goal

pub group_table-result-requires-clause-spare : goal.group_table-result-requires-clause-spare
group_table-result-requires-clause-spare g c = simp (sym (c.split_at_mut-rows.ensures.front_len ∙ c.pack-pack.ensures.value)) at c.requires.spare

pub group_table-result-requires-clause-table : goal.group_table-result-requires-clause-table
group_table-result-requires-clause-table g c =
    let count = c.split_at_mut-rows.ensures.front_len ∙ c.pack-pack.ensures.value in
    let few = block_few c.args.room.now c.pack-pack.ensures.sound count in
    record { some = few.0; most = few.1; size = c.requires.size; written = simp (sym count) at c.requires.flat }

pub group_table-result-requires-clause-fit : goal.group_table-result-requires-clause-fit
group_table-result-requires-clause-fit g c =
    block_fits (width c.args.flat.now.schema) c.args.room.now c.requires.room c.pack-pack.ensures.sound c.pack-pack.ensures.value (front_clear c.pack-pack.result c.min-kept_blocks.result c.args.room.now c.open-open.ensures.value c.split_at_mut-rows.ensures.front)

pub group_table-result-requires-clause-places : goal.group_table-result-requires-clause-places
group_table-result-requires-clause-places g c =
    let s = c.args.room.now in
    let most = open_most _ s c.min-kept_blocks.ensures c.pack-pack.ensures.value c.rows.ensures.value c.requires.room.enough in
    record {
      wide = back_wide c.pack-pack.result c.min-kept_blocks.result s c.open-open.ensures.value 768 c.requires.wide c.split_at_mut-rows.ensures.back;
      few = omega (arith, back_count c.pack-pack.result c.min-kept_blocks.result s c.open-open.ensures.value c.split_at_mut-rows.ensures.back, most, c.rows.ensures.value, c.rows.type_inv);
    }

pub group_table-result-requires-clause-most : goal.group_table-result-requires-clause-most
group_table-result-requires-clause-most g c =
    let s = c.args.room.now in
    let most = open_most _ s c.min-kept_blocks.ensures c.pack-pack.ensures.value c.rows.ensures.value c.requires.room.enough in
    omega (arith, back_count c.pack-pack.result c.min-kept_blocks.result s c.open-open.ensures.value c.split_at_mut-rows.ensures.back, most, c.requires.places)

pub clear_shelf-requires-clause-wide : goal.clear_shelf-requires-clause-wide
clear_shelf-requires-clause-wide g c =
    let s = c.args.room.now in
    let most = open_most _ s c.min-kept_blocks.ensures c.pack-pack.ensures.value c.rows.ensures.value c.requires.room.enough in
    ends_wide c.pack-pack.result c.min-kept_blocks.result s c.open-open.ensures.value (width c.args.flat.now.schema) c.requires.room most c.split_at_mut-rows.ensures.value c.group_table-result.ensures.rows c.group_table-result.ensures.groups

pub returns-clause-room : goal.returns-clause-room
returns-clause-room g c =
    let s = c.args.room.now in
    let most = open_most _ s c.min-kept_blocks.ensures c.pack-pack.ensures.value c.rows.ensures.value c.requires.room.enough in
    let kept = kept_are s c.args.flat.now c.min-kept_blocks.ensures c.div_ceil.ensures c.pack-pack.ensures.value c.rows.ensures.value in
    c.clear_shelf.ensures
    ∙ ends_closed c.pack-pack.result c.min-kept_blocks.result s c.open-open.ensures.value (width c.args.flat.now.schema) c.requires.room most c.split_at_mut-rows.ensures.value c.group_table-result.ensures.rows c.group_table-result.ensures.groups c.pack-pack.ensures.sound
    ∙ (λ i. record s { high = max s.high (c.pack-pack.ensures.value i + kept i * c.pack-pack.ensures.value i) })

pub returns-clause-answers : goal.returns-clause-answers
returns-clause-answers g c =
    let s = c.args.room.now in
    let emit = g.E.Emit in
    let kept = kept_are s c.args.flat.now c.min-kept_blocks.ensures c.div_ceil.ensures c.pack-pack.ensures.value c.rows.ensures.value in
    let count = back_count c.pack-pack.result c.min-kept_blocks.result s c.open-open.ensures.value c.split_at_mut-rows.ensures.back ∙ (λ i. kept i * c.pack-pack.ensures.value i) in
    let answers = simp (c.split_at_mut-rows.ensures.front_len ∙ c.pack-pack.ensures.value, count) at c.group_table-result.ensures.answers in
    groups_of_all emit.grew emit.cut emit.faults s.rows s.pack c.pack-pack.ensures.sound.pack_some c.args.flat.now (is_true c.args.pred.now) c.args.key c.args.items.now c.group_table-result.result
    (at g.R.Revisions.state c.args.vault.now (g.S.BlockStore.state c.args.store.now)) (at g.R.Revisions.state c.group_table-result.new.vault (g.S.BlockStore.state c.group_table-result.new.store)) c.args.out.now c.group_table-result.new.out answers
