use Rattle.ob_exec.proofs.Words.{ap, append-nil, at, buffered, Err, length, map, OpErr, subst, sym, take, ◌∙◌}
use Rattle.ob_names.specs.Names.{place_of}
use Rattle.ob_mean.specs.Step.{item_of}
use Rattle.ob_exec.specs.Totalling.{Totals}
use Rattle.ob_stages.proofs.TotalsLemmas.{items_fit}
use Rattle.ob_exec.proofs.TotallingLemmas.{buffered_few, totals_gave_up, totals_groups, totals_groups_cut, totals_many}
use Rattle.ob_exec.proofs.totalling.answer_groups.Goals as goal

pub group-requires-clause-items : goal.group-requires-clause-items
group-requires-clause-items g c =
    let may = c.requires.may in
    let items = take (length c.as_slice-listed.result.now) c.items_at-items.result in
    let items_are = c.items_at-items.ensures.value ∙ (λ i. map (item_of (c.as_slice-columns.ensures.value i)) (c.as_slice-listed.ensures i)) in
    let place_is = c.place_of-place.ensures.value ∙ ap (place_of c.args.key.now) (append-nil c.as_slice-columns.result.now ∙ c.as_slice-columns.ensures.value) in
    items_fit c.args.flat.now.schema c.args.select.now c.args.key.now items c.place_of-place.result may.items c.requires.grouped items_are place_is

pub returns-in-Ok-clause-totals : goal.returns-in-Ok-clause-totals
returns-in-Ok-clause-totals g c =
    let emit = g.E.Emit in
    let may = c.requires.may in
    let room = c.args.room.now in
    let was = at g.R.Revisions.state c.args.vault.now (g.S.BlockStore.state c.args.store.now) in
    let now = at g.R.Revisions.state c.group.new.vault (g.S.BlockStore.state c.group.new.store) in
    let items = take (length c.as_slice-listed.result.now) c.items_at-items.result in
    let items_are = c.items_at-items.ensures.value ∙ (λ i. map (item_of (c.as_slice-columns.ensures.value i)) (c.as_slice-listed.ensures i)) in
    let place_is = c.place_of-place.ensures.value ∙ ap (place_of c.args.key.now) (append-nil c.as_slice-columns.result.now ∙ c.as_slice-columns.ensures.value) in
    totals_groups emit.grew emit.cut emit.faults (buffered room.pack room.rows) room.pack c.args.flat.now c.args.select.now c.args.pred.now was now may.items may.meant
    c.args.key.now items c.place_of-place.result c.requires.grouped items_are place_is
    c.in-Ok-Groups.n c.args.out.now c.group.new.out c.close.new.self (rw c.in-Ok-Groups.field-0-is at c.in-Ok-Groups.ensures.answers) (buffered_few room.pack room.rows may.some may.few) c.in-Ok.ensures.ok c.in-Ok.ensures.cause

pub returns-in-Ok-TooMany-clause-totals : goal.returns-in-Ok-TooMany-clause-totals
returns-in-Ok-TooMany-clause-totals g c =
    let emit = g.E.Emit in
    let may = c.requires.may in
    let room = c.args.room.now in
    let was = at g.R.Revisions.state c.args.vault.now (g.S.BlockStore.state c.args.store.now) in
    let now = at g.R.Revisions.state c.group.new.vault (g.S.BlockStore.state c.group.new.store) in
    let items = take (length c.as_slice-listed.result.now) c.items_at-items.result in
    let items_are = c.items_at-items.ensures.value ∙ (λ i. map (item_of (c.as_slice-columns.ensures.value i)) (c.as_slice-listed.ensures i)) in
    let place_is = c.place_of-place.ensures.value ∙ ap (place_of c.args.key.now) (append-nil c.as_slice-columns.result.now ∙ c.as_slice-columns.ensures.value) in
    totals_many emit.grew emit.cut emit.faults (buffered room.pack room.rows) room.pack c.args.flat.now c.args.select.now c.args.pred.now was now may.items may.meant
    c.args.key.now items c.place_of-place.result c.requires.grouped items_are place_is
    c.args.out.now c.group.new.out (rw c.in-Ok-TooMany.field-0-is at c.in-Ok-TooMany.ensures.answers)

pub returns-in-Err-close-clause-totals : goal.returns-in-Err-close-clause-totals
returns-in-Err-close-clause-totals g c =
    let emit = g.E.Emit in
    let may = c.requires.may in
    let room = c.args.room.now in
    let was = at g.R.Revisions.state c.args.vault.now (g.S.BlockStore.state c.args.store.now) in
    let now = at g.R.Revisions.state c.group.new.vault (g.S.BlockStore.state c.group.new.store) in
    let items = take (length c.as_slice-listed.result.now) c.items_at-items.result in
    let items_are = c.items_at-items.ensures.value ∙ (λ i. map (item_of (c.as_slice-columns.ensures.value i)) (c.as_slice-listed.ensures i)) in
    let place_is = c.place_of-place.ensures.value ∙ ap (place_of c.args.key.now) (append-nil c.as_slice-columns.result.now ∙ c.as_slice-columns.ensures.value) in
    subst (λ (e : OpErr). Totals emit.grew emit.cut emit.faults (buffered room.pack room.rows) room.pack c.args.flat.now c.args.select.now (Err e) was now c.args.out.now c.close.new.self) (sym c.error_of.ensures)
    (totals_groups_cut emit.grew emit.cut emit.faults (buffered room.pack room.rows) room.pack c.args.flat.now c.args.select.now c.args.pred.now was now may.items may.meant
    c.args.key.now items c.place_of-place.result c.requires.grouped items_are place_is
    c.in-Ok-Groups.n c.args.out.now c.group.new.out c.close.new.self (rw c.in-Ok-Groups.field-0-is at c.in-Ok-Groups.ensures.answers) c.in-Err-close.error c.in-Err-close.ensures.err c.in-Err-close.ensures.cause)

pub returns-in-Err-clause-totals : goal.returns-in-Err-clause-totals
returns-in-Err-clause-totals g c =
    let emit = g.E.Emit in
    let may = c.requires.may in
    let room = c.args.room.now in
    let was = at g.R.Revisions.state c.args.vault.now (g.S.BlockStore.state c.args.store.now) in
    let now = at g.R.Revisions.state c.group.new.vault (g.S.BlockStore.state c.group.new.store) in
    let items = take (length c.as_slice-listed.result.now) c.items_at-items.result in
    let items_are = c.items_at-items.ensures.value ∙ (λ i. map (item_of (c.as_slice-columns.ensures.value i)) (c.as_slice-listed.ensures i)) in
    let place_is = c.place_of-place.ensures.value ∙ ap (place_of c.args.key.now) (append-nil c.as_slice-columns.result.now ∙ c.as_slice-columns.ensures.value) in
    totals_gave_up emit.grew emit.cut emit.faults (buffered room.pack room.rows) room.pack c.args.flat.now c.args.select.now c.args.pred.now was now may.items may.meant
    c.args.key.now items c.place_of-place.result c.requires.grouped items_are place_is
    c.in-Err.error c.args.out.now c.group.new.out c.in-Err.ensures.answers c.in-Err.ensures.answers.few
