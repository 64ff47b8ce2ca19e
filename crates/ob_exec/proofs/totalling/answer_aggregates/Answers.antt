use Rattle.ob_exec.proofs.Words.{at, buffered, Close, Err, Head, Leads, length, List, map, OpErr, Shown, subst, sym, take, [], ◌∙◌, ◌∷◌}
use Rattle.ob_base.specs.Events.{Row}
use Rattle.ob_group.specs.Steps.{EmitsAll}
use Rattle.ob_stages.specs.Totalling.{agg_at}
use Rattle.ob_exec.specs.Totalling.{Totals}
use Rattle.ob_stages.proofs.TotalsLemmas.{aggs_fit, aggs_labels}
use Rattle.ob_exec.proofs.TotallingLemmas.{totals_none, totals_row, totals_row_cut}
use Rattle.ob_exec.proofs.totalling.answer_aggregates.Goals as goal

pub aggregate-requires-clause-aggs : goal.aggregate-requires-clause-aggs
aggregate-requires-clause-aggs g c =
    let may = c.requires.may in
    let aggs = take (length c.as_slice-items.result.now) c.aggs_at-all.result in
    let aggs_are = c.aggs_at-all.ensures.value ∙ (λ i. map (agg_at (c.as_slice.ensures.value i)) (c.as_slice-items.ensures i)) in
    aggs_fit c.args.flat.now.schema c.args.select.now aggs may.items c.requires.ungrouped aggs_are

pub returns-in-Ok-emit_row-clause-totals : goal.returns-in-Ok-emit_row-clause-totals
returns-in-Ok-emit_row-clause-totals g c =
    let emit = g.E.Emit in
    let may = c.requires.may in
    let room = c.args.room.now in
    let was = at g.R.Revisions.state c.args.vault.now (g.S.BlockStore.state c.args.store.now) in
    let now = at g.R.Revisions.state c.aggregate.new.vault (g.S.BlockStore.state c.aggregate.new.store) in
    let aggs = take (length c.as_slice-items.result.now) c.aggs_at-all.result in
    let aggs_are = c.aggs_at-all.ensures.value ∙ (λ i. map (agg_at (c.as_slice.ensures.value i)) (c.as_slice-items.ensures i)) in
    let labels_are = c.labels_of-labels.ensures.value
    ∙ aggs_labels c.args.flat.now.schema c.args.select.now aggs may.items c.requires.ungrouped aggs_are in
    let given = c.in-Ok-emit_row.ensures in
    let labels = take (length aggs) c.labels_of-labels.result in
    let leads =
    subst (λ (cells : List Shown). Leads emit.grew emit.grew c.args.out.now c.emit_row.new.out (Head labels ∷ Row cells ∷ Close 1 ∷ [])) c.as_slice-in-Ok.ensures given.ok in
    totals_row emit.grew emit.cut emit.faults (buffered room.pack room.rows) room.pack c.args.flat.now c.args.select.now c.args.pred.now was now may.items may.meant aggs c.requires.ungrouped aggs_are
    c.in-Ok.cells labels c.args.out.now c.emit_row.new.out labels_are c.in-Ok.ensures.aggregates leads given.cause

pub returns-in-Err-emit_row-clause-totals : goal.returns-in-Err-emit_row-clause-totals
returns-in-Err-emit_row-clause-totals g c =
    let emit = g.E.Emit in
    let may = c.requires.may in
    let room = c.args.room.now in
    let was = at g.R.Revisions.state c.args.vault.now (g.S.BlockStore.state c.args.store.now) in
    let now = at g.R.Revisions.state c.aggregate.new.vault (g.S.BlockStore.state c.aggregate.new.store) in
    let aggs = take (length c.as_slice-items.result.now) c.aggs_at-all.result in
    let aggs_are = c.aggs_at-all.ensures.value ∙ (λ i. map (agg_at (c.as_slice.ensures.value i)) (c.as_slice-items.ensures i)) in
    let labels_are = c.labels_of-labels.ensures.value
    ∙ aggs_labels c.args.flat.now.schema c.args.select.now aggs may.items c.requires.ungrouped aggs_are in
    let labels = take (length aggs) c.labels_of-labels.result in
    let error = c.in-Err-emit_row.error in
    let given =
    subst (λ (cells : List Shown). EmitsAll {T = Unit {0}} emit.grew emit.cut emit.faults (Head labels ∷ Row cells ∷ Close 1 ∷ []) (Err error) c.args.out.now c.emit_row.new.out) c.as_slice-in-Ok.ensures
    c.in-Err-emit_row.ensures in
    subst (λ (e : OpErr). Totals emit.grew emit.cut emit.faults (buffered room.pack room.rows) room.pack c.args.flat.now c.args.select.now (Err e) was now c.args.out.now c.emit_row.new.out) (sym c.error_of.ensures)
    (totals_row_cut emit.grew emit.cut emit.faults (buffered room.pack room.rows) room.pack c.args.flat.now c.args.select.now c.args.pred.now was now may.items may.meant aggs c.requires.ungrouped aggs_are
    c.in-Ok.cells labels error c.args.out.now c.emit_row.new.out labels_are c.in-Ok.ensures.aggregates given)

pub returns-in-Err-clause-totals : goal.returns-in-Err-clause-totals
returns-in-Err-clause-totals g c =
    let emit = g.E.Emit in
    let may = c.requires.may in
    let room = c.args.room.now in
    let was = at g.R.Revisions.state c.args.vault.now (g.S.BlockStore.state c.args.store.now) in
    let now = at g.R.Revisions.state c.aggregate.new.vault (g.S.BlockStore.state c.aggregate.new.store) in
    let aggs = take (length c.as_slice-items.result.now) c.aggs_at-all.result in
    let aggs_are = c.aggs_at-all.ensures.value ∙ (λ i. map (agg_at (c.as_slice.ensures.value i)) (c.as_slice-items.ensures i)) in
    totals_none emit.grew emit.cut emit.faults (buffered room.pack room.rows) room.pack c.args.flat.now c.args.select.now c.args.pred.now was now may.items may.meant aggs c.requires.ungrouped aggs_are
    c.in-Err.error c.args.out.now c.in-Err.ensures.aggregates
