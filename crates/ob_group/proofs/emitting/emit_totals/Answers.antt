use Rattle.std.proofs.Common.{List, [], ◌∷◌, length, take, sym, ◌∙◌, ap}
use Rattle.ob_base.specs.declared.shown.Shown.{Shown}
use Rattle.ob_base.specs.Events.{Head}
use Rattle.ob_group.proofs.Rows.{row_emitted, row_headless}
use Rattle.ob_group.proofs.emitting.emit_totals.Goals as goal

pub returns-in-Ok-clause-cells : goal.returns-in-Ok-clause-cells
returns-in-Ok-clause-cells g c = ap (λ (l : List Shown). length l) (sym c.cells-cells.ensures.value) ∙ c.cells-cells.ensures.size

pub returns-in-Err-clause-cells : goal.returns-in-Err-clause-cells
returns-in-Err-clause-cells g c = ap (λ (l : List Shown). length l) (sym c.cells-cells.ensures.value) ∙ c.cells-cells.ensures.size

pub returns-in-Ok-clause-emits : goal.returns-in-Ok-clause-emits
returns-in-Ok-clause-emits g c =
    let emit = g.E.Emit in
    let labels = take (length c.args.aggs.now) c.agg_labels-labels.result in
    rw (sym c.agg_labels-labels.ensures.value, sym c.cells-cells.ensures.value, sym c.as_slice.ensures)
    (row_emitted emit.grew emit.cut emit.faults (Head labels ∷ []) c.as_slice.result.now c.args.out.now c.head.new.self c.row.new.self c.in-Ok.ensures.ok c.in-Ok.ensures.cause c.row.result c.row.ensures.ok c.row.ensures.err c.row.ensures.cause)

pub returns-in-Err-clause-emits : goal.returns-in-Err-clause-emits
returns-in-Err-clause-emits g c =
    let emit = g.E.Emit in
    let labels = take (length c.args.aggs.now) c.agg_labels-labels.result in
    rw (sym c.agg_labels-labels.ensures.value)
    (row_headless emit.grew emit.cut emit.faults (Head labels ∷ []) _ c.args.out.now c.head.new.self c.in-Err.e c.in-Err.ensures.err c.in-Err.ensures.cause)
