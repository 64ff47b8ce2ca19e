use Rattle.std.proofs.Common.{List, [], ◌∷◌, length, take, Ok, Err, subst}
use Rattle.ob_base.specs.Events.{Close}
use Rattle.ob_group.specs.Steps.{EmitsAll, totals_events}
use Rattle.ob_sql.specs.declared.stmt.Listed.{Listed}
use Rattle.ob_stages.specs.Totals.{aggs_of}
use Rattle.ob_stages.proofs.ReadingEnds.{emits_front, emits_more}
use Rattle.ob_stages.proofs.totals.TotalsFlight.emit.Goals as goal

pub returns-in-Ok : goal.returns-in-Ok
returns-in-Ok g c =
    let emit = g.E.Emit in
    let f = c.args.self.now in
    let cs = f.reading.flat.schema in
    let given = subst (λ (l : List Listed). EmitsAll {T = Unit {0}} emit.grew emit.cut emit.faults (totals_events cs (take (length l) f.aggs) f.sums) (Ok tt) c.args.out.now c.emit_totals.new.out) c.as_slice-n.ensures c.in-Ok.ensures.emits in
    emits_more emit.grew emit.cut emit.faults c.args.out.now c.emit_totals.new.out c.close.new.self (totals_events cs (aggs_of f) f.sums) (Close 1 ∷ []) c.close.result given c.close.ensures.ok c.close.ensures.err c.close.ensures.cause

pub returns-in-Err : goal.returns-in-Err
returns-in-Err g c =
    let emit = g.E.Emit in
    let f = c.args.self.now in
    let cs = f.reading.flat.schema in
    let given = subst (λ (l : List Listed). EmitsAll {T = Unit {0}} emit.grew emit.cut emit.faults (totals_events cs (take (length l) f.aggs) f.sums) (Err c.in-Err.e) c.args.out.now c.emit_totals.new.out) c.as_slice-n.ensures c.in-Err.ensures.emits in
    emits_front emit.grew emit.cut emit.faults c.args.out.now c.emit_totals.new.out c.emit_totals.new.out (totals_events cs (aggs_of f) f.sums) (Close 1 ∷ []) c.in-Err.e given
