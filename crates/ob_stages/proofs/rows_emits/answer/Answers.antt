use Rattle.std.proofs.Common.{Bool, Ok, Err, sym, ◌∙◌, subst}
use Rattle.ob_flat.specs.Emission.{Takes}
use Rattle.ob_stages.specs.RowsHolds.{left_of}
use Rattle.ob_stages.specs.RowsStates.{rows_at}
use Rattle.ob_stages.proofs.RowsFinish.{answers_close, answers_head}
use Rattle.ob_stages.proofs.rows_emits.answer.Goals as goal

pub returns-in-Err : goal.returns-in-Err
returns-in-Err g c =
    let flight = rows_at c.args.flight.now in
    let takes = subst (λ (b : Bool). Takes {T = Unit {0}} g.E.Emit.grew g.E.Emit.cut g.E.Emit.faults (left_of b flight.q) (Err c.in-Err.error) c.args.out.now c.begin.new.out) c.is_headless.ensures c.in-Err.ensures in
    answers_head (Unit {0}) (Unit {0}) g.E.Emit.grew g.E.Emit.cut g.E.Emit.faults flight c.args.out.now c.if-flight.false (sym c.passes_pad.ensures ∙ c.if-passes_pad.false) c.in-Err.error c.begin.new.out takes

pub returns-in-Err-close : goal.returns-in-Err-close
returns-in-Err-close g c =
    let flight = rows_at c.args.flight.now in
    let takes = subst (λ (b : Bool). Takes {T = Unit {0}} g.E.Emit.grew g.E.Emit.cut g.E.Emit.faults (left_of b flight.q) (Ok c.in-Ok.field-0) c.args.out.now c.begin.new.out) c.is_headless.ensures c.in-Ok.ensures in
    answers_close (Unit {0}) (Unit {0}) g.E.Emit.grew g.E.Emit.cut g.E.Emit.faults flight c.args.out.now c.if-flight.false (sym c.passes_pad.ensures ∙ c.if-passes_pad.false) c.in-Ok.field-0 c.in-Err-close.error c.from-shown.result
    c.begin.new.out c.close.new.self c.from-shown.ensures takes c.in-Err-close.ensures.err c.in-Err-close.ensures.cause
