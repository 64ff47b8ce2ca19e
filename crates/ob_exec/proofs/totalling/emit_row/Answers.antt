use Rattle.std.proofs.Common.{[], ◌∷◌}
use Rattle.ob_base.specs.Events.{Head, Row, Close}
use Rattle.ob_exec.proofs.TotalsLemmas.{gives_more, gives_one, gives_front}
use Rattle.ob_exec.proofs.totalling.emit_row.Goals as goal

pub returns-in-Ok-row : goal.returns-in-Ok-row
returns-in-Ok-row g c =
    let emit = g.E.Emit in
    let first = c.in-Ok.ensures in
    let second = c.in-Ok-row.ensures in
    let last = c.close.ensures in
    gives_more emit.grew emit.cut emit.faults c.args.out.now c.head.new.self c.close.new.self (Head c.args.labels.now ∷ []) (Row c.args.cells.now ∷ Close 1 ∷ []) first.ok first.cause c.close.result
    (gives_more emit.grew emit.cut emit.faults c.head.new.self c.row.new.self c.close.new.self (Row c.args.cells.now ∷ []) (Close 1 ∷ []) second.ok second.cause c.close.result
    (gives_one emit.grew emit.cut emit.faults c.row.new.self c.close.new.self (Close 1 ∷ []) c.close.result last.ok last.err last.cause))

pub returns-in-Err-row : goal.returns-in-Err-row
returns-in-Err-row g c =
    let emit = g.E.Emit in
    let first = c.in-Ok.ensures in
    let second = c.in-Err-row.ensures in
    gives_more emit.grew emit.cut emit.faults c.args.out.now c.head.new.self c.row.new.self (Head c.args.labels.now ∷ []) (Row c.args.cells.now ∷ Close 1 ∷ []) first.ok first.cause _
    (gives_front emit.grew emit.cut emit.faults c.head.new.self c.row.new.self (Row c.args.cells.now ∷ []) (Close 1 ∷ []) c.in-Err-row.error second.err second.cause)

pub returns-in-Err : goal.returns-in-Err
returns-in-Err g c =
    let emit = g.E.Emit in
    let first = c.in-Err.ensures in
    gives_front emit.grew emit.cut emit.faults c.args.out.now c.head.new.self (Head c.args.labels.now ∷ []) (Row c.args.cells.now ∷ Close 1 ∷ []) c.in-Err.error first.err first.cause
