use Rattle.std.proofs.Common.{refl}
use Rattle.ob_stages.proofs.TotalsEnds.{finishes_failed, finishes_halted, finishes_whole}
use Rattle.ob_stages.proofs.totals.TotalsFlightFlyer.finish.Goals as goal

pub returns-then-self-clause-finishes : goal.returns-then-self-clause-finishes
returns-then-self-clause-finishes g c =
    let emit = g.E.Emit in
    finishes_failed emit.grew emit.cut emit.faults c.args.self.now c.requires.over c.requires.going c.args.out.now c.args.out.now c.end.result c.end.new.self c.end.ensures.answer c.end.ensures.ends c.if-self.true refl

pub returns-in-Ok-clause-finishes : goal.returns-in-Ok-clause-finishes
returns-in-Ok-clause-finishes g c =
    let emit = g.E.Emit in
    finishes_whole emit.grew emit.cut emit.faults c.args.self.now c.requires.over c.requires.going c.args.out.now c.emit.new.out c.end-in-Ok.result c.end-in-Ok.new.self c.end-in-Ok.ensures.answer c.end-in-Ok.ensures.ends c.if-self.false c.in-Ok.ensures

pub returns-in-Err-clause-finishes : goal.returns-in-Err-clause-finishes
returns-in-Err-clause-finishes g c =
    let emit = g.E.Emit in
    finishes_halted emit.grew emit.cut emit.faults c.args.self.now c.requires.over c.requires.going c.args.out.now c.emit.new.out c.in-Err.e c.if-self.false c.in-Err.ensures
