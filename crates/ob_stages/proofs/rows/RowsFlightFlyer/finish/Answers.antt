use Rattle.ob_stages.specs.RowsStates.{rows_at}
use Rattle.ob_stages.proofs.RowsFinish.{finishes_err, finishes_ok}
use Rattle.ob_stages.proofs.rows.RowsFlightFlyer.finish.Goals as goal

pub returns-in-Ok-clause-finishes : goal.returns-in-Ok-clause-finishes
returns-in-Ok-clause-finishes g c =
    finishes_ok (rows_at c.args.self.now) c.args._kept.now c.requires.over c.requires.going g.E.Emit.grew g.E.Emit.cut g.E.Emit.faults c.in-Ok.outcome c.args.out.now c.answer.new.out c.in-Ok.ensures

pub returns-in-Err-clause-finishes : goal.returns-in-Err-clause-finishes
returns-in-Err-clause-finishes g c =
    finishes_err (rows_at c.args.self.now) c.args._kept.now c.requires.over c.requires.going g.E.Emit.grew g.E.Emit.cut g.E.Emit.faults c.in-Err.error c.args.out.now c.answer.new.out c.in-Err.ensures
