use Rattle.std.proofs.Common.{Ok, sym, subst}
use Rattle.ob_inflight.specs.Answers.{Finishes}
use Rattle.ob_verdict.specs.declared.outcome.Outcome.{Outcome}
use Rattle.ob_stages.specs.declared.flight.Flight.{Flight}
use Rattle.ob_stages.specs.declared.flight.Flight.TheVariants.{Refused, Rows, Totals, Groups}
use Rattle.ob_stages.specs.declared.refused.RefusedFlight.{RefusedFlight}
use Rattle.ob_stages.specs.Flying.{FlightHalts, FlightHolds}
use Rattle.ob_stages.proofs.RefusedEnds.{finishes_refused}
use Rattle.ob_stages.proofs.flight.FlightFlyer.finish.Goals as goal

pub returns-in-Refused-clause-finishes : goal.returns-in-Refused-clause-finishes
returns-in-Refused-clause-finishes g c =
    let emit = g.E.Emit in
    let kept = c.args.kept.now in
    let f = c.in-Refused.f in
    subst (λ (x : Flight). Finishes {T = Outcome} emit.grew emit.cut (FlightHolds x kept) (FlightHolds (Refused c.finish.new.self) kept) (FlightHalts x) (Ok c.finish.result) c.args.out.now c.args.out.now) (sym c.in-Refused.is)
    (subst (λ (h : RefusedFlight). Finishes {T = Outcome} emit.grew emit.cut (FlightHolds (Refused f) kept) (FlightHolds (Refused h) kept) (FlightHalts (Refused f)) (Ok c.finish.result) c.args.out.now c.args.out.now) (sym c.finish.ensures.ends)
    (finishes_refused emit.grew emit.cut f kept c.finish.result c.args.out.now))

pub returns-in-Rows-clause-finishes : goal.returns-in-Rows-clause-finishes
returns-in-Rows-clause-finishes g c =
    let emit = g.E.Emit in
    let kept = c.args.kept.now in
    subst (λ (f : Flight). Finishes {T = Outcome} emit.grew emit.cut (FlightHolds f kept) (FlightHolds (Rows c.finish-in-Rows.new.self) kept) (FlightHalts f) c.finish-in-Rows.result c.args.out.now c.finish-in-Rows.new.out) (sym c.in-Rows.is) c.finish-in-Rows.ensures.finishes

pub returns-in-Totals-clause-finishes : goal.returns-in-Totals-clause-finishes
returns-in-Totals-clause-finishes g c =
    let emit = g.E.Emit in
    let kept = c.args.kept.now in
    subst (λ (f : Flight). Finishes {T = Outcome} emit.grew emit.cut (FlightHolds f kept) (FlightHolds (Totals c.finish-in-Totals.new.self) kept) (FlightHalts f) c.finish-in-Totals.result c.args.out.now c.finish-in-Totals.new.out) (sym c.in-Totals.is) c.finish-in-Totals.ensures.finishes

pub returns-in-Groups-clause-finishes : goal.returns-in-Groups-clause-finishes
returns-in-Groups-clause-finishes g c =
    let emit = g.E.Emit in
    let kept = c.args.kept.now in
    subst (λ (f : Flight). Finishes {T = Outcome} emit.grew emit.cut (FlightHolds f kept) (FlightHolds (Groups c.finish-in-Groups.new.self) kept) (FlightHalts f) c.finish-in-Groups.result c.args.out.now c.finish-in-Groups.new.out) (sym c.in-Groups.is) c.finish-in-Groups.ensures.finishes
