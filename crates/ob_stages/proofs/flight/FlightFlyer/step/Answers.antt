use Rattle.std.proofs.Common.{◌≡◌, ℕ, List, Result, sym, subst}
use Rattle.std.specs.Prelude.{OnOk, IfErr}
use Rattle.ob_base.specs.Events.{Event}
use Rattle.ob_vault.specs.Places.{at}
use Rattle.ob_vault.specs.State.{World}
use Rattle.ob_flat.specs.declared.fault.OpErr.{OpErr}
use Rattle.ob_inflight.specs.Answers.{Tells}
use Rattle.ob_inflight.specs.Progress.{Steps, StopsStep}
use Rattle.ob_stages.specs.declared.flight.Flight.{Flight}
use Rattle.ob_stages.specs.declared.flight.Flight.TheVariants.{Rows, Totals, Groups}
use Rattle.ob_stages.specs.Flying.{FlightHalts, FlightHolds, FlightNeeds, MayFly, flight_progress}
use Rattle.ob_stages.proofs.flight.FlightFlyer.step.Goals as goal

-- what is true of a step of one kind is true of the whole
module _ (f of after : Flight) (same : f ≡ of) (result : Result (Unit {0}) OpErr) (old new : World) where
  steps_as : (others : ℕ) → OnOk result (Steps others (flight_progress of) (flight_progress after) (MayFly of) (MayFly after) (FlightNeeds of) (FlightNeeds after) old new)
      → OnOk result (Steps others (flight_progress f) (flight_progress after) (MayFly f) (MayFly after) (FlightNeeds f) (FlightNeeds after) old new)
  steps_as others is = subst (λ (x : Flight). OnOk result (Steps others (flight_progress x) (flight_progress after) (MayFly x) (MayFly after) (FlightNeeds x) (FlightNeeds after) old new)) (sym same) is

  stops_as : IfErr result (λ e. StopsStep e (flight_progress of) (flight_progress after) (MayFly of) old new) → IfErr result (λ e. StopsStep e (flight_progress f) (flight_progress after) (MayFly f) old new)
  stops_as is = subst (λ (x : Flight). IfErr result (λ e. StopsStep e (flight_progress x) (flight_progress after) (MayFly x) old new)) (sym same) is

  tells_as : {E : Type 0} (grew cut : E → E → List Event → Type 0) (kept own : List (List ℕ)) (a b : E)
      → Tells grew cut (flight_progress of).prints (FlightHolds of kept) (FlightHolds after own) (FlightHalts of) result old new a b
      → Tells grew cut (flight_progress f).prints (FlightHolds f kept) (FlightHolds after own) (FlightHalts f) result old new a b
  tells_as grew cut kept own a b is = subst (λ (x : Flight). Tells grew cut (flight_progress x).prints (FlightHolds x kept) (FlightHolds after own) (FlightHalts x) result old new a b) (sym same) is

pub returns-in-Rows-clause-steps : goal.returns-in-Rows-clause-steps
returns-in-Rows-clause-steps g c =
    let old = at g.R.Revisions.state c.args.vault.now (g.S.BlockStore.state c.args.store.now) in
    let new = at g.R.Revisions.state c.step.new.vault (g.S.BlockStore.state c.step.new.store) in
    steps_as c.args.self.now (Rows c.in-Rows.f) (Rows c.step.new.self) c.in-Rows.is c.step.result old new c.args.others c.step.ensures.steps

pub returns-in-Rows-clause-stops : goal.returns-in-Rows-clause-stops
returns-in-Rows-clause-stops g c =
    let old = at g.R.Revisions.state c.args.vault.now (g.S.BlockStore.state c.args.store.now) in
    let new = at g.R.Revisions.state c.step.new.vault (g.S.BlockStore.state c.step.new.store) in
    stops_as c.args.self.now (Rows c.in-Rows.f) (Rows c.step.new.self) c.in-Rows.is c.step.result old new c.step.ensures.stops

pub returns-in-Rows-clause-tells : goal.returns-in-Rows-clause-tells
returns-in-Rows-clause-tells g c =
    let old = at g.R.Revisions.state c.args.vault.now (g.S.BlockStore.state c.args.store.now) in
    let new = at g.R.Revisions.state c.step.new.vault (g.S.BlockStore.state c.step.new.store) in
    tells_as c.args.self.now (Rows c.in-Rows.f) (Rows c.step.new.self) c.in-Rows.is c.step.result old new g.E.Emit.grew g.E.Emit.cut c.args.kept.now c.step.new.kept c.args.out.now c.step.new.out c.step.ensures.tells

pub returns-in-Totals-clause-steps : goal.returns-in-Totals-clause-steps
returns-in-Totals-clause-steps g c =
    let old = at g.R.Revisions.state c.args.vault.now (g.S.BlockStore.state c.args.store.now) in
    let new = at g.R.Revisions.state c.step-in-Totals.new.vault (g.S.BlockStore.state c.step-in-Totals.new.store) in
    steps_as c.args.self.now (Totals c.in-Totals.f) (Totals c.step-in-Totals.new.self) c.in-Totals.is c.step-in-Totals.result old new c.args.others c.step-in-Totals.ensures.steps

pub returns-in-Totals-clause-stops : goal.returns-in-Totals-clause-stops
returns-in-Totals-clause-stops g c =
    let old = at g.R.Revisions.state c.args.vault.now (g.S.BlockStore.state c.args.store.now) in
    let new = at g.R.Revisions.state c.step-in-Totals.new.vault (g.S.BlockStore.state c.step-in-Totals.new.store) in
    stops_as c.args.self.now (Totals c.in-Totals.f) (Totals c.step-in-Totals.new.self) c.in-Totals.is c.step-in-Totals.result old new c.step-in-Totals.ensures.stops

pub returns-in-Totals-clause-tells : goal.returns-in-Totals-clause-tells
returns-in-Totals-clause-tells g c =
    let old = at g.R.Revisions.state c.args.vault.now (g.S.BlockStore.state c.args.store.now) in
    let new = at g.R.Revisions.state c.step-in-Totals.new.vault (g.S.BlockStore.state c.step-in-Totals.new.store) in
    tells_as c.args.self.now (Totals c.in-Totals.f) (Totals c.step-in-Totals.new.self) c.in-Totals.is c.step-in-Totals.result old new g.E.Emit.grew g.E.Emit.cut c.args.kept.now c.step-in-Totals.new._kept c.args.out.now c.step-in-Totals.new._out c.step-in-Totals.ensures.tells

pub returns-in-Groups-clause-steps : goal.returns-in-Groups-clause-steps
returns-in-Groups-clause-steps g c =
    let old = at g.R.Revisions.state c.args.vault.now (g.S.BlockStore.state c.args.store.now) in
    let new = at g.R.Revisions.state c.step-in-Groups.new.vault (g.S.BlockStore.state c.step-in-Groups.new.store) in
    steps_as c.args.self.now (Groups c.in-Groups.f) (Groups c.step-in-Groups.new.self) c.in-Groups.is c.step-in-Groups.result old new c.args.others c.step-in-Groups.ensures.steps

pub returns-in-Groups-clause-stops : goal.returns-in-Groups-clause-stops
returns-in-Groups-clause-stops g c =
    let old = at g.R.Revisions.state c.args.vault.now (g.S.BlockStore.state c.args.store.now) in
    let new = at g.R.Revisions.state c.step-in-Groups.new.vault (g.S.BlockStore.state c.step-in-Groups.new.store) in
    stops_as c.args.self.now (Groups c.in-Groups.f) (Groups c.step-in-Groups.new.self) c.in-Groups.is c.step-in-Groups.result old new c.step-in-Groups.ensures.stops

pub returns-in-Groups-clause-tells : goal.returns-in-Groups-clause-tells
returns-in-Groups-clause-tells g c =
    let old = at g.R.Revisions.state c.args.vault.now (g.S.BlockStore.state c.args.store.now) in
    let new = at g.R.Revisions.state c.step-in-Groups.new.vault (g.S.BlockStore.state c.step-in-Groups.new.store) in
    tells_as c.args.self.now (Groups c.in-Groups.f) (Groups c.step-in-Groups.new.self) c.in-Groups.is c.step-in-Groups.result old new g.E.Emit.grew g.E.Emit.cut c.args.kept.now c.step-in-Groups.new.kept c.args.out.now c.step-in-Groups.new._out c.step-in-Groups.ensures.tells
