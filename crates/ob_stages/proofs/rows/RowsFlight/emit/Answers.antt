use Rattle.std.proofs.Common.{◌-◌, Ok, Err, sym, ◌∙◌, subst, refl}
use Rattle.ob_vault.specs.Places.{at}
use Rattle.ob_stages.specs.declared.rows.RowsFlight.{RowsFlight}
use Rattle.ob_stages.specs.declared.rows.Stage.{Stage}
use Rattle.ob_stages.specs.declared.rows.Stage.TheVariants.{Emit}
use Rattle.ob_stages.specs.RowsStates.{rows_at}
use Rattle.ob_stages.specs.RowsSteps.{LoudStep}
use Rattle.ob_stages.proofs.FaultLemmas.{failed_by, not_fault}
use Rattle.ob_stages.proofs.RowsAsks.{shows_as}
use Rattle.ob_stages.proofs.RowsEmits.{loud_failed, loud_shown, loud_stopped}
use Rattle.ob_stages.proofs.RowsGoing.{few_at, stepped}
use Rattle.ob_stages.proofs.rows.RowsFlight.emit.Goals as goal

pub go-requires-clause-few : goal.go-requires-clause-few
go-requires-clause-few g c = few_at (rows_at c.args.self.now) c.requires.held.holds.placed (Emit c.args.place) c.requires.steps.at refl

pub fail-requires : goal.fail-requires
fail-requires g c = record { few = few_at (rows_at c.args.self.now) c.requires.held.holds.placed (Emit c.args.place) c.requires.steps.at refl }

pub returns-in-Ok-clause-loud : goal.returns-in-Ok-clause-loud
returns-in-Ok-clause-loud g c = λ kept.
    let flight = rows_at c.args.self.now in
    let old = at g.R.Revisions.state c.args.vault.now (g.S.BlockStore.state c.args.store.now) in
    let new = at g.R.Revisions.state c.show.new.vault (g.S.BlockStore.state c.show.new.store) in
    let block =
    shows_as g.E.Emit.grew g.E.Emit.cut g.E.Emit.faults flight c.args.place c.in-Some.region c.result-fresh.result c.args.rows.now c.show.result (Ok c.in-Ok.shown) old new c.args.out.now c.show.new.out c.requires.fit c.result-fresh.ensures c.in-Ok.is
    c.show.ensures.shows in
    subst (λ (h : RowsFlight). LoudStep {T = Unit {0}} g.E.Emit.grew g.E.Emit.cut g.E.Emit.faults flight (rows_at h) c.args.others kept (Ok tt) old new c.args.out.now c.show.new.out) (sym c.go.ensures)
    (subst (λ (s : Stage). LoudStep {T = Unit {0}} g.E.Emit.grew g.E.Emit.cut g.E.Emit.faults flight (stepped flight s flight.region flight.k c.in-Ok.shown (flight.booked - 1) flight.seen) c.args.others kept (Ok tt) old new c.args.out.now c.show.new.out)
    (sym c.after_emit-stage.ensures)
    (loud_shown g.E.Emit.grew g.E.Emit.cut g.E.Emit.faults flight c.args.place c.in-Some.region c.args.others old c.requires.steps c.requires.held c.in-Some.is c.args.out.now c.show.new.out c.in-Ok.shown new tt kept block))

pub returns-then-is_fault-clause-loud : goal.returns-then-is_fault-clause-loud
returns-then-is_fault-clause-loud g c = λ kept.
    let flight = rows_at c.args.self.now in
    let old = at g.R.Revisions.state c.args.vault.now (g.S.BlockStore.state c.args.store.now) in
    let mid = at g.R.Revisions.state c.show.new.vault (g.S.BlockStore.state c.show.new.store) in
    let new = at g.R.Revisions.state c.fail.new.vault (g.S.BlockStore.state c.show.new.store) in
    let block =
    shows_as g.E.Emit.grew g.E.Emit.cut g.E.Emit.faults flight c.args.place c.in-Some.region c.result-fresh.result c.args.rows.now c.show.result _ old mid c.args.out.now c.show.new.out c.requires.fit c.result-fresh.ensures
    (failed_by c.show.result c.in-Err.error c.in-Err.is (sym c.is_fault.ensures ∙ c.if-is_fault.true)) c.show.ensures.shows in
    subst (λ (h : RowsFlight). LoudStep {T = Unit {0}} g.E.Emit.grew g.E.Emit.cut g.E.Emit.faults flight (rows_at h) c.args.others kept (Ok tt) old new c.args.out.now c.show.new.out) (sym c.fail.ensures.is)
    (loud_failed g.E.Emit.grew g.E.Emit.cut g.E.Emit.faults flight c.args.place c.in-Some.region c.args.others old c.requires.steps c.requires.held c.in-Some.is c.args.out.now c.show.new.out mid new c.show.ensures.spent
    (c.fail.ensures.forgets (g.S.BlockStore.state c.show.new.store)) refl tt kept block)

pub returns-else-is_fault : goal.returns-else-is_fault
returns-else-is_fault g c =
    let flight = rows_at c.args.self.now in
    let old = at g.R.Revisions.state c.args.vault.now (g.S.BlockStore.state c.args.store.now) in
    let new = at g.R.Revisions.state c.show.new.vault (g.S.BlockStore.state c.show.new.store) in
    let block =
    shows_as g.E.Emit.grew g.E.Emit.cut g.E.Emit.faults flight c.args.place c.in-Some.region c.result-fresh.result c.args.rows.now c.show.result (Err c.in-Err.error) old new c.args.out.now c.show.new.out c.requires.fit c.result-fresh.ensures c.in-Err.is
    c.show.ensures.shows in
    record {
      rows = c.show.ensures.rows;
      loud = λ kept.
          loud_stopped g.E.Emit.grew g.E.Emit.cut g.E.Emit.faults flight c.args.place c.in-Some.region c.args.others old c.requires.steps c.requires.held c.in-Some.is c.args.out.now c.show.new.out c.in-Err.error new (not_fault c.in-Err.error (sym c.is_fault.ensures ∙ c.if-is_fault.false)) kept block;
    }
