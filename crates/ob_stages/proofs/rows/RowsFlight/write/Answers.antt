use Rattle.std.proofs.Common.{◌+◌, ◌*◌, ℕ, Ok, sym, ◌∙◌, ap, subst, refl}
use Rattle.ob_flat.specs.declared.flat.Flat.{Flat}
use Rattle.ob_vault.specs.Places.{at}
use Rattle.ob_stages.specs.declared.rows.RowsFlight.{RowsFlight}
use Rattle.ob_stages.specs.declared.rows.Stage.{Stage}
use Rattle.ob_stages.specs.declared.rows.Stage.TheVariants.{Write}
use Rattle.ob_stages.specs.RowsStates.{kept_blocks, rows_at, rows_selection}
use Rattle.ob_stages.specs.RowsSteps.{Clears, HasPart, QuietStep, gone_to}
use Rattle.ob_stages.proofs.RowsAsks.{write_asks, write_part_of, write_some, writes_as}
use Rattle.ob_stages.proofs.FaultLemmas.{failed_by}
use Rattle.ob_stages.proofs.RowsGoing.{few_at}
use Rattle.ob_stages.proofs.RowsQuiet.{quiet_write, quiet_write_failed}
use Rattle.ob_stages.proofs.rows.RowsFlight.write.Goals as goal

pub write_part-requires-clause-asks : goal.write_part-requires-clause-asks
write_part-requires-clause-asks g c = write_asks (rows_at c.args.self.now) c.args.pass c.args.place c.in-Some.region c.args.others c.args.kept.now _ c.requires.steps c.requires.held

pub write_part-requires-clause-part : goal.write_part-requires-clause-part
write_part-requires-clause-part g c =
    let flight = rows_at c.args.self.now in
    subst (λ (f : Flat). HasPart f.schema c.pack.result c.args.place c.args.kept.now) (sym c.result-to.ensures)
    (subst (λ (n : ℕ). HasPart flight.q.flat.schema n c.args.place c.args.kept.now) (sym c.pack.ensures)
    (write_part_of flight c.args.pass c.args.place c.in-Some.region c.args.others c.args.kept.now _ c.requires.steps c.requires.held c.requires.fit))

pub go-requires-clause-few : goal.go-requires-clause-few
go-requires-clause-few g c = few_at (rows_at c.args.self.now) c.requires.held.holds.placed (Write c.args.pass c.args.place) c.requires.steps.at refl

pub go-requires-clause-some : goal.go-requires-clause-some
go-requires-clause-some g c = write_some (rows_at c.args.self.now) c.args.pass c.args.place c.in-Some.region c.args.others c.args.kept.now _ c.requires.steps c.requires.held

pub fail-requires : goal.fail-requires
fail-requires g c = record { few = few_at (rows_at c.args.self.now) c.requires.held.holds.placed (Write c.args.pass c.args.place) c.requires.steps.at refl }

pub returns-in-Ok-clause-quiet : goal.returns-in-Ok-clause-quiet
returns-in-Ok-clause-quiet g c =
    let flight = rows_at c.args.self.now in
    let q = rows_selection c.args.self.now in
    let old = at g.R.Revisions.state c.args.vault.now (g.S.BlockStore.state c.args.store.now) in
    let new = at g.R.Revisions.state c.write_part.new.vault (g.S.BlockStore.state c.write_part.new.store) in
    let after = c.clear_for.new.kept in
    let block =
    writes_as flight c.pack.result (c.args.pass * kept_blocks q + c.args.place) c.args.place (c.args.pass * c.buffered.result + c.args.place) c.in-Some.region c.result-to.result c.args.kept.now c.write_part.result (Ok tt) old new
    c.pack.ensures c.result-to.ensures (ap (λ (n : ℕ). c.args.pass * n + c.args.place) c.buffered.ensures.value) c.in-Ok.is c.write_part.ensures.writes in
    subst (λ (h : RowsFlight). QuietStep {T = Unit {0}} flight (rows_at h) c.args.others c.args.kept.now after (Ok tt) old new) (sym c.go.ensures)
    (subst (λ (s : Stage). QuietStep {T = Unit {0}} flight (gone_to s flight) c.args.others c.args.kept.now after (Ok tt) old new) (sym c.after_write-stage.ensures)
    (quiet_write flight c.args.pass c.args.place c.in-Some.region c.args.others c.args.kept.now old c.requires.steps c.requires.held c.in-Some.is tt after new c.requires.fit c.clear_for.ensures.size.count
    (subst (λ (s : Stage). Clears s c.args.kept.now after) c.after_write-stage.ensures c.clear_for.ensures.clears) block))

pub returns-then-is_fault-clause-quiet : goal.returns-then-is_fault-clause-quiet
returns-then-is_fault-clause-quiet g c =
    let flight = rows_at c.args.self.now in
    let q = rows_selection c.args.self.now in
    let old = at g.R.Revisions.state c.args.vault.now (g.S.BlockStore.state c.args.store.now) in
    let mid = at g.R.Revisions.state c.write_part.new.vault (g.S.BlockStore.state c.write_part.new.store) in
    let new = at g.R.Revisions.state c.fail.new.vault (g.S.BlockStore.state c.write_part.new.store) in
    let block =
    writes_as flight c.pack.result (c.args.pass * kept_blocks q + c.args.place) c.args.place (c.args.pass * c.buffered.result + c.args.place) c.in-Some.region c.result-to.result c.args.kept.now c.write_part.result _ old mid
    c.pack.ensures c.result-to.ensures (ap (λ (n : ℕ). c.args.pass * n + c.args.place) c.buffered.ensures.value) (failed_by c.write_part.result c.in-Err.error c.in-Err.is (sym c.is_fault.ensures ∙ c.if-is_fault.true)) c.write_part.ensures.writes in
    subst (λ (h : RowsFlight). QuietStep {T = Unit {0}} flight (rows_at h) c.args.others c.args.kept.now c.args.kept.now (Ok tt) old new) (sym c.fail.ensures.is)
    (quiet_write_failed flight c.args.pass c.args.place c.in-Some.region c.args.others c.args.kept.now old c.requires.steps c.requires.held c.in-Some.is tt c.args.kept.now mid new block c.write_part.ensures.spent
    (c.fail.ensures.forgets (g.S.BlockStore.state c.write_part.new.store)) refl)
