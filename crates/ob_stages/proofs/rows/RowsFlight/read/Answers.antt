use Rattle.std.proofs.Common.{◌*◌, ℕ, Ok, Err, sym, ◌∙◌, ap, subst, refl, arith}
use Rattle.ob_vault.specs.Places.{at}
use Rattle.ob_stages.specs.declared.rows.RowsFlight.{RowsFlight}
use Rattle.ob_stages.specs.declared.rows.Stage.{Stage}
use Rattle.ob_stages.specs.declared.rows.Stage.TheVariants.{Read}
use Rattle.ob_stages.specs.RowsStates.{kept_blocks, rows_at, rows_selection}
use Rattle.ob_stages.specs.RowsSteps.{QuietStep, gone_to}
use Rattle.ob_stages.proofs.RowsAsks.{collects_as, fits_as, read_first, read_from, read_some, read_spare}
use Rattle.ob_stages.proofs.FaultLemmas.{failed_by, not_fault}
use Rattle.ob_stages.proofs.RowsGoing.{few_at}
use Rattle.ob_stages.proofs.RowsQuiet.{quiet_read, quiet_read_failed, quiet_read_stopped}
use Rattle.ob_stages.proofs.rows.RowsFlight.read.Goals as goal

pub overflow_mul-from : goal.overflow_mul-from
overflow_mul-from g c =
    let q = rows_selection c.args.self.now in
    fits_as (c.args.pass * c.buffered.result) (c.args.pass * kept_blocks q) (ap (λ (n : ℕ). c.args.pass * n) c.buffered.ensures.value)
    (omega (arith, read_first (rows_at c.args.self.now) c.args.pass c.args.place c.args.seen c.args.others c.args.kept.now _ c.requires.steps c.requires.held))

pub overflow_mul-from-2 : goal.overflow_mul-from-2
overflow_mul-from-2 g c =
    let q = rows_selection c.args.self.now in
    fits_as (c.args.pass * c.buffered.result * c.pack.result) ((c.args.pass * kept_blocks q) * q.public.pack) (λ i. c.args.pass * c.buffered.ensures.value i * c.pack.ensures i)
    (read_from (rows_at c.args.self.now) c.args.pass c.args.place c.args.seen c.args.others c.args.kept.now _ c.requires.steps c.requires.held)

pub collect_block-picked-requires-clause-spare : goal.collect_block-picked-requires-clause-spare
collect_block-picked-requires-clause-spare g c = read_spare (rows_at c.args.self.now) c.args.pass c.args.place c.args.seen c.args.others c.args.kept.now _ c.requires.steps c.requires.held

pub go-requires-clause-few : goal.go-requires-clause-few
go-requires-clause-few g c = few_at (rows_at c.args.self.now) c.requires.held.holds.placed (Read c.args.pass c.args.place c.args.seen) c.requires.steps.at refl

pub go-requires-clause-some : goal.go-requires-clause-some
go-requires-clause-some g c = read_some (rows_at c.args.self.now) c.args.pass c.args.place c.args.seen c.args.others c.args.kept.now _ c.requires.steps c.requires.held

pub fail-requires : goal.fail-requires
fail-requires g c = record { few = few_at (rows_at c.args.self.now) c.requires.held.holds.placed (Read c.args.pass c.args.place c.args.seen) c.requires.steps.at refl }

pub returns-in-Ok-clause-quiet : goal.returns-in-Ok-clause-quiet
returns-in-Ok-clause-quiet g c =
    let flight = rows_at c.args.self.now in
    let old = at g.R.Revisions.state c.args.vault.now (g.S.BlockStore.state c.args.store.now) in
    let new = at g.R.Revisions.state c.collect_block-picked.new.vault (g.S.BlockStore.state c.collect_block-picked.new.store) in
    let did = c.collect_block-picked.ensures in
    let after = c.collect_block-picked.new.kept in
    let block =
    collects_as flight c.args.pass c.args.place c.args.seen _ _ c.args.rows.now c.args.kept.now after c.collect_block-picked.result (Ok c.in-Ok.n) old new c.requires.fit.block (λ i. c.args.pass * c.buffered.ensures.value i * c.pack.ensures i)
    c.taken-k.ensures c.in-Ok.is did.collects in
    subst (λ (h : RowsFlight). QuietStep {T = Unit {0}} flight (rows_at h) c.args.others c.args.kept.now after (Ok tt) old new) (sym c.go.ensures)
    (subst (λ (s : Stage). QuietStep {T = Unit {0}} flight (gone_to s flight) c.args.others c.args.kept.now after (Ok tt) old new) (sym c.after_read-stage.ensures)
    (quiet_read flight c.args.pass c.args.place c.args.seen c.args.others c.args.kept.now old c.requires.steps c.requires.held tt c.in-Ok.n after new block))

pub returns-then-is_fault-clause-quiet : goal.returns-then-is_fault-clause-quiet
returns-then-is_fault-clause-quiet g c =
    let flight = rows_at c.args.self.now in
    let old = at g.R.Revisions.state c.args.vault.now (g.S.BlockStore.state c.args.store.now) in
    let mid = at g.R.Revisions.state c.collect_block-picked.new.vault (g.S.BlockStore.state c.collect_block-picked.new.store) in
    let new = at g.R.Revisions.state c.fail.new.vault (g.S.BlockStore.state c.collect_block-picked.new.store) in
    let did = c.collect_block-picked.ensures in
    let after = c.collect_block-picked.new.kept in
    let block =
    collects_as flight c.args.pass c.args.place c.args.seen _ _ c.args.rows.now c.args.kept.now after c.collect_block-picked.result _ old mid c.requires.fit.block (λ i. c.args.pass * c.buffered.ensures.value i * c.pack.ensures i)
    c.taken-k.ensures (failed_by c.collect_block-picked.result c.in-Err.error c.in-Err.is (sym c.is_fault.ensures ∙ c.if-is_fault.true)) did.collects in
    subst (λ (h : RowsFlight). QuietStep {T = Unit {0}} flight (rows_at h) c.args.others c.args.kept.now after (Ok tt) old new) (sym c.fail.ensures.is)
    (quiet_read_failed flight c.args.pass c.args.place c.args.seen c.args.others c.args.kept.now old c.requires.steps c.requires.held tt after mid new block did.spent
    (c.fail.ensures.forgets (g.S.BlockStore.state c.collect_block-picked.new.store)) refl)

pub returns-else-is_fault : goal.returns-else-is_fault
returns-else-is_fault g c =
    let flight = rows_at c.args.self.now in
    let old = at g.R.Revisions.state c.args.vault.now (g.S.BlockStore.state c.args.store.now) in
    let new = at g.R.Revisions.state c.collect_block-picked.new.vault (g.S.BlockStore.state c.collect_block-picked.new.store) in
    let did = c.collect_block-picked.ensures in
    let after = c.collect_block-picked.new.kept in
    let block =
    collects_as flight c.args.pass c.args.place c.args.seen _ _ c.args.rows.now c.args.kept.now after c.collect_block-picked.result (Err c.in-Err.error) old new c.requires.fit.block (λ i. c.args.pass * c.buffered.ensures.value i * c.pack.ensures i)
    c.taken-k.ensures c.in-Err.is did.collects in
    record {
      rows = did.rows;
      kept = did.kept;
      quiet = quiet_read_stopped flight c.args.pass c.args.place c.args.seen c.args.others c.args.kept.now old c.requires.steps c.requires.held c.in-Err.error after new (not_fault c.in-Err.error (sym c.is_fault.ensures ∙ c.if-is_fault.false)) block;
    }
