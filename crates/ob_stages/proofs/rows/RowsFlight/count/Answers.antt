use Rattle.std.proofs.Common.{Ok, Err, sym, ◌∙◌, subst, refl}
use Rattle.ob_vault.specs.Places.{at}
use Rattle.ob_stages.specs.declared.rows.RowsFlight.{RowsFlight}
use Rattle.ob_stages.specs.RowsStates.{RowsAt, rows_at}
use Rattle.ob_stages.specs.RowsSteps.{QuietStep}
use Rattle.ob_stages.proofs.RowsAsks.{collects_none}
use Rattle.ob_stages.proofs.FaultLemmas.{failed_by, not_fault}
use Rattle.ob_stages.proofs.RowsQuiet.{quiet_count_failed, quiet_count_stopped, quiet_counted}
use Rattle.ob_stages.proofs.rows.RowsFlight.count.Goals as goal

pub returns-in-Ok-clause-quiet : goal.returns-in-Ok-clause-quiet
returns-in-Ok-clause-quiet g c = λ kept.
    let flight = rows_at c.args.self.now in
    let old = at g.R.Revisions.state c.args.vault.now (g.S.BlockStore.state c.args.store.now) in
    let new = at g.R.Revisions.state c.collect_block-picked.new.vault (g.S.BlockStore.state c.collect_block-picked.new.store) in
    let did = c.collect_block-picked.ensures in
    let block = collects_none flight c.args.place c.args.rows.now c.collect_block-picked.new.kept c.collect_block-picked.result (Ok c.in-Ok.n) old new c.requires.fit did.kept c.in-Ok.is did.collects in
    subst (λ (h : RowsAt). QuietStep {T = Unit {0}} flight h c.args.others kept kept (Ok tt) old new) (sym c.counted.ensures)
    (quiet_counted flight c.args.place c.args.others old c.requires.steps c.requires.held c.in-Ok.n new block tt kept)

pub returns-then-is_fault-clause-quiet : goal.returns-then-is_fault-clause-quiet
returns-then-is_fault-clause-quiet g c = λ kept.
    let flight = rows_at c.args.self.now in
    let old = at g.R.Revisions.state c.args.vault.now (g.S.BlockStore.state c.args.store.now) in
    let mid = at g.R.Revisions.state c.collect_block-picked.new.vault (g.S.BlockStore.state c.collect_block-picked.new.store) in
    let new = at g.R.Revisions.state c.fail.new.vault (g.S.BlockStore.state c.collect_block-picked.new.store) in
    let did = c.collect_block-picked.ensures in
    let block =
    collects_none flight c.args.place c.args.rows.now c.collect_block-picked.new.kept c.collect_block-picked.result _ old mid c.requires.fit did.kept (failed_by c.collect_block-picked.result c.in-Err.error c.in-Err.is (sym c.is_fault.ensures ∙ c.if-is_fault.true)) did.collects in
    subst (λ (h : RowsFlight). QuietStep {T = Unit {0}} flight (rows_at h) c.args.others kept kept (Ok tt) old new) (sym c.fail.ensures.is)
    (quiet_count_failed flight c.args.place c.args.others old c.requires.steps c.requires.held tt kept mid new block did.spent (c.fail.ensures.forgets (g.S.BlockStore.state c.collect_block-picked.new.store)) refl)

pub returns-else-is_fault : goal.returns-else-is_fault
returns-else-is_fault g c =
    let flight = rows_at c.args.self.now in
    let old = at g.R.Revisions.state c.args.vault.now (g.S.BlockStore.state c.args.store.now) in
    let new = at g.R.Revisions.state c.collect_block-picked.new.vault (g.S.BlockStore.state c.collect_block-picked.new.store) in
    let did = c.collect_block-picked.ensures in
    let block = collects_none flight c.args.place c.args.rows.now c.collect_block-picked.new.kept c.collect_block-picked.result (Err c.in-Err.error) old new c.requires.fit did.kept c.in-Err.is did.collects in
    record { rows = did.rows; quiet = λ kept. quiet_count_stopped flight c.args.place c.args.others old c.requires.steps c.requires.held kept c.in-Err.error new (not_fault c.in-Err.error (sym c.is_fault.ensures ∙ c.if-is_fault.false)) block }
