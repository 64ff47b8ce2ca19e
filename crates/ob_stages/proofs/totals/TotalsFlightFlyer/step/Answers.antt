use Rattle.std.proofs.Common.{List, length, take, sym, ◌∙◌, subst}
use Rattle.ob_vault.specs.Places.{at}
use Rattle.ob_group.specs.Passes.{AreAggs}
use Rattle.ob_sql.specs.declared.stmt.Listed.{Listed}
use Rattle.ob_stages.specs.declared.reading.Reading.{Reading}
use Rattle.ob_stages.specs.Reading.{FitsTable}
use Rattle.ob_stages.specs.ReadingLaws.{table_refits}
use Rattle.ob_stages.specs.Totals.{aggs_of}
use Rattle.ob_stages.proofs.FaultLemmas.{failed_by, not_fault}
use Rattle.ob_stages.proofs.ReadingSteps.{fits_fault, fits_on, sink_read}
use Rattle.ob_stages.proofs.TotalsLemmas.{aggs_fit}
use Rattle.ob_stages.proofs.TotalsSteps.{totals_fault_steps, totals_fault_tell, totals_steps, totals_stop_tell, totals_stops, totals_tell}
use Rattle.ob_stages.proofs.totals.TotalsFlightFlyer.step.Goals as goal

pub aggregate_block-requires-clause-aggs : goal.aggregate_block-requires-clause-aggs
aggregate_block-requires-clause-aggs g c =
    let f = c.args.self.now in
    let is = c.requires.holds.holds in
    let cs = f.reading.flat.schema in
    subst (λ (l : List Listed). AreAggs cs (take (length l) f.aggs)) (sym c.as_slice-n.ensures)
    (aggs_fit cs f.reading.select.now (aggs_of f) is.reading.boarded.items is.ungrouped is.aggs)

pub returns-in-Ok-clause-fits : goal.returns-in-Ok-clause-fits
returns-in-Ok-clause-fits g c =
    let r = c.args.self.now.reading in
    let rows = c.aggregate_block.new.rows in
    subst (λ (s : Reading). FitsTable s rows) (sym c.read_on.ensures) (fits_on r rows (table_refits r c.args.rows.now rows c.aggregate_block.ensures.rows c.requires.fits))

pub returns-in-Ok-clause-steps : goal.returns-in-Ok-clause-steps
returns-in-Ok-clause-steps g c =
    let old = at g.R.Revisions.state c.args.vault.now (g.S.BlockStore.state c.args.store.now) in
    let new = at g.R.Revisions.state c.aggregate_block.new.vault (g.S.BlockStore.state c.aggregate_block.new.store) in
    totals_steps c.args.self.now c.requires.left (length c.args.rows.now) c.requires.fits.count c.as_slice-n.result.now c.as_slice-n.ensures c.aggregate_block.new.sums old new _ c.aggregate_block.ensures.aggregates
    c.in-Ok.is c.read_on.new.self c.read_on.ensures c.args._others c.requires.holds.events c.requires.holds.holds c.requires.spare

pub returns-in-Ok-clause-tells : goal.returns-in-Ok-clause-tells
returns-in-Ok-clause-tells g c =
    let old = at g.R.Revisions.state c.args.vault.now (g.S.BlockStore.state c.args.store.now) in
    let new = at g.R.Revisions.state c.aggregate_block.new.vault (g.S.BlockStore.state c.aggregate_block.new.store) in
    totals_tell c.args.self.now c.requires.left (length c.args.rows.now) c.requires.fits.count c.as_slice-n.result.now c.as_slice-n.ensures c.aggregate_block.new.sums old new _ c.aggregate_block.ensures.aggregates
    c.in-Ok.is c.read_on.new.self c.read_on.ensures g.E.Emit.grew g.E.Emit.cut c.args._out.now

pub returns-then-is_fault-clause-fits : goal.returns-then-is_fault-clause-fits
returns-then-is_fault-clause-fits g c =
    let r = c.args.self.now.reading in
    let rows = c.aggregate_block.new.rows in
    subst (λ (s : Reading). FitsTable s rows) (sym c.fail.ensures) (fits_fault r rows (table_refits r c.args.rows.now rows c.aggregate_block.ensures.rows c.requires.fits))

pub returns-then-is_fault-clause-steps : goal.returns-then-is_fault-clause-steps
returns-then-is_fault-clause-steps g c =
    let old = at g.R.Revisions.state c.args.vault.now (g.S.BlockStore.state c.args.store.now) in
    let new = at g.R.Revisions.state c.aggregate_block.new.vault (g.S.BlockStore.state c.aggregate_block.new.store) in
    totals_fault_steps c.args.self.now c.requires.left (length c.args.rows.now) c.requires.fits.count c.as_slice-n.result.now c.as_slice-n.ensures c.aggregate_block.new.sums old new _ c.aggregate_block.ensures.aggregates
    (failed_by c.aggregate_block.result c.in-Err.e c.in-Err.is (sym c.is_fault.ensures ∙ c.if-is_fault.true)) c.fail.new.self c.fail.ensures c.args._others c.requires.holds.events c.requires.holds.holds c.requires.spare c.aggregate_block.ensures.spent

pub returns-then-is_fault-clause-tells : goal.returns-then-is_fault-clause-tells
returns-then-is_fault-clause-tells g c =
    let old = at g.R.Revisions.state c.args.vault.now (g.S.BlockStore.state c.args.store.now) in
    let new = at g.R.Revisions.state c.aggregate_block.new.vault (g.S.BlockStore.state c.aggregate_block.new.store) in
    totals_fault_tell c.args.self.now c.requires.left (length c.args.rows.now) c.requires.fits.count c.as_slice-n.result.now c.as_slice-n.ensures c.aggregate_block.new.sums old new _ c.aggregate_block.ensures.aggregates
    (failed_by c.aggregate_block.result c.in-Err.e c.in-Err.is (sym c.is_fault.ensures ∙ c.if-is_fault.true)) c.fail.new.self c.fail.ensures g.E.Emit.grew g.E.Emit.cut c.args._out.now

pub returns-else-is_fault-clause-stops : goal.returns-else-is_fault-clause-stops
returns-else-is_fault-clause-stops g c =
    let old = at g.R.Revisions.state c.args.vault.now (g.S.BlockStore.state c.args.store.now) in
    let new = at g.R.Revisions.state c.aggregate_block.new.vault (g.S.BlockStore.state c.aggregate_block.new.store) in
    totals_stops c.args.self.now c.requires.left (length c.args.rows.now) c.requires.fits.count c.as_slice-n.result.now c.as_slice-n.ensures c.aggregate_block.new.sums old new _ c.aggregate_block.ensures.aggregates
    c.in-Err.e c.in-Err.is (not_fault c.in-Err.e (sym c.is_fault.ensures ∙ c.if-is_fault.false)) c.args._others c.requires.holds.events c.requires.holds.holds c.requires.spare

pub returns-else-is_fault-clause-tells : goal.returns-else-is_fault-clause-tells
returns-else-is_fault-clause-tells g c =
    let old = at g.R.Revisions.state c.args.vault.now (g.S.BlockStore.state c.args.store.now) in
    let new = at g.R.Revisions.state c.aggregate_block.new.vault (g.S.BlockStore.state c.aggregate_block.new.store) in
    totals_stop_tell c.args.self.now c.requires.left (length c.args.rows.now) c.requires.fits.count c.as_slice-n.result.now c.as_slice-n.ensures c.aggregate_block.new.sums old new _ c.aggregate_block.ensures.aggregates
    c.in-Err.e c.in-Err.is (not_fault c.in-Err.e (sym c.is_fault.ensures ∙ c.if-is_fault.false)) g.E.Emit.grew g.E.Emit.cut _ c.args._out.now

pub returns-else-is_fault-clause-sink : goal.returns-else-is_fault-clause-sink
returns-else-is_fault-clause-sink g c = sink_read (Unit {0}) c.in-Err.e (g.E.Emit.faults c.args._out.now) (not_fault c.in-Err.e (sym c.is_fault.ensures ∙ c.if-is_fault.false)) c.in-Err.ensures.aggregates.never
