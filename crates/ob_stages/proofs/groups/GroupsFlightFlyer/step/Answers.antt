use Rattle.std.proofs.Common.{ℕ, List, length, take, sym, ◌∙◌, subst}
use Rattle.ob_row.specs.Spelling.{kind_at}
use Rattle.ob_vault.specs.Places.{at}
use Rattle.ob_group.specs.Held.{MayGrow}
use Rattle.ob_group.specs.Passes.{AreItems}
use Rattle.ob_sql.specs.declared.stmt.Listed.{Listed}
use Rattle.ob_stages.specs.Groups.{items_of}
use Rattle.ob_stages.proofs.FaultLemmas.{failed_by, not_fault}
use Rattle.ob_stages.proofs.ReadingSteps.{sink_read}
use Rattle.ob_stages.proofs.TotalsLemmas.{items_fit}
use Rattle.ob_stages.proofs.GroupsSteps.{grows, groups_fault_steps, groups_fault_tell, groups_fits_fault, groups_fits_on, groups_steps, groups_stop_tell, groups_stops, groups_tell}
use Rattle.ob_stages.proofs.groups.GroupsFlightFlyer.step.Goals as goal

pub group_block-requires-clause-items : goal.group_block-requires-clause-items
group_block-requires-clause-items g c =
    let f = c.args.self.now in
    let is = c.requires.holds.holds in
    let cs = f.reading.flat.schema in
    subst (λ (l : List Listed). AreItems cs f.key (take (length l) f.items)) (sym c.as_slice-count.ensures)
    (items_fit cs f.reading.select.now is.keyed.key (items_of f) f.key is.reading.boarded.items is.keyed.by_key is.keyed.items is.keyed.place)

pub group_block-requires-clause-held : goal.group_block-requires-clause-held
group_block-requires-clause-held g c =
    let f = c.args.self.now in
    let kept = c.args.kept.now in
    let kind = kind_at f.reading.flat.schema f.key in
    subst (λ (n : ℕ). MayGrow kind (length (take (length c.as_slice-count.result.now) f.items)) f.n n kept) (sym c.requires.fits.table.count)
    (subst (λ (l : List Listed). MayGrow kind (length (take (length l) f.items)) f.n f.reading.public.now.pack kept) (sym c.as_slice-count.ensures)
    (grows f c.requires.left kept c.requires.holds.events _ c.requires.holds.holds))

pub returns-in-Ok-clause-fits : goal.returns-in-Ok-clause-fits
returns-in-Ok-clause-fits g c =
    groups_fits_on c.args.self.now c.args.rows.now c.args.kept.now c.group_block.new.rows c.group_block.new.groups c.group_block.ensures.rows c.group_block.ensures.gathers.size c.requires.fits
    c.group_block.new.buckets c.in-Ok.groups c.read_on.new.self c.read_on.ensures

pub returns-in-Ok-clause-steps : goal.returns-in-Ok-clause-steps
returns-in-Ok-clause-steps g c =
    let old = at g.R.Revisions.state c.args.vault.now (g.S.BlockStore.state c.args.store.now) in
    let new = at g.R.Revisions.state c.group_block.new.vault (g.S.BlockStore.state c.group_block.new.store) in
    groups_steps c.args.self.now c.requires.left (length c.args.rows.now) c.requires.fits.table.count c.as_slice-count.result.now c.as_slice-count.ensures c.args.kept.now c.group_block.new.groups c.group_block.new.buckets old new _ c.group_block.ensures.gathers
    c.in-Ok.groups c.in-Ok.is c.group_block.ensures.most c.read_on.new.self c.read_on.ensures c.args._others c.requires.holds.events c.requires.holds.holds c.requires.spare

pub returns-in-Ok-clause-tells : goal.returns-in-Ok-clause-tells
returns-in-Ok-clause-tells g c =
    let old = at g.R.Revisions.state c.args.vault.now (g.S.BlockStore.state c.args.store.now) in
    let new = at g.R.Revisions.state c.group_block.new.vault (g.S.BlockStore.state c.group_block.new.store) in
    groups_tell c.args.self.now c.requires.left (length c.args.rows.now) c.requires.fits.table.count c.as_slice-count.result.now c.as_slice-count.ensures c.args.kept.now c.group_block.new.groups c.group_block.new.buckets old new _ c.group_block.ensures.gathers
    c.in-Ok.groups c.in-Ok.is c.group_block.ensures.most c.read_on.new.self c.read_on.ensures g.E.Emit.grew g.E.Emit.cut c.args._out.now

pub returns-then-is_fault-clause-fits : goal.returns-then-is_fault-clause-fits
returns-then-is_fault-clause-fits g c =
    groups_fits_fault c.args.self.now c.args.rows.now c.args.kept.now c.group_block.new.rows c.group_block.new.groups c.group_block.ensures.rows c.group_block.ensures.gathers.size c.requires.fits
    c.group_block.new.buckets c.args.self.now.n c.fail.new.self c.fail.ensures

pub returns-then-is_fault-clause-steps : goal.returns-then-is_fault-clause-steps
returns-then-is_fault-clause-steps g c =
    let old = at g.R.Revisions.state c.args.vault.now (g.S.BlockStore.state c.args.store.now) in
    let new = at g.R.Revisions.state c.group_block.new.vault (g.S.BlockStore.state c.group_block.new.store) in
    groups_fault_steps c.args.self.now c.requires.left (length c.args.rows.now) c.requires.fits.table.count c.as_slice-count.result.now c.as_slice-count.ensures c.args.kept.now c.group_block.new.groups c.group_block.new.buckets old new _ c.group_block.ensures.gathers
    (failed_by c.group_block.result c.in-Err.e c.in-Err.is (sym c.is_fault.ensures ∙ c.if-is_fault.true)) c.fail.new.self c.fail.ensures c.args._others c.requires.holds.events c.requires.holds.holds c.requires.spare c.group_block.ensures.spent

pub returns-then-is_fault-clause-tells : goal.returns-then-is_fault-clause-tells
returns-then-is_fault-clause-tells g c =
    let old = at g.R.Revisions.state c.args.vault.now (g.S.BlockStore.state c.args.store.now) in
    let new = at g.R.Revisions.state c.group_block.new.vault (g.S.BlockStore.state c.group_block.new.store) in
    groups_fault_tell c.args.self.now c.requires.left (length c.args.rows.now) c.requires.fits.table.count c.as_slice-count.result.now c.as_slice-count.ensures c.args.kept.now c.group_block.new.groups c.group_block.new.buckets old new _ c.group_block.ensures.gathers
    (failed_by c.group_block.result c.in-Err.e c.in-Err.is (sym c.is_fault.ensures ∙ c.if-is_fault.true)) c.fail.new.self c.fail.ensures g.E.Emit.grew g.E.Emit.cut c.args._out.now

pub returns-else-is_fault-clause-stops : goal.returns-else-is_fault-clause-stops
returns-else-is_fault-clause-stops g c =
    let old = at g.R.Revisions.state c.args.vault.now (g.S.BlockStore.state c.args.store.now) in
    let new = at g.R.Revisions.state c.group_block.new.vault (g.S.BlockStore.state c.group_block.new.store) in
    groups_stops c.args.self.now c.requires.left (length c.args.rows.now) c.requires.fits.table.count c.as_slice-count.result.now c.as_slice-count.ensures c.args.kept.now c.group_block.new.groups c.group_block.new.buckets old new _ c.group_block.ensures.gathers
    c.in-Err.e c.in-Err.is (not_fault c.in-Err.e (sym c.is_fault.ensures ∙ c.if-is_fault.false)) c.args._others c.requires.holds.events c.requires.holds.holds c.requires.spare

pub returns-else-is_fault-clause-tells : goal.returns-else-is_fault-clause-tells
returns-else-is_fault-clause-tells g c =
    let old = at g.R.Revisions.state c.args.vault.now (g.S.BlockStore.state c.args.store.now) in
    let new = at g.R.Revisions.state c.group_block.new.vault (g.S.BlockStore.state c.group_block.new.store) in
    groups_stop_tell c.args.self.now c.requires.left (length c.args.rows.now) c.requires.fits.table.count c.as_slice-count.result.now c.as_slice-count.ensures c.args.kept.now c.group_block.new.groups c.group_block.new.buckets old new _ c.group_block.ensures.gathers
    c.in-Err.e c.in-Err.is (not_fault c.in-Err.e (sym c.is_fault.ensures ∙ c.if-is_fault.false)) g.E.Emit.grew g.E.Emit.cut _ c.args._out.now

pub returns-else-is_fault-clause-sink : goal.returns-else-is_fault-clause-sink
returns-else-is_fault-clause-sink g c = sink_read (Unit {0}) c.in-Err.e (g.E.Emit.faults c.args._out.now) (not_fault c.in-Err.e (sym c.is_fault.ensures ∙ c.if-is_fault.false)) c.in-Err.ensures.gathers.never
