use Rattle.std.proofs.Common.{subst, arith}
use Rattle.ob_vault.specs.Resuming.{ResumesRegion}
use Rattle.ob_vault.specs.declared.region.Region.{Region}
use Rattle.ob_vault.specs.Places.{at}
use Rattle.ob_reopen.proofs.TableLemmas.{block_fits, blocks_fit, same_region}
use Rattle.ob_reopen.proofs.tables.reopen_table.Goals as goal

pub overflow_mul-width : goal.overflow_mul-width
overflow_mul-width g c = let fits = block_fits c.args.closing c.args.listed.now c.requires.marked c.requires.listed c.from.ensures c.width.ensures.value in omega (arith, fits.1)

pub resume-requires-clause-blocks : goal.resume-requires-clause-blocks
resume-requires-clause-blocks g c = rw c.blocks_of-blocks.ensures (blocks_fit c.args.closing c.args.listed.now c.requires.marked c.requires.listed)

pub resume-requires-clause-width : goal.resume-requires-clause-width
resume-requires-clause-width g c = block_fits c.args.closing c.args.listed.now c.requires.marked c.requires.listed c.from.ensures c.width.ensures.value

pub resume-requires-clause-may : goal.resume-requires-clause-may
resume-requires-clause-may g c = rw c.blocks_of-blocks.ensures c.requires.may

pub returns : goal.returns
returns g c =
    let t = c.args.listed.now in
    let old = at g.R.Revisions.state c.args.vault.now (g.S.BlockStore.state c.args.store.now) in
    let new = at g.R.Revisions.state c.resume.new.self (g.S.BlockStore.state c.resume.new.store) in
    record {
      resumes = subst (λ (r : Region). ResumesRegion t.table.region r t.number c.resume.result old new)
          (same_region c.args.closing.pack t c.blocks_of-blocks.ensures c.from.ensures c.width.ensures.value) c.resume.ensures.resumes;
    }
