use Rattle.std.proofs.Common.{◌≡◌, ◌*◌, ◌<◌, ◌≤◌, ◌++◌, ℕ, [], length, refl, rules, sym, ◌∙◌, subst}
use Rattle.std.proofs.lemmas.List.{append-nil}
use Rattle.std.proofs.lemmas.Result.{err_from_is_err_and}
use Rattle.ob_base.specs.Accesses.{read_at}
use Rattle.ob_base.specs.Schemas.{width}
use Rattle.ob_vault.specs.Calls.{none}
use Rattle.ob_vault.specs.Places.{at, RowsFit}
use Rattle.ob_vault.proofs.Runs.{went_each, went_none, fit_same, fit_trans, seals_none}
use Rattle.ob_flat.specs.Scans.{MayScan}
use Rattle.ob_flat.specs.Words.{blocks_of}
use Rattle.ob_flat.proofs.Loops.{below_all, at_end, nearer, pack_fits, spare_more}
use Rattle.ob_flat.proofs.Rooms.{same_rows}
use Rattle.ob_flat.proofs.Tables.{reads}
use Rattle.ob_flat.proofs.WordLemmas.{sealed_after}
use Rattle.ob_emit.proofs.BlocksEmitted.{emitted_begins, emitted_next, emits_ended, emits_whole, leads_more}
use Rattle.ob_emit.proofs.emitting.emit_blocks.Goals as goal

pub overflow_cast-pack : goal.overflow_cast-pack
overflow_cast-pack g c = pack_fits (length c.args.rows.now) c.requires.table.most

pub div_ceil-blocks-requires : goal.div_ceil-blocks-requires
div_ceil-blocks-requires g c = c.requires.table.some

pub loop-u-init : goal.loop-u-init
loop-u-init g c = record {
  cells = search rules;
  went = went_none none _ c.requires.spare.ready;
  seals = record { seals = λ good. seals_none good _ };
  same = same_rows c.args.rows.now;
  shown = [];
  emitted = emitted_begins (length c.args.rows.now) c.args.flat.now c.args.cols.now _ c.requires.table;
  leads = λ s events is. subst (g.E.Emit.grew s c.args.out.now) (sym (append-nil events)) is;
  faults = refl;
}

pub emit_block-requires : goal.emit_block-requires
emit_block-requires g c =
    let flat = c.args.flat.now in
    let pack = length c.args.rows.now in
    let u = c.loop-u.u in
    let before = c.loop-u.invariant in
    let count = sym before.same.count in
    let now = at g.R.Revisions.state c.loop-u.vault (g.S.BlockStore.state c.loop-u.store) in
    let below : u < blocks_of pack flat = below_all c.loop-u-test.true c.div_ceil-blocks.ensures in
    record {
      spare = record { ready = before.went.lasts.ready; spare = spare_more c.requires.spare.spare before.went.spare (reads flat.region u) below };
      table = subst (λ (n : ℕ). MayScan n flat now) count before.emitted.table;
      within = subst (λ (n : ℕ). u < blocks_of n flat) count below;
      fit = subst (λ (n : ℕ). RowsFit c.loop-u.rows (n * width flat.schema)) count (fit_same _ _ _ before.same c.requires.fit);
      columns = c.requires.columns;
      seen = (subst (λ (n : ℕ). c.loop-u.k ≤ u * n) count before.emitted.most.0, before.emitted.most.1);
      few = rw before.cells c.requires.columns.few;
    }

pub returns-in_err-k-clause-rows : goal.returns-in_err-k-clause-rows
returns-in_err-k-clause-rows g c = fit_trans _ _ _ c.loop-u.invariant.same c.emit_block.ensures.rows

pub returns-in_err-k-clause-emits : goal.returns-in_err-k-clause-emits
returns-in_err-k-clause-emits g c =
    let p = err_from_is_err_and c.from_residual.result c.from_residual.ensures.1 in
    let pack = length c.args.rows.now in
    let flat = c.args.flat.now in
    let u = c.loop-u.u in
    let below : u < blocks_of pack flat = below_all c.loop-u-test.true c.div_ceil-blocks.ensures in
    let before = c.loop-u.invariant in
    let block = rw before.same.count at c.in_err-k.ensures.emits in
    rw (p.1, p.2) (emits_ended pack flat c.args.cols.now u c.loop-u.k before.shown _ before.emitted [] _ _ before.leads _ before.went before.seals before.faults _ _ _ below block)

pub loop-u-preserved : goal.loop-u-preserved
loop-u-preserved g c =
    let pack = length c.args.rows.now in
    let flat = c.args.flat.now in
    let u = c.loop-u.u in
    let below : u < blocks_of pack flat = below_all c.loop-u-test.true c.div_ceil-blocks.ensures in
    let before = c.loop-u.invariant in
    let block = rw before.same.count at c.in_ok-k.ensures.emits in
    record {
      cells = c.emit_block.ensures.cells ∙ before.cells;
      went = went_each none (read_at flat.region) _ _ _ u before.went block.ran.ok;
      seals = sealed_after before.went.lasts before.seals block.seals.seals;
      same = fit_trans _ _ _ before.same c.emit_block.ensures.rows;
      shown = before.shown ++ block.emitted.rows;
      emitted = emitted_next pack flat c.args.cols.now u c.loop-u.k before.shown _ before.emitted _ _ _ _ below block;
      leads = leads_more g.E.Emit.grew [] before.shown block.emitted.rows _ _ _ before.leads block.emitted.leads;
      faults = block.cause ∙ before.faults;
    }

pub loop-u-smaller : goal.loop-u-smaller
loop-u-smaller g c = nearer c.loop-u.u c.div_ceil-blocks.result c.loop-u-test.true

pub returns-clause-rows : goal.returns-clause-rows
returns-clause-rows g c = c.loop-u.invariant.same

pub returns-clause-emits : goal.returns-clause-emits
returns-clause-emits g c =
    let pack = length c.args.rows.now in
    let flat = c.args.flat.now in
    let all = c.loop-u.invariant in
    let last : c.loop-u.u ≡ blocks_of pack flat = at_end c.loop-u.auto.u-end c.loop-u-test.false c.div_ceil-blocks.ensures in
    emits_whole pack flat c.args.cols.now c.loop-u.u c.loop-u.k all.shown _ all.emitted [] _ _ all.leads _ all.went all.seals all.faults last
