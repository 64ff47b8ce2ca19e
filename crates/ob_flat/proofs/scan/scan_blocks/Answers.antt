use Rattle.std.proofs.Common.{◌≡◌, ◌*◌, ◌<◌, ℕ, inl, inr, length, sym, subst}
use Rattle.std.proofs.lemmas.Result.{err_from_is_err_and}
use Rattle.ob_base.specs.Accesses.{read_at}
use Rattle.ob_base.specs.Schemas.{width}
use Rattle.ob_vault.specs.Calls.{none}
use Rattle.ob_vault.specs.Places.{at, RowsFit}
use Rattle.ob_vault.proofs.Runs.{went_each, fit_same, fit_trans, seals_none, went_none}
use Rattle.ob_flat.specs.Scans.{MayScan}
use Rattle.ob_flat.specs.Words.{blocks_of}
use Rattle.ob_flat.proofs.Rooms.{same_rows}
use Rattle.ob_flat.proofs.Loops.{below_all, at_end, nearer, pack_fits, spare_more, went_all}
use Rattle.ob_flat.proofs.Runs.{pass_each}
use Rattle.ob_flat.proofs.Scanning.{scanned_none, scanned_next, scanned_whole}
use Rattle.ob_flat.proofs.Tables.{reads, represents_lasts}
use Rattle.ob_flat.proofs.WordLemmas.{sealed_after, tampered_in}
use Rattle.ob_flat.proofs.scan.scan_blocks.Goals as goal

pub overflow_cast-pack : goal.overflow_cast-pack
overflow_cast-pack g c = pack_fits (length c.args.rows.now) c.requires.table.most

pub div_ceil-blocks-requires : goal.div_ceil-blocks-requires
div_ceil-blocks-requires g c = c.requires.table.some

pub loop-u-init : goal.loop-u-init
loop-u-init g c = record {
  went = went_none none _ c.requires.spare.ready;
  seals = record { seals = λ good. seals_none good _ };
  same = same_rows c.args.rows.now;
  scan = scanned_none (length c.args.rows.now) c.args.flat.now (g.V.Visit.after c.args.flat.now) (g.V.Visit.Suits c.args.flat.now) c.args.visit.now _ c.requires.table c.requires.suits;
}

pub scan_block-requires : goal.scan_block-requires
scan_block-requires g c =
    let flat = c.args.flat.now in
    let pack = length c.args.rows.now in
    let u = c.loop-u.u in
    let before = c.loop-u.invariant in
    let count = sym before.same.count in
    let now = at g.R.Revisions.state c.loop-u.vault (g.S.BlockStore.state c.loop-u.store) in
    let below : u < blocks_of pack flat = below_all c.loop-u-test.true c.div_ceil-blocks.ensures in
    record {
      spare = record { ready = before.went.lasts.ready; spare = spare_more c.requires.spare.spare before.went.spare (reads flat.region u) below };
      table = subst (λ (n : ℕ). MayScan n flat now) count before.scan.table;
      within = subst (λ (n : ℕ). u < blocks_of n flat) count below;
      fit = subst (λ (n : ℕ). RowsFit c.loop-u.rows (n * width flat.schema)) count (fit_same _ _ _ before.same c.requires.fit);
      suits = subst (λ (n : ℕ). g.V.Visit.Suits flat c.loop-u.visit (u * n)) count before.scan.suits;
    }

pub returns-in_err-scan_block-clause-rows : goal.returns-in_err-scan_block-clause-rows
returns-in_err-scan_block-clause-rows g c = fit_trans _ _ _ c.loop-u.invariant.same c.scan_block.ensures.rows

pub returns-in_err-scan_block-clause-scans : goal.returns-in_err-scan_block-clause-scans
returns-in_err-scan_block-clause-scans g c =
    let p = err_from_is_err_and c.from_residual.result c.from_residual.ensures.1 in
    let pack = length c.args.rows.now in
    let flat = c.args.flat.now in
    let u = c.loop-u.u in
    let below : u < blocks_of pack flat = below_all c.loop-u-test.true c.div_ceil-blocks.ensures in
    let before = c.loop-u.invariant in
    let block = rw before.same.count at c.in_err-scan_block.ensures.scans in
    rw (p.1, p.2) (record {
      ran = record { ok = tt; err = pass_each none (read_at flat.region) _ _ _ _ (blocks_of pack flat) u below before.went block.ran.err };
      never = elim block.never [ inl failed ↦ inl failed | inr there ↦ inr (tampered_in below there) ];
      seals = sealed_after before.went.lasts before.seals block.seals.seals;
      suits = tt;
      told = λ slots is nolie. block.told slots (represents_lasts pack flat none _ _ before.went.lasts (λ s. s) slots is) nolie;
    })

pub loop-u-preserved : goal.loop-u-preserved
loop-u-preserved g c =
    let pack = length c.args.rows.now in
    let flat = c.args.flat.now in
    let u = c.loop-u.u in
    let below : u < blocks_of pack flat = below_all c.loop-u-test.true c.div_ceil-blocks.ensures in
    let before = c.loop-u.invariant in
    let block = rw before.same.count at c.in_ok-scan_block.ensures.scans in
    record {
      went = went_each none (read_at flat.region) _ _ _ u before.went block.ran.ok;
      seals = sealed_after before.went.lasts before.seals block.seals.seals;
      same = fit_trans _ _ _ before.same c.scan_block.ensures.rows;
      scan = scanned_next pack flat (g.V.Visit.after flat) (g.V.Visit.Suits flat) c.args.visit.now u c.loop-u.visit _ _ c.scan_block.new.visit below block before.scan;
    }

pub loop-u-smaller : goal.loop-u-smaller
loop-u-smaller g c = nearer c.loop-u.u c.div_ceil-blocks.result c.loop-u-test.true

pub returns-clause-rows : goal.returns-clause-rows
returns-clause-rows g c = c.loop-u.invariant.same

pub returns-clause-scans : goal.returns-clause-scans
returns-clause-scans g c =
    let pack = length c.args.rows.now in
    let flat = c.args.flat.now in
    let all = c.loop-u.invariant in
    let last : c.loop-u.u ≡ blocks_of pack flat = at_end c.loop-u.auto.u-end c.loop-u-test.false c.div_ceil-blocks.ensures in
    record {
      ran = record { ok = went_all (read_at flat.region) last all.went; err = tt };
      never = tt;
      seals = all.seals;
      suits = subst (λ (n : ℕ). g.V.Visit.Suits flat c.loop-u.visit (n * pack)) last all.scan.suits;
      told = λ slots is nolie.
          scanned_whole pack flat (g.V.Visit.after flat) (g.V.Visit.Suits flat) c.args.visit.now c.loop-u.u c.loop-u.visit _ last all.scan slots
          (represents_lasts pack flat none _ _ all.went.lasts (λ s. s) slots is) nolie;
    }
