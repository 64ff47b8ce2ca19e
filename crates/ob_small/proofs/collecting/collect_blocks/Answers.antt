use Rattle.std.proofs.Common.{◌≡◌, ◌<◌, inl, inr, length, arith}
use Rattle.std.proofs.lemmas.Result.{err_from_is_err_and}
use Rattle.ob_base.specs.Accesses.{read_at}
use Rattle.ob_vault.specs.Calls.{none}
use Rattle.ob_vault.proofs.Runs.{went_none, went_each, fit_same, fit_trans, seals_none}
use Rattle.ob_row.specs.Truth.{is_true}
use Rattle.ob_flat.specs.Words.{blocks_of}
use Rattle.ob_flat.proofs.Loops.{below_all, at_end, nearer, pack_fits, spare_more, went_all}
use Rattle.ob_flat.proofs.Rooms.{same_rows}
use Rattle.ob_flat.proofs.Rows.{wide_same}
use Rattle.ob_flat.proofs.Runs.{pass_each}
use Rattle.ob_flat.proofs.Tables.{reads, represents_lasts}
use Rattle.ob_flat.proofs.WordLemmas.{sealed_after, tampered_in}
use Rattle.ob_small.proofs.Steps.{may_scan, collected_none, collected_next, collected_whole}
use Rattle.ob_small.proofs.collecting.collect_blocks.Goals as goal

pub overflow_cast-pack : goal.overflow_cast-pack
overflow_cast-pack g c = pack_fits (length c.args.rows.now) c.requires.table.most

pub div_ceil-blocks-requires : goal.div_ceil-blocks-requires
div_ceil-blocks-requires g c = c.requires.table.some

pub loop-u-init : goal.loop-u-init
loop-u-init g c =
    let pack = length c.args.rows.now in
    let flat = c.args.flat.now in
    let cleared = c.clear_rows.ensures in
    let empty = cleared.none flat.schema c.requires.wide in
    record {
      went = went_none none _ c.requires.spare.ready;
      seals = record { seals = λ good. seals_none good _ };
      same = same_rows c.args.rows.now;
      kept = same_rows c.clear_rows.new.rows;
      turns = λ q x shape turn. turn;
      collected = collected_none pack flat (is_true c.args.pred.now) c.args.from c.args.k c.clear_rows.new.rows _ (may_scan pack flat _ c.requires.table) (λ j below. empty j (omega (arith, below, cleared.size.count)));
    }

pub collect_block-requires : goal.collect_block-requires
collect_block-requires g c =
    let before = c.loop-u.invariant in
    let count = before.same.count in
    let below = below_all c.loop-u-test.true c.div_ceil-blocks.ensures in
    let fit = fit_same _ _ _ before.same c.requires.fit in
    record {
      spare = record {
        ready = before.went.lasts.ready;
        spare = spare_more c.requires.spare.spare before.went.spare (reads c.args.flat.now.region c.loop-u.u) below;
      };
      table = rw count before.collected.table;
      within = rw count below;
      fit = rw count fit;
      wide = wide_same _ _ _ (fit_trans _ _ _ c.clear_rows.ensures.size before.kept) c.requires.wide;
      few = rw count before.collected.few;
    }

pub returns-in_err-seen-clause-rows : goal.returns-in_err-seen-clause-rows
returns-in_err-seen-clause-rows g c = fit_trans _ _ _ c.loop-u.invariant.same c.collect_block.ensures.rows

pub returns-in_err-seen-clause-kept : goal.returns-in_err-seen-clause-kept
returns-in_err-seen-clause-kept g c = fit_trans _ _ _ c.clear_rows.ensures.size (fit_trans _ _ _ c.loop-u.invariant.kept c.collect_block.ensures.kept)

pub returns-in_err-seen-clause-collects : goal.returns-in_err-seen-clause-collects
returns-in_err-seen-clause-collects g c =
    let p = err_from_is_err_and c.from_residual.result c.from_residual.ensures.1 in
    let pack = length c.args.rows.now in
    let flat = c.args.flat.now in
    let u = c.loop-u.u in
    let below : u < blocks_of pack flat = below_all c.loop-u-test.true c.div_ceil-blocks.ensures in
    let before = c.loop-u.invariant in
    let block = rw before.same.count at c.in_err-seen.ensures.collects in
    rw (p.1, p.2) (record {
      ran = record { ok = tt; err = pass_each none (read_at flat.region) _ _ _ _ (blocks_of pack flat) u below before.went block.ran.err };
      never = elim block.never [ inl failed ↦ inl failed | inr there ↦ inr (tampered_in below there) ];
      seals = sealed_after before.went.lasts before.seals block.seals.seals;
      turns = tt;
      spells = tt;
      told = λ slots is nolie. block.told slots (represents_lasts pack flat none _ _ before.went.lasts (λ s. s) slots is) nolie;
    })

pub loop-u-preserved : goal.loop-u-preserved
loop-u-preserved g c =
    let pack = length c.args.rows.now in
    let flat = c.args.flat.now in
    let u = c.loop-u.u in
    let below : u < blocks_of pack flat = below_all c.loop-u-test.true c.div_ceil-blocks.ensures in
    let before = c.loop-u.invariant in
    let block = rw before.same.count at c.in_ok-seen.ensures.collects in
    record {
      went = went_each none (read_at flat.region) _ _ _ u before.went block.ran.ok;
      seals = sealed_after before.went.lasts before.seals block.seals.seals;
      same = fit_trans _ _ _ before.same c.collect_block.ensures.rows;
      kept = fit_trans _ _ _ before.kept c.collect_block.ensures.kept;
      turns = λ q x shape turn. block.turns q x shape (before.turns q x shape turn);
      collected = collected_next pack flat (is_true c.args.pred.now) c.args.from c.args.k u c.loop-u.seen _ c.loop-u.kept c.collect_block.new.kept _ _ below block before.collected;
    }

pub loop-u-smaller : goal.loop-u-smaller
loop-u-smaller g c = nearer c.loop-u.u c.div_ceil-blocks.result c.loop-u-test.true

pub returns-clause-rows : goal.returns-clause-rows
returns-clause-rows g c = c.loop-u.invariant.same

pub returns-clause-kept : goal.returns-clause-kept
returns-clause-kept g c = fit_trans _ _ _ c.clear_rows.ensures.size c.loop-u.invariant.kept

pub returns-clause-collects : goal.returns-clause-collects
returns-clause-collects g c =
    let pack = length c.args.rows.now in
    let flat = c.args.flat.now in
    let done = c.loop-u.invariant in
    let last : c.loop-u.u ≡ blocks_of pack flat = at_end c.loop-u.auto.u-end c.loop-u-test.false c.div_ceil-blocks.ensures in
    record {
      ran = record { ok = went_all (read_at flat.region) last done.went; err = tt };
      never = tt;
      seals = done.seals;
      turns = done.turns;
      spells = done.collected.spells;
      told = λ slots is nolie.
          (collected_whole pack flat (is_true c.args.pred.now) c.args.from c.args.k c.loop-u.u c.loop-u.seen c.loop-u.kept _ last done.collected slots (represents_lasts pack flat none _ _ done.went.lasts (λ s. s) slots is) nolie).kept;
    }
