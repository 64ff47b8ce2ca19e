use Rattle.std.proofs.Common.{◌≡◌, ◌≤◌, ◌+◌, ◌-◌, ◌*◌, [], min, ℕ, inl, inr, length, take, refl, sym, ◌∙◌, ap, subst, arith}
use Rattle.std.proofs.lemmas.List.{length-take}
use Rattle.std.proofs.lemmas.Result.{err_from_is_err_and}
use Rattle.ob_base.specs.Lists.{each}
use Rattle.ob_base.specs.Numbers.{blocks_for}
use Rattle.ob_base.specs.Schemas.{kind_width, width}
use Rattle.ob_order.specs.Orders.{Lists}
use Rattle.ob_script.specs.Parts.{read_from}
use Rattle.ob_vault.specs.Calls.{none, one}
use Rattle.ob_vault.specs.Places.{at, RowsFit}
use Rattle.ob_vault.proofs.RowsLemmas.{rows_room}
use Rattle.ob_vault.proofs.Runs.{went_none, went_wider, went_each, went_join, fit_same, fit_trans, seals_none}
use Rattle.ob_flat.proofs.Rooms.{same_rows}
use Rattle.ob_flat.proofs.Rows.{wide_same}
use Rattle.ob_flat.proofs.Runs.{pass_each, pass_more, pass_after, pass_wider}
use Rattle.ob_flat.proofs.Tables.{blocks_few, blocks_end, blocks_hold, flat_lasts, represents_lasts}
use Rattle.ob_flat.specs.declared.flat.Flat.{Flat}
use Rattle.ob_flat.specs.Flats.{IsSized, IsFlat, Represents}
use Rattle.ob_flat.specs.Words.{IsTable, blocks_of}
use Rattle.ob_flat.proofs.Loops.{went_all}
use Rattle.ob_vault.proofs.WordLemmas.{asks_after, honest_before, honest_after}
use Rattle.ob_flat.proofs.WordLemmas.{seals_any, seals_after}
use Rattle.ob_join.specs.Join.{HasChunk, join_of, lefts, rights, chunks, blocks, columns, result_slots, chunk_script, pairs_script}
use Rattle.ob_join.specs.Joining.{blocks_from}
use Rattle.ob_join.proofs.Lengths.{spent, begun, taken, all_chunks, next_chunk}
use Rattle.ob_join.proofs.Places.{filling_first, filling_at, filling_read, filled, holds_at, holds_read}
use Rattle.ob_join.proofs.Results.{chunk_inside, joined_kept, represents_joined, whole_product}
use Rattle.ob_join.proofs.Windows.{nearer, reads_from, product_within, kept_within, part_wide, put_sizes}
use Rattle.ob_join.proofs.filling.fill_result.Goals as goal

pub overflow_mul-first : goal.overflow_mul-first
overflow_mul-first g c =
    let pack = length c.args.rows.now in
    let cap = c.args.sides.now.left.now.capacity in
    let q = c.args.sides.now.buffered in
    let j = c.loop-chunk.chunk in
    let lefts = blocks_for pack cap in
    let below = begun lefts q j _ _ c.div_ceil-lefts.ensures c.div_ceil-chunk-end.ensures c.loop-chunk-test.true in
    omega (arith, chunk_inside lefts q j c.requires.kept.some below, blocks_few pack cap c.requires.buffers.some, c.requires.tables.left_size.most)

pub overflow_sub-lefts : goal.overflow_sub-lefts
overflow_sub-lefts g c =
    let q = c.args.sides.now.buffered in
    let j = c.loop-chunk.chunk in
    let lefts = blocks_for (length c.args.rows.now) c.args.sides.now.left.now.capacity in
    let below = begun lefts q j _ _ c.div_ceil-lefts.ensures c.div_ceil-chunk-end.ensures c.loop-chunk-test.true in
    omega (arith, chunk_inside lefts q j c.requires.kept.some below, c.div_ceil-lefts.ensures)

pub overflow_mul-own : goal.overflow_mul-own
overflow_mul-own g c =
    let pack = length c.args.rows.now in
    let cap = c.args.sides.now.left.now.capacity in
    let lefts = blocks_for pack cap in
    let n_is = taken lefts c.args.sides.now.buffered c.loop-chunk.chunk _ _ c.div_ceil-lefts.ensures c.min-n.ensures in
    omega (arith, product_within c.min-n.result lefts pack (omega (arith, n_is)), blocks_end pack cap c.requires.buffers.some, c.requires.tables.left_size.most, c.requires.buffers.most)

pub slice_bounds-own-end : goal.slice_bounds-own-end
slice_bounds-own-end g c =
    let pack = length c.args.rows.now in
    omega (arith, kept_within _ c.args.sides.now.left.now.capacity c.args.sides.now.buffered pack c.div_ceil-lefts.ensures c.min-n.ensures, c.loop-chunk.invariant.kept.count, c.requires.kept.space)

pub slice_bounds-own-end-in-loop-chunk : goal.slice_bounds-own-end-in-loop-chunk
slice_bounds-own-end-in-loop-chunk g c =
    let pack = length c.args.rows.now in
    let n = c.min-n.result in
    omega (arith, kept_within _ c.args.sides.now.left.now.capacity c.args.sides.now.buffered pack c.div_ceil-lefts.ensures c.min-n.ensures, c.loop-chunk.invariant.kept.count, c.requires.kept.space, length-take (n * pack) c.loop-chunk.kept)

pub list-requires-clause-room : goal.list-requires-clause-room
list-requires-clause-room g c =
    let kept = c.loop-chunk.kept in
    let n = c.min-n.result * length c.args.rows.now in
    omega (arith, c.collect_chunk.ensures.kept.count, length-take n kept, c.loop-chunk.invariant.kept.count, c.requires.places, c.loop-chunk.invariant.most)

pub returns-in_err-collect_chunk-clause-most : goal.returns-in_err-collect_chunk-clause-most
returns-in_err-collect_chunk-clause-most g c = c.loop-chunk.invariant.most

pub returns-in_err-pair_blocks-clause-most : goal.returns-in_err-pair_blocks-clause-most
returns-in_err-pair_blocks-clause-most g c = c.list.ensures.most ∙ c.loop-chunk.invariant.most

pub returns-clause-most : goal.returns-clause-most
returns-clause-most g c = c.loop-chunk.invariant.most

pub collect_chunk-requires-clause-within : goal.collect_chunk-requires-clause-within
collect_chunk-requires-clause-within g c =
    let q = c.args.sides.now.buffered in
    let j = c.loop-chunk.chunk in
    let lefts = blocks_for (length c.args.rows.now) c.args.sides.now.left.now.capacity in
    let below = begun lefts q j _ _ c.div_ceil-lefts.ensures c.div_ceil-chunk-end.ensures c.loop-chunk-test.true in
    omega (arith, chunk_inside lefts q j c.requires.kept.some below, taken lefts q j _ _ c.div_ceil-lefts.ensures c.min-n.ensures)

pub collect_chunk-requires-clause-space : goal.collect_chunk-requires-clause-space
collect_chunk-requires-clause-space g c =
    let pack = length c.args.rows.now in
    let n = c.min-n.result in
    omega (arith, kept_within _ c.args.sides.now.left.now.capacity c.args.sides.now.buffered pack c.div_ceil-lefts.ensures c.min-n.ensures, c.loop-chunk.invariant.kept.count, c.requires.kept.space, length-take (n * pack) c.loop-chunk.kept)

pub collect_chunk-requires-clause-wide : goal.collect_chunk-requires-clause-wide
collect_chunk-requires-clause-wide g c =
    let pack = length c.args.rows.now in
    let n = c.min-n.result in
    let fits : 0 + n * pack ≤ length c.loop-chunk.kept = omega (arith, kept_within _ c.args.sides.now.left.now.capacity c.args.sides.now.buffered pack c.div_ceil-lefts.ensures c.min-n.ensures, c.loop-chunk.invariant.kept.count, c.requires.kept.space) in
    part_wide 0 (n * pack) c.loop-chunk.kept fits (width c.args.sides.now.left.now.schema) (wide_same _ _ _ c.loop-chunk.invariant.kept c.requires.kept.wide)

pub returns-in_err-collect_chunk-clause-kept : goal.returns-in_err-collect_chunk-clause-kept
returns-in_err-collect_chunk-clause-kept g c =
    let pack = length c.args.rows.now in
    let n = c.min-n.result in
    let kept = c.loop-chunk.kept in
    let fits : 0 + n * pack ≤ length kept = omega (arith, kept_within _ c.args.sides.now.left.now.capacity c.args.sides.now.buffered pack c.div_ceil-lefts.ensures c.min-n.ensures, c.loop-chunk.invariant.kept.count, c.requires.kept.space) in
    let long : length (take (n * pack) kept) ≡ n * pack = omega (arith, fits, length-take (n * pack) kept) in
    fit_trans _ _ _ c.loop-chunk.invariant.kept (put_sizes 0 (n * pack) kept fits c.collect_chunk.new.kept (c.collect_chunk.ensures.kept.count ∙ long) c.collect_chunk.ensures.kept)

pub returns-in_err-collect_chunk-clause-rows : goal.returns-in_err-collect_chunk-clause-rows
returns-in_err-collect_chunk-clause-rows g c = c.loop-chunk.invariant.rows

pub returns-in_err-collect_chunk-clause-out : goal.returns-in_err-collect_chunk-clause-out
returns-in_err-collect_chunk-clause-out g c = c.loop-chunk.invariant.out

pub returns-in_err-pair_blocks-clause-kept : goal.returns-in_err-pair_blocks-clause-kept
returns-in_err-pair_blocks-clause-kept g c =
    let pack = length c.args.rows.now in
    let n = c.min-n.result in
    let kept = c.loop-chunk.kept in
    let fits : 0 + n * pack ≤ length kept = omega (arith, kept_within _ c.args.sides.now.left.now.capacity c.args.sides.now.buffered pack c.div_ceil-lefts.ensures c.min-n.ensures, c.loop-chunk.invariant.kept.count, c.requires.kept.space) in
    let long : length (take (n * pack) kept) ≡ n * pack = omega (arith, fits, length-take (n * pack) kept) in
    fit_trans _ _ _ c.loop-chunk.invariant.kept (put_sizes 0 (n * pack) kept fits c.collect_chunk.new.kept (c.collect_chunk.ensures.kept.count ∙ long) c.collect_chunk.ensures.kept)

pub returns-in_err-pair_blocks-clause-rows : goal.returns-in_err-pair_blocks-clause-rows
returns-in_err-pair_blocks-clause-rows g c = fit_trans _ _ _ c.loop-chunk.invariant.rows c.pair_blocks.ensures.rows

pub returns-in_err-pair_blocks-clause-out : goal.returns-in_err-pair_blocks-clause-out
returns-in_err-pair_blocks-clause-out g c = fit_trans _ _ _ c.loop-chunk.invariant.out c.pair_blocks.ensures.out

pub loop-chunk-smaller : goal.loop-chunk-smaller
loop-chunk-smaller g c = nearer c.loop-chunk-test.true

pub returns-clause-kept : goal.returns-clause-kept
returns-clause-kept g c = c.loop-chunk.invariant.kept

pub returns-clause-rows : goal.returns-clause-rows
returns-clause-rows g c = c.loop-chunk.invariant.rows

pub returns-clause-out : goal.returns-clause-out
returns-clause-out g c = c.loop-chunk.invariant.out

pub loop-chunk-init : goal.loop-chunk-init
loop-chunk-init g c =
    let pack = length c.args.rows.now in
    let to = c.args.to.now in
    let n = rights (join_of pack c.args.sides.now) in
    let zero : 0 * n ≡ 0 = omega arith in
    record {
      went = went_none (one to.region) _ c.requires.asks.ready;
      seals = seals_any (λ good. seals_none good _);
      most = refl;
      kept = same_rows c.args.kept.now;
      rows = same_rows c.args.rows.now;
      out = same_rows c.args.out.now;
      filling = filling_at pack to 0 (0 * n) _ (sym zero) (filling_first pack to _ c.requires.new.made);
      told = λ honest left right first second. record { holds = λ p below. absurd (omega (arith, below, zero)) };
    }

pub collect_chunk-requires-clause-spare : goal.collect_chunk-requires-clause-spare
collect_chunk-requires-clause-spare g c =
    let pack = length c.args.rows.now in
    let join = join_of pack c.args.sides.now in
    let left = c.args.sides.now.left.now in
    let right = c.args.sides.now.right.now in
    let to = c.args.to.now in
    let q = join.buffered in
    let j = c.loop-chunk.chunk in
    let before = c.loop-chunk.invariant in
    let below = begun (lefts join) q j _ _ c.div_ceil-lefts.ensures c.div_ceil-chunk-end.ensures c.loop-chunk-test.true in
    let n_is = taken (lefts join) q j _ _ c.div_ceil-lefts.ensures c.min-n.ensures in
    let asks = asks_after {m = c.min-n.result} c.requires.asks before.went (omega (arith, spent left.region right.region to.region (lefts join) (rights join) q j, rows_room j (chunks join) (rights join) below, chunk_inside (lefts join) q j c.requires.kept.some below, n_is)) in
    record { ready = asks.ready; spare = asks.spare }

pub collect_chunk-requires-clause-table : goal.collect_chunk-requires-clause-table
collect_chunk-requires-clause-table g c =
    let to = c.args.to.now.region in
    record {
      some = c.requires.buffers.some;
      most = c.requires.buffers.most;
      size = c.requires.tables.left_size;
      written = flat_lasts (length c.args.rows.now) c.args.sides.now.left.now (one to) _ _ c.loop-chunk.invariant.went.lasts c.requires.new.left_apart c.requires.tables.left;
    }

pub returns-in_err-collect_chunk-clause-fills : goal.returns-in_err-collect_chunk-clause-fills
returns-in_err-collect_chunk-clause-fills g c =
    let p = err_from_is_err_and c.from_residual.result c.from_residual.ensures.1 in
    let pack = length c.args.rows.now in
    let join = join_of pack c.args.sides.now in
    let left = c.args.sides.now.left.now in
    let right = c.args.sides.now.right.now in
    let to = c.args.to.now in
    let q = join.buffered in
    let j = c.loop-chunk.chunk in
    let before = c.loop-chunk.invariant in
    let below = begun (lefts join) q j _ _ c.div_ceil-lefts.ensures c.div_ceil-chunk-end.ensures c.loop-chunk-test.true in
    let n_is = taken (lefts join) q j _ _ c.div_ceil-lefts.ensures c.min-n.ensures in
    let collects = c.in_err-collect_chunk.ensures.collects in
    let cut = rw n_is at collects.ran.err in
    rw (p.1, p.2) (record {
      ran = record {
        ok = tt;
        err = pass_each (one to.region) (chunk_script join to.region) _ _ _ _ (chunks join) j below before.went
            (pass_more (one to.region) _ _ _ (each (min q (lefts join - j * q)) (read_from left.region (j * q))) (pairs_script join to.region j) (pass_wider none _ _ (one to.region) (λ r s. absurd s) _ _ cut));
      };
      never = elim collects.never [ inl failed ↦ inl failed | inr tampered ↦ inr (inl tampered) ];
      seals = seals_after before.went.lasts before.seals (seals_any collects.seals.seals);
      filled = tt;
      told = λ honest lslots rslots first second. collects.told lslots (represents_lasts pack left (one to.region) _ _ before.went.lasts c.requires.new.left_apart lslots first) honest.nolie;
    })

pub pair_blocks-requires : goal.pair_blocks-requires
pair_blocks-requires g c =
    let pack = length c.args.rows.now in
    let join = join_of pack c.args.sides.now in
    let left = c.args.sides.now.left.now in
    let right = c.args.sides.now.right.now in
    let to = c.args.to.now in
    let q = join.buffered in
    let j = c.loop-chunk.chunk in
    let before = c.loop-chunk.invariant in
    let below = begun (lefts join) q j _ _ c.div_ceil-lefts.ensures c.div_ceil-chunk-end.ensures c.loop-chunk-test.true in
    let n_is = taken (lefts join) q j _ _ c.div_ceil-lefts.ensures c.min-n.ensures in
    let n = c.min-n.result in
    let count = before.rows.count in
    let schema = ap (λ (f : Flat). f.schema) c.requires.new.same in
    let total = ap (λ (f : Flat). f.capacity) c.requires.new.same in
    let read = c.in_ok-collect_chunk.ensures.collects in
    let asks = asks_after {m = 2 * rights join} (asks_after {m = n + 2 * rights join} c.requires.asks before.went (omega (arith, spent left.region right.region to.region (lefts join) (rights join) q j, rows_room j (chunks join) (rights join) below, chunk_inside (lefts join) q j c.requires.kept.some below, n_is))) read.ran.ok (omega (arith, reads_from left.region (j * q) n)) in
    let now = flat_lasts pack right none _ _ read.ran.ok.lasts (λ s. s) (flat_lasts pack right (one to.region) _ _ before.went.lasts c.requires.new.right_apart c.requires.tables.right) in
    let table : IsTable pack right _ = record { some = c.requires.buffers.some; most = c.requires.buffers.most; size = c.requires.tables.right_size; written = now } in
    let filling = filling_read pack to (j * rights join) _ _ _ read.ran.ok read.turns.stay before.filling in
    let all : blocks_of pack to ≡ blocks join = ap (blocks_for pack) total ∙ whole_product (blocks join) pack c.requires.buffers.some in
    let within : j * rights join + rights join ≤ blocks_of pack to = omega (arith, all, rows_room j (chunks join) (rights join) below) in
    let fits : 0 + n * pack ≤ length c.loop-chunk.kept = omega (arith, kept_within _ c.args.sides.now.left.now.capacity q pack c.div_ceil-lefts.ensures c.min-n.ensures, before.kept.count, c.requires.kept.space) in
    record {
      asks = rw count asks;
      right = rw count table;
      columns = record { lcol = c.requires.tables.lcol; rcol = c.requires.tables.rcol };
      filling = rw count filling;
      target = record { apart = c.requires.new.right_apart; schema = schema; sized = subst (λ (f : Flat). IsSized f.schema f.capacity) (sym c.requires.new.same) c.requires.tables.sized };
      within = rw count within;
      buffers = record {
        some = rw count c.requires.buffers.some;
        most = rw count c.requires.buffers.most;
        rows_fit = subst (λ (k : ℕ). RowsFit c.loop-chunk.rows (k * width right.schema)) (sym count) (fit_same _ _ _ before.rows c.requires.buffers.rows_fit);
        same = before.out.count ∙ c.requires.buffers.same ∙ sym count;
        out_fit = subst (λ (k : ℕ). RowsFit c.loop-chunk.out (k * width (columns join))) (sym before.out.count) (fit_same _ _ _ before.out c.requires.buffers.out_fit);
      };
      listed = subst (λ (m : ℕ). Lists (width (take c.args.sides.now.lcol left.schema)) m c.collect_chunk.new.kept c.list.new.self.places) (c.width-len.ensures.value ∙ ap kind_width c.kind_at.ensures)
          (subst (λ (m : ℕ). Lists m c.width-len.result c.collect_chunk.new.kept c.list.new.self.places) c.offset-at.ensures c.list.ensures.lists);
      kept = record {
        wide = wide_same _ _ _ c.collect_chunk.ensures.kept (part_wide 0 (n * pack) c.loop-chunk.kept fits (width left.schema) (wide_same _ _ _ before.kept c.requires.kept.wide));
        spells = read.spells;
      };
    }

pub returns-in_err-pair_blocks-clause-fills : goal.returns-in_err-pair_blocks-clause-fills
returns-in_err-pair_blocks-clause-fills g c =
    let p = err_from_is_err_and c.from_residual-in_err-pair_blocks.result c.from_residual-in_err-pair_blocks.ensures.1 in
    let pack = length c.args.rows.now in
    let join = join_of pack c.args.sides.now in
    let left = c.args.sides.now.left.now in
    let right = c.args.sides.now.right.now in
    let to = c.args.to.now in
    let q = join.buffered in
    let j = c.loop-chunk.chunk in
    let before = c.loop-chunk.invariant in
    let below = begun (lefts join) q j _ _ c.div_ceil-lefts.ensures c.div_ceil-chunk-end.ensures c.loop-chunk-test.true in
    let n_is = taken (lefts join) q j _ _ c.div_ceil-lefts.ensures c.min-n.ensures in
    let schema = ap (λ (f : Flat). f.schema) c.requires.new.same in
    let collects = c.in_ok-collect_chunk.ensures.collects in
    let read = rw n_is at collects.ran.ok in
    let pairs = rw before.rows.count at c.in_err-pair_blocks.ensures.pairs in
    let sealed = rw schema at pairs.seals in
    rw (p.1, p.2) (record {
      ran = record {
        ok = tt;
        err = pass_each (one to.region) (chunk_script join to.region) _ _ _ _ (chunks join) j below before.went
            (pass_after (one to.region) _ _ _ _ (each (min q (lefts join - j * q)) (read_from left.region (j * q))) (pairs_script join to.region j) (went_wider none _ _ (one to.region) (λ r s. absurd s) _ read) pairs.ran.err);
      };
      never = elim pairs.never [ inl failed ↦ inl failed | inr tampered ↦ inr (inr tampered) ];
      seals = seals_after before.went.lasts before.seals (seals_after read.lasts (seals_any collects.seals.seals) sealed);
      filled = tt;
      told = λ honest lslots rslots first second.
          let there = honest_before pairs.ran.err.lasts honest in
          let now_left = represents_lasts pack left (one to.region) _ _ before.went.lasts c.requires.new.left_apart lslots first in
          let now_right = represents_lasts pack right none _ _ read.lasts (λ s. s) rslots (represents_lasts pack right (one to.region) _ _ before.went.lasts c.requires.new.right_apart rslots second) in
          pairs.told (honest_after read (honest_after before.went honest)) _ rslots [] (collects.told lslots now_left there.nolie) now_right;
    })

pub loop-chunk-preserved : goal.loop-chunk-preserved
loop-chunk-preserved g c =
    let pack = length c.args.rows.now in
    let join = join_of pack c.args.sides.now in
    let left = c.args.sides.now.left.now in
    let right = c.args.sides.now.right.now in
    let to = c.args.to.now in
    let q = join.buffered in
    let j = c.loop-chunk.chunk in
    let before = c.loop-chunk.invariant in
    let below = begun (lefts join) q j _ _ c.div_ceil-lefts.ensures c.div_ceil-chunk-end.ensures c.loop-chunk-test.true in
    let n_is = taken (lefts join) q j _ _ c.div_ceil-lefts.ensures c.min-n.ensures in
    let n = c.min-n.result in
    let kept = c.loop-chunk.kept in
    let schema = ap (λ (f : Flat). f.schema) c.requires.new.same in
    let collects = c.in_ok-collect_chunk.ensures.collects in
    let read = rw n_is at collects.ran.ok in
    let pairs = rw before.rows.count at c.in_ok-pair_blocks.ensures.pairs in
    let sealed = rw schema at pairs.seals in
    let fits : 0 + n * pack ≤ length kept = omega (arith, kept_within _ c.args.sides.now.left.now.capacity q pack c.div_ceil-lefts.ensures c.min-n.ensures, before.kept.count, c.requires.kept.space) in
    let long : length (take (n * pack) kept) ≡ n * pack = omega (arith, fits, length-take (n * pack) kept) in
    record {
      went = went_each (one to.region) (chunk_script join to.region) _ _ _ j before.went
          (went_join (one to.region) _ _ _ (each (min q (lefts join - j * q)) (read_from left.region (j * q))) (pairs_script join to.region j) (went_wider none _ _ (one to.region) (λ r s. absurd s) _ read) pairs.ran.ok);
      most = c.list.ensures.most ∙ before.most;
      seals = seals_after before.went.lasts before.seals (seals_after read.lasts (seals_any collects.seals.seals) sealed);
      kept = fit_trans _ _ _ before.kept (put_sizes 0 (n * pack) kept fits c.collect_chunk.new.kept (c.collect_chunk.ensures.kept.count ∙ long) c.collect_chunk.ensures.kept);
      rows = fit_trans _ _ _ before.rows c.pair_blocks.ensures.rows;
      out = fit_trans _ _ _ before.out c.pair_blocks.ensures.out;
      filling = filling_at pack to (j * rights join + rights join) ((j + 1) * rights join) _ (next_chunk j (rights join)) pairs.filling;
      told = λ honest lslots rslots first second.
          let there = honest_before pairs.ran.ok.lasts honest in
          let began = honest_before read.lasts there in
          let now_left = represents_lasts pack left (one to.region) _ _ before.went.lasts c.requires.new.left_apart lslots first in
          let now_right = represents_lasts pack right none _ _ read.lasts (λ s. s) rslots (represents_lasts pack right (one to.region) _ _ before.went.lasts c.requires.new.right_apart rslots second) in
          let all = result_slots join lslots rslots in
          let spelt = rw n_is at (collects.told lslots now_left there.nolie) in
          let made = pairs.told (honest_after read (honest_after before.went honest)) (blocks_from pack left.capacity (j * q) (min q (lefts join - j * q)) lslots) rslots all spelt now_right in
          let room : length rslots ≤ rights join * pack = omega (arith, second.size, blocks_hold pack right.capacity c.requires.buffers.some) in
          let chunk : HasChunk join j (blocks_from pack left.capacity (j * q) (min q (lefts join - j * q)) lslots) rslots all = record { same = λ v inside. joined_kept join.lcol join.rcol pack left.capacity q (rights join) j v lslots rslots first.size room c.requires.buffers.some c.requires.kept.some below inside } in
          holds_at pack to (j * rights join + rights join) ((j + 1) * rights join) all _ (next_chunk j (rights join))
          (made chunk (holds_read pack to (j * rights join) _ _ _ all read (before.told began lslots rslots first second)));
    }

pub returns-clause-fills : goal.returns-clause-fills
returns-clause-fills g c =
    let pack = length c.args.rows.now in
    let join = join_of pack c.args.sides.now in
    let left = join.left in
    let right = join.right in
    let to = c.args.to.now in
    let q = join.buffered in
    let j = c.loop-chunk.chunk in
    let done = c.loop-chunk.invariant in
    let new = at g.R.Revisions.state c.loop-chunk.vault (g.S.BlockStore.state c.loop-chunk.store) in
    let same = c.requires.new.same in
    let schema = ap (λ (f : Flat). f.schema) same in
    let total = ap (λ (f : Flat). f.capacity) same in
    let last = all_chunks (lefts join) q j _ _ c.div_ceil-lefts.ensures c.div_ceil-chunk-end.ensures (omega arith) (omega arith) in
    let end = ap (λ (k : ℕ). k * rights join) last in
    let all : blocks_of pack to ≡ blocks join = ap (blocks_for pack) total ∙ whole_product (blocks join) pack c.requires.buffers.some in
    record {
      ran = record { ok = went_all (chunk_script join to.region) last done.went; err = tt };
      never = tt;
      seals = done.seals;
      filled = subst (λ (f : Flat). IsFlat pack f new) same (filled pack to (j * rights join) _ (end ∙ sym all) done.filling);
      told = λ honest lslots rslots first second.
          let room : length rslots ≤ rights join * pack = omega (arith, second.size, blocks_hold pack right.capacity c.requires.buffers.some) in
          let slots = result_slots join lslots rslots in
          subst (λ (f : Flat). Represents pack f slots new) same
          (represents_joined left.schema right.schema join.lcol join.rcol (pack * q) (chunks join) (rights join) pack to lslots rslots _ schema total c.requires.buffers.some room first.fits second.fits
          (holds_at pack to (j * rights join) (blocks join) slots _ end (done.told honest lslots rslots first second)));
    }
