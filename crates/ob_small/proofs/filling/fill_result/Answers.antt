use Rattle.std.proofs.Common.{◌≡◌, ◌≤◌, ◌+◌, ◌-◌, ◌*◌, ◌<◌, min, ℕ, inl, Fits, w32, length, sym, ◌∙◌, ap, subst, arith}
use Rattle.std.proofs.lemmas.Result.{err_from_is_err_and}
use Rattle.std.specs.Int.{div_ceil}
use Rattle.ob_base.specs.Lists.{each}
use Rattle.ob_base.specs.Numbers.{blocks_for}
use Rattle.ob_base.specs.Schemas.{Columns, width}
use Rattle.ob_script.specs.Parts.{count_part, write_from}
use Rattle.ob_vault.specs.Calls.{none, one}
use Rattle.ob_vault.specs.Places.{at}
use Rattle.ob_vault.specs.Rows.{Wide}
use Rattle.ob_vault.proofs.RowsLemmas.{rows_room}
use Rattle.ob_vault.proofs.Runs.{went_none, seals_none, went_wider, went_each, went_join, tells_went, fit_same, fit_trans}
use Rattle.ob_vault.proofs.WordLemmas.{asks_after}
use Rattle.ob_flat.specs.declared.flat.Flat.{Flat}
use Rattle.ob_flat.specs.Slots.{AreSlots}
use Rattle.ob_flat.specs.Flats.{IsSized, IsFlat}
use Rattle.ob_flat.specs.Words.{IsTable}
use Rattle.ob_flat.proofs.Loops.{nearer, pack_fits, went_all}
use Rattle.ob_flat.proofs.Rooms.{same_rows}
use Rattle.ob_flat.proofs.Rows.{wide_same}
use Rattle.ob_flat.proofs.Runs.{pass_each, pass_more, pass_after, pass_wider}
use Rattle.ob_flat.proofs.Tables.{reads, blocks_few, blocks_end, flat_lasts, represents_lasts, represents_before}
use Rattle.ob_flat.proofs.WordLemmas.{seals_any, seals_after}
use Rattle.ob_small.specs.Keeping.{chosen, AreKept}
use Rattle.ob_small.specs.Selection.{select_of, blocks, results, passes, pass_script}
use Rattle.ob_small.proofs.Lengths.{spent, passes_reach, pass_inside, product_within, pass_next}
use Rattle.ob_small.proofs.Places.{next_at, next_first, next_read, next_last}
use Rattle.ob_small.proofs.Steps.{filled_at, filled_none, filled_lasts, filled_more, filled_rows, filled_whole}
use Rattle.ob_small.proofs.filling.fill_result.Goals as goal

-- a pass that there is
begun : (results q j n end : ℕ) → n ≡ results → end ≡ div_ceil n q → j < end → j < div_ceil results q
begun results q j n end same is below = omega (arith, below, is ∙ ap (λ (k : ℕ). div_ceil k q) same)

-- the blocks that it writes
taken : (results q j n k : ℕ) → n ≡ results → k ≡ min q (n - j * q) → k ≡ min q (results - j * q)
taken results q j n k same is = is ∙ ap (λ (m : ℕ). min q (m - j * q)) same

-- before the first pass
at_first : (q results : ℕ) → min (0 * q) results ≡ 0
at_first q results = omega arith

-- all passes
whole : (results q j n end : ℕ) → n ≡ results → end ≡ div_ceil n q → end ≤ j → j ≤ end → j ≡ div_ceil results q
whole results q j n end same is past within = omega (arith, past, within, is ∙ ap (λ (k : ℕ). div_ceil k q) same)

all_done : (results q j : ℕ) → 1 ≤ q → j ≡ div_ceil results q → min (j * q) results ≡ results
all_done results q j some is = omega (arith, ap (λ (n : ℕ). n * q) is, passes_reach results q some)

-- the first block of a pass
first_fits : (pack capacity n : ℕ) → 1 ≤ pack → capacity ≤ 16777216 → n < blocks_for pack capacity → Fits w32 n
first_fits pack capacity n some most inside = omega (arith, most, inside, blocks_few pack capacity some)

first_least : (n m results : ℕ) → m ≡ results → n < results → n ≤ m
first_least n m results same inside = omega (arith, same, inside)

-- the size of a result
sized_as : {s z : Columns} {n k : ℕ} → z ≡ s → IsSized s n → 1 ≤ k → k ≤ 16777216 → IsSized z k
sized_as {s} {z} {n} {k} same size least most = subst (λ (c : Columns). IsSized c k) (sym same) (record { some = size.some; few = size.few; wide = size.wide; least = least; most = most })

pub overflow_cast-pack : goal.overflow_cast-pack
overflow_cast-pack g c = pack_fits (length c.args.rows.now) c.requires.table.most

pub overflow_mul-first : goal.overflow_mul-first
overflow_mul-first g c =
    let r = blocks_for (length c.args.rows.now) c.args.to.now.capacity in
    let below = begun r c.args.buffered c.loop-j.j _ _ c.div_ceil-results.ensures c.div_ceil-j-end.ensures c.loop-j-test.true in
    first_fits (length c.args.rows.now) c.args.to.now.capacity (c.loop-j.j * c.args.buffered) c.requires.table.some c.requires.new.most (pass_inside r c.args.buffered c.loop-j.j c.requires.buffers.some below)

pub overflow_sub-results : goal.overflow_sub-results
overflow_sub-results g c =
    let r = blocks_for (length c.args.rows.now) c.args.to.now.capacity in
    let below = begun r c.args.buffered c.loop-j.j _ _ c.div_ceil-results.ensures c.div_ceil-j-end.ensures c.loop-j-test.true in
    first_least (c.loop-j.j * c.args.buffered) _ _ c.div_ceil-results.ensures (pass_inside r c.args.buffered c.loop-j.j c.requires.buffers.some below)

pub overflow_mul-first-in-loop-j : goal.overflow_mul-first-in-loop-j
overflow_mul-first-in-loop-j g c =
    let pack = length c.args.rows.now in
    let q = c.args.buffered in
    let j = c.loop-j.j in
    let k = c.args.to.now.capacity in
    let r = blocks_for pack k in
    let below = begun r q j _ _ c.div_ceil-results.ensures c.div_ceil-j-end.ensures c.loop-j-test.true in
    let inside = pass_inside r q j c.requires.buffers.some below in
    omega (arith, rows_room (j * q) r pack inside, blocks_end pack k c.requires.table.some, c.requires.new.most, c.requires.table.most)

pub loop-j-init : goal.loop-j-init
loop-j-init g c =
    let pack = length c.args.rows.now in
    let to = c.args.to.now in
    let s = select_of pack c.args.buffered c.args.flat.now c.args.pred.now to.capacity in
    let none = at_first c.args.buffered (results s) in
    record {
      went = went_none (one to.region) _ c.requires.asks.ready;
      seals = seals_any (λ good. seals_none good _);
      rows = same_rows c.args.rows.now;
      kept = same_rows c.args.kept.now;
      next = next_first pack to (min (0 * c.args.buffered) (results s)) _ none c.requires.new.made;
      filled = filled_at s to (sym none) (filled_none s to _);
    }

pub collect_blocks-requires : goal.collect_blocks-requires
collect_blocks-requires g c =
    let pack = length c.args.rows.now in
    let flat = c.args.flat.now in
    let to = c.args.to.now in
    let s = select_of pack c.args.buffered flat c.args.pred.now to.capacity in
    let j = c.loop-j.j in
    let before = c.loop-j.invariant in
    let count = before.rows.count in
    let below = begun (results s) s.buffered j _ _ c.div_ceil-results.ensures c.div_ceil-j-end.ensures c.loop-j-test.true in
    let now = at g.R.Revisions.state c.loop-j.vault (g.S.BlockStore.state c.loop-j.store) in
    let asks = asks_after {m = blocks s} c.requires.asks before.went (omega (arith, spent flat.region to.region (blocks s) (results s) s.buffered j, rows_room j (passes s) (blocks s) below)) in
    let there : IsTable pack flat now = record {
      some = c.requires.table.some;
      most = c.requires.table.most;
      size = c.requires.table.size;
      written = flat_lasts pack flat (one to.region) _ _ before.went.lasts c.requires.new.apart c.requires.table.written;
    } in
    let fit = fit_same _ _ _ before.rows c.requires.fit in
    record {
      spare = record { ready = asks.ready; spare = rw count asks.spare };
      table = rw count there;
      fit = rw count fit;
      wide = wide_same _ _ _ before.kept c.requires.buffers.wide;
    }

pub returns-in_err-collect_blocks-clause-rows : goal.returns-in_err-collect_blocks-clause-rows
returns-in_err-collect_blocks-clause-rows g c = fit_trans _ _ _ c.loop-j.invariant.rows c.collect_blocks.ensures.rows

pub returns-in_err-collect_blocks-clause-kept : goal.returns-in_err-collect_blocks-clause-kept
returns-in_err-collect_blocks-clause-kept g c = fit_trans _ _ _ c.loop-j.invariant.kept c.collect_blocks.ensures.kept

pub returns-in_err-collect_blocks-clause-fills : goal.returns-in_err-collect_blocks-clause-fills
returns-in_err-collect_blocks-clause-fills g c =
    let p = err_from_is_err_and c.from_residual.result c.from_residual.ensures.1 in
    let pack = length c.args.rows.now in
    let flat = c.args.flat.now in
    let to = c.args.to.now in
    let s = select_of pack c.args.buffered flat c.args.pred.now to.capacity in
    let q = s.buffered in
    let j = c.loop-j.j in
    let before = c.loop-j.invariant in
    let below = begun (results s) q j _ _ c.div_ceil-results.ensures c.div_ceil-j-end.ensures c.loop-j-test.true in
    let read = rw before.rows.count at c.in_err-collect_blocks.ensures.collects in
    rw (p.1, p.2) (record {
      ran = record {
        ok = tt;
        err = pass_each (one to.region) (pass_script s to.region) _ _ _ _ (passes s) j below before.went
            (pass_more (one to.region) _ _ _ (count_part flat.region (blocks s)) (each (min q (results s - j * q)) (write_from to.region (j * q))) (pass_wider none _ _ (one to.region) (λ r x. absurd x) _ _ read.ran.err));
      };
      never = read.never;
      seals = seals_after before.went.lasts before.seals (seals_any read.seals.seals);
      filled = tt;
      rows = tt;
      told = λ honest slots is. read.told slots (represents_lasts pack flat (one to.region) _ _ before.went.lasts c.requires.new.apart slots is) honest.nolie;
    })

pub write_blocks-requires : goal.write_blocks-requires
write_blocks-requires g c =
    let pack = length c.args.rows.now in
    let flat = c.args.flat.now in
    let to = c.args.to.now in
    let s = select_of pack c.args.buffered flat c.args.pred.now to.capacity in
    let q = s.buffered in
    let j = c.loop-j.j in
    let n = c.min-n.result in
    let before = c.loop-j.invariant in
    let below = begun (results s) q j _ _ c.div_ceil-results.ensures c.div_ceil-j-end.ensures c.loop-j-test.true in
    let inside = pass_inside (results s) q j c.requires.buffers.some below in
    let n_is = taken (results s) q j _ _ c.div_ceil-results.ensures c.min-n.ensures in
    let schema = ap (λ (f : Flat). f.schema) c.requires.new.same in
    let read = rw before.rows.count at c.in_ok-collect_blocks.ensures.collects in
    let first : min (j * q) (results s) ≡ j * q = omega (arith, inside) in
    let asks = asks_after {m = n} (asks_after {m = blocks s + n} c.requires.asks before.went (omega (arith, spent flat.region to.region (blocks s) (results s) q j, rows_room j (passes s) (blocks s) below, inside, n_is))) read.ran.ok (omega (arith, reads flat.region (blocks s))) in
    record {
      asks = asks;
      size = sized_as schema c.requires.table.size c.requires.new.least c.requires.new.most;
      some = c.requires.table.some;
      most = c.requires.table.most;
      next = next_at pack to first (next_read pack to (min (j * q) (results s)) _ _ _ read.ran.ok read.turns before.next);
      within = omega (arith, inside, n_is);
      kept = record {
        many = omega (arith, c.requires.buffers.space, before.kept.count, c.collect_blocks.ensures.kept.count, product_within n q pack (omega (arith, c.min-n.ensures)));
        wide = subst (λ (x : Columns). Wide (width x) c.collect_blocks.new.kept) (sym schema) (wide_same _ _ _ (fit_trans _ _ _ before.kept c.collect_blocks.ensures.kept) c.requires.buffers.wide);
        spells = subst (λ (x : Columns). AreSlots x c.collect_blocks.new.kept) (sym schema) read.spells;
      };
    }

pub returns-in_err-write_blocks-clause-rows : goal.returns-in_err-write_blocks-clause-rows
returns-in_err-write_blocks-clause-rows g c = fit_trans _ _ _ c.loop-j.invariant.rows c.collect_blocks.ensures.rows

pub returns-in_err-write_blocks-clause-kept : goal.returns-in_err-write_blocks-clause-kept
returns-in_err-write_blocks-clause-kept g c = fit_trans _ _ _ c.loop-j.invariant.kept c.collect_blocks.ensures.kept

pub returns-in_err-write_blocks-clause-fills : goal.returns-in_err-write_blocks-clause-fills
returns-in_err-write_blocks-clause-fills g c =
    let p = err_from_is_err_and c.from_residual-in_err-write_blocks.result c.from_residual-in_err-write_blocks.ensures.1 in
    let pack = length c.args.rows.now in
    let flat = c.args.flat.now in
    let to = c.args.to.now in
    let s = select_of pack c.args.buffered flat c.args.pred.now to.capacity in
    let q = s.buffered in
    let j = c.loop-j.j in
    let before = c.loop-j.invariant in
    let below = begun (results s) q j _ _ c.div_ceil-results.ensures c.div_ceil-j-end.ensures c.loop-j-test.true in
    let n_is = taken (results s) q j _ _ c.div_ceil-results.ensures c.min-n.ensures in
    let schema = ap (λ (f : Flat). f.schema) c.requires.new.same in
    let read = rw before.rows.count at c.in_ok-collect_blocks.ensures.collects in
    let writes = rw n_is at c.in_err-write_blocks.ensures.writes in
    let sealed = rw schema at writes.seals in
    rw (p.1, p.2) (record {
      ran = record {
        ok = tt;
        err = pass_each (one to.region) (pass_script s to.region) _ _ _ _ (passes s) j below before.went
            (pass_after (one to.region) _ _ _ _ (count_part flat.region (blocks s)) (each (min q (results s - j * q)) (write_from to.region (j * q))) (went_wider none _ _ (one to.region) (λ r x. absurd x) _ read.ran.ok) writes.ran.err);
      };
      never = inl writes.never;
      seals = seals_after before.went.lasts before.seals (seals_after read.ran.ok.lasts (seals_any read.seals.seals) sealed);
      filled = tt;
      rows = tt;
      told = λ honest slots is. writes.never;
    })

pub loop-j-preserved : goal.loop-j-preserved
loop-j-preserved g c =
    let pack = length c.args.rows.now in
    let flat = c.args.flat.now in
    let to = c.args.to.now in
    let s = select_of pack c.args.buffered flat c.args.pred.now to.capacity in
    let q = s.buffered in
    let j = c.loop-j.j in
    let before = c.loop-j.invariant in
    let below = begun (results s) q j _ _ c.div_ceil-results.ensures c.div_ceil-j-end.ensures c.loop-j-test.true in
    let inside = pass_inside (results s) q j c.requires.buffers.some below in
    let n_is = taken (results s) q j _ _ c.div_ceil-results.ensures c.min-n.ensures in
    let schema = ap (λ (f : Flat). f.schema) c.requires.new.same in
    let read = rw before.rows.count at c.in_ok-collect_blocks.ensures.collects in
    let writes = rw n_is at c.in_ok-write_blocks.ensures.writes in
    let sealed = rw schema at writes.seals in
    let went = read.ran.ok in
    let first : min (j * q) (results s) ≡ j * q = omega (arith, inside) in
    let next : j * q + min q (results s - j * q) ≡ min ((j + 1) * q) (results s) = omega (arith, inside, pass_next j q) in
    let filled = filled_at s to first (filled_lasts s to _ none _ _ went.lasts (λ r. r) (λ r. r) before.filled) in
    record {
      went = went_each (one to.region) (pass_script s to.region) _ _ _ j before.went
          (went_join (one to.region) _ _ _ (count_part flat.region (blocks s)) (each (min q (results s - j * q)) (write_from to.region (j * q))) (went_wider none _ _ (one to.region) (λ r x. absurd x) _ went) writes.ran.ok);
      seals = seals_after before.went.lasts before.seals (seals_after went.lasts (seals_any read.seals.seals) sealed);
      rows = fit_trans _ _ _ before.rows c.collect_blocks.ensures.rows;
      kept = fit_trans _ _ _ before.kept c.collect_blocks.ensures.kept;
      next = next_at pack to next writes.next;
      filled = filled_at s to next (filled_more s to (j * q) (min q (results s - j * q)) _ _ writes.ran.ok.lasts c.requires.new.apart writes.written writes.rows (λ honest slots held.
          let was = represents_before pack flat none _ _ went.lasts (λ r. r) slots held in
          let keeps = subst (λ (z : Columns). AreKept z (chosen s.p slots) (j * q * pack) to.capacity c.collect_blocks.new.kept) (sym schema) (read.told slots was honest.nolie) in
          writes.told honest.tells (chosen s.p slots) keeps) filled);
    }

pub loop-j-smaller : goal.loop-j-smaller
loop-j-smaller g c = nearer c.loop-j.j c.div_ceil-j-end.result c.loop-j-test.true

pub returns-clause-rows : goal.returns-clause-rows
returns-clause-rows g c = c.loop-j.invariant.rows

pub returns-clause-kept : goal.returns-clause-kept
returns-clause-kept g c = c.loop-j.invariant.kept

pub returns-clause-fills : goal.returns-clause-fills
returns-clause-fills g c =
    let pack = length c.args.rows.now in
    let flat = c.args.flat.now in
    let to = c.args.to.now in
    let s = select_of pack c.args.buffered flat c.args.pred.now to.capacity in
    let q = s.buffered in
    let j = c.loop-j.j in
    let done = c.loop-j.invariant in
    let new = at g.R.Revisions.state c.loop-j.vault (g.S.BlockStore.state c.loop-j.store) in
    let same = c.requires.new.same in
    let last = whole (results s) q j _ _ c.div_ceil-results.ensures c.div_ceil-j-end.ensures c.loop-j-test.false c.loop-j.auto.j-end in
    let all = all_done (results s) q j c.requires.buffers.some last in
    record {
      ran = record { ok = went_all (pass_script s to.region) last done.went; err = tt };
      never = tt;
      seals = done.seals;
      filled = subst (λ (f : Flat). IsFlat pack f new) same (next_last pack to (min (j * q) (results s)) _ all done.next done.filled.written);
      rows = λ tells. filled_rows s to _ _ all same done.filled (tells_went _ _ _ _ done.went tells);
      told = λ honest slots is.
          filled_whole s to _ _ all same done.filled (record { tells = tells_went _ _ _ _ done.went honest.tells; nolie = honest.nolie }) slots
          (represents_lasts pack flat (one to.region) _ _ done.went.lasts c.requires.new.apart slots is);
    }
