use Rattle.std.proofs.Common.{◌≡◌, ◌≤◌, ◌+◌, ◌*◌, ◌-◌, ◌<◌, ℕ, Option, inl, inr, None, length, take, drop, slice_index_or, sym, ◌∙◌, ap, subst, arith}
use Rattle.std.proofs.lemmas.Result.{err_from_is_err_and}
use Rattle.ob_base.specs.Numbers.{blocks_for}
use Rattle.ob_base.specs.Schemas.{width}
use Rattle.ob_script.specs.Parts.{read_from}
use Rattle.ob_vault.specs.Calls.{none}
use Rattle.ob_vault.specs.Places.{RowsFit}
use Rattle.ob_vault.proofs.RowsLemmas.{rows_room}
use Rattle.ob_vault.proofs.Runs.{went_none, seals_none, went_each, lives_went, written_went, none_went, fit_trans, may_get, seals_join}
use Rattle.ob_row.specs.Rows.{Row}
use Rattle.ob_row.specs.Spelling.{Begins}
use Rattle.ob_flat.specs.Flats.{table_region, whole_blocks}
use Rattle.ob_flat.specs.Passes.{pass_error}
use Rattle.ob_flat.specs.Words.{blocks_of}
use Rattle.ob_flat.proofs.Rooms.{same_rows}
use Rattle.ob_flat.proofs.Rows.{slots_of, wide_same}
use Rattle.ob_flat.proofs.Runs.{pass_of, pass_each, pass_malformed}
use Rattle.ob_flat.proofs.WordLemmas.{tampered_in, get_refused, rows_malformed}
use Rattle.ob_flat.proofs.Tables.{represents_lasts, block_long, got, whole_size}
use Rattle.ob_join.proofs.Windows.{row_fits, row_small, rows_small, bytes_small, place_fits, part_within, none_below, nearer, all_done, reads_from, within, part_long, part_wide, part_fit, put_more, put_sizes, read_next, spelt_from}
use Rattle.ob_join.proofs.collecting.collect_chunk.Goals as goal

pub loop-x-init : goal.loop-x-init
loop-x-init g c = record {
  went = went_none none _ c.requires.spare.ready;
  seals = λ good. seals_none good _;
  kept = same_rows c.args.kept.now;
  turns = λ q y shape turn. turn;
  spells = λ j less. absurd (none_below j c.args.pack less);
  told = λ slots is nolie j less. absurd (none_below j c.args.pack less);
}

pub overflow_mul-row : goal.overflow_mul-row
overflow_mul-row g c = row_fits c.args.pack c.args.flat.now.capacity c.args.first c.args.n c.loop-x.x c.requires.table.some c.requires.table.most c.requires.table.size.most c.requires.within c.loop-x-test.true

pub overflow_cast-row : goal.overflow_cast-row
overflow_cast-row g c = row_small c.args.pack c.args.flat.now.capacity c.args.first c.args.n c.loop-x.x c.requires.table.some c.requires.table.most c.requires.table.size.most c.requires.within c.loop-x-test.true

pub overflow_add-rows : goal.overflow_add-rows
overflow_add-rows g c = rows_small c.args.pack c.args.flat.now.capacity c.args.first c.args.n c.loop-x.x c.requires.table.some c.requires.table.most c.requires.table.size.most c.requires.within c.loop-x-test.true

pub offset_bounds-kept-row : goal.offset_bounds-kept-row
offset_bounds-kept-row g c = bytes_small c.args.pack c.args.flat.now.capacity c.args.first c.args.n c.loop-x.x c.requires.table.some c.requires.table.most c.requires.table.size.most c.requires.within c.loop-x-test.true

pub slice_bounds-rows-count : goal.slice_bounds-rows-count
slice_bounds-rows-count g c = part_within (c.loop-x.x * c.args.pack) c.args.pack

pub overflow_add-first : goal.overflow_add-first
overflow_add-first g c = place_fits c.args.pack c.args.flat.now.capacity c.args.first c.args.n c.loop-x.x c.requires.table.some c.requires.table.most c.requires.table.size.most c.requires.within c.loop-x-test.true

pub overflow_add-result : goal.overflow_add-result
overflow_add-result g c = place_fits c.args.pack c.args.flat.now.capacity c.args.first c.args.n c.loop-x.x c.requires.table.some c.requires.table.most c.requires.table.size.most c.requires.within c.loop-x-test.true

pub get-requires-clause-ready : goal.get-requires-clause-ready
get-requires-clause-ready g c = c.loop-x.invariant.went.lasts.ready

pub get-requires-clause-spare : goal.get-requires-clause-spare
get-requires-clause-spare g c = omega (arith, c.requires.spare.spare, c.loop-x.invariant.went.spare, reads_from c.args.flat.now.region c.args.first c.loop-x.x)

pub get-requires-clause-place : goal.get-requires-clause-place
get-requires-clause-place g c =
    let pack = c.args.pack in
    let x = c.loop-x.x in
    let u = c.args.first + x in
    let flat = c.args.flat.now in
    let kept = c.loop-x.kept in
    let went = c.loop-x.invariant.went in
    let below : u < blocks_for pack flat.capacity = omega (arith, c.requires.within) in
    let fits : x * pack + pack ≤ length kept = omega (arith, c.loop-x.invariant.kept.count, c.requires.space, rows_room x c.args.n pack (omega arith)) in
    let fit = part_fit (x * pack) pack kept fits (width flat.schema) c.requires.table.some (wide_same _ _ _ c.loop-x.invariant.kept c.requires.wide) in
    let fit' = subst (λ (m : ℕ). RowsFit (take m (drop (x * pack) kept)) (pack * width flat.schema)) (sym (within (x * pack) pack)) fit in
    may_get _ u (table_region c.requires.table.written.made.order pack flat.schema flat.capacity) _ _ (lives_went _ _ _ _ _ _ went (λ s. s) c.requires.table.written.made.lives) below
    fit' (written_went _ _ _ _ _ u went (λ s. s) (c.requires.table.written.written u below))

pub check_rows-requires : goal.check_rows-requires
check_rows-requires g c =
    let pack = c.args.pack in
    let x = c.loop-x.x in
    let kept = c.loop-x.kept in
    let w = width c.args.flat.now.schema in
    let fits : x * pack + pack ≤ length kept = omega (arith, c.loop-x.invariant.kept.count, c.requires.space, rows_room x c.args.n pack (omega arith)) in
    let same = rw (within (x * pack) pack) at c.get.ensures.rows in
    record { wide = wide_same w _ _ same (part_wide (x * pack) pack kept fits w (wide_same _ _ _ c.loop-x.invariant.kept c.requires.wide)) }

pub returns-in_err-get-clause-kept : goal.returns-in_err-get-clause-kept
returns-in_err-get-clause-kept g c =
    let pack = c.args.pack in
    let x = c.loop-x.x in
    let kept = c.loop-x.kept in
    let fits : x * pack + pack ≤ length kept = omega (arith, c.loop-x.invariant.kept.count, c.requires.space, rows_room x c.args.n pack (omega arith)) in
    let same = rw (within (x * pack) pack) at c.get.ensures.rows in
    fit_trans _ _ _ c.loop-x.invariant.kept (rw (within (x * pack) pack) (put_sizes (x * pack) pack kept fits c.get.new.rows (same.count ∙ part_long (x * pack) pack kept fits) same))

pub returns-in-Err-clause-kept : goal.returns-in-Err-clause-kept
returns-in-Err-clause-kept g c =
    let pack = c.args.pack in
    let x = c.loop-x.x in
    let kept = c.loop-x.kept in
    let fits : x * pack + pack ≤ length kept = omega (arith, c.loop-x.invariant.kept.count, c.requires.space, rows_room x c.args.n pack (omega arith)) in
    let same = rw (within (x * pack) pack) at c.get.ensures.rows in
    fit_trans _ _ _ c.loop-x.invariant.kept (rw (within (x * pack) pack) (put_sizes (x * pack) pack kept fits c.get.new.rows (same.count ∙ part_long (x * pack) pack kept fits) same))

pub loop-x-smaller : goal.loop-x-smaller
loop-x-smaller g c = nearer c.loop-x-test.true

pub loop-x-preserved : goal.loop-x-preserved
loop-x-preserved g c =
    let pack = c.args.pack in
    let x = c.loop-x.x in
    let kept = c.loop-x.kept in
    let flat = c.args.flat.now in
    let w = width flat.schema in
    let first = c.args.first in
    let u = first + x in
    let below : u < blocks_for pack flat.capacity = omega (arith, c.requires.within) in
    let before = c.loop-x.invariant in
    let went = before.went in
    let fits : x * pack + pack ≤ length kept = omega (arith, before.kept.count, c.requires.space, rows_room x c.args.n pack (omega arith)) in
    let same = rw (within (x * pack) pack) at c.get.ensures.rows in
    let size = same.count ∙ part_long (x * pack) pack kept fits in
    let next : (x + 1) * pack ≡ x * pack + pack = grind arith in
    let read = c.in-Ok.ensures.read in
    let wide' = wide_same w _ _ same (part_wide (x * pack) pack kept fits w (wide_same _ _ _ before.kept c.requires.wide)) in
    record {
      went = went_each none (read_from flat.region first) _ _ _ x went c.in_ok-get.ensures.gets.ok;
      seals = λ good. seals_join good _ _ _ went.lasts.later (before.seals good) (c.get.ensures.gets.seals good);
      kept = fit_trans _ _ _ before.kept (rw (within (x * pack) pack) (put_sizes (x * pack) pack kept fits c.get.new.rows size same));
      turns = λ q y shape turn. c.get.ensures.gets.turns q y shape (before.turns q y shape turn);
      spells = λ j less. rw (within (x * pack) pack) (put_more (x * pack) pack kept fits c.get.new.rows size (λ i row. (slot : Option Row) × Begins flat.schema slot row)
          before.spells (λ z inside. (slice_index_or read.slots z None, read.spelt.each z (omega (arith, inside, size)))) j (omega (arith, next, less)));
      told = λ slots is nolie j less.
          let now = represents_lasts pack flat none _ _ went.lasts (λ s. s) slots is in
          let shape = table_region c.requires.table.written.made.order pack flat.schema flat.capacity in
          let bytes = c.in_ok-get.ensures.gets.told _ shape (lives_went _ _ _ _ _ _ went (λ s. s) c.requires.table.written.made.lives) (block_long pack flat slots _ is c.requires.table.some u below) (now.holds u below) nolie in
          let long : length (take (x * pack + pack - x * pack) (drop (x * pack) kept)) ≡ pack = rw (within (x * pack) pack) (part_long (x * pack) pack kept fits) in
          let spelt = got pack flat slots _ is c.requires.table.some u (length (take (x * pack + pack - x * pack) (drop (x * pack) kept))) c.get.new.rows below long size wide' bytes in
          let whole = whole_blocks pack flat.capacity slots in
          rw (within (x * pack) pack) (put_more (x * pack) pack kept fits c.get.new.rows size (λ i row. Begins flat.schema (slice_index_or whole (first * pack + i) None) row)
          (before.told slots is (none_went _ _ _ _ c.in_ok-get.ensures.gets.ok nolie)) (read_next flat.schema pack first x whole c.get.new.rows size spelt) j (omega (arith, next, less)));
    }

pub returns-clause-kept : goal.returns-clause-kept
returns-clause-kept g c = c.loop-x.invariant.kept

pub returns-in_err-get-clause-collects : goal.returns-in_err-get-clause-collects
returns-in_err-get-clause-collects g c =
    let p = err_from_is_err_and c.from_residual.result c.from_residual.ensures.1 in
    let pack = c.args.pack in
    let flat = c.args.flat.now in
    let u = c.args.first + c.loop-x.x in
    let below : u < blocks_of pack flat = omega (arith, c.requires.within) in
    let before = c.loop-x.invariant in
    rw (p.1, p.2) (record {
      ran = record { ok = tt; err = pass_each none (read_from flat.region c.args.first) _ _ _ _ c.args.n c.loop-x.x (omega arith) before.went (pass_of _ _ _ _ _ c.in_err-get.ensures.gets.err) };
      never = elim (get_refused pack flat u _ c.in_err-get.ensures.gets.err c.in_err-get.ensures.gets.never) [ inl failed ↦ inl failed | inr there ↦ inr (tampered_in below there) ];
      seals = record { seals = λ good. seals_join good _ _ _ before.went.lasts.later (before.seals good) (c.get.ensures.gets.seals good) };
      turns = tt;
      spells = tt;
      told = λ slots is nolie.
          let now = represents_lasts pack flat none _ _ before.went.lasts (λ s. s) slots is in
          let shape = table_region c.requires.table.written.made.order pack flat.schema flat.capacity in
          ap pass_error (c.in_err-get.ensures.gets.told _ shape (lives_went _ _ _ _ _ _ before.went (λ s. s) c.requires.table.written.made.lives) (block_long pack flat slots _ is c.requires.table.some u below) (now.holds u below) nolie);
    })

pub returns-in-Err-clause-collects : goal.returns-in-Err-clause-collects
returns-in-Err-clause-collects g c =
    let pack = c.args.pack in
    let flat = c.args.flat.now in
    let x = c.loop-x.x in
    let u = c.args.first + x in
    let below : u < blocks_of pack flat = omega (arith, c.requires.within) in
    let before = c.loop-x.invariant in
    let went = before.went in
    let kept = c.loop-x.kept in
    let w = width flat.schema in
    let shape = table_region c.requires.table.written.made.order pack flat.schema flat.capacity in
    let lives = lives_went _ _ _ _ flat.region shape went (λ s. s) c.requires.table.written.made.lives in
    let fits : x * pack + pack ≤ length kept = omega (arith, c.loop-x.invariant.kept.count, c.requires.space, rows_room x c.args.n pack (omega arith)) in
    let long : length (take (x * pack + pack - x * pack) (drop (x * pack) kept)) ≡ pack = rw (within (x * pack) pack) (part_long (x * pack) pack kept fits) in
    let wide = c.get.ensures.rows in
    let same = rw (within (x * pack) pack) at c.get.ensures.rows in
    let wide' = wide_same w _ _ same (part_wide (x * pack) pack kept fits w (wide_same _ _ _ c.loop-x.invariant.kept c.requires.wide)) in
    record {
      ran = record { ok = tt; err = pass_each none (read_from flat.region c.args.first) _ _ _ _ c.args.n x (omega arith) went (pass_malformed _ _ _ flat.region u c.in_ok-get.ensures.gets.ok) };
      never = inr (tampered_in below (rows_malformed (length (take (x * pack + pack - x * pack) (drop (x * pack) kept))) c.get.new.rows c.requires.table.some long (wide.count ∙ long) wide'
          (c.in_ok-get.ensures.gets.opened shape lives) c.in-Err.ensures.told));
      seals = record { seals = λ good. seals_join good _ _ _ went.lasts.later (before.seals good) (c.get.ensures.gets.seals good) };
      turns = tt;
      spells = tt;
      told = λ slots is nolie.
          let now = represents_lasts pack flat none _ _ went.lasts (λ s. s) slots is in
          let bytes = c.in_ok-get.ensures.gets.told _ shape lives (block_long pack flat slots _ is c.requires.table.some u below) (now.holds u below) nolie in
          absurd (c.in-Err.ensures.told _ (got pack flat slots _ is c.requires.table.some u (length (take (x * pack + pack - x * pack) (drop (x * pack) kept))) c.get.new.rows below long (wide.count ∙ long) wide' bytes));
    }

pub returns-clause-collects : goal.returns-clause-collects
returns-clause-collects g c =
    let pack = c.args.pack in
    let flat = c.args.flat.now in
    let all = c.loop-x.invariant in
    let last : c.loop-x.x ≡ c.args.n = omega arith in
    record {
      ran = record { ok = rw (all_done c.loop-x.auto.x-end c.loop-x-test.false) at all.went; err = tt };
      never = tt;
      seals = record { seals = all.seals };
      turns = record { stay = all.turns };
      spells = slots_of flat.schema c.loop-x.kept (λ j below. all.spells j (omega (arith, below, all.kept.count, c.requires.space, ap (λ (n : ℕ). n * pack) last)));
      told = λ slots is nolie.
          spelt_from flat.schema pack flat.capacity c.args.first c.args.n slots c.loop-x.kept (whole_size pack flat slots _ is c.requires.table.some) c.requires.within (c.loop-x.invariant.kept.count ∙ c.requires.space)
          (λ j below. c.loop-x.invariant.told slots is nolie j (omega (arith, below, ap (λ (n : ℕ). n * pack) last)));
    }
