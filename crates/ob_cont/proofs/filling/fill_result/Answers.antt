use Rattle.std.proofs.Common.{◌≡◌, ◌≤◌, ◌<◌, ◌+◌, ◌-◌, ◌*◌, min, ℕ, inl, inr, length, take, sym, ◌∙◌, ap, subst, arith}
use Rattle.std.proofs.lemmas.List.{take_all}
use Rattle.std.proofs.lemmas.Result.{err_from_is_err_and}
use Rattle.ob_base.specs.Accesses.{read_at}
use Rattle.ob_base.specs.Schemas.{Columns, width}
use Rattle.ob_script.specs.Parts.{slots_in, continuous_block}
use Rattle.ob_vault.specs.Calls.{none, one}
use Rattle.ob_vault.specs.Places.{at}
use Rattle.ob_vault.proofs.Runs.{went_none, went_each, went_join, went_wider, lives_went, written_went, tells_went, fit_same, fit_trans, may_get, seals_none}
use Rattle.ob_vault.proofs.WordLemmas.{asks_after, honest_before, honest_after}
use Rattle.ob_row.specs.Slots.{Slots}
use Rattle.ob_row.specs.Truth.{is_true}
use Rattle.ob_blocks.specs.Blocks.{block_at, scanned}
use Rattle.ob_flat.specs.Flats.{IsInTurn, HoldsSlots, table_region, whole_blocks}
use Rattle.ob_flat.specs.Passes.{pass_error}
use Rattle.ob_flat.specs.Words.{FitBlock, blocks_of}
use Rattle.ob_flat.proofs.Rooms.{same_rows}
use Rattle.ob_flat.proofs.Rows.{wide_fit, wide_same}
use Rattle.ob_flat.proofs.Runs.{pass_of, pass_each, pass_more, pass_after, pass_wider, pass_malformed}
use Rattle.ob_flat.proofs.Tables.{blocks_hold, represents_lasts, slots_lasts, rows_lasts, block_long, got}
use Rattle.ob_flat.proofs.WordLemmas.{seals_any, seals_after, tampered_in, get_refused, rows_malformed}
use Rattle.ob_cont.specs.Putting.{order_for, put_at, place_of}
use Rattle.ob_cont.specs.Selecting.{IsDue, IsBlock, block_script}
use Rattle.ob_cont.proofs.Counting.{block_inside, slots_next, block_left}
use Rattle.ob_cont.proofs.Due.{due_read, due_first}
use Rattle.ob_cont.proofs.Puts.{put_block_more}
use Rattle.ob_cont.proofs.filling.fill_result.Goals as goal

-- one block less is left
nearer : {u n : ℕ} → u < n → n - (u + 1) < n - u
nearer less = omega arith

all_done : {u n : ℕ} → u ≤ n → n ≤ u → u ≡ n
all_done less more = omega arith

pub loop-u-init : goal.loop-u-init
loop-u-init g c =
    let pack = length c.args.held.now in
    let to = c.args.to.now in
    let n = c.args.flat.now.capacity in
    record {
      went = went_none _ _ c.requires.asks.ready;
      seals = seals_any (λ good. seals_none good _);
      same = same_rows c.args.rows.now;
      held = same_rows c.args.held.now;
      turn = due_first pack n to _ c.requires.target.size.least c.requires.target.turn;
      rows = λ tells rows. rows;
      told = λ honest slots made is holds.
          subst (λ (m : ℕ). HoldsSlots pack to (scanned (put_at to.capacity (is_true c.args.pred.now)) 0 made (take m slots)) (at g.R.Revisions.state c.args.vault.now (g.S.BlockStore.state c.args.store.now))) (nothing pack) holds;
    }
  where
    nothing : (pack : ℕ) → 0 ≡ 0 * pack
    nothing pack = omega arith

pub get-requires : goal.get-requires
get-requires g c =
    let pack = length c.args.held.now in
    let flat = c.args.flat.now in
    let to = c.args.to.now in
    let u = c.loop-u.u in
    let table = c.requires.table in
    let apart = c.requires.target.apart in
    let before = c.loop-u.invariant in
    let shape = table_region table.written.made.order pack flat.schema flat.capacity in
    let below : u < blocks_of pack flat = omega (arith, c.div_ceil-u-end.ensures) in
    let asks = asks_after {m = 1 + 2 * slots_in pack flat.capacity u} c.requires.asks before.went (block_left flat.region to.region pack flat.capacity to.capacity u table.some below) in
    record {
      ready = asks.ready;
      spare = omega (arith, asks.spare);
      place = may_get _ u shape _ _ (lives_went _ _ _ _ _ _ before.went apart table.written.made.lives) below
          (fit_same _ _ _ before.same (rw c.requires.buffers.count at c.requires.buffers.rows_fit)) (written_went _ _ _ _ _ u before.went apart (table.written.written u below));
    }

pub check_rows-requires : goal.check_rows-requires
check_rows-requires g c = record { wide = wide_same _ _ _ (fit_trans _ _ _ c.loop-u.invariant.same c.get.ensures.rows) (wide_fit (width c.args.flat.now.schema) c.args.rows.now c.requires.buffers.rows_fit) }

pub returns-in_err-get-clause-rows : goal.returns-in_err-get-clause-rows
returns-in_err-get-clause-rows g c = fit_trans _ _ _ c.loop-u.invariant.same c.get.ensures.rows

pub returns-in_err-get-clause-held : goal.returns-in_err-get-clause-held
returns-in_err-get-clause-held g c = c.loop-u.invariant.held

pub returns-in_err-get-clause-fills : goal.returns-in_err-get-clause-fills
returns-in_err-get-clause-fills g c =
    let p = err_from_is_err_and c.from_residual.result c.from_residual.ensures.1 in
    let pack = length c.args.held.now in
    let flat = c.args.flat.now in
    let q = flat.region in
    let to = c.args.to.now in
    let u = c.loop-u.u in
    let table = c.requires.table in
    let apart = c.requires.target.apart in
    let below : u < blocks_of pack flat = omega (arith, c.div_ceil-u-end.ensures) in
    let before = c.loop-u.invariant in
    let read = c.in_err-get.ensures.gets in
    let cut = pass_wider none _ _ (one to.region) (λ q s. absurd s) _ _ (pass_of _ _ _ _ _ read.err) in
    let shape = table_region table.written.made.order pack flat.schema flat.capacity in
    rw (p.1, p.2) (record {
      ran = record { ok = tt; err = pass_each (one to.region) (continuous_block q to.region pack flat.capacity to.capacity) _ _ _ _ (blocks_of pack flat) u below before.went (pass_more _ _ _ _ (read_at q u) (block_script pack flat to u) cut) };
      never = elim (get_refused pack flat u _ read.err read.never) [ inl failed ↦ inl failed | inr there ↦ inr (inl (tampered_in below there)) ];
      seals = seals_after before.went.lasts before.seals (seals_any read.seals);
      written = tt;
      rows = tt;
      told = λ honest slots made is holds.
          let now = represents_lasts pack flat (one to.region) _ _ before.went.lasts apart slots is in
          ap pass_error (read.told _ shape (lives_went _ _ _ _ _ _ before.went apart table.written.made.lives) (block_long pack flat slots _ is table.some u below) (now.holds u below) honest.nolie);
    })

pub returns-in-Err-clause-rows : goal.returns-in-Err-clause-rows
returns-in-Err-clause-rows g c = fit_trans _ _ _ c.loop-u.invariant.same c.get.ensures.rows

pub returns-in-Err-clause-held : goal.returns-in-Err-clause-held
returns-in-Err-clause-held g c = c.loop-u.invariant.held

-- a malformed row refuses the block that was read last
pub returns-in-Err-clause-fills : goal.returns-in-Err-clause-fills
returns-in-Err-clause-fills g c =
    let pack = length c.args.held.now in
    let flat = c.args.flat.now in
    let q = flat.region in
    let to = c.args.to.now in
    let u = c.loop-u.u in
    let table = c.requires.table in
    let apart = c.requires.target.apart in
    let below : u < blocks_of pack flat = omega (arith, c.div_ceil-u-end.ensures) in
    let before = c.loop-u.invariant in
    let read = c.in_ok-get.ensures.gets in
    let cut = pass_wider none _ _ (one to.region) (λ q s. absurd s) _ _ (pass_malformed _ _ _ q u read.ok) in
    let shape = table_region table.written.made.order pack flat.schema flat.capacity in
    let lives = lives_went _ _ _ _ _ _ before.went apart table.written.made.lives in
    let same = fit_trans _ _ _ before.same c.get.ensures.rows in
    let count = before.same.count ∙ c.requires.buffers.count in
    let wide = wide_same (width flat.schema) _ _ same (wide_fit (width flat.schema) c.args.rows.now c.requires.buffers.rows_fit) in
    record {
      ran = record { ok = tt; err = pass_each (one to.region) (continuous_block q to.region pack flat.capacity to.capacity) _ _ _ _ (blocks_of pack flat) u below before.went (pass_more _ _ _ _ (read_at q u) (block_script pack flat to u) cut) };
      never = inr (inl (tampered_in below (rows_malformed (length c.loop-u.rows) c.get.new.rows table.some count (same.count ∙ c.requires.buffers.count) wide (read.opened shape lives) c.in-Err.ensures.told)));
      seals = seals_after before.went.lasts before.seals (seals_any read.seals);
      written = tt;
      rows = tt;
      told = λ honest slots made is holds.
          let now = represents_lasts pack flat (one to.region) _ _ before.went.lasts apart slots is in
          let bytes = read.told _ shape lives (block_long pack flat slots _ is table.some u below) (now.holds u below) honest.nolie in
          absurd (c.in-Err.ensures.told _ (got pack flat slots _ is table.some u (length c.loop-u.rows) c.get.new.rows below count (same.count ∙ c.requires.buffers.count) wide bytes));
    }

pub put_block-requires : goal.put_block-requires
put_block-requires g c =
    let pack = length c.args.held.now in
    let flat = c.args.flat.now in
    let to = c.args.to.now in
    let u = c.loop-u.u in
    let table = c.requires.table in
    let buffers = c.requires.buffers in
    let target = c.requires.target in
    let below : u < blocks_of pack flat = omega (arith, c.div_ceil-u-end.ensures) in
    let before = c.loop-u.invariant in
    let read = c.in_ok-get.ensures.gets.ok in
    let same = fit_trans _ _ _ before.same c.get.ensures.rows in
    let mid = at g.R.Revisions.state c.get.new.self (g.S.BlockStore.state c.get.new.store) in
    let left = asks_after {m = 1 + 2 * slots_in pack flat.capacity u} c.requires.asks before.went (block_left flat.region to.region pack flat.capacity to.capacity u table.some below) in
    let asks = asks_after {m = 2 * slots_in pack flat.capacity u} left read (omega arith) in
    let here : min (u * pack) flat.capacity ≡ u * pack = omega (arith, block_inside pack flat.capacity u table.some below) in
    let turn = due_read (order_for pack) pack (place_of pack to.capacity (min (u * pack) flat.capacity)) to _ _ _ read c.get.ensures.gets.turns before.turn in
    let due : IsDue pack to (u * pack) mid = record { some = table.some; most = table.most; size = target.size; turn = subst (λ (i : ℕ). IsInTurn (order_for pack) pack to (place_of pack to.capacity i) mid) here turn } in
    let block : IsBlock pack flat u c.get.new.rows = record {
      size = table.size;
      within = below;
      count = same.count ∙ buffers.count;
      wide = wide_same (width flat.schema) _ _ same (wide_fit (width flat.schema) c.args.rows.now buffers.rows_fit);
      spells = c.in-Ok.ensures.read;
    } in
    let fit : FitBlock flat.schema c.loop-u.held = rw before.held.count (fit_same _ _ _ before.held buffers.held_fit) in
    record {
      asks = rw before.held.count asks;
      due = subst (λ (n : ℕ). IsDue n to (u * n) mid) (sym before.held.count) due;
      schema = target.schema;
      block = subst (λ (n : ℕ). IsBlock n flat u c.get.new.rows) (sym before.held.count) block;
      fit = subst (λ (s : Columns). FitBlock s c.loop-u.held) (sym target.schema) fit;
    }

pub returns-in_err-put_block-clause-rows : goal.returns-in_err-put_block-clause-rows
returns-in_err-put_block-clause-rows g c = fit_trans _ _ _ c.loop-u.invariant.same c.get.ensures.rows

pub returns-in_err-put_block-clause-held : goal.returns-in_err-put_block-clause-held
returns-in_err-put_block-clause-held g c = fit_trans _ _ _ c.loop-u.invariant.held c.put_block.ensures.held

pub returns-in_err-put_block-clause-fills : goal.returns-in_err-put_block-clause-fills
returns-in_err-put_block-clause-fills g c =
    let p = err_from_is_err_and c.from_residual-in_err-put_block.result c.from_residual-in_err-put_block.ensures.1 in
    let pack = length c.args.held.now in
    let flat = c.args.flat.now in
    let q = flat.region in
    let to = c.args.to.now in
    let u = c.loop-u.u in
    let table = c.requires.table in
    let apart = c.requires.target.apart in
    let below : u < blocks_of pack flat = omega (arith, c.div_ceil-u-end.ensures) in
    let before = c.loop-u.invariant in
    let read = c.in_ok-get.ensures.gets.ok in
    let puts = rw before.held.count at c.in_err-put_block.ensures.puts in
    let cut = pass_after (one to.region) _ _ _ _ (read_at q u) (block_script pack flat to u) (went_wider none _ _ (one to.region) (λ q s. absurd s) _ read) puts.ran.err in
    let shape = table_region table.written.made.order pack flat.schema flat.capacity in
    rw (p.1, p.2) (record {
      ran = record { ok = tt; err = pass_each (one to.region) (continuous_block q to.region pack flat.capacity to.capacity) _ _ _ _ (blocks_of pack flat) u below before.went cut };
      never = elim puts.never [ inl failed ↦ inl failed | inr there ↦ inr (inr there) ];
      seals = seals_after before.went.lasts before.seals (seals_after read.lasts (seals_any c.get.ensures.gets.seals) puts.seals);
      written = tt;
      rows = tt;
      told = λ honest slots made is holds.
          let gone = honest_before puts.ran.err.lasts honest in
          let now = represents_lasts pack flat (one to.region) _ _ before.went.lasts apart slots is in
          let bytes = c.in_ok-get.ensures.gets.told _ shape (lives_went _ _ _ _ _ _ before.went apart table.written.made.lives) (block_long pack flat slots _ is table.some u below) (now.holds u below) gone.nolie in
          let same = fit_trans _ _ _ before.same c.get.ensures.rows in
          let wide = wide_same (width flat.schema) _ _ same (wide_fit (width flat.schema) c.args.rows.now c.requires.buffers.rows_fit) in
          let spelt = got pack flat slots _ is table.some u (length c.loop-u.rows) c.get.new.rows below (before.same.count ∙ c.requires.buffers.count) (same.count ∙ c.requires.buffers.count) wide bytes in
          let was = slots_lasts pack to none _ _ read.lasts (λ s. s) _ (before.told (honest_before read.lasts gone) slots made is holds) in
          puts.told (honest_after read (honest_after before.went honest)) (block_at pack (whole_blocks pack flat.capacity slots) u) _ spelt was;
    })

pub loop-u-smaller : goal.loop-u-smaller
loop-u-smaller g c = nearer c.loop-u-test.true

pub loop-u-preserved : goal.loop-u-preserved
loop-u-preserved g c =
    let pack = length c.args.held.now in
    let flat = c.args.flat.now in
    let q = flat.region in
    let to = c.args.to.now in
    let n = flat.capacity in
    let u = c.loop-u.u in
    let table = c.requires.table in
    let apart = c.requires.target.apart in
    let below : u < blocks_of pack flat = omega (arith, c.div_ceil-u-end.ensures) in
    let inside = block_inside pack n u table.some below in
    let before = c.loop-u.invariant in
    let read = c.in_ok-get.ensures.gets.ok in
    let puts = rw before.held.count at c.in_ok-put_block.ensures.puts in
    let same = fit_trans _ _ _ before.same c.get.ensures.rows in
    let shape = table_region table.written.made.order pack flat.schema n in
    let last = at g.R.Revisions.state c.put_block.new.vault (g.S.BlockStore.state c.put_block.new.store) in
    record {
      went = went_each (one to.region) (continuous_block q to.region pack n to.capacity) _ _ _ u before.went
          (went_join (one to.region) _ _ _ (read_at q u) (block_script pack flat to u) (went_wider none _ _ (one to.region) (λ q s. absurd s) _ read) puts.ran.ok);
      seals = seals_after before.went.lasts before.seals (seals_after read.lasts (seals_any c.get.ensures.gets.seals) puts.seals);
      same = same;
      held = fit_trans _ _ _ before.held c.put_block.ensures.held;
      turn = subst (λ (i : ℕ). IsInTurn (order_for pack) pack to (place_of pack to.capacity i) last) (slots_next pack n u inside) puts.turn;
      rows = λ tells is. puts.rows (tells_went _ _ _ _ read (tells_went _ _ _ _ before.went tells)) (rows_lasts pack to none _ _ read.lasts (λ s. s) (before.rows tells is));
      told = λ honest slots made is holds.
          let gone = honest_before puts.ran.ok.lasts honest in
          let now = represents_lasts pack flat (one to.region) _ _ before.went.lasts apart slots is in
          let bytes = c.in_ok-get.ensures.gets.told _ shape (lives_went _ _ _ _ _ _ before.went apart table.written.made.lives) (block_long pack flat slots _ is table.some u below) (now.holds u below) gone.nolie in
          let wide = wide_same (width flat.schema) _ _ same (wide_fit (width flat.schema) c.args.rows.now c.requires.buffers.rows_fit) in
          let spelt = got pack flat slots _ is table.some u (length c.loop-u.rows) c.get.new.rows below (before.same.count ∙ c.requires.buffers.count) (same.count ∙ c.requires.buffers.count) wide bytes in
          let was = slots_lasts pack to none _ _ read.lasts (λ s. s) _ (before.told (honest_before read.lasts gone) slots made is holds) in
          let after = puts.told (honest_after read (honest_after before.went honest)) (block_at pack (whole_blocks pack n slots) u) _ spelt was in
          subst (λ (l : Slots). HoldsSlots pack to l last) (put_block_more to.capacity pack u n (is_true c.args.pred.now) made slots is.size (omega (arith, inside))) after;
    }

pub returns-clause-rows : goal.returns-clause-rows
returns-clause-rows g c = c.loop-u.invariant.same

pub returns-clause-held : goal.returns-clause-held
returns-clause-held g c = c.loop-u.invariant.held

pub returns-clause-fills : goal.returns-clause-fills
returns-clause-fills g c =
    let pack = length c.args.held.now in
    let flat = c.args.flat.now in
    let to = c.args.to.now in
    let before = c.loop-u.invariant in
    let last : c.loop-u.u ≡ blocks_of pack flat = all_done c.loop-u.auto.u-end c.loop-u-test.false ∙ c.div_ceil-u-end.ensures in
    let now = at g.R.Revisions.state c.loop-u.vault (g.S.BlockStore.state c.loop-u.store) in
    record {
      ran = record { ok = rw last at before.went; err = tt };
      never = tt;
      seals = before.seals;
      written = record { order = order_for pack; lives = before.turn.lives; written = before.turn.written };
      rows = before.rows;
      told = λ honest slots made is holds.
          let all : take (c.loop-u.u * pack) slots ≡ slots =
          ap (λ (m : ℕ). take (m * pack) slots) last ∙ take_all (blocks_of pack flat * pack) slots (omega (arith, is.size, blocks_hold pack flat.capacity c.requires.table.some)) in
          subst (λ (l : Slots). HoldsSlots pack to (scanned (put_at to.capacity (is_true c.args.pred.now)) 0 made l) now) all (before.told honest slots made is holds);
    }
