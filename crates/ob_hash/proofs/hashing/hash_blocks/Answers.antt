use Rattle.std.proofs.Common.{◌≡◌, ◌≤◌, ◌<◌, ◌*◌, ℕ, inl, inr, length, sym, ◌∙◌, ap, subst, arith}
use Rattle.std.specs.Prelude.{⊤}
use Rattle.std.proofs.lemmas.Result.{err_from_is_err_and}
use Rattle.ob_base.specs.Accesses.{read_at}
use Rattle.ob_base.specs.Schemas.{Columns, width}
use Rattle.ob_script.specs.Parts.{hash_block}
use Rattle.ob_vault.specs.Calls.{one}
use Rattle.ob_vault.specs.Places.{RowsFit}
use Rattle.ob_vault.proofs.Runs.{lives_went, written_went, fit_same, fit_trans, may_get}
use Rattle.ob_vault.proofs.WordLemmas.{asks_after, honest_before, honest_after}
use Rattle.ob_row.specs.Truth.{is_true}
use Rattle.ob_flat.specs.Flats.{table_region}
use Rattle.ob_flat.specs.Passes.{pass_error}
use Rattle.ob_flat.specs.Words.{blocks_of}
use Rattle.ob_flat.proofs.Rooms.{same_rows}
use Rattle.ob_flat.proofs.Rows.{wide_fit, wide_same}
use Rattle.ob_flat.proofs.Runs.{pass_of, pass_malformed}
use Rattle.ob_flat.proofs.Tables.{blocks_hold, represents_lasts, block_long, got}
use Rattle.ob_flat.proofs.WordLemmas.{get_refused, rows_malformed, tampered_in}
use Rattle.ob_hash.specs.Hashing.{layout_of, block_script}
use Rattle.ob_hash.proofs.Kept.{keeps_none, keeps_read, keeps_refused, keeps_more, keeps_after, keeps_next, keeps_cut, keeps_all}
use Rattle.ob_hash.proofs.Places.{next_slots, placed_none, placed_lasts, placed_taken, placed_all}
use Rattle.ob_hash.proofs.Sizes.{table_room, block_begins}
use Rattle.ob_hash.proofs.hashing.hash_blocks.Goals as goal

pub loop-u-init : goal.loop-u-init
loop-u-init g c =
    let l = layout_of (length c.args.rows.now) c.args.hashed.now in
    record {
      keeps = keeps_none l _ c.requires.asks.ready c.requires.live;
      rows = same_rows c.args.rows.now;
      block = same_rows c.args.block.now;
      told = λ honest slots is empty. placed_none l (is_true c.args.pred.now) slots _ empty;
    }

pub get-requires : goal.get-requires
get-requires g c =
    let hashed = c.args.hashed.now in
    let flat = c.args.flat.now in
    let pack = length c.args.rows.now in
    let table = c.requires.table.written in
    let u = c.loop-u.u in
    let before = c.loop-u.invariant in
    let went = before.keeps.ran.ok in
    let below : u < blocks_of pack flat = omega (arith, c.loop-u-test.true, c.div_ceil-u-end.ensures) in
    let shape = table_region table.made.order pack flat.schema flat.capacity in
    let asks = asks_after {m = 1} c.requires.asks went (omega (arith, table_room flat.region hashed.flat.now.region pack flat.capacity hashed.k hashed.depth u below)) in
    let fit = subst (λ (s : Columns). RowsFit c.args.rows.now (pack * width s)) c.requires.source.schema c.requires.buffers.rows_fit in
    record {
      ready = asks.ready;
      spare = asks.spare;
      place = may_get _ u shape _ _ (lives_went _ _ _ _ _ _ went c.requires.source.apart table.made.lives) below (fit_same _ _ _ before.rows fit) (written_went _ _ _ _ _ u went c.requires.source.apart (table.written u below));
    }

pub returns-in_err-get-clause-rows : goal.returns-in_err-get-clause-rows
returns-in_err-get-clause-rows g c = fit_trans _ _ _ c.loop-u.invariant.rows c.get.ensures.rows

pub returns-in_err-get-clause-block : goal.returns-in_err-get-clause-block
returns-in_err-get-clause-block g c = c.loop-u.invariant.block

pub returns-in_err-get-clause-hashes : goal.returns-in_err-get-clause-hashes
returns-in_err-get-clause-hashes g c =
    let p = err_from_is_err_and c.from_residual.result c.from_residual.ensures.1 in
    let l = layout_of (length c.args.rows.now) c.args.hashed.now in
    let flat = c.args.flat.now in
    let u = c.loop-u.u in
    let below : u < blocks_of l.pack flat = omega (arith, c.loop-u-test.true, c.div_ceil-u-end.ensures) in
    let before = c.loop-u.invariant in
    let went = before.keeps.ran.ok in
    let read = c.in_err-get.ensures.gets in
    let keeps = keeps_refused {T = ⊤} l flat.region u _ _ read.seals _ (pass_of _ _ _ _ _ read.err) in
    rw (p.1, p.2) (record {
      keeps = keeps_cut {T = ⊤} (hash_block flat.region l.table.region l.pack flat.capacity l.k l.depth) (blocks_of l.pack flat) u _ below before.keeps (keeps_more (read_at flat.region u) (block_script l flat u) keeps);
      never = elim (get_refused l.pack flat u _ read.err read.never) [ inl failed ↦ inl failed | inr there ↦ inr (inl (tampered_in below there)) ];
      told = λ honest slots is empty.
          let now = represents_lasts l.pack flat (one l.table.region) _ _ went.lasts c.requires.source.apart slots is in
          let made = c.requires.table.written.made in
          let lives = lives_went _ _ _ _ _ _ went c.requires.source.apart made.lives in
          ap pass_error (read.told _ (table_region made.order l.pack flat.schema flat.capacity) lives (block_long l.pack flat slots _ is c.requires.table.some u below) (now.holds u below) honest.nolie);
    })

pub check_rows-requires : goal.check_rows-requires
check_rows-requires g c =
    let fit = subst (λ (s : Columns). RowsFit c.args.rows.now (length c.args.rows.now * width s)) c.requires.source.schema c.requires.buffers.rows_fit in
    record { wide = wide_same _ _ _ (fit_trans _ _ _ c.loop-u.invariant.rows c.get.ensures.rows) (wide_fit (width c.args.flat.now.schema) c.args.rows.now fit) }

pub returns-in-Err-clause-rows : goal.returns-in-Err-clause-rows
returns-in-Err-clause-rows g c = fit_trans _ _ _ c.loop-u.invariant.rows c.get.ensures.rows

pub returns-in-Err-clause-block : goal.returns-in-Err-clause-block
returns-in-Err-clause-block g c = c.loop-u.invariant.block

pub returns-in-Err-clause-hashes : goal.returns-in-Err-clause-hashes
returns-in-Err-clause-hashes g c =
    let l = layout_of (length c.args.rows.now) c.args.hashed.now in
    let flat = c.args.flat.now in
    let u = c.loop-u.u in
    let below : u < blocks_of l.pack flat = omega (arith, c.loop-u-test.true, c.div_ceil-u-end.ensures) in
    let before = c.loop-u.invariant in
    let went = before.keeps.ran.ok in
    let read = c.in_ok-get.ensures.gets in
    let table = c.requires.table in
    let shape = table_region table.written.made.order l.pack flat.schema flat.capacity in
    let lives = lives_went _ _ _ _ _ _ went c.requires.source.apart table.written.made.lives in
    let same = fit_trans _ _ _ before.rows c.get.ensures.rows in
    let fit = subst (λ (s : Columns). RowsFit c.args.rows.now (l.pack * width s)) c.requires.source.schema c.requires.buffers.rows_fit in
    let wide = wide_same _ _ _ same (wide_fit (width flat.schema) c.args.rows.now fit) in
    let keeps = keeps_refused {T = ⊤} l flat.region u _ _ read.seals _ (pass_malformed _ _ _ flat.region u read.ok) in
    record {
      keeps = keeps_cut {T = ⊤} (hash_block flat.region l.table.region l.pack flat.capacity l.k l.depth) (blocks_of l.pack flat) u _ below before.keeps (keeps_more (read_at flat.region u) (block_script l flat u) keeps);
      never = inr (inl (tampered_in below (rows_malformed (length c.loop-u.rows) c.get.new.rows table.some before.rows.count same.count wide (read.opened shape lives) c.in-Err.ensures.told)));
      told = λ honest slots is empty.
          let now = represents_lasts l.pack flat (one l.table.region) _ _ went.lasts c.requires.source.apart slots is in
          let bytes = read.told _ shape lives (block_long l.pack flat slots _ is table.some u below) (now.holds u below) honest.nolie in
          absurd (c.in-Err.ensures.told _ (got l.pack flat slots _ is table.some u (length c.loop-u.rows) c.get.new.rows below before.rows.count same.count wide bytes));
    }

pub place_rows-requires : goal.place_rows-requires
place_rows-requires g c =
    let l = layout_of (length c.args.rows.now) c.args.hashed.now in
    let flat = c.args.flat.now in
    let u = c.loop-u.u in
    let below : u < blocks_of l.pack flat = omega (arith, c.loop-u-test.true, c.div_ceil-u-end.ensures) in
    let before = c.loop-u.invariant in
    let read = c.in_ok-get.ensures.gets in
    let room = table_room flat.region l.table.region l.pack flat.capacity l.k l.depth u below in
    let asks = asks_after (asks_after c.requires.asks before.keeps.ran.ok room) read.ok (omega arith) in
    let keeps = keeps_read l flat.region u _ _ read.seals read.ok before.keeps.stays in
    let same = fit_trans _ _ _ before.rows c.get.ensures.rows in
    let fit = subst (λ (s : Columns). RowsFit c.args.rows.now (l.pack * width s)) c.requires.source.schema c.requires.buffers.rows_fit in
    let count : length c.loop-u.block ≡ l.pack = before.block.count ∙ c.requires.buffers.same in
    let space = subst (λ (s : Columns). RowsFit c.args.block.now (length c.args.block.now * width s)) c.requires.source.schema c.requires.buffers.block_fit in
    let still = fit_same _ _ _ before.block space in
    record {
      asks = rw count asks;
      hashed = rw count c.requires.hashed;
      live = rw count keeps.stays;
      rows = record {
        schema = c.requires.source.schema;
        size = c.requires.table.size;
        within = rw count below;
        count = same.count ∙ sym count;
        wide = wide_same _ _ _ same (wide_fit (width flat.schema) c.args.rows.now fit);
        spells = c.in-Ok.ensures.read;
      };
      fit = subst (λ (n : ℕ). RowsFit c.loop-u.block (n * width flat.schema)) (sym before.block.count) still;
    }

pub returns-in_err-unplaced-clause-rows : goal.returns-in_err-unplaced-clause-rows
returns-in_err-unplaced-clause-rows g c = fit_trans _ _ _ c.loop-u.invariant.rows c.get.ensures.rows

pub returns-in_err-unplaced-clause-block : goal.returns-in_err-unplaced-clause-block
returns-in_err-unplaced-clause-block g c = fit_trans _ _ _ c.loop-u.invariant.block c.place_rows.ensures.block

pub returns-in_err-unplaced-clause-hashes : goal.returns-in_err-unplaced-clause-hashes
returns-in_err-unplaced-clause-hashes g c =
    let p = err_from_is_err_and c.from_residual-in_err-unplaced.result c.from_residual-in_err-unplaced.ensures.1 in
    let l = layout_of (length c.args.rows.now) c.args.hashed.now in
    let flat = c.args.flat.now in
    let u = c.loop-u.u in
    let below : u < blocks_of l.pack flat = omega (arith, c.loop-u-test.true, c.div_ceil-u-end.ensures) in
    let before = c.loop-u.invariant in
    let went = before.keeps.ran.ok in
    let read = c.in_ok-get.ensures.gets in
    let count : length c.loop-u.block ≡ l.pack = before.block.count ∙ c.requires.buffers.same in
    let places = rw count at c.in_err-unplaced.ensures.places in
    let keeps = keeps_read l flat.region u _ _ read.seals read.ok before.keeps.stays in
    rw (p.1, p.2) (record {
      keeps = keeps_cut (hash_block flat.region l.table.region l.pack flat.capacity l.k l.depth) (blocks_of l.pack flat) u _ below before.keeps (keeps_after (read_at flat.region u) (block_script l flat u) _ keeps places.keeps);
      never = elim places.never [ inl failed ↦ inl failed | inr there ↦ inr (inr there) ];
      told = λ honest slots is empty.
          let gone = honest_before places.keeps.ran.err.lasts honest in
          let table = c.requires.table in
          let shape = table_region table.written.made.order l.pack flat.schema flat.capacity in
          let lives = lives_went _ _ _ _ _ _ went c.requires.source.apart table.written.made.lives in
          let same = fit_trans _ _ _ before.rows c.get.ensures.rows in
          let fit = subst (λ (s : Columns). RowsFit c.args.rows.now (l.pack * width s)) c.requires.source.schema c.requires.buffers.rows_fit in
          let wide = wide_same _ _ _ same (wide_fit (width flat.schema) c.args.rows.now fit) in
          let now = represents_lasts l.pack flat (one l.table.region) _ _ went.lasts c.requires.source.apart slots is in
          let bytes = read.told _ shape lives (block_long l.pack flat slots _ is table.some u below) (now.holds u below) gone.nolie in
          let spelt = got l.pack flat slots _ is table.some u (length c.loop-u.rows) c.get.new.rows below before.rows.count same.count wide bytes in
          let was = before.told (honest_before read.ok.lasts gone) slots is empty in
          places.told (honest_after read.ok (honest_after went honest)) slots is.size spelt (placed_lasts read.ok.lasts (λ s. s) was);
    })

pub loop-u-preserved : goal.loop-u-preserved
loop-u-preserved g c =
    let l = layout_of (length c.args.rows.now) c.args.hashed.now in
    let flat = c.args.flat.now in
    let u = c.loop-u.u in
    let below : u < blocks_of l.pack flat = omega (arith, c.loop-u-test.true, c.div_ceil-u-end.ensures) in
    let before = c.loop-u.invariant in
    let went = before.keeps.ran.ok in
    let read = c.in_ok-get.ensures.gets in
    let count : length c.loop-u.block ≡ l.pack = before.block.count ∙ c.requires.buffers.same in
    let places = rw count at c.in_ok-unplaced.ensures.places in
    let keeps = keeps_read l flat.region u _ _ read.seals read.ok before.keeps.stays in
    let same = fit_trans _ _ _ before.rows c.get.ensures.rows in
    record {
      keeps = keeps_next (hash_block flat.region l.table.region l.pack flat.capacity l.k l.depth) u before.keeps (keeps_after (read_at flat.region u) (block_script l flat u) _ keeps places.keeps);
      rows = same;
      block = fit_trans _ _ _ before.block c.place_rows.ensures.block;
      told = λ honest slots is empty.
          let gone = honest_before places.keeps.ran.ok.lasts honest in
          let table = c.requires.table in
          let shape = table_region table.written.made.order l.pack flat.schema flat.capacity in
          let lives = lives_went _ _ _ _ _ _ went c.requires.source.apart table.written.made.lives in
          let fit = subst (λ (s : Columns). RowsFit c.args.rows.now (l.pack * width s)) c.requires.source.schema c.requires.buffers.rows_fit in
          let wide = wide_same _ _ _ same (wide_fit (width flat.schema) c.args.rows.now fit) in
          let now = represents_lasts l.pack flat (one l.table.region) _ _ went.lasts c.requires.source.apart slots is in
          let bytes = read.told _ shape lives (block_long l.pack flat slots _ is table.some u below) (now.holds u below) gone.nolie in
          let spelt = got l.pack flat slots _ is table.some u (length c.loop-u.rows) c.get.new.rows below before.rows.count same.count wide bytes in
          let was = before.told (honest_before read.ok.lasts gone) slots is empty in
          let end = places.told (honest_after read.ok (honest_after went honest)) slots is.size spelt (placed_lasts read.ok.lasts (λ s. s) was) in
          let begun : u * l.pack < length slots = omega (arith, is.size, block_begins l.pack flat.capacity u table.some below) in
          placed_taken (next_slots l.pack u flat.capacity slots is.size begun) end;
    }

pub returns-clause-rows : goal.returns-clause-rows
returns-clause-rows g c = c.loop-u.invariant.rows

pub returns-clause-block : goal.returns-clause-block
returns-clause-block g c = c.loop-u.invariant.block

pub returns-clause-hashes : goal.returns-clause-hashes
returns-clause-hashes g c =
    let l = layout_of (length c.args.rows.now) c.args.hashed.now in
    let flat = c.args.flat.now in
    let last : c.loop-u.u ≡ blocks_of l.pack flat = omega (arith, c.loop-u-test.false, c.loop-u.auto.u-end, c.div_ceil-u-end.ensures) in
    record {
      keeps = keeps_all _ (hash_block flat.region l.table.region l.pack flat.capacity l.k l.depth) last c.loop-u.invariant.keeps;
      never = tt;
      told = λ honest slots is empty.
          let all : length slots ≤ c.loop-u.u * l.pack = omega (arith, is.size, ap (λ (u : ℕ). u * l.pack) last, blocks_hold l.pack flat.capacity c.requires.table.some) in
          placed_all all (c.loop-u.invariant.told honest slots is empty);
    }
