use Rattle.std.proofs.Common.{◌≡◌, ◌+◌, ◌*◌, ◌<◌, ◌≤◌, ◌==◌, if◌then◌else◌, ℕ, inl, inr, length, take, count_by, ◌∙◌, ap, sym, subst, arith, below_more}
use Rattle.std.proofs.lemmas.Result.{err_from_is_err_and}
use Rattle.ob_base.specs.Accesses.{read_at, write_at}
use Rattle.ob_base.specs.Schemas.{width}
use Rattle.ob_script.specs.Parts.{copy_at}
use Rattle.ob_vault.specs.Calls.{none, one}
use Rattle.ob_vault.specs.Places.{at}
use Rattle.ob_vault.proofs.Runs.{went_wider, went_each, went_join, lives_went, lives_only, written_went, written_only, holds_went, holds_only, holds_rows, own_lasts, tells_went, fit_same, fit_trans, may_get, may_put, went_none, seals_none, next_turn}
use Rattle.ob_vault.proofs.WordLemmas.{asks_after, honest_before, honest_after}
use Rattle.ob_blocks.specs.Blocks.{block_at, map_at}
use Rattle.ob_blocks.proofs.Blocks.{count_next, count_whole}
use Rattle.ob_blocks.proofs.Changes.{block-map_at}
use Rattle.ob_flat.specs.Slots.{block_bytes}
use Rattle.ob_flat.specs.Flats.{table_region, whole_blocks}
use Rattle.ob_flat.specs.Passes.{pass_error}
use Rattle.ob_flat.specs.Words.{SealsTable, blocks_of, moved}
use Rattle.ob_flat.proofs.Rows.{wide_fit, wide_same}
use Rattle.ob_flat.proofs.Rooms.{same_rows}
use Rattle.ob_flat.proofs.Loops.{below_all, at_end, nearer, pack_fits, count_fits, first_place, went_all, flat_all, no_less, none_counted, count_start}
use Rattle.ob_flat.proofs.Runs.{pass_of, pass_each, pass_malformed, pass_more, pass_after, pass_wider}
use Rattle.ob_flat.proofs.Tables.{accepted, joined_block, copies, index_fits, blocks_hold, represents_lasts, represents_changed, block_long, got, not_last, block_lasts, block_only, block_put}
use Rattle.ob_flat.proofs.WordLemmas.{seals_any, seals_after, tampered_in, get_refused, rows_malformed}
use Rattle.ob_flat.proofs.swap.swap_blocks.Goals as goal

pub overflow_cast-pack : goal.overflow_cast-pack
overflow_cast-pack g c = pack_fits (length c.args.rows.now) c.requires.table.most

pub div_ceil-blocks-requires : goal.div_ceil-blocks-requires
div_ceil-blocks-requires g c = c.requires.table.some

pub loop-u-init : goal.loop-u-init
loop-u-init g c =
    let pack = length c.args.rows.now in
    let flat = c.args.flat.now in
    record {
      went = went_none (one c.args.to) _ c.requires.asks.ready;
      seals = seals_any (λ good. seals_none good _);
      order = c.requires.made.order;
      lives = c.requires.made.lives;
      turn = rw (first_place (blocks_of pack flat)) c.requires.made.turn;
      written = λ p below. absurd (no_less p below);
      same = same_rows c.args.rows.now;
      few = none_counted pack;
      holds = λ tells p below. absurd (no_less p below);
      told = λ honest slots is. (count_start (g.C.Change.picks c.args.change.now) (whole_blocks pack flat.capacity slots) pack, λ p below. absurd (no_less p below));
    }

pub get-requires : goal.get-requires
get-requires g c =
    let table = c.requires.table in
    let pack = length c.args.rows.now in
    let flat = c.args.flat.now in
    let u = c.loop-u.u in
    let below : u < blocks_of pack flat = below_all c.loop-u-test.true c.div_ceil-blocks.ensures in
    let went = c.loop-u.invariant.went in
    record {
      ready = went.lasts.ready;
      spare = omega (arith, c.requires.asks.spare, went.spare, copies flat.region c.args.to u, below);
      place = may_get _ u (table_region table.written.made.order pack flat.schema flat.capacity) _ _ (lives_went _ _ _ _ _ _ went c.requires.apart table.written.made.lives) below
          (fit_same _ _ _ c.loop-u.invariant.same c.requires.fit) (written_went _ _ _ _ _ u went c.requires.apart (table.written.written u below));
    }

pub returns-in_err-get-clause-rows : goal.returns-in_err-get-clause-rows
returns-in_err-get-clause-rows g c = fit_trans _ _ _ c.loop-u.invariant.same c.get.ensures.rows

pub returns-in_err-get-clause-swaps : goal.returns-in_err-get-clause-swaps
returns-in_err-get-clause-swaps g c =
    let p = err_from_is_err_and c.from_residual.result c.from_residual.ensures.1 in
    let table = c.requires.table in
    let pack = length c.args.rows.now in
    let flat = c.args.flat.now in
    let to = c.args.to in
    let u = c.loop-u.u in
    let below : u < blocks_of pack flat = below_all c.loop-u-test.true c.div_ceil-blocks.ensures in
    let before = c.loop-u.invariant in
    let read = c.in_err-get.ensures.gets in
    rw (p.1, p.2) (record {
      ran = record {
        ok = tt;
        err = pass_each (one to) (copy_at flat.region to) _ _ _ _ (blocks_of pack flat) u below before.went
            (pass_more (one to) _ _ _ (read_at flat.region u) (write_at to u) (pass_wider none _ _ (one to) (λ q s. absurd s) _ _ (pass_of _ _ _ _ _ read.err)));
      };
      never = elim (get_refused pack flat u _ read.err read.never) [ inl failed ↦ inl failed | inr there ↦ inr (tampered_in below there) ];
      seals = seals_after before.went.lasts before.seals (seals_any c.get.ensures.gets.seals);
      table = tt;
      holds = tt;
      most = tt;
      told = λ honest slots is.
          let now = represents_lasts pack flat (one to) _ _ before.went.lasts c.requires.apart slots is in
          let shape = table_region table.written.made.order pack flat.schema flat.capacity in
          ap pass_error (read.told _ shape (lives_went _ _ _ _ _ _ before.went c.requires.apart table.written.made.lives) (block_long pack flat slots _ is table.some u below) (now.holds u below) honest.nolie);
    })

pub overflow_mul-u : goal.overflow_mul-u
overflow_mul-u g c =
    let table = c.requires.table in
    omega (arith, index_fits (length c.args.rows.now) c.args.flat.now.capacity c.loop-u.u table.some table.most table.size.most (below_all c.loop-u-test.true c.div_ceil-blocks.ensures))

pub change_rows-requires : goal.change_rows-requires
change_rows-requires g c =
    let table = c.requires.table in
    let pack = length c.args.rows.now in
    let same = fit_trans _ _ _ c.loop-u.invariant.same c.get.ensures.rows in
    record {
      wide = wide_same _ _ _ same (wide_fit (width c.args.flat.now.schema) c.args.rows.now c.requires.fit);
      index = omega (arith, same.count, index_fits pack c.args.flat.now.capacity c.loop-u.u table.some table.most table.size.most (below_all c.loop-u-test.true c.div_ceil-blocks.ensures));
      suits = c.requires.suits;
    }

pub overflow_add-k : goal.overflow_add-k
overflow_add-k g c =
    let table = c.requires.table in
    let pack = length c.args.rows.now in
    let same = fit_trans _ _ _ c.loop-u.invariant.same c.get.ensures.rows in
    count_fits c.loop-u.k c.in-Ok.picked (length c.get.new.rows) pack c.loop-u.u c.loop-u.invariant.few c.in-Ok.ensures.most same.count
    (index_fits pack c.args.flat.now.capacity c.loop-u.u table.some table.most table.size.most (below_all c.loop-u-test.true c.div_ceil-blocks.ensures))

pub returns-in-Err-clause-rows : goal.returns-in-Err-clause-rows
returns-in-Err-clause-rows g c = fit_trans _ _ _ c.loop-u.invariant.same (fit_trans _ _ _ c.get.ensures.rows c.change_rows.ensures.rows)

pub returns-in-Err-clause-swaps : goal.returns-in-Err-clause-swaps
returns-in-Err-clause-swaps g c =
    let table = c.requires.table in
    let pack = length c.args.rows.now in
    let flat = c.args.flat.now in
    let to = c.args.to in
    let u = c.loop-u.u in
    let below : u < blocks_of pack flat = below_all c.loop-u-test.true c.div_ceil-blocks.ensures in
    let before = c.loop-u.invariant in
    let read = c.in_ok-get.ensures.gets in
    let shape = table_region table.written.made.order pack flat.schema flat.capacity in
    let lives = lives_went _ _ _ _ flat.region shape before.went c.requires.apart table.written.made.lives in
    let same = fit_trans _ _ _ before.same c.get.ensures.rows in
    let wide = wide_same (width flat.schema) _ _ same (wide_fit (width flat.schema) c.args.rows.now c.requires.fit) in
    record {
      ran = record {
        ok = tt;
        err = pass_each (one to) (copy_at flat.region to) _ _ _ _ (blocks_of pack flat) u below before.went
            (pass_more (one to) _ _ _ (read_at flat.region u) (write_at to u) (pass_wider none _ _ (one to) (λ q s. absurd s) _ _ (pass_malformed none _ _ flat.region u read.ok)));
      };
      never = inr (tampered_in below (rows_malformed (length c.loop-u.rows) c.get.new.rows table.some before.same.count same.count wide (read.opened shape lives) c.in-Err.ensures.told));
      seals = seals_after before.went.lasts before.seals (seals_any c.get.ensures.gets.seals);
      table = tt;
      holds = tt;
      most = tt;
      told = λ honest slots is.
          let now = represents_lasts pack flat (one to) _ _ before.went.lasts c.requires.apart slots is in
          let bytes = read.told _ shape lives (block_long pack flat slots _ is table.some u below) (now.holds u below) honest.nolie in
          absurd (c.in-Err.ensures.told _ (got pack flat slots _ is table.some u (length c.loop-u.rows) c.get.new.rows below before.same.count same.count wide bytes));
    }

pub put-requires : goal.put-requires
put-requires g c =
    let pack = length c.args.rows.now in
    let flat = c.args.flat.now in
    let u = c.loop-u.u in
    let before = c.loop-u.invariant in
    let read = c.in_ok-get.ensures.gets.ok in
    let below : u < blocks_of pack flat = below_all c.loop-u-test.true c.div_ceil-blocks.ensures in
    let shape = table_region before.order pack flat.schema flat.capacity in
    let asks = asks_after {m = 1} (asks_after {m = 2} c.requires.asks before.went (omega (arith, copies flat.region c.args.to u, below))) read (omega arith) in
    let here : (if u == blocks_of pack flat then 0 else u) ≡ u = not_last u (blocks_of pack flat) below in
    let turned = c.get.ensures.gets.turns c.args.to (if u == blocks_of pack flat then 0 else u) shape before.turn in
    let same = fit_trans _ _ _ before.same (fit_trans _ _ _ c.get.ensures.rows c.change_rows.ensures.rows) in
    record {
      ready = asks.ready;
      spare = asks.spare;
      few = omega (arith, asks.few);
      place = may_put _ u shape _ _ (own_lasts _ _ _ read.lasts c.args.to (own_lasts _ _ _ before.went.lasts c.args.to c.requires.made.own)) (lives_went _ _ _ _ c.args.to shape read (λ s. s) before.lives) below (fit_same _ _ _ same c.requires.fit) (rw here at turned);
    }

pub returns-in_err-put-clause-rows : goal.returns-in_err-put-clause-rows
returns-in_err-put-clause-rows g c = fit_trans _ _ _ c.loop-u.invariant.same (fit_trans _ _ _ c.get.ensures.rows c.change_rows.ensures.rows)

pub returns-in_err-put-clause-swaps : goal.returns-in_err-put-clause-swaps
returns-in_err-put-clause-swaps g c =
    let p = err_from_is_err_and c.from_residual-in_err-put.result c.from_residual-in_err-put.ensures.1 in
    let pack = length c.args.rows.now in
    let flat = c.args.flat.now in
    let to = c.args.to in
    let u = c.loop-u.u in
    let below : u < blocks_of pack flat = below_all c.loop-u-test.true c.div_ceil-blocks.ensures in
    let before = c.loop-u.invariant in
    let read = c.in_ok-get.ensures.gets.ok in
    let put = c.in_err-put.ensures.puts in
    let shape = table_region before.order pack flat.schema flat.capacity in
    let lives = lives_went _ _ _ _ to shape read (λ s. s) before.lives in
    let same = fit_trans _ _ _ before.same (fit_trans _ _ _ c.get.ensures.rows c.change_rows.ensures.rows) in
    let mid = at g.R.Revisions.state c.get.new.self (g.S.BlockStore.state c.get.new.store) in
    let new = at g.R.Revisions.state c.put.new.self (g.S.BlockStore.state c.put.new.store) in
    let sealed : SealsTable pack flat.schema to mid new = record { seals = λ good fine. c.put.ensures.puts.seals good shape lives (accepted good pack to flat.schema c.change_rows.new.rows c.requires.table.some same.count fine c.in-Ok.ensures.spells) } in
    rw (p.1, p.2) (record {
      ran = record {
        ok = tt;
        err = pass_each (one to) (copy_at flat.region to) _ _ _ _ (blocks_of pack flat) u below before.went
            (pass_after (one to) _ _ _ _ (read_at flat.region u) (write_at to u) (went_wider none _ _ (one to) (λ q s. absurd s) _ read) (pass_of _ _ _ _ _ put.err));
      };
      never = inl (ap pass_error put.never);
      seals = seals_after before.went.lasts before.seals (seals_after read.lasts (seals_any c.get.ensures.gets.seals) sealed);
      table = tt;
      holds = tt;
      most = tt;
      told = λ honest slots is. ap pass_error put.never;
    })

pub loop-u-preserved : goal.loop-u-preserved
loop-u-preserved g c =
    let table = c.requires.table in
    let pack = length c.args.rows.now in
    let flat = c.args.flat.now in
    let q = flat.region in
    let to = c.args.to in
    let u = c.loop-u.u in
    let below : u < blocks_of pack flat = below_all c.loop-u-test.true c.div_ceil-blocks.ensures in
    let before = c.loop-u.invariant in
    let shape = table_region before.order pack flat.schema flat.capacity in
    let read = c.in_ok-get.ensures.gets.ok in
    let put = c.in_ok-put.ensures.puts in
    let only = c.put.ensures.puts.only in
    let lives = lives_went _ _ _ _ to shape read (λ s. s) before.lives in
    let same_get = fit_trans _ _ _ before.same c.get.ensures.rows in
    let same = fit_trans _ _ _ same_get c.change_rows.ensures.rows in
    let f = g.C.Change.to c.args.change.now in
    let now = at g.R.Revisions.state c.loop-u.vault (g.S.BlockStore.state c.loop-u.store) in
    let mid = at g.R.Revisions.state c.get.new.self (g.S.BlockStore.state c.get.new.store) in
    let new = at g.R.Revisions.state c.put.new.self (g.S.BlockStore.state c.put.new.store) in
    let sealed : SealsTable pack flat.schema to mid new = record { seals = λ good fine. c.put.ensures.puts.seals good shape lives (accepted good pack to flat.schema c.change_rows.new.rows table.some same.count fine c.in-Ok.ensures.spells) } in
    record {
      went = went_each (one to) (copy_at q to) _ _ _ u before.went
          (went_join (one to) _ _ _ (read_at q u) (write_at to u) (went_wider none _ _ (one to) (λ q s. absurd s) _ read) put.ok);
      seals = seals_after before.went.lasts before.seals (seals_after read.lasts (seals_any c.get.ensures.gets.seals) sealed);
      order = before.order;
      lives = lives_only _ _ _ _ only _ _ lives;
      turn = next_turn to u shape _ (c.put.ensures.puts.turn shape lives);
      written = below_more _ _
          (λ p h. written_only _ _ _ _ only _ p (λ _ at. absurd (omega (arith, at, h))) (written_went _ _ _ _ _ p read (λ s. s) (before.written p h)))
          c.put.ensures.puts.written;
      same = same;
      few = more u pack c.loop-u.k c.in-Ok.picked (length c.get.new.rows) before.few c.in-Ok.ensures.most same_get.count;
      holds = λ tells.
          let tells' = tells_went _ _ _ _ read (tells_went _ _ _ _ before.went tells) in
          below_more _ _
          (λ p h. block_only pack flat.schema mid new to u to p only (λ _ at. absurd (omega (arith, at, h))) (block_lasts pack flat.schema none now mid to p read.lasts (λ s. s) (before.holds tells p h)))
          (block_put pack flat.schema c.change_rows.new.rows to u new table.some same.count c.in-Ok.ensures.spells (put.told tells' shape lives));
      told = λ honest slots is.
          let gone = honest_before put.ok.lasts honest in
          let start = honest_before read.lasts gone in
          let here = represents_lasts pack flat (one to) _ _ before.went.lasts c.requires.apart slots is in
          let whole = whole_blocks pack flat.capacity slots in
          let block = block_at pack whole u in
          let bytes = c.in_ok-get.ensures.gets.told _ (table_region table.written.made.order pack flat.schema flat.capacity) (lives_went _ _ _ _ _ _ before.went c.requires.apart table.written.made.lives) (block_long pack flat slots _ is table.some u below) (here.holds u below) gone.nolie in
          let wide = wide_same (width flat.schema) _ _ same_get (wide_fit (width flat.schema) c.args.rows.now c.requires.fit) in
          let spelt = got pack flat slots _ is table.some u (length c.loop-u.rows) c.get.new.rows below before.same.count same_get.count wide bytes in
          let changed = c.in-Ok.ensures.told block spelt in
          let is_changed : block_bytes flat.schema (map_at f (u * pack) block) ≡ block_bytes flat.schema (block_at pack (map_at f 0 whole) u) = ap (block_bytes flat.schema) (block-map_at f pack u whole) in
          let was = before.told start slots is in
          let tells = (honest_after read (honest_after before.went honest)).tells in (
            count_next (g.C.Change.picks c.args.change.now) pack whole u c.loop-u.k c.in-Ok.picked was.0 changed.0,
            below_more _ _
                (λ p h. holds_only _ _ _ _ only _ p _ (λ _ at. absurd (omega (arith, at, h))) (holds_went _ _ _ _ _ p _ read (λ s. s) (was.1 p h)))
                (holds_rows _ _ _ _ _ (joined_block pack flat.schema _ c.change_rows.new.rows table.some same.count changed.1 ∙ is_changed) (put.told tells shape lives)),
          );
    }
  where
    more : (u pack k n m : ℕ) → k ≤ u * pack → n ≤ m → m ≡ pack → k + n ≤ (u + 1) * pack
    more u pack k n m few most size = let next : (u + 1) * pack ≡ u * pack + pack = grind arith in omega (arith, next)

pub loop-u-smaller : goal.loop-u-smaller
loop-u-smaller g c = nearer c.loop-u.u c.div_ceil-blocks.result c.loop-u-test.true

pub returns-clause-rows : goal.returns-clause-rows
returns-clause-rows g c = c.loop-u.invariant.same

pub returns-clause-swaps : goal.returns-clause-swaps
returns-clause-swaps g c =
    let table = c.requires.table in
    let pack = length c.args.rows.now in
    let flat = c.args.flat.now in
    let to = c.args.to in
    let all = c.loop-u.invariant in
    let last : c.loop-u.u ≡ blocks_of pack flat = at_end c.loop-u.auto.u-end c.loop-u-test.false c.div_ceil-blocks.ensures in
    let picks = g.C.Change.picks c.args.change.now in
    let f = g.C.Change.to c.args.change.now in
    record {
      ran = record { ok = went_all (copy_at flat.region to) last all.went; err = tt };
      never = tt;
      seals = all.seals;
      table = flat_all pack c.loop-u.u all.order (moved flat to) _ last all.lives all.turn all.written;
      holds = λ tells. record { each = λ p below. all.holds tells p (below_all below (sym last)) };
      most = subst (λ (n : ℕ). c.loop-u.k ≤ n * pack) last all.few;
      told = λ honest slots is.
          let was = all.told honest slots is in (
            was.0 ∙ ap (λ (n : ℕ). count_by picks (take (n * pack) (whole_blocks pack flat.capacity slots))) last
                ∙ count_whole picks (blocks_of pack flat) pack slots (g.met.C.Change.none c.args.change.now) (omega (arith, is.size, blocks_hold pack flat.capacity table.some)),
            represents_changed pack flat to f slots _ _ table.some is c.requires.past (λ i slot fits. g.met.C.Change.keeps c.args.change.now flat.schema i slot c.requires.suits fits) (λ p below. was.1 p (below_all below (sym last))),
          );
    }
