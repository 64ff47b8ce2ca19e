use Rattle.std.proofs.Common.{◌≡◌, ◌+◌, ◌*◌, ◌<◌, ◌++◌, ℕ, List, inl, inr, length, sym, ◌∙◌, ap, subst, arith}
use Rattle.std.proofs.lemmas.Result.{err_from_is_err_and}
use Rattle.ob_base.specs.Accesses.{read_at, write_at}
use Rattle.ob_base.specs.Numbers.{blocks_for}
use Rattle.ob_base.specs.Schemas.{Columns, width}
use Rattle.ob_script.specs.Parts.{pair_at}
use Rattle.ob_vault.specs.Calls.{none, one}
use Rattle.ob_vault.specs.Places.{RowsFit}
use Rattle.ob_vault.proofs.Runs.{went_none, went_wider, went_each, went_join, lives_went, written_went, fit_same, fit_trans, may_get, may_put, seals_none, holds_rows}
use Rattle.ob_row.specs.Slots.{Slots, rows}
use Rattle.ob_row.specs.Results.{joined_chunk}
use Rattle.ob_blocks.specs.Blocks.{block_at, map_at}
use Rattle.ob_flat.specs.Slots.{Spelt, AreSlots}
use Rattle.ob_flat.specs.Flats.{table_region, whole_blocks}
use Rattle.ob_flat.specs.Passes.{pass_error}
use Rattle.ob_flat.proofs.Rooms.{same_rows}
use Rattle.ob_flat.proofs.Rows.{wide_fit, wide_same}
use Rattle.ob_flat.proofs.Runs.{pass_of, pass_each, pass_malformed, pass_more, pass_after, pass_wider}
use Rattle.ob_flat.proofs.Tables.{accepted, joined_block, index_fits, represents_lasts, block_long, got}
use Rattle.ob_flat.specs.Words.{FitBlock, blocks_of}
use Rattle.ob_vault.proofs.WordLemmas.{asks_after, honest_before, honest_after}
use Rattle.ob_flat.proofs.WordLemmas.{seals_any, seals_after, tampered_in, get_refused, rows_malformed}
use Rattle.ob_join.specs.Join.{join_of, rights}
use Rattle.ob_join.specs.Joining.{joined_below}
use Rattle.ob_join.proofs.Chunks.{chunk_block, pairs_length}
use Rattle.ob_join.proofs.Places.{filling_at, holds_at, filling_read, filling_turn, filling_more, holds_read, holds_more}
use Rattle.ob_join.proofs.Windows.{first_fits, next_fits, nearer, all_done}
use Rattle.ob_join.proofs.pairing.pair_blocks.Goals as goal

-- the joined rows are some slots'
joined_slots : (left right to : Columns) (lcol rcol capacity first : ℕ) (block lefts : Slots) (out : List (List ℕ)) → to ≡ left ++ right
    → Spelt (left ++ right) (map_at (joined_below lcol rcol (rows lefts) capacity) first block) out → AreSlots to out
joined_slots left right to lcol rcol capacity first block lefts out same spelt = subst (λ (s : Columns). AreSlots s out) (sym same) (record { slots = map_at (joined_below lcol rcol (rows lefts) capacity) first block; spelt = spelt })

-- rows that fit the columns of both tables fit a result's
out_fits : {columns schema : Columns} {out : List (List ℕ)} → schema ≡ columns → FitBlock columns out → FitBlock schema out
out_fits {out = out} same fit = subst (λ (s : Columns). FitBlock s out) (sym same) fit

pub get-requires-clause-place : goal.get-requires-clause-place
get-requires-clause-place g c =
    let flat = c.requires.right.written in
    let v = c.loop-v.v in
    let went = c.loop-v.invariant.went in
    may_get _ v (table_region flat.made.order (length c.args.rows.now) c.args.sides.now.right.now.schema c.args.sides.now.right.now.capacity) _ _ (lives_went _ _ _ _ _ _ went c.requires.target.apart flat.made.lives) (omega (arith, c.div_ceil-blocks.ensures))
    (fit_same _ _ _ c.loop-v.invariant.same c.requires.buffers.rows_fit) (written_went _ _ _ _ _ v went c.requires.target.apart (flat.written v (omega (arith, c.div_ceil-blocks.ensures))))

pub overflow_mul-v : goal.overflow_mul-v
overflow_mul-v g c = omega (arith, index_fits (length c.args.rows.now) c.args.sides.now.right.now.capacity c.loop-v.v c.requires.buffers.some c.requires.buffers.most c.requires.right.size.most (omega (arith, c.div_ceil-blocks.ensures)))

pub join_rows-requires-clause-rows : goal.join_rows-requires-clause-rows
join_rows-requires-clause-rows g c =
    wide_same _ _ _ (fit_trans _ _ _ c.loop-v.invariant.same c.get.ensures.rows) (wide_fit (width c.args.sides.now.right.now.schema) c.args.rows.now c.requires.buffers.rows_fit)

pub join_rows-requires-clause-same : goal.join_rows-requires-clause-same
join_rows-requires-clause-same g c = omega (arith, c.loop-v.invariant.out.count, c.requires.buffers.same, c.loop-v.invariant.same.count, c.get.ensures.rows.count)

pub join_rows-requires-clause-index : goal.join_rows-requires-clause-index
join_rows-requires-clause-index g c =
    let same = fit_trans _ _ _ c.loop-v.invariant.same c.get.ensures.rows in
    omega (arith, same.count, index_fits (length c.args.rows.now) c.args.sides.now.right.now.capacity c.loop-v.v c.requires.buffers.some c.requires.buffers.most c.requires.right.size.most (omega (arith, c.div_ceil-blocks.ensures)))

pub put-requires-clause-place : goal.put-requires-clause-place
put-requires-clause-place g c =
    let v = c.loop-v.v in
    let pack = length c.args.rows.now in
    let to = c.args.to.now in
    let rights = blocks_for pack c.args.sides.now.right.now.capacity in
    let n = c.args.chunk * rights + v in
    let below : n < blocks_for pack to.capacity = omega (arith, c.requires.within, c.div_ceil-blocks.ensures) in
    let filling = filling_read pack to n _ _ _ c.in_ok-get.ensures.gets.ok c.get.ensures.gets.turns c.loop-v.invariant.filling in
    let shape = table_region filling.order pack to.schema to.capacity in
    let size = fit_trans _ _ _ c.loop-v.invariant.out c.join_rows.ensures.size in
    let fit = subst (λ (k : ℕ). RowsFit c.join_rows.new.to (k * width to.schema)) c.requires.buffers.same (fit_same _ _ _ size (out_fits c.requires.target.schema c.requires.buffers.out_fit)) in
    rw c.div_ceil-blocks.ensures (may_put _ n shape _ _ filling.own filling.lives below fit (filling_turn pack to n _ filling below))

pub loop-v-init : goal.loop-v-init
loop-v-init g c =
    let start = c.args.chunk * blocks_for (length c.args.rows.now) c.args.sides.now.right.now.capacity in
    let none_yet : start ≡ start + 0 = omega arith in
    record {
      went = went_none (one c.args.to.now.region) _ c.requires.asks.ready;
      seals = seals_any (λ good. seals_none good _);
      filling = filling_at (length c.args.rows.now) c.args.to.now start (start + 0) _ none_yet c.requires.filling;
      same = same_rows c.args.rows.now;
      out = same_rows c.args.out.now;
      told = λ honest left_slots slots all spelt is chunk holds. holds_at (length c.args.rows.now) c.args.to.now start (start + 0) all _ none_yet holds;
    }

pub loop-v-preserved : goal.loop-v-preserved
loop-v-preserved g c =
    let pack = length c.args.rows.now in
    let left = c.args.sides.now.left.now.schema in
    let flat = c.args.sides.now.right.now in
    let to = c.args.to.now in
    let b = flat.region in
    let v = c.loop-v.v in
    let rights = blocks_for pack flat.capacity in
    let start = c.args.chunk * rights in
    let below : v < rights = omega (arith, c.div_ceil-blocks.ensures) in
    let before = c.loop-v.invariant in
    let read = c.in_ok-get.ensures.gets.ok in
    let wrote = rw c.div_ceil-blocks.ensures at c.in_ok-put.ensures.puts.ok in
    let only = rw c.div_ceil-blocks.ensures at c.put.ensures.puts.only in
    let turn = rw c.div_ceil-blocks.ensures at c.put.ensures.puts.turn in
    let written = rw c.div_ceil-blocks.ensures at c.put.ensures.puts.written in
    let filling = filling_read pack to (start + v) _ _ _ read c.get.ensures.gets.turns before.filling in
    let shape = table_region filling.order pack to.schema to.capacity in
    let same = fit_trans _ _ _ before.same c.get.ensures.rows in
    let size = fit_trans _ _ _ before.out c.join_rows.ensures.size in
    let is = c.in-Ok.ensures.read in
    let spells = joined_slots left flat.schema to.schema c.args.sides.now.lcol c.args.sides.now.rcol flat.capacity (v * pack) is.slots c.requires.kept.spells.slots c.join_rows.new.to c.requires.target.schema (c.in-Ok.ensures.told c.requires.kept.spells.slots is.slots c.requires.kept.spells.spelt is.spelt) in
    let next : start + v + 1 ≡ start + (v + 1) = omega arith in
    record {
      went = went_each (one to.region) (pair_at b to.region rights c.args.chunk) _ _ _ v before.went
          (went_join (one to.region) _ _ _ (read_at b v) (write_at to.region (start + v)) (went_wider none _ _ (one to.region) (λ q s. absurd s) _ read) wrote);
      seals = seals_after before.went.lasts before.seals (seals_after read.lasts (seals_any c.get.ensures.gets.seals)
          (record { seals = λ good fine. c.put.ensures.puts.seals good shape filling.lives (accepted good pack to.region to.schema c.join_rows.new.to c.requires.buffers.some (size.count ∙ c.requires.buffers.same) fine spells) }));
      filling = filling_at pack to (start + v + 1) (start + (v + 1)) _ next (filling_more pack to (start + v) _ _ only turn written filling);
      same = same;
      out = size;
      told = λ honest left_slots slots all spelt represents chunk holds.
          let kept = honest_before wrote.lasts honest in
          let began = honest_before read.lasts kept in
          let now = represents_lasts pack flat (one to.region) _ _ before.went.lasts c.requires.target.apart slots represents in
          let block = block_at pack (whole_blocks pack flat.capacity slots) v in
          let bytes = c.in_ok-get.ensures.gets.told _ (table_region c.requires.right.written.made.order pack flat.schema flat.capacity) (lives_went _ _ _ _ _ _ before.went c.requires.target.apart c.requires.right.written.made.lives) (block_long pack flat slots _ represents c.requires.buffers.some v below) (now.holds v below) kept.nolie in
          let wide = wide_same (width flat.schema) _ _ same (wide_fit (width flat.schema) c.args.rows.now c.requires.buffers.rows_fit) in
          let right = got pack flat slots _ represents c.requires.buffers.some v (length c.loop-v.rows) c.get.new.rows below before.same.count same.count wide bytes in
          let made = c.in-Ok.ensures.told left_slots block spelt right in
          let joined = joined_chunk c.args.sides.now.lcol c.args.sides.now.rcol (rights * pack) left_slots slots in
          let same_block : map_at (joined_below c.args.sides.now.lcol c.args.sides.now.rcol (rows left_slots) flat.capacity) (v * pack) block ≡ block_at pack all (start + v) =
          chunk_block c.args.sides.now.lcol c.args.sides.now.rcol pack flat.capacity v left_slots slots represents.size ∙ sym (chunk.same v below) in
          let made' : Spelt to.schema (block_at pack all (start + v)) c.join_rows.new.to =
          subst (λ (s : Columns). Spelt s (block_at pack all (start + v)) c.join_rows.new.to) (sym c.requires.target.schema) (subst (λ (l : Slots). Spelt (left ++ flat.schema) l c.join_rows.new.to) same_block made) in
          let told = rw c.div_ceil-blocks.ensures at c.in_ok-put.ensures.puts.told in
          let here = holds_rows to.region (start + v) _ _ _ (joined_block pack to.schema _ c.join_rows.new.to c.requires.buffers.some (size.count ∙ c.requires.buffers.same) made') (told (honest_after read (honest_after before.went honest)).tells shape filling.lives) in
          holds_at pack to (start + v + 1) (start + (v + 1)) all _ next (holds_more pack to (start + v) _ _ all only here (holds_read pack to (start + v) _ _ _ all read (before.told began left_slots slots all spelt represents chunk holds)));
    }

pub overflow_mul-first : goal.overflow_mul-first
overflow_mul-first g c = first_fits c.args.chunk (length c.args.rows.now) c.args.to.now.capacity c.requires.buffers.some c.requires.target.sized.most c.requires.within c.div_ceil-blocks.ensures

pub overflow_add-first : goal.overflow_add-first
overflow_add-first g c = next_fits c.args.chunk (length c.args.rows.now) c.args.to.now.capacity c.requires.buffers.some c.requires.target.sized.most c.requires.within c.div_ceil-blocks.ensures c.loop-v-test.true

pub get-requires-clause-ready : goal.get-requires-clause-ready
get-requires-clause-ready g c = c.loop-v.invariant.went.lasts.ready

pub join_rows-requires-clause-kept : goal.join_rows-requires-clause-kept
join_rows-requires-clause-kept g c = c.requires.kept.wide

pub put-requires-clause-ready : goal.put-requires-clause-ready
put-requires-clause-ready g c = c.in_ok-get.ensures.gets.ok.lasts.ready

pub loop-v-smaller : goal.loop-v-smaller
loop-v-smaller g c = nearer c.loop-v-test.true

pub returns-clause-rows : goal.returns-clause-rows
returns-clause-rows g c = c.loop-v.invariant.same

pub returns-clause-out : goal.returns-clause-out
returns-clause-out g c = c.loop-v.invariant.out

pub returns-in_err-get-clause-rows : goal.returns-in_err-get-clause-rows
returns-in_err-get-clause-rows g c = fit_trans _ _ _ c.loop-v.invariant.same c.get.ensures.rows

pub returns-in_err-get-clause-out : goal.returns-in_err-get-clause-out
returns-in_err-get-clause-out g c = c.loop-v.invariant.out

pub returns-in-Err-clause-rows : goal.returns-in-Err-clause-rows
returns-in-Err-clause-rows g c = fit_trans _ _ _ c.loop-v.invariant.same c.get.ensures.rows

pub returns-in-Err-clause-out : goal.returns-in-Err-clause-out
returns-in-Err-clause-out g c = fit_trans _ _ _ c.loop-v.invariant.out c.join_rows.ensures.size

pub returns-in_err-put-clause-rows : goal.returns-in_err-put-clause-rows
returns-in_err-put-clause-rows g c = fit_trans _ _ _ c.loop-v.invariant.same c.get.ensures.rows

pub returns-in_err-put-clause-out : goal.returns-in_err-put-clause-out
returns-in_err-put-clause-out g c = fit_trans _ _ _ c.loop-v.invariant.out c.join_rows.ensures.size

pub get-requires-clause-spare : goal.get-requires-clause-spare
get-requires-clause-spare g c =
    let below : c.loop-v.v < rights (join_of (length c.args.rows.now) c.args.sides.now) = omega (arith, c.div_ceil-blocks.ensures) in
    (asks_after {m = 1} c.requires.asks c.loop-v.invariant.went (omega (arith, (pairs_length c.args.sides.now.right.now.region c.args.to.now.region (blocks_for (length c.args.rows.now) c.args.sides.now.right.now.capacity) c.args.chunk c.loop-v.v), below))).spare

pub put-requires-clause-spare : goal.put-requires-clause-spare
put-requires-clause-spare g c =
    let below : c.loop-v.v < rights (join_of (length c.args.rows.now) c.args.sides.now) = omega (arith, c.div_ceil-blocks.ensures) in
    (asks_after {m = 1} (asks_after {m = 2} c.requires.asks c.loop-v.invariant.went (omega (arith, (pairs_length c.args.sides.now.right.now.region c.args.to.now.region (blocks_for (length c.args.rows.now) c.args.sides.now.right.now.capacity) c.args.chunk c.loop-v.v), below))) c.in_ok-get.ensures.gets.ok (omega arith)).spare

pub put-requires-clause-few : goal.put-requires-clause-few
put-requires-clause-few g c =
    let below : c.loop-v.v < rights (join_of (length c.args.rows.now) c.args.sides.now) = omega (arith, c.div_ceil-blocks.ensures) in
    let asks = asks_after {m = 1} (asks_after {m = 2} c.requires.asks c.loop-v.invariant.went (omega (arith, (pairs_length c.args.sides.now.right.now.region c.args.to.now.region (blocks_for (length c.args.rows.now) c.args.sides.now.right.now.capacity) c.args.chunk c.loop-v.v), below))) c.in_ok-get.ensures.gets.ok (omega arith) in
    omega (arith, asks.few)

pub join_rows-requires-clause-to : goal.join_rows-requires-clause-to
join_rows-requires-clause-to g c =
    let columns = c.args.sides.now.left.now.schema ++ c.args.sides.now.right.now.schema in
    wide_same _ _ _ c.loop-v.invariant.out (wide_fit (width columns) c.args.out.now c.requires.buffers.out_fit)

pub join_rows-requires-clause-columns : goal.join_rows-requires-clause-columns
join_rows-requires-clause-columns g c = c.requires.columns

pub returns-in_err-get-clause-pairs : goal.returns-in_err-get-clause-pairs
returns-in_err-get-clause-pairs g c =
    let p = err_from_is_err_and c.from_residual.result c.from_residual.ensures.1 in
    let pack = length c.args.rows.now in
    let flat = c.args.sides.now.right.now in
    let b = flat.region in
    let to = c.args.to.now.region in
    let v = c.loop-v.v in
    let rights = blocks_of pack flat in
    let below : v < rights = omega (arith, c.div_ceil-blocks.ensures) in
    let before = c.loop-v.invariant in
    let went = before.went in
    rw (p.1, p.2) (record {
      ran = record {
        ok = tt;
        err = pass_each (one to) (pair_at b to rights c.args.chunk) _ _ _ _ rights v below went
            (pass_more (one to) _ _ _ (read_at b v) (write_at to (c.args.chunk * rights + v)) (pass_wider none _ _ (one to) (λ q s. absurd s) _ _ (pass_of _ _ _ _ _ c.in_err-get.ensures.gets.err)));
      };
      never = elim (get_refused pack flat v _ c.in_err-get.ensures.gets.err c.in_err-get.ensures.gets.never) [ inl failed ↦ inl failed | inr there ↦ inr (tampered_in below there) ];
      seals = seals_after went.lasts before.seals (seals_any c.get.ensures.gets.seals);
      filling = tt;
      told = λ honest left_slots slots all spelt is.
          let now = represents_lasts pack flat (one c.args.to.now.region) _ _ went.lasts c.requires.target.apart slots is in
          let shape = table_region c.requires.right.written.made.order pack flat.schema flat.capacity in
          (ap pass_error (c.in_err-get.ensures.gets.told _ shape (lives_went _ _ _ _ _ _ went c.requires.target.apart c.requires.right.written.made.lives) (block_long pack flat slots _ is c.requires.buffers.some v below) (now.holds v below) honest.nolie));
    })

pub returns-in-Err-clause-pairs : goal.returns-in-Err-clause-pairs
returns-in-Err-clause-pairs g c =
    let pack = length c.args.rows.now in
    let flat = c.args.sides.now.right.now in
    let b = flat.region in
    let to = c.args.to.now.region in
    let v = c.loop-v.v in
    let rights = blocks_of pack flat in
    let below : v < rights = omega (arith, c.div_ceil-blocks.ensures) in
    let before = c.loop-v.invariant in
    let went = before.went in
    let shape = table_region c.requires.right.written.made.order pack flat.schema flat.capacity in
    let lives = lives_went _ _ _ _ b shape went c.requires.target.apart c.requires.right.written.made.lives in
    let same = fit_trans _ _ _ before.same c.get.ensures.rows in
    let wide = wide_same (width flat.schema) _ _ same (wide_fit (width flat.schema) c.args.rows.now c.requires.buffers.rows_fit) in
    let lefts = c.requires.kept.spells in
    record {
      ran = record {
        ok = tt;
        err = pass_each (one to) (pair_at b to rights c.args.chunk) _ _ _ _ rights v below went
            (pass_more (one to) _ _ _ (read_at b v) (write_at to (c.args.chunk * rights + v)) (pass_wider none _ _ (one to) (λ q s. absurd s) _ _ (pass_malformed none _ _ b v c.in_ok-get.ensures.gets.ok)));
      };
      never = inr (tampered_in below (rows_malformed (length c.loop-v.rows) c.get.new.rows c.requires.buffers.some before.same.count same.count wide (c.in_ok-get.ensures.gets.opened shape lives)
          (λ slots is. c.in-Err.ensures.told lefts.slots slots lefts.spelt is)));
      seals = seals_after went.lasts before.seals (seals_any c.get.ensures.gets.seals);
      filling = tt;
      told = λ honest left_slots slots all spelt is.
          let now = represents_lasts pack flat (one c.args.to.now.region) _ _ went.lasts c.requires.target.apart slots is in
          let bytes = c.in_ok-get.ensures.gets.told _ shape lives (block_long pack flat slots _ is c.requires.buffers.some v below) (now.holds v below) honest.nolie in
          absurd (c.in-Err.ensures.told left_slots _ spelt (got pack flat slots _ is c.requires.buffers.some v (length c.loop-v.rows) c.get.new.rows below c.loop-v.invariant.same.count same.count wide bytes));
    }

pub returns-in_err-put-clause-pairs : goal.returns-in_err-put-clause-pairs
returns-in_err-put-clause-pairs g c =
    let p = err_from_is_err_and c.from_residual-in_err-put.result c.from_residual-in_err-put.ensures.1 in
    let pack = length c.args.rows.now in
    let flat = c.args.sides.now.right.now in
    let b = flat.region in
    let table = c.args.to.now in
    let to = table.region in
    let v = c.loop-v.v in
    let rights = blocks_of pack flat in
    let below : v < rights = omega (arith, c.div_ceil-blocks.ensures) in
    let before = c.loop-v.invariant in
    let went = before.went in
    let cut = rw c.div_ceil-blocks.ensures at c.in_err-put.ensures.puts.err in
    let read = c.in_ok-get.ensures.gets.ok in
    let filling = filling_read pack table _ _ _ _ read c.get.ensures.gets.turns before.filling in
    let shape = table_region filling.order pack table.schema table.capacity in
    let size = fit_trans _ _ _ before.out c.join_rows.ensures.size in
    let is = c.in-Ok.ensures.read in
    let lefts = c.requires.kept.spells in
    let spells = joined_slots c.args.sides.now.left.now.schema flat.schema table.schema c.args.sides.now.lcol c.args.sides.now.rcol _ _ is.slots lefts.slots c.join_rows.new.to c.requires.target.schema (c.in-Ok.ensures.told lefts.slots is.slots lefts.spelt is.spelt) in
    let failed = c.in_err-put.ensures.puts.never in
    rw (p.1, p.2) (record {
      ran = record {
        ok = tt;
        err = pass_each (one to) (pair_at b to rights c.args.chunk) _ _ _ _ rights v below went
            (pass_after (one to) _ _ _ _ (read_at b v) (write_at to (c.args.chunk * rights + v)) (went_wider none _ _ (one to) (λ q s. absurd s) _ read) (pass_of _ _ _ _ _ cut));
      };
      never = inl (ap pass_error failed);
      seals = seals_after went.lasts before.seals (seals_after read.lasts (seals_any c.get.ensures.gets.seals)
          (record { seals = λ good fine. c.put.ensures.puts.seals good shape filling.lives (accepted good pack to table.schema c.join_rows.new.to c.requires.buffers.some (size.count ∙ c.requires.buffers.same) fine spells) }));
      filling = tt;
      told = λ honest left_slots slots all spelt is. ap pass_error failed;
    })

pub returns-clause-pairs : goal.returns-clause-pairs
returns-clause-pairs g c =
    let pack = length c.args.rows.now in
    let to = c.args.to.now in
    let rights = blocks_of pack c.args.sides.now.right.now in
    let start = c.args.chunk * rights in
    let all = c.loop-v.invariant in
    let last : c.loop-v.v ≡ rights = omega (arith, c.div_ceil-blocks.ensures) in
    let end = ap (λ (n : ℕ). start + n) last in
    record {
      ran = record { ok = rw (all_done c.loop-v.auto.v-end c.loop-v-test.false ∙ c.div_ceil-blocks.ensures) at all.went; err = tt };
      never = tt;
      seals = all.seals;
      filling = filling_at pack to (start + c.loop-v.v) (start + rights) _ end all.filling;
      told = λ honest left right slots spelt is chunk holds. holds_at pack to (start + c.loop-v.v) (start + rights) slots _ end (all.told honest left right slots spelt is chunk holds);
    }
