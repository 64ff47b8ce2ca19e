use Rattle.std.proofs.Common.{◌≤◌, ◌+◌, ◌*◌, ℕ, inl, inr, length, refl, Fits, w32, sym, ap, subst, ◌∙◌}
use Rattle.std.proofs.lemmas.Result.{err_from_is_err_and}
use Rattle.ob_base.specs.Accesses.{read_at, write_at}
use Rattle.ob_base.specs.Schemas.{width}
use Rattle.std.proofs.lemmas.Bool.{cases_eq}
use Rattle.ob_vault.specs.Calls.{none, one}
use Rattle.ob_vault.specs.Tied.{Written}
use Rattle.ob_vault.specs.Places.{at}
use Rattle.ob_vault.proofs.Runs.{went_join, went_wider, went_spent, lives_went, lives_only, written_went, written_only, own_lasts, own_only, tells_went, fit_same, fit_trans, may_get, may_put, next_turn, holds_rows}
use Rattle.ob_vault.proofs.WordLemmas.{honest_before, honest_after}
use Rattle.ob_blocks.specs.Blocks.{block_at}
use Rattle.ob_flat.specs.Flats.{HoldsBlock, table_region}
use Rattle.ob_flat.specs.Passes.{pass_error}
use Rattle.ob_flat.specs.Words.{SealsTable, blocks_of}
use Rattle.ob_flat.proofs.Rows.{wide_fit, wide_same, spelt_fits}
use Rattle.ob_flat.proofs.Loops.{pack_fits, index_w32, less_same, one_of_two, one_is_left}
use Rattle.ob_flat.proofs.Runs.{pass_of, pass_more, pass_after, pass_wider, pass_malformed}
use Rattle.ob_flat.proofs.Tables.{index_in, slots_long, slots_got, slots_lasts, slots_put, accepted, joined_block, rows_lasts, block_only, block_put}
use Rattle.ob_flat.proofs.WordLemmas.{seals_any, seals_after, get_refused, rows_malformed}
use Rattle.ob_flat.proofs.rework.rework_block.Goals as goal

pub get-requires : goal.get-requires
get-requires g c =
    let table = c.requires.table in
    let flat = c.args.flat.now in
    let shape = table_region table.order (length c.args.rows.now) flat.schema flat.capacity in
    record {
      ready = c.requires.spare.ready;
      spare = one_of_two c.requires.spare.spare;
      place = may_get _ c.args.place shape _ _ table.turn.lives table.within c.requires.fit (table.turn.written c.args.place table.within);
    }

pub returns-in_err-get-clause-rows : goal.returns-in_err-get-clause-rows
returns-in_err-get-clause-rows g c = c.get.ensures.rows

pub returns-in_err-get-clause-reworks : goal.returns-in_err-get-clause-reworks
returns-in_err-get-clause-reworks g c =
    let p = err_from_is_err_and c.from_residual.result c.from_residual.ensures.1 in
    let table = c.requires.table in
    let pack = length c.args.rows.now in
    let flat = c.args.flat.now in
    let q = flat.region in
    let x = c.args.place in
    let read = c.in_err-get.ensures.gets in
    rw (p.1, p.2) (record {
      ran = record { ok = tt; err = pass_more (one q) _ _ _ (read_at q x) (write_at q x) (pass_wider none _ _ (one q) (λ q s. absurd s) _ _ (pass_of _ _ _ _ _ read.err)) };
      never = get_refused pack flat x _ read.err read.never;
      seals = seals_any c.get.ensures.gets.seals;
      suits = tt;
      turn = tt;
      holds = tt;
      told = λ honest slots is. ap pass_error (read.told _ (table_region table.order pack flat.schema flat.capacity) table.turn.lives (slots_long pack flat slots _ is table.some x table.within) (is.holds x table.within) honest.nolie);
    })

pub overflow_cast-first : goal.overflow_cast-first
overflow_cast-first g c = pack_fits (length c.get.new.rows) (subst (λ (n : ℕ). n ≤ 16) (sym c.get.ensures.rows.count) c.requires.table.most)

pub overflow_mul-first : goal.overflow_mul-first
overflow_mul-first g c =
    let table = c.requires.table in
    let pack = length c.args.rows.now in
    let x = c.args.place in
    subst (λ (n : ℕ). Fits w32 (x * n)) (sym c.get.ensures.rows.count) (index_w32 x pack (index_in pack (blocks_of pack c.args.flat.now) x table.most table.size.blocks table.within))

pub rework-requires : goal.rework-requires
rework-requires g c =
    let table = c.requires.table in
    let pack = length c.args.rows.now in
    let x = c.args.place in
    let same = c.get.ensures.rows in
    record {
      wide = wide_same _ _ _ same (wide_fit (width c.args.flat.now.schema) c.args.rows.now c.requires.fit);
      index = subst (λ (n : ℕ). x * n + n ≤ 2147483648) (sym same.count) (index_in pack (blocks_of pack c.args.flat.now) x table.most table.size.blocks table.within);
      suits = c.requires.suits;
    }

pub returns-in-Err-clause-rows : goal.returns-in-Err-clause-rows
returns-in-Err-clause-rows g c = fit_trans c.args.rows.now c.get.new.rows c.rework.new.rows c.get.ensures.rows c.rework.ensures.rows

pub returns-in-Err-clause-reworks : goal.returns-in-Err-clause-reworks
returns-in-Err-clause-reworks g c =
    let table = c.requires.table in
    let pack = length c.args.rows.now in
    let flat = c.args.flat.now in
    let q = flat.region in
    let x = c.args.place in
    let read = c.in_ok-get.ensures.gets in
    let shape = table_region table.order pack flat.schema flat.capacity in
    let wide = wide_same (width flat.schema) _ _ c.get.ensures.rows (wide_fit (width flat.schema) c.args.rows.now c.requires.fit) in
    record {
      ran = record { ok = tt; err = pass_more (one q) _ _ _ (read_at q x) (write_at q x) (pass_wider none _ _ (one q) (λ q s. absurd s) _ _ (pass_malformed none _ _ q x read.ok)) };
      never = inr (rows_malformed pack c.get.new.rows table.some refl c.get.ensures.rows.count wide (read.opened shape table.turn.lives) c.in-Err.ensures.told);
      seals = seals_any c.get.ensures.gets.seals;
      suits = tt;
      turn = tt;
      holds = tt;
      told = λ honest slots is.
          let bytes = read.told _ shape table.turn.lives (slots_long pack flat slots _ is table.some x table.within) (is.holds x table.within) honest.nolie in
          absurd (c.in-Err.ensures.told _ (slots_got pack flat slots _ is table.some x pack c.get.new.rows table.within refl c.get.ensures.rows.count wide bytes));
    }

pub put-requires : goal.put-requires
put-requires g c =
    let table = c.requires.table in
    let flat = c.args.flat.now in
    let x = c.args.place in
    let read = c.in_ok-get.ensures.gets.ok in
    let shape = table_region table.order (length c.args.rows.now) flat.schema flat.capacity in
    let same = fit_trans _ _ _ c.get.ensures.rows c.rework.ensures.rows in
    record {
      ready = read.lasts.ready;
      spare = one_is_left c.requires.spare.spare read.spare;
      few = less_same (went_spent _ _ _ _ read) c.requires.few;
      place = may_put _ x shape _ _ (own_lasts _ _ _ read.lasts flat.region table.turn.own) (lives_went none _ _ _ flat.region shape read (λ s. s) table.turn.lives) table.within (fit_same _ _ _ same c.requires.fit) (c.get.ensures.gets.turns flat.region x shape table.turn.turn);
    }

pub returns-in_err-put-clause-rows : goal.returns-in_err-put-clause-rows
returns-in_err-put-clause-rows g c = fit_trans c.args.rows.now c.get.new.rows c.rework.new.rows c.get.ensures.rows c.rework.ensures.rows

pub returns-in_err-put-clause-reworks : goal.returns-in_err-put-clause-reworks
returns-in_err-put-clause-reworks g c =
    let p = err_from_is_err_and c.from_residual-in_err-put.result c.from_residual-in_err-put.ensures.1 in
    let table = c.requires.table in
    let pack = length c.args.rows.now in
    let flat = c.args.flat.now in
    let q = flat.region in
    let x = c.args.place in
    let read = c.in_ok-get.ensures.gets.ok in
    let put = c.in_err-put.ensures.puts in
    let shape = table_region table.order pack flat.schema flat.capacity in
    let lives = lives_went none _ _ _ q shape read (λ s. s) table.turn.lives in
    let same = fit_trans _ _ _ c.get.ensures.rows c.rework.ensures.rows in
    let mid = at g.R.Revisions.state c.get.new.self (g.S.BlockStore.state c.get.new.store) in
    let new = at g.R.Revisions.state c.put.new.self (g.S.BlockStore.state c.put.new.store) in
    let sealed : SealsTable pack flat.schema q mid new = record { seals = λ good fine. c.put.ensures.puts.seals good shape lives (accepted good pack q flat.schema c.rework.new.rows table.some same.count fine c.in-Ok.ensures.spells) } in
    rw (p.1, p.2) (record {
      ran = record { ok = tt; err = pass_after (one q) _ _ _ _ (read_at q x) (write_at q x) (went_wider none _ _ (one q) (λ q s. absurd s) _ read) (pass_of _ _ _ _ _ put.err) };
      never = inl (ap pass_error put.never);
      seals = seals_after read.lasts (seals_any c.get.ensures.gets.seals) sealed;
      suits = tt;
      turn = tt;
      holds = tt;
      told = λ honest slots is. ap pass_error put.never;
    })

pub returns-clause-rows : goal.returns-clause-rows
returns-clause-rows g c = fit_trans c.args.rows.now c.get.new.rows c.rework.new.rows c.get.ensures.rows c.rework.ensures.rows

pub returns-clause-reworks : goal.returns-clause-reworks
returns-clause-reworks g c =
    let table = c.requires.table in
    let pack = length c.args.rows.now in
    let flat = c.args.flat.now in
    let q = flat.region in
    let x = c.args.place in
    let below = table.within in
    let read = c.in_ok-get.ensures.gets.ok in
    let put = c.in_ok-put.ensures.puts in
    let only = c.put.ensures.puts.only in
    let shape = table_region table.order pack flat.schema flat.capacity in
    let lives = lives_went none _ _ _ q shape read (λ s. s) table.turn.lives in
    let same = fit_trans _ _ _ c.get.ensures.rows c.rework.ensures.rows in
    let mid = at g.R.Revisions.state c.get.new.self (g.S.BlockStore.state c.get.new.store) in
    let new = at g.R.Revisions.state c.put.new.self (g.S.BlockStore.state c.put.new.store) in
    let sealed : SealsTable pack flat.schema q mid new = record { seals = λ good fine. c.put.ensures.puts.seals good shape lives (accepted good pack q flat.schema c.rework.new.rows table.some same.count fine c.in-Ok.ensures.spells) } in
    record {
      ran = record { ok = went_join (one q) _ _ _ (read_at q x) (write_at q x) (went_wider none _ _ (one q) (λ q s. absurd s) _ read) put.ok; err = tt };
      never = tt;
      seals = seals_after read.lasts (seals_any c.get.ensures.gets.seals) sealed;
      suits = c.in-Ok.ensures.suits;
      turn = record {
        moves = λ order is.
            let region = table_region order pack flat.schema flat.capacity in
            let here = lives_went none _ _ _ q region read (λ s. s) is.lives in
            record {
              own = own_only _ _ _ _ only q (own_lasts _ _ _ read.lasts q is.own);
              lives = lives_only _ _ _ _ only _ _ here;
              turn = next_turn q x region _ (c.put.ensures.puts.turn region here);
              written = λ p less. elim (cases_eq p x) [
                | inl same ↦ subst (λ (n : ℕ). Written q n new) (sym same) c.put.ensures.puts.written
                | inr other ↦ written_only _ _ _ _ only _ p (λ _ at. other at) (written_went none _ _ _ _ p read (λ s. s) (is.written p less))
              ];
            };
      };
      holds = λ tells is.
          let was = rows_lasts pack flat none _ _ read.lasts (λ s. s) is in
          let here = block_put pack flat.schema c.rework.new.rows q x new table.some same.count c.in-Ok.ensures.spells (put.told (tells_went _ _ _ _ read tells) shape lives) in
          record {
            each = λ p less. elim (cases_eq p x) [
              | inl same ↦ subst (λ (n : ℕ). HoldsBlock pack flat.schema q n new) (sym same) here
              | inr other ↦ block_only pack flat.schema mid new q x q p only (λ _ at. other at) (was.each p less)
            ];
          };
      told = λ honest slots is.
          let gone = honest_before put.ok.lasts honest in
          let bytes = c.in_ok-get.ensures.gets.told _ shape table.turn.lives (slots_long pack flat slots _ is table.some x below) (is.holds x below) gone.nolie in
          let wide = wide_same (width flat.schema) _ _ c.get.ensures.rows (wide_fit (width flat.schema) c.args.rows.now c.requires.fit) in
          let spelt = slots_got pack flat slots _ is table.some x pack c.get.new.rows below refl c.get.ensures.rows.count wide bytes in
          let made = c.in-Ok.ensures.told (block_at pack slots x) spelt in
          let now = slots_lasts pack flat none _ _ read.lasts (λ s. s) slots is in
          let here = holds_rows _ _ _ _ _ (joined_block pack flat.schema made.0 c.rework.new.rows table.some same.count made.2) (put.told (honest_after read honest).tells shape lives) in (
            made.0,
            subst (λ (n : ℕ). g.W.Rework.Makes flat.schema c.args.work.now c.rework.new.self (x * n) (block_at pack slots x) made.0) c.get.ensures.rows.count made.1,
            slots_put pack flat slots _ now table.some _ x made.0 below (made.2.count ∙ same.count) (spelt_fits flat.schema made.0 c.rework.new.rows made.2) only here,
          );
    }
