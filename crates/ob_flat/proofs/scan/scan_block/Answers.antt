use Rattle.std.proofs.Common.{◌≡◌, ◌+◌, ◌*◌, ◌≤◌, ℕ, inr, length, refl, sym, ◌∙◌, ap, subst, arith}
use Rattle.std.proofs.lemmas.Result.{err_from_is_err_and}
use Rattle.ob_base.specs.Schemas.{width}
use Rattle.ob_vault.proofs.Runs.{may_get}
use Rattle.ob_blocks.specs.Blocks.{block_at}
use Rattle.ob_flat.specs.Flats.{table_region, whole_blocks}
use Rattle.ob_flat.specs.Passes.{pass_error}
use Rattle.ob_flat.specs.Words.{blocks_of}
use Rattle.ob_flat.proofs.Loops.{pack_fits, index_w32}
use Rattle.ob_flat.proofs.Rows.{wide_fit, wide_same}
use Rattle.ob_flat.proofs.Runs.{pass_of, pass_malformed}
use Rattle.ob_flat.proofs.Tables.{block_long, got, index_in}
use Rattle.ob_flat.proofs.WordLemmas.{get_refused, rows_malformed}
use Rattle.ob_flat.proofs.scan.scan_block.Goals as goal

pub overflow_cast-first : goal.overflow_cast-first
overflow_cast-first g c = pack_fits (length c.args.rows.now) c.requires.table.most

pub overflow_mul-first : goal.overflow_mul-first
overflow_mul-first g c =
    let table = c.requires.table in
    let pack = length c.args.rows.now in
    index_w32 c.args.place pack (index_in pack (blocks_of pack c.args.flat.now) c.args.place table.most table.size.blocks c.requires.within)

pub get-requires : goal.get-requires
get-requires g c =
    let table = c.requires.table.written in
    let flat = c.args.flat.now in
    let u = c.args.place in
    let shape = table_region table.order (length c.args.rows.now) flat.schema flat.capacity in
    record {
      ready = c.requires.spare.ready;
      spare = c.requires.spare.spare;
      place = may_get _ u shape _ _ table.lives c.requires.within c.requires.fit (table.written u c.requires.within);
    }

pub returns-in_err-get-clause-rows : goal.returns-in_err-get-clause-rows
returns-in_err-get-clause-rows g c = c.get.ensures.rows

pub returns-in_err-get-clause-spent : goal.returns-in_err-get-clause-spent
returns-in_err-get-clause-spent g c = c.get.ensures.spent

pub returns-in_err-get-clause-scans : goal.returns-in_err-get-clause-scans
returns-in_err-get-clause-scans g c =
    let p = err_from_is_err_and c.from_residual.result c.from_residual.ensures.1 in
    let table = c.requires.table in
    let pack = length c.args.rows.now in
    let flat = c.args.flat.now in
    let u = c.args.place in
    let read = c.in_err-get.ensures.gets in
    let shape = table_region table.written.order pack flat.schema flat.capacity in
    rw (p.1, p.2) (record {
      ran = record { ok = tt; err = pass_of _ _ _ _ _ read.err };
      never = get_refused pack flat u _ read.err read.never;
      seals = record { seals = c.get.ensures.gets.seals };
      suits = tt;
      told = λ slots is nolie. ap pass_error (read.told _ shape table.written.lives (block_long pack flat slots _ is table.some u c.requires.within) (is.holds u c.requires.within) nolie);
    })

pub visit_rows-requires : goal.visit_rows-requires
visit_rows-requires g c =
    let table = c.requires.table in
    let pack = length c.args.rows.now in
    let u = c.args.place in
    let same = c.get.ensures.rows in
    record {
      wide = wide_same _ _ _ same (wide_fit (width c.args.flat.now.schema) c.args.rows.now c.requires.fit);
      index = subst (λ (n : ℕ). u * pack + n ≤ 2147483648) (sym same.count) (index_in pack (blocks_of pack c.args.flat.now) u table.most table.size.blocks c.requires.within);
      suits = c.requires.suits;
    }

pub returns-in-Ok-clause-rows : goal.returns-in-Ok-clause-rows
returns-in-Ok-clause-rows g c = c.get.ensures.rows

pub returns-in-Ok-clause-spent : goal.returns-in-Ok-clause-spent
returns-in-Ok-clause-spent g c = c.get.ensures.spent

pub returns-in-Ok-clause-scans : goal.returns-in-Ok-clause-scans
returns-in-Ok-clause-scans g c =
    let table = c.requires.table in
    let pack = length c.args.rows.now in
    let flat = c.args.flat.now in
    let u = c.args.place in
    let below = c.requires.within in
    let read = c.in_ok-get.ensures.gets in
    let same = c.get.ensures.rows in
    let wide = wide_same (width flat.schema) _ _ same (wide_fit (width flat.schema) c.args.rows.now c.requires.fit) in
    let shape = table_region table.written.order pack flat.schema flat.capacity in
    record {
      ran = record { ok = read.ok; err = tt };
      never = tt;
      seals = record { seals = c.get.ensures.gets.seals };
      suits = subst (g.V.Visit.Suits flat c.visit_rows.new.visit) (more u pack (length c.get.new.rows) same.count) c.in-Ok.ensures.suits;
      told = λ slots is nolie.
          let bytes = read.told _ shape table.written.lives (block_long pack flat slots _ is table.some u below) (is.holds u below) nolie in
          c.in-Ok.ensures.told (block_at pack (whole_blocks pack flat.capacity slots) u) (got pack flat slots _ is table.some u pack c.get.new.rows below refl same.count wide bytes);
    }
  where
    more : (u pack n : ℕ) → n ≡ pack → u * pack + n ≡ (u + 1) * pack
    more u pack n same = ap (λ (k : ℕ). u * pack + k) same ∙ grind arith

pub returns-in-Err-clause-rows : goal.returns-in-Err-clause-rows
returns-in-Err-clause-rows g c = c.get.ensures.rows

pub returns-in-Err-clause-spent : goal.returns-in-Err-clause-spent
returns-in-Err-clause-spent g c = c.get.ensures.spent

pub returns-in-Err-clause-scans : goal.returns-in-Err-clause-scans
returns-in-Err-clause-scans g c =
    let table = c.requires.table in
    let pack = length c.args.rows.now in
    let flat = c.args.flat.now in
    let u = c.args.place in
    let below = c.requires.within in
    let read = c.in_ok-get.ensures.gets in
    let same = c.get.ensures.rows in
    let wide = wide_same (width flat.schema) _ _ same (wide_fit (width flat.schema) c.args.rows.now c.requires.fit) in
    let shape = table_region table.written.order pack flat.schema flat.capacity in
    record {
      ran = record { ok = tt; err = pass_malformed _ _ _ flat.region u read.ok };
      never = inr (rows_malformed pack c.get.new.rows table.some refl same.count wide (read.opened shape table.written.lives) c.in-Err.ensures.told);
      seals = record { seals = c.get.ensures.gets.seals };
      suits = tt;
      told = λ slots is nolie.
          let bytes = read.told _ shape table.written.lives (block_long pack flat slots _ is table.some u below) (is.holds u below) nolie in
          absurd (c.in-Err.ensures.told _ (got pack flat slots _ is table.some u pack c.get.new.rows below refl same.count wide bytes));
    }
