use Rattle.std.proofs.Common.{inr, length, refl, ap, arith}
use Rattle.std.proofs.lemmas.Result.{err_from_is_err_and}
use Rattle.ob_base.specs.Schemas.{width}
use Rattle.ob_vault.proofs.Runs.{may_get}
use Rattle.ob_blocks.specs.Blocks.{block_at}
use Rattle.ob_flat.specs.Flats.{table_region, whole_blocks}
use Rattle.ob_flat.specs.Passes.{pass_error}
use Rattle.ob_flat.proofs.Rows.{wide_fit, wide_same}
use Rattle.ob_flat.proofs.Runs.{pass_of, pass_malformed}
use Rattle.ob_flat.proofs.Tables.{index_in, block_long, got}
use Rattle.ob_flat.proofs.WordLemmas.{get_refused, rows_malformed}
use Rattle.ob_small.proofs.collecting.collect_block.Goals as goal

pub get-requires-clause-place : goal.get-requires-clause-place
get-requires-clause-place g c =
    let is = c.requires.table.written in
    may_get _ c.args.place (table_region is.order (length c.args.rows.now) c.args.flat.now.schema c.args.flat.now.capacity) _ _ is.lives c.requires.within c.requires.fit (is.written c.args.place c.requires.within)

pub returns-in_err-get-clause-collects : goal.returns-in_err-get-clause-collects
returns-in_err-get-clause-collects g c =
    let p = err_from_is_err_and c.from_residual.result c.from_residual.ensures.1 in
    let table = c.requires.table in
    let pack = length c.args.rows.now in
    let flat = c.args.flat.now in
    let u = c.args.place in
    let read = c.in_err-get.ensures.gets in
    rw (p.1, p.2) (record {
      ran = record { ok = tt; err = pass_of _ _ _ _ _ read.err };
      never = get_refused pack flat u _ read.err read.never;
      seals = record { seals = c.get.ensures.gets.seals };
      turns = tt;
      most = tt;
      spells = tt;
      told = λ slots is nolie.
          ap pass_error (read.told _ (table_region table.written.order pack flat.schema flat.capacity) table.written.lives (block_long pack flat slots _ is table.some u c.requires.within) (is.holds u c.requires.within) nolie);
    })

pub keep_rows-requires-clause-wide : goal.keep_rows-requires-clause-wide
keep_rows-requires-clause-wide g c = wide_same _ _ _ c.get.ensures.rows (wide_fit (width c.args.flat.now.schema) c.args.rows.now c.requires.fit)

pub keep_rows-requires-clause-few : goal.keep_rows-requires-clause-few
keep_rows-requires-clause-few g c =
    let table = c.requires.table in
    omega (arith, c.get.ensures.rows.count, c.requires.few, index_in (length c.args.rows.now) _ c.args.place table.most table.size.blocks c.requires.within)

pub returns-in-Ok-clause-collects : goal.returns-in-Ok-clause-collects
returns-in-Ok-clause-collects g c =
    let table = c.requires.table in
    let pack = length c.args.rows.now in
    let flat = c.args.flat.now in
    let u = c.args.place in
    let read = c.in_ok-get.ensures.gets in
    let keeps = c.in-Ok.ensures.keeps in
    let same = c.get.ensures.rows in
    record {
      ran = record { ok = read.ok; err = tt };
      never = tt;
      seals = record { seals = c.get.ensures.gets.seals };
      turns = c.get.ensures.gets.turns;
      most = omega (arith, keeps.most, same.count);
      spells = keeps.spells;
      told = λ slots is nolie before seen.
          let bytes = read.told _ (table_region table.written.order pack flat.schema flat.capacity) table.written.lives (block_long pack flat slots _ is table.some u c.requires.within) (is.holds u c.requires.within) nolie in
          let wide = wide_same (width flat.schema) _ _ same (wide_fit (width flat.schema) c.args.rows.now c.requires.fit) in
          let spelt = got pack flat slots _ is table.some u (length c.args.rows.now) c.get.new.rows c.requires.within refl same.count wide bytes in
          let after = keeps.told before (block_at pack (whole_blocks pack flat.capacity slots) u) spelt seen.count seen.kept in
          record { count = after.0; kept = after.1 };
    }

pub returns-in-Err-clause-collects : goal.returns-in-Err-clause-collects
returns-in-Err-clause-collects g c =
    let table = c.requires.table in
    let pack = length c.args.rows.now in
    let flat = c.args.flat.now in
    let u = c.args.place in
    let read = c.in_ok-get.ensures.gets in
    let malformed = c.in-Err.ensures.keeps.malformed in
    let same = c.get.ensures.rows in
    let wide = wide_same (width flat.schema) _ _ same (wide_fit (width flat.schema) c.args.rows.now c.requires.fit) in
    let shape = table_region table.written.order pack flat.schema flat.capacity in
    record {
      ran = record { ok = tt; err = pass_malformed _ _ _ flat.region u read.ok };
      never = inr (rows_malformed (length c.args.rows.now) c.get.new.rows table.some refl same.count wide (read.opened shape table.written.lives) malformed);
      seals = record { seals = c.get.ensures.gets.seals };
      turns = tt;
      most = tt;
      spells = tt;
      told = λ slots is nolie.
          let bytes = read.told _ shape table.written.lives (block_long pack flat slots _ is table.some u c.requires.within) (is.holds u c.requires.within) nolie in
          absurd (malformed _ (got pack flat slots _ is table.some u (length c.args.rows.now) c.get.new.rows c.requires.within refl same.count wide bytes));
    }
