use Rattle.std.proofs.Common.{◌≤◌, ◌+◌, ℕ, inr, length, sym, ap, subst}
use Rattle.std.proofs.lemmas.Result.{err_from_is_err_and}
use Rattle.ob_base.specs.Schemas.{width}
use Rattle.ob_row.specs.Spelling.{kind_at}
use Rattle.ob_row.specs.Truth.{is_true}
use Rattle.ob_blocks.specs.Blocks.{block_at}
use Rattle.ob_flat.specs.Flats.{table_region, whole_blocks}
use Rattle.ob_flat.specs.Passes.{pass_error}
use Rattle.ob_flat.proofs.Rooms.{same_rows}
use Rattle.ob_flat.proofs.Rows.{wide_fit, wide_same}
use Rattle.ob_flat.proofs.Runs.{pass_of, pass_malformed}
use Rattle.ob_flat.proofs.Tables.{block_long, got}
use Rattle.ob_flat.proofs.WordLemmas.{get_refused, rows_malformed}
use Rattle.std.proofs.Common.{refl}
use Rattle.ob_group.specs.Grouping.{aggs_of, groups_with}
use Rattle.ob_group.specs.Held.{AreGroups, MayGrow}
use Rattle.ob_group.proofs.SlotLemmas.{spelt_same}
use Rattle.ob_group.proofs.reading.group_block.Goals as goal

pub returns-in_err-get-clause-gathers : goal.returns-in_err-get-clause-gathers
returns-in_err-get-clause-gathers g c =
    let p = err_from_is_err_and c.from_residual.result c.from_residual.ensures.1 in
    let table = c.requires.table in
    let pack = length c.args.rows.now in
    let flat = c.args.flat.now in
    let u = c.args.place in
    let read = c.in_err-get.ensures.gets in
    rw (p.1, p.2) (record {
      ran = record { ok = tt; err = pass_of _ _ _ _ _ read.err };
      never = get_refused pack flat u _ read.err read.never;
      seals = record { seals = c.get.ensures.gets.seals };
      size = same_rows c.args.groups.now;
      kept = tt;
      held = tt;
      told = λ slots is nolie.
          ap pass_error (read.told _ (table_region table.written.order pack flat.schema flat.capacity) table.written.lives (block_long pack flat slots _ is table.some u c.requires.within) (is.holds u c.requires.within) nolie);
    })

pub group_rows-requires-clause-wide : goal.group_rows-requires-clause-wide
group_rows-requires-clause-wide g c = wide_same _ _ _ c.get.ensures.rows (wide_fit (width c.args.flat.now.schema) c.args.rows.now c.requires.fit)

pub group_rows-requires-clause-held : goal.group_rows-requires-clause-held
group_rows-requires-clause-held g c =
    subst (λ (n : ℕ). MayGrow (kind_at c.args.flat.now.schema c.args.key) (length c.args.items.now) c.args.n n c.args.groups.now) (sym c.get.ensures.rows.count) c.requires.held

pub returns-in-Ok-clause-gathers : goal.returns-in-Ok-clause-gathers
returns-in-Ok-clause-gathers g c =
    let table = c.requires.table in
    let pack = length c.args.rows.now in
    let flat = c.args.flat.now in
    let u = c.args.place in
    let read = c.in_ok-get.ensures.gets in
    let same = c.get.ensures.rows in
    let block = c.in-Ok.ensures.gathers.held in
    record {
      ran = record { ok = read.ok; err = tt };
      never = tt;
      seals = record { seals = c.get.ensures.gets.seals };
      size = c.group_rows.ensures.gathers.size;
      kept = c.in-Ok.ensures.kept;
      held = record {
        block = block.slots;
        put = λ gs m few are.
            subst (λ (n : ℕ). AreGroups (kind_at flat.schema c.args.key) (m + n) (length c.args.items.now) c.in-Ok.more
            (groups_with (is_true c.args.pred.now) c.args.key (aggs_of c.args.items.now) gs block.slots) c.group_rows.new.groups) same.count
            (block.put gs m (subst (λ (n : ℕ). m + n ≤ 2147483648) (sym same.count) few) are);
        told = λ slots is nolie.
            let bytes = read.told _ (table_region table.written.order pack flat.schema flat.capacity) table.written.lives (block_long pack flat slots _ is table.some u c.requires.within) (is.holds u c.requires.within) nolie in
            let wide = wide_same (width flat.schema) _ _ same (wide_fit (width flat.schema) c.args.rows.now c.requires.fit) in
            let spelt = got pack flat slots _ is table.some u (length c.args.rows.now) c.get.new.rows c.requires.within refl same.count wide bytes in
            spelt_same flat.schema block.slots (block_at pack (whole_blocks pack flat.capacity slots) u) c.get.new.rows block.spelt spelt;
      };
      told = λ slots is nolie. tt;
    }

pub returns-in-Err-clause-gathers : goal.returns-in-Err-clause-gathers
returns-in-Err-clause-gathers g c =
    let table = c.requires.table in
    let pack = length c.args.rows.now in
    let flat = c.args.flat.now in
    let u = c.args.place in
    let read = c.in_ok-get.ensures.gets in
    let same = c.get.ensures.rows in
    let wide = wide_same (width flat.schema) _ _ same (wide_fit (width flat.schema) c.args.rows.now c.requires.fit) in
    let shape = table_region table.written.order pack flat.schema flat.capacity in
    record {
      ran = record { ok = tt; err = pass_malformed _ _ _ flat.region u read.ok };
      never = inr (rows_malformed (length c.args.rows.now) c.get.new.rows table.some refl same.count wide (read.opened shape table.written.lives)
          (λ slots is. c.in-Err.ensures.gathers.malformed (record { slots = slots; spelt = is })));
      seals = record { seals = c.get.ensures.gets.seals };
      size = c.group_rows.ensures.gathers.size;
      kept = tt;
      held = tt;
      told = λ slots is nolie.
          let bytes = read.told _ shape table.written.lives (block_long pack flat slots _ is table.some u c.requires.within) (is.holds u c.requires.within) nolie in
          let spelt = got pack flat slots _ is table.some u (length c.args.rows.now) c.get.new.rows c.requires.within refl same.count wide bytes in
          absurd (c.in-Err.ensures.gathers.malformed (record { slots = block_at pack (whole_blocks pack flat.capacity slots) u; spelt = spelt }));
    }

-- ---- what is left to ask
pub returns-in_err-get-clause-spent : goal.returns-in_err-get-clause-spent
returns-in_err-get-clause-spent g c = c.get.ensures.spent

pub returns-in-Ok-clause-spent : goal.returns-in-Ok-clause-spent
returns-in-Ok-clause-spent g c = c.get.ensures.spent

pub returns-in-Err-clause-spent : goal.returns-in-Err-clause-spent
returns-in-Err-clause-spent g c = c.get.ensures.spent
