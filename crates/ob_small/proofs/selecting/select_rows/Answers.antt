use Rattle.std.proofs.Common.{◌≤◌, ◌+◌, ◌^◌, ℕ, length, ◌∙◌, refl, arith}
use Rattle.std.proofs.lemmas.Result.{err_from_is_err_and}
use Rattle.ob_base.specs.Schemas.{Columns}
use Rattle.ob_vault.specs.Calls.{one}
use Rattle.ob_vault.proofs.Runs.{lives_apart}
use Rattle.ob_vault.proofs.WordLemmas.{asks_start, asks_after}
use Rattle.ob_flat.specs.Flats.{IsSized}
use Rattle.ob_flat.proofs.Loops.{pack_fits}
use Rattle.ob_flat.proofs.Rooms.{same_rows}
use Rattle.ob_flat.proofs.Tables.{flat_lasts, blocks_few, fits_sized}
use Rattle.ob_small.specs.Selection.{Selection, select_of, blocks, results, passes, fill_length}
use Rattle.ob_small.proofs.Lengths.{passes_few, product_few}
use Rattle.ob_small.proofs.Selected.{selects_none, selects_ok, selects_err}
use Rattle.ob_small.proofs.selecting.select_rows.Goals as goal

-- a table of fewer slots
sized_less : (columns : Columns) (n k : ℕ) → IsSized columns n → (1 ≤ k) × (k ≤ n) → IsSized columns k
sized_less columns n k is some = record { some = is.some; few = is.few; wide = is.wide; least = some.0; most = omega (arith, is.most, some.1) }

-- what fills a result is not too much
fill_few : (s : Selection) → 1 ≤ s.pack → 1 ≤ s.buffered → s.k ≤ 16777216 → s.flat.capacity ≤ 16777216 → 1 + fill_length s ≤ 2 ^ 59
fill_few s some buffered few most =
    let few_results : results s ≤ 16777216 = omega (arith, blocks_few s.pack s.k some, few) in
    let few_blocks : blocks s ≤ 16777216 = omega (arith, blocks_few s.pack s.flat.capacity some, most) in
    let few_passes : passes s ≤ 16777216 = omega (arith, passes_few (results s) s.buffered buffered, few_results) in
    omega (arith, product_few (passes s) (blocks s) few_passes few_blocks, few_results)

pub overflow_cast-pack : goal.overflow_cast-pack
overflow_cast-pack g c = pack_fits (length c.args.rows.now) c.requires.table.most

pub make_table-requires : goal.make_table-requires
make_table-requires g c =
    let table = c.requires.table in
    record {
      spare = record { ready = c.requires.starts.ready; spare = omega (arith, c.requires.starts.spare) };
      few = omega (arith, c.requires.starts.few);
      size = fits_sized (length c.args.rows.now) c.args.flat.now.schema c.args.k table.some (sized_less c.args.flat.now.schema c.args.flat.now.capacity c.args.k table.size c.requires.number);
      pack = (table.some, table.most);
    }

pub returns-in_err-region-clause-rows : goal.returns-in_err-region-clause-rows
returns-in_err-region-clause-rows g c = same_rows c.args.rows.now

pub returns-in_err-region-clause-kept : goal.returns-in_err-region-clause-kept
returns-in_err-region-clause-kept g c = same_rows c.args.kept.now

pub returns-in_err-region-clause-selects : goal.returns-in_err-region-clause-selects
returns-in_err-region-clause-selects g c =
    let p = err_from_is_err_and c.from_residual.result c.from_residual.ensures.1 in
    let s = select_of (length c.args.rows.now) c.args.buffered c.args.flat.now c.args.pred.now c.args.k in
    let made = c.in_err-region.ensures.makes in
    rw (p.1, p.2) (selects_none s _ c.requires.starts.ready c.requires.table _ _ made.ran.err made.never made.memory made.gone made.seals.seals)

pub fill_result-requires : goal.fill_result-requires
fill_result-requires g c =
    let pack = length c.args.rows.now in
    let flat = c.args.flat.now in
    let s = select_of pack c.args.buffered flat c.args.pred.now c.args.k in
    let made = c.in_ok-region.ensures.makes in
    let table = c.requires.table in
    let off = lives_apart _ _ _ c.requires.starts.ready table.written.made.lives in
    let most : c.args.k ≤ 16777216 = omega (arith, c.requires.number.1, table.size.most) in
    record {
      asks = asks_after {m = fill_length s} (asks_start c.requires.starts (fill_few s table.some c.requires.buffers.some most table.size.most)) made.ran.ok (omega arith);
      table = record { some = table.some; most = table.most; size = table.size; written = flat_lasts pack flat (one c.args.vault.now.next) _ _ made.ran.ok.lasts off table.written };
      new = record {
        same = rw c.copied.ensures;
        least = c.requires.number.0;
        most = most;
        made = rw (made.number, c.copied.ensures) made.made;
        apart = λ same. off (same ∙ made.number);
      };
      fit = c.requires.fit;
      buffers = record { some = c.requires.buffers.some; space = c.requires.buffers.space; wide = c.requires.buffers.wide };
    }

pub returns-in-Ok-clause-rows : goal.returns-in-Ok-clause-rows
returns-in-Ok-clause-rows g c = c.fill_result.ensures.rows

pub returns-in-Ok-clause-kept : goal.returns-in-Ok-clause-kept
returns-in-Ok-clause-kept g c = c.fill_result.ensures.kept

pub returns-in-Ok-clause-selects : goal.returns-in-Ok-clause-selects
returns-in-Ok-clause-selects g c =
    let s = select_of (length c.args.rows.now) c.args.buffered c.args.flat.now c.args.pred.now c.args.k in
    let made = c.in_ok-region.ensures.makes in
    let fills = rw made.number at c.in-Ok.ensures.fills in
    rw (c.copied.ensures, made.number) (selects_ok s _ c.requires.starts.ready c.requires.table _ made.ran.ok made.seals.seals _ _ made.lives fills)

pub returns-in-Err-clause-rows : goal.returns-in-Err-clause-rows
returns-in-Err-clause-rows g c = c.fill_result.ensures.rows

pub returns-in-Err-clause-kept : goal.returns-in-Err-clause-kept
returns-in-Err-clause-kept g c = c.fill_result.ensures.kept

pub returns-in-Err-clause-selects : goal.returns-in-Err-clause-selects
returns-in-Err-clause-selects g c =
    let s = select_of (length c.args.rows.now) c.args.buffered c.args.flat.now c.args.pred.now c.args.k in
    let made = c.in_ok-region.ensures.makes in
    let fills = rw made.number at c.in-Err.ensures.fills in
    let forgets = c.forget.ensures.forgets (g.S.BlockStore.state c.fill_result.new.store) in
    let forgot = rw made.number at forgets.went fills.ran.err.lasts.ready in
    let gone = rw made.number at forgets.gone in
    selects_err s _ c.requires.starts.ready c.requires.table _ made.ran.ok made.seals.seals _ _ _ fills forgot refl forgets.seals gone
