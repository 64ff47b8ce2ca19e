use Rattle.std.proofs.Common.{◌≡◌, ◌*◌, ℕ, Option, None, false, length, refl, sym, ◌∙◌, ap, subst, arith}
use Rattle.std.proofs.lemmas.Result.{err_from_is_err_and}
use Rattle.ob_base.specs.Schemas.{width}
use Rattle.ob_script.specs.Parts.{count_part}
use Rattle.ob_vault.specs.Calls.{none, one}
use Rattle.ob_vault.specs.Places.{at, RowsFit}
use Rattle.ob_vault.proofs.Runs.{went_wider, went_join, tells_went, fit_same, fit_trans}
use Rattle.ob_vault.proofs.WordLemmas.{asks_after, honest_before, honest_after}
use Rattle.ob_row.specs.Rows.{Row}
use Rattle.ob_blocks.specs.Blocks.{map_at, scanned}
use Rattle.ob_row.specs.Slots.{Slots}
use Rattle.ob_flat.specs.Flats.{IsMade, Represents, whole_blocks}
use Rattle.ob_flat.specs.Words.{IsTable, blocks_of, moved}
use Rattle.ob_flat.proofs.Runs.{pass_more, pass_after, pass_wider}
use Rattle.ob_flat.proofs.Tables.{reads, fits_sized, written_flat, flat_lasts, made_lasts, represents_lasts}
use Rattle.ob_flat.proofs.WordLemmas.{seals_any, seals_after}
use Rattle.ob_mutate.specs.declared.searching.Search.{Search}
use Rattle.ob_mutate.specs.declared.searching.Finds.{Finds}
use Rattle.ob_mutate.specs.Searches.{found, put_at}
use Rattle.ob_mutate.specs.Mutating.{copy_script, inserted_slots}
use Rattle.ob_mutate.proofs.Finding.{IsSearched, searched, answered, finds_of, past_target}
use Rattle.ob_mutate.proofs.inserting.insert_blocks.Goals as goal

pub scan_blocks-requires : goal.scan_blocks-requires
scan_blocks-requires g c =
    let pack = length c.args.rows.now in
    let flat = c.args.flat.now in
    let table = c.requires.table in
    record {
      spare = record { ready = c.requires.asks.ready; spare = omega (arith, c.requires.asks.spare) };
      table = record { some = table.some; most = table.most; size = fits_sized pack flat.schema flat.capacity table.some table.size; written = written_flat pack flat _ table.written };
      fit = c.requires.fit;
      suits = (c.key_place.ensures, c.requires.cells, tt);
    }

pub returns-in_err-scan_blocks-clause-rows : goal.returns-in_err-scan_blocks-clause-rows
returns-in_err-scan_blocks-clause-rows g c = c.scan_blocks.ensures.rows

pub returns-in_err-scan_blocks-clause-fills : goal.returns-in_err-scan_blocks-clause-fills
returns-in_err-scan_blocks-clause-fills g c =
    let p = err_from_is_err_and c.from_residual.result c.from_residual.ensures.1 in
    let pack = length c.args.rows.now in
    let flat = c.args.flat.now in
    let fresh = c.args.fresh in
    let scans = c.in_err-scan_blocks.ensures.scans in
    rw (p.1, p.2) (record {
      ran = record { ok = tt; err = pass_more (one fresh) _ _ _ (count_part flat.region (blocks_of pack flat)) (copy_script pack flat fresh) (pass_wider none _ _ (one fresh) (λ q s. absurd s) _ _ scans.ran.err) };
      never = scans.never;
      seals = seals_any scans.seals.seals;
      table = tt;
      holds = tt;
      told = λ honest slots is. scans.told slots is honest.nolie;
    })

pub swap_blocks-requires : goal.swap_blocks-requires
swap_blocks-requires g c =
    let pack = length c.args.rows.now in
    let flat = c.args.flat.now in
    let rows = c.scan_blocks.new.rows in
    let sizes = c.scan_blocks.ensures.rows in
    let count = sizes.count in
    let scan = c.in_ok-scan_blocks.ensures.scans in
    let lasts = scan.ran.ok.lasts in
    let old = c.requires.table in
    let mid = at g.R.Revisions.state c.scan_blocks.new.vault (g.S.BlockStore.state c.scan_blocks.new.store) in
    let asks = asks_after {m = 2 * blocks_of pack flat} c.requires.asks scan.ran.ok (omega (arith, reads flat.region (blocks_of pack flat))) in
    let table : IsTable pack flat mid = record { some = old.some; most = old.most; size = old.size; written = flat_lasts pack flat none _ _ lasts (λ s. s) old.written } in
    let made : IsMade pack (moved flat c.args.fresh) mid = made_lasts pack (moved flat c.args.fresh) none _ _ lasts (λ s. s) c.requires.made in
    let finds = c.scan_blocks.new.visit.finds in
    record {
      asks = rw count asks;
      table = rw count table;
      made = rw count made;
      apart = c.requires.apart;
      fit = subst (λ (n : ℕ). RowsFit rows (n * width flat.schema)) (sym count) (fit_same c.args.rows.now rows (pack * width flat.schema) sizes c.requires.fit);
      suits = c.requires.cells;
      past = past_target c.target.result finds.duplicate finds.free c.args.cells.now flat.capacity c.target.ensures scan.suits.2;
    }

pub returns-in_err-swap_blocks-clause-rows : goal.returns-in_err-swap_blocks-clause-rows
returns-in_err-swap_blocks-clause-rows g c = fit_trans _ _ _ c.scan_blocks.ensures.rows c.swap_blocks.ensures.rows

pub returns-in_err-swap_blocks-clause-fills : goal.returns-in_err-swap_blocks-clause-fills
returns-in_err-swap_blocks-clause-fills g c =
    let p = err_from_is_err_and c.from_residual-in_err-swap_blocks.result c.from_residual-in_err-swap_blocks.ensures.1 in
    let pack = length c.args.rows.now in
    let flat = c.args.flat.now in
    let fresh = c.args.fresh in
    let scan = c.in_ok-scan_blocks.ensures.scans in
    let swaps = rw c.scan_blocks.ensures.rows.count at c.in_err-swap_blocks.ensures.swaps in
    rw (p.1, p.2) (record {
      ran = record { ok = tt; err = pass_after (one fresh) _ _ _ _ (count_part flat.region (blocks_of pack flat)) (copy_script pack flat fresh) (went_wider none _ _ (one fresh) (λ q s. absurd s) _ scan.ran.ok) swaps.ran.err };
      never = swaps.never;
      seals = seals_after scan.ran.ok.lasts (seals_any scan.seals.seals) swaps.seals;
      table = tt;
      holds = tt;
      told = λ honest slots is. swaps.told (honest_after scan.ran.ok honest) slots (represents_lasts pack flat none _ _ scan.ran.ok.lasts (λ s. s) slots is);
    })

pub returns-clause-rows : goal.returns-clause-rows
returns-clause-rows g c = fit_trans _ _ _ c.scan_blocks.ensures.rows c.swap_blocks.ensures.rows

pub returns-clause-fills : goal.returns-clause-fills
returns-clause-fills g c =
    let pack = length c.args.rows.now in
    let flat = c.args.flat.now in
    let fresh = c.args.fresh in
    let cells = c.args.cells.now in
    let scan = c.in_ok-scan_blocks.ensures.scans in
    let swaps = rw c.scan_blocks.ensures.rows.count at c.in_ok-swap_blocks.ensures.swaps in
    let new = at g.R.Revisions.state c.swap_blocks.new.vault (g.S.BlockStore.state c.swap_blocks.new.store) in
    record {
      ran = record { ok = went_join (one fresh) _ _ _ (count_part flat.region (blocks_of pack flat)) (copy_script pack flat fresh) (went_wider none _ _ (one fresh) (λ q s. absurd s) _ scan.ran.ok) swaps.ran.ok; err = tt };
      never = tt;
      seals = seals_after scan.ran.ok.lasts (seals_any scan.seals.seals) swaps.seals;
      table = swaps.table;
      holds = λ tells. swaps.holds (tells_went _ _ _ _ scan.ran.ok tells);
      told = λ honest slots is.
          let swapped = (swaps.told (honest_after scan.ran.ok honest) slots (represents_lasts pack flat none _ _ scan.ran.ok.lasts (λ s. s) slots is)).1 in
          let key = c.key_place.result in
          let whole = whole_blocks pack flat.capacity slots in
          let none_found : Finds = record { free = None; duplicate = false } in
          let start : Search = record { key = key; cells = c.args.cells; finds = none_found } in
          let f : Search → ℕ → Option Row → Search = λ s i slot. record s { finds = found s.key s.cells.now flat.capacity s.finds i slot } in
          let kept = finds_of (λ (s : Search). s.finds) (λ (s t : Search). (t.key ≡ s.key) × (t.cells.now ≡ s.cells.now)) f key cells flat.capacity 0 start whole
          (λ a b d first second. (second.0 ∙ first.0, second.1 ∙ first.1))
          (λ t i slot same. (ap (λ (k : Option ℕ). found k t.cells.now flat.capacity t.finds i slot) same.0 ∙ ap (λ (r : Row). found key r flat.capacity t.finds i slot) same.1, (refl, refl)))
          start (refl, refl) in
          let finds = c.scan_blocks.new.visit.finds in
          let nolie = (honest_before swaps.ran.ok.lasts honest).nolie in
          let seen : finds ≡ scanned (found key cells flat.capacity) 0 none_found whole = ap (λ (s : Search). s.finds) (scan.told slots is nolie) ∙ kept in
          let searched_all = searched key cells flat.capacity (blocks_of pack flat * pack) slots is.size in
          let there : IsSearched key cells slots finds = subst (λ (h : Finds). IsSearched key cells slots h) (sym seen) searched_all in
          let a = answered flat.schema cells slots finds (subst (λ (k : Option ℕ). IsSearched k cells slots finds) c.key_place.ensures there) in
          let after : map_at (λ i slot. put_at c.target.result cells i slot) 0 slots ≡ inserted_slots flat cells slots = ap (λ (o : Option ℕ). map_at (put_at o cells) 0 slots) c.target.ensures ∙ a.after in
          (c.answer.ensures ∙ a.answer, subst (λ (l : Slots). Represents pack (moved flat fresh) l new) after swapped);
    }
