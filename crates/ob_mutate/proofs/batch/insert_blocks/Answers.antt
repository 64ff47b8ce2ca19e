use Rattle.std.proofs.Common.{◌≡◌, ◌*◌, ℕ, Option, None, List, length, sym, ◌∙◌, ap, subst, arith}
use Rattle.std.proofs.lemmas.Result.{err_from_is_err_and}
use Rattle.ob_base.specs.Schemas.{width}
use Rattle.ob_script.specs.Parts.{count_part}
use Rattle.ob_vault.specs.Calls.{none, one}
use Rattle.ob_vault.specs.Places.{at, RowsFit}
use Rattle.ob_vault.proofs.Runs.{went_wider, went_join, tells_went, fit_same, fit_trans}
use Rattle.ob_vault.proofs.WordLemmas.{asks_after, honest_before, honest_after}
use Rattle.ob_row.specs.Rows.{Row}
use Rattle.ob_blocks.specs.Blocks.{map_at}
use Rattle.ob_row.specs.Slots.{Slots}
use Rattle.ob_flat.specs.Flats.{IsMade, Represents}
use Rattle.ob_flat.specs.Words.{IsTable, blocks_of, moved}
use Rattle.ob_flat.proofs.Runs.{pass_more, pass_after, pass_wider}
use Rattle.ob_flat.proofs.Tables.{reads, fits_sized, written_flat, flat_lasts, made_lasts, represents_lasts}
use Rattle.ob_flat.proofs.WordLemmas.{seals_any, seals_after}
use Rattle.ob_mutate.specs.declared.noting.Noting.{Noting}
use Rattle.ob_mutate.specs.Batches.{AreAscending, AreListed, ArePlaces, inserted_all, insert_answers, put_into, rows_of}
use Rattle.ob_mutate.specs.Mutating.{copy_script}
use Rattle.ob_mutate.proofs.Noted.{kept_rows, start_are, start_rise}
use Rattle.ob_mutate.proofs.Scanned.{all_noted, all_put}
use Rattle.ob_mutate.proofs.Sought.{put_above}
use Rattle.ob_mutate.proofs.batch.insert_blocks.Goals as goal

pub scan_blocks-requires : goal.scan_blocks-requires
scan_blocks-requires g c =
    let pack = length c.args.rows.now in
    let flat = c.args.flat.now in
    let table = c.requires.table in
    let kept = c.args.kept.now in
    record {
      spare = record { ready = c.requires.asks.ready; spare = omega (arith, c.requires.asks.spare) };
      table = record { some = table.some; most = table.most; size = fits_sized pack flat.schema flat.capacity table.some table.size; written = written_flat pack flat _ table.written };
      fit = c.requires.fit;
      suits = (
        c.key_place.ensures,
        c.requires.batch,
        c.requires.kept,
        subst (λ (k : Option ℕ). AreListed flat.schema k kept c.args.order.now) (sym c.key_place.ensures) c.requires.listed,
        start_are kept c.args.notes c.requires.notes c.requires.few,
        ap (λ n. n.taken) c.requires.notes,
        start_rise kept flat.capacity c.args.notes c.requires.notes,
      );
    }

pub returns-in_err-scan_blocks-clause-rows : goal.returns-in_err-scan_blocks-clause-rows
returns-in_err-scan_blocks-clause-rows g c = c.scan_blocks.ensures.rows

pub returns-in_err-scan_blocks-clause-fills : goal.returns-in_err-scan_blocks-clause-fills
returns-in_err-scan_blocks-clause-fills g c =
    let p = err_from_is_err_and c.from_residual.result c.from_residual.ensures.1 in
    let pack = length c.args.rows.now in
    let flat = c.args.flat.now in
    let fresh = c.args.fresh in
    let scans = c.in_err-scan_blocks.ensures.scans in
    rw (p.1, p.2) (record {
      ran = record { ok = tt; err = pass_more (one fresh) _ _ _ (count_part flat.region (blocks_of pack flat)) (copy_script pack flat fresh) (pass_wider none _ _ (one fresh) (λ q s. absurd s) _ _ scans.ran.err) };
      never = scans.never;
      seals = seals_any scans.seals.seals;
      table = tt;
      holds = tt;
      told = λ honest slots is. scans.told slots is honest.nolie;
    })

pub admit_rows-requires : goal.admit_rows-requires
admit_rows-requires g c =
    let suits = c.in_ok-scan_blocks.ensures.scans.suits in
    let flat = c.args.flat.now in
    record {
      key = suits.0;
      rows = kept_rows flat.schema c.scan_blocks.new.visit.batch.now c.scan_blocks.new.visit.kept.now suits.2;
      listed = suits.3;
      notes = suits.4;
      none = suits.5;
    }

pub swap_blocks-requires : goal.swap_blocks-requires
swap_blocks-requires g c =
    let pack = length c.args.rows.now in
    let flat = c.args.flat.now in
    let rows = c.scan_blocks.new.rows in
    let sizes = c.scan_blocks.ensures.rows in
    let count = sizes.count in
    let scan = c.in_ok-scan_blocks.ensures.scans in
    let suits = scan.suits in
    let lasts = scan.ran.ok.lasts in
    let old = c.requires.table in
    let mid = at g.R.Revisions.state c.scan_blocks.new.vault (g.S.BlockStore.state c.scan_blocks.new.store) in
    let asks = asks_after {m = 2 * blocks_of pack flat} c.requires.asks scan.ran.ok (omega (arith, reads flat.region (blocks_of pack flat))) in
    let table : IsTable pack flat mid = record { some = old.some; most = old.most; size = old.size; written = flat_lasts pack flat none _ _ lasts (λ s. s) old.written } in
    let made : IsMade pack (moved flat c.args.fresh) mid = made_lasts pack (moved flat c.args.fresh) none _ _ lasts (λ s. s) c.requires.made in
    let free = c.free.ensures ∙ c.admit_rows.ensures.free in
    let visit = c.scan_blocks.new.visit in
    let rise = suits.6 in
    record {
      asks = rw count asks;
      table = rw count table;
      made = rw count made;
      apart = c.requires.apart;
      fit = subst (λ (n : ℕ). RowsFit rows (n * width flat.schema)) (sym count) (fit_same c.args.rows.now rows (pack * width flat.schema) sizes c.requires.fit);
      suits = (
        (rise.below, subst (λ (l : List ℕ). AreAscending 0 rise.below l) (sym free) rise.rise),
        subst (λ (n : ℕ). ArePlaces n c.taken.result.now) suits.2.count (subst (λ (l : List ℕ). ArePlaces (length visit.kept.now) l) (sym c.taken.ensures) c.admit_rows.ensures.taken),
        suits.1,
      );
      past = λ i past. put_above 0 rise.below i None c.free.result.now (rows_of visit.batch.now c.taken.result.now) (subst (λ (l : List ℕ). AreAscending 0 rise.below l) (sym free) rise.rise) (omega (arith, rise.within, past));
    }

pub returns-in_err-swap_blocks-clause-rows : goal.returns-in_err-swap_blocks-clause-rows
returns-in_err-swap_blocks-clause-rows g c = fit_trans _ _ _ c.scan_blocks.ensures.rows c.swap_blocks.ensures.rows

pub returns-in_err-swap_blocks-clause-fills : goal.returns-in_err-swap_blocks-clause-fills
returns-in_err-swap_blocks-clause-fills g c =
    let p = err_from_is_err_and c.from_residual-in_err-swap_blocks.result c.from_residual-in_err-swap_blocks.ensures.1 in
    let pack = length c.args.rows.now in
    let flat = c.args.flat.now in
    let fresh = c.args.fresh in
    let scan = c.in_ok-scan_blocks.ensures.scans in
    let swaps = rw c.scan_blocks.ensures.rows.count at c.in_err-swap_blocks.ensures.swaps in
    rw (p.1, p.2) (record {
      ran = record { ok = tt; err = pass_after (one fresh) _ _ _ _ (count_part flat.region (blocks_of pack flat)) (copy_script pack flat fresh) (went_wider none _ _ (one fresh) (λ q s. absurd s) _ scan.ran.ok) swaps.ran.err };
      never = swaps.never;
      seals = seals_after scan.ran.ok.lasts (seals_any scan.seals.seals) swaps.seals;
      table = tt;
      holds = tt;
      told = λ honest slots is. swaps.told (honest_after scan.ran.ok honest) slots (represents_lasts pack flat none _ _ scan.ran.ok.lasts (λ s. s) slots is);
    })

pub returns-clause-rows : goal.returns-clause-rows
returns-clause-rows g c = fit_trans _ _ _ c.scan_blocks.ensures.rows c.swap_blocks.ensures.rows

pub returns-clause-fills : goal.returns-clause-fills
returns-clause-fills g c =
    let pack = length c.args.rows.now in
    let flat = c.args.flat.now in
    let fresh = c.args.fresh in
    let scan = c.in_ok-scan_blocks.ensures.scans in
    let suits = scan.suits in
    let visit = c.scan_blocks.new.visit in
    let swaps = rw c.scan_blocks.ensures.rows.count at c.in_ok-swap_blocks.ensures.swaps in
    let new = at g.R.Revisions.state c.swap_blocks.new.vault (g.S.BlockStore.state c.swap_blocks.new.store) in
    record {
      ran = record { ok = went_join (one fresh) _ _ _ (count_part flat.region (blocks_of pack flat)) (copy_script pack flat fresh) (went_wider none _ _ (one fresh) (λ q s. absurd s) _ scan.ran.ok) swaps.ran.ok; err = tt };
      never = tt;
      seals = seals_after scan.ran.ok.lasts (seals_any scan.seals.seals) swaps.seals;
      table = swaps.table;
      holds = λ tells. swaps.holds (tells_went _ _ _ _ scan.ran.ok tells);
      told = λ honest slots is.
          let swapped = (swaps.told (honest_after scan.ran.ok honest) slots (represents_lasts pack flat none _ _ scan.ran.ok.lasts (λ s. s) slots is)).1 in
          let nolie = (honest_before swaps.ran.ok.lasts honest).nolie in
          let start : Noting = record { key = c.key_place.result; order = c.args.order; batch = c.args.batch; kept = c.args.kept; notes = c.args.notes } in
          let noted = all_noted flat.schema flat.capacity (blocks_of pack flat * pack) start visit slots c.key_place.ensures c.requires.notes c.requires.listed (kept_rows flat.schema c.args.batch.now c.args.kept.now c.requires.kept) is.fits is.size (scan.told slots is nolie) in
          let answers = c.requires.out ∙ sym (ap (λ (l : List (List ℕ)). length l) noted.kept) in
          let done = c.admit_rows.ensures.told visit.batch.now slots suits.2 answers noted.read.sees in
          let taken = ap (λ (l : List ℕ). rows_of visit.batch.now l) c.taken.ensures ∙ done.1 in
          let put = all_put flat.schema visit.batch.now visit.kept.now slots visit.notes c.free.result.now c.taken.result.now noted.read suits.2.count (c.free.ensures ∙ c.admit_rows.ensures.free) taken in
          let after : map_at (λ i slot. put_into c.free.result.now (rows_of visit.batch.now c.taken.result.now) i slot) 0 slots ≡ inserted_all flat.schema c.args.batch.now slots = put ∙ ap (λ (b : List Row). inserted_all flat.schema b slots) noted.batch in
          (done.0 ∙ ap (λ (b : List Row). insert_answers flat.schema b slots) noted.batch, subst (λ (l : Slots). Represents pack (moved flat fresh) l new) after swapped);
    }
