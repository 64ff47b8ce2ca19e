use Rattle.std.proofs.Common.{◌≡◌, ◌*◌, List, length, map, take, ◌∙◌, ap, arith}
use Rattle.std.proofs.lemmas.List.{length-map, length-take-le}
use Rattle.std.proofs.lemmas.Result.{err_from_is_err_and}
use Rattle.ob_base.specs.declared.shown.Shown.{Shown}
use Rattle.ob_row.specs.Truth.{is_true}
use Rattle.ob_vault.specs.Calls.{none}
use Rattle.ob_flat.specs.Flats.{whole_blocks}
use Rattle.ob_flat.specs.Words.{blocks_of}
use Rattle.ob_flat.proofs.Tables.{fits_sized, written_flat, flat_lasts}
use Rattle.ob_group.specs.declared.aggregation.Adding.{Adding}
use Rattle.ob_group.specs.Running.{Sums, sums_with, total_shown}
use Rattle.ob_group.proofs.Seen.{take_sums, totals_after}
use Rattle.ob_group.proofs.Summing.{sums_whole}
use Rattle.ob_group.proofs.aggregation.aggregate_blocks.Goals as goal

pub scan_blocks-requires : goal.scan_blocks-requires
scan_blocks-requires g c =
    let table = c.requires.table in
    let pack = length c.args.rows.now in
    let flat = c.args.flat.now in
    record {
      spare = c.requires.spare;
      table = record { some = table.some; most = table.most; size = fits_sized pack flat.schema flat.capacity table.some table.size; written = written_flat pack flat _ table.written };
      fit = c.requires.fit;
      suits = (c.requires.aggs.within, c.starts.ensures.size, c.starts.ensures.few);
    }

pub returns-in_err-scan_blocks-clause-aggregates : goal.returns-in_err-scan_blocks-clause-aggregates
returns-in_err-scan_blocks-clause-aggregates g c =
    let p = err_from_is_err_and c.from_residual.result c.from_residual.ensures.1 in
    let scans = c.in_err-scan_blocks.ensures.scans in
    rw (p.1, p.2) (record {
      ran = record { ok = tt; err = scans.ran.err };
      never = scans.never;
      seals = scans.seals;
      source = flat_lasts (length c.args.rows.now) c.args.flat.now none _ _ scans.ran.err.lasts (λ s. s) c.requires.table.written;
      cells = tt;
      told = scans.told;
    })

pub returns-clause-aggregates : goal.returns-clause-aggregates
returns-clause-aggregates g c =
    let pack = length c.args.rows.now in
    let flat = c.args.flat.now in
    let p = is_true c.args.pred.now in
    let aggs = c.args.aggs.now in
    let scans = c.in_ok-scan_blocks.ensures.scans in
    let last = c.scan_blocks.new.visit.totals in
    let size : length (take (length aggs) last) ≡ length aggs = length-take-le (length aggs) last (omega (arith, scans.suits.1, c.requires.aggs.few)) in
    record {
      ran = record { ok = scans.ran.ok; err = tt };
      never = tt;
      seals = scans.seals;
      source = flat_lasts pack flat none _ _ scans.ran.ok.lasts (λ s. s) c.requires.table.written;
      cells = ap (λ (l : List Shown). length l) c.of_totals.ensures ∙ length-map (take (length aggs) last) total_shown ∙ size;
      told = λ slots is nolie.
          let adding : Adding = record { pred = c.args.pred; aggs = c.args.aggs; totals = c.starts.result } in
          let whole = whole_blocks pack flat.capacity slots in
          let sums = ap (λ (s : Adding). take (length aggs) s.totals) (scans.told slots is nolie)
          ∙ ap (take (length aggs)) (totals_after adding 0 whole)
          ∙ take_sums p aggs c.starts.result whole
          ∙ ap (λ (l : Sums). sums_with p aggs l whole) c.starts.ensures.value in
          c.of_totals.ensures ∙ ap (map total_shown) sums ∙ sums_whole p aggs (blocks_of pack flat * pack) slots;
    }
