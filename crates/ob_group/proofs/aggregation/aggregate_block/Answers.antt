use Rattle.std.proofs.Common.{◌*◌, length, refl, ◌∙◌, ap, subst, sym}
use Rattle.ob_row.specs.Truth.{is_true}
use Rattle.ob_blocks.specs.Blocks.{block_at}
use Rattle.ob_flat.specs.Flats.{whole_blocks}
use Rattle.ob_group.specs.declared.aggregation.Adding.{Adding}
use Rattle.ob_group.specs.Running.{Sums, AreUpTo, sums_with}
use Rattle.ob_group.proofs.Seen.{totals_after}
use Rattle.ob_group.proofs.aggregation.aggregate_block.Goals as goal

pub scan_block-requires-clause-suits : goal.scan_block-requires-clause-suits
scan_block-requires-clause-suits g c =
    (c.requires.aggs.within, c.sums.invariant, subst (AreUpTo (c.args.place * length c.args.rows.now)) (sym c.sums.view_is) c.requires.sums)

pub returns-in-Ok-clause-aggregates : goal.returns-in-Ok-clause-aggregates
returns-in-Ok-clause-aggregates g c =
    let pack = length c.args.rows.now in
    let flat = c.args.flat.now in
    let p = is_true c.args.pred.now in
    let aggs = c.args.aggs.now in
    let u = c.args.place in
    let scans = c.in-Ok.ensures.scans in
    record {
      ran = record { ok = scans.ran.ok; err = tt };
      never = tt;
      seals = scans.seals;
      few = scans.suits.2;
      kept = tt;
      told = λ slots is nolie.
          let adding : Adding = record { pred = c.args.pred; aggs = c.args.aggs; totals = c.sums.inside.totals } in
          let block = block_at pack (whole_blocks pack flat.capacity slots) u in
          ap (λ (s : Adding). s.totals) (scans.told slots is nolie)
          ∙ totals_after adding (u * pack) block
          ∙ ap (λ (l : Sums). sums_with p aggs l block) c.sums.view_is;
    }

pub returns-in-Err-clause-aggregates : goal.returns-in-Err-clause-aggregates
returns-in-Err-clause-aggregates g c =
    let scans = c.in-Err.ensures.scans in
    record {
      ran = record { ok = tt; err = scans.ran.err };
      never = scans.never;
      seals = scans.seals;
      few = tt;
      kept = refl;
      told = scans.told;
    }

pub returns-in-Ok-clause-spent : goal.returns-in-Ok-clause-spent
returns-in-Ok-clause-spent g c = c.scan_block.ensures.spent

pub returns-in-Err-clause-spent : goal.returns-in-Err-clause-spent
returns-in-Err-clause-spent g c = c.scan_block.ensures.spent
