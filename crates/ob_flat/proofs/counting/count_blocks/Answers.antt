use Rattle.std.proofs.Common.{◌≡◌, ◌*◌, ◌&&◌, nat_lt, ℕ, Option, length, refl, ◌∙◌, ap, arith}
use Rattle.std.proofs.lemmas.Result.{err_from_is_err_and}
use Rattle.ob_row.specs.Rows.{Row}
use Rattle.ob_row.specs.Condition.{Condition}
use Rattle.ob_row.specs.Slots.{is_selected}
use Rattle.ob_row.specs.Truth.{is_true}
use Rattle.ob_vault.specs.Calls.{none}
use Rattle.ob_flat.specs.declared.counting.Counting.{Counting}
use Rattle.ob_flat.specs.Counts.{tallied}
use Rattle.ob_flat.specs.Flats.{whole_blocks}
use Rattle.ob_flat.specs.Words.{blocks_of}
use Rattle.ob_flat.proofs.Counts.{tally_table, tally_of}
use Rattle.ob_flat.proofs.Tables.{fits_sized, written_flat, flat_lasts}
use Rattle.ob_flat.proofs.counting.count_blocks.Goals as goal

pub scan_blocks-requires : goal.scan_blocks-requires
scan_blocks-requires g c =
    let table = c.requires.table in
    let pack = length c.args.rows.now in
    let flat = c.args.flat.now in
    record {
      spare = c.requires.spare;
      table = record { some = table.some; most = table.most; size = fits_sized pack flat.schema flat.capacity table.some table.size; written = written_flat pack flat _ table.written };
      fit = c.requires.fit;
      suits = (omega arith, omega arith);
    }

pub returns-in_err-scan_blocks-clause-counts : goal.returns-in_err-scan_blocks-clause-counts
returns-in_err-scan_blocks-clause-counts g c =
    let p = err_from_is_err_and c.from_residual.result c.from_residual.ensures.1 in
    let scans = c.in_err-scan_blocks.ensures.scans in
    rw (p.1, p.2) (record {
      ran = record { ok = tt; err = scans.ran.err };
      never = scans.never;
      seals = scans.seals;
      source = flat_lasts (length c.args.rows.now) c.args.flat.now none _ _ scans.ran.err.lasts (λ s. s) c.requires.table.written;
      most = tt;
      told = scans.told;
    })

pub returns-clause-counts : goal.returns-clause-counts
returns-clause-counts g c =
    let pack = length c.args.rows.now in
    let flat = c.args.flat.now in
    let scans = c.in_ok-scan_blocks.ensures.scans in
    record {
      ran = record { ok = scans.ran.ok; err = tt };
      never = tt;
      seals = scans.seals;
      source = flat_lasts pack flat none _ _ scans.ran.ok.lasts (λ s. s) c.requires.table.written;
      most = scans.suits.1;
      told = λ slots is nolie.
          let p = c.args.pred.now in
          let start : Counting = record { pred = c.args.pred; tally = record { k = 0; end = 0; consecutive = Rattle.std.proofs.Common.true } } in
          let f : Counting → ℕ → Option Row → Counting = λ s i slot. record s { tally = tallied (is_selected (is_true s.pred.now) slot && nat_lt i flat.capacity) i s.tally } in
          let all = tally_of (λ (s : Counting). s.tally) (λ (s t : Counting). t.pred.now ≡ s.pred.now) f p flat.capacity 0 start (whole_blocks pack flat.capacity slots)
          (λ s. refl) (λ a b c first second. second ∙ first) (λ t i slot same. (ap (λ (q : Condition). tallied (is_selected (is_true q) slot && nat_lt i flat.capacity) i t.tally) same, refl)) start refl in
          let tally = tally_table p flat.capacity (blocks_of pack flat * pack) start.tally slots is.size (record { k = refl; end = refl; consecutive = refl }) in
          let here = ap (λ (s : Counting). s.tally) (scans.told slots is nolie) ∙ all in
          cc (here, tally.k, tally.consecutive);
    }
