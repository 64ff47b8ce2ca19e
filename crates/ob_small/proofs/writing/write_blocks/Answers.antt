use Rattle.std.proofs.Common.{◌≡◌, ◌≤◌, ◌+◌, ◌-◌, ◌*◌, ◌<◌, Fits, w32, w64, ℕ, length, take, drop, ap, refl, arith}
use Rattle.std.proofs.lemmas.Result.{err_from_is_err_and}
use Rattle.ob_base.specs.Numbers.{blocks_for}
use Rattle.ob_script.specs.Parts.{write_from}
use Rattle.ob_vault.specs.Tied.{Written}
use Rattle.ob_vault.specs.Calls.{one}
use Rattle.ob_vault.specs.Places.{at}
use Rattle.ob_vault.proofs.RowsLemmas.{rows_room}
use Rattle.ob_vault.proofs.Runs.{went_none, seals_none, went_each, tells_went}
use Rattle.ob_vault.proofs.WordLemmas.{asks_after}
use Rattle.ob_flat.specs.Flats.{HoldsBlock}
use Rattle.ob_flat.proofs.Loops.{at_end, nearer, went_all}
use Rattle.ob_flat.proofs.Runs.{pass_each}
use Rattle.ob_flat.proofs.Tables.{blocks_few}
use Rattle.ob_flat.proofs.WordLemmas.{seals_any, seals_after}
use Rattle.ob_small.specs.Selection.{HoldsChosen}
use Rattle.ob_small.specs.Steps.{MayWrite}
use Rattle.ob_small.proofs.Lengths.{writes, product_within}
use Rattle.ob_small.proofs.Places.{next_at, next_more, extends_none, extends_join, extends_at}
use Rattle.ob_small.proofs.Steps.{next_write, part_block, put_written, put_rows, put_told, written_as}
use Rattle.ob_small.proofs.Windows.{part_size, keeps_part}
use Rattle.ob_small.proofs.writing.write_blocks.Goals as goal

-- the first row of a block, as a number
row_small : (first x n pack capacity : ℕ) → 1 ≤ pack → pack ≤ 16 → capacity ≤ 16777216 → first + n ≤ blocks_for pack capacity → x < n → x * pack ≤ 268435456
row_small first x n pack capacity some few most within below = omega (arith, few, product_within x 16777216 pack (omega (arith, most, within, below, blocks_few pack capacity some)))

fits_32 : (n : ℕ) → n ≤ 268435456 → Fits w32 n
fits_32 n small = omega (arith, small)

fits_64 : (n : ℕ) → n ≤ 268435456 → Fits w64 n
fits_64 n small = omega (arith, small)

end_fits : (n pack : ℕ) → n ≤ 268435456 → pack ≤ 16 → Fits w64 (n + pack)
end_fits n pack small few = omega (arith, small, few)

offset_fits : (n : ℕ) → n ≤ 268435456 → Fits w64 (n * 24)
offset_fits n small = omega (arith, small)

place_fits : (first x n pack capacity : ℕ) → 1 ≤ pack → capacity ≤ 16777216 → first + n ≤ blocks_for pack capacity → x < n → Fits w32 (first + x)
place_fits first x n pack capacity some most within below = omega (arith, most, within, below, blocks_few pack capacity some)

-- the rows of a block are there
row_inside : (x n pack size : ℕ) → n * pack ≤ size → x < n → x * pack + pack ≤ size
row_inside x n pack size space below = omega (arith, space, rows_room x n pack below)

no_more : (n : ℕ) → n ≡ n + 0
no_more n = omega arith

one_more : (n x : ℕ) → n + x + 1 ≡ n + (x + 1)
one_more n x = omega arith

place_inside : (first x n blocks : ℕ) → first + n ≤ blocks → x < n → first + x < blocks
place_inside first x n blocks within below = omega (arith, within, below)

row_count : (a b : ℕ) → a + b - a ≡ b
row_count a b = omega arith

pub overflow_mul-row : goal.overflow_mul-row
overflow_mul-row g c = fits_32 (c.loop-x.x * c.args.pack) (row_small c.args.first c.loop-x.x c.args.n c.args.pack c.args.to.now.capacity c.requires.some c.requires.most c.requires.size.most c.requires.within c.loop-x-test.true)

pub overflow_cast-row : goal.overflow_cast-row
overflow_cast-row g c = fits_64 (c.loop-x.x * c.args.pack) (row_small c.args.first c.loop-x.x c.args.n c.args.pack c.args.to.now.capacity c.requires.some c.requires.most c.requires.size.most c.requires.within c.loop-x-test.true)

pub overflow_add-row : goal.overflow_add-row
overflow_add-row g c = end_fits (c.loop-x.x * c.args.pack) c.args.pack (row_small c.args.first c.loop-x.x c.args.n c.args.pack c.args.to.now.capacity c.requires.some c.requires.most c.requires.size.most c.requires.within c.loop-x-test.true) c.requires.most

pub offset_bounds-kept-row : goal.offset_bounds-kept-row
offset_bounds-kept-row g c = offset_fits (c.loop-x.x * c.args.pack) (row_small c.args.first c.loop-x.x c.args.n c.args.pack c.args.to.now.capacity c.requires.some c.requires.most c.requires.size.most c.requires.within c.loop-x-test.true)

pub overflow_add-first : goal.overflow_add-first
overflow_add-first g c = place_fits c.args.first c.loop-x.x c.args.n c.args.pack c.args.to.now.capacity c.requires.some c.requires.size.most c.requires.within c.loop-x-test.true

pub slice_bounds-write_block-end : goal.slice_bounds-write_block-end
slice_bounds-write_block-end g c = row_inside c.loop-x.x c.args.n c.args.pack (length c.args.kept.now) c.requires.kept.many c.loop-x-test.true

pub loop-x-init : goal.loop-x-init
loop-x-init g c =
    let to = c.args.to.now in
    let first = c.args.first in
    record {
      went = went_none (one to.region) _ c.requires.asks.ready;
      seals = seals_any (λ good. seals_none good _);
      next = next_at c.args.pack to (no_more first) c.requires.next;
      written = extends_none (Written to.region) first _;
      rows = λ tells. extends_none (HoldsBlock c.args.pack to.schema to.region) first _;
      told = λ tells slots keeps. extends_none (HoldsChosen c.args.pack to slots) first _;
    }

pub write_block-requires : goal.write_block-requires
write_block-requires g c =
    let x = c.loop-x.x in
    let pack = c.args.pack in
    let to = c.args.to.now in
    let kept = c.args.kept.now in
    let before = c.loop-x.invariant in
    let inside = row_inside x c.args.n pack (length kept) c.requires.kept.many c.loop-x-test.true in
    let below = place_inside c.args.first x c.args.n (blocks_for pack to.capacity) c.requires.within c.loop-x-test.true in
    let same = row_count (x * pack) pack in
    let now = at g.R.Revisions.state c.loop-x.vault (g.S.BlockStore.state c.loop-x.store) in
    record {
      asks = asks_after {m = 1} c.requires.asks before.went (omega (arith, writes to.region c.args.first x, c.loop-x-test.true));
      may = part_size pack x _ kept same inside (λ (n : ℕ). MayWrite n to (c.args.first + x) now) (next_write pack to (c.args.first + x) now before.next below);
      block = part_block to.schema pack x _ kept same c.requires.some inside c.requires.kept.wide c.requires.kept.spells;
    }

pub returns-in_err-write_block : goal.returns-in_err-write_block
returns-in_err-write_block g c =
    let p = err_from_is_err_and c.from_residual.result c.from_residual.ensures.1 in
    let before = c.loop-x.invariant in
    let x = c.loop-x.x in
    let pack = c.args.pack in
    let to = c.args.to.now in
    let kept = c.args.kept.now in
    let inside = row_inside x c.args.n pack (length kept) c.requires.kept.many c.loop-x-test.true in
    let block = written_as pack to (c.args.first + x) x _ kept (row_count (x * pack) pack) inside c.in_err-write_block.ensures.writes in
    rw (p.1, p.2) (record {
      writes = record {
        ran = record { ok = tt; err = pass_each (one to.region) (write_from to.region c.args.first) _ _ _ _ c.args.n x c.loop-x-test.true before.went block.ran.err };
        never = block.never;
        seals = seals_after before.went.lasts before.seals block.seals;
        next = tt;
        written = tt;
        rows = tt;
        told = tt;
      };
    })

pub loop-x-preserved : goal.loop-x-preserved
loop-x-preserved g c =
    let before = c.loop-x.invariant in
    let x = c.loop-x.x in
    let first = c.args.first in
    let pack = c.args.pack in
    let to = c.args.to.now in
    let q = to.region in
    let kept = c.args.kept.now in
    let rows = take pack (drop (x * pack) kept) in
    let inside = row_inside x c.args.n pack (length kept) c.requires.kept.many c.loop-x-test.true in
    let block = written_as pack to (first + x) x _ kept (row_count (x * pack) pack) inside c.in_ok-write_block.ensures.writes in
    record {
      went = went_each (one q) (write_from q first) _ _ _ x before.went block.ran.ok;
      seals = seals_after before.went.lasts before.seals block.seals;
      next = next_at pack to (one_more first x) (next_more pack to (first + x) _ _ before.next block.only block.turn);
      written = extends_join (Written q) first _ x 1 _ _ before.written (put_written pack to (first + x) rows tt _ _ block);
      rows = λ tells. extends_join (HoldsBlock pack to.schema q) first _ x 1 _ _ (before.rows tells) (put_rows pack to (first + x) rows tt _ _ block (tells_went _ _ _ _ before.went tells));
      told = λ tells slots keeps. extends_join (HoldsChosen pack to slots) first _ x 1 _ _ (before.told tells slots keeps)
          (put_told pack to (first + x) rows tt _ _ block (tells_went _ _ _ _ before.went tells) slots (keeps_part to.schema pack to.capacity first x slots kept inside keeps));
    }

pub loop-x-smaller : goal.loop-x-smaller
loop-x-smaller g c = nearer c.loop-x.x c.args.n c.loop-x-test.true

pub returns : goal.returns
returns g c =
    let done = c.loop-x.invariant in
    let to = c.args.to.now in
    let first = c.args.first in
    let last : c.loop-x.x ≡ c.args.n = at_end c.loop-x.auto.x-end c.loop-x-test.false refl in
    record {
      writes = record {
        ran = record { ok = went_all (write_from to.region first) last done.went; err = tt };
        never = tt;
        seals = done.seals;
        next = next_at c.args.pack to (ap (λ (n : ℕ). first + n) last) done.next;
        written = extends_at (Written to.region) first _ last done.written;
        rows = λ tells. extends_at (HoldsBlock c.args.pack to.schema to.region) first _ last (done.rows tells);
        told = λ tells slots keeps. extends_at (HoldsChosen c.args.pack to slots) first _ last (done.told tells slots keeps);
      };
    }
