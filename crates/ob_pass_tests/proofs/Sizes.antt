-- What is asked of few slots.
use Rattle.std.proofs.Common.{◌≤◌, ◌+◌, ◌*◌, ℕ, ◌++◌, arith, length-append}
use Rattle.std.specs.Int.{div_ceil}
use Rattle.ob_base.specs.Joins.{chunks, joined_blocks, joined_slots}
use Rattle.ob_base.specs.Limits.{buffered_blocks}
use Rattle.ob_base.specs.Numbers.{blocks_for}
use Rattle.ob_base.specs.Schemas.{Columns, width}
use Rattle.ob_flat.specs.Flats.{FitsRegion, IsSized}
use Rattle.ob_flat.proofs.Tables.{blocks_few}
use Rattle.ob_join.proofs.Pairs.{width-join}
use Rattle.ob_small.proofs.Lengths.{passes_few}
use Rattle.ob_pass_tests.specs.Tables.{IsSmall}

few_times : (a b n m : ℕ) → a ≤ n → b ≤ m → a * b ≤ n * m
few_times a b n m first second = grind arith

buffered_some : (pack rows : ℕ) → 1 ≤ pack → 3 * pack + 1 ≤ rows → 1 ≤ buffered_blocks pack rows
buffered_some pack rows some enough = grind arith

some_of : (n q : ℕ) → 1 ≤ q → 1 ≤ n → 1 ≤ div_ceil n q
some_of n q some least = grind arith

least_times : (a b : ℕ) → 1 ≤ a → 1 ≤ b → 1 ≤ a * b
least_times a b first second = grind arith

-- few of few slots
pub few_of : {k n : ℕ} → k ≤ n → n ≤ 16 → k ≤ 16
few_of below few = omega (arith, below, few)

pub fits_few : (pack k : ℕ) (columns : Columns) (n : ℕ) → 1 ≤ pack → IsSized columns n → 1 ≤ k → k ≤ 16 → FitsRegion pack columns k
fits_few pack k columns n some is least few = record {
  some = is.some;
  few = is.few;
  wide = is.wide;
  least = least;
  blocks = omega (arith, blocks_few pack k some, few);
}

-- what a pass over few slots asks
pub one_asks : 1 ≤ 10000
one_asks = omega arith

module _ (pack n : ℕ) (some : 1 ≤ pack) (few : n ≤ 16) where
  pub blocks_small : blocks_for pack n ≤ 16
  blocks_small = omega (arith, blocks_few pack n some, few)

  pub read_asks : blocks_for pack n ≤ 10000
  read_asks = omega (arith, blocks_small)

  pub create_asks : 1 + blocks_for pack n ≤ 10000
  create_asks = omega (arith, blocks_small)

  pub change_asks : 2 * blocks_for pack n + 2 ≤ 10000
  change_asks = omega (arith, blocks_small)

  pub insert_asks : 3 * blocks_for pack n + 2 ≤ 10000
  insert_asks = omega (arith, blocks_small)

  pub large_asks : 1 + 4 * blocks_for pack n ≤ 10000
  large_asks = omega (arith, blocks_small)

  -- and one that selects few of them
  module _ (k : ℕ) (fewer : k ≤ 16) where
    results_small : blocks_for pack k ≤ 16
    results_small = omega (arith, blocks_few pack k some, fewer)

    pub continuous_asks : 1 + blocks_for pack k + (blocks_for pack n + 2 * n) ≤ 10000
    continuous_asks = omega (arith, blocks_small, results_small, few)

    pub passes_ask : (rows : ℕ) → 3 * pack + 1 ≤ rows → 1 + (div_ceil (blocks_for pack k) (buffered_blocks pack rows) * blocks_for pack n + blocks_for pack k) ≤ 10000
    passes_ask rows enough =
        let q = buffered_blocks pack rows in
        let passes : div_ceil (blocks_for pack k) q ≤ 16 = omega (arith, passes_few (blocks_for pack k) q (buffered_some pack rows some enough), results_small) in
        omega (arith, few_times (div_ceil (blocks_for pack k) q) (blocks_for pack n) 16 16 passes blocks_small, results_small)

    pub buckets_ask : (depth : ℕ) → depth ≤ 8 → 1 + (k * depth + (blocks_for pack n + 4 * depth * n)) ≤ 10000
    buckets_ask depth deep =
        let buckets : k * depth ≤ 16 * 8 = few_times k depth 16 8 fewer deep in
        let slots : 4 * depth * n ≤ 32 * 16 = few_times (4 * depth) n 32 16 (omega (arith, deep)) few in
        omega (arith, buckets, slots, blocks_small)

-- few buckets of few slots
pub slots_few : (k depth pack : ℕ) → k ≤ 16 → depth ≤ 8 → pack ≤ 16 → (k * depth) * pack ≤ 2048
slots_few k depth pack few deep small =
    let buckets : k * depth ≤ 16 * 8 = few_times k depth 16 8 few deep in
    let slots : (k * depth) * pack ≤ 128 * 16 = few_times (k * depth) pack 128 16 (omega (arith, buckets)) small in
    omega (arith, slots)

-- a join of few slots
module _ (pack rows n m : ℕ) (some : 1 ≤ pack) (few : pack ≤ 16) (enough : 3 * pack + 1 ≤ rows) (first : n ≤ 16) (second : m ≤ 16) where
  lefts : blocks_for pack n ≤ 16
  lefts = omega (arith, blocks_few pack n some, first)

  rights : blocks_for pack m ≤ 16
  rights = omega (arith, blocks_few pack m some, second)

  parts : chunks pack rows n ≤ 16
  parts = omega (arith, passes_few (blocks_for pack n) (buffered_blocks pack rows) (buffered_some pack rows some enough), lefts)

  few_blocks : joined_blocks pack rows n m ≤ 256
  few_blocks = omega (arith, few_times (chunks pack rows n) (blocks_for pack m) 16 16 parts rights)

  pub join_asks : 1 + (blocks_for pack n + 2 * joined_blocks pack rows n m) ≤ 10000
  join_asks = omega (arith, lefts, few_blocks)

  pub few_slots : joined_slots pack rows n m ≤ 4096
  few_slots = omega (arith, few_times (joined_blocks pack rows n m) pack 256 16 few_blocks few)

  pub joined_sized : (l r : Columns) → IsSized l n → IsSized r m → IsSmall l n → IsSmall r m → IsSized (l ++ r) (joined_slots pack rows n m)
  joined_sized l r left right narrow small = record {
    some = omega (arith, length-append l r, left.some);
    few = omega (arith, length-append l r, narrow.few, small.few);
    wide = omega (arith, width-join l r, narrow.narrow, small.narrow);
    least = least_times (joined_blocks pack rows n m) pack
        (least_times (chunks pack rows n) (blocks_for pack m)
        (some_of (blocks_for pack n) (buffered_blocks pack rows) (buffered_some pack rows some enough) (some_of n pack some left.least)) (some_of m pack some right.least)) some;
    most = omega (arith, few_slots);
  }

  pub joined_wide : (l r : Columns) → IsSmall l n → IsSmall r m → width (l ++ r) ≤ 1024
  joined_wide l r narrow small = omega (arith, width-join l r, narrow.narrow, small.narrow)

-- what is emitted has no more
pub emit_asks : (pack n : ℕ) → 1 ≤ pack → n ≤ 4096 → blocks_for pack n ≤ 10000
emit_asks pack n some few = omega (arith, blocks_few pack n some, few)

pub widest : 1024 ≤ 1024
widest = omega arith

pub most_slots : 4096 ≤ 4096
most_slots = omega arith

pub few_most : 16 ≤ 4096
few_most = omega arith

pub buckets_most : 2048 ≤ 4096
buckets_most = omega arith
