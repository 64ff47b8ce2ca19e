-- The region of a result, which its slots fill.
use Rattle.std.proofs.Common.{◌≡◌, ◌≤◌, ◌+◌, ◌-◌, ◌*◌, ◌^◌, ℕ, zero, suc, [], ◌++◌, Option, None, length, replicate, refl, sym, ◌∙◌, ap, arith}
use Rattle.std.proofs.lemmas.List.{append-nil}
use Rattle.ob_base.specs.Numbers.{blocks_for}
use Rattle.ob_base.specs.Schemas.{Columns}
use Rattle.ob_vault.specs.State.{World}
use Rattle.ob_row.specs.Rows.{Row}
use Rattle.ob_row.specs.Slots.{Slots, empty_slots}
use Rattle.ob_blocks.specs.Blocks.{none_of}
use Rattle.ob_blocks.proofs.Blocks.{replicate_join}
use Rattle.ob_flat.specs.declared.flat.Flat.{Flat}
use Rattle.ob_flat.specs.Flats.{IsSized, FitsRegion, Represents, HoldsSlots, whole_blocks}
use Rattle.ob_flat.proofs.Tables.{holds_whole, represents_whole, blocks_few}
use Rattle.ob_hash.specs.Bucketed.{spread}
use Rattle.ob_flat.specs.Words.{IsTable, blocks_of}
use Rattle.ob_hash.specs.Hashing.{IsHashed, FitsBuckets, Layout, layout_at, bucket_size, select_length}
use Rattle.ob_hash.proofs.Alike.{holds_alike}
use Rattle.ob_hash.proofs.Sizes.{blocks_whole, result_blocks, result_few}

-- nothing is left after the slots
whole_same : (pack capacity : ℕ) (slots : Slots) → length slots ≡ capacity → blocks_for pack capacity * pack ≡ capacity → whole_blocks pack capacity slots ≡ slots
whole_same pack capacity slots size whole =
    let none : blocks_for pack capacity * pack - length slots ≡ 0 = omega (arith, size, whole) in
    ap (λ (n : ℕ). slots ++ none_of n) none ∙ append-nil slots

-- k empty buckets
pub spread_none : (k n : ℕ) (slots : Slots) → spread n slots (replicate k []) ≡ empty_slots (k * n)
spread_none zero n slots = let none : 0 ≡ 0 * n = omega arith in ap (λ (m : ℕ). empty_slots m) none
spread_none (suc k) n slots =
    let all : n - 0 ≡ n = omega arith in
    let more : n + k * n ≡ suc k * n = grind arith in
    ap (λ (m : ℕ). none_of {A = Row} m ++ spread n slots (replicate k [])) all ∙ ap (λ (l : Slots). none_of n ++ l) (spread_none k n slots)
    ∙ replicate_join {A = Option Row} n (k * n) None ∙ ap (λ (m : ℕ). empty_slots m) more

module _ (l : Layout) (w : World) (is : IsHashed l) where
  whole : blocks_of l.pack l.table * l.pack ≡ l.table.capacity
  whole = ap (λ (b : ℕ). b * l.pack) (result_blocks is) ∙ sym is.capacity

  -- at first all buckets are empty
  pub begins_empty : (slots : Slots) → Represents l.pack l.table (empty_slots l.table.capacity) w → HoldsSlots l.pack l.table (spread (bucket_size l) slots (replicate l.k [])) w
  begins_empty slots none =
      let size : l.table.capacity ≡ l.k * (l.depth * l.pack) = is.capacity ∙ grind arith in
      let all = empty_slots l.table.capacity in
      holds_alike l.pack l.table w _ _ (whole_same l.pack l.table.capacity all none.size whole ∙ ap (λ (m : ℕ). empty_slots m) size ∙ sym (spread_none l.k (bucket_size l) slots)) (holds_whole l.pack l.table all w is.some none)

  -- what it holds is the result
  pub is_result : (slots : Slots) → HoldsSlots l.pack l.table slots w → Represents l.pack l.table slots w
  is_result slots holds =
      let size : length slots ≡ l.table.capacity = holds.size ∙ whole in
      represents_whole l.pack l.table slots w size holds.fits (holds_alike l.pack l.table w _ _ (sym (whole_same l.pack l.table.capacity slots size whole)) holds)

-- it has no more blocks than a region may have
pub buckets_few : (k depth : ℕ) → k ≤ 16777216 → depth ≤ 8 → k * depth ≤ 134217728
buckets_few k depth most deep = let all : k * depth ≤ 16777216 * 8 = grind arith in omega (arith, all)

pub accesses_few : (depth capacity : ℕ) → depth ≤ 8 → capacity ≤ 16777216 → 4 * depth * capacity ≤ 536870912
accesses_few depth capacity deep most = let all : (4 * depth) * capacity ≤ 32 * 16777216 = grind arith in omega (arith, all)

region_fits : (pack k depth capacity : ℕ) (columns : Columns) → IsSized columns capacity → 1 ≤ pack → 1 ≤ k → k ≤ capacity → 1 ≤ depth → depth ≤ 8 → FitsRegion pack columns ((k * depth) * pack)
region_fits pack k depth capacity columns is some one most least deep =
    let first : 1 ≤ k * depth = grind arith in
    record {
      some = is.some;
      few = is.few;
      wide = is.wide;
      least = grind arith;
      blocks = omega (arith, blocks_whole pack (k * depth) some, buckets_few k depth (omega (arith, most, is.most)) deep);
    }

-- the sizes of a result
pub hashed_at : (pack : ℕ) (flat : Flat) (k depth region : ℕ) (w : World) → IsTable pack flat w → FitsBuckets k depth flat → IsHashed (layout_at pack flat k depth region)
hashed_at pack flat k depth region w table sizes = record {
  some = table.some;
  most = table.most;
  buckets = sizes.some;
  blocks = sizes.blocks;
  deepest = sizes.deepest;
  capacity = refl;
  size = region_fits pack k depth flat.capacity flat.schema table.size table.some sizes.some sizes.most sizes.blocks sizes.deepest;
}

-- and the accesses of a selection
pub select_few : (l : Layout) (flat : Flat) → IsHashed l → flat.capacity ≤ 16777216 → 1 ≤ l.pack → select_length l flat ≤ 2 ^ 59
select_few l flat is most some =
    omega (arith, most, result_few is, accesses_few l.depth flat.capacity is.deepest most, blocks_few l.pack flat.capacity some)
