-- The numbers of blocks, and of accesses.
use Rattle.std.proofs.Common.{◌≡◌, ◌≤◌, ◌<◌, ◌+◌, ◌-◌, ◌*◌, ℕ, min, length, refl, ◌∙◌, ap, arith}
use Rattle.std.proofs.lemmas.Grind.{div_ceil_times}
use Rattle.ob_base.specs.Lists.{each}
use Rattle.ob_base.specs.Numbers.{blocks_for}
use Rattle.ob_script.specs.Parts.{slots_in, hash_block}
use Rattle.ob_script.proofs.Lengths.{length-hash_slot, bucket_shares}
use Rattle.ob_script.proofs.Shares.{length-each_shares}
use Rattle.ob_store.proofs.Steps.{length-each}
use Rattle.ob_vault.proofs.RowsLemmas.{rows_room}
use Rattle.ob_flat.proofs.Tables.{blocks_end}
use Rattle.ob_flat.specs.Words.{blocks_of}
use Rattle.ob_hash.specs.Hashing.{Layout, IsHashed, block_part, slot_part}

-- whole blocks
pub blocks_whole : (r m : ℕ) → 1 ≤ r → blocks_for r (m * r) ≡ m
blocks_whole r m some =
    let least = (div_ceil_times (m * r) r (omega arith)).0 in
    let most = (div_ceil_times (m * r) r (omega arith)).1 in
    let one : (m + 1) * r ≡ m * r + r = grind arith in
    let below : blocks_for r (m * r) < m + 1 = grind arith in
    let above : m ≤ blocks_for r (m * r) = grind arith in
    omega (arith, below, above)

pub product_within : (a b r : ℕ) → a ≤ b → a * r ≤ b * r
product_within a b r fits = grind arith

-- after one more, there are fewer left
pub nearer : {j n : ℕ} → j < n → n - (j + 1) < n - j
nearer less = omega arith

-- block y of a bucket is one of the result
pub place_in : (k depth b y : ℕ) → b < k → y < depth → b * depth + y < k * depth
place_in k depth b y below inside = omega (arith, inside, rows_room b k depth below)

-- the blocks of a result
module _ {l : Layout} (is : IsHashed l) where
  pub result_blocks : blocks_of l.pack l.table ≡ l.k * l.depth
  result_blocks = ap (blocks_for l.pack) is.capacity ∙ blocks_whole l.pack (l.k * l.depth) is.some

  pub result_few : l.k * l.depth ≤ 134217728
  result_few = omega (arith, result_blocks, is.size.blocks)

  pub result_place : {b y : ℕ} → b < l.k → y < l.depth → b * l.depth + y < blocks_of l.pack l.table
  result_place {b} {y} below inside = omega (arith, result_blocks, place_in l.k l.depth b y below inside)

-- how many accesses the blocks of a bucket take
pub touches : (g depth b n : ℕ) → length (each n (block_part g depth b)) ≡ 2 * n
touches g depth b n = length-each (block_part g depth b) 2 (λ y. refl) n ∙ omega arith

-- and those of so many slots
pub slots_touch : (g k depth first n : ℕ) → length (each n (slot_part g k depth first)) ≡ n * (4 * depth)
slots_touch g k depth first n = length-each (slot_part g k depth first) (4 * depth) (λ j. length-hash_slot g k depth (first + j)) n

-- the next slot's
pub slot_room : (j n depth : ℕ) → j < n → j * (4 * depth) + 4 * depth ≤ n * (4 * depth)
slot_room j n depth below = rows_room j n (4 * depth) below

-- the slots of a block below the capacity
pub slots_inside : (pack capacity u j : ℕ) → j < slots_in pack capacity u → u * pack + j < capacity
slots_inside pack capacity u j below = omega arith

-- and those of the first blocks of the table
pub blocks_touch : (t g pack capacity k depth u : ℕ) → length (each u (hash_block t g pack capacity k depth)) ≡ u + 4 * depth * min capacity (u * pack)
blocks_touch t g pack capacity k depth u =
    length-each_shares (hash_block t g pack capacity k depth) 1 (4 * depth) pack capacity u (bucket_shares t g pack capacity k depth) ∙ omega arith

shared : (a b c d : ℕ) → a + b ≤ c → d * a + b * d ≤ d * c
shared a b c d fits = let all : (a + b) * d ≤ c * d = product_within (a + b) c d fits in omega (arith, all)

-- those of the next block are left
pub block_room : (pack capacity depth u : ℕ) → 4 * depth * min capacity (u * pack) + slots_in pack capacity u * (4 * depth) ≤ 4 * depth * capacity
block_room pack capacity depth u = shared (min capacity (u * pack)) (slots_in pack capacity u) capacity (4 * depth) (omega arith)

-- a block of the table begins below the capacity
pub block_begins : (pack capacity u : ℕ) → 1 ≤ pack → u < blocks_for pack capacity → u * pack < capacity
block_begins pack capacity u some below = omega (arith, blocks_end pack capacity some, rows_room u (blocks_for pack capacity) pack below)

-- that block and those of its slots are left
pub table_room : (t g pack capacity k depth u : ℕ) → u < blocks_for pack capacity
    → length (each u (hash_block t g pack capacity k depth)) + (1 + slots_in pack capacity u * (4 * depth)) ≤ blocks_for pack capacity + 4 * depth * capacity
table_room t g pack capacity k depth u below = omega (arith, below, blocks_touch t g pack capacity k depth u, block_room pack capacity depth u)
