-- How many slots of a block have a place, and the accesses of their places.
use Rattle.std.proofs.Common.{◌≡◌, ◌≤◌, ◌<◌, ◌+◌, ◌*◌, ℕ, zero, suc, min, length, refl, ◌∙◌, arith, length-append}
use Rattle.ob_base.specs.Lists.{each}
use Rattle.ob_base.specs.Accesses.{read_at}
use Rattle.ob_script.specs.Parts.{slots_in, continuous_block}
use Rattle.ob_store.proofs.Steps.{length-each}
use Rattle.ob_base.specs.Numbers.{blocks_for}
use Rattle.ob_vault.proofs.RowsLemmas.{rows_room, one_more}
use Rattle.ob_flat.proofs.Tables.{blocks_end}
use Rattle.ob_cont.specs.Putting.{put_part}

-- a slot below the capacity
pub slot_inside : (pack n u z : ℕ) → z < pack → u * pack + z < n → z < slots_in pack n u
slot_inside pack n u z below within = omega (arith, below, within)

pub done_before : (all z : ℕ) → z < all → min z all ≡ z
done_before all z inside = omega (arith, inside)

pub done_after : (all z : ℕ) → z < all → min (z + 1) all ≡ z + 1
done_after all z inside = omega (arith, inside)

-- one after it
pub slot_past : (pack n u z : ℕ) → n ≤ u * pack + z → min (z + 1) (slots_in pack n u) ≡ min z (slots_in pack n u)
slot_past pack n u z past = omega (arith, past)

-- all slots of a block
pub all_slots : (pack n u z : ℕ) → pack ≤ z → min z (slots_in pack n u) ≡ slots_in pack n u
all_slots pack n u z past = omega (arith, past)

pub puts : (g pack k u n : ℕ) → length (each n (put_part g pack k u)) ≡ 2 * n
puts g pack k u n = length-each (put_part g pack k u) 2 (λ j. refl) n ∙ omega arith

-- each block has a slot below the capacity
pub block_inside : (pack n u : ℕ) → 1 ≤ pack → u < blocks_for pack n → u * pack < n
block_inside pack n u some below = omega (arith, blocks_end pack n some, rows_room u (blocks_for pack n) pack below)

pub slots_next : (pack n u : ℕ) → u * pack < n → u * pack + slots_in pack n u ≡ min ((u + 1) * pack) n
slots_next pack n u inside = omega (arith, one_more u pack, inside)

-- after so many blocks
pub spent : (t g pack n k u : ℕ) → length (each u (continuous_block t g pack n k)) ≡ u + 2 * min (u * pack) n
spent t g pack n k zero = omega arith
spent t g pack n k (suc u) =
    let next : suc u * pack ≡ u * pack + pack = grind arith in
    omega (
      arith,
      spent t g pack n k u,
      next,
      puts g pack k u (slots_in pack n u),
      length-append (each u (continuous_block t g pack n k)) (continuous_block t g pack n k u),
      length-append (read_at t u) (each (slots_in pack n u) (put_part g pack k u)),
    )

-- enough are left for block u
pub block_left : (t g pack n k u : ℕ) → 1 ≤ pack → u < blocks_for pack n → length (each u (continuous_block t g pack n k)) + (1 + 2 * slots_in pack n u) ≤ blocks_for pack n + 2 * n
block_left t g pack n k u some below = omega (arith, spent t g pack n k u, block_inside pack n u some below, below)
