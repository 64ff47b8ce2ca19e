-- Heights, leaves and blocks of a tree.
use Rattle.std.proofs.Common.{◌≡◌, ◌≤◌, ◌<◌, ◌+◌, ◌-◌, ◌*◌, ◌/◌, ◌%◌, ◌^◌, ℕ, suc, arith, Fits, w32, sym, ◌∙◌, ap}
use Rattle.std.proofs.Math.Nat.{pow-le-pow_right, mod-eq_of_lt, le-div_iff_mul-le}
use Rattle.ob_base.proofs.IndexLemmas.{power_few, shifted}
use Rattle.ob_script.specs.Parts.{path_place}
use Rattle.ob_tree.proofs.PathLemmas.{power_next, power_some}
use Rattle.ob_tree.proofs.WalkLemmas.{path_place_below}

pub shifted_two : (h : ℕ) → h ≤ 24 → (2 * 2 ^ h) % 4294967296 ≡ 2 ^ (h + 1)
shifted_two h few =
    let next : h + 1 ≡ suc h = omega arith in
    mod-eq_of_lt (omega (arith, power_few h few)) ∙ sym (ap (λ (k : ℕ). 2 ^ k) next ∙ power_next h)

pub blocks_few : (h : ℕ) → h ≤ 24 → 4 * (2 ^ (h + 1) - 1) ≤ 134217724
blocks_few h few =
    let next : h + 1 ≡ suc h = omega arith in
    omega (arith, power_few h few, ap (λ (k : ℕ). 2 ^ k) next ∙ power_next h)

pub blocks_some : (h : ℕ) → 1 ≤ 4 * (2 ^ (h + 1) - 1)
blocks_some h =
    let next : h + 1 ≡ suc h = omega arith in
    omega (arith, power_some h, ap (λ (k : ℕ). 2 ^ k) next ∙ power_next h)

-- the place of a block of a path
module _ (h leaf c : ℕ) (few : h ≤ 24) (below : leaf < 2 ^ h) (within : c < 4 * (h + 1)) where
  start : (1 * 2 ^ h) % 4294967296 + leaf ≡ 2 ^ h + leaf
  start = ap (λ n. n + leaf) (shifted h few)

  pub bucket_some : 1 ≤ ((1 * 2 ^ h) % 4294967296 + leaf) / 2 ^ (h - c / 4)
  bucket_some =
      let low : 2 ^ (h - c / 4) ≤ 2 ^ h = pow-le-pow_right (omega arith) (omega arith) in
      let one : 1 ≤ (2 ^ h + leaf) / 2 ^ (h - c / 4) = (le-div_iff_mul-le (power_some (h - c / 4))).1 (omega (arith, low)) in
      rw start one

  place_few : path_place h leaf c < 134217724
  place_few = omega (arith, path_place_below h leaf below c within, blocks_few h few)

  pub place_w32 : Fits w32 (4 * (((1 * 2 ^ h) % 4294967296 + leaf) / 2 ^ (h - c / 4) - 1) + c % 4)
  place_w32 = rw start (omega (arith, place_few))

  pub bucket_w32 : Fits w32 (4 * (((1 * 2 ^ h) % 4294967296 + leaf) / 2 ^ (h - c / 4) - 1))
  bucket_w32 = rw start (omega (arith, place_few))
