-- The places of a leaf's path fit 32 bits.
use Rattle.std.proofs.Common.{◌≡◌, ◌≤◌, ◌<◌, ◌+◌, ◌-◌, ◌*◌, ◌/◌, ◌%◌, ◌^◌, ℕ, zero, suc, arith, Fits, w32, sym, ◌∙◌, ap}
use Rattle.std.proofs.Math.Nat.{pow-le-pow_right, mod-eq_of_lt, le-div_iff_mul-le, div-mul-le_self}
use Rattle.ob_base.proofs.IndexLemmas.{power_few, power_next, power_some, shifted}

pub shifted_two : (h : ℕ) → h ≤ 24 → (2 * 2 ^ h) % 4294967296 ≡ 2 ^ (h + 1)
shifted_two h few =
    let next : h + 1 ≡ suc h = omega arith in
    mod-eq_of_lt (omega (arith, power_few h few)) ∙ sym (ap (λ (k : ℕ). 2 ^ k) next ∙ power_next h)

pub blocks_few : (h : ℕ) → h ≤ 24 → 4 * (2 ^ (h + 1) - 1) ≤ 134217724
blocks_few h few =
    let next : h + 1 ≡ suc h = omega arith in
    omega (arith, power_few h few, ap (λ (k : ℕ). 2 ^ k) next ∙ power_next h)

-- a quotient is no more than what is divided
quotient_less : (a b : ℕ) → 1 ≤ b → a / b ≤ a
quotient_less a b some = go (a / b) (div-mul-le_self a b)
  where
    go : (q : ℕ) → q * b ≤ a → q ≤ a
    go q h = let m : q * 1 ≤ q * b = mul_left q in omega (arith, m, h)
      where
        mul_left : (q : ℕ) → q * 1 ≤ q * b
        mul_left zero = omega arith
        mul_left (suc q) = let r = mul_left q in omega (arith, r, some)

module _ (h leaf c : ℕ) (few : h ≤ 24) (below : leaf < 2 ^ h) (within : c < 4 * (h + 1)) where
  start : (1 * 2 ^ h) % 4294967296 + leaf ≡ 2 ^ h + leaf
  start = ap (λ n. n + leaf) (shifted h few)

  pub bucket_some : 1 ≤ ((1 * 2 ^ h) % 4294967296 + leaf) / 2 ^ (h - c / 4)
  bucket_some =
      let low : 2 ^ (h - c / 4) ≤ 2 ^ h = pow-le-pow_right (omega arith) (omega arith) in
      let one : 1 ≤ (2 ^ h + leaf) / 2 ^ (h - c / 4) = (le-div_iff_mul-le (power_some (h - c / 4))).1 (omega (arith, low)) in
      rw start one

  bucket_few : (2 ^ h + leaf) / 2 ^ (h - c / 4) ≤ 33554432
  bucket_few = omega (arith, quotient_less (2 ^ h + leaf) (2 ^ (h - c / 4)) (power_some (h - c / 4)), power_few h few, below)

  pub place_w32 : Fits w32 (4 * (((1 * 2 ^ h) % 4294967296 + leaf) / 2 ^ (h - c / 4) - 1) + c % 4)
  place_w32 = rw start (omega (arith, bucket_few))

  pub bucket_w32 : Fits w32 (4 * (((1 * 2 ^ h) % 4294967296 + leaf) / 2 ^ (h - c / 4) - 1))
  bucket_w32 = rw start (omega (arith, bucket_few))
