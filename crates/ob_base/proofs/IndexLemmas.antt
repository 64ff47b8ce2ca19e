-- The height of an index's tree.
use Rattle.std.proofs.Common.{◌≡◌, ◌≤◌, ◌<◌, ◌+◌, ◌*◌, ◌%◌, ◌^◌, ℕ, zero, suc, Bool, true, false, nat_le, arith, refl, inl, inr, sym, ◌∙◌, ap, subst, if◌then◌else◌}
use Rattle.std.proofs.lemmas.Bool.{cases_lt, leb-true, leb-false}
use Rattle.std.proofs.Math.Nat.{pow-le-pow_right, mod-eq_of_lt}
use Rattle.ob_base.specs.Indexes.{IsHeight, height_from, height_of}

pub power_next : (n : ℕ) → 2 ^ suc n ≡ 2 * 2 ^ n
power_next n = grind arith

pub power_some : (n : ℕ) → 1 ≤ 2 ^ n
power_some zero = omega arith
power_some (suc n) = omega (arith, power_next n, power_some n)

power_24 : 2 ^ 24 ≡ 16777216
power_24 = omega arith

pub power_few : (h : ℕ) → h ≤ 24 → 2 ^ h ≤ 16777216
power_few h few =
    let most : 2 ^ h ≤ 2 ^ 24 = pow-le-pow_right (omega arith) few in
    omega (arith, most, power_24)

-- a shift to the left that fits 32 bits
pub shifted : (h : ℕ) → h ≤ 24 → (1 * 2 ^ h) % 4294967296 ≡ 2 ^ h
shifted h few =
    let one : 1 * 2 ^ h ≡ 2 ^ h = omega arith in
    ap (λ (n : ℕ). n % 4294967296) one ∙ mod-eq_of_lt (omega (arith, power_few h few))

-- ---- the least height
below_power : (n : ℕ) → n ≤ 2 ^ n
below_power zero = omega arith
below_power (suc n) = omega (arith, below_power n, power_next n, power_some n)

-- no lower tree has a leaf for each key
pub not_lower : (n h : ℕ) → 2 ^ h < n → ((lower : ℕ) → n ≤ 2 ^ lower → h ≤ lower) → (lower : ℕ) → n ≤ 2 ^ lower → h + 1 ≤ lower
not_lower n h less before lower enough = elim (cases_lt h lower) [
  | inl above ↦ omega (arith, above)
  | inr not ↦
      let same : h ≡ lower = omega (arith, not, before lower enough) in
      absurd (omega (arith, less, enough, ap (λ (k : ℕ). 2 ^ k) same))
]

-- one of the next heights is the least, where the last of them is enough and none before is
least_from : (fuel h n : ℕ) → n ≤ 2 ^ (h + fuel) → ((lower : ℕ) → n ≤ 2 ^ lower → h ≤ lower) → IsHeight n (height_from fuel h n)
least_from zero h n last before = record { enough = omega (arith, last, ap (λ (k : ℕ). 2 ^ k) (nothing h)); least = before }
  where
    nothing : (h : ℕ) → h + 0 ≡ h
    nothing h = omega arith
least_from (suc fuel) h n last before = go (least_from fuel (suc h) n (omega (arith, last, ap (λ (k : ℕ). 2 ^ k) (moved h fuel)))) (nat_le n (2 ^ h)) refl
  where
    go : (((lower : ℕ) → n ≤ 2 ^ lower → suc h ≤ lower) → IsHeight n (height_from fuel (suc h) n)) → (found : Bool) → nat_le n (2 ^ h) ≡ found
        → IsHeight n (if found then h else height_from fuel (suc h) n)
    go next true is = record { enough = leb-true n (2 ^ h) is; least = before }
    go next false is = next (λ lower enough. omega (arith, not_lower n h (leb-false n (2 ^ h) is) before lower enough))

    moved : (h fuel : ℕ) → h + suc fuel ≡ suc h + fuel
    moved h fuel = omega arith

pub is_height_of : (n : ℕ) → IsHeight n (height_of n)
is_height_of n =
    let from_none : n ≡ 0 + n = omega arith in
    least_from n 0 n (subst (λ (k : ℕ). n ≤ 2 ^ k) from_none (below_power n)) (λ lower enough. omega arith)

-- there is one
pub height_same : (n height : ℕ) → IsHeight n height → height ≡ height_of n
height_same n height is =
    let found = is_height_of n in
    omega (arith, is.least (height_of n) found.enough, found.least height is.enough)

pub height_is : (n height : ℕ) → height ≡ height_of n → IsHeight n height
height_is n height is = subst (IsHeight n) (sym is) (is_height_of n)

-- that of the most keys
pub height_last : (keys height : ℕ) → keys ≤ 16777216 → height ≡ 24 → ((lower : ℕ) → keys ≤ 2 ^ lower → height ≤ lower) → 24 ≡ height_of keys
height_last keys height few last before =
    height_same keys 24 (record { enough = omega (arith, few, power_24); least = λ lower enough. omega (arith, last, before lower enough) })
