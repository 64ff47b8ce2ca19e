-- The buckets of a path are buckets of the tree, each once.
use Rattle.std.proofs.Common.{◌≡◌, ◌≤◌, ◌<◌, ℕ, zero, suc, ◌-◌, ◌+◌, ◌*◌, ◌^◌, false, ◌==◌, List, [], ◌∷◌, length, refl, ap, ◌∙◌, arith}
use Rattle.std.specs.List.{list_any}
use Rattle.std.proofs.lemmas.Bool.{ne_eqb, or_from}
use Rattle.ob_path.specs.Paths.{above, upward, path_up}

-- no bucket stands twice, and each is within a list of slots
abbrev pub Apart : ℕ → List ℕ → Type 0
Apart size [] = Unit {0}
Apart size (b ∷ bs) = (4 * b + 4 ≤ size) × (list_any (λ c. c == b) bs ≡ false) × Apart size bs

pub above_less : (b : ℕ) → 1 ≤ b → above b < b
above_less b h = omega arith

pub above_no_more : (b : ℕ) → above b ≤ b
above_no_more b = omega arith

pub absent_above : (n b c : ℕ) → b < c → list_any (λ x. x == c) (upward n b) ≡ false
absent_above zero b c h = refl
absent_above (suc n) b c h =
    or_from (b == c) (list_any (λ x. x == c) (upward n (above b))) (ne_eqb b c (omega arith)) (absent_above n (above b) c (omega (arith, above_no_more b)))

pub power_next : (n : ℕ) → 2 ^ suc n ≡ 2 * 2 ^ n
power_next n = grind arith

pub power_some : (n : ℕ) → 1 ≤ 2 ^ n
power_some zero = omega arith
power_some (suc n) = omega (arith, power_next n, power_some n)

pub apart_upward : (size n b : ℕ) → 2 ^ n ≤ b + 1 → 4 * b + 4 ≤ size → Apart size (upward (suc n) b)
apart_upward size zero b low high = (high, refl, tt)
apart_upward size (suc n) b low high =
    let some : 1 ≤ b = omega (arith, power_next n, power_some n, low) in
    let less : above b < b = above_less b some in
    let still : 2 ^ n ≤ above b + 1 = omega (arith, power_next n, power_some n, low) in
    (high, absent_above (suc n) (above b) b less, apart_upward size n (above b) still (omega (arith, high, less)))

pub apart_path : (h leaf size : ℕ) → leaf < 2 ^ h → size ≡ 4 * (2 ^ (h + 1) - 1) → Apart size (path_up h leaf)
apart_path h leaf size below is =
    let one : h + 1 ≡ suc h = omega arith in
    let next : 2 ^ (h + 1) ≡ 2 * 2 ^ h = ap (λ k. 2 ^ k) one ∙ power_next h in
    apart_upward size h (2 ^ h - 1 + leaf) (omega (arith, power_some h)) (omega (arith, power_some h, next, below, is))

pub length-upward : (n b : ℕ) → length (upward n b) ≡ n
length-upward zero b = refl
length-upward (suc n) b = ap suc (length-upward n (above b))
