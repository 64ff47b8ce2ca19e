-- The buckets of a path by their heights, and where two paths meet.
use Rattle.std.proofs.Common.{◌≡◌, ◌≤◌, ◌<◌, ℕ, zero, suc, ◌-◌, ◌+◌, ◌*◌, ◌/◌, ◌^◌, Bool, true, false, ◌||◌, ◌==◌, ◌⊎◌, inl, inr, get_or, refl, sym, ap, ◌∙◌, arith}
use Rattle.std.specs.List.{list_any}
use Rattle.std.proofs.Math.Nat.{div-div-eq-div-mul, mul-add-div_right}
use Rattle.std.proofs.lemmas.Bool.{ne_eqb, eq-eqb, cases_eq}
use Rattle.ob_path.specs.Paths.{above, upward, path_up, is_on_path}
use Rattle.ob_tree.proofs.PathLemmas.{above_no_more, absent_above, power_next, power_some}

or_none : (x y : Bool) → y ≡ false → (x || y) ≡ x
or_none true y e = refl
or_none false y e = e

or_other : (x y z : Bool) → x ≡ false → y ≡ z → (x || y) ≡ z
or_other x y z e f = rw e f

above_half : (b : ℕ) → 1 ≤ b → above b + 1 ≡ (b + 1) / 2
above_half b some = omega (arith, some)

pub up_at : (n b j : ℕ) → 2 ^ n ≤ b + 1 → j ≤ n → get_or (upward (suc n) b) j 0 ≡ (b + 1) / 2 ^ j - 1
up_at n b zero low within = omega arith
up_at zero b (suc j) low within = absurd (omega (arith, within))
up_at (suc n) b (suc j) low within =
    let some : 1 ≤ b = omega (arith, power_next n, power_some n, low) in
    let still : 2 ^ n ≤ above b + 1 = omega (arith, power_next n, power_some n, low) in
    up_at n (above b) j still (omega (arith, within))
    ∙ ap (λ x. x / 2 ^ j - 1) (above_half b some)
    ∙ ap (λ x. x - 1) (div-div-eq-div-mul (b + 1) 2 (2 ^ j))
    ∙ ap (λ x. (b + 1) / x - 1) (sym (power_next j))

pub up_no_more : (n b j : ℕ) → get_or (upward n b) j 0 ≤ b
up_no_more zero b j = omega arith
up_no_more (suc n) b zero = omega arith
up_no_more (suc n) b (suc j) = omega (arith, up_no_more n (above b) j, above_no_more b)

-- two buckets of one height are on one path upward where they are one at that height
pub up_meet : (n a b j : ℕ) → 2 ^ n ≤ a + 1 → a + 1 < 2 ^ suc n → 2 ^ n ≤ b + 1 → b + 1 < 2 ^ suc n → j ≤ n
    → list_any (λ c. c == get_or (upward (suc n) a) j 0) (upward (suc n) b) ≡ (get_or (upward (suc n) b) j 0 == get_or (upward (suc n) a) j 0)
up_meet zero a b zero la ha lb hb within = or_none (b == a) false refl
up_meet (suc n) a b zero la ha lb hb within =
    or_none (b == a) (list_any (λ c. c == a) (upward (suc n) (above b)))
    (absent_above (suc n) (above b) a (omega (arith, la, hb, lb, power_next (suc n), power_next n, power_some n)))
up_meet zero a b (suc j) la ha lb hb within = absurd (omega (arith, within))
up_meet (suc n) a b (suc j) la ha lb hb within =
    let c = get_or (upward (suc n) (above a)) j 0 in
    let small : c ≤ above a = up_no_more (suc n) (above a) j in
    let pn = power_next n in
    let pm = power_next (suc n) in
    let ps = power_some n in
    let less : c < b = omega (arith, small, la, ha, lb, pn, pm, ps) in
    or_other (b == c) (list_any (λ x. x == c) (upward (suc n) (above b))) (get_or (upward (suc n) (above b)) j 0 == c)
    (ne_eqb b c (λ same. absurd (omega (arith, less, same))))
    (up_meet n (above a) (above b) j (omega (arith, la, pn, ps)) (omega (arith, la, ha, pn, pm, ps)) (omega (arith, lb, pn, ps)) (omega (arith, lb, hb, pn, pm, ps)) (omega (arith, within)))

power_add : (i j : ℕ) → 2 ^ (i + j) ≡ 2 ^ i * 2 ^ j
power_add i zero =
    let none : i + 0 ≡ i = omega arith in
    let one : 2 ^ i ≡ 2 ^ i * 2 ^ 0 = omega arith in
    ap (λ k. 2 ^ k) none ∙ one
power_add i (suc j) =
    let step : i + suc j ≡ suc (i + j) = omega arith in
    ap (λ k. 2 ^ k) step ∙ power_next (i + j) ∙ ap (λ x. 2 * x) (power_add i j) ∙ (let twice : 2 * (2 ^ i * 2 ^ j) ≡ 2 ^ i * (2 * 2 ^ j) = grind arith in twice) ∙ ap (λ x. 2 ^ i * x) (sym (power_next j))

parted : (h leaf j : ℕ) → j ≤ h → (2 ^ h + leaf) / 2 ^ j ≡ 2 ^ (h - j) + leaf / 2 ^ j
parted h leaf j within =
    let whole : (h - j) + j ≡ h = omega (arith, within) in
    ap (λ x. (x + leaf) / 2 ^ j) (ap (λ k. 2 ^ k) (sym whole) ∙ power_add (h - j) j)
    ∙ mul-add-div_right (power_some j) (2 ^ (h - j)) leaf

pub path_at : (h leaf j : ℕ) → leaf < 2 ^ h → j ≤ h → get_or (path_up h leaf) j 0 ≡ (2 ^ h + leaf) / 2 ^ j - 1
path_at h leaf j below within =
    up_at h (2 ^ h - 1 + leaf) j (omega (arith, power_some h)) within ∙ (let e : 2 ^ h - 1 + leaf + 1 ≡ 2 ^ h + leaf = omega (arith, power_some h) in ap (λ x. x / 2 ^ j - 1) e)

pub paths_meet : (h a b j : ℕ) → a < 2 ^ h → b < 2 ^ h → j ≤ h → is_on_path h b (get_or (path_up h a) j 0) ≡ (a / 2 ^ j == b / 2 ^ j)
paths_meet h a b j ha hb within =
    up_meet h (2 ^ h - 1 + a) (2 ^ h - 1 + b) j (omega (arith, power_some h)) (omega (arith, power_some h, power_next h, ha)) (omega (arith, power_some h)) (omega (arith, power_some h, power_next h, hb)) within
    ∙ by_eq (cases_eq (a / 2 ^ j) (b / 2 ^ j))
  where
    at_a : get_or (path_up h a) j 0 ≡ 2 ^ (h - j) + a / 2 ^ j - 1
    at_a = path_at h a j ha within ∙ ap (λ x. x - 1) (parted h a j within)

    at_b : get_or (path_up h b) j 0 ≡ 2 ^ (h - j) + b / 2 ^ j - 1
    at_b = path_at h b j hb within ∙ ap (λ x. x - 1) (parted h b j within)

    by_eq : (a / 2 ^ j ≡ b / 2 ^ j) ⊎ (a / 2 ^ j ≡ b / 2 ^ j → ⊥) → (get_or (path_up h b) j 0 == get_or (path_up h a) j 0) ≡ (a / 2 ^ j == b / 2 ^ j)
    by_eq (inl same) = eq-eqb (get_or (path_up h b) j 0) (get_or (path_up h a) j 0) (at_b ∙ ap (λ x. 2 ^ (h - j) + x - 1) (sym same) ∙ sym at_a) ∙ sym (eq-eqb (a / 2 ^ j) (b / 2 ^ j) same)
    by_eq (inr off) =
        ne_eqb (get_or (path_up h b) j 0) (get_or (path_up h a) j 0) (λ e. off (apart (sym at_b ∙ e ∙ at_a)))
        ∙ sym (ne_eqb (a / 2 ^ j) (b / 2 ^ j) off)
      where
        apart : 2 ^ (h - j) + b / 2 ^ j - 1 ≡ 2 ^ (h - j) + a / 2 ^ j - 1 → a / 2 ^ j ≡ b / 2 ^ j
        apart e = let some : 1 ≤ 2 ^ (h - j) = power_some (h - j) in omega (arith, e, some)
