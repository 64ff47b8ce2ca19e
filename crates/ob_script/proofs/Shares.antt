-- Parts that share out a total, as many for each except the last.
use Rattle.std.proofs.Common.{◌≡◌, ℕ, zero, suc, ◌+◌, ◌-◌, ◌*◌, ◌/◌, ◌%◌, ◌<◌, ◌≤◌, min, List, length, sym, ◌∙◌, ap, subst, arith}
use Rattle.std.specs.Int.{div_ceil}
use Rattle.std.proofs.lemmas.List.{length-append}
use Rattle.std.proofs.lemmas.Grind.{div_ceil_times}
use Rattle.std.proofs.Math.Nat.{zero-mul, suc-mul, mul-add, mul-le-mul_left, mul-le-mul_right}
use Rattle.ob_base.specs.Lists.{each}
use Rattle.std.specs.Prelude.{Some, slice_get}
use Rattle.ob_script.proofs.Eaches.{Within, within_each, at_each}

-- part u has a accesses, and b for each of its share of the total, which is q or what is left
pub record Shares {A : Type 0} (f : ℕ → List A) (a b q total : ℕ) : Type 0 where
  pub is : (u : ℕ) → length (f u) ≡ a + b * min q (total - u * q)

-- what n shares have, and the next one
shared : (q total n : ℕ) → min total (n * q) + min q (total - n * q) ≡ min total (suc n * q)
shared q total n = let e = suc-mul n q in omega arith

pub length-each_shares : {A : Type 0} (f : ℕ → List A) (a b q total n : ℕ) → Shares f a b q total → length (each n f) ≡ n * a + b * min total (n * q)
length-each_shares f a b q total zero h = let e = zero-mul q in let k : min total (0 * q) ≡ 0 = omega arith in sym (ap (λ w. 0 * a + b * w) k ∙ omega arith)
length-each_shares f a b q total (suc n) h =
    length-append (each n f) (f n) ∙ (λ t. length-each_shares f a b q total n h t + h.is n t) ∙ sum
  where
    both : b * min total (n * q) + b * min q (total - n * q) ≡ b * min total (suc n * q)
    both = sym (mul-add b (min total (n * q)) (min q (total - n * q))) ∙ ap (λ w. b * w) (shared q total n)

    sum : n * a + b * min total (n * q) + (a + b * min q (total - n * q)) ≡ suc n * a + b * min total (suc n * q)
    sum = let e = suc-mul n a in omega (arith, both)

whole : (q total : ℕ) → 0 < q → min total (div_ceil total q * q) ≡ total
whole q total pos = let d = div_ceil_times total q pos in omega (arith, d.0)

-- as many parts as the total needs
pub length-shares : {A : Type 0} (f : ℕ → List A) (a b q total : ℕ) → Shares f a b q total → 0 < q → length (each (div_ceil total q) f) ≡ div_ceil total q * a + b * total
length-shares f a b q total h pos = length-each_shares f a b q total (div_ceil total q) h ∙ ap (λ w. div_ceil total q * a + b * w) (whole q total pos)

-- all except the last of them have a whole share
full : (q total v : ℕ) → 0 < q → v + 1 < div_ceil total q → min q (total - v * q) ≡ q
full q total v pos l =
    let d = div_ceil_times total q pos in
    let m : (v + 1 + 1) * q ≤ div_ceil total q * q = mul-le-mul_right q (omega arith) in
    let e : (v + 1 + 1) * q ≡ v * q + q + q = omega arith in
    omega (arith, d.1)

pub within_shares : {A : Type 0} (f : ℕ → List A) (a b q total i : ℕ) → Shares f a b q total → 0 < q → 0 < a + b * q →
    i < length (each (div_ceil total q) f) → Within f (div_ceil total q) (a + b * q) i
within_shares f a b q total i h pos some l =
    within_each f (div_ceil total q) (a + b * q) i some
    (λ v k. h.is v ∙ ap (λ w. a + b * w) (full q total v pos k))
    (λ v k. let e = h.is v in let m : b * min q (total - v * q) ≤ b * q = mul-le-mul_left b (omega arith) in omega arith)
    l

-- what stands at a place of the whole stands in its part
pub at_shares : {A : Type 0} (f : ℕ → List A) (a b q total m i : ℕ) (x : A) → Shares f a b q total → 0 < q → m ≡ a + b * q → 0 < m →
    i < length (each (div_ceil total q) f) → slice_get (f (i / m)) (i % m) ≡ Some x → slice_get (each (div_ceil total q) f) i ≡ Some x
at_shares f a b q total m i x h pos e some l k =
    let w = subst (λ m. Within f (div_ceil total q) m i) (sym e) (within_shares f a b q total i h pos (omega arith) l) in
    at_each f (div_ceil total q) m (i / m) (i % m) i x
    (λ v s. h.is v ∙ ap (λ w. a + b * w) (full q total v pos (let p = w.part in omega arith)) ∙ sym e) w.part w.is k

pub within_turn : {A : Type 0} (f : ℕ → List A) (a b q total m i : ℕ) → Shares f a b q total → 0 < q → m ≡ a + b * q → 0 < m →
    i < length (each (div_ceil total q) f) → (i / m < div_ceil total q) × (i % m < a + b * min q (total - i / m * q))
within_turn f a b q total m i h pos e some l =
    let w = subst (λ m. Within f (div_ceil total q) m i) (sym e) (within_shares f a b q total i h pos (omega arith) l) in
    (w.part, subst (λ n. i % m < n) (h.is (i / m)) w.place)
