-- Each write has a number of its own, and where the block at a place was written.
use Rattle.ob_headline.proofs.Words.{Access, ap, arith, Bool, cases_lt, Discard, false, if◌then◌else◌, inl, inr, List, Make, nat_tests, Open, Read, refl, slice_get, Some, Start, subst, suc, sym, take, true, Write, writes, zero, ℕ, [], ◌&&◌, ◌+◌, ◌-◌, ◌<◌, ◌==◌, ◌∷◌, ◌≡◌, ◌≤◌}
use Rattle.ob_base.specs.Accesses.{nth_write, number_from}
use Rattle.ob_headline.specs.Shown.{IsAlone}

-- ---- numbers rise with positions
rises : (asked : List Access) (i j q x : ℕ) → slice_get asked i ≡ Some (Write q x) → i < j → writes (take i asked) + 1 ≤ writes (take j asked)
unfolding writes
rises [] i j q x is less = absurd (cc is)
rises (Write a b ∷ rest) zero zero q x is less = absurd (omega (arith, less))
rises (Write a b ∷ rest) zero (suc j) q x is less = omega arith
rises (Make a b c ∷ rest) zero j q x is less = absurd (cc is)
rises (Read a b ∷ rest) zero j q x is less = absurd (cc is)
rises (Discard a ∷ rest) zero j q x is less = absurd (cc is)
rises (Open a b c ∷ rest) zero j q x is less = absurd (cc is)
rises (a ∷ rest) (suc i) zero q x is less = absurd (omega (arith, less))
rises (Write a b ∷ rest) (suc i) (suc j) q x is less = omega (arith, rises rest i j q x is (omega (arith, less)))
rises (Make a b c ∷ rest) (suc i) (suc j) q x is less = rises rest i j q x is (omega (arith, less))
rises (Read a b ∷ rest) (suc i) (suc j) q x is less = rises rest i j q x is (omega (arith, less))
rises (Discard a ∷ rest) (suc i) (suc j) q x is less = rises rest i j q x is (omega (arith, less))
rises (Open a b c ∷ rest) (suc i) (suc j) q x is less = rises rest i j q x is (omega (arith, less))

pub alone : (start : Start) (asked : List Access) (i q x : ℕ) → slice_get asked i ≡ Some (Write q x) → IsAlone start asked i
alone start asked i q x is = record {
  above = omega arith;
  before = λ j r y at less. omega (arith, rises asked j i r y at.is less);
  behind = λ j r y at less. omega (arith, rises asked i j q x is less);
}

-- ---- which write has a number
pub record At (n : ℕ) (asked : List Access) (q x : ℕ) : Type 0 where
  pub position : ℕ
  pub is : slice_get asked position ≡ Some (Write q x)
  pub number : n ≡ writes (take position asked) + 1

one_on : (n m q x : ℕ) (a : Access) (rest : List Access) (at : At n rest q x) → m ≡ writes (take (suc at.position) (a ∷ rest)) + 1 → At m (a ∷ rest) q x
one_on n m q x a rest at is = record { position = suc at.position; is = at.is; number = is }

none_first : (asked : List Access) (p : ℕ × ℕ) → nth_write 0 asked ≡ Some p → ⊥
unfolding nth_write
none_first [] p is = cc is
none_first (Write q x ∷ rest) p is = none_first rest p is
none_first (Make q blocks len ∷ rest) p is = none_first rest p is
none_first (Read q x ∷ rest) p is = none_first rest p is
none_first (Discard q ∷ rest) p is = none_first rest p is
none_first (Open q blocks len ∷ rest) p is = none_first rest p is

some : (n : ℕ) (rest : List Access) (p : ℕ × ℕ) → nth_write (n - 1) rest ≡ Some p → (n == 1) ≡ false → 2 ≤ n
some zero rest p is other = absurd (none_first rest p is)
some (suc zero) rest p is other = absurd (cc other)
some (suc (suc n)) rest p is other = omega arith

pub position_of : (n : ℕ) (asked : List Access) (q x : ℕ) → nth_write n asked ≡ Some (q, x) → At n asked q x
unfolding nth_write writes
position_of n [] q x is = absurd (cc is)
position_of n (Write a b ∷ rest) q x is = go (position_of (n - 1) rest q x) (n == 1) refl is
  where
    go : (nth_write (n - 1) rest ≡ Some (q, x) → At (n - 1) rest q x) → (t : Bool) → (n == 1) ≡ t → (if t then Some (a, b) else nth_write (n - 1) rest) ≡ Some (q, x) → At n (Write a b ∷ rest) q x
    go further true one here = let same : ◌≡◌ {A = ℕ × ℕ} (a, b) (q, x) = cc here in record { position = 0; is = ap (λ (p : ℕ × ℕ). Some (Write p.0 p.1)) same; number = grind (arith, nat_tests) }
    go further false other later = let at = further later in one_on (n - 1) n q x (Write a b) rest at (omega (arith, at.number, some n rest (q, x) later other))
position_of n (Make a b c ∷ rest) q x is = let at = position_of n rest q x is in one_on n n q x (Make a b c) rest at at.number
position_of n (Read a b ∷ rest) q x is = let at = position_of n rest q x is in one_on n n q x (Read a b) rest at at.number
position_of n (Discard a ∷ rest) q x is = let at = position_of n rest q x is in one_on n n q x (Discard a) rest at at.number
position_of n (Open a b c ∷ rest) q x is = let at = position_of n rest q x is in one_on n n q x (Open a b c) rest at at.number

-- ---- the last write to a place
grows : (n found q x : ℕ) (asked : List Access) → found ≤ n → found ≤ number_from n found q x asked
unfolding number_from
grows n found q x [] few = omega arith
grows n found q x (Write a b ∷ rest) few = go (grows (n + 1) (n + 1) q x rest (omega arith)) (grows (n + 1) found q x rest (omega (arith, few))) ((a == q) && (b == x))
  where
    go : n + 1 ≤ number_from (n + 1) (n + 1) q x rest → found ≤ number_from (n + 1) found q x rest → (t : Bool) → found ≤ number_from (n + 1) (if t then n + 1 else found) q x rest
    go here there true = omega (arith, few, here)
    go here there false = there
grows n found q x (Make a b c ∷ rest) few = grows n found q x rest few
grows n found q x (Read a b ∷ rest) few = grows n found q x rest few
grows n found q x (Discard a ∷ rest) few = grows n found q x rest few
grows n found q x (Open a b c ∷ rest) few = grows n found q x rest few

-- the number of a place is no less than that of any write to it
pub no_less : (n found q x : ℕ) (asked : List Access) (i : ℕ) → slice_get asked i ≡ Some (Write q x) → n + (writes (take i asked) + 1) ≤ number_from n found q x asked
unfolding number_from writes
no_less n found q x [] i is = absurd (cc is)
no_less n found q x (Write a b ∷ rest) zero is =
    let r : a ≡ q = cc is in
    let p : b ≡ x = cc is in
    let same : ((a == q) && (b == x)) ≡ true = grind (arith, nat_tests) in
    subst (λ (t : Bool). n + (0 + 1) ≤ number_from (n + 1) (if t then n + 1 else found) q x rest) (sym same) (omega (arith, grows (n + 1) (n + 1) q x rest (omega arith)))
no_less n found q x (Make a b c ∷ rest) zero is = absurd (cc is)
no_less n found q x (Read a b ∷ rest) zero is = absurd (cc is)
no_less n found q x (Discard a ∷ rest) zero is = absurd (cc is)
no_less n found q x (Open a b c ∷ rest) zero is = absurd (cc is)
no_less n found q x (Write a b ∷ rest) (suc i) is = omega (arith, no_less (n + 1) (if (a == q) && (b == x) then n + 1 else found) q x rest i is)
no_less n found q x (Make a b c ∷ rest) (suc i) is = no_less n found q x rest i is
no_less n found q x (Read a b ∷ rest) (suc i) is = no_less n found q x rest i is
no_less n found q x (Discard a ∷ rest) (suc i) is = no_less n found q x rest i is
no_less n found q x (Open a b c ∷ rest) (suc i) is = no_less n found q x rest i is

-- so where it is that of a write, no other write to the place comes later
pub no_later : (n found q x : ℕ) (asked : List Access) (i j : ℕ) → slice_get asked i ≡ Some (Write q x) → slice_get asked j ≡ Some (Write q x)
    → n + (writes (take i asked) + 1) ≡ number_from n found q x asked → j ≤ i
no_later n found q x asked i j here there last = elim (cases_lt i j) [
  | inl more ↦ absurd (omega (arith, rises asked i j q x here more, no_less n found q x asked j there, last))
  | inr less ↦ less
]
