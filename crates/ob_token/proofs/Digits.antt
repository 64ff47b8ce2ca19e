-- A number that is kept up to a limit.
use Rattle.std.proofs.Common.{◌≡◌, ℕ, suc, ◌+◌, ◌*◌, ◌-◌, ◌≤◌, ◌<◌, List, [], ◌∷◌, length, drop, get_or, min, Bool, true, false, sym, ◌∙◌, ap, subst, arith}
use Rattle.std.proofs.lemmas.List.{drop_all}
use Rattle.std.specs.Prelude.{◌&&◌}
use Rattle.std.proofs.Math.Seq.{drop-cons}
use Rattle.ob_token.specs.Bytes.{all_digits, decimal, is_digit, magnitude, u64_max}

cut_before : (n k m : ℕ) → min (10 * min n m + k) m ≡ min (10 * n + k) m
cut_before n k m = omega arith

cut : (n m : ℕ) (ds : List ℕ) → min (decimal (min n m) ds) m ≡ min (decimal n ds) m
cut n m [] = omega arith
cut n m (d ∷ ds) =
    sym (cut (10 * min n m + (d - 48)) m ds)
    ∙ ap (λ x. min (decimal x ds) m) (cut_before n (d - 48) m)
    ∙ cut (10 * n + (d - 48)) m ds

one_more : (n a r d : ℕ) (ds : List ℕ) → a ≡ min (n * 10) u64_max → r ≡ min (a + (d - 48)) u64_max → min (decimal r ds) u64_max ≡ min (decimal n (d ∷ ds)) u64_max
one_more n a r d ds e f = ap (λ x. min (decimal x ds) u64_max) same ∙ cut (10 * n + (d - 48)) u64_max ds where
  same : r ≡ min (10 * n + (d - 48)) u64_max
  same = omega (arith, e, f)

second_true : (a b : Bool) → (a && b) ≡ true → b ≡ true
second_true true b e = e
second_true false b e = absurd (cc e)

-- what the loop over the digits keeps
abbrev pub Kept : List ℕ → ℕ → ℕ → Type 0
Kept digits i v = (min (decimal 0 digits) u64_max ≡ min (decimal v (drop i digits)) u64_max) × (all_digits (drop i digits) ≡ true) × (v ≤ u64_max)

pub kept_next : (digits : List ℕ) (i n a r : ℕ) → i < length digits → Kept digits i n → a ≡ min (n * 10) u64_max
    → r ≡ min (a + (get_or digits i 0 - 48)) u64_max → Kept digits (i + 1) r
kept_next digits i n a r lt k e f =
    let front : drop i digits ≡ get_or digits i 0 ∷ drop (suc i) digits = drop-cons digits i 0 lt in
    let next : i + 1 ≡ suc i = omega arith in
    subst (λ j. Kept digits j r) (sym next) (
      k.0 ∙ ap (λ xs. min (decimal n xs) u64_max) front ∙ sym (one_more n a r (get_or digits i 0) (drop (suc i) digits) e f),
      second_true (is_digit (get_or digits i 0)) (all_digits (drop (suc i) digits)) (ap all_digits (sym front) ∙ k.1),
      omega (arith, f),
    )

pub kept_end : (digits : List ℕ) (i n : ℕ) → length digits ≤ i → Kept digits i n → n ≡ magnitude digits
kept_end digits i n e k = let last : min n u64_max ≡ n = omega (arith, k.2) in sym last ∙ ap (λ xs. min (decimal n xs) u64_max) (sym (drop_all i digits e)) ∙ sym (k.0)
