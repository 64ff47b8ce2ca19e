-- Paths from the root down.
use Rattle.std.proofs.Common.{◌≡◌, ◌≤◌, ◌<◌, ◌≢◌, ℕ, zero, suc, ◌-◌, ◌+◌, ◌*◌, ◌^◌, Bool, true, false, ◌==◌, ◌||◌, ◌⊎◌, inl, inr, List, [], ◌∷◌, ◌++◌, reverse, refl, sym, ap, ◌∙◌, subst, arith}
use Rattle.std.proofs.lemmas.Bool.{cases_eq, cases_Bool, eqb-true, eq-eqb, or_left, or_right, true≢false}
use Rattle.std.proofs.lemmas.List.{reverse-append}
use Rattle.std.proofs.lemmas.List.Folds.{list_any-append}
use Rattle.ob_path.specs.Paths.{above, upward, path_up, path}
use Rattle.ob_tree.proofs.PathLemmas.{power_next, power_some}
use Rattle.ob_linked.specs.Linked.{is_among, GoesDown, GoesUp}

abbrev last_of : ℕ → List ℕ → ℕ
last_of b [] = b
last_of b (c ∷ below) = last_of c below

goes_on : (n b : ℕ) (below : List ℕ) (c : ℕ) → GoesDown n b below → c ≢ 0 → above c ≡ last_of b below → c < n → GoesDown n b (below ++ c ∷ [])
goes_on n b [] c within some up less = (within, some, up, less)
goes_on n b (d ∷ below) c (within, one, to, goes) some up less = (within, one, to, goes_on n d below c goes some up less)

last-append : (b : ℕ) (below : List ℕ) (c : ℕ) → last_of b (below ++ c ∷ []) ≡ c
last-append b [] c = refl
last-append b (d ∷ below) c = last-append d below c

record Down (n m b : ℕ) : Type 0 where
  below : List ℕ
  is : reverse (upward (suc m) b) ≡ 0 ∷ below
  goes : GoesDown n 0 below
  last : last_of 0 below ≡ b

down : (n m b : ℕ) → 2 ^ m ≤ b + 1 → b + 1 < 2 ^ suc m → b < n → Down n m b
down n zero b low high within =
    let first : b ≡ 0 = omega (arith, high) in
    record { below = []; is = ap (λ x. x ∷ []) first; goes = subst (λ x. x < n) first within; last = sym first }
down n (suc m) b low high within =
    let p = power_next m in
    let q = power_next (suc m) in
    let one = power_some m in
    let some : 1 ≤ b = omega (arith, low, p, one) in
    let rest = down n m (above b) (omega (arith, low, p, some)) (omega (arith, high, p, q, some)) (omega (arith, within, some)) in
    record {
      below = rest.below ++ b ∷ [];
      is = reverse-append (b ∷ []) (upward (suc m) (above b)) ∙ ap (λ xs. xs ++ b ∷ []) rest.is;
      goes = goes_on n 0 rest.below b rest.goes (λ none. omega (arith, none, some)) (sym rest.last) within;
      last = last-append 0 rest.below b;
    }

pub path_down : (h leaf : ℕ) → leaf < 2 ^ h → (below : List ℕ) × (path h leaf ≡ 0 ∷ below) × GoesDown (2 ^ (h + 1) - 1) 0 below
path_down h leaf less =
    let some = power_some h in
    let two = power_next h in
    let next : 2 ^ (h + 1) ≡ 2 * 2 ^ h = ap (λ k. 2 ^ k) (omega arith) ∙ two in
    let d = down (2 ^ (h + 1) - 1) h (2 ^ h - 1 + leaf) (omega (arith, some)) (omega (arith, some, two, less)) (omega (arith, some, next, less)) in
    (d.below, d.is, d.goes)

among-reverse : (xs : List ℕ) (b : ℕ) → is_among (reverse xs) b ≡ is_among xs b
among-reverse [] b = refl
among-reverse (x ∷ xs) b =
    ap (λ ys. is_among ys b) (reverse-append (x ∷ []) xs)
    ∙ list_any-append (λ c. c == b) (reverse xs) (x ∷ [])
    ∙ ap (λ t. t || is_among (x ∷ []) b) (among-reverse xs b)
    ∙ flip (x == b) (is_among xs b)
  where
    flip : (s t : Bool) → (t || (s || false)) ≡ (s || t)
    flip true true = refl
    flip true false = refl
    flip false true = refl
    flip false false = refl

up_from : (m b : ℕ) → 2 ^ m ≤ b + 1 → b + 1 < 2 ^ suc m → (c : ℕ) → c ≢ 0 → is_among (upward (suc m) b) c ≡ true → is_among (upward (suc m) b) (above c) ≡ true
up_from zero b low high c some there = elim (cases_eq b c) [
  | inl is ↦ absurd (some (omega (arith, is, high)))
  | inr off ↦ absurd (not_here (cases_Bool (b == c)))
]
  where
    not_here : ((b == c) ≡ true) ⊎ ((b == c) ≡ false) → ⊥
    not_here (inl same) = some (omega (arith, eqb-true b c same, high))
    not_here (inr none) = true≢false (sym there ∙ ap (λ t. t || false) none)
up_from (suc m) b low high c some there =
    let p = power_next m in
    let q = power_next (suc m) in
    let one = power_some m in
    let more : 1 ≤ b = omega (arith, low, p, one) in
    elim (cases_Bool (b == c)) [
      | inl is ↦ or_right (b == above c) (is_among (upward (suc m) (above b)) (above c))
          (or_left (above b == above c) (is_among (upward m (above (above b))) (above c)) (eq-eqb (above b) (above c) (ap above (eqb-true b c is))))
      | inr off ↦ or_right (b == above c) (is_among (upward (suc m) (above b)) (above c))
          (up_from m (above b) (omega (arith, low, p, more)) (omega (arith, high, p, q, more)) c some (sym (ap (λ t. t || is_among (upward (suc m) (above b)) c) off) ∙ there))
    ]

pub path_up_goes : (h leaf : ℕ) → leaf < 2 ^ h → GoesUp (path h leaf)
path_up_goes h leaf less c some there =
    among-reverse (path_up h leaf) (above c)
    ∙ up_from h (2 ^ h - 1 + leaf) (omega (arith, power_some h)) (omega (arith, power_some h, power_next h, less)) c some (sym (among-reverse (path_up h leaf) c) ∙ there)

pub among_path : (h leaf b : ℕ) → is_among (path h leaf) b ≡ is_among (path_up h leaf) b
among_path h leaf b = among-reverse (path_up h leaf) b
