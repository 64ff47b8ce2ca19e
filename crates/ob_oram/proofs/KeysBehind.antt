-- The keys of rows after an operation, and how many of them pass a test.
use Rattle.std.proofs.Common.{◌≡◌, ◌<◌, ◌≤◌, ◌+◌, inl, inr, ℕ, zero, suc, Bool, true, false, List, [], ◌∷◌, Option, Some, None, length, get_or, refl, ◌∙◌, ap, arith}
use Rattle.std.specs.Prelude.{filter, map, not, if◌then◌else◌, ◌==◌, ◌&&◌}
use Rattle.std.specs.List.{list_any}
use Rattle.std.proofs.lemmas.Bool.{cases_eq, eq-eqb, false≢true, le-ltb, lt-ltb, ne_eqb, or_left, or_right}
use Rattle.std.proofs.lemmas.List.{get_or_past}
use Rattle.ob_path.specs.Rows.{rows, except_firsts}
use Rattle.ob_oram.specs.Ops.{with_new}
use Rattle.ob_oram.proofs.Crowding.{counts}

-- how many pass
abbrev pub passing : (ℕ → Bool) → List ℕ → ℕ
passing p keys = length (filter p keys)

more : {A : Type 0} (b : Bool) (x : A) (xs : List A) → length (if b then x ∷ xs else xs) ≡ counts b + length xs
more true x xs = omega arith
more false x xs = omega arith

pub passing_cons : (p : ℕ → Bool) (k : ℕ) (keys : List ℕ) → passing p (k ∷ keys) ≡ counts (p k) + passing p keys
passing_cons p k keys = more (p k) k (filter p keys)

-- of rows as many as of their keys
pub passing_keys : {R : Type 0} (key : R → ℕ) (p : ℕ → Bool) (list : List R) → passing p (map key list) ≡ length (filter (λ (r : R). p (key r)) list)
passing_keys key p [] = refl
passing_keys {R} key p (r ∷ list) =
    let rest = passing_keys key p list in
    let keys = more (p (key r)) (key r) (filter p (map key list)) in
    let all = more (p (key r)) r (filter (λ (o : R). p (key o)) list) in
    omega (arith, rest, keys, all)

-- none of these is k
abbrev pub NoKey : ℕ → List ℕ → Type 0
NoKey k [] = Unit {0}
NoKey k (j ∷ keys) = ((j == k) ≡ false) × NoKey k keys

none_any : (k : ℕ) (keys : List ℕ) → NoKey k keys → list_any (λ j. j == k) keys ≡ false
none_any k [] none = refl
none_any k (j ∷ keys) none = let first = none.0 in rw first (none_any k keys none.1)

pub none_except : (k : ℕ) (keys : List ℕ) → NoKey k keys → except_firsts 1 (λ j. j == k) keys ≡ keys
none_except k [] none = refl
none_except k (j ∷ keys) none = let first = none.0 in rw first (ap (λ (l : List ℕ). j ∷ l) (none_except k keys none.1))

-- or one is, and goes
pub one_except : (p : ℕ → Bool) (k : ℕ) (keys : List ℕ) → list_any (λ j. j == k) keys ≡ true → passing p (except_firsts 1 (λ j. j == k) keys) + counts (p k) ≡ passing p keys
one_except p k [] any = absurd (false≢true any)
one_except p k (j ∷ keys) any = elim (cases_eq j k) [
  | inl same ↦
      let test = eq-eqb j k same in
      rw test (omega (arith, passing_cons p j keys, ap (λ (n : ℕ). counts (p n)) same))
  | inr off ↦
      let test = ne_eqb j k off in
      let rest = one_except p k keys (rw test at any) in
      rw test (omega (arith, rest, passing_cons p j (except_firsts 1 (λ i. i == k) keys), passing_cons p j keys))
]

-- a key that is put in
pub new_there : (n k : ℕ) (keys : List ℕ) → list_any (λ j. j == k) keys ≡ true → with_new n k keys ≡ keys
new_there n k keys any = rw any refl

pub new_none : (n k : ℕ) (keys : List ℕ) → k < n → NoKey k keys → with_new n k keys ≡ k ∷ keys
new_none n k keys within none =
    let off = none_any k keys none in
    let test = lt-ltb k n within in
    rw (off, test) refl

pub new_past : (n k : ℕ) (keys : List ℕ) → n ≤ k → with_new n k keys ≡ keys
new_past n k keys past = let test = le-ltb k n past in rw test (of_test (list_any (λ j. j == k) keys))
  where
    of_test : (b : Bool) → (if not b && false then k ∷ keys else keys) ≡ keys
    of_test true = refl
    of_test false = refl

no_entry : {R : Type 0} (slots : List (Option R)) (i : ℕ) (row : R) → length slots ≤ i → get_or slots i None ≡ Some row → ⊥
no_entry slots i row past is = absurd (cc (get_or_past slots i None past, is))

-- a row of the slots has key k, or none
pub any_there : {R : Type 0} (key : R → ℕ) (k : ℕ) (slots : List (Option R)) (i : ℕ) (row : R) → get_or slots i None ≡ Some row → key row ≡ k → list_any (λ j. j == k) (map key (rows slots)) ≡ true
any_there key k [] i row is same = absurd (no_entry [] i row (omega arith) is)
any_there key k (None ∷ slots) zero row is same = absurd (cc is)
any_there key k (None ∷ slots) (suc i) row is same = any_there key k slots i row is same
any_there key k (Some r ∷ slots) zero row is same =
    let one : r ≡ row = cc is in
    or_left (key r == k) (list_any (λ j. j == k) (map key (rows slots))) (eq-eqb (key r) k (ap key one ∙ same))
any_there key k (Some r ∷ slots) (suc i) row is same = or_right (key r == k) (list_any (λ j. j == k) (map key (rows slots))) (any_there key k slots i row is same)

pub none_there : {R : Type 0} (key : R → ℕ) (k : ℕ) (slots : List (Option R)) → ((j : ℕ) (row : R) → get_or slots j None ≡ Some row → key row ≡ k → ⊥) → NoKey k (map key (rows slots))
none_there key k [] absent = record {}
none_there key k (None ∷ slots) absent = none_there key k slots (λ j row is. absent (suc j) row is)
none_there key k (Some r ∷ slots) absent = (ne_eqb (key r) k (absent 0 r refl), none_there key k slots (λ j row is. absent (suc j) row is))
