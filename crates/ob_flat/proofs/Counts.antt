-- What a counting pass has met.
use Rattle.std.proofs.Common.{◌≡◌, ◌<◌, ◌≤◌, ◌+◌, ◌==◌, ◌&&◌, ◌||◌, nat_lt, ◌-◌, ℕ, suc, Bool, true, false, List, [], ◌∷◌, ◌++◌, Option, None, length, if◌then◌else◌, refl, sym, ◌∙◌, ap, subst, arith, length-append, append_assoc}
use Rattle.std.proofs.lemmas.List.{append-nil}
use Rattle.std.proofs.lemmas.Bool.Decides.{nat_tests}
use Rattle.ob_base.specs.Lists.{places_from}
use Rattle.ob_row.specs.Rows.{Row}
use Rattle.ob_row.specs.Condition.{Condition}
use Rattle.ob_row.specs.Slots.{is_selected}
use Rattle.ob_row.specs.Truth.{is_true}
use Rattle.ob_blocks.specs.Blocks.{scanned, up_to, none_of}
use Rattle.ob_blocks.proofs.Blocks.{scanned-append, scanned-same}
use Rattle.ob_flat.specs.declared.counting.Tally.{Tally}
use Rattle.ob_row.specs.Slots.{Slots, is_consecutive, selected}
use Rattle.ob_flat.specs.Counts.{next_of, tallied, IsTally}

next_snoc : (is : List ℕ) (i : ℕ) → next_of (is ++ i ∷ []) ≡ i + 1
next_snoc [] i = refl
next_snoc (x ∷ []) i = refl
next_snoc (x ∷ y ∷ is) i = next_snoc (y ∷ is) i

zero_no : (n : ℕ) → (suc n == 0) ≡ false
zero_no n = grind (arith, nat_tests)

-- one place more
consecutive_snoc : (is : List ℕ) (i : ℕ) → is_consecutive (is ++ i ∷ []) ≡ (is_consecutive is && ((length is == 0) || (i == next_of is)))
consecutive_snoc [] i = refl
consecutive_snoc (x ∷ []) i = go (i == x + 1) ∙ ap (λ (e : Bool). e || (i == x + 1)) (sym (zero_no 0))
  where
    go : (b : Bool) → (b && true) ≡ b
    go true = refl
    go false = refl
consecutive_snoc (x ∷ y ∷ is) i =
    let d = i == next_of (y ∷ is) in
    let a = y == x + 1 in
    let b = is_consecutive (y ∷ is) in
    ap (λ (b : Bool). a && b) (consecutive_snoc (y ∷ is) i) ∙ ap (λ (e : Bool). a && (b && (e || d))) (zero_no (length is)) ∙ go a b d ∙ ap (λ (e : Bool). (a && b) && (e || d)) (sym (zero_no (suc (length is))))
  where
    go : (a b d : Bool) → (a && (b && (false || d))) ≡ ((a && b) && (false || d))
    go true b d = refl
    go false b d = refl

tally_more : (places : List ℕ) (t : Tally) (b : Bool) (i : ℕ) → IsTally places t → IsTally (places ++ (if b then i ∷ [] else [])) (tallied b i t)
tally_more places t true i is = record {
  k = omega (arith, is.k, length-append places (i ∷ []));
  end = sym (next_snoc places i);
  consecutive = ap (λ (n : ℕ). t.consecutive && ((n == 0) || (i == t.end))) is.k ∙ ap (λ (n : ℕ). t.consecutive && ((length places == 0) || (i == n))) is.end
      ∙ ap (λ (b : Bool). b && ((length places == 0) || (i == next_of places))) is.consecutive ∙ sym (consecutive_snoc places i);
}
tally_more places t false i is = subst (λ (l : List ℕ). IsTally l t) (sym (append-nil places)) is

abbrev step : Condition → ℕ → Tally → ℕ → Option Row → Tally
step p n t i slot = tallied (is_selected (is_true p) slot && nat_lt i n) i t

place_first : (b : Bool) (i : ℕ) (rest : List ℕ) → (if b then i ∷ rest else rest) ≡ (if b then i ∷ [] else []) ++ rest
place_first true i rest = refl
place_first false i rest = refl

below_is : (b : Bool) (i n : ℕ) → i < n → (b && nat_lt i n) ≡ b
below_is true i n below = grind (arith, nat_tests)
below_is false i n below = refl

tally_all : (p : Condition) (n i : ℕ) (places : List ℕ) (t : Tally) (slots : Slots) → i + length slots ≤ n → IsTally places t → IsTally (places ++ places_from i (is_selected (is_true p)) slots) (scanned (step p n) i t slots)
tally_all p n i places t [] fits is = subst (λ (l : List ℕ). IsTally l t) (sym (append-nil places)) is
tally_all p n i places t (slot ∷ slots) fits is =
    let b = is_selected (is_true p) slot in
    let next : suc i ≡ i + 1 = omega arith in
    let here : IsTally (places ++ (if b then i ∷ [] else [])) (step p n t i slot) =
    subst (λ (d : Bool). IsTally (places ++ (if b then i ∷ [] else [])) (tallied d i t)) (sym (below_is b i n (omega (arith, fits)))) (tally_more places t b i is) in
    let rest = tally_all p n (i + 1) (places ++ (if b then i ∷ [] else [])) (step p n t i slot) slots (omega (arith, fits)) here in
    subst (λ (l : List ℕ). IsTally l (scanned (step p n) (i + 1) (step p n t i slot) slots))
    (append_assoc places (if b then i ∷ [] else []) (places_from (i + 1) (is_selected (is_true p)) slots)
    ∙ ap (λ (l : List ℕ). places ++ l) (ap (λ (k : ℕ). (if b then i ∷ [] else []) ++ places_from k (is_selected (is_true p)) slots) (sym next) ∙ sym (place_first b i (places_from (suc i) (is_selected (is_true p)) slots))))
    rest

-- all slots of a table, and the empty ones after them
pub tally_table : (p : Condition) (n m : ℕ) (t : Tally) (slots : Slots) → length slots ≡ n → IsTally [] t → IsTally (selected (is_true p) slots) (scanned (step p n) 0 t (up_to m slots))
tally_table p n m t slots size is =
    let all = tally_all p n 0 [] t slots (omega (arith, size)) is in
    let behind = scanned-append (step p n) 0 t slots (none_of (m - length slots)) ∙ scanned-same (step p n) (0 + length slots) (m - length slots) (scanned (step p n) 0 t slots) None (λ k past. refl) in
    subst (IsTally (selected (is_true p) slots)) (sym behind) all

-- what a visitor keeps beside its tally
pub tally_of : {S : Type 0} (view : S → Tally) (same : S → S → Type 0) (f : S → ℕ → Option Row → S) (p : Condition) (n i : ℕ) (s : S) (slots : Slots)
    → ((s : S) → same s s) → ((a b c : S) → same a b → same b c → same a c)
    → ((t : S) (i : ℕ) (slot : Option Row) → same s t → (view (f t i slot) ≡ step p n (view t) i slot) × same t (f t i slot))
    → (t : S) → same s t → view (scanned f i t slots) ≡ scanned (step p n) i (view t) slots
tally_of view same f p n i s [] self trans steps t is = refl
tally_of view same f p n i s (slot ∷ slots) self trans steps t is =
    let both = steps t i slot is in
    tally_of view same f p n (i + 1) s slots self trans steps (f t i slot) (trans s t (f t i slot) is both.1) ∙ ap (λ (t : Tally). scanned (step p n) (i + 1) t slots) both.0
