-- Places in order of their rows' fields, and what a search among them finds.
use Rattle.std.proofs.Common.{◌≡◌, ◌<◌, ◌≤◌, ℕ, Bool, true, false, List, [], ◌∷◌, length, slice_index_or, leb, leb-true, leb-false, refl, sym, ◌∙◌, ap, subst, arith}
use Rattle.std.proofs.lemmas.Cmp.{on_total, then_total, nat_cmp_total, nat_list_cmp_total, tied_itself, ranked}
use Rattle.std.proofs.lemmas.List.{get_or_default}
use Rattle.std.proofs.lemmas.List.Sorted.{ranks_by, sorted_far}
use Rattle.std.specs.Cmp.{IsTotalOrder, IsStrictWeakOrder}
use Rattle.std.specs.Cmp.Lexicographic.{slice_cmp}
use Rattle.std.specs.List.{Contains}
use Rattle.std.specs.List.Sorted.{IsPartitionedBy, IsPartitionPoint}
use Rattle.std.specs.Ordering.{is_lt, nat_cmp, ordering_then, ordering_reverse}
use Rattle.std.specs.declared.cmp.Ordering.{Ordering}
use Rattle.std.specs.declared.cmp.Ordering.TheVariants.{Less, Equal, Greater}
use Rattle.ob_order.specs.Orders.{field_at, place_cmp, AreInOrder}

-- ---- two lists of numbers that tie are one
same : (xs ys : List ℕ) → slice_cmp nat_cmp xs ys ≡ Equal → xs ≡ ys
same [] [] tied = refl
same [] (y ∷ ys) tied = absurd (cc tied)
same (x ∷ xs) [] tied = absurd (cc tied)
same (x ∷ xs) (y ∷ ys) tied = go (nat_cmp x y) refl tied (same xs ys)
  where
    go : (o : Ordering) → o ≡ nat_cmp x y → ordering_then o (slice_cmp nat_cmp xs ys) ≡ Equal → (slice_cmp nat_cmp xs ys ≡ Equal → xs ≡ ys) → x ∷ xs ≡ y ∷ ys
    go Less is tied rest = absurd (cc tied)
    go Equal is tied rest = λ i. ranked x y Equal is i ∷ rest tied i
    go Greater is tied rest = absurd (cc tied)

-- ---- what isn't after another
not_first : (o p : Ordering) → is_lt (ordering_then o p) ≡ false → is_lt o ≡ false
not_first Less p h = h
not_first Equal p h = refl
not_first Greater p h = refl

module _ {K : Type 0} {R : K → K → Ordering} (o : IsTotalOrder R) where
  -- x comes before z, where it isn't after y, and y comes before z
  before : (x y z : K) → is_lt (R y x) ≡ false → is_lt (R y z) ≡ true → is_lt (R x z) ≡ true
  before x y z not less = go (R y x) refl (R y z) refl not less
    where
      go : (q : Ordering) → R y x ≡ q → (r : Ordering) → R y z ≡ r → is_lt q ≡ false → is_lt r ≡ true → is_lt (R x z) ≡ true
      go Less is r is' not less = absurd (cc not)
      go Equal is Less is' not less = ap is_lt (sym (o.congr y x z is) ∙ is')
      go Greater is Less is' not less = ap is_lt (o.trans x y z (o.antisymm x y ∙ ap ordering_reverse is) is')
      go q is Equal is' not less = absurd (cc less)
      go q is Greater is' not less = absurd (cc less)

  -- neither of the two comes first
  tied : (x y : K) → is_lt (R x y) ≡ false → is_lt (R y x) ≡ false → R x y ≡ Equal
  tied x y not not' = go (R x y) refl not
    where
      go : (q : Ordering) → R x y ≡ q → is_lt q ≡ false → R x y ≡ Equal
      go Less is not = absurd (cc not)
      go Equal is not = is
      go Greater is not = absurd (cc (sym not' ∙ ap is_lt (o.antisymm y x ∙ ap ordering_reverse is)))

not_less : (p q : ℕ) → is_lt (nat_cmp p q) ≡ false → q ≤ p
not_less p q not = go (nat_cmp p q) refl not
  where
    go : (o : Ordering) → o ≡ nat_cmp p q → is_lt o ≡ false → q ≤ p
    go Less is not = absurd (cc not)
    go Equal is not = let e = ranked p q Equal is in omega (arith, e)
    go Greater is not = let e = ranked p q Greater is in omega (arith, e)

other : (xs : List ℕ) (k d e : ℕ) → k < length xs → slice_index_or xs k e ≡ slice_index_or xs k d
other xs k d e below = get_or_default xs k e d below

-- ---- places
module _ (at len : ℕ) (rows : List (List ℕ)) where
  abbrev field : ℕ → List ℕ
  field p = field_at at len rows p

  pub places_total : IsTotalOrder (place_cmp at len rows)
  places_total = then_total (on_total field nat_list_cmp_total) nat_cmp_total

  pub places_weak : IsStrictWeakOrder (λ p q. is_lt (place_cmp at len rows p q))
  places_weak = ranks_by places_total (λ p. p)

  module _ (places : List ℕ) (sorted : AreInOrder at len rows places) where
    -- a later place isn't before an earlier one, and neither is its field
    far : (i j : ℕ) (d : ℕ) → i ≤ j → j < length places → is_lt (place_cmp at len rows (slice_index_or places j d) (slice_index_or places i d)) ≡ false
    far = sorted_far (λ p q. is_lt (place_cmp at len rows p q)) places_weak places sorted

    fields : (i j : ℕ) (d : ℕ) → i ≤ j → j < length places → is_lt (slice_cmp nat_cmp (field (slice_index_or places j d)) (field (slice_index_or places i d))) ≡ false
    fields i j d up below = not_first (slice_cmp nat_cmp (field (slice_index_or places j d)) (field (slice_index_or places i d))) (nat_cmp (slice_index_or places j d) (slice_index_or places i d)) (far i j d up below)

    -- those whose field is less come first
    pub parted : (wanted : List ℕ) → IsPartitionedBy (λ p. is_lt (slice_cmp nat_cmp (field p) wanted)) places
    parted wanted i j d up below less =
        before nat_list_cmp_total (field (slice_index_or places i d)) (field (slice_index_or places j d)) wanted (fields i j d up below) less

    -- where the first one whose field is not less is no such row, no row is
    module _ (wanted : List ℕ) (i : ℕ) (point : IsPartitionPoint (λ p. is_lt (slice_cmp nat_cmp (field p) wanted) ≡ true) (λ p. is_lt (slice_cmp nat_cmp (field p) wanted) ≡ false) places i) where
      -- a row that has the field isn't among those before
      behind : (k : ℕ) (d : ℕ) → k < length places → field (slice_index_or places k d) ≡ wanted → i ≤ k
      behind k d below is = go (leb i k) refl
        where
          go : (b : Bool) → leb i k ≡ b → i ≤ k
          go true on = leb-true i k on
          go false off =
              let less = point.0 k d (omega arith) (leb-false i k off) in
              let level = ap (λ (l : List ℕ). is_lt (slice_cmp nat_cmp l wanted)) is ∙ ap is_lt (tied_itself nat_list_cmp_total wanted) in
              absurd (cc (less, level))

      -- nor is one that has the field, where it comes later, unless the first one has it
      first_has : (k : ℕ) (d : ℕ) → k < length places → field (slice_index_or places k d) ≡ wanted → field (slice_index_or places i d) ≡ wanted
      first_has k d below is =
          let up = behind k d below is in
          let not = point.1 i d (omega arith) (omega (arith, up, below)) in
          let late = fields i k d up below in
          let late' = sym (ap (λ (l : List ℕ). is_lt (slice_cmp nat_cmp l (field (slice_index_or places i d)))) is) ∙ late in
          same (field (slice_index_or places i d)) wanted (tied nat_list_cmp_total (field (slice_index_or places i d)) wanted not late')

      pub found : i < length places → field (slice_index_or places i 0) ≡ wanted
          → (q : ℕ) → Contains places q → field q ≡ wanted → slice_index_or places i 0 ≤ q
      found inside has q listed has' =
          let place = slice_index_or places i 0 in
          let at_k : slice_index_or places listed.0 0 ≡ q = other places listed.0 q 0 listed.1 ∙ listed.2 in
          let up = behind listed.0 0 listed.1 (ap field at_k ∙ has') in
          let late : is_lt (place_cmp at len rows q place) ≡ false = subst (λ (m : ℕ). is_lt (place_cmp at len rows m place) ≡ false) at_k (far i listed.0 0 up listed.1) in
          let level : slice_cmp nat_cmp (field q) (field place) ≡ Equal = ap (λ (l : List ℕ). slice_cmp nat_cmp l (field place)) (has' ∙ sym has) ∙ tied_itself nat_list_cmp_total (field place) in
          not_less q place (sym (ap (λ (o : Ordering). is_lt (ordering_then o (nat_cmp q place))) level) ∙ late)

      pub none_at : i < length places → (field (slice_index_or places i 0) ≡ wanted → ⊥) → (q : ℕ) → Contains places q → field q ≡ wanted → ⊥
      none_at inside not q listed has =
          not (first_has listed.0 0 listed.1 (ap field (other places listed.0 q 0 listed.1 ∙ listed.2) ∙ has))

      pub none_past : length places ≤ i → (q : ℕ) → Contains places q → field q ≡ wanted → ⊥
      none_past past q listed has =
          let up = behind listed.0 q listed.1 (ap field listed.2 ∙ has) in absurd (omega (arith, up, past, listed.1))
