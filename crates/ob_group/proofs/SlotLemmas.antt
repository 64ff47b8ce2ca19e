-- The groups with one more slot.
use Rattle.std.proofs.Common.{◌≡◌, ◌≤◌, ◌<◌, ◌+◌, ◌-◌, ℕ, suc, Bool, true, false, List, [], ◌∷◌, ◌++◌, Option, Some, None, length, slice_index_or, if◌then◌else◌, refl, sym, ◌∙◌, ap, subst, arith, below_more}
use Rattle.std.proofs.lemmas.List.{get_or_append_left}
use Rattle.std.proofs.lemmas.List.Sums.{fold-append}
use Rattle.std.proofs.Math.Seq.{get_or-append_right}
use Rattle.ob_base.specs.declared.schema.Kind.{Kind}
use Rattle.ob_base.specs.Schemas.{Columns}
use Rattle.ob_row.specs.declared.aggregate.Agg.{Agg}
use Rattle.ob_row.specs.Rows.{Row}
use Rattle.ob_row.specs.Slots.{Slots, is_selected}
use Rattle.ob_row.specs.Spelling.{Begins}
use Rattle.ob_row.proofs.SpellingLemmas.{slots-same}
use Rattle.ob_vault.specs.Rows.{row_at}
use Rattle.ob_flat.specs.Slots.{Spelt}
use Rattle.ob_group.specs.Grouping.{Group, put_row, put_slot, groups_with}
use Rattle.ob_group.specs.Held.{AreGroups, no_group}
use Rattle.ob_group.proofs.GroupBytes.{holds_more}

abbrev slot_at : Slots → ℕ → Option Row
slot_at slots i = slice_index_or slots i None

module _ (p : Row → Bool) (key : ℕ) (aggs : List Agg) where
  pub with_more : (gs : List Group) (slots : Slots) (slot : Option Row) → groups_with p key aggs gs (slots ++ slot ∷ []) ≡ put_slot p key aggs (groups_with p key aggs gs slots) slot
  with_more gs slots slot = fold-append (put_slot p key aggs) gs slots (slot ∷ [])

  pub slot_off : (gs : List Group) (slot : Option Row) → is_selected p slot ≡ false → put_slot p key aggs gs slot ≡ gs
  slot_off gs None e = refl
  slot_off gs (Some row) e = ap (λ (b : Bool). if b then put_row key aggs row gs else gs) e

  pub slot_on : (slot : Option Row) → is_selected p slot ≡ true → (row : Row) × (slot ≡ Some row) × ((gs : List Group) → put_slot p key aggs gs slot ≡ put_row key aggs row gs)
  slot_on None e = absurd (cc)
  slot_on (Some row) e = (row, refl, λ gs. ap (λ (b : Bool). if b then put_row key aggs row gs else gs) e)

-- one row more was read
pub read_more : (columns : Columns) (rows : List (List ℕ)) (z : ℕ) (slots : Slots) (slot : Option Row) → length slots ≡ z
    → ((j : ℕ) → j < z → Begins columns (slot_at slots j) (row_at rows j)) → Begins columns slot (row_at rows z) → (j : ℕ) → j < z + 1 → Begins columns (slot_at (slots ++ slot ∷ []) j) (row_at rows j)
read_more columns rows z slots slot size before here =
    let first : z - length slots ≡ 0 = omega (arith, size) in
    let last : slot_at (slots ++ slot ∷ []) z ≡ slot = get_or-append_right slots (slot ∷ []) z None (omega (arith, size)) ∙ ap (slot_at (slot ∷ [])) first in
    below_more _ _ (λ j h. subst (λ (s : Option Row). Begins columns s (row_at rows j)) (sym (get_or_append_left slots (slot ∷ []) None j (omega (arith, h, size)))) (before j h))
    (subst (λ (s : Option Row). Begins columns s (row_at rows z)) (sym last) here)

-- rows spell one list of slots
pub spelt_same : (columns : Columns) (a b : Slots) (rows : List (List ℕ)) → Spelt columns a rows → Spelt columns b rows → a ≡ b
spelt_same columns [] [] rows s t = refl
spelt_same columns [] (y ∷ b) rows s t = absurd (omega (arith, s.count, t.count))
spelt_same columns (x ∷ a) [] rows s t = absurd (omega (arith, s.count, t.count))
spelt_same columns (x ∷ a) (y ∷ b) [] s t = absurd (omega (arith, s.count))
spelt_same columns (x ∷ a) (y ∷ b) (row ∷ rows) s t =
    let first = slots-same columns x y _ (s.each 0 (omega arith)) (t.each 0 (omega arith)) in
    let rest = spelt_same columns a b rows (record { count = omega (arith, s.count); each = λ j h. s.each (suc j) (omega (arith, h)) }) (record { count = omega (arith, t.count); each = λ j h. t.each (suc j) (omega (arith, h)) }) in
    λ i. first i ∷ rest i

-- groups of at most m rows are such of at most n
pub groups_weak : (kind : Kind) (m n count k : ℕ) (gs : List Group) (rows : List (List ℕ)) → m ≤ n → AreGroups kind m count k gs rows → AreGroups kind n count k gs rows
groups_weak kind m n count k gs rows more are = record {
  all = are.all;
  more = are.more;
  each = λ most i below. holds_more kind m count (slice_index_or gs i no_group) (row_at rows i) (are.each most i below) n more;
}

-- no group yet
pub groups_none : (kind : Kind) (count : ℕ) (rows : List (List ℕ)) → AreGroups kind 0 count 0 [] rows
groups_none kind count rows = record { all = λ _. refl; more = λ h. absurd (omega (arith, h)); each = λ _ i h. absurd (omega (arith, h)) }
