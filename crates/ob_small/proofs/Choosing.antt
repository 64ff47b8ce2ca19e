-- The slots that are selected.
use Rattle.std.proofs.Common.{◌≡◌, ◌≤◌, ◌<◌, ◌+◌, ◌*◌, ◌-◌, ℕ, zero, suc, Bool, true, false, [], ◌∷◌, ◌++◌, Option, Some, None, length, map, take, slice_index_or, cond, refl, sym, ◌∙◌, ap, arith, length-append, append_assoc}
use Rattle.std.specs.Prelude.{filter}
use Rattle.std.proofs.lemmas.List.{take_all, take_more, append-nil}
use Rattle.std.proofs.lemmas.List.Elements.{filter-append}
use Rattle.ob_base.specs.Lists.{places_from}
use Rattle.ob_row.specs.Rows.{Row}
use Rattle.ob_row.specs.Slots.{Slots, slot_at, is_selected, small_slots}
use Rattle.ob_blocks.specs.Blocks.{none_of, up_to, block_at}
use Rattle.ob_blocks.proofs.Blocks.{take_blocks, length-up_to}
use Rattle.ob_small.specs.Keeping.{chosen}

-- the slot after the first ones
at_seam : (first : Slots) (s : Option Row) (slots : Slots) → slot_at (first ++ s ∷ slots) (length first) ≡ s
at_seam [] None slots = refl
at_seam [] (Some row) slots = refl
at_seam (x ∷ first) s slots = at_seam first s slots

-- those at the selected places after the first ones
behind : (p : Row → Bool) (first slots : Slots) → filter (is_selected p) slots ≡ map (slot_at (first ++ slots)) (places_from (length first) (is_selected p) slots)
behind p first [] = refl
behind p first (s ∷ slots) =
    let all : (first ++ s ∷ []) ++ slots ≡ first ++ s ∷ slots = append_assoc first (s ∷ []) slots in
    let next : length (first ++ s ∷ []) ≡ suc (length first) = omega (arith, length-append first (s ∷ [])) in
    let rest : filter (is_selected p) slots ≡ map (slot_at (first ++ s ∷ slots)) (places_from (suc (length first)) (is_selected p) slots) =
    behind p (first ++ s ∷ []) slots ∙ ap (λ (l : Slots). map (slot_at l) (places_from (length (first ++ s ∷ [])) (is_selected p) slots)) all
    ∙ ap (λ (n : ℕ). map (slot_at (first ++ s ∷ slots)) (places_from n (is_selected p) slots)) next in
    elim (is_selected p s) as (λ b. cond b (s ∷ filter (is_selected p) slots) (filter (is_selected p) slots) ≡ map (slot_at (first ++ s ∷ slots)) (cond b (length first ∷ places_from (suc (length first)) (is_selected p) slots) (places_from (suc (length first)) (is_selected p) slots)))
    [ true ↦ ap (λ (x : Option Row). x ∷ filter (is_selected p) slots) (sym (at_seam first s slots)) ∙ ap (λ (l : Slots). slot_at (first ++ s ∷ slots) (length first) ∷ l) rest | false ↦ rest ]

-- they are those at the selected places
pub filter-small : (p : Row → Bool) (slots : Slots) → filter (is_selected p) slots ≡ small_slots p slots
filter-small p slots = behind p [] slots

-- one slot more
pub chosen_more : (p : Row → Bool) (slots : Slots) (i : ℕ) (b : Bool) → i < length slots → is_selected p (slice_index_or slots i None) ≡ b
    → chosen p (take (i + 1) slots) ≡ chosen p (take i slots) ++ cond b (slice_index_or slots i None ∷ []) []
chosen_more p slots i b below is =
    ap (chosen p) (take_more slots i None below) ∙ filter-append (is_selected p) (take i slots) (slice_index_or slots i None ∷ [])
    ∙ ap (λ (c : Bool). chosen p (take i slots) ++ cond c (slice_index_or slots i None ∷ []) []) is

-- no block yet
pub chosen_first : (p : Row → Bool) (r : ℕ) (all : Slots) → chosen p (take (0 * r) all) ≡ []
chosen_first p r all = let none : 0 * r ≡ 0 = omega arith in ap (λ (n : ℕ). chosen p (take n all)) none

-- one block more
pub chosen_block : (p : Row → Bool) (r : ℕ) (all : Slots) (u : ℕ) → chosen p (take (u * r) all) ++ chosen p (block_at r all u) ≡ chosen p (take ((u + 1) * r) all)
chosen_block p r all u = sym (ap (chosen p) (take_blocks r all u) ∙ filter-append (is_selected p) (take (u * r) all) (block_at r all u))

chosen_none : (p : Row → Bool) (n : ℕ) → chosen p (none_of n) ≡ []
chosen_none p zero = refl
chosen_none p (suc n) = chosen_none p n

-- all blocks
pub chosen_whole : (p : Row → Bool) (n : ℕ) (slots : Slots) → length slots ≤ n → chosen p (take n (up_to n slots)) ≡ chosen p slots
chosen_whole p n slots fits =
    ap (chosen p) (take_all n (up_to n slots) (omega (arith, length-up_to n slots fits)))
    ∙ filter-append (is_selected p) slots (none_of (n - length slots)) ∙ ap (λ (l : Slots). chosen p slots ++ l) (chosen_none p (n - length slots)) ∙ append-nil (chosen p slots)
