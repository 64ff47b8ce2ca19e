-- The rows of a result are the selected rows.
use Rattle.std.proofs.Common.{◌≡◌, ℕ, suc, Bool, true, false, List, [], ◌∷◌, map, refl, ◌∙◌, ap, cond}
use Rattle.std.specs.Prelude.{Option, Some, None, filter}
use Rattle.ob_base.specs.Lists.{places_from}
use Rattle.ob_row.specs.Rows.{Row}
use Rattle.ob_row.specs.Slots.{Slots, rows, slot_at, is_selected, selected, small_slots}
use Rattle.ob_row.specs.Results.{large_slots}

-- places counted from one further on
places_from-suc : {A : Type 0} (p : A → Bool) (n : ℕ) (xs : List A) → places_from (suc n) p xs ≡ map suc (places_from n p xs)
places_from-suc p n [] = refl
places_from-suc p n (x ∷ xs) =
    elim (p x) as (λ b. cond b (suc n ∷ places_from (suc (suc n)) p xs) (places_from (suc (suc n)) p xs) ≡ map suc (cond b (n ∷ places_from (suc n) p xs) (places_from (suc n) p xs)))
    [ true ↦ ap (λ w. suc n ∷ w) (places_from-suc p (suc n) xs) | false ↦ places_from-suc p (suc n) xs ]

map-suc : (s : Option Row) (slots : Slots) (is : List ℕ) → map (slot_at (s ∷ slots)) (map suc is) ≡ map (slot_at slots) is
map-suc s slots [] = refl
map-suc s slots (i ∷ is) = ap (λ w. slot_at slots i ∷ w) (map-suc s slots is)

-- the selected places of the later slots, seen from the whole table
later : (p : Row → Bool) (s : Option Row) (slots : Slots) → map (slot_at (s ∷ slots)) (places_from 1 (is_selected p) slots) ≡ small_slots p slots
later p s slots = ap (map (slot_at (s ∷ slots))) (places_from-suc (is_selected p) 0 slots) ∙ map-suc s slots (selected p slots)

pub rows-small_slots : (p : Row → Bool) (slots : Slots) → rows (small_slots p slots) ≡ filter p (rows slots)
rows-small_slots p [] = refl
rows-small_slots p (None ∷ slots) = ap rows (later p None slots) ∙ rows-small_slots p slots
rows-small_slots p (Some r ∷ slots) =
    let rest = ap rows (later p (Some r) slots) ∙ rows-small_slots p slots in
    elim (p r) as (λ b. rows (map (slot_at (Some r ∷ slots)) (cond b (0 ∷ places_from 1 (is_selected p) slots) (places_from 1 (is_selected p) slots))) ≡ cond b (r ∷ filter p (rows slots)) (filter p (rows slots)))
    [ true ↦ ap (λ rs. r ∷ rs) rest | false ↦ rest ]

pub rows-large_slots : (p : Row → Bool) (slots : Slots) → rows (large_slots p slots) ≡ filter p (rows slots)
rows-large_slots p [] = refl
rows-large_slots p (None ∷ slots) = rows-large_slots p slots
rows-large_slots p (Some r ∷ slots) =
    elim (p r) as (λ b. rows (cond b (Some r) None ∷ large_slots p slots) ≡ cond b (r ∷ filter p (rows slots)) (filter p (rows slots)))
    [ true ↦ ap (λ rs. r ∷ rs) (rows-large_slots p slots) | false ↦ rows-large_slots p slots ]
