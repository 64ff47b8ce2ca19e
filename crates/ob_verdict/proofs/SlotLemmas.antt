-- What the rows of a table in place are after each change.
use Rattle.std.proofs.Common.{◌≡◌, ℕ, suc, zero, ◌<◌, ◌≤◌, Bool, true, false, [], ◌∷◌, map, length, refl, ap, cond, arith}
use Rattle.std.specs.Prelude.{Some, None, filter, not}
use Rattle.std.specs.Option.{option_map}
use Rattle.ob_row.specs.Bags.{Inserts, here, further}
use Rattle.ob_row.specs.Rows.{Row}
use Rattle.ob_row.specs.Slots.{Slots, rows, fill_first, emptied, empty_slots}

pub rows-map : (f : Row → Row) (slots : Slots) → rows (map (option_map f) slots) ≡ map f (rows slots)
rows-map f [] = refl
rows-map f (None ∷ slots) = rows-map f slots
rows-map f (Some r ∷ slots) = ap (λ rs. f r ∷ rs) (rows-map f slots)

pub rows-emptied : (p : Row → Bool) (slots : Slots) → rows (map (emptied p) slots) ≡ filter (λ r. not (p r)) (rows slots)
rows-emptied p [] = refl
rows-emptied p (None ∷ slots) = rows-emptied p slots
rows-emptied p (Some r ∷ slots) =
    elim (p r) as (λ b. rows (cond b None (Some r) ∷ map (emptied p) slots) ≡ cond (not b) (r ∷ filter (λ r. not (p r)) (rows slots)) (filter (λ r. not (p r)) (rows slots)))
    [ true ↦ rows-emptied p slots | false ↦ ap (λ rs. r ∷ rs) (rows-emptied p slots) ]

pub rows-empty_slots : (n : ℕ) → rows (empty_slots n) ≡ []
rows-empty_slots zero = refl
rows-empty_slots (suc n) = rows-empty_slots n

pub length-rows : (slots : Slots) → length (rows slots) ≤ length slots
length-rows [] = omega arith
length-rows (None ∷ slots) = let h = length-rows slots in omega arith
length-rows (Some r ∷ slots) = let h = length-rows slots in omega arith

pub rows-fill_first : (row : Row) (slots : Slots) → length (rows slots) < length slots → Inserts row (rows slots) (rows (fill_first row slots))
rows-fill_first row [] h = absurd (omega arith)
rows-fill_first row (None ∷ slots) h = here
rows-fill_first row (Some r ∷ slots) h = further (rows-fill_first row slots (omega arith))
