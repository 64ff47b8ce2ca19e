-- A row that waits, and the slots that it is shown.
use Rattle.std.proofs.Common.{◌≡◌, ◌<◌, ◌+◌, ℕ, zero, suc, Bool, false, ◌&&◌, [], ◌∷◌, ◌++◌, Option, None, is_some, length, take, slice_index_or, refl, ◌∙◌, ap, arith}
use Rattle.std.proofs.lemmas.List.{take_more}
use Rattle.ob_row.specs.Rows.{Row}
use Rattle.ob_row.specs.Slots.{Slots}
use Rattle.ob_hash.specs.Waiting.{slot_after, waits_after, filled_with}

pub waits_after-append : (b : Bool) (xs ys : Slots) → waits_after b (xs ++ ys) ≡ waits_after (waits_after b xs) ys
waits_after-append b [] ys = refl
waits_after-append b (x ∷ xs) ys = waits_after-append (b && is_some x) xs ys

pub filled_with-append : (b : Bool) (own : Option Row) (xs ys : Slots) → filled_with b own (xs ++ ys) ≡ filled_with b own xs ++ filled_with (waits_after b xs) own ys
filled_with-append b own [] ys = refl
filled_with-append b own (x ∷ xs) ys = ap (λ (l : Slots). slot_after b own x ∷ l) (filled_with-append (b && is_some x) own xs ys)

pub length-filled_with : (b : Bool) (own : Option Row) (xs : Slots) → length (filled_with b own xs) ≡ length xs
length-filled_with b own [] = refl
length-filled_with b own (x ∷ xs) = ap suc (length-filled_with (b && is_some x) own xs)

-- one that doesn't wait changes nothing
pub waits_after-false : (xs : Slots) → waits_after false xs ≡ false
waits_after-false [] = refl
waits_after-false (x ∷ xs) = waits_after-false xs

pub filled_with-false : (own : Option Row) (xs : Slots) → filled_with false own xs ≡ xs
filled_with-false own [] = refl
filled_with-false own (x ∷ xs) = ap (λ (l : Slots). x ∷ l) (filled_with-false own xs)

-- one slot more
pub waits_more : (b : Bool) (xs : Slots) (k : ℕ) → k < length xs → waits_after b (take (k + 1) xs) ≡ waits_after b (take k xs) && is_some (slice_index_or xs k None)
waits_more b xs k below = ap (waits_after b) (take_more xs k None below) ∙ waits_after-append b (take k xs) (slice_index_or xs k None ∷ [])

-- what the slot at a place becomes
pub at-filled_with : (b : Bool) (own : Option Row) (xs : Slots) (k : ℕ) → k < length xs → slice_index_or (filled_with b own xs) k None ≡ slot_after (waits_after b (take k xs)) own (slice_index_or xs k None)
at-filled_with b own [] k below = absurd (omega arith)
at-filled_with b own (x ∷ xs) zero below = refl
at-filled_with b own (x ∷ xs) (suc k) below = at-filled_with (b && is_some x) own xs k (omega arith)
