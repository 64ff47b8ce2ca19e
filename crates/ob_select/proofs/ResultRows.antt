-- A result has as many rows as are selected.
use Rattle.std.proofs.Common.{◌≡◌, ◌≤◌, ◌-◌, ℕ, zero, suc, Bool, true, false, IsTrue, List, [], ◌∷◌, ◌++◌, Option, length, refl, sym, ◌∙◌, ap, arith, cond}
use Rattle.std.specs.Prelude.{Some, None, IsSome, filter}
use Rattle.std.proofs.lemmas.List.{append-nil, length-map, take_all}
use Rattle.ob_base.specs.declared.config.Plan.{Plan}
use Rattle.ob_base.specs.declared.config.Plan.TheVariants.{Small, Large, Continuous, Hash}
use Rattle.ob_base.specs.Lists.{places_from}
use Rattle.ob_row.specs.Bags.{Inserts, here, further, Same}
use Rattle.ob_row.specs.Rows.{Row}
use Rattle.ob_row.specs.Slots.{Slots, rows, slot_at, small_slots, is_selected, selected, is_consecutive}
use Rattle.ob_row.specs.Results.{result_slots, unplaced}
use Rattle.ob_row.specs.Truth.{is_true}
use Rattle.ob_mean.specs.Verdict.{bucket_size}
use Rattle.ob_script.specs.Sizes.{HasRows}
use Rattle.ob_blocks.specs.Blocks.{none_of}
use Rattle.ob_small.specs.Keeping.{fitted}
use Rattle.ob_verdict.proofs.ResultLemmas.{rows-small_slots, rows-large_slots}
use Rattle.ob_verdict.proofs.TurnLemmas.{rows-continuous_slots}
use Rattle.ob_verdict.proofs.HashLemmas.{rows-hash_slots}
use Rattle.ob_select.specs.Selecting.{places}
use Rattle.ob_select.specs.Results.{Planned, Suits, left_by, left_out, held_slots, stored_by, stored_slots}
use Rattle.ob_verdict.proofs.JoinLemmas.{rows-append}

length-inserts : {A : Type 0} {x : A} {rest whole : List A} → Inserts x rest whole → length whole ≡ suc (length rest)
length-inserts here = refl
length-inserts (further is) = ap suc (length-inserts is)

pub length-bag : {A : Type 0} (xs ys : List A) → Same xs ys → length ys ≡ length xs
length-bag [] ys same = ap length same
length-bag (x ∷ xs) ys same = length-inserts same.1 ∙ ap suc (length-bag xs same.0 same.2)

pub length-chosen : (p : Row → Bool) (i : ℕ) (slots : Slots) → length (places_from i (is_selected p) slots) ≡ length (filter p (rows slots))
length-chosen p i [] = refl
length-chosen p i (None ∷ slots) = length-chosen p (suc i) slots
length-chosen p i (Some r ∷ slots) =
    elim (p r) as (λ b. length (cond b (i ∷ places_from (suc i) (is_selected p) slots) (places_from (suc i) (is_selected p) slots)) ≡ length (cond b (r ∷ filter p (rows slots)) (filter p (rows slots))))
    [ true ↦ ap suc (length-chosen p (suc i) slots) | false ↦ length-chosen p (suc i) slots ]

is_so : (b : Bool) → IsTrue b → b ≡ true
is_so true h = refl
is_so false h = absurd (cc h)

-- by each plan, where it left none out
module _ (n : ℕ) (p : Row → Bool) (slots : Slots) where
  by_plan : (plan : Plan) (k : ℕ) → k ≡ length (selected p slots) → HasRows plan k → (plan ≡ Continuous → IsTrue (is_consecutive (selected p slots)))
      → (plan ≡ Hash → unplaced k n (selected p slots) ≡ None) → length (rows (result_slots plan k n p slots)) ≡ k
  by_plan Small k is some side room = ap length (rows-small_slots p slots) ∙ sym (length-chosen p 0 slots) ∙ sym is
  by_plan Large k is some side room = ap length (rows-large_slots p slots) ∙ sym (length-chosen p 0 slots) ∙ sym is
  by_plan Continuous k is some side room = length-bag _ _ (rows-continuous_slots k p slots some (omega (arith, is)) (is_so _ (side refl))) ∙ sym (length-chosen p 0 slots) ∙ sym is
  by_plan Hash k is some side room = length-bag _ _ (rows-hash_slots k n p slots some (room refl)) ∙ sym (length-chosen p 0 slots) ∙ sym is

pub left_hash : (r : Planned) (slots : Slots) (plan : Plan) → None ≡ left_by r plan slots → plan ≡ Hash → unplaced r.k (bucket_size r.selection.public) (places r.selection slots) ≡ None
left_hash r slots Hash none is = sym none
left_hash r slots other none is = absurd (cc is)

pub held_count : (r : Planned) (slots : Slots) → Suits r slots → HasRows r.plan r.k → None ≡ left_out r slots → length (rows (held_slots r slots)) ≡ r.k
held_count r slots suits some none = by_plan (bucket_size r.selection.public) (is_true r.selection.condition) slots r.plan r.k suits.count some suits.consecutive (left_hash r slots r.plan none)

-- at least one
pub rows_some : (plan : Plan) (k : ℕ) → 1 ≤ k → HasRows plan k
rows_some Small k some = tt
rows_some Large k some = tt
rows_some Continuous k some = some
rows_some Hash k some = some

-- ---- padded
rows-none : (n : ℕ) → rows (none_of n) ≡ []
rows-none zero = refl
rows-none (suc n) = rows-none n

-- empty slots hold no rows
pub rows-fitted : (n : ℕ) (slots : Slots) → length slots ≤ n → rows (fitted n slots) ≡ rows slots
rows-fitted n slots fits =
    ap (λ (l : Slots). rows (l ++ none_of (n - length l))) (take_all n slots fits)
    ∙ rows-append slots (none_of (n - length slots)) ∙ ap (λ (l : List Row). rows slots ++ l) (rows-none (n - length slots)) ∙ append-nil (rows slots)

rows-stored : (pad : Option ℕ) (plan : Plan) (taken k n : ℕ) (p : Row → Bool) (slots : Slots) → k ≡ length (selected p slots) → (IsSome pad → k ≤ taken)
    → rows (stored_by pad plan taken (result_slots plan k n p slots)) ≡ rows (result_slots plan k n p slots)
rows-stored None plan taken k n p slots is fits = refl
rows-stored (Some pad) Small taken k n p slots is fits = rows-fitted taken (small_slots p slots) (omega (arith, is, fits refl, length-map (selected p slots) (slot_at slots)))
rows-stored (Some pad) Large taken k n p slots is fits = refl
rows-stored (Some pad) Continuous taken k n p slots is fits = refl
rows-stored (Some pad) Hash taken k n p slots is fits = refl

pub stored_rows : (r : Planned) (slots : Slots) → Suits r slots → (IsSome r.pad → r.k ≤ r.taken) → rows (stored_slots r slots) ≡ rows (held_slots r slots)
stored_rows r slots suits fits = rows-stored r.pad r.plan r.taken r.k (bucket_size r.selection.public) (is_true r.selection.condition) slots suits.count fits
