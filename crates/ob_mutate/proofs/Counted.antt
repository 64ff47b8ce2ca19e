-- Slots that are counted, and the rows in them.
use Rattle.std.proofs.Common.{◌≡◌, Bool, [], ◌∷◌, Some, None, Result, Ok, Err, MatchResult, count_by, refl, arith}
use Rattle.std.proofs.lemmas.List.Sums.{sum_by-cons}
use Rattle.ob_row.specs.Rows.{Row}
use Rattle.ob_row.specs.Slots.{Slots, rows, is_selected}
use Rattle.ob_blocks.proofs.Blocks.{ones}

-- the slots whose row passes a test are as many as the rows that do
pub count_rows : (p : Row → Bool) (slots : Slots) → count_by (is_selected p) slots ≡ count_by p (rows slots)
count_rows p [] = refl
count_rows p (None ∷ slots) = omega (arith, sum_by-cons (ones (is_selected p)) None slots, count_rows p slots)
count_rows p (Some row ∷ slots) = omega (arith, sum_by-cons (ones (is_selected p)) (Some row) slots, count_rows p slots, sum_by-cons (ones p) row (rows slots))

-- the same outcome, where more is known of what was answered
pub match_ok : {T E : Type 0} {P Q : T → Type 0} (F : E → Type 0) (r : Result T E) → ((x : T) → P x → Q x) → MatchResult r P F → MatchResult r Q F
match_ok F (Ok x) more is = more x is
match_ok F (Err e) more is = is
