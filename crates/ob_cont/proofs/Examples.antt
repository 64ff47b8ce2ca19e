-- Results of small tables, worked out.
use Rattle.std.proofs.Common.{◌≡◌, ℕ, pos, true, [], ◌∷◌, Option, Some, None, refl}
use Rattle.ob_row.specs.declared.cell.Cell.TheVariants.{Int}
use Rattle.ob_row.specs.Rows.{Row}
use Rattle.ob_row.specs.Results.{continuous_slots}
use Rattle.ob_cont.specs.Putting.{put_slots}

abbrev slot : ℕ → Option Row
slot x = Some (Int (pos x) ∷ [])

-- the last of three goes round
goes_round : put_slots 3 (λ row. true) (None ∷ slot 2 ∷ slot 3 ∷ slot 4 ∷ []) ≡ slot 4 ∷ slot 2 ∷ slot 3 ∷ []
goes_round = refl

is_continuous : continuous_slots 3 (λ row. true) (None ∷ slot 2 ∷ slot 3 ∷ slot 4 ∷ []) ≡ slot 4 ∷ slot 2 ∷ slot 3 ∷ []
is_continuous = refl

-- places that are not consecutive: a later one goes over an earlier one, and one place stays empty
goes_over : put_slots 2 (λ row. true) (slot 1 ∷ None ∷ slot 3 ∷ []) ≡ slot 3 ∷ None ∷ []
goes_over = refl
