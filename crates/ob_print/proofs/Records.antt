-- A record is spelt alike where records may have any length.
use Rattle.std.proofs.Common.{◌≡◌, ℕ, List, [], ◌∷◌, refl}
use Rattle.csv.specs.Writing.{escaped, fields_text, is_blank, row_text}
use Rattle.ob_print.specs.Records.{of_any_length}
use Rattle.ob_print.specs.Rows.{always}

escaped_alike : (bytes : List ℕ) → escaped of_any_length bytes ≡ escaped always bytes
unfolding escaped
escaped_alike [] = refl
escaped_alike (b ∷ bytes) = rw (escaped_alike bytes) refl

fields_alike : (fields : List (List ℕ)) → fields_text of_any_length fields ≡ fields_text always fields
unfolding fields_text
fields_alike [] = refl
fields_alike (field ∷ fields) = rw (escaped_alike field, fields_alike fields) refl

blank_alike : (fields : List (List ℕ)) → is_blank of_any_length fields ≡ is_blank always fields
unfolding is_blank escaped
blank_alike [] = refl
blank_alike (field ∷ []) = refl
blank_alike (field ∷ next ∷ fields) = refl

pub row_alike : (fields : List (List ℕ)) → row_text of_any_length fields ≡ row_text always fields
row_alike [] = rw (blank_alike []) refl
row_alike (field ∷ fields) = rw (escaped_alike field, fields_alike fields, blank_alike (field ∷ fields)) refl
