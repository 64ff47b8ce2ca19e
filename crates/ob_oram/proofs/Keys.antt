-- The place of the primary key.
use Rattle.std.proofs.Common.{◌≡◌, ◌+◌, ℕ, suc, Bool, true, false, List, [], ◌∷◌, Some, length, cond, if◌then◌else◌, refl, sym, ◌∙◌, ap, arith}
use Rattle.std.specs.List.{position, position_from}
use Rattle.std.proofs.lemmas.Iterator.Adapters.{position_from-zero}
use Rattle.ob_base.specs.declared.schema.Column.{Column}
use Rattle.ob_base.specs.Lists.{places_from, first}
use Rattle.ob_base.specs.Schemas.{Columns, key_place}
use Rattle.ob_row.specs.Rows.{Row}
use Rattle.ob_row.specs.Spelling.{FitsColumns}

first_from : {A : Type 0} (p : A → Bool) (n : ℕ) (xs : List A) → first (places_from n p xs) ≡ position_from p n xs
first_from p n [] = refl
first_from p n (x ∷ xs) = let next : suc n ≡ n + 1 = omega arith in go (first_from p (suc n) xs ∙ ap (λ (k : ℕ). position_from p k xs) next) (p x)
  where
    go : first (places_from (suc n) p xs) ≡ position_from p (n + 1) xs → (b : Bool) → first (if b then n ∷ places_from (suc n) p xs else places_from (suc n) p xs) ≡ cond b (Some n) (position_from p (n + 1) xs)
    go rest true = refl
    go rest false = rest

abbrev is_key : Column → Bool
is_key c = c.key

pub key_position : (columns : Columns) → position (λ (c : Column). c.key) columns ≡ key_place columns
key_position columns = position_from-zero is_key columns ∙ sym (first_from is_key 0 columns)

-- a row has a cell for each column
pub fits_length : (columns : Columns) (row : Row) → FitsColumns columns row → length row ≡ length columns
fits_length [] [] fits = refl
fits_length [] (x ∷ row) fits = absurd fits
fits_length (c ∷ columns) [] fits = absurd fits
fits_length (c ∷ columns) (x ∷ row) fits = ap suc (fits_length columns row fits.1)
