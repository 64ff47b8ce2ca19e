-- The place of the primary key.
use Rattle.std.proofs.Common.{◌≡◌, ◌<◌, ◌+◌, ℕ, suc, Bool, true, false, List, [], ◌∷◌, Option, Some, None, IfSome, length, cond, if◌then◌else◌, refl, sym, ◌∙◌, ap, arith}
use Rattle.std.specs.List.{position, position_from}
use Rattle.std.proofs.lemmas.Iterator.Adapters.{position_from-zero}
use Rattle.std.proofs.lemmas.List.Quantifiers.{position-Some}
use Rattle.ob_base.specs.declared.schema.Column.{Column}
use Rattle.ob_base.specs.Lists.{places_from, first}
use Rattle.ob_base.specs.Schemas.{Columns, key_place}
use Rattle.ob_row.specs.Rows.{Row}
use Rattle.ob_row.specs.Spelling.{FitsColumns}

first_from : {A : Type 0} (p : A → Bool) (n : ℕ) (xs : List A) → first (places_from n p xs) ≡ position_from p n xs
first_from p n [] = refl
first_from p n (x ∷ xs) = let next : suc n ≡ n + 1 = omega arith in go (first_from p (suc n) xs ∙ ap (λ (k : ℕ). position_from p k xs) next) (p x)
  where
    go : first (places_from (suc n) p xs) ≡ position_from p (n + 1) xs → (b : Bool) → first (if b then n ∷ places_from (suc n) p xs else places_from (suc n) p xs) ≡ cond b (Some n) (position_from p (n + 1) xs)
    go rest true = refl
    go rest false = rest

abbrev is_key : Column → Bool
is_key c = c.key

pub key_position : (columns : Columns) → position (λ (c : Column). c.key) columns ≡ key_place columns
key_position columns = position_from-zero is_key columns ∙ sym (first_from is_key 0 columns)

-- a row has a cell for each column
pub fits_length : (columns : Columns) (row : Row) → FitsColumns columns row → length row ≡ length columns
fits_length [] [] fits = refl
fits_length [] (x ∷ row) fits = absurd fits
fits_length (c ∷ columns) [] fits = absurd fits
fits_length (c ∷ columns) (x ∷ row) fits = ap suc (fits_length columns row fits.1)

-- it is that of a column, and of a cell of each row
pub key_within : (columns : Columns) (row : Row) (key : Option ℕ) → key ≡ key_place columns → FitsColumns columns row → IfSome key (λ place. (place < length columns) × (place < length row))
key_within columns row None is fits = tt
key_within columns row (Some place) is fits =
    let found = position-Some is_key columns place (record { table = []; name = []; kind = Rattle.ob_base.specs.declared.schema.Kind.TheVariants.Int; key = false }) (key_position columns ∙ sym is) in
    (found.0, omega (arith, found.0, fits_length columns row fits))

pub key_inside : (columns : Columns) (key : Option ℕ) → key ≡ key_place columns → IfSome key (λ place. place < length columns)
key_inside columns None is = tt
key_inside columns (Some place) is =
    (position-Some is_key columns place (record { table = []; name = []; kind = Rattle.ob_base.specs.declared.schema.Kind.TheVariants.Int; key = false }) (key_position columns ∙ sym is)).0
