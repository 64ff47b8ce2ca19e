-- Cells of a row as they are printed.
use Rattle.std.proofs.Common.{◌≡◌, ◌<◌, ℕ, Bool, zero, suc, List, [], ◌∷◌, Option, Some, length, take, map, slice_get, slice_set, slice_index_or, refl, ap, arith}
use Rattle.std.specs.Option.{option_map_or}
use Rattle.std.proofs.lemmas.List.{length-map}
use Rattle.std.proofs.lemmas.Option.{slice_get-get_or}
use Rattle.ob_base.specs.declared.schema.Column.{Column}
use Rattle.ob_base.specs.Schemas.{Columns}
use Rattle.ob_emit.specs.Emitting.{is_joined, label_at, labels_of}
use Rattle.ob_row.specs.Rows.{Row}
use Rattle.ob_row.specs.Totals.{shown_at, printed}
use Rattle.ob_base.specs.Labels.{column_label}

-- one element more that two lists begin with
pub take_put : {A : Type 0} (xs ys : List A) (i : ℕ) (y : A) → i < length xs → take i xs ≡ take i ys → slice_get ys i ≡ Some y → take (suc i) (slice_set xs i y) ≡ take (suc i) ys
take_put [] ys i y below same is = absurd (omega (arith, below))
take_put (x ∷ xs) [] i y below same is = absurd (cc is)
take_put (x ∷ xs) (z ∷ ys) zero y below same is = cc is
take_put (x ∷ xs) (z ∷ ys) (suc i) y below same is =
    let first : x ≡ z = cc same in
    let rest : take i xs ≡ take i ys = cc same in
    cc (first, take_put xs ys i y (omega (arith, below)) rest is)

-- the cell at place i among those that are printed
pub printed_at : (cols : List ℕ) (row : Row) (i : ℕ) (d : ℕ) → i < length cols → slice_get (printed cols row) i ≡ Some (shown_at (slice_get row (slice_index_or cols i d)))
printed_at [] row i d below = absurd (omega (arith, below))
printed_at (c ∷ cols) row zero d below = refl
printed_at (c ∷ cols) row (suc i) d below = printed_at cols row i d (omega (arith, below))

pub printed_size : (cols : List ℕ) (row : Row) → length (printed cols row) ≡ length cols
printed_size [] row = refl
printed_size (c ∷ cols) row = ap suc (printed_size cols row)

-- the label at place i among those of a header
pub label_is : (joins : Bool) (columns : Columns) (cols : List ℕ) (i d : ℕ) (c : Column) → i < length cols → slice_index_or cols i d < length columns → slice_get (map (label_at joins columns) cols) i ≡ Some (column_label joins (slice_index_or columns (slice_index_or cols i d) c))
label_is joins columns [] i d c below inside = absurd (omega (arith, below))
label_is joins columns (x ∷ cols) zero d c below inside = ap (λ (o : Option Column). Some (option_map_or (column_label joins) o [])) (slice_get-get_or columns x c inside)
label_is joins columns (x ∷ cols) (suc i) d c below inside = label_is joins columns cols i d c (omega (arith, below)) inside

pub labels_size : (columns : Columns) (cols : List ℕ) → length (labels_of columns cols) ≡ length cols
labels_size columns cols = length-map cols (label_at (is_joined columns) columns)
