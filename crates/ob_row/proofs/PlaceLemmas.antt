-- The field of a column in the bytes of a row.
use Rattle.std.proofs.Common.{◌≡◌, ◌<◌, ◌≤◌, ◌+◌, ℕ, zero, suc, Bool, true, false, List, [], ◌∷◌, ◌++◌, Option, Some, None, length, take, drop, refl, sym, ◌∙◌, ap, subst, arith, append_assoc, drop-drop}
use Rattle.std.specs.Prelude.{is_some, slice_get, slice_set, bytes_eq}
use Rattle.std.proofs.Math.Seq.{drop-append-add, take-append-add}
use Rattle.std.proofs.lemmas.Bool.Decides.{Decides-int_eq}
use Rattle.std.proofs.lemmas.List.{take_at, take-append-drop}
use Rattle.std.proofs.lemmas.List.Sums.{sum_by-cons}
use Rattle.std.proofs.lemmas.Option.{slice_get_past}
use Rattle.std.proofs.lemmas.Slice.Eq.{bytes_eq-Decides}
use Rattle.ob_base.specs.declared.schema.Kind.{Kind}
use Rattle.ob_base.specs.declared.schema.Column.{Column}
use Rattle.ob_base.specs.Schemas.{Columns, kind_width, width}
use Rattle.ob_row.specs.declared.cell.Cell.{Cell}
use Rattle.ob_row.specs.declared.cell.Cell.TheVariants.{Int, Text}
use Rattle.ob_row.specs.Fields.{HoldsCell}
use Rattle.ob_row.specs.Rows.{Row, cell_eq}
use Rattle.ob_row.specs.Spelling.{FitsColumns, FitsKind, Begins, kind_at, cell_bytes, cells_bytes, cells_width, row_bytes}
use Rattle.ob_row.proofs.SpellingLemmas.{length-cell_bytes, cell_bytes-same, row_bytes-begin}
use Rattle.ob_row.proofs.CellsLemmas.{length-row}

wider : (c : Column) (cs : Columns) → width (c ∷ cs) ≡ kind_width c.kind + width cs
wider c cs = omega (arith, sum_by-cons (λ (c : Column). kind_width c.kind) c cs)

-- it lies in the bytes of a row
pub field_inside : (cs : Columns) (i : ℕ) → i < length cs → width (take i cs) + kind_width (kind_at cs i) ≤ width cs
field_inside [] i below = absurd (omega (arith, below))
field_inside (c ∷ cs) zero below = omega (arith, wider c cs)
field_inside (c ∷ cs) (suc i) below =
    let rest : width (take i cs) + kind_width (kind_at (c ∷ cs) (suc i)) ≤ width cs = field_inside cs i (omega (arith, below)) in
    let front : width (take (suc i) (c ∷ cs)) ≡ kind_width c.kind + width (take i cs) = wider c (take i cs) in
    omega (arith, rest, front, wider c cs)

-- the cell of a column, and its field
pub record Located (columns : Columns) (row : Row) (i : ℕ) (bytes : List ℕ) : Type 0 where
  pub cell : Cell
  pub is : slice_get row i ≡ Some cell
  pub field : HoldsCell (kind_at columns i) cell (take (kind_width (kind_at columns i)) bytes)

pub located : (cs : Columns) (row : Row) (i : ℕ) (behind : List ℕ) → FitsColumns cs row → i < length cs → Located cs row i (drop (cells_width (take i cs)) (cells_bytes cs row ++ behind))
located [] row i behind fits below = absurd (omega (arith, below))
located (c ∷ cs) [] i behind fits below = absurd fits
located (c ∷ cs) (x ∷ row) zero behind fits below = record {
  cell = x;
  is = refl;
  field = record {
    fits = fits.0;
    is = ap (take (kind_width c.kind)) (append_assoc (cell_bytes c.kind x) (cells_bytes cs row) behind)
        ∙ take_at (cell_bytes c.kind x) (cells_bytes cs row ++ behind) (kind_width c.kind) (length-cell_bytes c.kind x fits.0);
  };
}
located (c ∷ cs) (x ∷ row) (suc i) behind fits below =
    let rest = located cs row i behind fits.1 (omega (arith, below)) in
    let front : cells_width (take (suc i) (c ∷ cs)) ≡ kind_width c.kind + cells_width (take i cs) = sum_by-cons (λ (c : Column). kind_width c.kind) c (take i cs) in
    let size : cells_width (take (suc i) (c ∷ cs)) ≡ length (cell_bytes c.kind x) + cells_width (take i cs) = omega (arith, front, length-cell_bytes c.kind x fits.0) in
    let past : drop (cells_width (take (suc i) (c ∷ cs))) ((cell_bytes c.kind x ++ cells_bytes cs row) ++ behind) ≡ drop (cells_width (take i cs)) (cells_bytes cs row ++ behind) =
    ap (λ (k : ℕ). drop k ((cell_bytes c.kind x ++ cells_bytes cs row) ++ behind)) size
    ∙ ap (drop (length (cell_bytes c.kind x) + cells_width (take i cs))) (append_assoc (cell_bytes c.kind x) (cells_bytes cs row) behind)
    ∙ drop-append-add (cell_bytes c.kind x) (cells_bytes cs row ++ behind) (cells_width (take i cs)) in
    record { cell = rest.cell; is = rest.is; field = record { fits = rest.field.fits; is = ap (take (kind_width (kind_at cs i))) past ∙ rest.field.is } }

pub begun : (cs : Columns) (row : Row) (bytes : List ℕ) → Begins cs (Some row) bytes → bytes ≡ 1 ∷ (cells_bytes cs row ++ drop (width cs) bytes)
begun cs row bytes begins = sym (take-append-drop (width cs) bytes) ∙ ap (λ (t : List ℕ). t ++ drop (width cs) bytes) begins.is

-- those of a row that the bytes begin with
pub row_field : (cs : Columns) (row : Row) (i : ℕ) (bytes : List ℕ) → Begins cs (Some row) bytes → i < length cs → Located cs row i (drop (width (take i cs)) bytes)
row_field cs row i bytes begins below =
    let behind = drop (width cs) bytes in
    let back : drop (width (take i cs)) bytes ≡ drop (cells_width (take i cs)) (cells_bytes cs row ++ behind) =
    ap (drop (width (take i cs))) (begun cs row bytes begins) ∙ drop-append-add (1 ∷ []) (cells_bytes cs row ++ behind) (cells_width (take i cs)) in
    subst (Located cs row i) (sym back) (located cs row i behind begins.fits below)

pub cell_eq-same : (x y : Cell) → cell_eq x y ≡ true → x ≡ y
cell_eq-same (Int x) (Int y) h = ap Int ((Decides-int_eq x y).0 h)
cell_eq-same (Int x) (Text t) h = cc
cell_eq-same (Text s) (Int y) h = cc
cell_eq-same (Text s) (Text t) h = ap Text ((bytes_eq-Decides s t).0 h)

cell_eq-refl : (x : Cell) → cell_eq x x ≡ true
cell_eq-refl (Int x) = (Decides-int_eq x x).1 refl
cell_eq-refl (Text t) = (bytes_eq-Decides t t).1 refl

pub is_false : (b : Bool) → (b ≡ true → ⊥) → b ≡ false
is_false true never = absurd (never refl)
is_false false never = refl

-- two fields of one kind are equal where their cells are
pub same_fields : (kind : Kind) (x y : Cell) (own field : List ℕ) → HoldsCell kind x own → HoldsCell kind y field → bytes_eq own field ≡ cell_eq x y
same_fields kind x y own field h k = go (bytes_eq own field) refl
  where
    go : (b : Bool) → bytes_eq own field ≡ b → b ≡ cell_eq x y
    go true e =
        let is = cell_bytes-same kind x y h.fits k.fits (sym h.is ∙ (bytes_eq-Decides own field).0 e ∙ k.is) in
        sym (subst (λ (z : Cell). cell_eq x z ≡ true) is (cell_eq-refl x))
    go false e =
        sym (is_false (cell_eq x y) (λ t.
        let on : bytes_eq own field ≡ true = (bytes_eq-Decides own field).1 (h.is ∙ ap (cell_bytes kind) (cell_eq-same x y t) ∙ sym k.is) in
        absurd (cc (e, on))))

pub one_cell : (kind : Kind) (x y : Cell) (field : List ℕ) → HoldsCell kind x field → HoldsCell kind y field → x ≡ y
one_cell kind x y field h k = cell_bytes-same kind x y h.fits k.fits (sym h.is ∙ k.is)

pub some_row : (slot : Option Row) → is_some slot ≡ true → (row : Row) × (slot ≡ Some row)
some_row None not = absurd (cc not)
some_row (Some row) is = (row, refl)

-- the cell of a row that its field holds
pub record Read (columns : Columns) (slot : Option Row) (j : ℕ) (kind : Kind) (field : List ℕ) : Type 0 where
  pub row : Row
  pub is : slot ≡ Some row
  pub cell : Cell
  pub has : slice_get row j ≡ Some cell
  pub held : HoldsCell kind cell field

pub field_read : (cs : Columns) (slot : Option Row) (j : ℕ) (bytes field : List ℕ) (kind : Kind) (from n : ℕ) → Begins cs slot bytes → is_some slot ≡ true → j < length cs
    → kind ≡ kind_at cs j → from ≡ width (take j cs) → n ≡ kind_width kind → field ≡ take n (drop from bytes) → Read cs slot j kind field
field_read cs slot j bytes field kind from n begins some below own first wide is =
    let real = some_row slot some in
    let at' = row_field cs real.0 j bytes (subst (λ (s : Option Row). Begins cs s bytes) real.1 begins) below in
    let same : field ≡ take (kind_width (kind_at cs j)) (drop (width (take j cs)) bytes) =
    is ∙ ap (λ (m : ℕ). take m (drop from bytes)) (wide ∙ ap kind_width own) ∙ ap (λ (m : ℕ). take (kind_width (kind_at cs j)) (drop m bytes)) first in
    record {
      row = real.0;
      is = real.1;
      cell = at'.cell;
      has = at'.is;
      held = subst (λ (k : Kind). HoldsCell k at'.cell field) (sym own) (subst (HoldsCell (kind_at cs j) at'.cell) (sym same) at'.field);
    }

-- what a field holds where the bytes begin with a row
pub field_held : (cs : Columns) (i : ℕ) (bytes rest field : List ℕ) (from n : ℕ) (kind : Kind) → i < length cs → kind ≡ kind_at cs i → from ≡ width (take i cs) → n ≡ kind_width kind
    → rest ≡ drop from bytes → field ≡ take n rest → (row : Row) → Begins cs (Some row) bytes → (x : Cell) × (slice_get row i ≡ Some x) × HoldsCell (kind_at cs i) x field
field_held cs i bytes rest field from n kind below own first wide behind is row begins =
    let at' = row_field cs row i bytes begins below in
    let same : field ≡ take (kind_width (kind_at cs i)) (drop (width (take i cs)) bytes) =
    is ∙ ap (λ (m : ℕ). take m rest) (wide ∙ ap kind_width own) ∙ ap (take (kind_width (kind_at cs i))) (behind ∙ ap (λ (m : ℕ). drop m bytes) first) in
    (at'.cell, at'.is, subst (HoldsCell (kind_at cs i) at'.cell) (sym same) at'.field)

pub no_cell : (cs : Columns) (row : Row) (i : ℕ) (bytes : List ℕ) → Begins cs (Some row) bytes → length cs ≤ i → slice_get row i ≡ None
no_cell cs row i bytes begins past = slice_get_past row i (omega (arith, past, length-row cs row begins.fits))

-- a row's bytes with those of one cell in their place
put_in : (cs : Columns) (row : Row) (i : ℕ) (x : Cell) (behind : List ℕ) → FitsColumns cs row → i < length cs → FitsKind (kind_at cs i) x
    → take (cells_width (take i cs)) (cells_bytes cs row ++ behind) ++ (cell_bytes (kind_at cs i) x ++ drop (cells_width (take i cs) + kind_width (kind_at cs i)) (cells_bytes cs row ++ behind))
    ≡ cells_bytes cs (slice_set row i x) ++ behind
put_in [] row i x behind fits below fit = absurd (omega (arith, below))
put_in (c ∷ cs) [] i x behind fits below fit = absurd fits
put_in (c ∷ cs) (y ∷ row) zero x behind fits below fit =
    let own = cell_bytes c.kind y in
    let rest = cells_bytes cs row in
    let wide : 0 + kind_width c.kind ≡ length own + 0 = omega (arith, length-cell_bytes c.kind y fits.0) in
    let back : drop (0 + kind_width c.kind) ((own ++ rest) ++ behind) ≡ rest ++ behind =
    ap (λ (k : ℕ). drop k ((own ++ rest) ++ behind)) wide ∙ ap (drop (length own + 0)) (append_assoc own rest behind) ∙ drop-append-add own (rest ++ behind) 0 in
    ap (λ (l : List ℕ). cell_bytes c.kind x ++ l) back ∙ sym (append_assoc (cell_bytes c.kind x) rest behind)
put_in (c ∷ cs) (y ∷ row) (suc i) x behind fits below fit =
    let own = cell_bytes c.kind y in
    let all = cells_bytes cs row ++ behind in
    let kind = kind_at cs i in
    let front : cells_width (take (suc i) (c ∷ cs)) ≡ length own + cells_width (take i cs) =
    sum_by-cons (λ (c : Column). kind_width c.kind) c (take i cs) ∙ ap (λ (k : ℕ). k + cells_width (take i cs)) (sym (length-cell_bytes c.kind y fits.0)) in
    let past : cells_width (take (suc i) (c ∷ cs)) + kind_width kind ≡ length own + (cells_width (take i cs) + kind_width kind) = omega (arith, front) in
    let joined : (own ++ cells_bytes cs row) ++ behind ≡ own ++ all = append_assoc own (cells_bytes cs row) behind in
    let before : take (cells_width (take (suc i) (c ∷ cs))) ((own ++ cells_bytes cs row) ++ behind) ≡ own ++ take (cells_width (take i cs)) all =
    (λ t. take (front t) (joined t)) ∙ take-append-add own all (cells_width (take i cs)) in
    let after : drop (cells_width (take (suc i) (c ∷ cs)) + kind_width kind) ((own ++ cells_bytes cs row) ++ behind) ≡ drop (cells_width (take i cs) + kind_width kind) all =
    (λ t. drop (past t) (joined t)) ∙ drop-append-add own all (cells_width (take i cs) + kind_width kind) in
    let rest = put_in cs row i x behind fits.1 (omega (arith, below)) fit in
    (λ t. before t ++ (cell_bytes kind x ++ after t))
    ∙ append_assoc own (take (cells_width (take i cs)) all) (cell_bytes kind x ++ drop (cells_width (take i cs) + kind_width kind) all)
    ∙ ap (λ (l : List ℕ). own ++ l) rest
    ∙ sym (append_assoc own (cells_bytes cs (slice_set row i x)) behind)

fits_with : (cs : Columns) (row : Row) (i : ℕ) (x : Cell) → FitsColumns cs row → i < length cs → FitsKind (kind_at cs i) x → FitsColumns cs (slice_set row i x)
fits_with [] row i x fits below fit = absurd (omega (arith, below))
fits_with (c ∷ cs) [] i x fits below fit = absurd fits
fits_with (c ∷ cs) (y ∷ row) zero x fits below fit = (fit, fits.1)
fits_with (c ∷ cs) (y ∷ row) (suc i) x fits below fit = (fits.0, fits_with cs row i x fits.1 (omega (arith, below)) fit)

-- they begin with the row that has the cell
pub cell_put : (cs : Columns) (row : Row) (i : ℕ) (x : Cell) (kind : Kind) (from n : ℕ) (bytes front rest field behind : List ℕ) → Begins cs (Some row) bytes → i < length cs → kind ≡ kind_at cs i
    → from ≡ width (take i cs) → n ≡ kind_width kind → front ≡ take from bytes → rest ≡ drop from bytes → field ≡ cell_bytes kind x → behind ≡ drop n rest → FitsKind (kind_at cs i) x
    → Begins cs (Some (slice_set row i x)) (front ++ (field ++ behind))
cell_put cs row i x kind from n bytes front rest field behind begins below own first wide ahead back put past fit =
    let tail = drop (width cs) bytes in
    let all = cells_bytes cs row ++ tail in
    let at' = cells_width (take i cs) in
    let w = kind_width (kind_at cs i) in
    let is : bytes ≡ 1 ∷ all = begun cs row bytes begins in
    let head : front ≡ 1 ∷ take at' all = ahead ∙ (λ t. take (first t) (is t)) ∙ take-append-add (1 ∷ []) all at' in
    let foot : rest ≡ drop at' all = back ∙ (λ t. drop (first t) (is t)) ∙ drop-append-add (1 ∷ []) all at' in
    let end : behind ≡ drop (at' + w) all = past ∙ (λ t. drop ((wide ∙ ap kind_width own) t) (foot t)) ∙ drop-drop w at' all in
    let whole : front ++ (field ++ behind) ≡ row_bytes cs (slice_set row i x) ++ tail =
    (λ t. head t ++ ((put ∙ ap (λ (k : Kind). cell_bytes k x) own) t ++ end t)) ∙ ap (λ (l : List ℕ). 1 ∷ l) (put_in cs row i x tail begins.fits below fit) in
    subst (Begins cs (Some (slice_set row i x))) (sym whole) (row_bytes-begin cs (slice_set row i x) tail (fits_with cs row i x begins.fits below fit))
