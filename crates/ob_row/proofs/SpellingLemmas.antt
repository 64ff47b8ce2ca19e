-- A row has one spelling, as wide as its schema, and it is no dummy's.
use Rattle.std.proofs.Common.{◌≡◌, ℕ, suc, ◌+◌, ◌-◌, ◌<◌, ◌≤◌, ◌^◌, ℤ, List, [], ◌∷◌, ◌++◌, length, replicate, refl, sym, ◌∙◌, ap, take, drop, one-add, arith}
use Rattle.std.proofs.Math.Seq.{take-append_seam, drop-append_seam}
use Rattle.std.proofs.Math.Facts.{Fits-of_z, Fits-lt-pow}
use Rattle.std.specs.Prelude.{sum_by, FitsSigned, Option, Some, None}
use Rattle.std.proofs.lemmas.List.{take-replicate}
use Rattle.std.specs.Int.{to_be_bytes, from_be_bytes, cast_unsigned, cast_signed, w64}
use Rattle.std.proofs.lemmas.Nat.{from_be_bytes-to_be_bytes_8}
use Rattle.std.proofs.lemmas.Int.{to_z-of_z}
use Rattle.std.proofs.lemmas.List.{length-replicate, length-append}
use Rattle.std.proofs.lemmas.List.Sums.{sum_by-cons}
use Rattle.ob_base.specs.declared.schema.Kind.{Kind}
use Rattle.ob_base.specs.declared.schema.Kind.TheVariants.{Int as IntKind, Varchar}
use Rattle.ob_base.specs.declared.schema.Column.{Column}
use Rattle.ob_base.specs.Schemas.{Columns, kind_width, width}
use Rattle.ob_row.specs.declared.cell.Cell.{Cell}
use Rattle.ob_row.specs.declared.cell.Cell.TheVariants.{Int, Text}
use Rattle.ob_row.specs.Rows.{Row}
use Rattle.ob_row.specs.Spelling.{FitsKind, FitsColumns, Spells, Begins, cell_bytes, cells_bytes, row_bytes, dummy_bytes}

pub length-cell_bytes : (k : Kind) (x : Cell) → FitsKind k x → length (cell_bytes k x) ≡ kind_width k
length-cell_bytes IntKind (Int x) h = refl
length-cell_bytes IntKind (Text t) h = absurd h
length-cell_bytes (Varchar n) (Int x) h = absurd h
length-cell_bytes (Varchar n) (Text t) h = let short = h.0 in simp (length-append, length-replicate) (omega arith)

unsigned-below : (x : ℤ) → FitsSigned w64 x → cast_unsigned w64 x < 2 ^ 64
unsigned-below x h = Fits-lt-pow (Fits-of_z h)

int_bytes-same : (x y : ℤ) → FitsSigned w64 x → FitsSigned w64 y → to_be_bytes w64 (cast_unsigned w64 x) ≡ to_be_bytes w64 (cast_unsigned w64 y) → x ≡ y
int_bytes-same x y h k e =
    let n = from_be_bytes-to_be_bytes_8 (cast_unsigned w64 x) (unsigned-below x h) in
    let m = from_be_bytes-to_be_bytes_8 (cast_unsigned w64 y) (unsigned-below y k) in
    sym (to_z-of_z w64 x h) ∙ ap (cast_signed w64) (sym n ∙ ap (from_be_bytes w64) e ∙ m) ∙ to_z-of_z w64 y k

-- two lists that begin with parts of one length have the same parts
pub record SameParts (xs us ys vs : List ℕ) : Type 0 where
  pub front : xs ≡ us
  pub back : ys ≡ vs

pub parts-same : (xs us ys vs : List ℕ) → length xs ≡ length us → xs ++ ys ≡ us ++ vs → SameParts xs us ys vs
parts-same xs us ys vs l e = record {
  front = sym (take-append_seam xs ys) ∙ (λ t. take (l t) (e t)) ∙ take-append_seam us vs;
  back = sym (drop-append_seam xs ys) ∙ (λ t. drop (l t) (e t)) ∙ drop-append_seam us vs;
}

text_bytes-same : (n : ℕ) (s t : List ℕ) → length s ∷ (s ++ replicate (n - length s) 0) ≡ length t ∷ (t ++ replicate (n - length t) 0) → s ≡ t
text_bytes-same n s t e =
    let l : length s ≡ length t = cc in
    let r : s ++ replicate (n - length s) 0 ≡ t ++ replicate (n - length t) 0 = cc in
    (parts-same s t (replicate (n - length s) 0) (replicate (n - length t) 0) l r).front

pub cell_bytes-same : (k : Kind) (x y : Cell) → FitsKind k x → FitsKind k y → cell_bytes k x ≡ cell_bytes k y → x ≡ y
cell_bytes-same IntKind (Int x) (Int y) h l e = ap Int (int_bytes-same x y h l e)
cell_bytes-same IntKind (Int x) (Text t) h l e = absurd l
cell_bytes-same IntKind (Text s) y h l e = absurd h
cell_bytes-same (Varchar n) (Text s) (Text t) h l e = ap Text (text_bytes-same n s t e)
cell_bytes-same (Varchar n) (Text s) (Int y) h l e = absurd l
cell_bytes-same (Varchar n) (Int x) y h l e = absurd h

pub cells_bytes-same : (cs : List Column) (a b : Row) → FitsColumns cs a → FitsColumns cs b → cells_bytes cs a ≡ cells_bytes cs b → a ≡ b
cells_bytes-same [] [] [] h k e = refl
cells_bytes-same [] [] (y ∷ b) h k e = absurd k
cells_bytes-same [] (x ∷ a) b h k e = absurd h
cells_bytes-same (c ∷ cs) [] b h k e = absurd h
cells_bytes-same (c ∷ cs) (x ∷ a) [] h k e = absurd k
cells_bytes-same (c ∷ cs) (x ∷ a) (y ∷ b) h k e =
    let p = parts-same (cell_bytes c.kind x) (cell_bytes c.kind y) (cells_bytes cs a) (cells_bytes cs b) (length-cell_bytes c.kind x h.0 ∙ sym (length-cell_bytes c.kind y k.0)) e in
    (λ t. cell_bytes-same c.kind x y h.0 k.0 p.front t ∷ cells_bytes-same cs a b h.1 k.1 p.back t)

-- two rows of one schema with equal bytes are equal
pub row_bytes-same : (s : Columns) (a b : Row) → FitsColumns s a → FitsColumns s b → row_bytes s a ≡ row_bytes s b → a ≡ b
row_bytes-same s a b h k e = let r : cells_bytes s a ≡ cells_bytes s b = cc in cells_bytes-same s a b h k r

length-cells_bytes : (cs : List Column) (a : Row) → FitsColumns cs a → length (cells_bytes cs a) ≡ sum_by (λ (c : Column). kind_width c.kind) cs
length-cells_bytes [] [] h = refl
length-cells_bytes [] (x ∷ a) h = absurd h
length-cells_bytes (c ∷ cs) [] h = absurd h
length-cells_bytes (c ∷ cs) (x ∷ a) h =
    let e = length-cell_bytes c.kind x h.0 in
    let r = length-cells_bytes cs a h.1 in
    length-append (cell_bytes c.kind x) (cells_bytes cs a) ∙ (λ t. e t + r t) ∙ sym (sum_by-cons (λ (c : Column). kind_width c.kind) c cs)

pub length-row_bytes : (s : Columns) (a : Row) → FitsColumns s a → length (row_bytes s a) ≡ width s
length-row_bytes s a h = let e = length-cells_bytes s a h in omega arith

-- no row is spelt as a dummy
pub row_bytes-not_dummy : (s : Columns) (a : Row) → row_bytes s a ≡ dummy_bytes s → ⊥
row_bytes-not_dummy s a e = not_dummy (sum_by (λ (c : Column). kind_width c.kind) s) (cells_bytes s a) e where
  not_dummy : (n : ℕ) (bs : List ℕ) → 1 ∷ bs ≡ replicate (1 + n) 0 → ⊥
  not_dummy n bs e = let f : 1 ∷ bs ≡ replicate (suc n) 0 = rw one-add at e in cc

-- what stands after a row doesn't count
pub row_bytes-begin : (s : Columns) (a : Row) (behind : List ℕ) → FitsColumns s a → Begins s (Some a) (row_bytes s a ++ behind)
row_bytes-begin s a behind h =
    record { fits = h; is = ap (λ n. take n (row_bytes s a ++ behind)) (sym (length-row_bytes s a h)) ∙ take-append_seam (row_bytes s a) behind }

-- zeros begin with a dummy
pub zeros-begin : (s : Columns) (n : ℕ) → width s ≤ n → Begins s None (replicate n 0)
zeros-begin s n h = record { fits = tt; is = take-replicate (width s) n 0 h }

-- the bytes spell one row, or none
pub slots-same : (s : Columns) (a b : Option Row) (bytes : List ℕ) → Spells s a bytes → Spells s b bytes → a ≡ b
slots-same s None None bytes h k = refl
slots-same s None (Some b) bytes h k = absurd (row_bytes-not_dummy s b (sym k.is ∙ h.is))
slots-same s (Some a) None bytes h k = absurd (row_bytes-not_dummy s a (sym h.is ∙ k.is))
slots-same s (Some a) (Some b) bytes h k = ap Some (row_bytes-same s a b h.fits k.fits (sym h.is ∙ k.is))
