-- The cells of a row, and of a change, beside the columns of a table.
use Rattle.std.proofs.Common.{◌≡◌, ◌<◌, ℕ, zero, suc, ℤ, [], ◌∷◌, Some, length, refl, sym, ◌∙◌, ap, subst, arith, w64, to_z, of_z}
use Rattle.std.specs.Prelude.{FitsSigned, slice_get}
use Rattle.std.proofs.lemmas.Int.{to_z-of_z}
use Rattle.ob_base.specs.declared.schema.Kind.{Kind}
use Rattle.ob_base.specs.declared.schema.Kind.TheVariants.{Int as IntKind, Varchar}
use Rattle.ob_base.specs.Schemas.{Columns}
use Rattle.ob_row.specs.declared.cell.Cell.{Cell}
use Rattle.ob_row.specs.declared.cell.Cell.TheVariants.{Int, Text}
use Rattle.ob_row.specs.Rows.{Row, cell_at}
use Rattle.ob_row.specs.Spelling.{FitsColumns, FitsKind, kind_at}

-- an integer of 64 bits
pub record IsInt (row : Row) (i : ℕ) : Type 0 where
  pub number : ℤ
  pub is : slice_get row i ≡ Some (Int number)
  pub fits : FitsSigned w64 number

of_kind : (k : Kind) (x : Cell) (row : Row) (i : ℕ) → slice_get row i ≡ Some x → k ≡ IntKind → FitsKind k x → IsInt row i
of_kind IntKind (Int z) row i at is fits = record { number = z; is = at; fits = fits }
of_kind IntKind (Text t) row i at is fits = absurd fits
of_kind (Varchar n) x row i at is fits = absurd (cc is)

-- stands in an INT column
pub int_at : (cs : Columns) (row : Row) (i : ℕ) → FitsColumns cs row → i < length cs → kind_at cs i ≡ IntKind → IsInt row i
int_at [] row i fits less kind = absurd (omega (arith, less))
int_at (c ∷ cs) [] i fits less kind = absurd fits
int_at (c ∷ cs) (x ∷ row) zero fits less kind = of_kind c.kind x (x ∷ row) zero refl kind fits.0
int_at (c ∷ cs) (x ∷ row) (suc i) fits less kind =
    let there = int_at cs row i fits.1 (omega (arith, less)) kind in record { number = there.number; is = there.is; fits = there.fits }

-- so the key of a row is
pub key_again : (cs : Columns) (row : Row) (i : ℕ) (key : ℤ) → FitsColumns cs row → i < length cs → kind_at cs i ≡ IntKind → cell_at row i ≡ Some (Int key) → cell_at row i ≡ Some (Int (to_z w64 (of_z w64 key)))
key_again cs row i key fits less kind is =
    let there = int_at cs row i fits less kind in
    let same : there.number ≡ key = cc (there.is, is) in
    is ∙ ap (λ (z : ℤ). Some (Int z)) (sym (to_z-of_z w64 key (subst (λ (z : ℤ). FitsSigned w64 z) same there.fits)))
