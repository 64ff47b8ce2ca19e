-- One cell more before those of a row.
use Rattle.std.proofs.Common.{◌≡◌, ℕ, suc, Bool, true, false, List, [], ◌∷◌, ◌++◌, length, refl, sym, ◌∙◌, ap, subst}
use Rattle.std.specs.Bool.{OnTrue}
use Rattle.ob_base.specs.declared.schema.Column.{Column}
use Rattle.ob_base.specs.Schemas.{Columns}
use Rattle.ob_row.specs.Spelling.{FitsColumns}
use Rattle.ob_row.specs.declared.cell.Cell.{Cell}
use Rattle.ob_row.specs.Rows.{Row}
use Rattle.ob_row.specs.Fields.{HoldsCell}
use Rattle.ob_row.specs.Cells.{HoldsCells}

one_more : (c : Column) (cs columns : Columns) (all field fields : List ℕ) → columns ≡ c ∷ cs → all ≡ field ++ fields →
    (x : Cell) × HoldsCell c.kind x field → (row : Row) × HoldsCells cs row fields → (row : Row) × HoldsCells columns row all
one_more c cs columns all field fields e f h k =
    subst (λ cs. (row : Row) × HoldsCells cs row all) (sym e)
    (h.0 ∷ k.0, record { fits = (h.1.fits, k.1.fits); is = f ∙ (λ t. h.1.is t ++ k.1.is t) })

pub more_cells : (c : Column) (cs columns : Columns) (all field fields : List ℕ) → columns ≡ c ∷ cs → all ≡ field ++ fields →
    (x : Cell) × HoldsCell c.kind x field → (b : Bool) → OnTrue b ((row : Row) × HoldsCells cs row fields) → OnTrue b ((row : Row) × HoldsCells columns row all)
more_cells c cs columns all field fields e f h false k = tt
more_cells c cs columns all field fields e f h true k = one_more c cs columns all field fields e f h k

pub length-row : (cs : Columns) (row : Row) → FitsColumns cs row → length row ≡ length cs
length-row [] [] h = refl
length-row [] (x ∷ row) h = absurd h
length-row (c ∷ cs) [] h = absurd h
length-row (c ∷ cs) (x ∷ row) h = ap suc (length-row cs row h.1)
