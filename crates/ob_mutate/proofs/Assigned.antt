-- Cells that are written one after the other, each at the place of its column.
use Rattle.std.proofs.Common.{◌≡◌, ◌<◌, ◌+◌, ℕ, zero, suc, List, [], ◌∷◌, length, drop, get_or, sym, ◌∙◌, ap, subst, arith}
use Rattle.std.specs.Prelude.{IsSomeAnd, slice_get}
use Rattle.std.proofs.lemmas.List.{drop_more}
use Rattle.ob_base.specs.Schemas.{Columns}
use Rattle.ob_row.specs.declared.cell.Cell.{Cell}
use Rattle.ob_row.specs.Spelling.{FitsKind, kind_at}
use Rattle.ob_mutate.specs.Changing.{FitsSets}

column_fits : (columns : Columns) (i : ℕ) (x : Cell) → IsSomeAnd (slice_get columns i) (λ c. FitsKind c.kind x) → (i < length columns) × FitsKind (kind_at columns i) x
column_fits [] i x fit = absurd fit
column_fits (c ∷ columns) zero x fit = (omega arith, fit)
column_fits (c ∷ columns) (suc i) x fit = let rest = column_fits columns i x fit in (omega (arith, rest.0), rest.1)

-- the one of an index, and those after it
pub record IsNext (columns : Columns) (sets : List (ℕ × Cell)) (i : ℕ) (set : ℕ × Cell) : Type 0 where
  pub is : drop i sets ≡ set ∷ drop (i + 1) sets
  pub within : set.0 < length columns
  pub fits : FitsKind (kind_at columns set.0) set.1
  pub later : FitsSets columns (drop (i + 1) sets)

pub next_set : (columns : Columns) (sets : List (ℕ × Cell)) (i : ℕ) (set : ℕ × Cell) → i < length sets → set ≡ get_or sets i set → FitsSets columns (drop i sets) → IsNext columns sets i set
next_set columns sets i set below is fits =
    let here : drop i sets ≡ set ∷ drop (i + 1) sets = drop_more sets i set below ∙ ap (λ (s : ℕ × Cell). s ∷ drop (i + 1) sets) (sym is) in
    let both : FitsSets columns (set ∷ drop (i + 1) sets) = subst (FitsSets columns) here fits in
    let column = column_fits columns set.0 set.1 both.0 in
    record { is = here; within = column.0; fits = column.1; later = both.1 }
