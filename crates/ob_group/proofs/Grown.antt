-- Totals that grow row by row are the aggregates of the rows.
use Rattle.std.proofs.Common.{◌≡◌, ℕ, ◌+◌, ℤ, pos, ◌+ℤ◌, List, [], ◌∷◌, length, map, fold, Option, Some, None, refl, ◌∙◌, ap, arith}
use Rattle.std.specs.Int.{int_min, int_max}
use Rattle.std.specs.Prelude.{slice_get}
use Rattle.std.specs.List.{cons_option}
use Rattle.ob_base.specs.declared.shown.Shown.{Shown}
use Rattle.ob_base.specs.declared.shown.Shown.TheVariants.{Int as ShownInt}
use Rattle.ob_row.specs.declared.aggregate.Agg.{Agg}
use Rattle.ob_row.specs.declared.aggregate.Agg.TheVariants.{CountAll, Count, Sum, Min, Max}
use Rattle.ob_row.specs.Rows.{Row}
use Rattle.ob_row.specs.Totals.{int_of, column_ints, combined, total, totals}
use Rattle.ob_group.specs.Running.{start, starts, joined, grown, grown_all, total_shown}

-- a total to which each row gives an integer, or none
abbrev folded : (ℤ → ℤ → ℤ) → ℕ → Option ℤ → List Row → Option ℤ
folded f i t rows = fold (λ (t : Option ℤ) (row : Row). joined f t (int_of (slice_get row i))) t rows

folded_on : (f : ℤ → ℤ → ℤ) (i : ℕ) (s : ℤ) (rows : List Row) → folded f i (Some s) rows ≡ Some (fold f s (column_ints i rows))
folded_on f i s [] = refl
folded_on f i s (row ∷ rows) =
    elim (int_of (slice_get row i)) as (λ (o : Option ℤ). folded f i (joined f (Some s) o) rows ≡ Some (fold f s (cons_option o (column_ints i rows)))) [
      | None ↦ folded_on f i s rows
      | Some x ↦ folded_on f i (f s x) rows
    ]

folded_all : (f : ℤ → ℤ → ℤ) (i : ℕ) (rows : List Row) → total_shown (folded f i None rows) ≡ combined f (column_ints i rows)
folded_all f i [] = refl
folded_all f i (row ∷ rows) =
    elim (int_of (slice_get row i)) as (λ (o : Option ℤ). total_shown (folded f i (joined f None o) rows) ≡ combined f (cons_option o (column_ints i rows))) [
      | None ↦ folded_all f i rows
      | Some x ↦ ap total_shown (folded_on f i x rows)
    ]

-- a total to which each row gives 1
abbrev counted : Option ℤ → List Row → Option ℤ
counted t rows = fold (λ (t : Option ℤ) (row : Row). joined ◌+ℤ◌ t (Some (pos 1))) t rows

counted_all : (n : ℕ) (rows : List Row) → counted (Some (pos n)) rows ≡ Some (pos (n + length rows))
counted_all n [] = ap (λ (k : ℕ). Some (pos k)) (omega arith)
counted_all n (row ∷ rows) = counted_all (n + 1) rows ∙ ap (λ (k : ℕ). Some (pos k)) (omega arith)

counted_shown : (rows : List Row) → total_shown (counted (Some (pos 0)) rows) ≡ ShownInt (pos (length rows))
counted_shown rows = ap total_shown (counted_all 0 rows) ∙ ap (λ (k : ℕ). ShownInt (pos k)) (omega arith)

pub total_is : (agg : Agg) (rows : List Row) → total_shown (fold (λ (t : Option ℤ) (row : Row). grown row agg t) (start agg) rows) ≡ total agg rows
total_is CountAll rows = counted_shown rows
total_is (Count i) rows = counted_shown rows
total_is (Sum i) rows = folded_all ◌+ℤ◌ i rows
total_is (Min i) rows = folded_all int_min i rows
total_is (Max i) rows = folded_all int_max i rows

abbrev pub grown_by : List Agg → List (Option ℤ) → List Row → List (Option ℤ)
grown_by aggs totals rows = fold (λ (ts : List (Option ℤ)) (row : Row). grown_all aggs row ts) totals rows

none_grown : (rows : List Row) → grown_by [] [] rows ≡ []
none_grown [] = refl
none_grown (row ∷ rows) = none_grown rows

-- each by itself
pub first_grown : (agg : Agg) (aggs : List Agg) (t : Option ℤ) (ts : List (Option ℤ)) (rows : List Row)
    → grown_by (agg ∷ aggs) (t ∷ ts) rows ≡ fold (λ (t : Option ℤ) (row : Row). grown row agg t) t rows ∷ grown_by aggs ts rows
first_grown agg aggs t ts [] = refl
first_grown agg aggs t ts (row ∷ rows) = first_grown agg aggs (grown row agg t) (grown_all aggs row ts) rows

pub totals_are : (aggs : List Agg) (rows : List Row) → map total_shown (grown_by aggs (starts aggs) rows) ≡ totals aggs rows
totals_are [] rows = ap (map total_shown) (none_grown rows)
totals_are (agg ∷ aggs) rows =
    ap (map total_shown) (first_grown agg aggs (start agg) (starts aggs) rows)
    ∙ ap (λ (x : Shown). x ∷ map total_shown (grown_by aggs (starts aggs) rows)) (total_is agg rows)
    ∙ ap (λ (l : List Shown). total agg rows ∷ l) (totals_are aggs rows)
