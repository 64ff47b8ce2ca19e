-- One column more.
use Rattle.std.proofs.Common.{◌≡◌, ◌+◌, ℕ, ℤ, [], ◌∷◌, ◌++◌, arith, length-append}
use Rattle.ob_base.specs.declared.schema.Column.{Column}
use Rattle.ob_base.specs.Schemas.{Columns, kind_width, width}
use Rattle.ob_join.proofs.Pairs.{width-join}
use Rattle.ob_mutate.specs.Changing.{FitsSets}
use Rattle.ob_row.specs.declared.cell.Cell.TheVariants.{Int}
use Rattle.ob_pass_bench.specs.Tables.{HasColumns}

sets_more : (columns : Columns) (c : Column) (y : ℤ) → FitsSets columns ((1, Int y) ∷ []) → FitsSets (columns ++ c ∷ []) ((1, Int y) ∷ [])
sets_more [] c y fits = absurd fits.0
sets_more (a ∷ []) c y fits = absurd fits.0
sets_more (a ∷ b ∷ columns) c y fits = fits

pub has_more : (n bytes more : ℕ) (columns : Columns) (c : Column) → kind_width c.kind ≡ more → HasColumns n bytes columns → HasColumns (n + 1) (bytes + more) (columns ++ c ∷ [])
has_more n bytes more columns c wide has =
    let one : width (c ∷ []) ≡ 1 + kind_width c.kind = omega arith in
    record {
      count = omega (arith, length-append columns (c ∷ []), has.count);
      wide = omega (arith, width-join columns (c ∷ []), has.wide, one, wide);
      number = λ y fit. sets_more columns c y (has.number y fit);
    }
