-- How integers are taken together.
use Rattle.std.specs.Prelude.{ℤ, ◌+ℤ◌}
use Rattle.std.specs.Int.{int_min, int_max}
use Rattle.ob_reference.specs.declared.totals.Fold.{Fold}
use Rattle.ob_reference.specs.declared.totals.Fold.TheVariants.{Sum, Min, Max}

abbrev pub taken : Fold → ℤ → ℤ → ℤ
taken Sum = ◌+ℤ◌
taken Min = int_min
taken Max = int_max
