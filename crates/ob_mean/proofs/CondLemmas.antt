-- The comparisons of a condition.
use Rattle.std.proofs.Common.{◌≡◌, Bool, List, [], ◌++◌, append-nil}
use Rattle.ob_base.specs.Schemas.{Columns}
use Rattle.std.specs.Prelude.{◌||◌, flat_map}
use Rattle.std.specs.List.{list_any}
use Rattle.std.proofs.lemmas.List.Folds.{list_any-append}
use Rattle.std.proofs.lemmas.Grind.{flat_map-append}
use Rattle.ob_names.specs.Kinds.{Comparison, comparison_columns}

pub any_append : {A : Type 0} (p : A → Bool) (xs ys : List A) → list_any p (xs ++ ys) ≡ (list_any p xs || list_any p ys)
any_append p xs ys = list_any-append p xs ys

pub columns_append : (xs ys : List Comparison) → flat_map comparison_columns (xs ++ ys) ≡ flat_map comparison_columns xs ++ flat_map comparison_columns ys
columns_append xs ys = flat_map-append comparison_columns xs ys

pub one_table : (cs : Columns) → cs ++ [] ≡ cs
one_table cs = append-nil cs
