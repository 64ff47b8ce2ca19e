-- The columns that a SELECT may name.
use Rattle.std.proofs.Common.{◌≡◌, List, refl, append-nil}
use Rattle.ob_base.specs.declared.schema.Heading.{Heading}
use Rattle.ob_base.specs.declared.skeleton.Source.{Source}
use Rattle.ob_base.specs.declared.skeleton.Source.TheVariants.{Table as OneTable, Join}
use Rattle.ob_names.specs.Names.{columns_in, columns_at, source_columns}
use Rattle.ob_mean.specs.Scopes.{source_scope}

-- they are the left table's and the right one's
pub source_split : (s : Source) (hs : List Heading) → columns_in (source_scope s hs) ≡ source_columns s hs
source_split (OneTable name) hs = append-nil (columns_at name hs)
source_split (Join a b on equals) hs = refl
