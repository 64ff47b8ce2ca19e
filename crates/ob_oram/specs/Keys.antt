-- The column of an index's keys.
use Rattle.std.specs.Prelude.{◌≡◌, ◌<◌, ℕ, Some, length}
use Rattle.ob_base.specs.Schemas.{Columns, key_place}
use Rattle.ob_base.specs.declared.schema.Kind.TheVariants.{Int as IntKind}
use Rattle.ob_row.specs.Spelling.{kind_at}

-- the primary key stands at this place, and is an INT
pub record IsIntKey (columns : Columns) (place : ℕ) : Type 0 where
  pub primary : key_place columns ≡ Some place
  pub within : place < length columns
  pub int : kind_at columns place ≡ IntKind
