-- What becomes of a block that is shown to a row.
use Rattle.std.specs.Prelude.{◌≡◌, ◌≤◌, ℕ, List, Option, length}
use Rattle.ob_base.specs.Schemas.{Columns, width}
use Rattle.ob_row.specs.Rows.{Row}
use Rattle.ob_row.specs.Slots.{Slots}
use Rattle.ob_row.specs.Spelling.{Begins}
use Rattle.ob_hash.specs.declared.filling.Filling.{Filling}
use Rattle.ob_hash.specs.Waiting.{waits_after, filled_with}

-- the row spells a slot
pub record IsRow (columns : Columns) (row : List ℕ) : Type 0 where
  pub wide : width columns ≤ length row
  pub own : Option Row
  pub begins : Begins columns own row

-- its slot goes into the first empty one, where it waits
pub record Fills (columns : Columns) (old new : Filling) (slots made : Slots) : Type 0 where
  pub own : Option Row
  pub begins : Begins columns own old.row.now
  pub row : new.row.now ≡ old.row.now
  pub waits : new.waits ≡ waits_after old.waits slots
  pub after : made ≡ filled_with old.waits own slots
