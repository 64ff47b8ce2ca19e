-- What an access leaves of the tables.
use Rattle.std.specs.Prelude.{◌≡◌, false, length}
use Rattle.ob_base.specs.Schemas.{key_place}
use Rattle.ob_base.specs.Stored.{Stored}
use Rattle.ob_row.specs.Rows.{Row, keys_repeat}
use Rattle.ob_row.specs.Slots.{rows}
use Rattle.ob_mean.specs.SameMeaning.{SameTables}
use Rattle.ob_mean.specs.Step.{Database}
use Rattle.ob_mean.specs.Verdict.{Held, Tables, database, IsIndexed, access_settled, held_as}
use Rattle.ob_path.specs.Access.{Went}

-- these tables, as bags, and of the index as many slots, with distinct keys, which stands
pub record AccessSettles (ts : Tables) (t : Stored Held) (w : Went Row) (db : Database) : Type 0 where
  pub bags : SameTables (database (access_settled ts t w)) db
  pub slots : length (held_as w.state).slots ≡ length t.held.slots
  pub keys : keys_repeat (key_place t.heading.schema) (rows (held_as w.state).slots) ≡ false
  pub indexed : IsIndexed (record { heading = t.heading; held = held_as w.state })
