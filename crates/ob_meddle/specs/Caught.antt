-- The first read that gave other bytes than were written last.
use Rattle.std.specs.Prelude.{List, Option, Some, None, take}
use Rattle.ob_base.specs.declared.access.Access.{Access}
use Rattle.ob_store.specs.State.{FalseRead}
use Rattle.ob_meddle.specs.declared.caught.Caught.{Caught}

-- what contracts see of it, by the accesses
abbrev pub lie_of : Option Caught → List Access → Option FalseRead
lie_of None asked = None
lie_of (Some c) asked = Some (record { region = c.region; place = c.place; bytes = take c.len c.bytes; before = take c.count asked })
