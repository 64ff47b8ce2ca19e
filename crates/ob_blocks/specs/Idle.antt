-- What a pass asks of the room.
use Rattle.std.specs.Prelude.{◌≡◌, ◌≤◌, ◌+◌, ◌*◌, ℕ, [], length}
use Rattle.ob_room.specs.RoomState.{RoomState}

-- all rows are free, three blocks and one row can be open at once, and each row has this width at least
pub record IsIdle (width : ℕ) (room : RoomState) : Type 0 where
  pub free : length room.free ≡ room.rows
  pub shelf : room.shelf ≡ []
  pub enough : 3 * room.pack + 1 ≤ room.rows
  pub wide : width ≤ room.width
