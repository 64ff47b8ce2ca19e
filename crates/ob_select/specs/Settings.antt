-- Settings within their limits, and a room whose rows are all free.
use Rattle.std.specs.Prelude.{◌≡◌, ◌≤◌, ◌+◌, ◌*◌, ℕ, Option}
use Rattle.ob_base.specs.declared.config.Planner.{Planner}
use Rattle.ob_base.specs.declared.config.Public.{Public}
use Rattle.ob_base.specs.Plans.{IsPadded}
use Rattle.ob_blocks.specs.Idle.{IsIdle}
use Rattle.ob_room.specs.RoomState.{RoomState}

-- settings within their limits, and plans that may be taken where results are padded
pub record IsSettings (buffer depth pack : ℕ) (planner : Planner) (pad : Option ℕ) : Type 0 where
  pub blocks : 3 * pack + 1 ≤ buffer
  pub most : buffer ≤ 65536
  pub depth_least : 1 ≤ depth
  pub depth_most : depth ≤ 8
  pub pack_least : 1 ≤ pack
  pub pack_most : pack ≤ 16
  pub padded : IsPadded pad planner

abbrev pub AreSettings : Public → Type 0
AreSettings p = IsSettings p.buffer p.depth p.pack p.planner p.pad

-- the room has the rows of the buffer, all of them free
pub record IsFree (public : Public) (room : RoomState) : Type 0 where
  pub idle : IsIdle 1024 room
  pub rows : room.rows ≡ public.buffer
  pub pack : room.pack ≡ public.pack
