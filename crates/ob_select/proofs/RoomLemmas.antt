-- The room of a selection.
use Rattle.std.proofs.Common.{◌≡◌, ℕ, sym, subst}
use Rattle.ob_base.specs.declared.config.Public.{Public}
use Rattle.ob_room.specs.RoomState.{RoomState}
use Rattle.ob_select.specs.Settings.{IsFree}

-- the room after a pass
pub free_after : (public : Public) (old new : RoomState) (high : ℕ) → IsFree public old → new ≡ record old { high = high } → IsFree public new
free_after public old new high free is = subst (λ (r : RoomState). IsFree public r) (sym is) (record {
  idle = record { free = free.idle.free; shelf = free.idle.shelf; enough = free.idle.enough; wide = free.idle.wide };
  rows = free.rows;
  pack = free.pack;
})
