-- Tables, and what a pass leaves of them, of others beside them and of the room.
use Rattle.std.specs.Prelude.{◌≡◌, ◌≢◌, ◌<◌, ◌≤◌, ℕ, length}
use Rattle.ob_base.specs.Schemas.{Columns, width}
use Rattle.ob_store.specs.State.{StoreState}
use Rattle.ob_room.specs.RoomState.{RoomState}
use Rattle.ob_vault.specs.State.{World}
use Rattle.ob_vault.specs.Words.{StartsAnew}
use Rattle.ob_blocks.specs.Idle.{IsIdle}
use Rattle.ob_flat.specs.declared.flat.Flat.{Flat}
use Rattle.ob_flat.specs.Flats.{FitsRegion, IsSized, IsFlat, IsWritten}

-- every other table stays where this one goes to another region
abbrev pub KeepsOthers : ℕ → Flat → Flat → World → World → Type 0
KeepsOthers pack flat left old new = (other : Flat) → IsFlat pack other old
    → other.region ≢ flat.region → IsFlat pack other new × (other.region ≢ left.region)

-- every table that was there stays
abbrev pub KeepsAll : ℕ → World → World → Type 0
KeepsAll pack old new = (other : Flat) → IsFlat pack other old → IsFlat pack other new

-- few columns and slots, so that what a pass over them asks has room
pub record IsSmall (columns : Columns) (capacity : ℕ) : Type 0 where
  pub few : length columns ≤ 16
  pub narrow : width columns ≤ 256
  pub slots : capacity ≤ 16

-- and this is that room
pub record HasRoom (s : StoreState) : Type 0 where
  pub spare : 10000 ≤ s.spare
  pub few : length s.asked < 1000000

-- a vault that goes on from nothing, and a room that no pass has taken
pub record StartsIdle (room : RoomState) (w : World) : Type 0 where
  pub ready : StartsAnew w
  pub idle : IsIdle 1024 room
  pub some : 1 ≤ room.pack
  pub most : room.pack ≤ 16

-- a small table in them
pub record HasTable (pack : ℕ) (flat : Flat) (w : World) : Type 0 where
  pub is : IsFlat pack flat w
  pub size : IsSized flat.schema flat.capacity
  pub small : IsSmall flat.schema flat.capacity

-- a table was changed, or its rows counted
pub record Changed (room left : RoomState) (flat next : Flat) (old new : World) : Type 0 where
  pub ready : StartsAnew new
  pub is : IsFlat room.pack next new
  pub schema : next.schema ≡ flat.schema
  pub capacity : next.capacity ≡ flat.capacity
  pub same : left ≡ record room { high = left.high }
  pub beside : KeepsOthers room.pack flat next old new

-- a table was made
pub record Made (room left : RoomState) (flat : Flat) (old new : World) : Type 0 where
  pub ready : StartsAnew new
  pub table : HasTable room.pack flat new
  pub same : left ≡ record room { high = left.high }
  pub beside : KeepsAll room.pack old new

-- rows were selected into a region of at most so many slots
pub record Found (most : ℕ) (room left : RoomState) (columns : Columns) (found : Flat)
    (new : World) : Type 0 where
  pub ready : StartsAnew new
  pub same : left ≡ record room { high = left.high }
  pub schema : found.schema ≡ columns
  pub size : FitsRegion room.pack found.schema found.capacity
  pub slots : found.capacity ≤ most
  pub written : IsWritten room.pack found new

-- a region may be emitted
pub record MayEmit (room : RoomState) (flat : Flat) (w : World) : Type 0 where
  pub ready : StartsAnew w
  pub written : IsWritten room.pack flat w
  pub size : FitsRegion room.pack flat.schema flat.capacity
  pub slots : flat.capacity ≤ 4096
  pub idle : IsIdle (width flat.schema) room
  pub some : 1 ≤ room.pack

-- and may be discarded, once it was
pub record Emitted (pack : ℕ) (flat : Flat) (new : World) : Type 0 where
  pub ready : StartsAnew new
  pub written : IsWritten pack flat new
