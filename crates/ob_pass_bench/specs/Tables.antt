-- The tables that are measured.
use Rattle.std.specs.Prelude.{◌≡◌, ◌≤◌, ℕ, ℤ, [], ◌∷◌, FitsSigned, length}
use Rattle.std.specs.Int.{w64}
use Rattle.ob_base.specs.Schemas.{Columns, width}
use Rattle.ob_room.specs.RoomState.{RoomState}
use Rattle.ob_vault.specs.State.{World}
use Rattle.ob_vault.specs.Words.{StartsAnew}
use Rattle.ob_blocks.specs.Idle.{IsIdle}
use Rattle.ob_flat.specs.declared.flat.Flat.{Flat}
use Rattle.ob_flat.specs.Flats.{IsSized, IsFlat}
use Rattle.ob_row.specs.declared.cell.Cell.TheVariants.{Int}
use Rattle.ob_mutate.specs.Changing.{FitsSets}

-- so many columns, whose rows have so many bytes, and of which the second has numbers
pub record HasColumns (n bytes : ℕ) (columns : Columns) : Type 0 where
  pub count : length columns ≡ n
  pub wide : width columns ≡ bytes
  pub number : (y : ℤ) → FitsSigned w64 y → FitsSets columns ((1, Int y) ∷ [])

-- the columns of a table that is measured
pub record AreColumns (columns : Columns) : Type 0 where
  pub least : 2 ≤ length columns
  pub most : length columns ≤ 6
  pub wide : width columns ≤ 1024
  pub number : (y : ℤ) → FitsSigned w64 y → FitsSets columns ((1, Int y) ∷ [])

-- rows of it may be opened
pub record IsOpen (columns : Columns) (room : RoomState) : Type 0 where
  pub idle : IsIdle (width columns) room
  pub some : 1 ≤ room.pack
  pub broad : room.width ≡ 1024

-- a pass may run over the table
pub record MayRun (room : RoomState) (flat : Flat) (w : World) : Type 0 where
  pub ready : StartsAnew w
  pub table : IsFlat room.pack flat w
  pub size : IsSized flat.schema flat.capacity
  pub columns : AreColumns flat.schema
  pub place : IsOpen flat.schema room
