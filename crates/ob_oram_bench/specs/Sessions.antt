-- The indexes that are measured.
use Rattle.std.specs.Prelude.{◌≡◌, ◌≤◌, ℕ, true, false, [], ◌∷◌, codes}
use Rattle.ob_base.specs.declared.schema.Kind.TheVariants as Kinds
use Rattle.ob_base.specs.Schemas.{Columns, width}
use Rattle.ob_room.specs.RoomState.{RoomState}
use Rattle.ob_vault.specs.State.{World}
use Rattle.ob_vault.specs.Words.{StartsAnew}
use Rattle.ob_blocks.specs.Idle.{IsIdle}
use Rattle.ob_oram.specs.declared.index.Index.{Index}
use Rattle.ob_base.specs.Indexes.{rows_open}
use Rattle.ob_oram.specs.Indexes.{IsIndex}

-- a key, and a text of at most n bytes
abbrev pub key_and_text : ℕ → Columns
key_and_text n = record { table = codes "t"; name = codes "id"; kind = Kinds.Int; key = true }
    ∷ record { table = codes "t"; name = codes "s"; kind = Kinds.Varchar n; key = false } ∷ []

-- such columns, for texts of 7 bytes at least
pub record AreColumns (columns : Columns) : Type 0 where
  pub most : ℕ
  pub least : 7 ≤ most
  pub byte : most ≤ 255
  pub is : columns ≡ key_and_text most

-- an index of these columns in its vault and store, and a room for its accesses
pub record IsSession (room : RoomState) (index : Index) (w : World) : Type 0 where
  pub ready : StartsAnew w
  pub stands : IsIndex index w
  pub columns : AreColumns index.schema
  pub place : index.key ≡ 0
  pub idle : IsIdle (width index.schema) room
  pub rows : rows_open index.height index.slots ≤ room.rows
