-- A room of which more rows were out.
use Rattle.std.proofs.Common.{◌≡◌, ℕ, sym, subst}
use Rattle.ob_room.specs.RoomState.{RoomState}
use Rattle.ob_vault.specs.State.{World}
use Rattle.ob_flat.specs.declared.flat.Flat.{Flat}
use Rattle.ob_base.specs.Schemas.{Columns}
use Rattle.ob_vault.specs.Words.{StartsAnew}
use Rattle.ob_flat.specs.Flats.{IsSized, IsFlat}
use Rattle.ob_pass_bench.specs.Tables.{AreColumns, IsOpen, MayRun}

runs_higher : (room : RoomState) (n : ℕ) (flat : Flat) (w : World) → MayRun room flat w → MayRun (record room { high = n }) flat w
runs_higher room n flat w is = record {
  ready = is.ready;
  table = is.table;
  size = is.size;
  columns = is.columns;
  place = record {
    idle = record { free = is.place.idle.free; shelf = is.place.idle.shelf; enough = is.place.idle.enough; wide = is.place.idle.wide };
    some = is.place.some;
    broad = is.place.broad;
  };
}

pub runs_after : (room : RoomState) (n : ℕ) (other : RoomState) (flat : Flat) (w : World) → other ≡ record room { high = n } → MayRun room flat w → MayRun other flat w
runs_after room n other flat w same is = subst (λ (r : RoomState). MayRun r flat w) (sym same) (runs_higher room n flat w is)

-- over a table that was made through the rows of a block
pub run_over : (room : RoomState) (n capacity region : ℕ) (schema columns : Columns) (w : World) → schema ≡ columns → n ≡ room.pack → StartsAnew w → IsFlat n (record { schema = schema; capacity = capacity; region = region }) w
    → IsSized columns capacity → AreColumns columns → IsOpen columns room → MayRun room (record { schema = schema; capacity = capacity; region = region }) w
run_over room n capacity region schema columns w same pack ready table size are place =
    let flat : ℕ → Flat = λ q. record { schema = schema; capacity = capacity; region = q } in
    record {
      ready = ready;
      table = subst (λ (k : ℕ). IsFlat k (flat region) w) pack table;
      size = subst (λ (c : Columns). IsSized c capacity) (sym same) size;
      columns = subst AreColumns (sym same) are;
      place = subst (λ (c : Columns). IsOpen c room) (sym same) place;
    }
