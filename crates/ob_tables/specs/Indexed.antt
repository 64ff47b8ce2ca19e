-- A statement on an index, among an engine's indexes.
use Rattle.std.specs.Prelude.{◌≡◌, ◌≤◌, ℕ, List, Option, Some, Result, OnErr, max, slice_get, slice_set, length, ⊤}
use Rattle.ob_base.specs.declared.access.Access.{Access}
use Rattle.ob_base.specs.declared.config.Public.{Public}
use Rattle.ob_base.specs.declared.emit.EmitErr.{EmitErr}
use Rattle.ob_base.specs.Events.{Event}
use Rattle.ob_base.specs.Schemas.{Columns}
use Rattle.ob_base.specs.declared.schema.Table.{Table}
use Rattle.ob_base.specs.Indexes.{rows_open}
use Rattle.ob_keyed.specs.declared.keyed.Keyed.{Keyed}
use Rattle.ob_keyed.specs.Asking.{IsKeyed}
use Rattle.ob_keyed.specs.Emitting.{EmitsFound}
use Rattle.ob_keyed.specs.Serving.{GoneBy, Overfills}
use Rattle.ob_mean.specs.Keyed.{keyed_name}
use Rattle.ob_oram.specs.declared.index.Index.{Index}
use Rattle.ob_path.specs.Access.{Got}
use Rattle.ob_emit.specs.Emitting.{AreColumns}
use Rattle.ob_mean.specs.Refusals.{listed}
use Rattle.ob_mean.specs.Step.{printed_places}
use Rattle.ob_row.specs.Rows.{Row}
use Rattle.ob_room.specs.RoomState.{RoomState}
use Rattle.ob_sql.specs.declared.stmt.SelectRows.{SelectRows}
use Rattle.ob_sql.specs.declared.stmt.Stmt.{Stmt}
use Rattle.ob_sql.specs.declared.stmt.Stmt.TheVariants.{SelectRows as RowsStmt}
use Rattle.ob_vault.specs.State.{World}
use Rattle.ob_tables.specs.Engines.{IsIndexAt}

-- the index at this place is that of the table which a statement reads or changes by a key
pub record IsAccessed (stmt : Stmt) (k : ℕ) (tables : List Table) (indexes : List Index) : Type 0 where
  pub name : List ℕ
  pub keyed : keyed_name stmt ≡ Some name
  pub place : ℕ
  pub is : IsIndexAt name place k tables indexes

-- it was accessed, and the others stay; as many rows were open as an access has
pub record IsDone (stmt : Stmt) (k draw : ℕ) (keyed : Keyed) (indexes left : List Index)
    (old_room new_room : RoomState) (old new : World) : Type 0 where
  pub before : Index
  pub after : Index
  pub get : slice_get indexes k ≡ Some before
  pub set : left ≡ slice_set indexes k after
  pub room : new_room ≡ record old_room { high = max old_room.high (rows_open before.height before.slots) }
  pub gone : GoneBy stmt before after draw keyed old new

-- its access of one of these read more rows than fit on the path of the leaf that is seen and in the stash
pub record FillsStash (draw : ℕ) (p : Public) (m : ℕ) (stmt : Stmt) (indexes : List Index)
    (seen : Option ℕ) (asked : List Access) (new : World) : Type 0 where
  pub place : ℕ
  pub index : Index
  pub get : slice_get indexes place ≡ Some index
  pub on : IsKeyed p m stmt index
  pub leaf : ℕ
  pub shown : seen ≡ Some leaf
  pub old : World
  pub begun : old.store.asked ≡ asked
  pub over : Overfills stmt index draw leaf old new

-- the columns that a SELECT prints are some of these
pub record PrintsColumns (q : SelectRows) (columns : Columns) : Type 0 where
  pub few : length (listed q) ≤ 32
  pub wide : length columns ≤ 32
  pub are : AreColumns columns (printed_places q columns)

abbrev pub MayEmitGot : Stmt → Columns → Type 0
MayEmitGot (RowsStmt q) columns = PrintsColumns q columns
MayEmitGot _ columns = ⊤

-- nothing was emitted, and no emitter failed
pub record EmitsNothing {E T : Type 0} (result : Result T EmitErr) (out_old out_new : E) : Type 0 where
  pub same : out_new ≡ out_old
  pub never : OnErr result ⊥

-- what a statement emits whose access answers this
abbrev pub EmitsGot : {E T : Type 0} → (grew cut : E → E → List Event → Type 0) → (faults : E → ℕ) → Stmt → Columns → Got Row → Result T EmitErr → (out_old out_new : E) → Type 0
EmitsGot grew cut faults (RowsStmt q) columns got result out_old out_new = EmitsFound grew cut faults columns (printed_places q columns) got result out_old out_new
EmitsGot grew cut faults _ columns got result out_old out_new = EmitsNothing result out_old out_new
