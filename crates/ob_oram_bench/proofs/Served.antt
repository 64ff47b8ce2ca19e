-- An index that was accessed is one that is measured, still.
use Rattle.std.proofs.Common.{◌≡◌, ◌≤◌, ◌∙◌, ℕ, List, sym, ap, subst}
use Rattle.ob_base.specs.Schemas.{Columns, width}
use Rattle.ob_base.specs.Indexes.{rows_open}
use Rattle.ob_room.specs.RoomState.{RoomState}
use Rattle.ob_vault.specs.State.{World}
use Rattle.ob_vault.specs.Words.{StartsAnew}
use Rattle.ob_oram.specs.declared.index.Index.{Index}
use Rattle.ob_oram.specs.Accessing.{HasLeaves}
use Rattle.ob_oram.specs.Indexes.{IsIndex}
use Rattle.ob_oram_bench.specs.Sessions.{AreColumns, IsSession}

pub goes_on : (list : List ℕ) (room after : RoomState) (h : ℕ) (index left : Index) (old new : World) → after ≡ record room { high = h } → HasLeaves list index left → IsIndex left new → StartsAnew new → IsSession room index old → IsSession after left new
goes_on list room after h index left old new high has stands ready is =
    let schema : left.schema ≡ index.schema = ap (λ (i : Index). i.schema) has.same in
    let height : left.height ≡ index.height = ap (λ (i : Index). i.height) has.same in
    let slots : left.slots ≡ index.slots = ap (λ (i : Index). i.slots) has.same in
    let key : left.key ≡ index.key = ap (λ (i : Index). i.key) has.same in
    subst (λ (r : RoomState). IsSession r left new) (sym high) (record {
      ready = ready;
      stands = stands;
      columns = subst AreColumns (sym schema) is.columns;
      place = key ∙ is.place;
      idle = record { free = is.idle.free; shelf = is.idle.shelf; enough = is.idle.enough; wide = subst (λ (cs : Columns). width cs ≤ room.width) (sym schema) is.idle.wide };
      rows = subst (λ (n : ℕ). rows_open n left.slots ≤ room.rows) (sym height) (subst (λ (n : ℕ). rows_open index.height n ≤ room.rows) (sym slots) is.rows);
    })
