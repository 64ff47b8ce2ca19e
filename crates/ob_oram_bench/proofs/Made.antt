-- A fresh index is one that is measured.
use Rattle.std.proofs.Common.{◌≡◌, ◌≤◌, ◌+◌, ◌*◌, ◌^◌, ◌∙◌, ℕ, List, Some, Ok, arith, sym, ap, subst}
use Rattle.ob_base.specs.Schemas.{Columns, width, key_place}
use Rattle.ob_room.specs.RoomState.{RoomState}
use Rattle.ob_vault.specs.State.{World}
use Rattle.ob_vault.specs.Words.{StartsAnew}
use Rattle.ob_vault.proofs.WordLemmas.{anew_lasts}
use Rattle.ob_blocks.specs.Idle.{IsIdle}
use Rattle.ob_oram.specs.declared.index.Index.{Index}
use Rattle.ob_oram.specs.Creating.{CreatesIndex}
use Rattle.ob_base.specs.Indexes.{IsHeight}
use Rattle.ob_oram.specs.Indexes.{IsShaped}
use Rattle.ob_oram.specs.Keys.{IsIntKey}
use Rattle.ob_oram_bench.specs.Sessions.{AreColumns, IsSession}

first_place : (columns : Columns) (place : ℕ) → AreColumns columns → IsIntKey columns place → place ≡ 0
first_place columns place are is =
    let here : Some 0 ≡ Some place = sym (ap key_place are.is) ∙ is.primary in
    cc here

low_rows : (n h slots : ℕ) → n ≤ 65536 → slots ≤ 1024 → ((lower : ℕ) → n ≤ 2 ^ lower → h ≤ lower) → slots + 4 * (h + 1) + 1 ≤ 2048
low_rows n h slots few small least =
    let low : h ≤ 16 = least 16 (omega (arith, few)) in
    omega (arith, low, small)

module _ (columns : Columns) (capacity slots : ℕ) (draws : List ℕ) (room : RoomState) (index : Index) (old w : World)
    (few : capacity ≤ 65536) (small : slots ≤ 1024) (are : AreColumns columns) (narrow : width columns ≤ 265)
    (anew : StartsAnew old) (idle : IsIdle 265 room) (many : 2048 ≤ room.rows) (made : CreatesIndex columns capacity slots draws (Ok index) old w) where
  same : index.schema ≡ columns
  same = made.fresh.has_schema

  few_here : index.capacity ≤ 65536
  few_here = omega (arith, few, made.fresh.has_capacity)

  small_here : index.slots ≤ 1024
  small_here = omega (arith, small, made.fresh.has_slots)

  narrow_here : width index.schema ≤ room.width
  narrow_here =
      let wide : width index.schema ≡ width columns = ap width same in
      omega (arith, wide, narrow, idle.wide)

  ready_here : StartsAnew w
  ready_here =
      let height : IsHeight capacity index.height = subst (λ n. IsHeight n index.height) made.fresh.has_capacity made.index.stored.shaped.height in
      anew_lasts (made.regions index.height height).ran.ok.lasts anew

  session_higher : (n : ℕ) → IsSession (record room { high = n }) index w
  session_higher n =
      let here : AreColumns index.schema = subst AreColumns (sym same) are in
      let shaped : IsShaped index = made.index.stored.shaped in
      let fits = low_rows index.capacity index.height index.slots few_here small_here shaped.height.least in
      record {
        ready = ready_here;
        stands = made.index;
        columns = here;
        place = first_place index.schema index.key here shaped.key;
        idle = record { free = idle.free; shelf = idle.shelf; enough = idle.enough; wide = narrow_here };
        rows = omega (arith, fits, many);
      }

  pub session_made : (n : ℕ) (after : RoomState) → after ≡ record room { high = n } → IsSession after index w
  session_made n after is_after = subst (λ (r : RoomState). IsSession r index w) (sym is_after) (session_higher n)
