-- What a pass may ask once room was made for it, and what it leaves.
use Rattle.std.proofs.Common.{◌≡◌, ◌≤◌, ℕ, List, Result, refl, sym, ◌∙◌, ap, subst, arith}
use Rattle.ob_base.specs.declared.access.Access.{Access}
use Rattle.ob_base.specs.Schemas.{Columns, width}
use Rattle.ob_store.specs.State.{StoreState}
use Rattle.ob_store.specs.Calls.{ChangesNothing}
use Rattle.ob_room.specs.RoomState.{RoomState}
use Rattle.ob_vault.specs.State.{VaultState, World}
use Rattle.ob_vault.specs.Calls.{Lasts, none, one, two}
use Rattle.ob_vault.specs.Words.{MayStart, StartsAnew}
use Rattle.ob_vault.proofs.WorldSteps.{world}
use Rattle.ob_vault.proofs.WordLemmas.{ready_rests, anew_lasts, anew_rests, anew_starts}
use Rattle.ob_blocks.specs.Idle.{IsIdle}
use Rattle.ob_flat.specs.declared.flat.Flat.{Flat}
use Rattle.ob_flat.specs.Creates.{table_of}
use Rattle.ob_flat.specs.Flats.{FitsRegion, IsSized, IsFlat, IsWritten}
use Rattle.ob_flat.specs.declared.fault.OpErr.{OpErr}
use Rattle.ob_flat.specs.Words.{HasSpare, PassRan, moved}
use Rattle.ob_flat.proofs.Resting.{flat_rests}
use Rattle.ob_flat.proofs.Tables.{fits_sized, written_flat}
use Rattle.ob_flat.proofs.WordLemmas.{ran_lasts}
use Rattle.ob_pass_tests.specs.Tables.{Changed, Emitted, Found, HasRoom, HasTable, StartsIdle, IsSmall, KeepsOthers, Made, MayEmit}
use Rattle.ob_pass_tests.proofs.Beside.{beside_made, flat_made, flat_read, stays_beside}

-- rooms that differ in how many rows were out at once
module _ (room left : RoomState) (h : ℕ) (same : left ≡ record room { high = h }) where
  pub high_of : left ≡ record room { high = left.high }
  high_of = same ∙ ap (λ (k : ℕ). record room { high = k }) (sym (ap (λ (r : RoomState). r.high) same))

  pub pack_of : left.pack ≡ room.pack
  pack_of = ap (λ (r : RoomState). r.pack) same

  pub rests_on : (old new : World) → StartsIdle room old → StartsAnew new → StartsIdle left new
  rests_on old new rest ready = subst (λ (r : RoomState). StartsIdle r new) (sym same) (record {
    ready = ready;
    idle = record { free = rest.idle.free; shelf = rest.idle.shelf; enough = rest.idle.enough; wide = rest.idle.wide };
    some = rest.some;
    most = rest.most;
  })

pub idle_wide : (n : ℕ) (room : RoomState) → n ≤ 1024 → IsIdle 1024 room → IsIdle n room
idle_wide n room few idle = record { free = idle.free; shelf = idle.shelf; enough = idle.enough; wide = omega (arith, few, idle.wide) }

pub idle_groups : {room : RoomState} → IsIdle 1024 room → 768 ≤ room.width
idle_groups idle = omega (arith, idle.wide)

pub table_idle : (room : RoomState) (flat : Flat) (w : World) → StartsIdle room w → HasTable room.pack flat w → IsIdle (width flat.schema) room
table_idle room flat w rest table = idle_wide (width flat.schema) room table.size.wide rest.idle

-- a table of the same columns and slots
pub table_on : (pack : ℕ) (flat next : Flat) (old new : World) → HasTable pack flat old → next.schema ≡ flat.schema → next.capacity ≡ flat.capacity → IsFlat pack next new → HasTable pack next new
table_on pack flat next old new table schema capacity is = record {
  is = is;
  size = subst (λ (c : Columns). IsSized c next.capacity) (sym schema) (subst (λ (n : ℕ). IsSized flat.schema n) (sym capacity) table.size);
  small = subst (λ (c : Columns). IsSmall c next.capacity) (sym schema) (subst (λ (n : ℕ). IsSmall flat.schema n) (sym capacity) table.small);
}

-- one change after the other
pub changed_none : (room : RoomState) (flat : Flat) (w : World) → StartsAnew w → IsFlat room.pack flat w → Changed room room flat flat w w
changed_none room flat w ready is = record {
  ready = ready;
  is = is;
  schema = refl;
  capacity = refl;
  same = refl;
  beside = λ other there apart. (there, apart);
}

module _ {room left : RoomState} {flat next : Flat} {old new : World} (did : Changed room left flat next old new) where
  pub changed_rest : StartsIdle room old → StartsIdle left new
  changed_rest rest = rests_on room left left.high did.same old new rest did.ready

  pub changed_table : HasTable room.pack flat old → HasTable left.pack next new
  changed_table table = subst (λ (n : ℕ). HasTable n next new) (sym (pack_of room left left.high did.same)) (table_on room.pack flat next old new table did.schema did.capacity did.is)

module _ {room between left : RoomState} {flat changed next : Flat} {old mid new : World} (first : Changed room between flat changed old mid) (second : Changed between left changed next mid new) where
  pub changed_on : Changed room left flat next old new
  changed_on =
      let pack = pack_of room between between.high first.same in
      let beside : KeepsOthers room.pack changed next mid new = subst (λ (n : ℕ). KeepsOthers n changed next mid new) pack second.beside in
      record {
        ready = second.ready;
        is = subst (λ (n : ℕ). IsFlat n next new) pack second.is;
        schema = second.schema ∙ first.schema;
        capacity = second.capacity ∙ first.capacity;
        same = second.same ∙ ap (λ (r : RoomState). record r { high = left.high }) first.same;
        beside = λ other is apart. let so_far = first.beside other is apart in beside other so_far.0 so_far.1;
      }

-- one table after the other
module _ {room left : RoomState} {flat : Flat} {old new : World} (did : Made room left flat old new) where
  pub made_rests : StartsIdle room old → StartsIdle left new
  made_rests rest = rests_on room left left.high did.same old new rest did.ready

  pub made_has : HasTable left.pack flat new
  made_has = subst (λ (n : ℕ). HasTable n flat new) (sym (pack_of room left left.high did.same)) did.table

  pub made_beside : (other : Flat) → HasTable room.pack other old → HasTable left.pack other new
  made_beside other there =
      subst (λ (n : ℕ). HasTable n other new) (sym (pack_of room left left.high did.same))
      (record { is = did.beside other there.is; size = there.size; small = there.small })

pub written_rests : (v : VaultState) (s t : StoreState) → ChangesNothing s t → (pack : ℕ) (flat : Flat) → IsWritten pack flat (world v s) → IsWritten pack flat (world v t)
written_rests v s t rests pack flat is = record {
  order = is.order;
  lives = record { live = is.lives.live };
  written = λ p below. record { number = (is.written p below).number };
}

-- whatever an emission answers once room was made
pub emitted_on : (v : VaultState) (s t : StoreState) → ChangesNothing s t → (pack : ℕ) (flat : Flat) (x : List Access) (b : World) (answer : Result ℕ OpErr) → StartsAnew (world v s) → PassRan x none answer (world v t) b → IsWritten pack flat b → Emitted pack flat b
emitted_on v s t rests pack flat x b answer ready ran is = record { ready = anew_lasts (ran_lasts answer ran) (anew_rests v s t rests ready); written = is }

-- room was made for a pass
module _ (v : VaultState) (s t : StoreState) (rests : ChangesNothing s t) (made : HasRoom t) where
  pub may_read : (n : ℕ) → StartsAnew (world v s) → n ≤ 10000 → HasSpare n (world v t)
  may_read n ready few = record { ready = ready_rests v s t rests ready.ready; spare = omega (arith, made.spare, few) }

  pub may_start : (n : ℕ) → StartsAnew (world v s) → n ≤ 10000 → MayStart n (world v t)
  may_start n ready few = anew_starts (anew_rests v s t rests ready) (omega (arith, made.spare, few)) (omega (arith, made.few))

-- and the pass went well
module _ (v : VaultState) (s t : StoreState) (rests : ChangesNothing s t) (room left : RoomState) (h : ℕ) (same : left ≡ record room { high = h }) (b : World) (rest : StartsIdle room (world v s)) where
  module _ (flat : Flat) where
    pub rewritten : (next : Flat) → Lasts (two flat.region v.next) (world v t) b → next ≡ moved flat v.next → IsFlat room.pack next b → Changed room left flat next (world v s) b
    rewritten next lasts moves is = record {
      ready = anew_lasts lasts (anew_rests v s t rests rest.ready);
      is = is;
      schema = ap (λ (f : Flat). f.schema) moves;
      capacity = ap (λ (f : Flat). f.capacity) moves;
      same = high_of room left h same;
      beside = λ other there apart.
          stays_beside room.pack other (world v t) b (ready_rests v s t rests rest.ready.ready) (flat_rests v s t rests room.pack other there) flat next apart lasts moves;
    }

    pub counted : Lasts none (world v t) b → IsFlat room.pack flat b → Changed room left flat flat (world v s) b
    counted lasts is = record {
      ready = anew_lasts lasts (anew_rests v s t rests rest.ready);
      is = is;
      schema = refl;
      capacity = refl;
      same = high_of room left h same;
      beside = λ other there apart.
          (flat_read room.pack other (world v t) b (ready_rests v s t rests rest.ready.ready) (flat_rests v s t rests room.pack other there) lasts, apart);
    }

  -- a region was made
  module _ (columns : Columns) (slots : ℕ) (fresh : Flat) (lasts : Lasts (one v.next) (world v t) b) (value : fresh ≡ table_of columns slots v.next) where
    pub made_rest : StartsIdle left b
    made_rest = rests_on room left h same (world v s) b rest (anew_lasts lasts (anew_rests v s t rests rest.ready))

    pub made_table : IsSized columns slots → IsSmall columns slots → IsFlat room.pack fresh b → HasTable left.pack fresh b
    made_table size small is =
        subst (λ (n : ℕ). HasTable n fresh b) (sym (pack_of room left h same))
        (subst (λ (f : Flat). IsFlat room.pack f b → HasTable room.pack f b) (sym value) (λ there. record { is = there; size = size; small = small }) is)

    pub made_found : (most : ℕ) → FitsRegion room.pack columns slots → slots ≤ most → IsWritten room.pack fresh b → Found most room left columns fresh b
    made_found most size few is =
        let schema : fresh.schema ≡ columns = ap (λ (f : Flat). f.schema) value in
        let capacity : fresh.capacity ≡ slots = ap (λ (f : Flat). f.capacity) value in
        record {
          ready = anew_lasts lasts (anew_rests v s t rests rest.ready);
          same = high_of room left h same;
          schema = schema;
          size = subst (λ (f : Flat). FitsRegion room.pack f.schema f.capacity) (sym value) size;
          slots = omega (arith, capacity, few);
          written = is;
        }

    -- and steps were taken
    pub made_changed : (last : RoomState) (next : Flat) (c : World) → IsSized columns slots → IsSmall columns slots → IsFlat room.pack fresh b → Changed left last fresh next b c → Made room last next (world v s) c
    made_changed last next c size small is did =
        let pack = pack_of room left h same in
        let table = changed_table did (made_table size small is) in
        record {
          ready = did.ready;
          table = subst (λ (n : ℕ). HasTable n next c) (pack_of left last last.high did.same ∙ pack) table;
          same = did.same ∙ ap (λ (r : RoomState). record r { high = last.high }) same;
          beside = λ other there.
              let ready = ready_rests v s t rests rest.ready.ready in
              let before = flat_rests v s t rests room.pack other there in
              let here = flat_made room.pack other (world v t) b ready before lasts in
              let beside : KeepsOthers room.pack fresh next b c = subst (λ (n : ℕ). KeepsOthers n fresh next b c) pack did.beside in
              (beside other here (λ is. beside_made room.pack other (world v t) ready before (is ∙ ap (λ (f : Flat). f.region) value))).0;
        }

-- what was found may be emitted, and so may a table
pub found_emits : (most : ℕ) (room left : RoomState) (columns : Columns) (found : Flat) (old new : World) → StartsIdle room old → width columns ≤ 1024 → most ≤ 4096 → Found most room left columns found new → MayEmit left found new
found_emits most room left columns found old new rest narrow few is =
    subst (λ (r : RoomState). MayEmit r found new) (sym is.same) (record {
      ready = is.ready;
      written = is.written;
      size = is.size;
      slots = omega (arith, is.slots, few);
      idle = record {
        free = rest.idle.free;
        shelf = rest.idle.shelf;
        enough = rest.idle.enough;
        wide = omega (arith, ap width is.schema, narrow, rest.idle.wide);
      };
      some = rest.some;
    })

pub table_emits : (room : RoomState) (flat : Flat) (w : World) → StartsIdle room w → HasTable room.pack flat w → MayEmit room flat w
table_emits room flat w rest table = record {
  ready = rest.ready;
  written = written_flat room.pack flat w table.is;
  size = fits_sized room.pack flat.schema flat.capacity rest.some table.size;
  slots = omega (arith, table.small.slots);
  idle = table_idle room flat w rest table;
  some = rest.some;
}
