-- A SELECT of rows from its source, a table or a join, until the number of its rows is emitted.
use Rattle.std.specs.Prelude.{◌≡◌, ◌⊎◌, ◌≤◌, ◌<◌, ◌-◌, ◌^◌, ⊤, ℕ, List, [], ◌∷◌, ◌++◌, length, Bool, IsTrue, IsSome, None, Some, Result, IfOk, IfErr, nat_le}
use Rattle.std.specs.List.{list_all}
use Rattle.ob_base.specs.declared.access.Access.{Access}
use Rattle.ob_base.specs.declared.config.Public.{Public}
use Rattle.ob_base.specs.declared.seen.Seen.{Seen}
use Rattle.ob_base.specs.declared.skeleton.Skeleton.{Skeleton}
use Rattle.ob_base.specs.Events.{Event, Close, Leads, IsEmitted}
use Rattle.ob_base.specs.Stored.{headings_of}
use Rattle.ob_oram.specs.declared.index.Index.{Index}
use Rattle.ob_room.specs.RoomState.{RoomState}
use Rattle.ob_row.specs.Slots.{Slots}
use Rattle.ob_script.specs.Script.{whole_script}
use Rattle.ob_vault.specs.State.{World}
use Rattle.ob_store.specs.State.{FalseRead}
use Rattle.ob_vault.specs.Tied.{ReadsIn, IsUnfit}
use Rattle.ob_vault.specs.Calls.{Went}
use Rattle.ob_flat.specs.declared.fault.OpErr.{OpErr}
use Rattle.ob_flat.specs.declared.fault.OpErr.TheVariants.{Failed, Sink, NoMemory}
use Rattle.ob_flat.specs.Passes.{PassCut, SinkCause, is_of_access}
use Rattle.ob_emit.specs.Emitting.{header}
use Rattle.ob_sql.specs.declared.stmt.SelectRows.{SelectRows}
use Rattle.ob_sql.specs.declared.stmt.Stmt.TheVariants.{SelectRows as RowsStmt}
use Rattle.ob_sql.specs.Skeleton.{skeleton}
use Rattle.ob_mean.specs.Lawful.{counted_slots}
use Rattle.ob_mean.specs.Replay.{count_end, walk_end, done_of, held_if}
use Rattle.ob_mean.specs.Step.{printed_places, select_columns, select_condition}
use Rattle.ob_mean.specs.Verdict.{Tables, source_slots}
use Rattle.ob_verdict.specs.Laws.{AreInPlace}
use Rattle.ob_select.specs.declared.selecting.Selected.{Selected}
use Rattle.ob_select.specs.declared.selecting.Selected.TheVariants.{Rows, Refused}
use Rattle.ob_verdict.specs.declared.outcome.Outcome.{Outcome}
use Rattle.ob_verdict.specs.declared.outcome.Outcome.TheVariants.{Rows as RowsOut, Refused as RefusedOut}
use Rattle.ob_select.specs.Halting.{EmitsUntil}
use Rattle.ob_select.specs.Memory.{AtMake, BeforeResult, HasCounted, HasHalted, is_reading}
use Rattle.ob_select.specs.Selecting.{Selection, SealsRows, MayHold, EndsSelected, from, shown_rows, selection_answer, answer_events, selection_seen}
use Rattle.ob_tables.specs.Telling.{AreHeld}

-- what is selected, as if the source were one region
abbrev pub stated : Public → SelectRows → (region ending : ℕ) → Selection
stated p select region ending = record {
  public = p;
  flat = record {
    schema = select_columns select (headings_of p.tables);
    capacity = counted_slots p select.source;
    region = region;
  };
  condition = select_condition select (headings_of p.tables);
  cols = printed_places select (select_columns select (headings_of p.tables));
  ending = ending;
}

abbrev pub selection : Public → SelectRows → Selection
selection p select = stated p select 0 0

-- all that is asked, by what is seen
abbrev pub rows_skeleton : SelectRows → Skeleton
rows_skeleton select = skeleton (RowsStmt select)

abbrev pub rows_script : Public → SelectRows → Seen → List Access
rows_script p select seen = whole_script p (rows_skeleton select) seen

-- ---- what is known of the tables
-- the tables in place, each block of which was read as it was written
pub record SourceToEnd (p : Public) (old new : World) : Type 0 where
  pub tells : IsTrue old.store.tells
  pub tables : Tables
  pub indexes : List Index
  pub held : AreHeld p.pack indexes p.tables tables old
  pub in_place : AreInPlace p.stash tables
  pub nolie : new.store.lie ≡ None

-- and those that were read so until the SELECT halted, maybe at a changed block
pub record SourceToHalt (p : Public) (old new : World) : Type 0 where
  pub tells : IsTrue old.store.tells
  pub tables : Tables
  pub indexes : List Index
  pub held : AreHeld p.pack indexes p.tables tables old
  pub in_place : AreInPlace p.stash tables
  pub nolie : old.store.lie ≡ None
  pub unfit : IsUnfit new

-- the slots over which it runs
abbrev pub slots_of : Public → SelectRows → Tables → Slots
slots_of p select tables = source_slots p select.source tables

-- ---- what is held of it
-- what is held was reached within n accesses
pub record ReachesRows (p : Public) (select : SelectRows) (seen : Seen) (n : ℕ) : Type 0 where
  pub count : IsSome seen.k → count_end p (rows_skeleton select) ≤ n
  pub walk : IsSome seen.then → walk_end p (rows_skeleton select) seen ≤ n

-- what is held after n accesses, of which the last was carried out or not, is what is seen of these slots
pub record HoldsRows (p : Public) (select : SelectRows) (slots : Slots) (failed : Bool) (n : ℕ)
    (seen : Seen) : Type 0 where
  pub k : seen.k ≡ held_if (nat_le (count_end p (rows_skeleton select)) (done_of failed n))
      (selection_seen (selection p select) slots).k
  pub plan : seen.plan ≡ held_if (nat_le (count_end p (rows_skeleton select)) (done_of failed n))
      (selection_seen (selection p select) slots).plan
  pub second : seen.then
      ≡ held_if (nat_le (walk_end p (rows_skeleton select) (selection_seen (selection p select) slots))
      (done_of failed n)) (selection_seen (selection p select) slots).then

-- ---- what it does
-- want of memory comes before the first access, at a make, just before that of a result that isn't padded, or once it has
-- counted, nothing is left to be written, and the emitter gave up, which is this
pub record LacksRowMemory (p : Public) (select : SelectRows) (seen : Seen) (old new : World)
    (Halts : Type 0) : Type 0 where
  pub done : List Access
  pub rest : List Access
  pub split : done ++ rest ≡ rows_script p select seen
  pub asked : new.store.asked ≡ old.store.asked ++ done
  pub place : AtMake done ⊎ BeforeResult p seen rest
      ⊎ (HasCounted p seen × IsTrue (list_all is_reading rest) × Halts)

-- the first changed block that is read is one that the statement reads over the tables before
abbrev pub ReadsMeant : Public → SelectRows → (old new : World) → Type 0
ReadsMeant p select old new =
    (s : SourceToEnd p old old) (lie : FalseRead) → new.store.lie ≡ Some lie
    → ReadsIn lie (old.store.asked ++ rows_script p select (selection_seen (selection p select) (slots_of p select s.tables)))

-- no region is left except those that there were
pub record LeavesNone (old new : World) : Type 0 where
  pub gone : (r : ℕ) → old.vault.next ≤ r → new.vault.revs.live r ≡ None

-- rows were emitted, or nothing of what was refused
abbrev pub EmitsRows : {E : Type 0} → (grew : E → E → List Event → Type 0) → Public → SelectRows → Selected → (old new : World) → (out_old out_new : E) → Type 0
EmitsRows grew p select (Rows k) old new out_old out_new =
    IsEmitted grew (header (selection p select).flat.schema (selection p select).cols)
    (λ (s : SourceToEnd p old new). shown_rows (selection p select) (slots_of p select s.tables)) 0 k out_old out_new
EmitsRows grew p select (Refused r) old new out_old out_new = out_new ≡ out_old

-- it came to its end: its rows were emitted, or it was refused for them
pub record EndsRows {E : Type 0} (grew : E → E → List Event → Type 0) (p : Public)
    (select : SelectRows) (answer : Selected) (seen : Seen) (old new : World)
    (out_old out_new : E) : Type 0 where
  pub ran : Went (rows_script p select seen) (from old.vault.next) old new
  pub leaves : LeavesNone old new
  pub seals : SealsRows p.pack old new
  pub holds : MayHold (selection p select) seen.k seen.plan seen.then
  pub leaf : seen.leaf ≡ None
  pub ended : EndsSelected (selection p select) answer seen
  pub emitted : EmitsRows grew p select answer old new out_old out_new
  pub told : (s : SourceToEnd p old new)
      → (answer ≡ selection_answer (selection p select) (slots_of p select s.tables))
      × (seen ≡ selection_seen (selection p select) (slots_of p select s.tables))
  pub begun : ReadsMeant p select old new

-- an access failed, or gave a changed block, or the emitter failed, or memory was wanted
pub record HaltsRows {E : Type 0} (grew cut : E → E → List Event → Type 0) (p : Public)
    (select : SelectRows) (error : OpErr) (seen : Seen) (old new : World)
    (out_old out_new : E) : Type 0 where
  pub ran : PassCut error (rows_script p select seen) (from old.vault.next) old new
  pub leaves : LeavesNone old new
  pub seals : SealsRows p.pack old new
  pub holds : MayHold (selection p select) seen.k seen.plan seen.then
  pub leaf : seen.leaf ≡ None
  pub reached : ReachesRows p select seen (length new.store.asked - length old.store.asked)
  pub memory : error ≡ NoMemory
      → LacksRowMemory p select seen old new (HasHalted (Leads grew cut) out_old out_new)
  pub halted : EmitsUntil grew cut error (header (selection p select).flat.schema (selection p select).cols)
      (λ (s : SourceToHalt p old new). answer_events (selection p select) (slots_of p select s.tables))
      out_old out_new
  pub honest : SourceToEnd p old new → (error ≡ Failed) ⊎ (error ≡ Sink) ⊎ (error ≡ NoMemory)
  pub held : (s : SourceToHalt p old new) → HoldsRows p select (slots_of p select s.tables)
      (is_of_access error) (length new.store.asked - length old.store.asked) seen
  pub begun : ReadsMeant p select old new

-- the rows of a source were selected and emitted, all except the number of them
pub record SelectsRows {E : Type 0} (grew cut : E → E → List Event → Type 0) (faults : E → ℕ)
    (p : Public) (select : SelectRows) (result : Result Selected OpErr) (seen : Seen)
    (old new : World) (out_old out_new : E) : Type 0 where
  pub ended : IfOk result (λ answer. EndsRows grew p select answer seen old new out_old out_new)
  pub halted : IfErr result (λ e. HaltsRows grew cut p select e seen old new out_old out_new)
  pub sink : SinkCause result (faults out_old) (faults out_new)

-- all rows of the room are free again, and one at least was open where anything was asked
pub record UsesRoomFor (old_room new_room : RoomState) (old new : World) : Type 0 where
  pub same : new_room ≡ record old_room { high = new_room.high }
  pub kept : old_room.high ≤ new_room.high
  pub some : (new.store.asked ≡ old.store.asked → ⊥) → 1 ≤ new_room.high

-- ---- the end of the answer
-- the number of its rows; nothing where it is refused
abbrev pub closing : Selected → List Event
closing (Rows k) = Close k ∷ []
closing (Refused r) = []

-- it is a number of 32 bits
abbrev pub IsFew : Selected → Type 0
IsFew (Rows k) = k < 2 ^ 32
IsFew (Refused r) = ⊤

abbrev pub selected_outcome : Selected → Outcome
selected_outcome (Rows k) = RowsOut k
selected_outcome (Refused r) = RefusedOut r
