-- The result of a selection by one plan: what is asked to make it, to read it back and to discard it, and what it holds.
use Rattle.std.specs.Prelude.{◌≡◌, ◌⊎◌, ◌<◌, ◌≤◌, ◌+◌, ◌-◌, ◌*◌, ◌^◌, ℕ, Bool, List, ◌++◌, map, length, IsTrue, false, IsSome, IfSome, Option, None, Some, Result, Ok, Err, OnOk, OnErr, IfOk, IfErr, MatchResult}
use Rattle.std.specs.Option.{option_map}
use Rattle.std.specs.List.{list_all}
use Rattle.ob_base.specs.declared.access.Access.{Access}
use Rattle.ob_base.specs.declared.config.Plan.{Plan}
use Rattle.ob_base.specs.declared.config.Plan.TheVariants.{Small, Large, Continuous, Hash}
use Rattle.ob_base.specs.declared.config.Planner.TheVariants.{Forced}
use Rattle.ob_base.specs.declared.refusal.Refusal.{Refusal}
use Rattle.ob_base.specs.declared.refusal.Refusal.TheVariants.{Overflow, PadPassed}
use Rattle.ob_base.specs.declared.shown.Shown.{Shown}
use Rattle.ob_base.specs.Events.{Event, Leads, IsEmitted, row_events}
use Rattle.ob_base.specs.declared.config.Public.{Public}
use Rattle.ob_base.specs.Plans.{choose, choose_padded, padded_rows}
use Rattle.ob_room.specs.RoomState.{RoomState}
use Rattle.ob_row.specs.Results.{result_slots, unplaced}
use Rattle.ob_row.specs.Totals.{printed}
use Rattle.ob_row.specs.Slots.{Slots, rows, is_consecutive}
use Rattle.ob_row.specs.Truth.{is_true}
use Rattle.ob_script.specs.Script.{extent_of, plan_part, result_part}
use Rattle.ob_script.specs.Parts.{count_part, emission_part}
use Rattle.ob_store.specs.Runs.{Began}
use Rattle.ob_vault.specs.State.{World}
use Rattle.ob_vault.specs.Numbers.{spent}
use Rattle.ob_vault.specs.Tied.{Ready, IsUnfit}
use Rattle.ob_vault.specs.Calls.{one}
use Rattle.ob_vault.specs.Words.{IsHonest, SealsAll}
use Rattle.ob_flat.specs.declared.fault.OpErr.{OpErr}
use Rattle.ob_flat.specs.declared.fault.OpErr.TheVariants.{Failed, Sink, NoMemory}
use Rattle.ob_flat.specs.declared.flat.Flat.{Flat}
use Rattle.ob_flat.specs.Flats.{IsSized, IsFlat, IsWritten, Represents}
use Rattle.ob_flat.specs.Passes.{SinkCause, is_of_access}
use Rattle.ob_flat.specs.Words.{PassRan, SealsTable, blocks_of}
use Rattle.ob_flat.specs.Emission.{SlotsToEnd, SlotsToHalt}
use Rattle.ob_small.specs.Keeping.{fitted}
use Rattle.ob_emit.specs.Emitting.{AreColumns, EndsAs, header, table_shown}
use Rattle.ob_hash.specs.declared.selecting.Placed.{Placed}
use Rattle.ob_hash.specs.declared.selecting.Placed.TheVariants.{Done}
use Rattle.ob_hash.specs.Answers.{flat_of, overflow_of}
use Rattle.ob_mean.specs.Verdict.{bucket_size, padded_refusal}
use Rattle.ob_mean.specs.Replay.{done_of}
use Rattle.ob_select.specs.declared.selecting.Selected.{Selected}
use Rattle.ob_select.specs.declared.selecting.Selected.TheVariants.{Rows, Refused}
use Rattle.ob_select.specs.Settings.{AreSettings, IsFree}
use Rattle.ob_select.specs.Halting.{EmitsUntil}
use Rattle.ob_select.specs.Memory.{HasHalted, is_reading, starts_with_make, ends_with_make}
use Rattle.ob_select.specs.Selecting.{Selection, SealsRows, region_of, places, selected_as, emitted_unless}

-- a selection, a plan for it, the number of its rows, that of the rows that its result takes, and to how many that is
-- padded, where it is
pub record Planned : Type 0 where
  pub selection : Selection
  pub plan : Plan
  pub k : ℕ
  pub taken : ℕ
  pub pad : Option ℕ

abbrev pub planned : Selection → Plan → ℕ → Planned
planned q plan k = record { selection = q; plan = plan; k = k; taken = k; pad = None }

abbrev pub padded : Selection → Plan → (taken pad k : ℕ) → Planned
padded q plan taken pad k =
    record { selection = q; plan = plan; k = k; taken = taken; pad = Some pad }

-- a padded result, by the plan for its rows
abbrev pub padded_to : Selection → (pad k : ℕ) → Planned
padded_to q pad k =
    let rows = padded_rows pad q.flat.capacity in
    padded q (choose_padded q.public.planner q.public.pack q.public.buffer q.flat.capacity rows) rows pad k

-- ---- its sizes, and its accesses where its region is g
abbrev pub slots_for : Planned → (plan : Plan) → ℕ
slots_for r Small = r.taken
slots_for r Large = r.selection.flat.capacity
slots_for r Continuous = r.taken
slots_for r Hash = (r.taken * r.selection.public.depth) * r.selection.public.pack

abbrev pub fresh_flat : Planned → (g : ℕ) → Flat
fresh_flat r g = record r.selection.flat { capacity = slots_for r r.plan; region = g }

abbrev pub make_part : Planned → (g : ℕ) → List Access
make_part r g = plan_part r.selection.public r.plan r.taken g (extent_of (region_of r.selection))

abbrev pub whole_part : Planned → (g : ℕ) → List Access
whole_part r g =
    result_part r.selection.public (Some r.plan) r.taken g (extent_of (region_of r.selection))

-- ---- what it holds
-- the first selected slot that finds no place
abbrev pub left_by : Planned → (plan : Plan) → Slots → Option ℕ
left_by r Small slots = None
left_by r Large slots = None
left_by r Continuous slots = None
left_by r Hash slots = unplaced r.k (bucket_size r.selection.public) (places r.selection slots)

abbrev pub left_out : Planned → Slots → Option ℕ
left_out r slots = left_by r r.plan slots

-- for these slots it is refused
abbrev pub refused_by : (pad : Option ℕ) → Planned → Slots → Option Refusal
refused_by None r slots = option_map Overflow (left_out r slots)
refused_by (Some pad) r slots = padded_refusal pad (places r.selection slots)

abbrev pub refused_for : Planned → Slots → Option Refusal
refused_for r slots = refused_by r.pad r slots

abbrev pub held_slots : Planned → Slots → Slots
held_slots r slots =
    result_slots r.plan r.k (bucket_size r.selection.public) (is_true r.selection.condition) slots

-- with the empty slots to which a Small result is padded, and without what is too much for it
abbrev pub stored_by : (pad : Option ℕ) → Plan → (taken : ℕ) → Slots → Slots
stored_by None plan taken slots = slots
stored_by (Some pad) Small taken slots = fitted taken slots
stored_by (Some pad) Large taken slots = slots
stored_by (Some pad) Continuous taken slots = slots
stored_by (Some pad) Hash taken slots = slots

abbrev pub stored_slots : Planned → Slots → Slots
stored_slots r slots = stored_by r.pad r.plan r.taken (held_slots r slots)

-- its rows as they are printed, all that is emitted, and the answer
abbrev pub held_shown : Planned → Slots → List (List Shown)
held_shown r slots = map (printed r.selection.cols) (rows (held_slots r slots))

abbrev pub head_of : Selection → List Event
head_of q = header q.flat.schema q.cols

abbrev pub held_events : Planned → Slots → List Event
held_events r slots =
    emitted_unless (refused_for r slots)
    (head_of r.selection ++ row_events (held_shown r slots))

abbrev pub held_answer : Planned → Slots → Selected
held_answer r slots = selected_as (refused_for r slots) r.k

-- so many rows are selected, and they stand side by side where the plan asks for it
pub record Suits (r : Planned) (slots : Slots) : Type 0 where
  pub count : r.k ≡ length (places r.selection slots)
  pub consecutive : r.plan ≡ Continuous → IsTrue (is_consecutive (places r.selection slots))

-- ---- what is known of the slots
pub record PlannedToEnd (r : Planned) (old new : World) : Type 0 where
  pub honest : IsHonest old new
  pub slots : Slots
  pub is : Represents r.selection.public.pack r.selection.flat slots old
  pub suits : Suits r slots

pub record PlannedToHalt (r : Planned) (old new : World) : Type 0 where
  pub tells : IsTrue old.store.tells
  pub slots : Slots
  pub is : Represents r.selection.public.pack r.selection.flat slots old
  pub suits : Suits r slots
  pub nolie : old.store.lie ≡ None
  pub unfit : IsUnfit new

-- ---- what is asked
pub record IsPlanned (r : Planned) (room : RoomState) (w : World) : Type 0 where
  pub settings : AreSettings r.selection.public
  pub free : IsFree r.selection.public room
  pub ready : Ready w
  pub few : spent w < 2 ^ 63 + 2 ^ 59
  pub flat : IsFlat r.selection.public.pack r.selection.flat w
  pub size : IsSized r.selection.flat.schema r.selection.flat.capacity
  pub columns : AreColumns r.selection.flat.schema r.selection.cols
  pub some : 1 ≤ r.taken
  pub most : r.taken ≤ r.selection.flat.capacity

-- ---- what is done
-- rows were open or none, and all are free again
pub record KeepsRoom (old new : RoomState) : Type 0 where
  pub same : new ≡ record old { high = new.high }
  pub kept : old.high ≤ new.high

-- want of memory came at a make, just before it where room was wanted for what follows, or where nothing was left but to
-- read and the emitter gave up: in these two cases that is so
pub record LacksMemoryOf (script : List Access) (old new : World)
    (Rooms Halts : Type 0) : Type 0 where
  pub done : List Access
  pub rest : List Access
  pub split : done ++ rest ≡ script
  pub asked : new.store.asked ≡ old.store.asked ++ done
  pub place : IsTrue (ends_with_make done) ⊎ (Rooms × IsTrue (starts_with_make rest))
      ⊎ (IsTrue (list_all is_reading rest) × Halts)

-- a result that has each row
abbrev pub placed_as : Result Flat OpErr → Result Placed OpErr
placed_as (Ok fresh) = Ok (Done fresh)
placed_as (Err e) = Err e

-- a result was made in the next region, or that is gone
pub record MakesResult (r : Planned) (result : Result Placed OpErr) (old new : World) : Type 0 where
  pub ran : PassRan (make_part r old.vault.next) (one old.vault.next) result old new
  pub some : IfErr result (λ e. IsTrue (is_of_access e)
      → length old.store.asked < length new.store.asked)
  pub never : result ≡ Err Sink → ⊥
  pub memory : result ≡ Err NoMemory → LacksMemoryOf (make_part r old.vault.next) old new ⊥ ⊥
  pub value : IfOk result (λ placed. flat_of placed ≡ fresh_flat r old.vault.next)
  pub left : IfOk result (λ placed. IsSome (overflow_of placed) → r.plan ≡ Hash)
  pub written : OnOk result (IsWritten r.selection.public.pack (fresh_flat r old.vault.next) new)
  pub gone : OnErr result (new.vault.revs.live old.vault.next ≡ None)
  pub seals : SealsTable r.selection.public.pack r.selection.flat.schema old.vault.next old new
  pub told : (s : PlannedToEnd r old new) → MatchResult result
      (λ placed. (overflow_of placed ≡ left_out r s.slots)
      × Represents r.selection.public.pack (fresh_flat r old.vault.next)
      (stored_slots r s.slots) new)
      (λ e. (e ≡ Failed) ⊎ (e ≡ NoMemory))

-- and so whatever it is padded to, and however many rows are selected
abbrev pub MakesPadded : Selection → Plan → (taken : ℕ) → Result Flat OpErr
    → (old new : World) → Type 0
MakesPadded q plan taken result old new =
    (pad k : ℕ) → MakesResult (padded q plan taken pad k) (placed_as result) old new

-- a result was read back and discarded, and its rows were emitted
pub record EmitsResult {E : Type 0} (grew cut : E → E → List Event → Type 0) (faults : E → ℕ)
    (pack : ℕ) (fresh : Flat) (cols : List ℕ) (result : Result ℕ OpErr) (old new : World)
    (out_old out_new : E) : Type 0 where
  pub ran : PassRan (emission_part fresh.region (blocks_of pack fresh)) (one fresh.region)
      result old new
  pub gone : new.vault.revs.live fresh.region ≡ None
  pub seals : SealsAll old new
  pub emitted : IfOk result (λ n. IsEmitted grew (header fresh.schema cols)
      (λ (s : SlotsToEnd pack fresh old new). table_shown cols s.slots) 0 n out_old out_new)
  pub halted : IfErr result (λ e. EndsAs grew cut e (header fresh.schema cols)
      (λ (s : SlotsToHalt pack fresh old new). table_shown cols s.slots) out_old out_new)
  pub sink : SinkCause result (faults out_old) (faults out_new)
  pub told : (slots : Slots) → Represents pack fresh slots old → new.store.lie ≡ None
      → IfErr result (λ e. (e ≡ Failed) ⊎ (e ≡ Sink) ⊎ (e ≡ NoMemory))

-- the same, and nothing was emitted
pub record WalksResult {T : Type 0} (pack : ℕ) (fresh : Flat) (result : Result T OpErr)
    (old new : World) : Type 0 where
  pub ran : PassRan (emission_part fresh.region (blocks_of pack fresh)) (one fresh.region)
      result old new
  pub cut : OnErr result
      (Began (count_part fresh.region (blocks_of pack fresh)) old.store new.store)
  pub never : IfErr result (λ e. (e ≡ Sink → ⊥) × (e ≡ NoMemory → ⊥))
  pub gone : new.vault.revs.live fresh.region ≡ None
  pub seals : SealsAll old new
  pub told : (slots : Slots) → Represents pack fresh slots old → new.store.lie ≡ None
      → IfErr result (λ e. e ≡ Failed)

-- its rows were emitted, or none of a result that is refused
abbrev pub EmitsHeld : {E : Type 0} → (grew : E → E → List Event → Type 0) → Planned → Selected
    → (old new : World) → (out_old out_new : E) → Type 0
EmitsHeld grew r (Rows n) old new out_old out_new =
    IsEmitted grew (head_of r.selection)
    (λ (s : PlannedToEnd r old new). held_shown r s.slots) 0 n out_old out_new
EmitsHeld grew r (Refused why) old new out_old out_new = out_new ≡ out_old

-- a result may be answered so, by its plan and by what it is padded to
abbrev pub MayAnswer : Plan → (pad : Option ℕ) → Selected → Type 0
MayAnswer plan pad (Rows n) = Unit {0}
MayAnswer plan pad (Refused (Overflow i)) = (plan ≡ Hash) × (pad ≡ None)
MayAnswer plan pad (Refused PadPassed) = IsSome pad
MayAnswer plan pad (Refused _) = ⊥

-- a result was made, read back and discarded, and emitted if it isn't refused; no region is left except those that there
-- were
pub record SelectsBy {E : Type 0} (grew cut : E → E → List Event → Type 0) (faults : E → ℕ)
    (r : Planned) (result : Result Selected OpErr) (old new : World)
    (out_old out_new : E) : Type 0 where
  pub ran : PassRan (whole_part r old.vault.next) (one old.vault.next) result old new
  pub some : IfErr result (λ e. IsTrue (is_of_access e)
      → length old.store.asked < length new.store.asked)
  pub gone : new.vault.revs.live old.vault.next ≡ None
  pub spare : OnOk result (r.selection.ending ≤ new.store.spare)
  pub seals : SealsRows r.selection.public.pack old new
  pub may : IfOk result (MayAnswer r.plan r.pad)
  pub memory : result ≡ Err NoMemory
      → LacksMemoryOf (whole_part r old.vault.next) old new (r.pad ≡ None)
      (HasHalted (Leads grew cut) out_old out_new)
  pub emitted : IfOk result (λ answer. EmitsHeld grew r answer old new out_old out_new)
  pub halted : IfErr result (λ e. EmitsUntil grew cut e (head_of r.selection)
      (λ (s : PlannedToHalt r old new). held_events r s.slots) out_old out_new)
  pub sink : SinkCause result (faults out_old) (faults out_new)
  pub told : (s : PlannedToEnd r old new) → MatchResult result
      (λ answer. answer ≡ held_answer r s.slots)
      (λ e. (e ≡ Failed) ⊎ (e ≡ Sink) ⊎ (e ≡ NoMemory))
  -- where a row is left out, it was not read back whole
  pub before : (s : PlannedToHalt r old new) → IsSome (left_out r s.slots) → IfErr result (λ e.
      done_of (is_of_access e) (length new.store.asked - length old.store.asked) + 1
      < length (whole_part r old.vault.next))

-- a header was emitted alone
pub record EmitsHead {E : Type 0} (grew cut : E → E → List Event → Type 0) (faults : E → ℕ)
    (head : List Event) (result : Result Selected OpErr) (out_old out_new : E) : Type 0 where
  pub ok : IfOk result (λ answer. (answer ≡ Rows 0) × Leads grew grew out_old out_new head)
  pub err : IfErr result (λ e. ((e ≡ Sink) ⊎ (e ≡ NoMemory)) × Leads grew cut out_old out_new head)
  pub sink : SinkCause result (faults out_old) (faults out_new)

-- the plan for k of n rows was chosen, or there is none: a forced Continuous where they don't stand side by side
pub record ChoosesPlan (public : Public) (n k : ℕ) (consecutive : Bool)
    (result : Option Plan) : Type 0 where
  pub some : IfSome result (λ plan.
      (plan ≡ choose public.planner public.pack public.buffer n k consecutive)
      × (plan ≡ Continuous → IsTrue consecutive))
  pub none : result ≡ None → (public.planner ≡ Forced Continuous) × (consecutive ≡ false)
