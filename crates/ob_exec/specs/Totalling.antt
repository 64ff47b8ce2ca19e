-- A SELECT of totals of one table, by its slots: what is asked, and what is emitted.
use Rattle.std.specs.Prelude.{◌≡◌, ◌⊎◌, ◌≤◌, ℕ, List, Result, Err, IfOk, IfErr, MatchResult}
use Rattle.ob_base.specs.Events.{Event, Leads}
use Rattle.ob_room.specs.RoomState.{RoomState}
use Rattle.ob_blocks.specs.Idle.{IsIdle}
use Rattle.ob_row.specs.Condition.{Condition}
use Rattle.ob_script.specs.Parts.{count_part}
use Rattle.ob_vault.specs.State.{World}
use Rattle.ob_vault.specs.Calls.{Went, none}
use Rattle.ob_vault.specs.Words.{SealsAll}
use Rattle.ob_flat.specs.declared.fault.OpErr.{OpErr}
use Rattle.ob_flat.specs.declared.fault.OpErr.TheVariants.{Failed, Tampered, Sink, NoMemory}
use Rattle.ob_flat.specs.declared.flat.Flat.{Flat}
use Rattle.ob_flat.specs.Emission.{SlotsToEnd, SlotsToHalt}
use Rattle.ob_flat.specs.Flats.{IsSized, IsFlat}
use Rattle.ob_flat.specs.Passes.{SinkCause}
use Rattle.ob_flat.specs.Words.{HasSpare, PassRan, blocks_of}
use Rattle.ob_sql.specs.declared.stmt.SelectTotals.{SelectTotals}
use Rattle.ob_sql.specs.declared.stmt.Stmt.TheVariants.{SelectTotals as TotalsStmt}
use Rattle.ob_mean.specs.Conditions.{where_at}
use Rattle.ob_mean.specs.Prints.{Prints}
use Rattle.ob_verdict.specs.declared.outcome.Outcome.{Outcome}
use Rattle.ob_verdict.specs.Outcomes.{Emits, Partly}
use Rattle.ob_stages.specs.Totalling.{IsTotalled, TotalsFit, labels_at, outcome_at, totalled_answer}

-- ---- what is asked
-- a table of which totals are made by its select's condition, and an idle room
pub record MayTotal (flat : Flat) (condition : Condition) (s : SelectTotals)
    (room : RoomState) (w : World) : Type 0 where
  pub some : 1 ≤ room.pack
  pub few : room.rows ≤ 65536
  pub idle : IsIdle 1024 room
  pub spare : HasSpare (blocks_of room.pack flat) w
  pub written : IsFlat room.pack flat w
  pub size : IsSized flat.schema flat.capacity
  pub meant : condition ≡ where_at s.cond flat.schema
  pub items : TotalsFit flat.schema s

-- ---- what is done
-- an answer was emitted, that of the slots
pub record EmitsTotals {E : Type 0} (grew : E → E → List Event → Type 0)
    (places pack : ℕ) (flat : Flat) (s : SelectTotals) (outcome : Outcome)
    (old new : World) (out_old out_new : E) : Type 0 where
  pub events : List Event
  pub leads : Leads grew grew out_old out_new events
  pub emits : Emits (TotalsStmt s) (labels_at flat.schema s) outcome events
  pub told : (q : SlotsToEnd pack flat old new)
      → Prints (labels_at flat.schema s) (totalled_answer places flat.schema s q.slots) events

-- an emitter that gave up ends within what it took last
abbrev pub ends_by : {E : Type 0} → (grew cut : E → E → List Event → Type 0) → OpErr → E → E → List Event → Type 0
ends_by grew cut Failed = grew
ends_by grew cut (Tampered region place) = grew
ends_by grew cut Sink = cut
ends_by grew cut NoMemory = cut

-- a first part of it was
pub record HaltsTotals {E : Type 0} (grew to : E → E → List Event → Type 0)
    (places pack : ℕ) (flat : Flat) (s : SelectTotals)
    (old new : World) (out_old out_new : E) : Type 0 where
  pub events : List Event
  pub ends : Leads grew to out_old out_new events
  pub told : (q : SlotsToHalt pack flat old new)
      → Partly (labels_at flat.schema s) (totalled_answer places flat.schema s q.slots) events

-- each block was read once, in order, and then the totals of the selected rows were emitted, or those of
-- each group of them; none where the store failed
pub record Totals {E : Type 0} (grew cut : E → E → List Event → Type 0) (faults : E → ℕ)
    (places pack : ℕ) (flat : Flat) (s : SelectTotals)
    (result : Result Outcome OpErr) (old new : World) (out_old out_new : E) : Type 0 where
  pub ran : PassRan (count_part flat.region (blocks_of pack flat)) none result old new
  pub seals : SealsAll old new
  pub whole : IfOk result IsTotalled
  pub emitted : IfOk result (λ outcome.
      EmitsTotals grew places pack flat s outcome old new out_old out_new)
  pub halted : IfErr result (λ e.
      HaltsTotals grew (ends_by grew cut e) places pack flat s old new out_old out_new)
  pub failed : result ≡ Err Failed → out_new ≡ out_old
  pub after : result ≡ Err NoMemory
      → Went (count_part flat.region (blocks_of pack flat)) none old new
  pub sink : SinkCause result (faults out_old) (faults out_new)
  pub told : (q : SlotsToEnd pack flat old new) → MatchResult result
      (λ outcome. outcome ≡ outcome_at s (totalled_answer places flat.schema s q.slots))
      (λ e. (e ≡ Failed) ⊎ (e ≡ Sink) ⊎ (e ≡ NoMemory))
