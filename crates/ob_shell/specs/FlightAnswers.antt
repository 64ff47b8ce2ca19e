-- SELECTs that fly together, and what is printed of them.
use Rattle.std.specs.Prelude.{ℕ, ◌≡◌, ◌≤◌, ◌⊎◌, List, [], ◌∷◌, ◌++◌, drop, length, slice_get, Option, Some, Result, Ok, Err, IfErr, OnOk}
use Rattle.std.specs.Io.KnownBytes.{Appends}
use Rattle.ob_base.specs.Events.{Event}
use Rattle.ob_base.specs.declared.config.Public.{Public}
use Rattle.ob_base.specs.declared.seen.Seen.{Seen}
use Rattle.ob_inflight.specs.Closing.{Closed, RisesBy}
use Rattle.ob_exec.specs.InFlight.{IsFlown, served_as}
use Rattle.ob_exec.specs.RanFlight.{BeforeMake, FlightCause, EndsSo, FlightMeans, FliesOn, InEnd, InTurn, asked_by, asked_next, asked_since, carried_out, cut_off, StopsInTurn, in_flight, stopped_after}
use Rattle.ob_headline.specs.Closing.{closing_line}
use Rattle.ob_headline.specs.Meaning.{PrintsUntil}
use Rattle.ob_headline.specs.Words.{Answer, printed}
use Rattle.ob_mean.specs.Verdict.{Draws, Tables, verdict}
use Rattle.ob_print.specs.Cuts.{Outputs}
use Rattle.ob_print.specs.Rows.{events_text}
use Rattle.ob_script.specs.Flights.{flight_accesses, next_flight, turns_of, words_from}
use Rattle.ob_script.specs.Script.{script, whole_script}
use Rattle.ob_script.specs.Trace.{Served}
use Rattle.ob_select.specs.Memory.{AtEmission, AtMake}
use Rattle.ob_select.specs.Opening.{Opens}
use Rattle.ob_select.specs.Settings.{IsFree}
use Rattle.ob_sql.specs.Skeleton.{skeleton}
use Rattle.ob_sql.specs.declared.stmt.Stmt.{Stmt}
use Rattle.ob_store.specs.Runs.{Since}
use Rattle.ob_store.specs.State.{StoreState}
use Rattle.ob_tables.specs.Agreeing.{AreDraws, count_of, engine_keys, engine_start, high_of, indexes_of, opened_from, public_of, replaced_of, world_of}
use Rattle.ob_tables.specs.Stops.{session_stop}
use Rattle.ob_tables.specs.Telling.{KeepsSealed, ReadsTrueUntil, answer_labels}
use Rattle.ob_tables.specs.declared.engine.Engine.{Engine}
use Rattle.ob_tables.specs.declared.stop.RunStop.{RunStop}
use Rattle.ob_tables.specs.declared.stop.RunStop.TheVariants.{NoMemory, SinkFault}
use Rattle.ob_vault.specs.Calls.{Apart}
use Rattle.ob_vault.specs.State.{RevState}
use Rattle.ob_verdict.specs.Outcomes.{Emits, Partly}
use Rattle.ob_verdict.specs.declared.outcome.Outcome.{Outcome}

-- ---- their answers
-- one that was printed, with what was seen of its statement
abbrev pub answer_of : Closed → Seen → Answer
answer_of one seen = record {
  outcome = one.outcome;
  bytes = events_text one.events ++ closing_line one.outcome;
  plan = seen.plan;
}

-- those of the first that have ended
abbrev pub answers_of : List Closed → List Seen → List Answer
answers_of [] seens = []
answers_of (one ∷ ended) [] = []
answers_of (one ∷ ended) (seen ∷ seens) = answer_of one seen ∷ answers_of ended seens

-- ---- what an engine did
-- how many accesses of its own the statement at a place asked
abbrev pub asked_own : Public → (words : ℕ → ℕ) → List Stmt → List Seen → (s t : StoreState)
    → (place : ℕ) → ℕ
asked_own p words stmts seens s t place = asked_by p words stmts seens (asked_since s t) place

-- the engine and its store after them, whatever the store answers, also where its list let go of their accesses
pub record RanTogether {R T : Type 0} (state : R → RevState) (words : ℕ → ℕ)
    (flown : List Served) (result : Result T RunStop) (old : Engine R) (s : StoreState)
    (new : Engine R) (t : StoreState) : Type 0 where
  pub asked : t.asked ≡ s.asked ++ flight_accesses (public_of old) flown
      (stopped_after result (asked_since s t)) words
  pub later : Since s t
  pub keys : engine_keys new ≡ engine_keys old
  pub start : engine_start new ≡ engine_start old
  pub from_closing : opened_from new ≡ opened_from old
  pub replaced : replaced_of new ≡ replaced_of old
  pub indexes : indexes_of new ≡ indexes_of old
  pub drawn : (d : Draws) → AreDraws old d → AreDraws new d
  pub room : IsFree (public_of old) new.room
  pub opened : Opens (drop (length s.asked) t.asked) (high_of old) (high_of new)
  pub untouched : Apart (λ q. (public_of old).next_region ≤ q) (world_of state old s)
      (world_of state new t)
  pub goes_on : OnOk result (FliesOn state (next_flight (public_of old) flown words) new t)

-- it had these statements fly, whatever they were answered: this was seen of each, and the first of them have ended
pub record RanInFlight {R T : Type 0} (state : R → RevState) (words left : ℕ → ℕ)
    (stmts : List Stmt) (seens : List Seen) (ended : List Closed) (result : Result T RunStop)
    (old : Engine R) (s : StoreState) (new : Engine R) (t : StoreState) : Type 0 where
  pub long : length seens ≡ length stmts
  pub ran : RanTogether state words (served_as stmts seens) result old s new t
  pub rest : OnOk result ((i : ℕ)
      → left i ≡ words_from words (turns_of (public_of old) (served_as stmts seens)) i)
  pub all : OnOk result (length ended ≡ length stmts)
  pub each : (i : ℕ) (stmt : Stmt) (seen : Seen) → slice_get stmts i ≡ Some stmt
      → slice_get seens i ≡ Some seen
      → IsFlown (in_flight stmts (public_of old)) (count_of old s)
      (asked_own (public_of old) words stmts seens s t i) stmt seen (slice_get ended i)
  pub emits : (i : ℕ) (stmt : Stmt) (one : Closed) → slice_get stmts i ≡ Some stmt
      → slice_get ended i ≡ Some one
      → Emits stmt (answer_labels stmt (public_of old)) one.outcome one.events
  -- a stop comes in the turn in which the last of these accesses was asked, or after it
  pub turn : IfErr result (λ stop. StopsInTurn (public_of old) (served_as stmts seens) words
      (asked_since s t) (length ended))
  pub cause : FlightCause result (world_of state old s) (world_of state new t)
  pub failures : RisesBy (cut_off seens) s.faults t.faults
  pub seals : KeepsSealed state old s new t
  pub means : FlightMeans state words stmts seens
      (asked_own (public_of old) words stmts seens s t)
      (asked_by (public_of old) words stmts seens (carried_out result (asked_since s t)))
      ended result old s new t

-- ---- a stop
-- the output ends within a closing line
abbrev pub ClosesWithin : List Event → (part : List ℕ) → Outcome → Type 0
ClosesWithin events part outcome = part ≡ events_text events ++ closing_line outcome

-- of the one that comes next, of which n accesses were asked, a first part of its header and rows was emitted until then; or it
-- was answered, and the output ends within its closing line
pub record EmitsUntil {R : Type 0} (state : R → RevState) (stmts : List Stmt) (stmt : Stmt)
    (seen : Seen) (n : ℕ) (part : List ℕ) (old : Engine R) (s : StoreState) (new : Engine R)
    (t : StoreState) : Type 0 where
  pub events : List Event
  pub told : (tables : Tables) → ReadsTrueUntil state old s new t tables
      → Partly (answer_labels stmt (public_of old))
      (verdict (in_flight stmts (public_of old)) (count_of old s) tables stmt) events
  pub text : (part ≡ events_text events) ⊎ ((outcome : Outcome)
      × EndsSo state stmts stmt seen n events old s new t outcome
      × ClosesWithin events part outcome)

-- memory is wanting before the first access, where a region is made, in its turn just before a result is made that isn't
-- padded, or, in its turn or its end, where the next one's rows are emitted, or, where it ended so, its closing line
abbrev pub WantsTogether : Public → (words : ℕ → ℕ) → List Stmt → List Seen → (place : ℕ)
    → Stmt → Seen → (Ends : List Event → Outcome → Type 0) → (part : List ℕ) → List Closed
    → (s t : StoreState) → Type 0
WantsTogether p words stmts seens place stmt seen Ends part ended s t =
    AtMake (drop (length s.asked) t.asked)
    ⊎ (BeforeMake (in_flight stmts p) stmts seens (asked_own p words stmts seens s t)
    (asked_next p words stmts seens (asked_since s t)) ended
    ⊎ (((InTurn p words stmts seens (asked_since s t) place
    ⊎ (InEnd p words stmts seens (asked_since s t) place
    × (asked_own p words stmts seens s t place
    ≡ length (script (in_flight stmts p) (skeleton stmt) seen))))
    × AtEmission (in_flight stmts p) stmt seen (drop (asked_own p words stmts seens s t place)
    (whole_script (in_flight stmts p) (skeleton stmt) seen)))
    ⊎ (InEnd p words stmts seens (asked_since s t) place
    × ((events : List Event) × (outcome : Outcome) × Ends events outcome
    × ClosesWithin events part outcome))))

-- they flew until then: the answers of those that have ended were printed, and a first part of the next one
pub record FlewUntil {R : Type 0} (state : R → RevState) (words left : ℕ → ℕ)
    (stmts : List Stmt) (seens : List Seen) (stop : RunStop) (bytes : List ℕ)
    (old : Engine R) (s : StoreState) (new : Engine R) (t : StoreState) : Type 0 where
  pub ended : List Closed
  pub ran : RanInFlight {T = Unit {0}} state words left stmts seens ended (Err stop) old s new t
  pub stmt : Stmt
  pub seen : Seen
  pub next : slice_get stmts (length ended) ≡ Some stmt
  pub shown : slice_get seens (length ended) ≡ Some seen
  pub part : List ℕ
  pub emits : EmitsUntil state stmts stmt seen
      (asked_own (public_of old) words stmts seens s t (length ended)) part old s new t
  pub memory : stop ≡ NoMemory
      → WantsTogether (public_of old) words stmts seens (length ended) stmt seen
      (λ events outcome. EndsSo state stmts stmt seen
      (asked_own (public_of old) words stmts seens s t (length ended)) events old s new t outcome)
      part ended s t
  pub printed : PrintsUntil (session_stop stop) bytes (printed (answers_of ended seens) ++ part)

-- they flew to their end, with these answers
pub record FlewWhole {R : Type 0} (state : R → RevState) (words left : ℕ → ℕ)
    (stmts : List Stmt) (seens : List Seen) (answers : List Answer)
    (old : Engine R) (s : StoreState) (new : Engine R) (t : StoreState) : Type 0 where
  pub ended : List Closed
  pub ran : RanInFlight {T = Unit {0}} state words left stmts seens ended (Ok tt) old s new t
  pub answered : answers ≡ answers_of ended seens

-- ---- what became of them
-- they were answered so, and a sink took it
pub record AnswersFlight {R : Type 0} (state : R → RevState) (words left : ℕ → ℕ)
    (stmts : List Stmt) (answers : List Answer) (written0 written1 : Option (List ℕ))
    (old : Engine R) (s : StoreState) (new : Engine R) (t : StoreState) : Type 0 where
  pub seens : List Seen
  pub flew : FlewWhole state words left stmts seens answers old s new t
  pub appends : Appends written0 written1 (printed answers)

-- a stop came in their flight, or a sink failed after it, and took what was printed, or for this cause less
pub record CutsFlight {R : Type 0} (state : R → RevState) (words left : ℕ → ℕ)
    (stmts : List Stmt) (stop : RunStop) (written0 written1 : Option (List ℕ)) (Lost : Type 0)
    (old : Engine R) (s : StoreState) (new : Engine R) (t : StoreState) : Type 0 where
  pub seens : List Seen
  pub bytes : List ℕ
  pub flew : FlewUntil state words left stmts seens stop bytes old s new t
      ⊎ ((stop ≡ SinkFault) × (answers : List Answer) × (bytes ≡ printed answers)
      × FlewWhole state words left stmts seens answers old s new t)
  pub cut : Outputs written0 written1 Lost bytes
