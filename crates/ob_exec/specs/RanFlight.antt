-- What several SELECTs do that ask in turns, whatever they are answered.
use Rattle.std.specs.Prelude.{◌≡◌, ◌⊎◌, ◌+◌, ◌-◌, ◌<◌, ◌≤◌, ◌++◌, ℕ, true, false, IsTrue, List, Option, None, Some, Result, Ok, Err, IfErr, OnOk, MatchResult, drop, length, map, nat_lt, slice_get, take}
use Rattle.ob_base.specs.Events.{Event}
use Rattle.ob_base.specs.declared.access.Access.{Access}
use Rattle.ob_base.specs.declared.config.Public.{Public}
use Rattle.ob_base.specs.declared.seen.Seen.{Seen}
use Rattle.ob_flat.specs.declared.fault.OpErr.{OpErr}
use Rattle.ob_flat.specs.declared.fault.OpErr.TheVariants as OpErrs
use Rattle.ob_inflight.specs.Closing.{Closed, ClosesAll, RisesBy}
use Rattle.ob_mean.specs.Batches.{is_cut}
use Rattle.ob_mean.specs.Replay.{done_of}
use Rattle.ob_mean.specs.Verdict.{Draws, Tables, seen as seen_by, verdict}
use Rattle.ob_script.specs.FlightLaws.{one_if, total}
use Rattle.ob_script.specs.Flights.{Flying, boarding, flight, flight_accesses, flight_public, merge, next_flight, turns, turns_of, words_from, own_asked}
use Rattle.ob_script.specs.Script.{script, whole_script}
use Rattle.ob_script.specs.Trace.{Served}
use Rattle.ob_select.specs.Memory.{AtEmission, AtMake, AtResult, HasHalted}
use Rattle.ob_select.specs.Opening.{Opens}
use Rattle.ob_select.specs.Settings.{IsFree}
use Rattle.ob_sql.specs.Skeleton.{skeleton}
use Rattle.ob_sql.specs.declared.stmt.Stmt.{Stmt}
use Rattle.ob_store.specs.Runs.{Later}
use Rattle.ob_store.specs.State.{FalseRead, StoreState}
use Rattle.ob_vault.specs.Calls.{Apart, EndsRead}
use Rattle.ob_vault.specs.State.{RevState, World}
use Rattle.ob_vault.specs.Tied.{Untampered, EndsAt, ReadsIn}
use Rattle.ob_verdict.specs.Outcomes.{Emits, Partly}
use Rattle.ob_verdict.specs.declared.outcome.Outcome.{Outcome}
use Rattle.ob_tables.specs.Agreeing.{Agrees, AreDraws, count_of, engine_keys, engine_start, has_ended, high_of, indexes_of, opened_from, public_of, replaced_of, seen_of, world_of}
use Rattle.ob_tables.specs.Running.{SinkStops, is_fault}
use Rattle.ob_tables.specs.Serving.{StopsEmission}
use Rattle.ob_tables.specs.Telling.{Emitted, IsNotTampered, KeepsSealed, ReadsTrue, ReadsTrueUntil, Represents, answer_labels, is_refused}
use Rattle.ob_tables.specs.declared.engine.Engine.{Engine}
use Rattle.ob_tables.specs.declared.stop.RunStop.{RunStop}
use Rattle.ob_tables.specs.declared.stop.RunStop.TheVariants.{KeeperFault, NoMemory, SinkFault, StashFull, StoreFault, Tampered}
use Rattle.ob_exec.specs.InFlight.{EndsAs, EndsMeant, IsFlown, IsMeant, MeantUntil, served_as}

-- ---- the flight
-- so many accesses were asked from the first state to the second
abbrev pub asked_since : (s t : StoreState) → ℕ
asked_since s t = length t.asked - length s.asked

-- a stop leaves the first of them
abbrev pub stopped_after : {T : Type 0} → Result T RunStop → ℕ → Option ℕ
stopped_after (Ok x) k = None
stopped_after (Err stop) k = Some k

-- how many of them were carried out: all, except for one that was refused as tampered
abbrev pub carried_out : {T : Type 0} → Result T RunStop → ℕ → ℕ
carried_out (Ok x) k = k
carried_out (Err stop) k = done_of (is_refused stop) k

-- by what each of these statements goes
abbrev pub in_flight : List Stmt → Public → Public
in_flight stmts p = flight_public (length stmts) p

-- ---- causes
-- the stop that an error makes; the store's failure is an answer, and makes none
abbrev pub halt_of : OpErr → RunStop
halt_of OpErrs.Failed = StoreFault
halt_of (OpErrs.Tampered region place) = Tampered region place
halt_of OpErrs.Sink = SinkFault
halt_of OpErrs.NoMemory = NoMemory

-- how a flight comes out, by how its turns did
abbrev pub halted : {T : Type 0} → Result T OpErr → Result T RunStop
halted (Ok x) = Ok x
halted (Err e) = Err (halt_of e)

-- why a flight stops: a session that ends as tampered ends with the read of that place, and a changed block was read only
-- there, or its tag fits; neither the store's failures nor indexes or a keeper stop it
abbrev pub FlightCause : {T : Type 0} → Result T RunStop → (old new : World) → Type 0
FlightCause (Ok x) old new = Untampered old → Untampered new
FlightCause (Err (Tampered q x)) old new = EndsRead q x new × (Untampered old → Untampered new ⊎ EndsAt q x new)
FlightCause (Err SinkFault) old new = Untampered old → Untampered new
FlightCause (Err NoMemory) old new = Untampered old → Untampered new
FlightCause (Err StoreFault) old new = ⊥
FlightCause (Err StashFull) old new = ⊥
FlightCause (Err KeeperFault) old new = ⊥

-- how many of these the store cut off
abbrev pub cut_off : List Seen → ℕ
cut_off seens = total (λ (seen : Seen). one_if (is_cut seen.end)) seens

-- ---- what is asked, and what lasts
-- the session goes on: of what is public nothing except the next region has changed
pub record FliesOn {R : Type 0} (state : R → RevState) (after : Public) (new : Engine R)
    (t : StoreState) : Type 0 where
  pub agrees : Agrees state new t
  pub public : public_of new ≡ after
  pub lives : has_ended new ≡ false

-- the engine and its store after a flight, whatever the store answers
pub record RanInTurns {R T : Type 0} (state : R → RevState) (words : ℕ → ℕ) (flown : List Served)
    (result : Result T RunStop) (old : Engine R) (s : StoreState) (new : Engine R)
    (t : StoreState) : Type 0 where
  -- the accesses that the words merge of those that are served, or the first of them
  pub asked : t.asked ≡ s.asked ++ flight_accesses (public_of old) flown
      (stopped_after result (asked_since s t)) words
  pub later : Later s t
  pub keys : engine_keys new ≡ engine_keys old
  pub start : engine_start new ≡ engine_start old
  pub from_closing : opened_from new ≡ opened_from old
  pub replaced : replaced_of new ≡ replaced_of old
  pub seen : seen_of new ≡ seen_of old
  pub indexes : indexes_of new ≡ indexes_of old
  pub drawn : (d : Draws) → AreDraws old d → AreDraws new d
  -- all rows of the room are free again, and one at least was open where a block was read or written
  pub room : IsFree (public_of old) new.room
  pub opened : Opens (drop (length s.asked) t.asked) (high_of old) (high_of new)
  -- nothing has changed of the regions that there were, in the store and in the vault: no table is changed
  pub untouched : Apart (λ q. (public_of old).next_region ≤ q) (world_of state old s)
      (world_of state new t)
  pub goes_on : MatchResult result
      (λ x. FliesOn state (next_flight (public_of old) flown words) new t)
      (λ stop. has_ended new ≡ true)

-- ---- what is emitted
-- one ended so, as it does where nothing stops it: of it these events were taken and this was seen, after n accesses of its
-- own, which are all that it asks
pub record EndsSo {R : Type 0} (state : R → RevState) (stmts : List Stmt) (stmt : Stmt)
    (seen : Seen) (n : ℕ) (events : List Event) (old : Engine R) (s : StoreState)
    (new : Engine R) (t : StoreState) (outcome : Outcome) : Type 0 where
  pub ends : EndsAs (in_flight stmts (public_of old)) (count_of old s) n stmt seen outcome
  pub whole : n ≡ length (script (in_flight stmts (public_of old)) (skeleton stmt) seen)
  pub emits : Emits stmt (answer_labels stmt (public_of old)) outcome events
  pub told : (tables : Tables) (d : Draws) → ReadsTrueUntil state old s new t tables
      → EndsMeant d (in_flight stmts (public_of old)) (count_of old s) n tables stmt seen outcome
  pub emitted : (tables : Tables) → ReadsTrueUntil state old s new t tables
      → Emitted stmt (in_flight stmts (public_of old)) (count_of old s) tables outcome events

-- an answer's events were taken, and the output ends within how it was answered
pub record IsParted {E : Type 0} (grew : E → E → List Event → Type 0)
    (parted : E → E → ℕ → Outcome → Type 0) (Ends : Outcome → Type 0) (place : ℕ)
    (events : List Event) (out_old out_new : E) : Type 0 where
  pub outcome : Outcome
  pub ends : Ends outcome
  pub between : E
  pub took : grew out_old between events
  pub parts : parted between out_new place outcome

-- a stop comes while the answer at this place is emitted, or after it, where the emitter gave up
abbrev pub StopsClosing : {E : Type 0} → (grew cut : E → E → List Event → Type 0)
    → (parted : E → E → ℕ → Outcome → Type 0) → (Ends : Outcome → Type 0) → RunStop → (place : ℕ)
    → List Event → (out_old out_new : E) → Type 0
StopsClosing grew cut parted Ends SinkFault place events out_old out_new =
    StopsEmission grew cut SinkFault out_old out_new events
    ⊎ IsParted grew parted Ends place events out_old out_new
StopsClosing grew cut parted Ends NoMemory place events out_old out_new =
    StopsEmission grew cut NoMemory out_old out_new events
    ⊎ IsParted grew parted Ends place events out_old out_new
StopsClosing grew cut parted Ends stop place events out_old out_new =
    StopsEmission grew cut stop out_old out_new events

-- ---- whose turn it is
-- how many accesses of its own the one at a place asked
abbrev pub asked_by : Public → (words : ℕ → ℕ) → List Stmt → List Seen → (k : ℕ) → (i : ℕ) → ℕ
asked_by p words stmts seens k i = own_asked p (served_as stmts seens) words k i

-- what comes after k accesses of all: whose turn it is, and what that one asks
abbrev pub asked_next : Public → (words : ℕ → ℕ) → List Stmt → List Seen → (k : ℕ)
    → Option (ℕ × Access)
asked_next p words stmts seens k = slice_get (flight p (served_as stmts seens) words).log k

-- the one at a place had ended within the first k accesses
pub record EndedWithin (p : Public) (flown : List Served) (words : ℕ → ℕ) (k i : ℕ)
    : Type 0 where
  pub turn : ℕ
  pub one : Flying
  pub at : slice_get (turns words turn (boarding p flown)).flying i ≡ Some one
  pub ended : one.ended ≡ true
  pub within : length (turns words turn (boarding p flown)).log ≤ k

-- it is the turn of the one at a place: the access that was asked last is its own, or the one that would be asked next is
abbrev pub InTurn : Public → (words : ℕ → ℕ) → List Stmt → List Seen → (k place : ℕ) → Type 0
InTurn p words stmts seens k place =
    (asked_by p words stmts seens (k - 1) place + 1 ≡ asked_by p words stmts seens k place)
    ⊎ ((access : Access) × (asked_next p words stmts seens k ≡ Some (place, access)))

-- or nothing is left of it but its end, which comes next, before any other access
abbrev pub InEnd : Public → (words : ℕ → ℕ) → List Stmt → List Seen → (k place : ℕ) → Type 0
InEnd p words stmts seens k place = EndedWithin p (served_as stmts seens) words k place

-- ---- want of memory
-- just before a result that isn't padded is made for one of the statements that hasn't ended, after so many accesses of its
-- own; it is its turn, and no other's: the access that the flight asks next is its own
pub record BeforeMake (p : Public) (stmts : List Stmt) (seens : List Seen) (asked : ℕ → ℕ)
    (asks : Option (ℕ × Access)) (ended : List Closed) : Type 0 where
  pub place : ℕ
  pub access : Access
  pub turn : asks ≡ Some (place, access)
  pub stmt : Stmt
  pub seen : Seen
  pub get : slice_get stmts place ≡ Some stmt
  pub shown : slice_get seens place ≡ Some seen
  pub going : slice_get ended place ≡ None
  pub makes : AtResult p stmt seen (drop (asked place) (whole_script p (skeleton stmt) seen))

-- in its turn the emitter's output ends within the events of the one at a place, after n accesses of its own, or within how
-- it was answered, as it does only where the emitter gave up
abbrev pub AtEmitter : {E : Type 0} → (grew cut : E → E → List Event → Type 0)
    → (parted : E → E → ℕ → Outcome → Type 0) → (Ends : Outcome → Type 0)
    → (Turned Ended : Type 0) → Public → Stmt → Seen
    → (place n : ℕ) → List Event → (out_old out_new : E) → Type 0
AtEmitter grew cut parted Ends Turned Ended p stmt seen place n events out_old out_new =
    ((Turned ⊎ (Ended × (n ≡ length (script p (skeleton stmt) seen))))
    × AtEmission p stmt seen (drop n (whole_script p (skeleton stmt) seen))
    × HasHalted cut out_old out_new)
    ⊎ (Ended × IsParted grew parted Ends place events out_old out_new)

-- ---- a stop
-- these answers were taken whole, and of the next one what was emitted by then
pub record StopsFlight {R E : Type 0} (state : R → RevState)
    (grew cut : E → E → List Event → Type 0) (closed parted : E → E → ℕ → Outcome → Type 0)
    (words : ℕ → ℕ) (stmts : List Stmt) (seens : List Seen) (ended : List Closed)
    (stop : RunStop) (old : Engine R) (s : StoreState) (new : Engine R) (t : StoreState)
    (out_old out_new : E) : Type 0 where
  pub between : E
  pub took : ClosesAll grew closed 0 ended out_old between
  pub stmt : Stmt
  pub seen : Seen
  pub next : slice_get stmts (length ended) ≡ Some stmt
  pub shown : slice_get seens (length ended) ≡ Some seen
  pub events : List Event
  pub ends : StopsClosing grew cut parted
      (EndsSo state stmts stmt seen
      (asked_by (public_of old) words stmts seens (asked_since s t) (length ended))
      events old s new t)
      stop (length ended) events between out_new
  pub told : (tables : Tables) → ReadsTrueUntil state old s new t tables
      → Partly (answer_labels stmt (public_of old))
      (verdict (in_flight stmts (public_of old)) (count_of old s) tables stmt) events
  -- want of memory tells of no rows but those that are emitted, in their turn: it comes before the first access, at a make, just
  -- before that of a result that isn't padded, in its turn, or from the emitter
  pub memory : stop ≡ NoMemory → AtMake (drop (length s.asked) t.asked)
      ⊎ BeforeMake (in_flight stmts (public_of old)) stmts seens
      (asked_by (public_of old) words stmts seens (asked_since s t))
      (asked_next (public_of old) words stmts seens (asked_since s t)) ended
      ⊎ AtEmitter grew cut parted
      (EndsSo state stmts stmt seen
      (asked_by (public_of old) words stmts seens (asked_since s t) (length ended))
      events old s new t)
      (InTurn (public_of old) words stmts seens (asked_since s t) (length ended))
      (InEnd (public_of old) words stmts seens (asked_since s t) (length ended))
      (in_flight stmts (public_of old)) stmt seen (length ended)
      (asked_by (public_of old) words stmts seens (asked_since s t) (length ended))
      events between out_new

-- it comes in the turn after so many: in those the first so many statements have ended and no other, and these accesses were
-- asked in them, with that of this turn if it asked one
pub record StopsInTurn (p : Public) (flown : List Served) (words : ℕ → ℕ) (k count : ℕ)
    : Type 0 where
  pub turn : ℕ
  pub least : length (turns words turn (boarding p flown)).log ≤ k
  pub most : k ≤ length (turns words (turn + 1) (boarding p flown)).log
  pub ended : (i : ℕ) (f : Flying)
      → slice_get (turns words turn (boarding p flown)).flying i ≡ Some f
      → f.ended ≡ nat_lt i count

-- ---- what is meant
-- one that had ended by then was what it is once these k accesses were asked, in such a state of the store: a fault of it was
-- one of the store's, and where no changed block was read by then it is answered and seen as it is meant, whatever is read
-- later; so it is where the first one that was read comes after these
pub record MeantThen {R : Type 0} (state : R → RevState) (stmts : List Stmt) (n k : ℕ)
    (stmt : Stmt) (seen : Seen) (one : Closed) (old : Engine R) (s t : StoreState) : Type 0 where
  pub mid : StoreState
  pub later : Later s mid
  pub few : length mid.asked ≤ length s.asked + k
  pub lie : (lie : FalseRead) → mid.lie ≡ Some lie → t.lie ≡ Some lie
  pub unread : s.lie ≡ None → (lie : FalseRead) → t.lie ≡ Some lie
      → length s.asked + k ≤ length lie.before → mid.lie ≡ None
  pub fails : IsTrue (is_fault one.outcome) → RisesBy 1 s.faults mid.faults
  pub told : (tables : Tables) (d : Draws) → ReadsTrue state old s mid tables
      → EndsMeant d (in_flight stmts (public_of old)) (count_of old s) n tables stmt seen
      one.outcome × Emitted stmt (in_flight stmts (public_of old)) (count_of old s) tables
      one.outcome one.events

-- these statements by their meaning
abbrev pub meant_of : Draws → Public → (m : ℕ) → Tables → List Stmt → List Served
meant_of d p m tables stmts = served_as stmts
    (map (λ (stmt : Stmt). seen_by d (in_flight stmts p) m tables stmt) stmts)

-- k accesses were asked, and then one more, in such a state of the store: where no changed block was read by then, and no call
-- had failed, these and that one are the first that the words merge of the meanings, whatever comes later
pub record AsksMeant {R : Type 0} (state : R → RevState) (words : ℕ → ℕ) (stmts : List Stmt)
    (seens : List Seen) (k : ℕ) (old : Engine R) (s t : StoreState) : Type 0 where
  pub mid : StoreState
  pub later : Later s mid
  pub few : length mid.asked ≤ length s.asked + k
  pub lie : (lie : FalseRead) → mid.lie ≡ Some lie → t.lie ≡ Some lie
  pub told : (tables : Tables) (d : Draws) → ReadsTrue state old s mid tables → mid.faults ≡ 0
      → take (k + 1) (merge (public_of old) (served_as stmts seens) words)
      ≡ take (k + 1) (merge (public_of old)
      (meant_of d (public_of old) (count_of old s) tables stmts) words)

-- a changed block is one that the words merge of these statements' accesses by their meaning, of those that the store cut
-- off maybe of what they asked until then
pub record BeginsMeant (p : Public) (m : ℕ) (d : Draws) (tables : Tables) (stmts : List Stmt)
    (seens : List Seen) (words : ℕ → ℕ) (asked : List Access) (lie : FalseRead) : Type 0 where
  pub meant : List Seen
  pub long : length meant ≡ length stmts
  pub each : (i : ℕ) (stmt : Stmt) (seen shown : Seen) → slice_get stmts i ≡ Some stmt
      → slice_get seens i ≡ Some seen → slice_get meant i ≡ Some shown
      → MeantUntil d (in_flight stmts p) m tables stmt seen.end shown
  pub reads : ReadsIn lie (asked ++ merge p (served_as stmts meant) words)

-- the statements by their meaning over the tables before, where nobody changed a block, or until the first that was
pub record FlightMeans {R T : Type 0} (state : R → RevState) (words : ℕ → ℕ) (stmts : List Stmt)
    (seens : List Seen) (asked done : ℕ → ℕ) (ended : List Closed) (result : Result T RunStop)
    (old : Engine R) (s : StoreState) (new : Engine R) (t : StoreState) : Type 0 where
  -- each is answered, and is seen, as if the others weren't there
  pub told : (tables : Tables) (d : Draws) → ReadsTrueUntil state old s new t tables
      → (i : ℕ) (stmt : Stmt) (seen : Seen) → slice_get stmts i ≡ Some stmt
      → slice_get seens i ≡ Some seen
      → IsMeant d (in_flight stmts (public_of old)) (count_of old s) (asked i) (done i) tables stmt
      seen (slice_get ended i)
  pub emitted : (tables : Tables) → ReadsTrueUntil state old s new t tables
      → (i : ℕ) (stmt : Stmt) (one : Closed) → slice_get stmts i ≡ Some stmt
      → slice_get ended i ≡ Some one
      → Emitted stmt (in_flight stmts (public_of old)) (count_of old s) tables one.outcome
      one.events
  -- the tables are as they were
  pub held : (tables : Tables) → ReadsTrueUntil state old s new t tables
      → OnOk result (Represents state new t tables)
  pub honest : (tables : Tables) → ReadsTrue state old s t tables → IfErr result IsNotTampered
  -- the first changed block that is read is one that they read by their meaning
  pub begun : (tables : Tables) (d : Draws) → ReadsTrue state old s s tables → (lie : FalseRead)
      → t.lie ≡ Some lie
      → BeginsMeant (public_of old) (count_of old s) d tables stmts seens words s.asked lie
  -- what had ended within some first accesses is meant, whatever is read later
  pub earlier : (i k : ℕ) (stmt : Stmt) (seen : Seen) (one : Closed)
      → slice_get stmts i ≡ Some stmt → slice_get seens i ≡ Some seen → slice_get ended i ≡ Some one
      → EndedWithin (public_of old) (served_as stmts seens) words k i
      → MeantThen state stmts (asked i) k stmt seen one old s t
  -- and so is what was asked
  pub asks : (k : ℕ) → k < asked_since s t → AsksMeant state words stmts seens k old s t

-- ---- the whole of it
-- these statements were carried out, of which these things were seen
pub record RanFlight {R E T : Type 0} (state : R → RevState)
    (grew cut : E → E → List Event → Type 0) (closed parted : E → E → ℕ → Outcome → Type 0)
    (faults : E → ℕ) (words left : ℕ → ℕ) (stmts : List Stmt) (seens : List Seen)
    (result : Result T RunStop) (old : Engine R) (s : StoreState) (new : Engine R)
    (t : StoreState) (out_old out_new : E) : Type 0 where
  pub long : length seens ≡ length stmts
  -- whatever the store answers, the accesses are those that the words merge
  pub ran : RanInTurns state words (served_as stmts seens) result old s new t
  -- a word was taken for each access and each end
  pub rest : OnOk result ((i : ℕ)
      → left i ≡ words_from words (turns_of (public_of old) (served_as stmts seens)) i)
  -- the first of them have ended, all where nothing stopped them
  pub ended : List Closed
  pub all : OnOk result (length ended ≡ length stmts)
  pub each : (i : ℕ) (stmt : Stmt) (seen : Seen) → slice_get stmts i ≡ Some stmt
      → slice_get seens i ≡ Some seen
      → IsFlown (in_flight stmts (public_of old)) (count_of old s)
      (asked_by (public_of old) words stmts seens (asked_since s t) i) stmt seen
      (slice_get ended i)
  pub emits : (i : ℕ) (stmt : Stmt) (one : Closed) → slice_get stmts i ≡ Some stmt
      → slice_get ended i ≡ Some one
      → Emits stmt (answer_labels stmt (public_of old)) one.outcome one.events
  pub answered : OnOk result (ClosesAll grew closed 0 ended out_old out_new)
  pub stopped : IfErr result (λ stop. StopsFlight state grew cut closed parted words stmts seens
      ended stop old s new t out_old out_new)
  pub turn : IfErr result (λ stop. StopsInTurn (public_of old) (served_as stmts seens) words
      (asked_since s t) (length ended))
  pub sink : MatchResult result (λ x. faults out_new ≡ faults out_old)
      (λ stop. SinkStops (Err stop) (faults out_old) (faults out_new))
  -- each that the store cut off is one of its faults, and nothing else stops a flight than what stops a statement on a flat
  -- table
  pub cause : FlightCause result (world_of state old s) (world_of state new t)
  pub failures : RisesBy (cut_off seens) s.faults t.faults
  -- nothing comes to lie in clear
  pub seals : KeepsSealed state old s new t
  pub means : FlightMeans state words stmts seens
      (asked_by (public_of old) words stmts seens (asked_since s t))
      (asked_by (public_of old) words stmts seens (carried_out result (asked_since s t)))
      ended result old s new t
