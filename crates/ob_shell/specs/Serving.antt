-- What becomes of texts that are served.
use Rattle.std.specs.Prelude.{◌≡◌, ◌+◌, List, [], ◌∷◌, ◌++◌, length, ℕ, Bool, true, false, Option, None, Some, Result, Ok, Err, IfErr, IfOk, OnOk, OnErr}
use Rattle.std.specs.Io.KnownBytes.{Consumes, IsAtEnd}
use Rattle.ob_base.specs.declared.refusal.Stop.{Stop}
use Rattle.ob_base.specs.declared.refusal.Stop.TheVariants.{InputLimit, NoMemory, SourceFault}
use Rattle.ob_gen.specs.Tally.{empty_tally}
use Rattle.ob_gen.specs.declared.tally.Tally.{Tally}
use Rattle.ob_headline.specs.Texts.{is_over, rest_after, texts_at, texts_in}
use Rattle.ob_headline.specs.Words.{Begins, Faults, before_read}
use Rattle.ob_headline.specs.Flights.{may_fly, most_flown}
use Rattle.ob_headline.specs.declared.flight.FlightSettings.{FlightSettings}
use Rattle.ob_headline.specs.Statements.{Spells}
use Rattle.ob_shell.specs.Feeding.{Fetch}
use Rattle.ob_shell.specs.Running.{EndsBy, IsQuiet, OutFailed, SessionRan, Silenced, StopCause, halted_of, is_quiet, session_halted, stop_of}
use Rattle.ob_shell.specs.Steps.{AreSpelt, Gathered, IsReady, Machine, StopsIn, asked_of, gathered_by, standing}
use Rattle.ob_shell.specs.Traces.{Traced, TracedAll}
use Rattle.ob_shell.specs.Waiting.{AreWaiting, BreaksIn, ComesFree, IsClosed, ServedSo}
use Rattle.ob_shell.specs.declared.session.Halted.{Halted}
use Rattle.ob_shell.specs.declared.session.TextHalted.{TextHalted}
use Rattle.ob_sql.specs.Skeleton.{skeleton}
use Rattle.ob_sql.specs.declared.stmt.Stmt.{Stmt}
use Rattle.ob_tables.specs.Agreeing.{public_of}
use Rattle.ob_tables.specs.Stops.{session_stop}
use Rattle.ob_vault.specs.State.{RevState}

-- this was done of a text that spells this statement, where it may come after what is gathered, and the engine may be given the
-- next one, after which this saves tables where they are to be saved; or a stop came within it, which has its cause
pub record ServesStmt {R T : Type 0} (state : R → RevState) (Saves : Type 0)
    (May : Gathered → Type 0) (stmt : Stmt) (Done : List ℕ → T → (m0 m1 : Machine R) → Type 0)
    (written0 written1 : Option (List ℕ)) (old new : Faults) (m0 m1 : Machine R)
    (result : Result T TextHalted) : Type 0 where
  pub ready : OnOk result (IsReady state Saves m1)
  -- as many may fly together after it as before it, and a SELECT leaves the tables
  pub most : (settings : Option FlightSettings)
      → OnOk result (most_flown settings (public_of m1.engine)
      ≡ most_flown settings (public_of m0.engine))
  pub tables : may_fly (public_of m0.engine) (skeleton stmt) ≡ true
      → OnOk result ((public_of m1.engine).tables ≡ (public_of m0.engine).tables)
  pub done : IfOk result (λ x. (gathered : Gathered) (text : List ℕ) → May gathered
      → Spells text (Ok stmt) → Done text x (standing m0 [] gathered)
      (standing m1 [] (gathered_by (public_of m0.engine) (skeleton stmt))))
  pub stopped : IfErr result (λ halted. (gathered : Gathered) (text : List ℕ) → May gathered
      → Spells text (Ok stmt)
      → StopsIn state written0 written1 (OutFailed halted.quiet old.out new.out) (text ∷ [])
      halted.stop (standing m0 [] gathered)
      (standing m1 [] (gathered_by (public_of m0.engine) (skeleton stmt))))
  pub cause : StopCause (Unit {0}) old new (stop_of (halted_of result))
  pub quiet : Silenced (is_quiet (halted_of result)) old new

-- what was counted, until a stop nothing more
abbrev pub counted_by : {E : Type 0} → Tally → Result Tally E → Tally
counted_by tally (Ok counted) = counted
counted_by tally (Err e) = tally

-- what became of the texts that waited, which these statements spell, and of those after them, from what is gathered then:
-- the first were answered, and the others wait; or a stop came
pub record TakesTexts {R T : Type 0} (state : R → RevState) (Saves : Type 0) (tracing : Bool)
    (May : Gathered → Type 0) (Then : (old new : Gathered) → Type 0)
    (batch0 batch1 : List Stmt) (texts : List (List ℕ)) (tally0 tally1 : Tally)
    (written0 written1 traced0 traced1 : Option (List ℕ)) (old new : Faults)
    (m0 m1 : Machine R) (result : Result T TextHalted) : Type 0 where
  pub ready : OnOk result (IsReady state Saves m1)
  pub waits : OnOk result (AreWaiting m1.flights.settings (public_of m1.engine) (asked_of m1) batch1)
  pub done : OnOk result ((gathered : Gathered) (held : List (List ℕ)) → May gathered
      → AreSpelt held batch0 → ServedSo state written0 written1 (held ++ texts) batch1
      (Then gathered) tally0 tally1 (standing m0 [] gathered) m1)
  pub stopped : IfErr result (λ halted. (gathered : Gathered) (held : List (List ℕ))
      → May gathered → AreSpelt held batch0
      → BreaksIn state tracing written0 written1 traced0 traced1
      (OutFailed halted.quiet old.out new.out) (held ++ texts) halted.stop
      (standing m0 [] gathered) m1)
  pub traced : OnOk result (TracedAll tracing m0.store.asked m1.store.asked traced0 traced1)
  pub traced_stop : OnErr result (Traced tracing m0.store.asked m1.store.asked traced0 traced1
      (IsQuiet (halted_of result)))
  pub cause : StopCause (Unit {0}) old new (stop_of (halted_of result))
  pub quiet : Silenced (is_quiet (halted_of result)) old new

-- these were served that waited: each of their texts was answered, and nothing else goes along with them; or a stop came
abbrev pub ServesBatch : {R : Type 0} (state : R → RevState) (Saves : Type 0) (tracing : Bool)
    (stmts : List Stmt) (tally : Tally)
    (written0 written1 traced0 traced1 : Option (List ℕ)) (old new : Faults)
    (m0 m1 : Machine R) → Result Tally TextHalted → Type 0
ServesBatch state Saves tracing stmts tally w0 w1 t0 t1 old new m0 m1 result =
    TakesTexts state Saves tracing (ComesFree m0.flights.settings (public_of m0.engine) stmts)
    (IsClosed m1.flights.settings (public_of m0.engine) (public_of m1.engine) stmts) stmts [] []
    tally (counted_by tally result) w0 w1 t0 t1 old new m0 m1 result

-- the same where a stop may leave what comes next unread, for one of these causes: then no text came after those that waited
abbrev pub TakesUntil : {R : Type 0} (state : R → RevState) (Saves : Type 0) (tracing : Bool)
    (May : Gathered → Type 0) (Then : (old new : Gathered) → Type 0)
    (batch0 batch1 : List Stmt) (texts : List (List ℕ)) (Why : Stop → Type 0)
    (tally0 tally1 : Tally)
    (written0 written1 traced0 traced1 : Option (List ℕ)) (old new : Faults)
    (m0 m1 : Machine R) → Result (Option Stop) TextHalted → Type 0
TakesUntil state Saves tracing May Then batch0 batch1 texts Why tally0 tally1 w0 w1 t0 t1 old new
    m0 m1 (Ok (Some stop)) = TakesTexts {T = Option Stop} state Saves tracing May
    (λ old new. ComesFree m1.flights.settings (public_of m1.engine) batch1 new) batch0 batch1 []
    tally0 tally1 w0 w1 t0 t1 old new m0 m1 (Ok (Some stop)) × Why stop
TakesUntil state Saves tracing May Then batch0 batch1 texts Why tally0 tally1 w0 w1 t0 t1 old new
    m0 m1 (Ok None) = TakesTexts {T = Option Stop} state Saves tracing May Then
    batch0 batch1 texts tally0 tally1 w0 w1 t0 t1 old new m0 m1 (Ok None)
TakesUntil state Saves tracing May Then batch0 batch1 texts Why tally0 tally1 w0 w1 t0 t1 old new
    m0 m1 (Err halted) = TakesTexts {T = Option Stop} state Saves tracing May Then
    batch0 batch1 texts tally0 tally1 w0 w1 t0 t1 old new m0 m1 (Err halted)

-- nothing was left unread
abbrev pub WasTaken : Result (Option Stop) TextHalted → Type 0
WasTaken result = result ≡ Ok None

-- memory is wanting for a text
abbrev pub WantsRoom : Stop → Type 0
WantsRoom stop = stop ≡ NoMemory

-- a byte is not taken for want of memory, or since a limit was reached
abbrev pub IsNotTaken : (pending : List ℕ) (b : ℕ) → Stop → Type 0
IsNotTaken pending b NoMemory = Unit {0}
IsNotTaken pending b InputLimit =
    (texts_at pending b ≡ []) × (is_over (rest_after pending b) ≡ true)
IsNotTaken pending b _ = ⊥

-- ---- until no more is read
-- how the reading ended: at the end of the input, or by its source, a limit or want of memory
abbrev pub EndsReading : (feed1 : Fetch) (ended : Bool) (bytes : List ℕ) (more : List (List ℕ))
    → Option Stop → Type 0
EndsReading feed1 ended bytes more None = EndsBy feed1 ended bytes more [] (Ok false)
EndsReading feed1 ended bytes more (Some NoMemory) = Unit {0}
EndsReading feed1 ended bytes more (Some SourceFault) =
    EndsBy feed1 ended bytes more [] (Err SourceFault)
EndsReading feed1 ended bytes more (Some InputLimit) =
    EndsBy feed1 ended bytes more [] (Err InputLimit)
EndsReading feed1 ended bytes more (Some _) = ⊥

-- what was read, and of its texts served but for those that wait, until then; those that were whole before the source's last read are among these texts
pub record HasRead {R : Type 0} (state : R → RevState) (tracing : Bool) (feed0 feed1 : Fetch)
    (left0 left1 : Option (List ℕ)) (gave : ℕ)
    (written0 written1 traced0 traced1 : Option (List ℕ)) (batch : List Stmt) (tally : Tally)
    (m0 m1 : Machine R) (left : Option Stop) : Type 0 where
  pub piece : List ℕ
  pub consumed : Consumes left0 left1 piece
  pub taken : feed1.taken ≡ feed0.taken + length piece
  pub limit : feed1.limit ≡ feed0.limit
  pub ended : Bool
  pub at_end : ended ≡ true → IsAtEnd left1
  pub texts : List (List ℕ)
  pub more : List (List ℕ)
  pub parts : texts_in ended (feed0.unread ++ piece) ≡ texts ++ more
  pub before : Begins (texts_in false (before_read gave (feed0.unread ++ piece))) texts
  pub so : ServedSo state written0 written1 texts batch
      (ComesFree m1.flights.settings (public_of m1.engine) batch) empty_tally tally m0 m1
  pub traced : TracedAll tracing m0.store.asked m1.store.asked traced0 traced1
  pub ends : EndsReading feed1 ended (feed0.unread ++ piece) more left

-- by how it ended: or a text that was served stopped it
abbrev pub ReadsTexts : {R : Type 0} (state : R → RevState) (tracing : Bool)
    (feed0 feed1 : Fetch) (left0 left1 : Option (List ℕ)) (gave : ℕ)
    (written0 written1 traced0 traced1 : Option (List ℕ)) (batch : List Stmt) (tally : Tally)
    (m0 m1 : Machine R) (out0 out1 : ℕ) → Result (Option Stop) TextHalted → Type 0
ReadsTexts state tracing f0 f1 l0 l1 gave w0 w1 t0 t1 batch tally m0 m1 out0 out1 (Ok left) =
    HasRead state tracing f0 f1 l0 l1 gave w0 w1 t0 t1 batch tally m0 m1 left
ReadsTexts state tracing f0 f1 l0 l1 gave w0 w1 t0 t1 batch tally m0 m1 out0 out1 (Err halted) =
    SessionRan state tracing f0 f1 l0 l1 gave w0 w1 t0 t1 m0 m1
    (OutFailed halted.quiet out0 out1) (Err (session_stop halted.stop))

-- so a session ends where none that waited stopped it
abbrev pub ended_with : Option Stop → Tally → Result Tally Stop
ended_with None tally = Ok tally
ended_with (Some stop) tally = Err stop

-- the stop of a text, or that of the reading, after which a line may be written
abbrev pub read_end : Result (Option Stop) TextHalted → Result (Unit {0}) Halted
read_end (Ok None) = Ok tt
read_end (Ok (Some stop)) = Err (record { stop = stop; quiet = false })
read_end (Err halted) = Err (session_halted halted)
