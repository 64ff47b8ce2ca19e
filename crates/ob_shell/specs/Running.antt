-- What a session did until its input ended or it stopped, by the bytes that its source gave.
use Rattle.std.specs.Prelude.{ℕ, ◌≡◌, ◌+◌, ◌≤◌, ◌<◌, ◌⊎◌, Bool, true, false, List, [], ◌++◌, length, Option, None, Result, Ok, Err}
use Rattle.std.specs.Io.KnownBytes.{Consumes, IsAtEnd}
use Rattle.ob_base.specs.Counts.{Rises}
use Rattle.ob_base.specs.declared.config.Public.{Public}
use Rattle.ob_base.specs.declared.refusal.Stop.{Stop}
use Rattle.ob_base.specs.declared.refusal.Stop.TheVariants.{Tampered, SourceFault, SinkFault, NoMemory, InputLimit, StoreFault, StashFull, KeeperFault}
use Rattle.ob_mean.specs.Batches.{batch_most}
use Rattle.ob_tables.specs.Agreeing.{high_of, public_of}
use Rattle.ob_tables.specs.Stops.{session_stop}
use Rattle.ob_tables.specs.declared.engine.Engine.{Engine}
use Rattle.ob_tables.specs.declared.stop.RunStop.{RunStop}
use Rattle.ob_tables.specs.declared.stop.RunStop.TheVariants as Runs
use Rattle.ob_gen.specs.declared.tally.Tally.{Tally}
use Rattle.ob_headline.specs.Texts.{is_over, rest_of, texts_of, texts_in}
use Rattle.ob_gen.specs.Tally.{empty_tally}
use Rattle.ob_headline.specs.Batches.{AnsweredExcept}
use Rattle.ob_headline.specs.Flights.{most_flown}
use Rattle.ob_headline.specs.declared.flight.FlightSettings.{FlightSettings}
use Rattle.ob_headline.specs.Status.{StaysAlone}
use Rattle.ob_headline.specs.Words.{Answer, Faults, NoneRose, SinksRose, Took, any_refused, before_read, printed}
use Rattle.ob_print.specs.Cuts.{Outputs}
use Rattle.ob_reopen.specs.Keepers.{KeeperState}
use Rattle.ob_shell.specs.Feeding.{Fetch, Fed}
use Rattle.ob_shell.specs.Steps.{Flights, Follow, Gathered, Machine, Owed, Steps, PartlyAt, IsUndone, machine_of, standing}
use Rattle.ob_shell.specs.Tallies.{TallyIs, flagged}
use Rattle.ob_shell.specs.Traces.{Traces}
use Rattle.ob_shell.specs.Waiting.{IsFree, ServedSo}
use Rattle.ob_sql.specs.declared.stmt.Stmt.{Stmt}
use Rattle.ob_shell.specs.declared.session.Halted.{Halted}
use Rattle.ob_shell.specs.declared.session.TextHalted.{TextHalted}
use Rattle.ob_store.specs.State.{StoreState}
use Rattle.ob_vault.specs.State.{RevState}

-- the stop of a text ends the session
abbrev pub session_halted : TextHalted → Halted
session_halted halted = record { stop = session_stop halted.stop; quiet = halted.quiet }

abbrev pub halted_of : {T : Type 0} → Result T TextHalted → Result T Halted
halted_of (Ok x) = Ok x
halted_of (Err halted) = Err (session_halted halted)

-- by what stopped a session: its engine, its source or a limit
abbrev pub StoppedBy : (Run : RunStop → Type 0) (AtFault AtLimit : Type 0) → Stop → Type 0
StoppedBy Run AtFault AtLimit (Tampered region place) = Run (Runs.Tampered region place)
StoppedBy Run AtFault AtLimit SinkFault = Run Runs.SinkFault
StoppedBy Run AtFault AtLimit NoMemory = Run Runs.NoMemory
StoppedBy Run AtFault AtLimit SourceFault = AtFault
StoppedBy Run AtFault AtLimit InputLimit = AtLimit
StoppedBy Run AtFault AtLimit StoreFault = Run Runs.StoreFault
StoppedBy Run AtFault AtLimit StashFull = Run Runs.StashFull
StoppedBy Run AtFault AtLimit KeeperFault = Run Runs.KeeperFault

-- the stop, whether or not its line may still be written
abbrev pub stop_of : {T : Type 0} → Result T Halted → Result T Stop
stop_of (Ok x) = Ok x
stop_of (Err halted) = Err halted.stop

-- no further line may be written
abbrev pub is_quiet : {T : Type 0} → Result T Halted → Bool
is_quiet (Ok x) = false
is_quiet (Err halted) = halted.quiet

abbrev pub IsQuiet : {T : Type 0} → Result T Halted → Type 0
IsQuiet result = is_quiet result ≡ true

-- it may not where a sink failed, and only there
abbrev pub Silenced : (quiet : Bool) → (old new : Faults) → Type 0
Silenced true old new = SinksRose old new
Silenced false old new = (new.out ≡ old.out) × (new.trace ≡ old.trace)

-- of what is printed the end is lost only where the sink of the answers failed, and then nothing more is written
abbrev pub OutFailed : (quiet : Bool) → (old new : ℕ) → Type 0
OutFailed quiet old new = (quiet ≡ true) × Rises old new

-- when each stop comes: only where that count rose; those of the sinks may have risen after a stop by a block, for want of
-- memory, by the store, for a full stash or by the keeper; where statements may wait to be served together while more is read,
-- the source may have failed before one of them was stopped
abbrev pub StopCause : {T : Type 0} (Alone : Type 0) (old new : Faults) → Result T Stop → Type 0
StopCause Alone old new (Ok x) = NoneRose old new
StopCause Alone old new (Err (Tampered region place)) = StaysAlone Alone old.source new.source
    × (old.out ≤ new.out) × (old.trace ≤ new.trace)
StopCause Alone old new (Err SinkFault) = StaysAlone Alone old.source new.source × SinksRose old new
StopCause Alone old new (Err NoMemory) = StaysAlone Alone old.source new.source
    × (old.out ≤ new.out) × (old.trace ≤ new.trace)
StopCause Alone old new (Err SourceFault) = Rises old.source new.source × (new.out ≡ old.out)
    × (new.trace ≡ old.trace)
StopCause Alone old new (Err InputLimit) = NoneRose old new
StopCause Alone old new (Err StoreFault) = StaysAlone Alone old.source new.source
    × (old.out ≤ new.out) × (old.trace ≤ new.trace)
StopCause Alone old new (Err StashFull) = StaysAlone Alone old.source new.source
    × (old.out ≤ new.out) × (old.trace ≤ new.trace)
StopCause Alone old new (Err KeeperFault) = StaysAlone Alone old.source new.source
    × (old.out ≤ new.out) × (old.trace ≤ new.trace)

-- statements aren't served together
abbrev pub ServesAlone : Option FlightSettings → Public → Type 0
ServesAlone settings p = (p.batch ≡ None) × (most_flown settings p ≡ 1)

-- what was done while no stop came: these bytes were passed on, and their texts served, except for those that wait
pub record SoFar {R : Type 0} (state : R → RevState) (feed0 feed1 : Fetch)
    (left0 left1 written0 written1 : Option (List ℕ)) (pending : List ℕ) (batch : List Stmt)
    (tally : Tally) (m0 m1 : Machine R) : Type 0 where
  pub passed : List ℕ
  pub fed : Fed feed0 feed1 left0 left1 passed
  pub pending_is : pending ≡ rest_of [] passed
  pub so : ServedSo state written0 written1 (texts_of [] passed) batch
      (IsFree m1.flights.settings (public_of m1.engine) batch) empty_tally tally m0 m1

-- by how the session ended: how far the texts were served, and where the limits stood
abbrev pub EndsBy : (feed1 : Fetch) (ended : Bool) (bytes : List ℕ) (more : List (List ℕ))
    (part : List ℕ) → Result Bool Stop → Type 0
EndsBy feed1 ended bytes more part (Ok refused) =
    (ended ≡ true) × (more ≡ []) × (part ≡ []) × (is_over (rest_of [] bytes) ≡ false)
    × (feed1.taken < feed1.limit)
EndsBy feed1 ended bytes more part (Err SourceFault) =
    (ended ≡ false) × (more ≡ []) × (part ≡ []) × (is_over (rest_of [] bytes) ≡ false)
EndsBy feed1 ended bytes more part (Err InputLimit) =
    (ended ≡ false) × (more ≡ []) × (part ≡ [])
    × ((is_over (rest_of [] bytes) ≡ true) ⊎ (feed1.taken ≡ feed1.limit))
EndsBy feed1 ended bytes more part (Err (Tampered region place)) = Unit {0}
EndsBy feed1 ended bytes more part (Err SinkFault) = Unit {0}
EndsBy feed1 ended bytes more part (Err NoMemory) = Unit {0}
EndsBy feed1 ended bytes more part (Err StoreFault) = Unit {0}
EndsBy feed1 ended bytes more part (Err StashFull) = Unit {0}
EndsBy feed1 ended bytes more part (Err KeeperFault) = Unit {0}

-- what was done after the last text that was served whole
abbrev pub LastPart : {R : Type 0} → (R → RevState) → Machine R → Machine R → List (List ℕ) → List ℕ
    → Result Bool Stop → Type 0
LastPart state m1 m2 more part (Ok refused) = IsUndone m1 m2 part
LastPart state m1 m2 more part (Err stop) =
    StoppedBy (λ run. PartlyAt state m1 m2 more run part) (IsUndone m1 m2 part)
    (IsUndone m1 m2 part) stop

-- the answer of a session that came to its end tells whether a text was refused
abbrev pub FlagIs : List Answer → Result Bool Stop → Type 0
FlagIs answers (Ok refused) = refused ≡ any_refused answers
FlagIs answers (Err stop) = Unit {0}

-- what a session did: the sink took the answers of all texts that were served, and of the last part all or, where its end
-- was lost, a first part; and the texts that were whole before the source's last read, which gave so many, were served, but for
-- those that wait to be served together
pub record SessionRan {R : Type 0} (state : R → RevState) (tracing : Bool) (feed0 feed1 : Fetch)
    (left0 left1 : Option (List ℕ)) (gave : ℕ)
    (written0 written1 traced0 traced1 : Option (List ℕ))
    (m0 m2 : Machine R) (Lost : Type 0) (result : Result Tally Stop) : Type 0 where
  pub piece : List ℕ
  pub consumed : Consumes left0 left1 piece
  pub taken : feed1.taken ≡ feed0.taken + length piece
  pub limit : feed1.limit ≡ feed0.limit
  pub ended : Bool
  pub at_end : ended ≡ true → IsAtEnd left1
  pub served : List (List ℕ)
  pub more : List (List ℕ)
  pub texts : texts_in ended (feed0.unread ++ piece) ≡ served ++ more
  pub middle : Machine R
  pub prompt : AnsweredExcept (public_of middle.engine) (batch_most (public_of m0.engine))
      (most_flown m0.flights.settings (public_of m0.engine))
      (texts_in false (before_read gave (feed0.unread ++ piece))) served
  pub answers : List Answer
  pub steps : Steps state m0 middle served answers
  pub part : List ℕ
  -- what was carried out of those that were not answered
  pub owed : List Owed
  pub gathered : Gathered
  pub follow : Follow more owed
  pub last : LastPart state middle (standing m2 owed gathered) more part (flagged result)
  pub cut : Outputs written0 written1 Lost (printed answers ++ part)
  pub whole : Took written0 written1 (printed answers)
  pub traced : Traces tracing traced0 traced1 m0.store.asked middle.store.asked
  pub counted : TallyIs answers result
  pub ends : EndsBy feed1 ended (feed0.unread ++ piece) more part (flagged result)

-- so many rows were open at once, as the engine counts them with which a session ended
pub record CountsRows {R : Type 0} (state : R → RevState) (tracing : Bool) (feed0 feed1 : Fetch)
    (left0 left1 : Option (List ℕ)) (gave : ℕ)
    (written0 written1 traced0 traced1 : Option (List ℕ)) (store0 store1 : StoreState)
    (Lost : Type 0) (result : Result Tally Stop) (high : ℕ) : Type 0 where
  pub first : Engine R
  pub last : Engine R
  pub keeper0 : KeeperState
  pub keeper1 : KeeperState
  pub flights0 : Flights
  pub flights1 : Flights
  pub ran : SessionRan state tracing feed0 feed1 left0 left1 gave written0 written1
      traced0 traced1 (machine_of first store0 keeper0 flights0)
      (machine_of last store1 keeper1 flights1) Lost result
  pub counts : high ≡ high_of last
