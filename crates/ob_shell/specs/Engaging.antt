-- The engine of a run whose tables are kept: how it is had, and what is done with it; all except the last line.
use Rattle.std.specs.Prelude.{ℕ, ◌≡◌, ◌≢◌, ◌≤◌, ◌<◌, ◌+◌, ◌^◌, ◌⊎◌, Bool, true, false, List, [], length, Option, None, Some, Result, Ok, Err, IfErr, IfOk}
use Rattle.std.specs.Io.KnownBytes.{Consumes}
use Rattle.ob_base.specs.Counts.{Rises}
use Rattle.ob_base.specs.Publics.{first_public}
use Rattle.ob_base.specs.declared.access.Access.{Access}
use Rattle.ob_base.specs.declared.config.Config.{Config}
use Rattle.ob_base.specs.declared.fault.Failed.{Failed}
use Rattle.ob_reopen.specs.declared.mark.Mark.{Mark}
use Rattle.ob_base.specs.declared.refusal.Stop.{Stop}
use Rattle.ob_tables.specs.Agreeing.{count_of, high_of, opened_from}
use Rattle.ob_tables.specs.Closing.{ClosesEngine}
use Rattle.ob_tables.specs.declared.engine.Engine.{Engine}
use Rattle.ob_gen.specs.Generated.{generated}
use Rattle.ob_gen.specs.SummaryText.{summary_of, summary_text}
use Rattle.ob_gen.specs.declared.tally.Tally.{Tally}
use Rattle.ob_headline.specs.Bases.{Base, flying, fresh}
use Rattle.ob_headline.specs.Keeping.{BeganKept, BeginsFrom, EndsAtMark, EndsWith, NotBegun, kept_line, kept_status, region_opened}
use Rattle.ob_headline.specs.KeptHeadline.{ClosesTables, EndsUnkeyed}
use Rattle.ob_headline.specs.KeyLine.{first_line, secret_of}
use Rattle.ob_headline.specs.Tracing.{traced}
use Rattle.ob_headline.specs.Words.{Faults, Outside, faults_of, keys_in, outside_of}
use Rattle.ob_headline.specs.declared.ending.Ending.{Ending}
use Rattle.ob_headline.specs.declared.ending.Ending.TheVariants.{Usage, BadKey, Ran}
use Rattle.ob_headline.specs.declared.ending.KeptEnding.{KeptEnding}
use Rattle.ob_headline.specs.declared.ending.KeptEnding.TheVariants.{Plain}
use Rattle.ob_headline.specs.declared.ending.Report.{Report}
use Rattle.ob_headline.specs.declared.seed.Seed.{Seed}
use Rattle.ob_print.specs.Cuts.{Outputs}
use Rattle.ob_reopen.specs.Keepers.{GivesMark, KeeperState}
use Rattle.ob_reopen.specs.declared.fault.CloseErr.{CloseErr}
use Rattle.ob_seal.specs.KeySet.{KeySet}
use Rattle.ob_seal.specs.Sealed.{keys_of}
use Rattle.ob_shell.specs.Closed.{LineWritten, Unwritten}
use Rattle.ob_shell.specs.Feeding.{Fetch}
use Rattle.ob_shell.specs.Generating.{SummedUp}
use Rattle.ob_shell.specs.Running.{OutFailed, ServesAlone, Silenced, StopCause}
use Rattle.ob_shell.specs.Standing.{StandsOn}
use Rattle.ob_shell.specs.Steps.{IsReady, machine_of, no_flights, told_nothing}
use Rattle.ob_shell.specs.Tallies.{has_refused}
use Rattle.ob_shell.specs.Top.{EndingCause, RanAfter, RunShown, sink_of}
use Rattle.ob_shell.specs.Traces.{Traced}
use Rattle.ob_shell.specs.declared.keeping.KeptEnded.{KeptEnded}
use Rattle.ob_store.specs.State.{StoreState}
use Rattle.ob_vault.specs.State.{RevState}
use Rattle.ob_headline.specs.Story.{Story}
use Rattle.ob_headline.specs.declared.flight.FlightSettings.{FlightSettings}
use Rattle.ob_headline.specs.Prompt.{Prompt}

-- an engine with which a run may go on from this base that saves nothing
pub record Engages {R : Type 0} (state : R → RevState) (base : Base) (config : Config)
    (keys : KeySet) (e : Engine R) (s : StoreState) : Type 0 where
  pub stands : StandsOn state base config keys e s
  pub ready : IsReady state ⊥ (machine_of e s told_nothing no_flights)
  pub few : count_of e s < 2 ^ 63 + 2 ^ 59
  pub from : opened_from e ≡ region_opened base.opened
  pub high : high_of e ≤ 1

-- that of the mark that was read
pub record HasEngine {R : Type 0} (state : R → RevState) (mark : Result Mark Failed)
    (config : Config) (key : List ℕ) (e : Engine R) (old new : StoreState) : Type 0 where
  pub held : Mark
  pub is : mark ≡ Ok held
  pub base : Base
  pub begins : BeginsFrom held config (keys_of key) base old new
  pub engages : Engages state base config (keys_of key) e new

-- the mark was read, and the engine is that of it, or how the run ended
pub record FindsEngine {R : Type 0} (state : R → RevState) (config : Config) (key : List ℕ)
    (result : Result (Engine R) KeptEnding) (old new : StoreState) (keeper0 keeper1 : KeeperState)
    : Type 0 where
  pub mark : Result Mark Failed
  pub gives : GivesMark mark keeper0 keeper1
  pub log : new.let_go ≡ old.let_go
  pub ok : IfOk result (λ e. HasEngine state mark config key e old new)
  pub err : IfErr result (λ ending. EndsAtMark mark config (keys_of key) ending old new)

-- the run began
pub record StartsRun {R : Type 0} (state : R → RevState) (config : Config) (key : List ℕ)
    (tracing : Bool) (e : Engine R) (old new : StoreState) (traced0 traced1 : Option (List ℕ))
    (fault0 fault1 : ℕ) (keeper0 keeper1 : KeeperState) : Type 0 where
  pub base : Base
  pub began : BeganKept config (keys_of key) tracing base old new traced0 traced1 keeper0 keeper1
  pub engages : Engages state base config (keys_of key) e new
  pub faults : fault1 ≡ fault0

-- a last line may not be written where the trace's sink failed, and only there
pub record IsHushed (quiet : Bool) (fault0 fault1 : ℕ) : Type 0 where
  pub rose : quiet ≡ true → Rises fault0 fault1
  pub kept : quiet ≡ false → fault1 ≡ fault0

-- it didn't begin
pub record EndsUnserved (config : Config) (key : List ℕ) (tracing : Bool) (ended : KeptEnded)
    (old new : StoreState) (traced0 traced1 : Option (List ℕ)) (fault0 fault1 : ℕ)
    (keeper0 keeper1 : KeeperState) : Type 0 where
  pub begun : NotBegun config (keys_of key) ended.ending old new fault0 fault1 keeper0 keeper1
  pub traced_all : Outputs traced0 traced1 (Rises fault0 fault1) (traced tracing new.asked)
  pub quiet : IsHushed ended.quiet fault0 fault1
  pub later : fault0 ≤ fault1
  pub high : ended.high ≤ 1

-- the engine was closed, or why not
pub record ClosesRun {R : Type 0} (state : R → RevState) (tally : Tally) (tracing : Bool)
    (e : Engine R) (ended : KeptEnded) (old new : StoreState)
    (traced0 traced1 : Option (List ℕ)) (fault0 fault1 : ℕ) (keeper0 keeper1 : KeeperState)
    : Type 0 where
  pub result : Result Mark CloseErr
  pub engine : ClosesEngine state result e old new
  pub traced_all : Traced tracing old.asked new.asked traced0 traced1 (Rises fault0 fault1)
  pub later : fault0 ≤ fault1
  pub ends : EndsWith result (Plain (Ran (Ok (has_refused tally)))) ended.ending fault0 fault1
      keeper0 keeper1
  pub quiet : IsHushed ended.quiet fault0 fault1
  pub high : ended.high ≡ high_of e
  pub counted : ended.ending ≡ Plain (Ran (Ok (has_refused tally))) → ended.tally ≡ tally

-- a session that came to its end was closed, or why not
pub record ClosedRun (base : Base) (keys : KeySet) (tracing : Bool) (tally : Tally)
    (story : Story) (high : ℕ) (ended : KeptEnded) (begun served new : StoreState)
    (traced0 traced1 : Option (List ℕ)) (fault0 fault1 : ℕ) (keeper0 keeper1 : KeeperState)
    : Type 0 where
  pub tables : ClosesTables base keys tracing (has_refused tally) story
      begun served new traced0 traced1 fault0 fault1 keeper0 keeper1 ended.ending
  pub later : fault0 ≤ fault1
  pub quiet : IsHushed ended.quiet fault0 fault1
  pub rows : ended.high ≡ high
  pub counted : ended.ending ≡ Plain (Ran (Ok (has_refused tally))) → ended.tally ≡ tally

-- texts were served with the engine until a stop came, and nothing was done after that
pub record StopsRun {R : Type 0} (state : R → RevState) (base : Base) (key : List ℕ)
    (tracing : Bool) (ended : KeptEnded)
    (feed0 feed1 : Fetch) (left0 left1 : Option (List ℕ)) (gave : ℕ)
    (written0 written1 traced0 traced1 : Option (List ℕ)) (begun new : StoreState)
    (old_faults new_faults : Faults) (keeper0 keeper1 : KeeperState) : Type 0 where
  pub stop : Stop
  pub ran : RanAfter state (sink_of tracing traced0 traced1) base (keys_of key) (Some key)
      feed0 feed1 left0 left1 gave written0 written1 begun new ended.high
      (OutFailed ended.quiet old_faults.out new_faults.out) (Err stop)
  pub traced_all : Traced tracing begun.asked new.asked traced0 traced1 (ended.quiet ≡ true)
  pub cause : StopCause {T = Bool} (ServesAlone base.flight base.public) old_faults new_faults (Err stop)
  pub silent : Silenced ended.quiet old_faults new_faults
  pub ending : ended.ending ≡ Plain (Ran (Err stop))
  pub kept : keeper1 ≡ keeper0

-- they came to their end, and the engine was closed, or why not
pub record ServesAll {R : Type 0} (state : R → RevState) (base : Base) (key : List ℕ)
    (tracing : Bool) (ended : KeptEnded)
    (feed0 feed1 : Fetch) (left0 left1 : Option (List ℕ)) (gave : ℕ)
    (written0 written1 traced0 traced2 : Option (List ℕ)) (begun new : StoreState)
    (old_faults new_faults : Faults) (keeper0 keeper1 : KeeperState) : Type 0 where
  pub tally : Tally
  pub high : ℕ
  pub served : StoreState
  pub traced1 : Option (List ℕ)
  pub ran : RanAfter state (sink_of tracing traced0 traced1) base (keys_of key) (Some key)
      feed0 feed1 left0 left1 gave written0 written1 begun served high
      (OutFailed false old_faults.out new_faults.out) (Ok tally)
  pub traced_all : Traced tracing begun.asked served.asked traced0 traced1 ⊥
  pub source : new_faults.source ≡ old_faults.source
  pub out : new_faults.out ≡ old_faults.out
  pub closed : ClosedRun base (keys_of key) tracing tally ran.story high ended begun served new
      traced1 traced2 old_faults.trace new_faults.trace keeper0 keeper1

abbrev pub ServesRun : {R : Type 0} → (R → RevState) → Base → (key : List ℕ) → (tracing : Bool)
    → KeptEnded → (feed0 feed1 : Fetch) → (left0 left1 : Option (List ℕ)) → (gave : ℕ)
    → (written0 written1 traced0 traced1 : Option (List ℕ)) → (begun new : StoreState)
    → (old_faults new_faults : Faults) → (keeper0 keeper1 : KeeperState) → Type 0
ServesRun state base key tracing ended feed0 feed1 left0 left1 gave written0 written1 traced0
    traced1 begun new old_faults new_faults keeper0 keeper1 =
    StopsRun state base key tracing ended feed0 feed1 left0 left1 gave written0 written1
    traced0 traced1 begun new old_faults new_faults keeper0 keeper1
    ⊎ ServesAll state base key tracing ended feed0 feed1 left0 left1 gave written0 written1
    traced0 traced1 begun new old_faults new_faults keeper0 keeper1

-- ---- what is written last
-- the last line was written where it might be
pub record KeptClosedBy (ending : KeptEnding) (quiet : Bool) (written0 written1 : Option (List ℕ))
    (fault0 fault1 : ℕ) (status : ℕ) : Type 0 where
  pub told : status ≡ kept_status ending
  pub silent : quiet ≡ true → Unwritten written0 written1 fault0 fault1
  pub line : quiet ≡ false → LineWritten (kept_line ending) written0 written1 fault0 fault1

abbrev pub KeptConcludedBy : KeptEnding → (quiet : Bool) → Tally → List Access
    → (written0 written1 : Option (List ℕ)) (fault0 fault1 : ℕ) (status : ℕ) → Type 0
KeptConcludedBy (Plain Usage) quiet tally asked w0 w1 f0 f1 status =
    KeptClosedBy (Plain Usage) quiet w0 w1 f0 f1 status
KeptConcludedBy (Plain BadKey) quiet tally asked w0 w1 f0 f1 status =
    KeptClosedBy (Plain BadKey) quiet w0 w1 f0 f1 status
KeptConcludedBy (Plain (Ran (Ok refused))) quiet tally asked w0 w1 f0 f1 status =
    SummedUp refused (summary_text (summary_of tally asked)) w0 w1 f0 f1 status
KeptConcludedBy (Plain (Ran (Err stop))) quiet tally asked w0 w1 f0 f1 status =
    KeptClosedBy (Plain (Ran (Err stop))) quiet w0 w1 f0 f1 status
KeptConcludedBy other quiet tally asked w0 w1 f0 f1 status =
    KeptClosedBy other quiet w0 w1 f0 f1 status

-- ---- the whole run, except for its last line
-- neither the keeper nor the store was asked for anything
pub record RanUnkeyed (config : Config) (flight : Option FlightSettings) (tracing : Bool)
    (ended : KeptEnded) (old new : Outside) (keeper0 keeper1 : KeeperState) : Type 0 where
  pub ending : Ending
  pub is : ended.ending ≡ Plain ending
  pub read : ending ≢ Usage
  pub shown : RunShown ended.tally (sink_of tracing old.traced new.traced)
      (flying flight (fresh (Some config)))
      keys_in old.left new.left new.gave old.written new.written old.store new.store ended.high
      ending [] ⊥
  pub ends : EndsUnkeyed ending shown.taken
  pub unanswered : shown.story.answers ≡ []
  pub cause : EndingCause (Unit {0}) ending old.faults new.faults
  pub loud : ended.quiet ≡ false
  pub silent : Silenced false old.faults new.faults
  pub traced : new.traced ≡ old.traced
  pub unasked : new.store ≡ old.store
  pub kept : keeper1 ≡ keeper0

-- the first line was taken, and no statement was served
pub record RanUnbegun (config : Config) (tracing : Bool) (ended : KeptEnded) (old new : Outside)
    (keeper0 keeper1 : KeeperState) : Type 0 where
  pub taken : List ℕ
  pub given : Consumes old.left new.left taken
  pub within : length taken ≤ config.max_input
  pub prompt : Prompt (first_public config) 1 1 taken [] new.gave
  pub secret : List ℕ
  pub keyed : secret_of (first_line taken) ≡ Some secret
  pub unserved : EndsUnserved config secret tracing ended old.store new.store
      old.traced new.traced old.faults.trace new.faults.trace keeper0 keeper1
  pub written : new.written ≡ old.written
  pub source : new.faults.source ≡ old.faults.source
  pub out : new.faults.out ≡ old.faults.out

-- the first line was taken, and what it goes on from
pub record RanBegun (config : Config) (tracing : Bool) (old : Outside) (keeper0 : KeeperState)
    : Type 0 where
  pub secret : List ℕ
  pub base : Base
  pub opened : StoreState
  pub traced : Option (List ℕ)
  pub in_use : KeeperState
  pub began : BeganKept config (keys_of secret) tracing base old.store opened old.traced traced
      keeper0 in_use
  pub set : base.settings ≡ Some config
  pub first : opened.asked ≡ base.before

-- texts were served until a stop came
pub record RanStopped (config : Config) (flight : Option FlightSettings) (tracing : Bool)
    (ended : KeptEnded) (old new : Outside) (keeper0 keeper1 : KeeperState) : Type 0 where
  pub begun : RanBegun config tracing old keeper0
  pub stop : Stop
  pub shown : RunShown ended.tally (sink_of tracing begun.traced new.traced)
      (flying flight begun.base)
      keys_in old.left new.left new.gave old.written new.written begun.opened new.store ended.high
      (Ran (Err stop)) [] (OutFailed ended.quiet old.faults.out new.faults.out)
  pub keyed : secret_of (first_line shown.taken) ≡ Some begun.secret
  pub traced_all : Traced tracing begun.opened.asked new.store.asked begun.traced new.traced
      (ended.quiet ≡ true)
  pub cause : EndingCause (ServesAlone flight begun.base.public) (Ran (Err stop))
      old.faults new.faults
  pub silent : Silenced ended.quiet old.faults new.faults
  pub ending : ended.ending ≡ Plain (Ran (Err stop))
  pub kept : keeper1 ≡ begun.in_use

-- they came to their end, and the tables were closed, or why not
pub record RanWhole (config : Config) (flight : Option FlightSettings) (tracing : Bool)
    (ended : KeptEnded) (old new : Outside) (keeper0 keeper1 : KeeperState) : Type 0 where
  pub begun : RanBegun config tracing old keeper0
  pub tally : Tally
  pub high : ℕ
  pub served : StoreState
  pub traced : Option (List ℕ)
  pub shown : RunShown tally (sink_of tracing begun.traced traced)
      (flying flight begun.base)
      keys_in old.left new.left new.gave old.written new.written begun.opened served high
      (Ran (Ok (has_refused tally))) [] (OutFailed false old.faults.out new.faults.out)
  pub keyed : secret_of (first_line shown.taken) ≡ Some begun.secret
  pub traced_all : Traced tracing begun.opened.asked served.asked begun.traced traced ⊥
  pub source : new.faults.source ≡ old.faults.source
  pub out : new.faults.out ≡ old.faults.out
  pub closed : ClosedRun (flying flight begun.base) (keys_of begun.secret) tracing tally shown.story high
      ended begun.opened served new.store traced new.traced old.faults.trace new.faults.trace
      begun.in_use keeper1

abbrev pub RanKept : Config → Option FlightSettings → (tracing : Bool) → KeptEnded → (old new : Outside)
    → (keeper0 keeper1 : KeeperState) → Type 0
RanKept config flight tracing ended old new keeper0 keeper1 =
    RanUnkeyed config flight tracing ended old new keeper0 keeper1
    ⊎ (RanUnbegun config tracing ended old new keeper0 keeper1
    ⊎ (RanStopped config flight tracing ended old new keeper0 keeper1
    ⊎ RanWhole config flight tracing ended old new keeper0 keeper1))

-- over the text that is generated from this seed, and what was written after it
pub record GeneratedBy (Ran : KeptEnded → (old new : Outside) → Type 0) (seed : Seed)
    (traced0 traced1 : Option (List ℕ)) (store0 store1 : StoreState) (trace0 trace1 : ℕ)
    (written0 written1 : Option (List ℕ)) (out0 out1 : ℕ) (report : Report) : Type 0 where
  pub ended : KeptEnded
  pub left : List ℕ
  pub gave : ℕ
  pub ran : Ran ended (outside_of (Some (generated seed.start seed.rows)) 0 None traced0 store0
      (faults_of 0 0 trace0))
      (outside_of (Some left) gave None traced1 store1 (faults_of 0 0 trace1))
  pub high : report.high ≡ ended.high
  pub concluded : KeptConcludedBy ended.ending ended.quiet ended.tally store1.asked
      written0 written1 out0 out1 report.status

abbrev pub KeptGenerated : (config : Config) (flight : Option FlightSettings) (tracing : Bool)
    (seed : Seed) (traced0 traced1 : Option (List ℕ)) (store0 store1 : StoreState)
    (trace0 trace1 : ℕ) (keeper0 keeper1 : KeeperState) (written0 written1 : Option (List ℕ))
    (out0 out1 : ℕ) → Report → Type 0
KeptGenerated config flight tracing seed t0 t1 s0 s1 trace0 trace1 k0 k1 w0 w1 out0 out1 report =
    GeneratedBy (λ ended old new. RanKept config flight tracing ended old new k0 k1) seed
    t0 t1 s0 s1 trace0 trace1 w0 w1 out0 out1 report
