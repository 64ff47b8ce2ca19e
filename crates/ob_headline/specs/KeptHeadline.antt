-- The headline of a run whose tables are kept: an opening, a session that goes on from it, and a closing.
use Rattle.std.specs.Prelude.{ℕ, ◌≡◌, ◌≢◌, ◌≤◌, ◌⊎◌, ⊤, Bool, false, List, [], ◌++◌, length, Option, Some, Ok, Err}
use Rattle.std.specs.Io.KnownBytes.{Consumes}
use Rattle.ob_base.specs.Publics.{first_public}
use Rattle.ob_base.specs.declared.config.Config.{Config}
use Rattle.ob_reopen.specs.declared.mark.Mark.{Mark}
use Rattle.ob_base.specs.declared.refusal.Stop.TheVariants.{Tampered, SourceFault, SinkFault, NoMemory, InputLimit, StoreFault, StashFull, KeeperFault}
use Rattle.ob_reopen.specs.Closed.{is_used_up}
use Rattle.ob_reopen.specs.Resting.{AcceptsClosings, IsAtRest, by_name}
use Rattle.ob_headline.specs.Bases.{Base, FromEach, drawing, flying, fresh}
use Rattle.ob_headline.specs.Headline.{Headline}
use Rattle.ob_headline.specs.Keeping.{BeganKept, Closes, NotBegun, closing_behind, kept_line, kept_status, region_opened}
use Rattle.ob_headline.specs.KeyLine.{first_line, has_lf, secret_of}
use Rattle.ob_headline.specs.Tracing.{traced}
use Rattle.ob_headline.specs.Words.{Answer, IsHonest, Outside, SinksRose, keys_in, outside_of}
use Rattle.ob_headline.specs.Flights.{public_after, positions_of}
use Rattle.ob_headline.specs.Meaning.{AnswersFrom, session_after}
use Rattle.ob_headline.specs.Sealing.{PassesRows, SealsEach, SealsOwn}
use Rattle.ob_headline.specs.declared.ending.Ending.{Ending}
use Rattle.ob_headline.specs.declared.ending.Ending.TheVariants.{Usage, BadKey, Ran}
use Rattle.ob_headline.specs.declared.ending.KeptEnding.{KeptEnding}
use Rattle.ob_headline.specs.declared.ending.KeptEnding.TheVariants.{Plain}
use Rattle.ob_headline.specs.declared.ending.Report.{Report}
use Rattle.ob_headline.specs.declared.flight.FlightSettings.{FlightSettings}
use Rattle.ob_mean.specs.Replay.{Broken}
use Rattle.ob_print.specs.Cuts.{Outputs}
use Rattle.ob_reopen.specs.Keepers.{KeeperState}
use Rattle.ob_reopen.specs.declared.closing.Closing.{Closing}
use Rattle.ob_seal.specs.KeySet.{KeySet}
use Rattle.ob_seal.specs.Sealed.{keys_of}
use Rattle.ob_store.specs.Runs.{Later}
use Rattle.ob_store.specs.State.{FalseRead, StoreState}
use Rattle.ob_vault.specs.Tied.{TagFits}
use Rattle.ob_headline.specs.Story.{Story}
use Rattle.ob_headline.specs.Prompt.{Prompt}

-- ---- before the keeper is asked
-- the words aren't taken, or the first line had not come, or it is no secret
abbrev pub EndsUnkeyed : Ending → (taken : List ℕ) → Type 0
EndsUnkeyed Usage taken = ⊤
EndsUnkeyed BadKey taken = ⊤
EndsUnkeyed (Ran (Ok refused)) taken = ⊥
EndsUnkeyed (Ran (Err (Tampered region place))) taken = ⊥
EndsUnkeyed (Ran (Err SourceFault)) taken = has_lf taken ≡ false
EndsUnkeyed (Ran (Err SinkFault)) taken = ⊥
EndsUnkeyed (Ran (Err NoMemory)) taken = taken ≡ []
EndsUnkeyed (Ran (Err InputLimit)) taken = has_lf taken ≡ false
EndsUnkeyed (Ran (Err StoreFault)) taken = ⊥
EndsUnkeyed (Ran (Err StashFull)) taken = ⊥
EndsUnkeyed (Ran (Err KeeperFault)) taken = ⊥

-- the run ended as one does whose tables aren't kept, and neither the keeper nor the store was asked for anything
pub record Unkeyed (settings : Option Config) (flight : Option FlightSettings) (Takes : Type 0)
    (tracing : Bool) (old new : Outside) (keeper0 keeper1 : KeeperState) (ending : KeptEnding)
    (answers : List Answer) (report : Report) : Type 0 where
  pub headline : Headline (flying flight (fresh settings)) keys_in Takes tracing old new report
  pub ends : EndsUnkeyed headline.ending headline.taken
  pub is : ending ≡ Plain headline.ending
  pub unanswered : answers ≡ []
  pub unasked : new.store ≡ old.store
  pub kept : keeper1 ≡ keeper0

-- ---- before a statement is served
-- the first line was taken, and the run ended before the first statement, for this reason, by the settings and the secret:
-- its last line says why
pub record Unserved (Why : Config → (secret : List ℕ) → Type 0) (settings : Option Config)
    (Takes : Type 0) (tracing : Bool) (old new : Outside) (ending : KeptEnding)
    (answers : List Answer) (report : Report) : Type 0 where
  pub takes : Takes
  pub config : Config
  pub set : settings ≡ Some config
  pub taken : List ℕ
  pub given : Consumes old.left new.left taken
  pub within : length taken ≤ config.max_input
  pub prompt : Prompt (first_public config) 1 1 taken [] new.gave
  pub secret : List ℕ
  pub keyed : secret_of (first_line taken) ≡ Some secret
  pub begun : Why config secret
  pub unanswered : answers ≡ []
  pub grew : Outputs old.written new.written (SinksRose old.faults new.faults) (kept_line ending)
  pub silent : new.faults.trace ≢ old.faults.trace → new.written ≡ old.written
  pub traced_all : Outputs old.traced new.traced (SinksRose old.faults new.faults)
      (traced tracing new.store.asked)
  pub source : new.faults.source ≡ old.faults.source
  pub most_open : report.high ≤ 1

-- it ended at what the keeper held, while tables were opened, or right after that
abbrev pub Unbegun : (settings : Option Config) → (Takes : Type 0) → (tracing : Bool)
    → (old new : Outside) → (keeper0 keeper1 : KeeperState) → (ending : KeptEnding)
    → (answers : List Answer) → (report : Report) → Type 0
Unbegun settings Takes tracing old new keeper0 keeper1 ending answers report =
    Unserved (λ config secret. NotBegun config (keys_of secret) ending old.store new.store
    old.faults.trace new.faults.trace keeper0 keeper1) settings Takes tracing old new ending
    answers report

-- ---- the closing
-- tests of bytes that the blocks of tables and those of closings pass
abbrev pub PassesBoth : (pack : ℕ) → (good : List ℕ → Bool) → Type 0
PassesBoth pack good = PassesRows good pack × AcceptsClosings (λ region. good)

-- the tables of a session that came to its end were closed, or why not; its answers and what is seen are these
pub record ClosesTables (base : Base) (keys : KeySet) (tracing refused : Bool) (story : Story)
    (begun served new : StoreState) (traced0 traced1 : Option (List ℕ)) (fault0 fault1 : ℕ)
    (keeper0 keeper1 : KeeperState) (ending : KeptEnding) : Type 0 where
  pub closing : Closing
  pub is : closing ≡ closing_behind (public_after base story.entries) base.start served.asked
  pub closes : Closes closing (region_opened base.opened) tracing (Plain (Ran (Ok refused))) ending
      served new traced0 traced1 fault0 fault1 keeper0 keeper1
  pub later : Later served new
  pub fits : (lie : FalseRead) → new.lie ≡ Some lie → TagFits keys base.start lie
  -- where the store tells what it holds and gave what was written, the tables rest in it: those that the statements leave
  pub rests : IsHonest begun new → is_used_up closing ≡ false → (mark : Mark)
      → closes.result ≡ Ok mark → FromEach base (λ s. (broken : Broken)
      × AnswersFrom (Ran (Ok refused)) (positions_of base story.entries) (drawing keys s) story.spelt
      broken story.answers (story.seen ++ story.last) story.part
      × IsAtRest keys closing new.kept (by_name (session_after (positions_of base story.entries)
      (drawing keys s) story.spelt broken).tables))
  -- and no block of a live region lies in clear, of the closing neither
  pub sealed : SealsOwn (PassesBoth base.public.pack) base keys begun new
  pub sealed_before : SealsEach (PassesBoth base.public.pack) base keys begun new

-- that is all; the input is not read on, and nothing is written but the last line
pub record IsClosed (base : Base) (keys : KeySet) (tracing refused : Bool) (story : Story)
    (begun served new : Outside) (keeper0 keeper1 : KeeperState) (ending : KeptEnding) : Type 0 where
  pub tables : ClosesTables base keys tracing refused story
      begun.store served.store new.store served.traced new.traced
      served.faults.trace new.faults.trace keeper0 keeper1 ending
  pub left : new.left ≡ served.left
  pub gave : new.gave ≡ served.gave
  pub source : new.faults.source ≡ served.faults.source
  pub grew : Outputs served.written new.written (SinksRose served.faults new.faults) (kept_line ending)
  pub silent : new.faults.trace ≢ served.faults.trace → new.written ≡ served.written

-- nothing is closed after a stop
pub record IsLeftOpen (stopped : Ending) (served new : Outside) (run report : Report)
    (keeper0 keeper1 : KeeperState) (ending : KeptEnding) : Type 0 where
  pub is : ending ≡ Plain stopped
  pub same : new ≡ served
  pub reports : report ≡ run
  pub kept : keeper1 ≡ keeper0

-- ---- a session
-- what lies outside of a run once its tables were opened
abbrev pub begun_at : Outside → StoreState → (traced : Option (List ℕ)) → Outside
begun_at old store traced =
    outside_of old.left old.gave old.written traced store old.faults

-- how it ends after the session: closed where that came to its end
abbrev pub EndsBehind : Ending → Base → KeySet → (tracing : Bool) → Story
    → (begun served new : Outside)
    → (run report : Report) → (keeper0 keeper1 : KeeperState) → KeptEnding → Type 0
EndsBehind (Ran (Ok refused)) base keys tracing story begun served new run report keeper0
    keeper1 ending =
    IsClosed base keys tracing refused story begun served new keeper0 keeper1 ending
EndsBehind (Ran (Err stop)) base keys tracing story begun served new run report keeper0
    keeper1 ending =
    IsLeftOpen (Ran (Err stop)) served new run report keeper0 keeper1 ending
EndsBehind Usage base keys tracing story begun served new run report keeper0
    keeper1 ending = ⊥
EndsBehind BadKey base keys tracing story begun served new run report keeper0
    keeper1 ending = ⊥

-- the keeper held a mark from which the run could begin; it holds that the store is in use; a session went on from the
-- tables that were opened, if any were, and was closed where it came to its end
pub record SessionKept (settings : Option Config) (flight : Option FlightSettings)
    (Takes : Type 0) (tracing : Bool) (old new : Outside) (keeper0 keeper1 : KeeperState)
    (ending : KeptEnding) (answers : List Answer) (report : Report) : Type 0 where
  pub takes : Takes
  pub config : Config
  pub set : settings ≡ Some config
  pub secret : List ℕ
  pub base : Base
  pub opened : StoreState
  pub traced : Option (List ℕ)
  pub in_use : KeeperState
  pub began : BeganKept config (keys_of secret) tracing base old.store opened old.traced traced
      keeper0 in_use
  pub served : Outside
  pub run : Report
  pub session : Headline (flying flight base) keys_in Takes tracing (begun_at old opened traced)
      served run
  pub keyed : secret_of (first_line session.taken) ≡ Some secret
  pub answered : answers ≡ session.story.answers
  pub high : report.high ≡ run.high
  pub behind : EndsBehind session.ending (flying flight base) (keys_of secret) tracing
      session.story (begun_at old opened traced) served new run report in_use keeper1 ending

-- one of the three
abbrev pub RunKept : Option Config → Option FlightSettings → (Takes : Type 0) → (tracing : Bool)
    → (old new : Outside) → (keeper0 keeper1 : KeeperState) → KeptEnding → List Answer → Report
    → Type 0
RunKept settings flight Takes tracing old new keeper0 keeper1 ending answers report =
    Unkeyed settings flight Takes tracing old new keeper0 keeper1 ending answers report
    ⊎ (Unbegun settings Takes tracing old new keeper0 keeper1 ending answers report
    ⊎ SessionKept settings flight Takes tracing old new keeper0 keeper1 ending answers report)

-- of words that the program takes, or doesn't, of the settings that they spell, and of how SELECTs fly then, if they do
pub record KeptHeadline (settings : Option Config) (flight : Option FlightSettings)
    (Takes : Type 0) (tracing : Bool) (old new : Outside) (keeper0 keeper1 : KeeperState)
    (report : Report) : Type 0 where
  pub ending : KeptEnding
  pub status : report.status ≡ kept_status ending
  pub answers : List Answer
  pub ran : RunKept settings flight Takes tracing old new keeper0 keeper1 ending answers report
