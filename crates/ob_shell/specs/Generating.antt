-- Runs over the text that is generated in place of the input.
use Rattle.std.specs.Prelude.{ℕ, ◌≡◌, ◌≢◌, ◌≤◌, ◌⊎◌, ⊤, Bool, true, false, List, Option, Some, None, Ok, Err, option_and_then}
use Rattle.std.specs.Io.KnownBytes.{Appends}
use Rattle.clap.specs.Words.{App, Text}
use Rattle.ob_base.specs.Counts.{Rises}
use Rattle.ob_base.specs.declared.access.Access.{Access}
use Rattle.ob_base.specs.declared.config.Config.{Config}
use Rattle.ob_base.specs.declared.refusal.Stop.TheVariants.{SinkFault}
use Rattle.ob_gen.specs.Generated.{generated}
use Rattle.ob_gen.specs.SummaryText.{summary_of, summary_text}
use Rattle.ob_gen.specs.declared.tally.Tally.{Tally}
use Rattle.ob_headline.specs.Bases.{flying, fresh}
use Rattle.ob_headline.specs.Endings.{last_line, status_of}
use Rattle.ob_headline.specs.Headline.{Headline}
use Rattle.ob_headline.specs.declared.flight.FlightSettings.{FlightSettings}
use Rattle.ob_headline.specs.Settings.{generated_by}
use Rattle.ob_headline.specs.Words.{Faults, Outside, SinksRose, faults_of, keys_in, outside_of}
use Rattle.ob_headline.specs.declared.ending.Ending.{Ending}
use Rattle.ob_headline.specs.declared.ending.Ending.TheVariants.{Usage, BadKey, Ran}
use Rattle.ob_headline.specs.declared.ending.Report.{Report}
use Rattle.ob_headline.specs.declared.seed.Seed.{Seed}
use Rattle.ob_meddle.specs.declared.store.MeddledStore.{MeddledStore}
use Rattle.ob_print.specs.Cuts.{Outputs}
use Rattle.ob_shell.specs.Closed.{LineWritten, Unwritten}
use Rattle.ob_shell.specs.Meddling.{Meddled}
use Rattle.ob_shell.specs.Top.{EndingTally, Reported, sink_of}
use Rattle.ob_shell.specs.Traces.{Traced}
use Rattle.ob_store.specs.State.{StoreState}

-- which text the words ask for, if they ask for one
abbrev pub asked_for : App → List Text → Option Seed
asked_for app words = option_and_then (λ (seed : Option Seed). seed) (generated_by app words)

-- ---- the end of such a run
-- a run that came to the end of the text ends with its summary, another one with its last line
abbrev pub conclusion : Ending → Tally → List Access → List ℕ
conclusion Usage tally asked = last_line Usage
conclusion BadKey tally asked = last_line BadKey
conclusion (Ran (Ok refused)) tally asked = summary_text (summary_of tally asked)
conclusion (Ran (Err stop)) tally asked = last_line (Ran (Err stop))

-- the summary was written, or cut by a sink's fault, which is then the status
pub record SummedUp (refused : Bool) (text : List ℕ) (written0 written1 : Option (List ℕ))
    (faults0 faults1 : ℕ) (status : ℕ) : Type 0 where
  pub cut : Outputs written0 written1 (Rises faults0 faults1) text
  pub later : faults0 ≤ faults1
  pub told : ((status ≡ status_of (Ran (Ok refused))) × Appends written0 written1 text
      × (faults1 ≡ faults0))
      ⊎ ((status ≡ status_of (Ran (Err SinkFault))) × Rises faults0 faults1)

-- the last line was written where it might be
pub record ClosedBy (ending : Ending) (quiet : Bool) (written0 written1 : Option (List ℕ))
    (faults0 faults1 : ℕ) (status : ℕ) : Type 0 where
  pub told : status ≡ status_of ending
  pub silent : quiet ≡ true → Unwritten written0 written1 faults0 faults1
  pub line : quiet ≡ false → LineWritten (last_line ending) written0 written1 faults0 faults1

abbrev pub ConcludedBy : Ending → (quiet : Bool) → Tally → List Access
    → (written0 written1 : Option (List ℕ)) (faults0 faults1 : ℕ) (status : ℕ) → Type 0
ConcludedBy Usage quiet tally asked w0 w1 f0 f1 status = ClosedBy Usage quiet w0 w1 f0 f1 status
ConcludedBy BadKey quiet tally asked w0 w1 f0 f1 status = ClosedBy BadKey quiet w0 w1 f0 f1 status
ConcludedBy (Ran (Ok refused)) quiet tally asked w0 w1 f0 f1 status =
    SummedUp refused (conclusion (Ran (Ok refused)) tally asked) w0 w1 f0 f1 status
ConcludedBy (Ran (Err stop)) quiet tally asked w0 w1 f0 f1 status =
    ClosedBy (Ran (Err stop)) quiet w0 w1 f0 f1 status

-- the status is that of the run, if it came to no end with a summary, or this was written whole; else it is a sink's
-- fault
abbrev pub StatusIs : Ending → (status : ℕ) (Whole Rose : Type 0) → Type 0
StatusIs Usage status Whole Rose = status ≡ status_of Usage
StatusIs BadKey status Whole Rose = status ≡ status_of BadKey
StatusIs (Ran (Ok refused)) status Whole Rose =
    ((status ≡ status_of (Ran (Ok refused))) × Whole)
    ⊎ ((status ≡ status_of (Ran (Err SinkFault))) × Rose)
StatusIs (Ran (Err stop)) status Whole Rose = status ≡ status_of (Ran (Err stop))

-- what was written of a run that ended so, and with which status; nothing after a fault of the trace's sink
pub record Concludes (ending : Ending) (tally : Tally) (asked : List Access) (opened : ℕ)
    (written0 written1 : Option (List ℕ)) (old new : Faults) (report : Report) : Type 0 where
  pub grew : Outputs written0 written1 (SinksRose old new) (conclusion ending tally asked)
  pub silent : new.trace ≢ old.trace → written1 ≡ written0
  pub status : StatusIs ending report.status
      (Appends written0 written1 (conclusion ending tally asked) × (new.out ≡ old.out))
      (Rises old.out new.out)
  pub later : old.out ≤ new.out
  pub high : report.high ≡ opened

-- ---- the run
-- what lies outside of it before and after: the generated text, and a sink that keeps no answer
abbrev pub before_text : Seed → Outside → Outside
before_text seed old = outside_of (Some (generated seed.start seed.rows)) 0 None old.traced
    old.store (faults_of 0 0 old.faults.trace)

abbrev pub after_text : (left : List ℕ) (gave : ℕ) → Outside → Outside
after_text left gave new = outside_of (Some left) gave None new.traced new.store
    (faults_of 0 0 new.faults.trace)

-- the input was not read
pub record IsUnread (old new : Outside) : Type 0 where
  pub left : new.left ≡ old.left
  pub gave : new.gave ≡ old.gave
  pub source : new.faults.source ≡ old.faults.source

-- a program ran over the text that is generated from this seed: of all except the input and the sink of the answers the
-- headline holds, with this text as input; and what is written is its summary, by what was counted of its answers, or
-- its last line
pub record Summarized (Takes : Type 0) (settings : Option Config)
    (flight : Option FlightSettings) (tracing : Bool) (seed : Seed) (old new : Outside) (report : Report) : Type 0 where
  pub unread : IsUnread old new
  pub run : Report
  pub left : List ℕ
  pub gave : ℕ
  pub headline : Headline (flying flight (fresh settings)) keys_in Takes tracing
      (before_text seed old) (after_text left gave new) run
  pub tally : Tally
  pub counted : EndingTally headline.ending headline.story.answers tally
  pub concludes : Concludes headline.ending tally new.store.asked run.high
      old.written new.written old.faults new.faults report

-- the same over a store that others change
pub record MeddleSummarized (words : List Text) (seed : Seed) (old : StoreState → Outside)
    (new : Outside) (store : MeddledStore) (report : Report) : Type 0 where
  pub run : Report
  pub left : List ℕ
  pub gave : ℕ
  pub meddled : Meddled words (λ start. before_text seed (old start)) (after_text left gave new)
      store run
  pub unread : IsUnread (old meddled.start) new
  pub tally : Tally
  pub counted : EndingTally meddled.headline.ending meddled.headline.story.answers tally
  pub concludes : Concludes meddled.headline.ending tally new.store.asked run.high
      (old meddled.start).written new.written (old meddled.start).faults new.faults report

-- over such a store, with generated text or without
abbrev pub MeddleRan : Option Seed → List Text → (StoreState → Outside) → Outside → MeddledStore
    → Report → Type 0
MeddleRan None words old new store report = Meddled words old new store report
MeddleRan (Some seed) words old new store report =
    MeddleSummarized words seed old new store report

-- ---- by the words that were taken
-- what was done with the text of this seed
pub record RanGenerated (seed : Seed) (tracing : Bool) (settings : Option Config)
    (flight : Option FlightSettings)
    (traced0 traced1 : Option (List ℕ)) (store0 store1 : StoreState) (trace0 trace1 : ℕ)
    (written0 written1 : Option (List ℕ)) (out0 out1 : ℕ) (report : Report) : Type 0 where
  pub run : Report
  pub left : List ℕ
  pub gave : ℕ
  pub tally : Tally
  pub reported : Reported tally (sink_of tracing traced0 traced1) ⊤
      (flying flight (fresh settings)) keys_in (Some (generated seed.start seed.rows)) (Some left) gave None None store0 store1
      (faults_of 0 0 trace0) (faults_of 0 0 trace1) run
  pub traces : Traced tracing store0.asked store1.asked traced0 traced1
      (SinksRose (faults_of 0 0 trace0) (faults_of 0 0 trace1))
  pub concludes : Concludes reported.ending tally store1.asked run.high written0 written1
      (faults_of 0 out0 trace0) (faults_of 0 out1 trace1) report
