-- A run that may keep its tables, by what its words ask for; and one that keeps them and serves the generated text.
use Rattle.std.specs.Prelude.{ℕ, ◌≡◌, ◌≢◌, ◌≤◌, ⊤, Bool, true, false, List, Option, Some, None}
use Rattle.std.specs.Io.KnownBytes.{Appends}
use Rattle.ob_base.specs.Counts.{Rises}
use Rattle.ob_base.specs.declared.access.Access.{Access}
use Rattle.ob_base.specs.declared.config.Config.{Config}
use Rattle.ob_gen.specs.declared.tally.Tally.{Tally}
use Rattle.ob_headline.specs.Bases.{flying, fresh}
use Rattle.ob_headline.specs.Headline.{Headline}
use Rattle.ob_headline.specs.declared.flight.FlightSettings.{FlightSettings}
use Rattle.ob_headline.specs.Keeping.{kept_line, kept_status}
use Rattle.ob_headline.specs.KeptHeadline.{KeptHeadline}
use Rattle.ob_headline.specs.Words.{Answer, Faults, Outside, SinksRose, keys_in}
use Rattle.ob_headline.specs.declared.ending.KeptEnding.{KeptEnding}
use Rattle.ob_headline.specs.declared.ending.KeptEnding.TheVariants.{Plain}
use Rattle.ob_headline.specs.declared.ending.Report.{Report}
use Rattle.ob_headline.specs.declared.seed.Seed.{Seed}
use Rattle.ob_print.specs.Cuts.{Outputs}
use Rattle.ob_reopen.specs.Keepers.{KeeperState}
use Rattle.ob_shell.specs.Generating.{IsUnread, StatusIs, Summarized, after_text, before_text, conclusion}
use Rattle.ob_shell.specs.Top.{EndingTally}

-- a run that came to the end of the text ends with its summary, another one with its last line
abbrev pub kept_conclusion : KeptEnding → Tally → List Access → List ℕ
kept_conclusion (Plain ending) tally asked = conclusion ending tally asked
kept_conclusion other tally asked = kept_line other

-- the status is that of the run, or a sink's fault where its summary was not written whole
abbrev pub KeptStatusIs : KeptEnding → (status : ℕ) (Whole Rose : Type 0) → Type 0
KeptStatusIs (Plain ending) status Whole Rose = StatusIs ending status Whole Rose
KeptStatusIs other status Whole Rose = status ≡ kept_status other

-- what was counted of the answers, where the run came to the end of its input
abbrev pub KeptTally : KeptEnding → List Answer → Tally → Type 0
KeptTally (Plain ending) answers tally = EndingTally ending answers tally
KeptTally other answers tally = ⊤

-- what was written of a run that ended so, and with which status; nothing after a fault of the trace's sink
pub record KeptConcludes (ending : KeptEnding) (tally : Tally) (asked : List Access) (opened : ℕ)
    (written0 written1 : Option (List ℕ)) (old new : Faults) (report : Report) : Type 0 where
  pub grew : Outputs written0 written1 (SinksRose old new) (kept_conclusion ending tally asked)
  pub silent : new.trace ≢ old.trace → written1 ≡ written0
  pub status : KeptStatusIs ending report.status
      (Appends written0 written1 (kept_conclusion ending tally asked) × (new.out ≡ old.out))
      (Rises old.out new.out)
  pub later : old.out ≤ new.out
  pub high : report.high ≡ opened

-- a run over the text that is generated from this seed, of which a headline of this form holds, with it as input and a sink that
-- keeps no answer; and what is written is its summary, by what was counted of its answers, or its last line
pub record SummarizedBy (Head : (old new : Outside) → Report → Type 0)
    (ending_of : (old new : Outside) (report : Report) → Head old new report → KeptEnding)
    (answers_of : (old new : Outside) (report : Report) → Head old new report → List Answer)
    (seed : Seed) (old new : Outside) (report : Report) : Type 0 where
  pub unread : IsUnread old new
  pub run : Report
  pub left : List ℕ
  pub gave : ℕ
  pub headline : Head (before_text seed old) (after_text left gave new) run
  pub tally : Tally
  pub counted : KeptTally (ending_of (before_text seed old) (after_text left gave new) run headline)
      (answers_of (before_text seed old) (after_text left gave new) run headline) tally
  pub concludes : KeptConcludes
      (ending_of (before_text seed old) (after_text left gave new) run headline) tally
      new.store.asked run.high
      old.written new.written old.faults new.faults report

-- of one whose tables are kept
abbrev pub KeptSummarized : (settings : Option Config) (flight : Option FlightSettings)
    (Takes : Type 0) (tracing : Bool) (seed : Seed) (old new : Outside)
    (keeper0 keeper1 : KeeperState) → Report → Type 0
KeptSummarized settings flight Takes tracing seed old new keeper0 keeper1 report =
    SummarizedBy (λ o n r. KeptHeadline settings flight Takes tracing o n keeper0 keeper1 r)
    (λ o n r h. h.ending) (λ o n r h. h.answers) seed old new report

-- whether tables are kept, and over which text, if one is generated; where none are kept, the keeper isn't asked
abbrev pub MayKeep : (keeps : Bool) → Option Seed → (settings : Option Config)
    → (flight : Option FlightSettings) → (Takes : Type 0) → (tracing : Bool) → (old new : Outside) → (keeper0 keeper1 : KeeperState) → Report → Type 0
MayKeep false None settings flight Takes tracing old new keeper0 keeper1 report =
    Headline (flying flight (fresh settings)) keys_in Takes tracing old new report × (keeper1 ≡ keeper0)
MayKeep false (Some seed) settings flight Takes tracing old new keeper0 keeper1 report =
    Summarized Takes settings flight tracing seed old new report × (keeper1 ≡ keeper0)
MayKeep true None settings flight Takes tracing old new keeper0 keeper1 report =
    KeptHeadline settings flight Takes tracing old new keeper0 keeper1 report
MayKeep true (Some seed) settings flight Takes tracing old new keeper0 keeper1 report =
    KeptSummarized settings flight Takes tracing seed old new keeper0 keeper1 report
