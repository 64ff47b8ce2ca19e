-- A run that may save its tables, by what its words ask for; and one that saves them, or has a salt and doesn't, and serves
-- the generated text.
use Rattle.std.specs.Prelude.{ℕ, Bool, true, false, List, Option, Some, None}
use Rattle.ob_base.specs.declared.config.Config.{Config}
use Rattle.ob_headline.specs.SaltedHeadline.{SaltedHeadline}
use Rattle.ob_headline.specs.SavedHeadline.{SavedHeadline}
use Rattle.ob_headline.specs.declared.flight.FlightSettings.{FlightSettings}
use Rattle.ob_headline.specs.Words.{Outside}
use Rattle.ob_headline.specs.declared.ending.Report.{Report}
use Rattle.ob_headline.specs.declared.seed.Seed.{Seed}
use Rattle.ob_reopen.specs.Keepers.{KeeperState}
use Rattle.ob_shell.specs.KeptSummary.{MayKeep, SummarizedBy}

-- the same of one whose tables are saved
abbrev pub SavedSummarized : (settings : Option Config) (flight : Option FlightSettings)
    (Takes : Type 0) (tracing : Bool) (seed : Seed) (old new : Outside)
    (keeper0 keeper1 : KeeperState) → Report → Type 0
SavedSummarized settings flight Takes tracing seed old new keeper0 keeper1 report =
    SummarizedBy (λ o n r. SavedHeadline settings flight Takes tracing o n keeper0 keeper1 r)
    (λ o n r h. h.ending) (λ o n r h. h.answers) seed old new report

-- of one that neither saves nor keeps them, and has a salt
abbrev pub SaltedSummarized : (settings : Option Config) (flight : Option FlightSettings)
    (Takes : Type 0) (tracing : Bool) (seed : Seed) (old new : Outside)
    (keeper0 keeper1 : KeeperState) → Report → Type 0
SaltedSummarized settings flight Takes tracing seed old new keeper0 keeper1 report =
    SummarizedBy (λ o n r. SaltedHeadline settings flight Takes tracing o n keeper0 keeper1 r)
    (λ o n r h. h.ending) (λ o n r h. h.answers) seed old new report

-- whether tables are saved, or kept where they aren't, and over which text, if one is generated
abbrev pub KeepsOrSaves : (saves keeps : Bool) → Option Seed → (settings : Option Config)
    → (flight : Option FlightSettings) → (Takes : Type 0) → (tracing : Bool) → (old new : Outside)
    → (keeper0 keeper1 : KeeperState) → Report → Type 0
KeepsOrSaves false false None settings flight Takes tracing old new keeper0 keeper1 report =
    SaltedHeadline settings flight Takes tracing old new keeper0 keeper1 report
KeepsOrSaves false false (Some seed) settings flight Takes tracing old new keeper0 keeper1 report =
    SaltedSummarized settings flight Takes tracing seed old new keeper0 keeper1 report
KeepsOrSaves false true seed settings flight Takes tracing old new keeper0 keeper1 report =
    MayKeep true seed settings flight Takes tracing old new keeper0 keeper1 report
KeepsOrSaves true keeps None settings flight Takes tracing old new keeper0 keeper1 report =
    SavedHeadline settings flight Takes tracing old new keeper0 keeper1 report
KeepsOrSaves true keeps (Some seed) settings flight Takes tracing old new keeper0 keeper1 report =
    SavedSummarized settings flight Takes tracing seed old new keeper0 keeper1 report
