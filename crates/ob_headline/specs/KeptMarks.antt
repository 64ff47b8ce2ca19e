-- The mark that a keeper holds once a run ended whose tables are kept, where it tells.
use Rattle.std.specs.Prelude.{◌≡◌, ◌⊎◌, Bool, if◌then◌else◌, List, Option, Some, Ok, Err}
use Rattle.std.proofs.Common.{inl, inr}
use Rattle.clap.specs.Words.{Text}
use Rattle.ob_base.specs.declared.config.Config.{Config}
use Rattle.ob_reopen.specs.declared.mark.Mark.{Mark}
use Rattle.ob_reopen.specs.declared.mark.Mark.TheVariants.{InUse}
use Rattle.ob_base.specs.declared.refusal.Stop.{Stop}
use Rattle.ob_reopen.specs.Closed.{is_used_up}
use Rattle.ob_headline.specs.Bases.{flying}
use Rattle.ob_headline.specs.Flights.{public_after}
use Rattle.ob_headline.specs.Keeping.{closing_behind}
use Rattle.ob_headline.specs.KeptHeadline.{KeptHeadline, RunKept}
use Rattle.ob_headline.specs.Settings.{IsTaken, flight_of, settings_of}
use Rattle.ob_headline.specs.Usage.{is_traced, kept_usage}
use Rattle.ob_headline.specs.Words.{Answer, Outside}
use Rattle.ob_headline.specs.declared.ending.Ending.TheVariants.{Ran}
use Rattle.ob_headline.specs.declared.ending.KeptEnding.{KeptEnding}
use Rattle.ob_headline.specs.declared.ending.KeptEnding.TheVariants.{Plain, StoreFault, KeeperFault}
use Rattle.ob_headline.specs.declared.ending.Report.{Report}
use Rattle.ob_headline.specs.declared.flight.FlightSettings.{FlightSettings}
use Rattle.ob_reopen.specs.Closings.{mark_of}
use Rattle.ob_reopen.specs.Keepers.{KeeperState}
use Rattle.ob_reopen.specs.declared.closing.Closing.{Closing}

-- what `keep_top` promises of a run with `--keep` that reads its input
abbrev pub KeptRun : List Text → (old new : Outside) → (keeper0 keeper1 : KeeperState) → Report
    → Type 0
KeptRun words old new keeper0 keeper1 report =
    KeptHeadline (settings_of kept_usage words) (flight_of kept_usage words)
    (IsTaken kept_usage words) (is_traced kept_usage words) old new keeper0 keeper1 report

-- the mark of a closing: the store stays in use where the numbers are used up
abbrev pub mark_made : Closing → Mark
mark_made closing = if is_used_up closing then InUse else mark_of closing

-- after a session that ended so: the store is in use, unless it was closed; either, where the keeper failed at the end
pub record HeldBehind (ending : KeptEnding) (closing : Closing) (held : Option Mark) : Type 0 where
  pub most : (held ≡ Some InUse) ⊎ (held ≡ Some (mark_made closing))
  pub whole : (refused : Bool) → ending ≡ Plain (Ran (Ok refused))
      → held ≡ Some (mark_made closing)
  pub stopped : (stop : Stop) → ending ≡ Plain (Ran (Err stop)) → held ≡ Some InUse
  pub failed : ending ≡ StoreFault → held ≡ Some InUse

-- and before a statement is served it stays, unless the keeper failed
abbrev pub HeldAfter : {settings : Option Config} {flight : Option FlightSettings}
    {Takes : Type 0} {tracing : Bool} {old new : Outside} {keeper0 keeper1 : KeeperState}
    {ending : KeptEnding} {answers : List Answer} {report : Report}
    → RunKept settings flight Takes tracing old new keeper0 keeper1 ending answers report
    → (held : Mark) → Type 0
HeldAfter {keeper1 = keeper1} (inl run) held = keeper1.held ≡ Some held
HeldAfter {keeper1 = keeper1} {ending = ending} (inr (inl run)) held =
    (keeper1.held ≡ Some held) ⊎ ((ending ≡ KeeperFault) × (keeper1.held ≡ Some InUse))
HeldAfter {flight = flight} {keeper1 = keeper1} {ending = ending} (inr (inr run)) held =
    HeldBehind ending
    (closing_behind (public_after (flying flight run.base) run.session.story.entries)
    run.base.start run.served.store.asked) keeper1.held
