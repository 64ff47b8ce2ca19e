-- Runs that have a salt: those that save their tables, and those that neither keep nor save them.
use Rattle.std.specs.Prelude.{ℕ, ◌≡◌, Bool, List, slice_get, Option, Some, None}
use Rattle.std.proofs.Common.{inl, inr}
use Rattle.clap.specs.Words.{Text}
use Rattle.ob_base.specs.declared.config.Config.{Config}
use Rattle.ob_headline.specs.Bases.{fresh}
use Rattle.ob_headline.specs.SaltedHeadline.{RunSalted, SaltedRun, own_keys}
use Rattle.ob_headline.specs.SavedRuns.{AnySaved, Seals, SealsOne, saved_salt}
use Rattle.ob_headline.specs.Words.{Answer, Outside}
use Rattle.ob_headline.specs.declared.ending.KeptEnding.{KeptEnding}
use Rattle.ob_headline.specs.declared.ending.Report.{Report}
use Rattle.ob_headline.specs.declared.flight.FlightSettings.{FlightSettings}
use Rattle.ob_reopen.specs.Keepers.{KeeperState}

-- a run without `--save` and `--keep`, by any words
pub record OneSalted : Type 0 where
  pub words : List Text
  pub old : Outside
  pub new : Outside
  pub keeper0 : KeeperState
  pub keeper1 : KeeperState
  pub report : Report
  pub run : SaltedRun words old new keeper0 keeper1 report

pub data AnySalted : Type 0 where
  saving : AnySaved → AnySalted
  unsaved : OneSalted → AnySalted

-- its salt, if one was drawn: the one that its keeper drew last
abbrev pub drawn_salt : {settings : Option Config} {flight : Option FlightSettings}
    {Takes : Type 0} {tracing : Bool} {old new : Outside} {keeper0 keeper1 : KeeperState}
    {ending : KeptEnding} {answers : List Answer} {report : Report}
    → RunSalted settings flight Takes tracing old new keeper0 keeper1 ending answers report
    → Option (List ℕ)
drawn_salt (inl run) = None
drawn_salt (inr (inl run)) = None
drawn_salt {keeper1 = keeper1} (inr (inr run)) = keeper1.drawn

abbrev pub salt_of : AnySalted → Option (List ℕ)
salt_of (saving run) = saved_salt run.one.run.ran
salt_of (unsaved one) = drawn_salt one.run.ran

-- the write at this position seals a block under this salt and this number
abbrev pub SealsDrawn : {settings : Option Config} {flight : Option FlightSettings}
    {Takes : Type 0} {tracing : Bool} {old new : Outside} {keeper0 keeper1 : KeeperState}
    {ending : KeptEnding} {answers : List Answer} {report : Report}
    → RunSalted settings flight Takes tracing old new keeper0 keeper1 ending answers report
    → (position : ℕ) → (salt : Option (List ℕ)) → (number : ℕ) → Type 0
SealsDrawn (inl run) position salt number = ⊥
SealsDrawn (inr (inl run)) position salt number = ⊥
SealsDrawn {new = new} (inr (inr run)) position salt number =
    SealsOne (fresh (Some run.config)) (own_keys run.secret run.salt) new.store.asked position salt
    number

abbrev pub SealsIn : AnySalted → (position : ℕ) → (salt : Option (List ℕ)) → (number : ℕ) → Type 0
SealsIn (saving run) position salt number = Seals run.one.run.ran position salt number
SealsIn (unsaved one) position salt number = SealsDrawn one.run.ran position salt number

-- the keeper gave no two of these runs one salt
pub record HaveSalts (runs : List AnySalted) : Type 0 where
  pub apart : (i j : ℕ) (a b : AnySalted) (salt : List ℕ) → slice_get runs i ≡ Some a
      → slice_get runs j ≡ Some b → salt_of a ≡ Some salt → salt_of b ≡ Some salt → i ≡ j
