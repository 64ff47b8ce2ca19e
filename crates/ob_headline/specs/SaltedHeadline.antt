-- The headline of a run that neither keeps nor saves its tables, and whose keeper draws a salt: it ends before that is drawn,
-- or for it, or a session goes on under keys of the salt.
use Rattle.std.specs.Prelude.{ℕ, ◌≡◌, ◌⊎◌, Bool, List, [], Option, Some, Ok, Err}
use Rattle.clap.specs.Words.{Text}
use Rattle.ob_base.specs.declared.config.Config.{Config}
use Rattle.ob_base.specs.declared.fault.Failed.{Failed}
use Rattle.ob_headline.specs.Bases.{flying, fresh}
use Rattle.ob_headline.specs.Headline.{Headline}
use Rattle.ob_headline.specs.Keeping.{kept_status}
use Rattle.ob_headline.specs.KeptHeadline.{Unkeyed, Unserved}
use Rattle.ob_headline.specs.KeyLine.{first_line, secret_of}
use Rattle.ob_headline.specs.Reruns.{SomeRun, of_saving}
use Rattle.ob_headline.specs.Settings.{IsTakenSaved, flight_of, saved_settings_of}
use Rattle.ob_headline.specs.Usage.{is_traced, saved_usage}
use Rattle.ob_headline.specs.Words.{Answer, Outside}
use Rattle.ob_headline.specs.declared.ending.KeptEnding.{KeptEnding}
use Rattle.ob_headline.specs.declared.ending.KeptEnding.TheVariants.{Plain, KeeperFault}
use Rattle.ob_headline.specs.declared.ending.Report.{Report}
use Rattle.ob_headline.specs.declared.flight.FlightSettings.{FlightSettings}
use Rattle.ob_reopen.specs.Keepers.{DrawsSalt, KeeperState}
use Rattle.ob_seal.specs.KeySet.{KeySet}
use Rattle.ob_seal.specs.Sealed.{keys_salted}
use Rattle.ob_store.specs.State.{StoreState}

-- the keys of every block of such a run, and the seed of its draws
abbrev pub own_keys : (secret salt : List ℕ) → KeySet
own_keys secret salt = keys_salted secret salt []

-- ---- before a statement is served
-- the keeper failed at the salt, as its count says, and the store was asked for nothing
pub record DrawsInVain (ending : KeptEnding) (old new : StoreState) (keeper0 keeper1 : KeeperState)
    : Type 0 where
  pub ends : ending ≡ KeeperFault
  pub failed : Failed
  pub draws : DrawsSalt (Err failed) keeper0 keeper1
  pub unasked : new ≡ old

abbrev pub Undrawn : (settings : Option Config) → (Takes : Type 0) → (tracing : Bool)
    → (old new : Outside) → (keeper0 keeper1 : KeeperState) → (ending : KeptEnding)
    → (answers : List Answer) → (report : Report) → Type 0
Undrawn settings Takes tracing old new keeper0 keeper1 ending answers report =
    Unserved (λ config secret. DrawsInVain ending old.store new.store keeper0 keeper1)
    settings Takes tracing old new ending answers report

-- ---- a session
-- the keeper drew a salt, and was asked for nothing else; a session went on from no tables, under keys of the secret and the
-- salt
pub record SessionSalted (settings : Option Config) (flight : Option FlightSettings)
    (Takes : Type 0) (tracing : Bool) (old new : Outside) (keeper0 keeper1 : KeeperState)
    (ending : KeptEnding) (answers : List Answer) (report : Report) : Type 0 where
  pub takes : Takes
  pub config : Config
  pub set : settings ≡ Some config
  pub secret : List ℕ
  pub salt : List ℕ
  pub draws : DrawsSalt (Ok salt) keeper0 keeper1
  pub session : Headline (flying flight (fresh (Some config))) (λ taken. own_keys secret salt) Takes
      tracing old new report
  pub keyed : secret_of (first_line session.taken) ≡ Some secret
  pub is : ending ≡ Plain session.ending
  pub answered : answers ≡ session.story.answers

-- one of the three
abbrev pub RunSalted : Option Config → Option FlightSettings → (Takes : Type 0) → (tracing : Bool)
    → (old new : Outside) → (keeper0 keeper1 : KeeperState) → KeptEnding → List Answer → Report
    → Type 0
RunSalted settings flight Takes tracing old new keeper0 keeper1 ending answers report =
    Unkeyed settings flight Takes tracing old new keeper0 keeper1 ending answers report
    ⊎ (Undrawn settings Takes tracing old new keeper0 keeper1 ending answers report
    ⊎ SessionSalted settings flight Takes tracing old new keeper0 keeper1 ending answers report)

-- of words that the program takes, or doesn't, of the settings that they spell, and of how SELECTs fly then, if they do
pub record SaltedHeadline (settings : Option Config) (flight : Option FlightSettings)
    (Takes : Type 0) (tracing : Bool) (old new : Outside) (keeper0 keeper1 : KeeperState)
    (report : Report) : Type 0 where
  pub ending : KeptEnding
  pub status : report.status ≡ kept_status ending
  pub answers : List Answer
  pub ran : RunSalted settings flight Takes tracing old new keeper0 keeper1 ending answers report

-- what `save_top` promises of a run without `--save` and `--keep` that reads its input
abbrev pub SaltedRun : List Text → (old new : Outside) → (keeper0 keeper1 : KeeperState) → Report
    → Type 0
SaltedRun words old new keeper0 keeper1 report =
    SaltedHeadline (saved_settings_of words) (flight_of saved_usage words) (IsTakenSaved words)
    (is_traced saved_usage words) old new keeper0 keeper1 report

-- ---- whole runs
-- a run whose statements were served is one by the words of its program, from no tables and by its keys
abbrev pub salted_session : {words : List Text} {old new : Outside} {keeper0 keeper1 : KeeperState}
    {ending : KeptEnding} {answers : List Answer} {report : Report}
    → SessionSalted (saved_settings_of words) (flight_of saved_usage words) (IsTakenSaved words)
    (is_traced saved_usage words) old new keeper0 keeper1 ending answers report → SomeRun
salted_session {words = words} {old = old} {new = new} {report = report} run = record {
  base = flying (flight_of saved_usage words) (fresh (Some run.config));
  keys = λ taken. own_keys run.secret run.salt;
  program = of_saving;
  words = words;
  tracing = is_traced saved_usage words;
  old = old;
  new = new;
  report = report;
  run = run.session;
}
