-- How a run begins that saves its tables, by the mark that its keeper holds, why it doesn't, and what rests for a mark.
use Rattle.std.specs.Prelude.{ℕ, ◌≡◌, ◌≢◌, ◌⊎◌, ◌==◌, Bool, IsTrue, List, [], MatchBool, Option, Some, None, Result, Ok, Err}
use Rattle.std.specs.Io.KnownBytes.{Appends}
use Rattle.ob_base.specs.Counts.{Rises}
use Rattle.ob_base.specs.Stored.{headings, headings_of}
use Rattle.ob_base.specs.declared.config.Config.{Config}
use Rattle.ob_base.specs.declared.fault.Failed.{Failed}
use Rattle.ob_reopen.specs.declared.mark.Mark.{Mark}
use Rattle.ob_reopen.specs.declared.mark.Mark.TheVariants.{Fresh, InUse, Closed, Begun, Saved}
use Rattle.ob_base.specs.declared.refusal.Stop.TheVariants.{NoMemory, SinkFault}
use Rattle.ob_headline.specs.Bases.{Base, fresh, reopened}
use Rattle.ob_headline.specs.Keeping.{closing_named, opening_end}
use Rattle.ob_headline.specs.Tracing.{traced}
use Rattle.ob_headline.specs.declared.ending.Ending.TheVariants.{Ran}
use Rattle.ob_headline.specs.declared.ending.KeptEnding.{KeptEnding}
use Rattle.ob_headline.specs.declared.ending.KeptEnding.TheVariants.{Plain, OtherPack, OtherKey, NoMark, NotClosed as LeftOpen, KeeperFault, StoreFault}
use Rattle.ob_mean.specs.Verdict.{Tables}
use Rattle.ob_reopen.specs.Keepers.{DrawsSalt, GivesMark, KeeperState, SetsMark}
use Rattle.ob_reopen.specs.Limits.{IsCatalogue}
use Rattle.ob_reopen.specs.Reopened.{NotOpened, opened_start, opening_script}
use Rattle.ob_reopen.specs.Resting.{IsAtRest}
use Rattle.ob_reopen.specs.Saved.{RestsBy, reopening_keys}
use Rattle.ob_reopen.specs.declared.closing.Closing.{Closing}
use Rattle.ob_reopen.specs.declared.fault.OpenErr.{OpenErr}
use Rattle.ob_reopen.specs.declared.fault.OpenErr.TheVariants as OpenErrs
use Rattle.ob_reopen.specs.declared.listed.Listed.{Listed}
use Rattle.ob_seal.specs.KeySet.{KeySet}
use Rattle.ob_seal.specs.Sealed.{check_of, keys_salted}
use Rattle.ob_store.specs.Calls.{IsBare, Sweeps, Syncs}
use Rattle.ob_store.specs.Runs.{Did}
use Rattle.ob_store.specs.State.{KeptRegion, FalseRead, StoreState}
use Rattle.ob_vault.specs.Tied.{TagFits}
use Rattle.ob_verdict.specs.Alike.{AreAlike}

-- ---- what rests for a mark
-- these tables do, under a secret: none before the first were saved, and those that the mark's closing lists else, by the
-- salt that the mark names, with the check value that the secret has for it
abbrev pub RestsAt : (secret : List ℕ) → Mark → (kept : ℕ → Option KeptRegion) → Tables → Type 0
RestsAt secret Fresh kept tables = tables ≡ []
RestsAt secret InUse kept tables = ⊥
RestsAt secret (Closed region blocks number pack) kept tables =
    RestsBy secret None (closing_named region blocks number pack) kept tables
RestsAt secret Begun kept tables = tables ≡ []
RestsAt secret (Saved region blocks number pack salt check) kept tables =
    (check ≡ check_of secret (Some salt))
    × RestsBy secret (Some salt) (closing_named region blocks number pack) kept tables

-- tables that are these, in whichever order
pub record RestsAlike (secret : List ℕ) (mark : Mark) (kept : ℕ → Option KeptRegion)
    (tables : Tables) : Type 0 where
  pub resting : Tables
  pub rests : RestsAt secret mark kept resting
  pub alike : AreAlike resting tables

-- the mark that is held once a run has begun that saves: `Begun` in place of a fresh one
abbrev pub begun_mark : Mark → Mark
begun_mark Fresh = Begun
begun_mark InUse = InUse
begun_mark (Closed region blocks number pack) = Closed region blocks number pack
begun_mark Begun = Begun
begun_mark (Saved region blocks number pack salt check) = Saved region blocks number pack salt check

-- ---- the beginning
-- the store has no region, where it tells
pub record IsFoundBare (old new : StoreState) : Type 0 where
  pub syncs : Syncs old new
  pub unfailed : new.faults ≡ old.faults
  pub bare : IsTrue old.tells → IsBare old

-- so it was found, and what lies in it all the same was given up
pub record BeginsBare (old new : StoreState) : Type 0 where
  pub looked : StoreState
  pub finds : IsFoundBare old looked
  pub sweeps : Sweeps looked new

-- there are no tables, and the keys are those of the secret and of this salt
pub record BeginsAnew (config : Config) (secret salt : List ℕ) (keys : KeySet) (base : Base)
    : Type 0 where
  pub keyed : keys ≡ keys_salted secret salt []
  pub is : base ≡ fresh (Some config)

-- what rested there under the secret rests there still, does so under these keys, and is what statements go on from
pub record StaysAtRest (secret : List ℕ) (closed : Option (List ℕ)) (closing : Closing)
    (keys : KeySet) (base : Base) (old new : StoreState) (tables : Tables) : Type 0 where
  pub rests : RestsBy secret closed closing new.kept tables
  pub under : IsAtRest keys closing old.kept tables
  pub listed : headings tables ≡ headings_of base.public.tables

-- the tables of a closing were opened, which a run wrote that had this salt, or none: under keys of the secret and of a salt
-- of the run's own, and of those that the mark and the closing name. What isn't live then was given up. Whatever was read
-- of the closing and isn't what was written there has a tag that fits.
pub record ReopensSaved (closed : Option (List ℕ)) (closing : Closing) (config : Config)
    (secret salt : List ℕ) (keys : KeySet) (base : Base) (old new : StoreState) : Type 0 where
  pub listed : List Listed
  pub catalogue : IsCatalogue closing listed
  pub keyed : keys ≡ reopening_keys secret salt closed closing listed
  pub is : base ≡ reopened config (record {
    keys = keys;
    closing = closing;
    listed = listed;
    old = old;
    new = new;
  })
  pub did : Did (opening_script closing listed) old new
  pub tells : new.tells ≡ old.tells
  pub fits : (lie : FalseRead) → new.lie ≡ Some lie → TagFits keys (opened_start closing listed) lie
  pub opened : StoreState
  pub sweeps : Sweeps opened new
  pub told : IsTrue old.tells → new.lie ≡ None → (tables : Tables)
      → RestsBy secret closed closing old.kept tables
      → StaysAtRest secret closed closing keys base old new tables

-- by the mark: there are no tables where it is fresh, and the store too, or where no run has saved any; and those of its
-- closing are opened where this has the pack of the settings, and the check value of a run that saves is that of the secret
abbrev pub BeginsSaved : Mark → Config → (secret salt : List ℕ) → KeySet → Base
    → (old new : StoreState) → Type 0
BeginsSaved Fresh config secret salt keys base old new =
    BeginsAnew config secret salt keys base × BeginsBare old new
BeginsSaved InUse config secret salt keys base old new = ⊥
BeginsSaved (Closed region blocks number pack) config secret salt keys base old new =
    (pack ≡ config.pack) × ReopensSaved None (closing_named region blocks number pack)
    config secret salt keys base old new
BeginsSaved Begun config secret salt keys base old new =
    BeginsAnew config secret salt keys base × Sweeps old new
BeginsSaved (Saved region blocks number pack closed check) config secret salt keys base old new =
    (pack ≡ config.pack) × (check ≡ check_of secret (Some closed))
    × ReopensSaved (Some closed) (closing_named region blocks number pack)
    config secret salt keys base old new

-- what the keeper is handed before the store is asked for anything: from a fresh mark `Begun`, and else nothing
abbrev pub HandsNothing : Result (Unit {0}) Failed → (old new : KeeperState) → Type 0
HandsNothing (Ok done) old new = new ≡ old
HandsNothing (Err failed) old new = ⊥

abbrev pub HandsBegun : Mark → Result (Unit {0}) Failed → (old new : KeeperState) → Type 0
HandsBegun Fresh result old new = SetsMark Begun result old new
HandsBegun InUse result old new = ⊥
HandsBegun (Closed region blocks number pack) result old new = HandsNothing result old new
HandsBegun Begun result old new = HandsNothing result old new
HandsBegun (Saved region blocks number pack salt check) result old new = HandsNothing result old new

-- the keeper gave a mark and drew a salt, and it was begun from; the accesses were traced
pub record BeganSaved (config : Config) (secret salt : List ℕ) (keys : KeySet) (tracing : Bool)
    (base : Base) (old new : StoreState) (traced0 traced1 : Option (List ℕ))
    (keeper0 keeper1 : KeeperState) : Type 0 where
  pub mark : Mark
  pub read : KeeperState
  pub gives : GivesMark (Ok mark) keeper0 read
  pub drawn : KeeperState
  pub draws : DrawsSalt (Ok salt) read drawn
  pub hands : HandsBegun mark (Ok tt) drawn keeper1
  pub begins : BeginsSaved mark config secret salt keys base old new
  pub traced : Appends traced0 traced1 (traced tracing base.before)

-- ---- why a run didn't begin
-- the mark is fresh, but the store has regions, if it tells what it has, or couldn't say whether it has
pub record IsNotBare (ending : KeptEnding) (old new : StoreState) : Type 0 where
  pub syncs : Syncs old new
  pub why : ((ending ≡ NoMark) × (new.faults ≡ old.faults) × (IsTrue old.tells → IsBare old → ⊥))
      ⊎ ((ending ≡ StoreFault) × Rises old.faults new.faults)

-- it ends at the mark, before a salt is drawn
abbrev pub RefusesMark : Mark → KeptEnding → (old new : StoreState) → Type 0
RefusesMark Fresh ending old new = IsNotBare ending old new
RefusesMark InUse ending old new = (ending ≡ LeftOpen) × (new ≡ old)
RefusesMark (Closed region blocks number pack) ending old new = ⊥
RefusesMark Begun ending old new = ⊥
RefusesMark (Saved region blocks number pack salt check) ending old new = ⊥

-- so far nothing was opened: from a fresh mark the store has no region
abbrev pub LooksBare : Mark → (old new : StoreState) → Type 0
LooksBare Fresh old new = IsFoundBare old new
LooksBare InUse old new = ⊥
LooksBare (Closed region blocks number pack) old new = new ≡ old
LooksBare Begun old new = new ≡ old
LooksBare (Saved region blocks number pack salt check) old new = new ≡ old

-- the tables of a closing weren't opened; a store that told the truth, and in which tables rested as the mark says, is not
-- taken for a changed one, and what is kept stays
pub record StaysShut (closed : Option (List ℕ)) (closing : Closing) (secret salt : List ℕ)
    (ending : KeptEnding) (old new : StoreState) : Type 0 where
  pub error : OpenErr
  pub ends : ending ≡ opening_end error
  pub opened : NotOpened closing (reopening_keys secret salt closed closing []) error old new
  pub honest : IsTrue old.tells → new.lie ≡ None → (tables : Tables)
      → RestsBy secret closed closing old.kept tables
      → (error ≡ OpenErrs.Failed) ⊎ (error ≡ OpenErrs.NoMemory)
  pub kept : (q : ℕ) → new.kept q ≡ old.kept q

-- the mark was left under another secret, which its check value tells before the store is asked for anything: so a store that
-- told the truth isn't taken for a changed one under a wrong secret, either
abbrev pub IsOtherKey : (secret closed check : List ℕ) → KeptEnding → (old new : StoreState)
    → Type 0
IsOtherKey secret closed check ending old new =
    (check ≢ check_of secret (Some closed)) × (ending ≡ OtherKey) × (new ≡ old)

-- the tables of a run that saves weren't opened: the check value is that of the secret, or another one
abbrev pub StaysLocked : (closed check : List ℕ) → Closing → (secret salt : List ℕ) → KeptEnding
    → (old new : StoreState) → Type 0
StaysLocked closed check closing secret salt ending old new =
    ((check ≡ check_of secret (Some closed))
    × StaysShut (Some closed) closing secret salt ending old new)
    ⊎ IsOtherKey secret closed check ending old new

-- by the mark: its tables weren't opened, or have another pack; without a closing memory is wanting
abbrev pub EndsShut : Mark → Config → (secret salt : List ℕ) → KeptEnding
    → (old new : StoreState) → Type 0
EndsShut Fresh config secret salt ending old new =
    (ending ≡ Plain (Ran (Err NoMemory))) × IsFoundBare old new
EndsShut InUse config secret salt ending old new = ⊥
EndsShut (Closed region blocks number pack) config secret salt ending old new =
    MatchBool (pack == config.pack)
    (StaysShut None (closing_named region blocks number pack) secret salt ending old new)
    ((ending ≡ OtherPack) × (new ≡ old))
EndsShut Begun config secret salt ending old new =
    (ending ≡ Plain (Ran (Err NoMemory))) × (new ≡ old)
EndsShut (Saved region blocks number pack closed check) config secret salt ending old new =
    MatchBool (pack == config.pack)
    (StaysLocked closed check (closing_named region blocks number pack) secret salt ending old new)
    ((ending ≡ OtherPack) × (new ≡ old))

-- the keeper failed at `Begun`, and the store was asked for nothing
pub record HandsInVain (mark : Mark) (ending : KeptEnding) (old new : StoreState)
    (drawn keeper1 : KeeperState) : Type 0 where
  pub ends : ending ≡ KeeperFault
  pub looks : LooksBare mark old new
  pub failed : Failed
  pub hands : HandsBegun mark (Err failed) drawn keeper1

-- it was begun from, and then the trace's sink failed
pub record BeginsInVain (mark : Mark) (config : Config) (secret salt : List ℕ)
    (ending : KeptEnding) (old new : StoreState) (fault0 fault1 : ℕ) (drawn keeper1 : KeeperState)
    : Type 0 where
  pub ends : ending ≡ Plain (Ran (Err SinkFault))
  pub rises : Rises fault0 fault1
  pub keys : KeySet
  pub base : Base
  pub begins : BeginsSaved mark config secret salt keys base old new
  pub hands : HandsBegun mark (Ok tt) drawn keeper1

-- once a salt was asked for
abbrev pub EndsSalted : Result (List ℕ) Failed → Mark → Config → (secret : List ℕ) → KeptEnding
    → (old new : StoreState) → (fault0 fault1 : ℕ) → (drawn keeper1 : KeeperState) → Type 0
EndsSalted (Ok salt) mark config secret ending old new fault0 fault1 drawn keeper1 =
    (EndsShut mark config secret salt ending old new × (keeper1 ≡ drawn))
    ⊎ (HandsInVain mark ending old new drawn keeper1
    ⊎ BeginsInVain mark config secret salt ending old new fault0 fault1 drawn keeper1)
EndsSalted (Err failed) mark config secret ending old new fault0 fault1 drawn keeper1 =
    (ending ≡ KeeperFault) × LooksBare mark old new × (keeper1 ≡ drawn)

pub record SaltedInVain (mark : Mark) (config : Config) (secret : List ℕ) (ending : KeptEnding)
    (old new : StoreState) (fault0 fault1 : ℕ) (read keeper1 : KeeperState) : Type 0 where
  pub salt : Result (List ℕ) Failed
  pub drawn : KeeperState
  pub draws : DrawsSalt salt read drawn
  pub why : EndsSalted salt mark config secret ending old new fault0 fault1 drawn keeper1

-- once a mark was asked for
abbrev pub EndsMarked : Result Mark Failed → Config → (secret : List ℕ) → KeptEnding
    → (old new : StoreState) → (fault0 fault1 : ℕ) → (read keeper1 : KeeperState) → Type 0
EndsMarked (Ok mark) config secret ending old new fault0 fault1 read keeper1 =
    (RefusesMark mark ending old new × (keeper1 ≡ read))
    ⊎ SaltedInVain mark config secret ending old new fault0 fault1 read keeper1
EndsMarked (Err failed) config secret ending old new fault0 fault1 read keeper1 =
    (ending ≡ KeeperFault) × (new ≡ old) × (keeper1 ≡ read)

-- the run ended before a statement could be served: at what the keeper held, or gave, while tables were opened, or right
-- after that
pub record NotBegunSaved (config : Config) (secret : List ℕ) (ending : KeptEnding)
    (old new : StoreState) (fault0 fault1 : ℕ) (keeper0 keeper1 : KeeperState) : Type 0 where
  pub mark : Result Mark Failed
  pub read : KeeperState
  pub gives : GivesMark mark keeper0 read
  pub why : EndsMarked mark config secret ending old new fault0 fault1 read keeper1
