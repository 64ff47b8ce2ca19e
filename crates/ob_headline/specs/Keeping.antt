-- How a run begins with tables that an earlier one kept, how it is closed so that the next one may, and how it ends.
use Rattle.std.specs.Prelude.{ℕ, ◌≡◌, ◌⊎◌, ◌==◌, ◌+◌, ◌≤◌, Bool, false, IsTrue, List, ◌++◌, codes, length, MatchBool, Option, None, Some, Result, Ok, Err}
use Rattle.std.specs.Io.KnownBytes.{Appends}
use Rattle.ob_base.specs.Accesses.{drop_script, writes}
use Rattle.ob_base.specs.Counts.{Rises}
use Rattle.ob_base.specs.Stored.{headings, headings_of}
use Rattle.ob_base.specs.declared.access.Access.{Access}
use Rattle.ob_base.specs.declared.config.Config.{Config}
use Rattle.ob_base.specs.declared.config.Public.{Public}
use Rattle.ob_base.specs.declared.fault.Failed.{Failed}
use Rattle.ob_reopen.specs.declared.mark.Mark.{Mark}
use Rattle.ob_reopen.specs.declared.mark.Mark.TheVariants as Marks
use Rattle.ob_reopen.specs.declared.mark.Mark.TheVariants.{Fresh, InUse, Closed}
use Rattle.ob_base.specs.declared.refusal.Stop.TheVariants.{NoMemory, SinkFault, Tampered}
use Rattle.ob_reopen.specs.Closed.{IsClosedAs, NotClosed, StaysInUse, is_used_up}
use Rattle.ob_reopen.specs.Reopened.{NotOpened, opened_start, opening_script}
use Rattle.ob_reopen.specs.Resting.{IsAtRest}
use Rattle.ob_headline.specs.Bases.{Base, Opened, fresh, reopened}
use Rattle.ob_headline.specs.Endings.{last_line, status_of}
use Rattle.ob_headline.specs.Tracing.{traced}
use Rattle.ob_headline.specs.declared.ending.Ending.TheVariants.{Ran}
use Rattle.ob_headline.specs.declared.ending.KeptEnding.{KeptEnding}
use Rattle.ob_headline.specs.declared.ending.KeptEnding.TheVariants.{Plain, OtherPack, OtherKey, Saved, NoMark, NotClosed as LeftOpen, KeeperFault, StoreFault}
use Rattle.ob_mean.specs.Verdict.{Tables}
use Rattle.ob_print.specs.Cuts.{Outputs}
use Rattle.ob_reopen.specs.Closings.{write_script}
use Rattle.ob_reopen.specs.Keepers.{GivesMark, KeeperState, SetsMark}
use Rattle.ob_reopen.specs.Limits.{IsCatalogue}
use Rattle.ob_reopen.specs.declared.closing.Closing.{Closing}
use Rattle.ob_reopen.specs.declared.fault.CloseErr.{CloseErr}
use Rattle.ob_reopen.specs.declared.fault.CloseErr.TheVariants as CloseErrs
use Rattle.ob_reopen.specs.declared.fault.OpenErr.{OpenErr}
use Rattle.ob_reopen.specs.declared.fault.OpenErr.TheVariants as OpenErrs
use Rattle.ob_reopen.specs.declared.listed.Listed.{Listed}
use Rattle.ob_seal.specs.KeySet.{KeySet}
use Rattle.ob_store.specs.Runs.{Did}
use Rattle.ob_store.specs.State.{FalseRead, StoreState}
use Rattle.ob_vault.specs.State.{Start}
use Rattle.ob_vault.specs.Tied.{TagFits}

-- ---- how a run ends
abbrev pub kept_status : KeptEnding → ℕ
kept_status (Plain ending) = status_of ending
kept_status OtherPack = 2
kept_status OtherKey = 2
kept_status Saved = 2
kept_status StoreFault = 3
kept_status LeftOpen = 9
kept_status NoMark = 9
kept_status KeeperFault = 10

abbrev pub kept_line : KeptEnding → List ℕ
kept_line (Plain ending) = last_line ending
kept_line OtherPack = codes "! pack\n"
kept_line OtherKey = codes "! key\n"
kept_line Saved = codes "! saved\n"
kept_line StoreFault = codes "! store fault\n"
kept_line LeftOpen = codes "! not closed\n"
kept_line NoMark = codes "! no mark\n"
kept_line KeeperFault = codes "! keeper fault\n"

-- where its tables can't be opened, and where they can't be closed
abbrev pub opening_end : OpenErr → KeptEnding
opening_end OpenErrs.Failed = StoreFault
opening_end (OpenErrs.Tampered region place) = Plain (Ran (Err (Tampered region place)))
opening_end OpenErrs.NoMemory = Plain (Ran (Err NoMemory))

abbrev pub closing_end : CloseErr → KeptEnding
closing_end CloseErrs.Failed = StoreFault
closing_end CloseErrs.NoMemory = Plain (Ran (Err NoMemory))

-- where a mark was handed to the keeper, and it failed or didn't
abbrev pub handed_end : (whole : KeptEnding) → Result (Unit {0}) Failed → KeptEnding
handed_end whole (Ok done) = whole
handed_end whole (Err failed) = KeeperFault

-- a mark was handed to the keeper; the run ends as it would without, unless that failed
pub record HandsOver (mark : Mark) (whole ending : KeptEnding) (old new : KeeperState)
    : Type 0 where
  pub result : Result (Unit {0}) Failed
  pub sets : SetsMark mark result old new
  pub ends : ending ≡ handed_end whole result

-- ---- the beginning
-- the tables that a closing lists were opened: what the statements go on from, and whatever was read of it and isn't what
-- was written there has a tag that fits
pub record OpensClosing (closing : Closing) (config : Config) (keys : KeySet) (base : Base)
    (old new : StoreState) : Type 0 where
  pub listed : List Listed
  pub catalogue : IsCatalogue closing listed
  pub is : base ≡ reopened config (record {
    keys = keys;
    closing = closing;
    listed = listed;
    old = old;
    new = new;
  })
  pub did : Did (opening_script closing listed) old new
  pub tells : new.tells ≡ old.tells
  pub fits : (lie : FalseRead) → new.lie ≡ Some lie → TagFits keys (opened_start closing listed) lie
  -- those that rested there are listed
  pub told : IsTrue old.tells → new.lie ≡ None → (tables : Tables)
      → IsAtRest keys closing old.kept tables → headings tables ≡ headings_of base.public.tables

-- they weren't; a store that told the truth, and in which tables rested as the mark says, is not taken for a changed one
pub record NotReopened (closing : Closing) (keys : KeySet) (ending : KeptEnding)
    (old new : StoreState) : Type 0 where
  pub error : OpenErr
  pub ends : ending ≡ opening_end error
  pub opened : NotOpened closing keys error old new
  pub honest : IsTrue old.tells → new.lie ≡ None → (tables : Tables)
      → IsAtRest keys closing old.kept tables
      → (error ≡ OpenErrs.Failed) ⊎ (error ≡ OpenErrs.NoMemory)

-- the closing that a mark names
abbrev pub closing_named : (region blocks number pack : ℕ) → Closing
closing_named region blocks number pack =
    record { region = region; blocks = blocks; number = number; pack = pack }

-- by the mark: there are no tables where it is fresh, and those of its closing are opened where this has the pack of the
-- settings
abbrev pub BeginsFrom : Mark → Config → KeySet → Base → (old new : StoreState) → Type 0
BeginsFrom Fresh config keys base old new = (base ≡ fresh (Some config)) × (new ≡ old)
BeginsFrom InUse config keys base old new = ⊥
BeginsFrom (Closed region blocks number pack) config keys base old new = (pack ≡ config.pack)
    × OpensClosing (closing_named region blocks number pack) config keys base old new
BeginsFrom Marks.Begun config keys base old new = ⊥
BeginsFrom (Marks.Saved region blocks number pack salt check) config keys base old new = ⊥

-- and else the run ends: where it is in use, or one of runs that save, where it has another pack, where the tables can't
-- be opened, or where memory is wanting
abbrev pub EndsFrom : Mark → Config → KeySet → KeptEnding → (old new : StoreState) → Type 0
EndsFrom Fresh config keys ending old new =
    (ending ≡ Plain (Ran (Err NoMemory))) × (new ≡ old)
EndsFrom InUse config keys ending old new = (ending ≡ LeftOpen) × (new ≡ old)
EndsFrom (Closed region blocks number pack) config keys ending old new =
    MatchBool (pack == config.pack)
    (NotReopened (closing_named region blocks number pack) keys ending old new)
    ((ending ≡ OtherPack) × (new ≡ old))
EndsFrom Marks.Begun config keys ending old new = (ending ≡ Saved) × (new ≡ old)
EndsFrom (Marks.Saved region blocks number pack salt check) config keys ending old new =
    (ending ≡ Saved) × (new ≡ old)

abbrev pub EndsAtMark : Result Mark Failed → Config → KeySet → KeptEnding → (old new : StoreState)
    → Type 0
EndsAtMark (Ok mark) config keys ending old new = EndsFrom mark config keys ending old new
EndsAtMark (Err failed) config keys ending old new = (ending ≡ KeeperFault) × (new ≡ old)

-- the keeper gave a mark, and it was begun from; the accesses were traced, and the keeper holds that the store is in use
pub record BeganKept (config : Config) (keys : KeySet) (tracing : Bool) (base : Base)
    (old new : StoreState) (traced0 traced1 : Option (List ℕ)) (keeper0 keeper1 : KeeperState)
    : Type 0 where
  pub mark : Mark
  pub read : KeeperState
  pub gives : GivesMark (Ok mark) keeper0 read
  pub begins : BeginsFrom mark config keys base old new
  pub traced : Appends traced0 traced1 (traced tracing base.before)
  pub in_use : SetsMark {T = Unit {0}} InUse (Ok tt) read keeper1

-- it was begun from, and then the trace's sink failed, or the keeper
pub record BegunInVain (mark : Mark) (config : Config) (keys : KeySet) (ending : KeptEnding)
    (old new : StoreState) (fault0 fault1 : ℕ) (read keeper1 : KeeperState) : Type 0 where
  pub base : Base
  pub begins : BeginsFrom mark config keys base old new
  pub ends : ((ending ≡ Plain (Ran (Err SinkFault))) × Rises fault0 fault1 × (keeper1 ≡ read))
      ⊎ ((ending ≡ KeeperFault) × (failed : Failed)
      × SetsMark {T = Unit {0}} InUse (Err failed) read keeper1)

-- the run ended before a statement could be served
pub record NotBegun (config : Config) (keys : KeySet) (ending : KeptEnding)
    (old new : StoreState) (fault0 fault1 : ℕ) (keeper0 keeper1 : KeeperState) : Type 0 where
  pub mark : Result Mark Failed
  pub read : KeeperState
  pub gives : GivesMark mark keeper0 read
  pub why : (EndsAtMark mark config keys ending old new × (keeper1 ≡ read))
      ⊎ ((held : Mark) × (mark ≡ Ok held)
      × BegunInVain held config keys ending old new fault0 fault1 read keeper1)

-- ---- the end
-- the closing that is made after these: the next region, the next write number, a block for each table beside its head
abbrev pub closing_behind : Public → Start → List Access → Closing
closing_behind p start asked = record {
  region = p.next_region;
  blocks = length p.tables + 1;
  number = start.writes + writes asked + 1;
  pack = p.pack;
}

-- the region of the closing that was opened
abbrev pub region_opened : Option Opened → Option ℕ
region_opened None = None
region_opened (Some o) = Some o.closing.region

-- what is asked: the closing that was opened is discarded, and the new one is written
abbrev pub last_script : Option ℕ → Closing → List Access
last_script region closing = drop_script region ++ write_script closing

-- a closing was written, unless its numbers are used up; or a first part of that was asked
abbrev pub Writes : Closing → (script : List Access) → Result Mark CloseErr → (old new : StoreState)
    → Type 0
Writes closing script (Ok mark) old new = MatchBool (is_used_up closing)
    (StaysInUse mark old new) (IsClosedAs closing script mark old new)
Writes closing script (Err error) old new =
    (is_used_up closing ≡ false) × NotClosed script error old new

-- how the run ends then: the mark is handed to the keeper once all is traced
abbrev pub EndsWith : Result Mark CloseErr → (whole ending : KeptEnding) → (fault0 fault1 : ℕ)
    → (keeper0 keeper1 : KeeperState) → Type 0
EndsWith (Ok mark) whole ending fault0 fault1 keeper0 keeper1 =
    ((ending ≡ Plain (Ran (Err SinkFault))) × Rises fault0 fault1 × (keeper1 ≡ keeper0))
    ⊎ ((fault1 ≡ fault0) × HandsOver mark whole ending keeper0 keeper1)
EndsWith (Err error) whole ending fault0 fault1 keeper0 keeper1 =
    (ending ≡ closing_end error) × (keeper1 ≡ keeper0)

-- a run that came to its end was closed, or why not; the closing of this region was opened, if one was
pub record Closes (closing : Closing) (region : Option ℕ) (tracing : Bool)
    (whole ending : KeptEnding) (old new : StoreState) (traced0 traced1 : Option (List ℕ))
    (fault0 fault1 : ℕ) (keeper0 keeper1 : KeeperState) : Type 0 where
  pub result : Result Mark CloseErr
  pub writes : Writes closing (last_script region closing) result old new
  pub done : List Access
  pub asked : new.asked ≡ old.asked ++ done
  pub traced : Outputs traced0 traced1 (Rises fault0 fault1) (traced tracing done)
  pub later : fault0 ≤ fault1
  pub ends : EndsWith result whole ending fault0 fault1 keeper0 keeper1
