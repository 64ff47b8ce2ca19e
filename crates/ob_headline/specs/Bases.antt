-- What the statements of a run go on from: no tables, or those that an earlier run left.
use Rattle.std.specs.Prelude.{false, ℕ, ◌≡◌, ◌+◌, IsTrue, List, [], length, Option, Some, None}
use Rattle.ob_base.specs.Publics.{first_public}
use Rattle.ob_base.specs.declared.access.Access.{Access}
use Rattle.ob_base.specs.declared.config.Config.{Config}
use Rattle.ob_base.specs.declared.config.Planner.TheVariants.{Auto}
use Rattle.ob_base.specs.declared.config.Public.{Public}
use Rattle.ob_headline.specs.declared.flight.FlightSettings.{FlightSettings}
use Rattle.ob_reopen.specs.Reopened.{opened_public, opened_start, opening_script}
use Rattle.ob_reopen.specs.Resting.{IsAtRest}
use Rattle.ob_mean.specs.Replay.{Session, first_session}
use Rattle.ob_mean.specs.Verdict.{Draws, Tables}
use Rattle.ob_reopen.specs.declared.closing.Closing.{Closing}
use Rattle.ob_reopen.specs.declared.listed.Listed.{Listed}
use Rattle.ob_seal.specs.Draws.{draw_of}
use Rattle.ob_seal.specs.KeySet.{KeySet}
use Rattle.ob_store.specs.State.{Disturbance, StoreState}
use Rattle.ob_vault.specs.State.{Start, earlier, from_nothing}

-- what is public before the first statement, where there are no tables; without settings none is served
abbrev pub public_with : Option Config → Public
public_with None = first_public (record { buffer = 0; depth = 0; pack = 0; planner = Auto; pad = None; stash = 0; keep = false; save = false; batch = None; max_input = 0 })
public_with (Some config) = first_public config

-- the model's session without tables
abbrev pub start : Option Config → Session
start settings = first_session (public_with settings)

-- the closing of an earlier run that was opened with these keys, the tables that it lists, and the store before and after
pub record Opened : Type 0 where
  pub keys : KeySet
  pub closing : Closing
  pub listed : List Listed
  pub old : StoreState
  pub new : StoreState

-- what the statements of a run go on from
pub record Base : Type 0 where
  pub settings : Option Config
  -- how SELECTs fly, if they do
  pub flight : Option FlightSettings
  pub public : Public
  -- how many accesses were asked, counted on from where an earlier run's numbers are
  pub count : ℕ
  -- the numbers of an earlier run
  pub start : Start
  -- the accesses that were asked in this run
  pub before : List Access
  -- the closing that was opened, if one was
  pub opened : Option Opened

-- no tables, and nothing was asked
abbrev pub fresh : Option Config → Base
fresh settings = record {
  settings = settings;
  flight = None;
  public = public_with settings;
  count = 0;
  start = from_nothing;
  before = [];
  opened = None;
}

-- the tables that a closing lists, which was opened
abbrev pub reopened : Config → Opened → Base
reopened config o = record {
  settings = Some config;
  flight = None;
  public = opened_public config o.closing o.listed;
  count = earlier (opened_start o.closing o.listed) + length (opening_script o.closing o.listed);
  start = opened_start o.closing o.listed;
  before = opening_script o.closing o.listed;
  opened = Some o;
}

-- the same, from which SELECTs fly so, if they do
abbrev pub flying : Option FlightSettings → Base → Base
flying flight base = record base { flight = flight }

-- these tables rested in the store, and what was read of them when they were opened is what was written there
pub record Rested (o : Opened) (tables : Tables) : Type 0 where
  pub tells : IsTrue o.old.tells
  pub honest : o.new.lie ≡ None
  pub rests : IsAtRest o.keys o.closing o.old.kept tables

-- nothing was drawn yet, nor are the numbers known
abbrev pub undrawn : Draws
undrawn = record { draw = λ n. 0; drawn = 0 }

-- the model's session with these tables
abbrev pub session_at : Base → Tables → Session
session_at base tables =
    record { public = base.public; tables = tables; asked = base.count; draws = undrawn }

-- a session draws the numbers of its keys, from the first on
abbrev pub drawing : KeySet → Session → Session
drawing keys s = record s { draws = record { draw = draw_of keys; drawn = 0 } }

-- it holds of the model's session without tables; or of each one with tables that rested in the store
abbrev pub HoldsFrom : Option Opened → Base → (Session → Type 0) → Type 0
HoldsFrom None base P = P (session_at base [])
HoldsFrom (Some o) base P = (tables : Tables) → Rested o tables → P (session_at base tables)

-- it holds of each session of the model that these statements may go on from
abbrev pub FromEach : Base → (Session → Type 0) → Type 0
FromEach base P = HoldsFrom base.opened base P

-- what the store says of others; once an earlier run's tables were opened that is nothing
abbrev pub said_of : Option Opened → StoreState → Option (List Disturbance)
said_of None store = store.disturbed
said_of (Some o) store = None
