-- The statements of a flight before anything is asked of them.
use Rattle.std.specs.Prelude.{◌≡◌, ◌≤◌, ◌+◌, ◌*◌, ◌/◌, ◌^◌, ℕ, Bool, false, List, [], ◌∷◌, length, Option, Some, None, slice_get}
use Rattle.ob_base.specs.declared.config.Public.{Public}
use Rattle.ob_base.specs.declared.refusal.Refusal.{Refusal}
use Rattle.ob_base.specs.declared.schema.Table.{Table}
use Rattle.ob_base.specs.declared.seen.End.TheVariants.{Static, Whole}
use Rattle.ob_base.specs.declared.seen.Seen.{Seen}
use Rattle.ob_base.specs.Limits.{buffered_blocks}
use Rattle.ob_flat.specs.Scans.{MayScan}
use Rattle.ob_flat.specs.declared.flat.Flat.{Flat}
use Rattle.ob_inflight.specs.AfterTurns.{AreBoarded}
use Rattle.ob_inflight.specs.Kinds.{Kind, kind_of, moment}
use Rattle.ob_mean.specs.Refusals.{tables_of}
use Rattle.ob_mean.specs.Verdict.{ended}
use Rattle.ob_reopen.specs.Limits.{IsHeading}
use Rattle.ob_room.specs.RoomState.{RoomState}
use Rattle.ob_script.specs.Flights.{flight_public}
use Rattle.ob_select.specs.Settings.{AreSettings}
use Rattle.ob_sql.specs.declared.stmt.Stmt.{Stmt}
use Rattle.ob_stages.specs.Flying.{FlightFits, FlightHalts, FlightHolds, FlightNeeds, MayFly, flight_progress}
use Rattle.ob_stages.specs.declared.flight.Flight.{Flight}
use Rattle.ob_tables.specs.Engines.{IsFlatAt}
use Rattle.ob_tables.specs.declared.engine.Engine.{Engine}
use Rattle.ob_vault.specs.Rows.{Wide}
use Rattle.ob_vault.specs.State.{World}
use Rattle.ob_vault.specs.Tied.{Ready}
use Rattle.ob_vault.specs.declared.vault.Vault.{Vault}
use Rattle.ob_exec.specs.InFlight.{early_of}

-- what they are in flight
abbrev pub flight_kind : Kind Flight
flight_kind = kind_of flight_progress MayFly FlightNeeds FlightFits FlightHolds FlightHalts

-- the engine then, which may have ended
abbrev pub engine_behind : {R : Type 0} → Engine R → Vault R → RoomState → Bool → Engine R
engine_behind old v room ended = record old {
  vault = v;
  room = room;
  public = record old.public { next_region = v.next };
  ended = ended;
}

-- ---- what is seen of one by then
-- that it is refused before any access, or nothing
abbrev pub seen_if : Option Refusal → Seen
seen_if None = ended Whole
seen_if (Some refusal) = ended Static

abbrev pub seen_first : (late : Bool) → Public → Stmt → Seen
seen_first late p stmt = seen_if (early_of late p stmt)

-- ---- by what they go
-- by these settings and over these tables n statements may fly
pub record MayFlyBy (n : ℕ) (p : Public) : Type 0 where
  pub settings : AreSettings p
  pub several : 2 ≤ n
  pub few : n ≤ 8
  pub share : 3 * p.pack + 1 ≤ p.buffer / n
  pub headings : (i : ℕ) (t : Table) → slice_get p.tables i ≡ Some t → IsHeading t.heading
  pub names : (i j : ℕ) (t u : Table) → slice_get p.tables i ≡ Some t
      → slice_get p.tables j ≡ Some u → t.heading.name ≡ u.heading.name → i ≡ j

-- so many rows has each of them beside those of a block, which they share
abbrev pub share_of : (n : ℕ) → Public → ℕ
share_of n p = buffered_blocks p.pack (p.buffer / n) * p.pack

pub record FitShares (n : ℕ) (p : Public) (rows kept : List (List ℕ)) : Type 0 where
  pub block : length rows ≡ p.pack
  pub block_wide : Wide 1024 rows
  pub share : length kept ≡ share_of n p
  pub share_wide : Wide 1024 kept

-- ---- one of them
-- the flat table that it reads
pub record ReadsFrom (p : Public) (stmt : Stmt) (flat : Flat) : Type 0 where
  pub name : List ℕ
  pub place : ℕ
  pub reads : tables_of stmt ≡ name ∷ []
  pub found : IsFlatAt name place flat p.tables

-- nothing is asked of it, and it stands as soon as its table may be read
pub record IsAboard (late : Bool) (n : ℕ) (p : Public) (stmt : Stmt) (f : Flight) : Type 0 where
  pub is : (flight_progress f).stmt ≡ stmt
  pub public : (flight_progress f).public ≡ flight_public n p
  pub refusal : (flight_progress f).refusal ≡ early_of late p stmt
  pub shown : (flight_progress f).served.seen ≡ seen_first late p stmt
  pub asked : (flight_progress f).asked ≡ 0
  pub region : (flight_progress f).region ≡ None
  pub failed : (flight_progress f).failed ≡ false
  pub outcome : (flight_progress f).outcome ≡ None
  pub left : (flight_progress f).over ≡ false → early_of late p stmt ≡ None
  pub few : (flight_progress f).booked ≤ 2 ^ 59
  pub most : (flight_progress f).most ≤ 2 ^ 56
  pub table : early_of late p stmt ≡ None → ReadsFrom p stmt (flight_progress f).flat
  pub fits : (rows kept : List (List ℕ)) → FitShares n p rows kept → FlightFits f rows kept
  pub holds : (w : World) (rows kept : List (List ℕ)) → Ready w → FitShares n p rows kept
      → (early_of late p stmt ≡ None → MayScan p.pack (flight_progress f).flat w)
      → FlightHolds f kept [] w

-- ---- all of them
pub record AreAboard (late : Bool) (n : ℕ) (p : Public) (stmts : List Stmt) (flights : List Flight)
    : Type 0 where
  pub size : length flights ≡ length stmts
  pub each : (i : ℕ) (stmt : Stmt) (f : Flight) → slice_get stmts i ≡ Some stmt
      → slice_get flights i ≡ Some f → IsAboard late n p stmt f

-- statements of a kind may set off with rows that are as wide as any, so many of a block and so many of each share
pub record MaySetOff {F : Type 0} (k : Kind F) (pack share : ℕ) (flyers : List F) (w : World)
    : Type 0 where
  pub boards : (rows kept : List (List ℕ)) → length rows ≡ pack → Wide 1024 rows
      → length kept ≡ length flyers * share → Wide 1024 kept
      → AreBoarded k share rows (moment flyers kept w)
