-- A SELECT in flight, of whichever kind.
use Rattle.std.specs.Prelude.{◌≡◌, ◌<◌, ⊤, ℕ, List, refl}
use Rattle.ob_base.specs.Events.{Event}
use Rattle.ob_script.specs.Trace.{Served}
use Rattle.ob_vault.specs.State.{World}
use Rattle.ob_vault.specs.Rows.{SameSizes}
use Rattle.ob_flat.specs.declared.fault.OpErr.{OpErr}
use Rattle.ob_inflight.specs.Leaving.{Leaves}
use Rattle.ob_inflight.specs.Progress.{ActsAs, Progress}
use Rattle.ob_stages.specs.declared.flight.Flight.{Flight}
use Rattle.ob_stages.specs.declared.flight.Flight.TheVariants.{Refused, Rows, Totals, Groups}
use Rattle.ob_stages.specs.Refusing.{IsRefused, refused_acts, refused_progress, refused_served}
use Rattle.ob_stages.specs.Reading.{HaltsTotals, MayRead, NeedsTable, FitsTable, reading_progress}
use Rattle.ob_stages.specs.ReadingLaws.{reading_acts, reading_below, reading_served, table_refits}
use Rattle.ob_stages.specs.Totals.{IsTotalling, totals_frames}
use Rattle.ob_stages.specs.Groups.{FitsGroups, IsGrouping, groups_frames, groups_refits}
use Rattle.ob_stages.specs.RowsStates.{MayRows, rows_progress}
use Rattle.ob_stages.specs.RowsHolds.{RowsFits, RowsHalt, RowsHold, RowsNeeds}
use Rattle.ob_stages.specs.RowsActs.{rows_acts}
use Rattle.ob_stages.specs.RowsLaws.{rows_below, rows_frames, rows_refits, rows_served}

abbrev pub flight_progress : Flight → Progress
flight_progress (Refused f) = refused_progress f
flight_progress (Rows f) = rows_progress f
flight_progress (Totals f) = reading_progress f.reading
flight_progress (Groups f) = reading_progress f.reading

abbrev pub MayFly : Flight → Served → Type 0
MayFly (Refused f) x = x ≡ refused_served f
MayFly (Rows f) x = MayRows f x
MayFly (Totals f) x = MayRead f.reading x
MayFly (Groups f) x = MayRead f.reading x

abbrev pub FlightNeeds : Flight → ℕ → Type 0
FlightNeeds (Refused f) q = ⊥
FlightNeeds (Rows f) q = RowsNeeds f q
FlightNeeds (Totals f) q = NeedsTable f.reading q
FlightNeeds (Groups f) q = NeedsTable f.reading q

abbrev pub FlightFits : Flight → (rows kept : List (List ℕ)) → Type 0
FlightFits (Refused f) rows kept = ⊤
FlightFits (Rows f) rows kept = RowsFits f rows kept
FlightFits (Totals f) rows kept = FitsTable f.reading rows
FlightFits (Groups f) rows kept = FitsGroups f rows kept

abbrev pub FlightHolds : Flight → (kept : List (List ℕ)) → List Event → World → Type 0
FlightHolds (Refused f) kept events w = IsRefused f events
FlightHolds (Rows f) kept events w = RowsHold f kept events w
FlightHolds (Totals f) kept events w = IsTotalling f events w
FlightHolds (Groups f) kept events w = IsGrouping f kept events w

abbrev pub FlightHalts : Flight → (events part : List Event) → OpErr → (old new : World) → Type 0
FlightHalts (Refused f) events part e old new = ⊥
FlightHalts (Rows f) events part e old new = RowsHalt f events part e old new
FlightHalts (Totals f) events part e old new = HaltsTotals f.reading events part e old new
FlightHalts (Groups f) events part e old new = HaltsTotals f.reading events part e old new

-- ---- its laws are those of its kind
pub flight_served : (f : Flight) (kept : List (List ℕ)) (events : List Event) (w : World) → FlightHolds f kept events w → MayFly f (flight_progress f).served
flight_served (Refused f) kept events w is = refl
flight_served (Rows f) kept events w is = rows_served f kept events w is
flight_served (Totals f) kept events w is = reading_served f.reading events w is.reading
flight_served (Groups f) kept events w is = reading_served f.reading events w is.reading

pub flight_acts : (f : Flight) (x : Served) (n : ℕ) → MayFly f x → ActsAs (flight_progress f) x n
flight_acts (Refused f) x n may = refused_acts f x n may
flight_acts (Rows f) x n may = rows_acts f x n may
flight_acts (Totals f) x n may = reading_acts f.reading x n may
flight_acts (Groups f) x n may = reading_acts f.reading x n may

pub flight_frames : (f : Flight) (kept : List (List ℕ)) (events : List Event) (w v : World) → Leaves (FlightNeeds f) w v → FlightHolds f kept events w → FlightHolds f kept events v
flight_frames (Refused f) kept events w v leaves is = is
flight_frames (Rows f) kept events w v leaves is = rows_frames f kept events w v leaves is
flight_frames (Totals f) kept events w v leaves is = totals_frames f events w v leaves is
flight_frames (Groups f) kept events w v leaves is = groups_frames f kept events w v leaves is

pub flight_below : (f : Flight) (kept : List (List ℕ)) (events : List Event) (w : World) (q : ℕ) → FlightHolds f kept events w → FlightNeeds f q → q < w.vault.next
flight_below (Refused f) kept events w q is need = absurd need
flight_below (Rows f) kept events w q is need = rows_below f kept events w q is need
flight_below (Totals f) kept events w q is need = reading_below f.reading events w q is.reading need
flight_below (Groups f) kept events w q is need = reading_below f.reading events w q is.reading need

pub flight_refits : (f : Flight) (rows kept more own : List (List ℕ)) → SameSizes rows more → SameSizes kept own → FlightFits f rows kept → FlightFits f more own
flight_refits (Refused f) rows kept more own same as_many fits = fits
flight_refits (Rows f) rows kept more own same as_many fits = rows_refits f rows kept more own same as_many fits
flight_refits (Totals f) rows kept more own same as_many fits = table_refits f.reading rows more same fits
flight_refits (Groups f) rows kept more own same as_many fits = groups_refits f rows kept more own same as_many fits
