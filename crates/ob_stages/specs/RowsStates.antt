-- How far a SELECT of a table's rows in flight is.
use Rattle.std.specs.Prelude.{◌≡◌, ◌<◌, ◌≤◌, ◌+◌, ◌-◌, ◌*◌, ◌^◌, min, nat_lt, ℕ, Bool, true, false, List, Option, Some, None, if◌then◌else◌, length}
use Rattle.ob_base.specs.declared.config.Plan.TheVariants.{Small}
use Rattle.ob_base.specs.declared.config.Planner.TheVariants.{Forced}
use Rattle.ob_base.specs.declared.config.Public.{Public}
use Rattle.ob_base.specs.declared.schema.Shape.TheVariants.{Flat as FlatShape}
use Rattle.ob_base.specs.declared.seen.End.{End}
use Rattle.ob_base.specs.declared.seen.End.TheVariants.{Whole, Cut}
use Rattle.ob_base.specs.declared.seen.Seen.{Seen}
use Rattle.ob_base.specs.declared.skeleton.ColumnName.{ColumnName}
use Rattle.ob_base.specs.declared.skeleton.Skeleton.{Skeleton}
use Rattle.ob_base.specs.declared.skeleton.Skeleton.TheVariants.{Rows}
use Rattle.ob_base.specs.declared.skeleton.Source.TheVariants.{Table as OneTable}
use Rattle.ob_base.specs.Limits.{buffered_blocks}
use Rattle.ob_base.specs.Plans.{padded_rows}
use Rattle.ob_base.specs.Stored.{Stored, headings_of, stored_at, stored_regions}
use Rattle.ob_flat.specs.declared.flat.Flat.{Flat}
use Rattle.ob_flat.specs.Flats.{IsSized}
use Rattle.ob_flat.specs.Words.{blocks_of}
use Rattle.ob_emit.specs.Emitting.{AreColumns}
use Rattle.ob_inflight.specs.Progress.{Progress, act_of}
use Rattle.ob_mean.specs.Step.{printed_places, select_columns, select_condition}
use Rattle.ob_mean.specs.Verdict.{counted, ended as seen_to}
use Rattle.ob_row.specs.Condition.{Condition}
use Rattle.ob_script.specs.Flights.{flight_public}
use Rattle.ob_script.specs.Script.{whole_script}
use Rattle.ob_script.specs.Trace.{Served}
use Rattle.ob_select.specs.Selecting.{Selection}
use Rattle.ob_select.specs.Settings.{AreSettings}
use Rattle.ob_small.specs.Selection as Small
use Rattle.ob_sql.specs.Skeleton.{skeleton}
use Rattle.ob_sql.specs.declared.stmt.SelectRows.{SelectRows}
use Rattle.ob_sql.specs.declared.stmt.Stmt.TheVariants.{SelectRows as RowsStmt}
use Rattle.ob_verdict.specs.declared.outcome.Outcome.{Outcome}
use Rattle.ob_stages.specs.Going.{GoesOn}
use Rattle.ob_stages.specs.declared.rows.RowsFlight.{RowsFlight}
use Rattle.ob_stages.specs.declared.rows.Stage.{Stage}
use Rattle.ob_stages.specs.declared.rows.Stage.TheVariants.{Count, Make, Read, Write, Emit, Discard, Over}

-- a SELECT of rows that goes on
pub record RowsAt : Type 0 where
  -- what it selects, by the settings of its flight, of how many that is, and as it is written
  pub q : Selection
  pub flown : ℕ
  pub select : SelectRows
  pub stage : Stage
  -- how many rows are selected, in the blocks that were counted, and how many were emitted
  pub k : ℕ
  pub shown : ℕ
  -- how many accesses it asked, and for how many more there is room
  pub asked : ℕ
  pub booked : ℕ
  -- the region that it made
  pub region : Option ℕ
  pub seen : Seen
  -- whether the store failed it, and its answer
  pub failed : Bool
  pub outcome : Option Outcome

-- what one of so many that fly selects
abbrev pub selection_by : (flown : ℕ) → Public → Flat → Condition → (cols : List ℕ) → Selection
selection_by flown p flat condition cols =
    record { public = flight_public flown p; flat = flat; condition = condition; cols = cols; ending = 0 }

abbrev pub rows_selection : RowsFlight → Selection
rows_selection f = selection_by f.flown f.public.now f.flat f.pred f.cols.items

abbrev pub rows_skeleton : SelectRows → Skeleton
rows_skeleton select = skeleton (RowsStmt select)

abbrev pub rows_at : RowsFlight → RowsAt
rows_at f = record {
  q = rows_selection f;
  flown = f.flown;
  select = f.select.now;
  stage = f.stage;
  k = f.k;
  shown = f.shown;
  asked = f.asked;
  booked = f.booked;
  region = f.region;
  seen = f.seen;
  failed = f.failed;
  outcome = f.outcome;
}

-- ---- sizes
-- the slots of the result: as many as rows are selected, or as results are padded to
abbrev pub taken_by : (pad : Option ℕ) → (slots k : ℕ) → ℕ
taken_by None slots k = k
taken_by (Some pad) slots k = padded_rows pad slots

abbrev pub taken : Selection → (k : ℕ) → ℕ
taken q k = taken_by q.public.pad q.flat.capacity k

-- how many blocks its share has space for
abbrev pub kept_blocks : Selection → ℕ
kept_blocks q = buffered_blocks q.public.pack q.public.buffer

-- the same as one selection into a region
abbrev pub small : Selection → (k : ℕ) → Small.Selection
small q k = Small.select_of q.public.pack (kept_blocks q) q.flat q.condition (taken q k)

-- the blocks of the table
abbrev pub table_blocks : Selection → ℕ
table_blocks q = blocks_of q.public.pack q.flat

-- the blocks that are written in a pass
abbrev pub part_blocks : Selection → (k pass : ℕ) → ℕ
part_blocks q k pass = min (kept_blocks q) (Small.results (small q k) - pass * kept_blocks q)

-- the table that a region holds its result as
abbrev pub result_in : Selection → (k region : ℕ) → Flat
result_in q k region = Small.table (small q k) region

-- the accesses before this block of a pass, counted from the first pass, those of all, and all that are asked
abbrev pub before_pass : Selection → (pass : ℕ) → ℕ
before_pass q pass = pass * (table_blocks q + kept_blocks q)

abbrev pub all_passes : Selection → (k : ℕ) → ℕ
all_passes q k = Small.fill_length (small q k)

abbrev pub whole_length : Selection → (k : ℕ) → ℕ
whole_length q k = table_blocks q + 1 + all_passes q k + Small.results (small q k) + 1

-- more rows are selected than results are padded to
abbrev pub is_passed : (pad : Option ℕ) → (k : ℕ) → Bool
is_passed None k = false
is_passed (Some pad) k = nat_lt pad k

abbrev pub passes_pad : RowsAt → Bool
passes_pad g = is_passed g.q.public.pad g.k

-- ---- what the flight sees of it
abbrev pub is_over : Stage → Bool
is_over (Count u) = false
is_over Make = false
is_over (Read pass u seen) = false
is_over (Write pass x) = false
is_over (Emit x) = false
is_over Discard = false
is_over Over = true

abbrev pub is_printing : Stage → Bool
is_printing (Count u) = false
is_printing Make = false
is_printing (Read pass u seen) = false
is_printing (Write pass x) = false
is_printing (Emit x) = true
is_printing Discard = false
is_printing Over = true

-- no flight asks so many accesses of one statement
abbrev pub limit : ℕ
limit = 2 ^ 56

abbrev pub served_of : RowsAt → Served
served_of g = record { skeleton = rows_skeleton g.select; seen = g.seen }

abbrev pub progress_of : RowsAt → Progress
progress_of g = record {
  stmt = RowsStmt g.select;
  flat = g.q.flat;
  refusal = None;
  public = g.q.public;
  served = served_of g;
  asked = g.asked;
  region = g.region;
  over = is_over g.stage;
  prints = is_printing g.stage;
  failed = g.failed;
  outcome = g.outcome;
  booked = g.booked;
  most = limit - g.asked;
}

abbrev pub rows_progress : RowsFlight → Progress
rows_progress f = progress_of (rows_at f)

-- ---- what is true of it from start to end
-- it reads a flat table of its flight's
pub record ReadsTable (q : Selection) (s : Skeleton) : Type 0 where
  pub name : List ℕ
  pub columns : Option (List ColumnName)
  pub is : s ≡ Rows (OneTable name) columns
  pub table : Stored ℕ
  pub found : stored_at name (stored_regions q.public.tables) ≡ Some table
  pub flat : table.heading.shape ≡ FlatShape
  pub region : table.held ≡ q.flat.region
  pub slots : table.heading.capacity ≡ q.flat.capacity
  pub schema : table.heading.schema ≡ q.flat.schema

pub record IsFlown (q : Selection) (s : Skeleton) : Type 0 where
  pub settings : AreSettings q.public
  pub planner : q.public.planner ≡ Forced Small
  pub size : IsSized q.flat.schema q.flat.capacity
  pub columns : AreColumns q.flat.schema q.cols
  pub reads : ReadsTable q s

-- it selects what the statement says
pub record IsOf (q : Selection) (select : SelectRows) : Type 0 where
  pub condition : q.condition ≡ select_condition select (headings_of q.public.tables)
  pub cols : q.cols ≡ printed_places select (select_columns select (headings_of q.public.tables))

-- what its sizes hang on
pub record IsSizedAt (g : RowsAt) : Type 0 where
  pub several : 1 ≤ g.flown
  pub settings : AreSettings g.q.public
  pub size : IsSized g.q.flat.schema g.q.flat.capacity

-- ---- where it is
-- what is seen of one that takes so many rows: nothing where results are padded
abbrev pub Takes : (pad : Option ℕ) → (k : ℕ) → Seen → Type 0
Takes None k seen = (seen.k ≡ Some k) × (seen.plan ≡ Some Small) × (seen.then ≡ None)
Takes (Some pad) k seen = Unit {0}

-- for how many of its accesses room is taken: of a result that isn't padded only once its size is known
abbrev pub known_by : (pad : Option ℕ) → (counted all : ℕ) → ℕ
known_by None counted all = counted
known_by (Some pad) counted all = all

abbrev pub known : Stage → (pad : Option ℕ) → (counted all : ℕ) → ℕ
known (Count u) pad counted all = known_by pad counted all
known Make pad counted all = known_by pad counted all
known (Read pass u seen) pad counted all = all
known (Write pass x) pad counted all = all
known (Emit x) pad counted all = all
known Discard pad counted all = all
known Over pad counted all = 0

-- what is seen of one that has counted so many rows, one at least where results aren't padded
abbrev pub seen_taking : (pad : Option ℕ) → (k : ℕ) → Seen
seen_taking None k = counted k (Some Small) None Whole
seen_taking (Some pad) k = seen_to Whole

-- it has come to this block of its count
pub record IsCounting (g : RowsAt) (u : ℕ) : Type 0 where
  pub asked : g.asked ≡ u
  pub below : u < table_blocks g.q
  pub region : g.region ≡ None
  pub seen : g.seen ≡ seen_to Whole
  pub few : g.k ≤ u * g.q.public.pack

-- it has counted, and asked so many accesses
pub record HasCounted (g : RowsAt) (done : ℕ) : Type 0 where
  pub asked : g.asked ≡ done
  pub seen : g.seen ≡ seen_taking g.q.public.pad g.k
  pub some : 1 ≤ taken g.q g.k
  pub most : taken g.q g.k ≤ g.q.flat.capacity
  pub few : g.k ≤ g.q.flat.capacity

-- and its result has a region of its own
pub record HasRegion (g : RowsAt) (done : ℕ) : Type 0 where
  pub counted : HasCounted g done
  pub own : ℕ
  pub region : g.region ≡ Some own
  pub apart : g.q.flat.region ≡ own → ⊥

-- how it ends, all asked
abbrev pub end_by : (failed : Bool) → (asked : ℕ) → End
end_by true asked = Cut asked
end_by false asked = Whole

-- all was asked, the count at least unless the store failed it
pub record HasAsked (g : RowsAt) : Type 0 where
  pub ended : (n : ℕ) → act_of (progress_of g) (served_of g) n ≡ None
  pub counted : g.failed ≡ false → table_blocks g.q ≤ g.asked
  pub second : g.seen.then ≡ None
  pub end : g.seen.end ≡ end_by g.failed g.asked
  pub within : g.asked ≤ length (whole_script g.q.public (rows_skeleton g.select) g.seen)

-- ---- from one stage to the next
abbrev pub after_read : RowsAt → (pass u seen : ℕ) → Stage
after_read g pass u seen =
    if nat_lt (u + 1) (table_blocks g.q) then Read pass (u + 1) seen else Write pass 0

abbrev pub after_write : RowsAt → (pass x : ℕ) → Stage
after_write g pass x =
    if nat_lt (x + 1) (part_blocks g.q g.k pass) then Write pass (x + 1)
    else (if nat_lt (pass + 1) (Small.passes (small g.q g.k)) then Read (pass + 1) 0 0 else Emit 0)

abbrev pub after_emit : RowsAt → (x : ℕ) → Stage
after_emit g x = if nat_lt (x + 1) (Small.results (small g.q g.k)) then Emit (x + 1) else Discard

-- ---- where it is
-- before this block of a pass, and before this one of what is written in it
abbrev pub reads_before : Selection → (pass u : ℕ) → ℕ
reads_before q pass u = table_blocks q + 1 + (before_pass q pass + u)

abbrev pub writes_before : Selection → (pass x : ℕ) → ℕ
writes_before q pass x = table_blocks q + 1 + (before_pass q pass + (table_blocks q + x))

abbrev pub emits_before : Selection → (k x : ℕ) → ℕ
emits_before q k x = table_blocks q + 1 + all_passes q k + x

abbrev pub PlacedAt : Stage → RowsAt → Type 0
PlacedAt (Count u) g = IsCounting g u
PlacedAt Make g = HasCounted g (table_blocks g.q) × (g.region ≡ None)
PlacedAt (Read pass u seen) g =
    HasRegion g (reads_before g.q pass u) × (pass < Small.passes (small g.q g.k)) × (u < table_blocks g.q)
PlacedAt (Write pass x) g =
    HasRegion g (writes_before g.q pass x) × (pass < Small.passes (small g.q g.k)) × (x < part_blocks g.q g.k pass)
PlacedAt (Emit x) g = HasRegion g (emits_before g.q g.k x) × (x < Small.results (small g.q g.k))
PlacedAt Discard g = HasRegion g (emits_before g.q g.k (Small.results (small g.q g.k)))
PlacedAt Over g = HasAsked g

-- no row is emitted before its result is read back
abbrev pub ShownAt : Stage → (shown : ℕ) → Type 0
ShownAt (Count u) shown = shown ≡ 0
ShownAt Make shown = shown ≡ 0
ShownAt (Read pass u seen) shown = shown ≡ 0
ShownAt (Write pass x) shown = shown ≡ 0
ShownAt (Emit x) shown = Unit {0}
ShownAt Discard shown = Unit {0}
ShownAt Over shown = Unit {0}

pub record IsPlaced (g : RowsAt) : Type 0 where
  pub several : 1 ≤ g.flown
  pub flown : IsFlown g.q (rows_skeleton g.select)
  pub own : IsOf g.q g.select
  pub at : PlacedAt g.stage g
  pub shown : ShownAt g.stage g.shown
  pub unfailed : is_over g.stage ≡ false → g.failed ≡ false
  pub unended : is_over g.stage ≡ false → g.outcome ≡ None
  pub booked : g.booked ≡ known g.stage g.q.public.pad (table_blocks g.q) (whole_length g.q g.k) - g.asked

-- one of which nothing was asked
abbrev pub boarded_rows : Selection → (flown : ℕ) → SelectRows → RowsAt
boarded_rows q flown select = record {
  q = q;
  flown = flown;
  select = select;
  stage = Count 0;
  k = 0;
  shown = 0;
  asked = 0;
  booked = known (Count 0) q.public.pad (table_blocks q) (whole_length q 0);
  region = None;
  seen = seen_to Whole;
  failed = false;
  outcome = None;
}

-- ---- what may turn out to be served
abbrev pub MayTake : RowsAt → Seen → Type 0
MayTake g seen = GoesOn g.asked seen.end × Takes g.q.public.pad g.k seen

abbrev pub MaySee : Stage → RowsAt → Seen → Type 0
MaySee (Count u) g seen = GoesOn g.asked seen.end
MaySee Make g seen = MayTake g seen
MaySee (Read pass u s) g seen = MayTake g seen
MaySee (Write pass x) g seen = MayTake g seen
MaySee (Emit x) g seen = MayTake g seen
MaySee Discard g seen = MayTake g seen
MaySee Over g seen = seen ≡ g.seen

pub record MayServe (g : RowsAt) (x : Served) : Type 0 where
  pub placed : IsPlaced g
  pub same : x.skeleton ≡ rows_skeleton g.select
  pub second : x.seen.then ≡ None
  pub may : MaySee g.stage g x.seen

abbrev pub MayRows : RowsFlight → Served → Type 0
MayRows f x = MayServe (rows_at f) x
