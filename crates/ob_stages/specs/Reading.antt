-- A SELECT of totals in flight, which reads its table a block at a time: how far it is, and how it was answered.
use Rattle.std.specs.Prelude.{◌≡◌, ◌⊎◌, ◌<◌, ◌≤◌, ◌-◌, ◌++◌, ◌==◌, ◌||◌, ℕ, Bool, true, false, List, [], Option, Some, None, length}
use Rattle.ob_base.specs.declared.config.Public.{Public}
use Rattle.ob_base.specs.declared.refusal.Refusal.TheVariants.{StoreFault}
use Rattle.ob_base.specs.declared.seen.End.{End}
use Rattle.ob_base.specs.declared.seen.End.TheVariants.{Whole, Cut}
use Rattle.ob_base.specs.declared.seen.Seen.{Seen}
use Rattle.ob_base.specs.Events.{Event}
use Rattle.ob_base.specs.Limits.{buffered}
use Rattle.ob_row.specs.Condition.{Condition}
use Rattle.ob_row.specs.Slots.{Slots}
use Rattle.ob_script.specs.Flights.{flight_public}
use Rattle.ob_script.specs.Parts.{count_part}
use Rattle.ob_script.specs.Script.{whole_script}
use Rattle.ob_script.specs.Trace.{Served}
use Rattle.ob_vault.specs.State.{World}
use Rattle.ob_vault.specs.Tied.{Ready}
use Rattle.ob_flat.specs.declared.fault.OpErr.{OpErr}
use Rattle.ob_flat.specs.declared.fault.OpErr.TheVariants.{Sink, NoMemory}
use Rattle.ob_flat.specs.declared.flat.Flat.{Flat}
use Rattle.ob_flat.specs.Emission.{SlotsToEnd, SlotsToHalt}
use Rattle.ob_flat.specs.Scans.{MayScan}
use Rattle.ob_flat.specs.Words.{FitBlock, blocks_of}
use Rattle.ob_sql.specs.declared.stmt.SelectTotals.{SelectTotals}
use Rattle.ob_sql.specs.declared.stmt.Stmt.{Stmt}
use Rattle.ob_sql.specs.declared.stmt.Stmt.TheVariants.{SelectTotals as TotalsStmt}
use Rattle.ob_sql.specs.Skeleton.{skeleton}
use Rattle.ob_mean.specs.Conditions.{where_at}
use Rattle.ob_mean.specs.Prints.{Prints}
use Rattle.ob_mean.specs.Verdict.{ended}
use Rattle.ob_verdict.specs.declared.outcome.Outcome.{Outcome}
use Rattle.ob_verdict.specs.declared.outcome.Outcome.TheVariants.{Refused}
use Rattle.ob_verdict.specs.Outcomes.{Emits, Partly}
use Rattle.ob_inflight.specs.Progress.{Progress}
use Rattle.ob_stages.specs.declared.reading.Reading.{Reading}
use Rattle.ob_stages.specs.Totalling.{IsTotalled, TotalsFit, labels_at, outcome_at, totalled_answer}

-- ---- how far it is
-- what its flight goes by
abbrev pub public_of : Reading → Public
public_of r = flight_public r.flown r.public.now

abbrev pub stmt_of : Reading → Stmt
stmt_of r = TotalsStmt r.select.now

-- how many groups it may have
abbrev pub places_of : Reading → ℕ
places_of r = buffered (public_of r).pack (public_of r).buffer

-- it is cut off only where the store fails it
abbrev pub end_now : (failed : Bool) → (asked : ℕ) → End
end_now true asked = Cut asked
end_now false asked = Whole

abbrev pub served_of : Reading → Served
served_of r = record { skeleton = skeleton (stmt_of r); seen = ended (end_now r.failed r.asked) }

abbrev pub is_over : Reading → Bool
is_over r = r.failed || (r.asked == r.blocks)

abbrev pub reads_left : (failed : Bool) → (blocks asked : ℕ) → ℕ
reads_left true blocks asked = 0
reads_left false blocks asked = blocks - asked

-- it prints nothing before its end
abbrev pub reading_progress : Reading → Progress
reading_progress r = record {
  stmt = stmt_of r;
  flat = r.flat;
  refusal = None;
  public = public_of r;
  served = served_of r;
  asked = r.asked;
  region = None;
  over = is_over r;
  prints = is_over r;
  failed = r.failed;
  outcome = r.outcome;
  booked = reads_left r.failed r.blocks r.asked;
  most = reads_left r.failed r.blocks r.asked;
}

-- nothing of it was asked
pub record StartsReading (p : Public) (n : ℕ) (s : SelectTotals) (t : Flat) (c : Condition)
    (r : Reading) : Type 0 where
  pub public : r.public.now ≡ p
  pub flown : r.flown ≡ n
  pub select : r.select.now ≡ s
  pub flat : r.flat ≡ t
  pub pred : r.pred ≡ c
  pub blocks : r.blocks ≡ blocks_of p.pack t
  pub asked : r.asked ≡ 0
  pub failed : r.failed ≡ false
  pub outcome : r.outcome ≡ None

-- ---- what it goes by
-- what is public says that it reads these blocks of this table, whose columns its items and its condition name
pub record IsBoarded (r : Reading) : Type 0 where
  pub script : (seen : Seen) → whole_script (public_of r) (skeleton (stmt_of r)) seen ≡ count_part r.flat.region r.blocks
  pub blocks : r.blocks ≡ blocks_of r.public.now.pack r.flat
  pub within : r.asked ≤ r.blocks
  pub rows : r.public.now.buffer ≤ 65536
  pub meant : r.pred ≡ where_at r.select.now.cond r.flat.schema
  pub items : TotalsFit r.flat.schema r.select.now

-- the same before it starts
pub record MayBoard (p : Public) (n : ℕ) (s : SelectTotals) (t : Flat) (c : Condition) : Type 0 where
  pub pack : 1 ≤ p.pack
  pub rows : p.buffer ≤ 65536
  pub script : (seen : Seen)
      → whole_script (flight_public n p) (skeleton (TotalsStmt s)) seen ≡ count_part t.region (blocks_of p.pack t)
  pub meant : c ≡ where_at s.cond t.schema
  pub items : TotalsFit t.schema s

-- it comes to its end, or will be cut off after what was asked; one that failed was cut off there
abbrev pub EndsLater : (failed : Bool) → (asked : ℕ) → End → Type 0
EndsLater true asked end = end ≡ Cut asked
EndsLater false asked end = (end ≡ Whole) ⊎ ((n : ℕ) × (end ≡ Cut n) × (asked < n))

-- what may still turn out to be served
pub record MayRead (r : Reading) (x : Served) : Type 0 where
  pub boarded : IsBoarded r
  pub skeleton : x.skeleton ≡ skeleton (stmt_of r)
  pub plain : x.seen ≡ ended x.seen.end
  pub ends : EndsLater r.failed r.asked x.seen.end

-- others must leave its table
abbrev pub NeedsTable : Reading → ℕ → Type 0
NeedsTable r q = q ≡ r.flat.region

-- the rows of a block
pub record FitsTable (r : Reading) (rows : List (List ℕ)) : Type 0 where
  pub count : length rows ≡ r.public.now.pack
  pub fit : FitBlock r.flat.schema rows

-- ---- its answer
-- it is that of these slots
pub record MeansTotals (places : ℕ) (flat : Flat) (s : SelectTotals) (slots : Slots)
    (outcome : Outcome) (events : List Event) : Type 0 where
  pub answer : outcome ≡ outcome_at s (totalled_answer places flat.schema s slots)
  pub prints : Prints (labels_at flat.schema s) (totalled_answer places flat.schema s slots) events

-- whatever the store gave
abbrev pub EndsAs : (failed : Bool) → Outcome → Type 0
EndsAs true outcome = outcome ≡ Refused StoreFault
EndsAs false outcome = IsTotalled outcome

-- it was answered so, and these events were emitted of that; unless the store failed it, it is the answer of the slots
-- that its table has
pub record AnswersTotals (places pack : ℕ) (flat : Flat) (s : SelectTotals) (failed : Bool)
    (outcome : Outcome) (events : List Event) (w : World) : Type 0 where
  pub ends : EndsAs failed outcome
  pub emits : Emits (TotalsStmt s) (labels_at flat.schema s) outcome events
  pub told : failed ≡ false → (q : SlotsToEnd pack flat w w)
      → MeansTotals places flat s q.slots outcome events

-- nothing is emitted before its end
abbrev pub Answered : (outcome : Option Outcome) → Reading → List Event → World → Type 0
Answered None r events w = events ≡ []
Answered (Some outcome) r events w =
    AnswersTotals (places_of r) r.public.now.pack r.flat r.select.now r.failed outcome events w

-- how it and its table stand
pub record IsReading (r : Reading) (events : List Event) (w : World) : Type 0 where
  pub ready : Ready w
  pub boarded : IsBoarded r
  pub table : MayScan r.public.now.pack r.flat w
  pub some : r.failed ≡ true → 1 ≤ r.asked
  pub going : is_over r ≡ false → r.outcome ≡ None
  pub answered : Answered r.outcome r events w

-- where it gave up a first part of its answer was emitted, and nothing before all was read
pub record HaltsTotals (r : Reading) (events part : List Event) (e : OpErr) (old new : World)
    : Type 0 where
  pub told : (q : SlotsToHalt r.public.now.pack r.flat old new)
      → Partly (labels_at r.flat.schema r.select.now)
      (totalled_answer (places_of r) r.flat.schema r.select.now q.slots) (events ++ part)
  pub honest : (q : SlotsToEnd r.public.now.pack r.flat old new) → (e ≡ Sink) ⊎ (e ≡ NoMemory)
  pub emitter : (e ≡ Sink) ⊎ (e ≡ NoMemory) → (r.failed ≡ false) × (r.asked ≡ r.blocks)
