-- What is proved of these definitions.
use Rattle.std.specs.Prelude.{◌≡◌, ◌≢◌, ◌↔◌, ℕ, ◌<◌, ◌≤◌, ◌^◌, Bool, false, List, [], ◌∷◌, map, length, Option, Some, None, IsSome, is_some, ⊤, if◌then◌else◌}
use Rattle.ob_base.specs.declared.config.Public.{Public}
use Rattle.ob_base.specs.declared.config.Plan.{Plan}
use Rattle.ob_base.specs.declared.config.Plan.TheVariants.{Small, Hash}
use Rattle.ob_base.specs.declared.config.Planner.TheVariants.{Auto, Cheapest}
use Rattle.ob_base.specs.declared.schema.Shape.{Shape}
use Rattle.ob_base.specs.declared.schema.Shape.TheVariants.{Flat, Indexed}
use Rattle.ob_base.specs.declared.seen.End.TheVariants.{Whole, AfterCount, Batched}
use Rattle.ob_base.specs.declared.refusal.Refusal.TheVariants.{NotConsecutive}
use Rattle.ob_base.specs.declared.shown.Shown.{Shown}
use Rattle.ob_base.specs.Indexes.{slots_in_place}
use Rattle.ob_base.specs.Limits.{buffered_blocks}
use Rattle.ob_base.specs.Plans.{IsPadded, choose_padded, padded_rows}
use Rattle.ob_base.specs.Schemas.{key_place}
use Rattle.ob_base.specs.Stored.{Stored, NamesTable, headings, headings_of}
use Rattle.ob_row.specs.Bags.{Same}
use Rattle.ob_row.specs.Rows.{keys_repeat}
use Rattle.ob_row.specs.Slots.{Slots, rows, selected}
use Rattle.ob_row.specs.Totals.{printed}
use Rattle.ob_row.specs.Truth.{is_true}
use Rattle.ob_sql.specs.declared.stmt.SelectRows.{SelectRows}
use Rattle.ob_sql.specs.declared.stmt.Stmt.{Stmt}
use Rattle.ob_sql.specs.declared.stmt.Stmt.TheVariants.{SelectRows as RowsStmt}
use Rattle.ob_sql.specs.Skeleton.{skeleton}
use Rattle.ob_mean.specs.Refusals.{early_refusal, limits_of}
use Rattle.ob_mean.specs.SameMeaning.{SameTables}
use Rattle.ob_mean.specs.Step.{step_next, select_columns, select_condition, rows_answer, selected_rows, printed_places}
use Rattle.ob_row.specs.Results.{RowTest, result_slots}
use Rattle.ob_mean.specs.Verdict.{Accessed, Draws, Held, IsIndexed, Tables, accessed, database, is_full, leaf_gone, source_slots, selected_places, plan_for, bucket_size, first_unplaced, fallback, refusal, rows_refusal, seen, ended, is_late}
use Rattle.ob_mean.specs.Settle.{settle}
use Rattle.ob_mean.specs.Lawful.{Lawful, selects_rows}
use Rattle.ob_mean.specs.Replay.{IsMember, Session, cut_at}
use Rattle.ob_script.specs.Script.{whole_script}

-- ---- the tables in place and the tables as bags
-- a flat table has no leaf, and an index stands
abbrev pub HoldsByShape : Shape → Stored Held → Type 0
HoldsByShape Flat t = t.held.leaves ≡ []
HoldsByShape Indexed t = IsIndexed t

-- a table has as many slots as it is to have, its rows have distinct primary keys, and its columns name it
pub record IsInPlace (stash : ℕ) (t : Stored Held) : Type 0 where
  pub slots : length t.held.slots ≡ slots_in_place stash t.heading
  pub keys : keys_repeat (key_place t.heading.schema) (rows t.held.slots) ≡ false
  pub named : NamesTable t.heading
  pub shaped : HoldsByShape t.heading.shape t

abbrev pub AreInPlace : (stash : ℕ) → Tables → Type 0
AreInPlace stash [] = ⊤
AreInPlace stash (t ∷ ts) = IsInPlace stash t × AreInPlace stash ts

-- a statement leaves them so
abbrev pub KeepsInPlace : Draws → Public → ℕ → Tables → Stmt → Type 0
KeepsInPlace d p m ts stmt = AreInPlace p.stash ts → AreInPlace p.stash (settle d p m ts stmt)

-- unless the stash of an index is full
abbrev pub SettlesAsStep : Draws → Public → ℕ → Tables → Stmt → Type 0
SettlesAsStep d p m ts stmt =
    m < 2 ^ 63 → AreInPlace p.stash ts → is_full d p m ts stmt ≡ false → SameTables (database (settle d p m ts stmt)) (step_next p (database ts) stmt)

-- ---- what the seen of a statement tells
-- no refusal before the first access
abbrev pub IsStarted : Public → ℕ → Tables → Stmt → Type 0
IsStarted p m ts stmt = early_refusal (is_late m) (limits_of p) (headings ts) stmt ≡ None

-- all except a SELECT of rows and an access of an index shows its kind alone, also where a duplicate key, a full table or too
-- many groups refuse it
abbrev pub ShowsKindAlone : Type 0
ShowsKindAlone = (d : Draws) (p : Public) (m : ℕ) (ts : Tables) (stmt : Stmt) → IsStarted p m ts stmt → accessed ts stmt ≡ None → selects_rows stmt ≡ false →
    seen d p m ts stmt ≡ ended Whole

-- an access shows its leaf and nothing else, whatever it answers
abbrev pub AccessShowsLeaf : Type 0
AccessShowsLeaf = (d : Draws) (p : Public) (m : ℕ) (ts : Tables) (stmt : Stmt) (a : Accessed) → IsStarted p m ts stmt → accessed ts stmt ≡ Some a →
    seen d p m ts stmt ≡ record (ended Whole) { leaf = Some (leaf_gone d a) }

-- where a plan is seen, the statement came to its end, also where a forced Hash overflows
abbrev pub PlanIsWhole : Type 0
PlanIsWhole = (d : Draws) (p : Public) (m : ℕ) (ts : Tables) (stmt : Stmt) (plan : Plan) → (seen d p m ts stmt).plan ≡ Some plan → (seen d p m ts stmt).end ≡ Whole

-- where a plan is forced, or the shortest script is taken, k and the plan are all that is seen
abbrev pub ShowsPlanAlone : Type 0
ShowsPlanAlone = (d e : Draws) (p : Public) (m : ℕ) (ts us : Tables) (a b : Stmt) (plan : Plan) → p.planner ≢ Auto →
    (seen d p m ts a).plan ≡ Some plan → (seen e p m us b).plan ≡ Some plan → (seen d p m ts a).k ≡ (seen e p m us b).k → seen d p m ts a ≡ seen e p m us b

-- where the shortest script is taken, that is never Hash, and no statement ends after its count
abbrev pub CheapestShows : Type 0
CheapestShows = (d : Draws) (p : Public) (m : ℕ) (ts : Tables) (stmt : Stmt) → p.planner ≡ Cheapest →
    ((seen d p m ts stmt).plan ≢ Some Hash) × ((seen d p m ts stmt).end ≢ AfterCount)

-- and whatever is selected, no plan refuses it
abbrev pub CheapestAccepts : Type 0
CheapestAccepts = (p : Public) (places : List ℕ) → p.planner ≡ Cheapest → p.pad ≡ None → rows_refusal p places ≡ None

-- where results are padded, a SELECT of rows shows its kind alone, whatever rows there are and however many are selected
abbrev pub PaddedShowsKind : Type 0
PaddedShowsKind = (d : Draws) (p : Public) (m : ℕ) (ts : Tables) (stmt : Stmt) → IsStarted p m ts stmt → accessed ts stmt ≡ None → IsSome p.pad →
    seen d p m ts stmt ≡ ended Whole

-- of the refusals by rows, one alone shows
abbrev pub ShowsNotConsecutive : Type 0
ShowsNotConsecutive = (d : Draws) (p : Public) (m : ℕ) (ts : Tables) (stmt : Stmt) → IsStarted p m ts stmt → ((seen d p m ts stmt).end ≡ AfterCount) ↔ (refusal p m ts stmt ≡ Some NotConsecutive)

abbrev pub SeenIsLawful : Type 0
SeenIsLawful = (d : Draws) (p : Public) (m : ℕ) (ts : Tables) (stmt : Stmt) → 1 ≤ p.pack → headings ts ≡ headings_of p.tables → AreInPlace p.stash ts →
    Lawful p m stmt (seen d p m ts stmt)

-- the same where it was cut off after so many of its accesses, of which the last failed or didn't
abbrev pub CutIsLawful : Type 0
CutIsLawful = (d : Draws) (p : Public) (m : ℕ) (ts : Tables) (stmt : Stmt) (failed : Bool) (n : ℕ) → 1 ≤ p.pack → headings ts ≡ headings_of p.tables → AreInPlace p.stash ts →
    IsStarted p m ts stmt → n ≤ length (whole_script p (skeleton stmt) (seen d p m ts stmt)) → Lawful p m stmt (cut_at failed n p (skeleton stmt) (seen d p m ts stmt))

-- nor does more show of an INSERT that was served with the one before it
abbrev pub JoinedIsLawful : Type 0
JoinedIsLawful = (s : Session) (stmt : Stmt) → headings s.tables ≡ headings_of s.public.tables → IsMember s stmt → Lawful s.public s.asked stmt (ended Batched)

-- ---- what a SELECT of rows prints from its result
-- the plan by which the rows are printed: the one after the first, where there is one
abbrev pub last_plan : Public → Plan → List ℕ → Plan
last_plan p Hash places = if is_some (fallback p.planner (first_unplaced p places)) then Small else Hash
last_plan p plan places = plan

-- the plan by which the rows of n slots are printed, at least one of which is selected, or the result is padded
abbrev pub result_plan : Option ℕ → Public → (n : ℕ) → List ℕ → Plan
result_plan None p n places = last_plan p (plan_for p n places) places
result_plan (Some pad) p n places = choose_padded p.planner p.pack p.buffer n (padded_rows pad n)

-- the result of selecting from these slots, except for the empty slots to which it is padded
abbrev pub selected_result : Public → RowTest → Slots → Slots
selected_result p test slots =
    let places = selected test slots in result_slots (result_plan p.pad p (length slots) places) (length places) (bucket_size p) test slots

abbrev pub result_of : Public → Tables → SelectRows → Slots
result_of p ts q = selected_result p (is_true (select_condition q (headings ts))) (source_slots p q.source ts)

-- its rows as they are printed, in order of their places
abbrev pub printed_rows : Public → Tables → SelectRows → List (List Shown)
printed_rows p ts q = map (printed (printed_places q (select_columns q (headings ts)))) (rows (result_of p ts q))

abbrev pub PrintsAnswer : Type 0
PrintsAnswer = (p : Public) (m : ℕ) (ts : Tables) (q : SelectRows) → 1 ≤ p.pack → 1 ≤ buffered_blocks p.pack p.buffer → IsPadded p.pad p.planner → AreInPlace p.stash ts → accessed ts (RowsStmt q) ≡ None →
    refusal p m ts (RowsStmt q) ≡ None → 0 < length (selected_places p q ts) →
    Same (rows_answer q (select_columns q (headings (database ts))) (selected_rows q (database ts))) (printed_rows p ts q)
