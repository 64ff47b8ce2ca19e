-- A statement that accesses an index among the tables in place, by its meaning.
use Rattle.std.specs.Prelude.{◌≡◌, ℕ, Bool, true, false, Some, None, MatchResult, ⊤}
use Rattle.std.specs.List.{All}
use Rattle.ob_base.specs.declared.config.Public.{Public}
use Rattle.ob_base.specs.Stored.{Stored, changed_at, headings, headings_of, stored_at}
use Rattle.ob_mean.specs.Keyed.{Ask, ask_of}
use Rattle.ob_mean.specs.Lawful.{selects_rows}
use Rattle.ob_mean.specs.Replay.{cut_at}
use Rattle.ob_mean.specs.Settle.{settle}
use Rattle.ob_mean.specs.Verdict.{Accessed, Draws, Held, Tables, access_settled, accessed, gone, index_of, is_full, next_draw, seen, seen_access, verdict}
use Rattle.ob_oram.specs.declared.fault.OramErr.{OramErr}
use Rattle.ob_oram.specs.declared.fault.OramErr.TheVariants.{Failed, Tampered, StashFull}
use Rattle.ob_oram.specs.declared.index.Index.{Index}
use Rattle.ob_oram.specs.declared.op.Got.{Got}
use Rattle.ob_oram.specs.Indexes.{IsStoredAs}
use Rattle.ob_oram.specs.Ops.{got_in}
use Rattle.ob_oram.specs.Scripts.{access_script}
use Rattle.ob_oram.specs.Short.{AsksReads}
use Rattle.ob_path.specs.Access.{Went}
use Rattle.ob_row.specs.Rows.{Row}
use Rattle.ob_row.specs.Spelling.{FitsColumns}
use Rattle.ob_script.specs.Script.{script}
use Rattle.ob_sql.specs.declared.stmt.Stmt.{Stmt}
use Rattle.ob_sql.specs.Skeleton.{skeleton}
use Rattle.ob_verdict.specs.Answering.{found}
use Rattle.ob_verdict.specs.Laws.{AreInPlace, IsStarted}
use Rattle.ob_verdict.specs.Outcomes.{outcome_of}
use Rattle.ob_vault.specs.State.{World}
use Rattle.ob_vault.specs.Words.{IsHonest}
use Rattle.ob_keyed.specs.declared.keyed.Keyed.{Keyed}
use Rattle.ob_keyed.specs.Answering.{got_answer, got_outcome}
use Rattle.ob_keyed.specs.Asking.{IsKeyed}
use Rattle.ob_keyed.specs.Meaning.{IsIndexOf}
use Rattle.ob_keyed.specs.Seeing.{seen_cut, seen_whole}
use Rattle.ob_keyed.specs.Serving.{ServesKeyed}

-- where its access has an answer, the statement is answered by that, and the tables are those that it leaves
pub record AnswersStmt (d : Draws) (p : Public) (m : ℕ) (ts : Tables) (stmt : Stmt) (a : Accessed) (w : Went Row) : Type 0 where
  pub room : is_full d p m ts stmt ≡ false
  pub answer : verdict p m ts stmt ≡ got_answer stmt (headings ts) w.got
  pub outcome : outcome_of stmt (verdict p m ts stmt) ≡ got_outcome stmt w.got
  pub settled : settle d p m ts stmt ≡ access_settled ts a.table w

-- it shows its leaf, whether it has an answer or the stash is full
pub record MeansAccess (d : Draws) (p : Public) (m : ℕ) (ts : Tables) (stmt : Stmt) (a : Accessed) : Type 0 where
  pub shown : seen d p m ts stmt ≡ seen_access d a
  pub answers : (w : Went Row) → gone d a ≡ Some w → AnswersStmt d p m ts stmt a w
  pub full : gone d a ≡ None → is_full d p m ts stmt ≡ true

abbrev pub AccessesMean : Type 0
AccessesMean = (d : Draws) (p : Public) (m : ℕ) (ts : Tables) (stmt : Stmt) (a : Accessed) → IsStarted p m ts stmt → AreInPlace p.stash ts → accessed ts stmt ≡ Some a → MeansAccess d p m ts stmt a

-- ---- beside the index in a store
-- the table in place of its name, and what it asks of it
pub record AccessAt (p : Public) (m : ℕ) (ts : Tables) (stmt : Stmt) (t : Stored Held) (index : Index) : Type 0 where
  pub ask : Ask
  pub asked : ask_of t.heading stmt ≡ Some ask
  pub is : accessed ts stmt ≡ Some (record { table = t; ask = ask })
  pub index_is : IsIndexOf t.heading index
  pub started : IsStarted p m ts stmt

abbrev pub FindsAccess : Type 0
FindsAccess = (p : Public) (m : ℕ) (ts : Tables) (stmt : Stmt) (t : Stored Held) (index : Index) (on : IsKeyed p m stmt index) → headings ts ≡ headings_of p.tables
    → stored_at on.name ts ≡ Some t → AccessAt p m ts stmt t index

-- it is answered so, and the index lies as the statement leaves it
pub record ToldKeyed (d : Draws) (p : Public) (m : ℕ) (ts : Tables) (stmt : Stmt) (t : Stored Held) (left : Index) (got : Got) (new : World) : Type 0 where
  pub room : is_full d p m ts stmt ≡ false
  pub answer : verdict p m ts stmt ≡ got_answer stmt (headings ts) (got_in got)
  pub outcome : outcome_of stmt (verdict p m ts stmt) ≡ got_outcome stmt (got_in got)
  pub after : Held
  pub settled : settle d p m ts stmt ≡ changed_at t.heading.name (λ held. after) ts
  pub lies : IsStoredAs left (index_of t.heading after) new
  -- a row that a SELECT found is one of the table's columns
  pub fits : selects_rows stmt ≡ true → All (FitsColumns t.heading.schema) (found (got_in got))

-- why it was stopped
abbrev pub StopsKeyed : Draws → Public → (m : ℕ) → Tables → Stmt → OramErr → Type 0
StopsKeyed d p m ts stmt Failed = ⊤
StopsKeyed d p m ts stmt (Tampered q x) = ⊥
StopsKeyed d p m ts stmt StashFull = is_full d p m ts stmt ≡ true

-- among tables in place, of which this one lies in the store
pub record MeansKeyed (d : Draws) (p : Public) (m : ℕ) (ts : Tables) (stmt : Stmt) (t : Stored Held) (index left : Index) (keyed : Keyed) (old new : World) : Type 0 where
  -- what is seen of it and what it asks, whatever was read, and wherever it was cut off
  pub shown : seen d p m ts stmt ≡ seen_whole keyed.leaf
  pub cut : (failed : Bool) (n : ℕ) → cut_at failed n p (skeleton stmt) (seen d p m ts stmt) ≡ seen_cut p.stash keyed.leaf n
  pub asks : script p (skeleton stmt) (seen d p m ts stmt) ≡ access_script index keyed.leaf
  -- and where nobody changed a block
  pub told : IsHonest old new → MatchResult keyed.result (λ got. ToldKeyed d p m ts stmt t left got new) (λ e. StopsKeyed d p m ts stmt e)
  -- and where its stash is full no write is asked, also where the store fails
  pub room : IsHonest old new → is_full d p m ts stmt ≡ true → AsksReads index old new

abbrev pub KeyedMeans : Type 0
KeyedMeans = (d : Draws) (p : Public) (m : ℕ) (ts : Tables) (stmt : Stmt) (t : Stored Held) (index left : Index) (keyed : Keyed) (old new : World) (on : IsKeyed p m stmt index)
    → headings ts ≡ headings_of p.tables → AreInPlace p.stash ts → stored_at on.name ts ≡ Some t
    → IsStoredAs index (index_of t.heading t.held) old → ServesKeyed stmt index left (next_draw d) keyed old new → MeansKeyed d p m ts stmt t index left keyed old new
