-- How a statement is answered, and what is emitted of its answer.
use Rattle.std.specs.Prelude.{◌≡◌, ◌⊎◌, ◌<◌, ◌^◌, ℕ, Bool, true, false, List, [], ◌∷◌, ◌++◌, length, IsTrue, Option}
use Rattle.std.specs.List.{list_all}
use Rattle.ob_base.specs.declared.config.Public.{Public}
use Rattle.ob_base.specs.declared.refusal.Refusal.{Refusal}
use Rattle.ob_base.specs.Events.{Event, Head, Row, Close}
use Rattle.ob_base.specs.Refusals.{is_store_fault}
use Rattle.ob_base.specs.Stored.{headings_of}
use Rattle.ob_mean.specs.declared.answer.Answer.{Answer}
use Rattle.ob_mean.specs.declared.answer.Answer.TheVariants as A
use Rattle.ob_mean.specs.Prints.{Prints, Begun}
use Rattle.ob_mean.specs.Refusals.{early_refusal, limits_of}
use Rattle.ob_mean.specs.Verdict.{is_late}
use Rattle.ob_sql.specs.declared.stmt.Stmt.{Stmt}
use Rattle.ob_sql.specs.declared.stmt.Stmt.TheVariants.{Create, Insert, Update, Delete, Drop as DropTable, SelectRows as RowsStmt, SelectTotals as TotalsStmt}
use Rattle.ob_verdict.specs.declared.outcome.Outcome.{Outcome}
use Rattle.ob_verdict.specs.declared.outcome.Outcome.TheVariants.{Created, Inserted, Changed, Deleted, Dropped, Rows, Refused}

-- the refusal of a statement before any access, where m were asked before
abbrev pub refusal_now : Public → (m : ℕ) → Stmt → Option Refusal
refusal_now p m stmt = early_refusal (is_late m) (limits_of p) (headings_of p.tables) stmt

-- the outcome of a statement's answer
abbrev pub done_of : Stmt → Outcome
done_of (Create table columns capacity shape) = Created
done_of (Insert table columns values) = Inserted
done_of (Update table sets cond) = Changed 0
done_of (Delete table cond) = Deleted 0
done_of (DropTable table) = Dropped
done_of (RowsStmt s) = Rows 0
done_of (TotalsStmt s) = Rows 0

abbrev pub changed_of : Stmt → ℕ → Outcome
changed_of (Delete table cond) n = Deleted n
changed_of _ n = Changed n

abbrev pub outcome_of : Stmt → Answer → Outcome
outcome_of stmt A.Done = done_of stmt
outcome_of stmt (A.Changed n) = changed_of stmt n
outcome_of stmt (A.Rows rows) = Rows (length rows)
outcome_of stmt (A.Refused r) = Refused r

-- the first where the store failed, else the second
abbrev pub by_fault : (failed : Bool) → (cut whole : Type 0) → Type 0
by_fault true cut whole = cut
by_fault false cut whole = whole

-- an answer of rows is its header, its rows and their number
abbrev pub is_row : Event → Bool
is_row (Head labels) = false
is_row (Row cells) = true
is_row (Close k) = false

pub record IsAnswer (labels : List (List ℕ)) (k : ℕ) (events : List Event) : Type 0 where
  pub rows : List Event
  pub are_rows : IsTrue (list_all is_row rows)
  pub count : length rows ≡ k
  pub few : k < 2 ^ 32
  pub is : events ≡ Head labels ∷ (rows ++ Close k ∷ [])

-- one that was cut off is nothing, or its header and some rows
pub record IsBegunAnswer (labels : List (List ℕ)) (events : List Event) : Type 0 where
  pub rows : List Event
  pub are_rows : IsTrue (list_all is_row rows)
  pub is : (events ≡ []) ⊎ (events ≡ Head labels ∷ rows)

-- where the store fails, a SELECT of rows has begun its answer at most, and any other statement emitted nothing
abbrev pub EmitsUntilFault : Stmt → (labels : List (List ℕ)) → List Event → Type 0
EmitsUntilFault (RowsStmt s) labels events = IsBegunAnswer labels events
EmitsUntilFault _ labels events = events ≡ []

-- what is emitted of an answer to a statement: nothing except of rows, and of rows that the store cut off
abbrev pub Emits : (stmt : Stmt) (labels : List (List ℕ)) → Outcome → List Event → Type 0
Emits stmt labels (Rows k) events = IsAnswer labels k events
Emits stmt labels (Refused r) events = by_fault (is_store_fault r) (EmitsUntilFault stmt labels events) (events ≡ [])
Emits stmt labels _ events = events ≡ []

-- a statement whose answer may be rows
abbrev pub MayEmit : Stmt → Type 0
MayEmit (RowsStmt s) = Unit {0}
MayEmit (TotalsStmt s) = Unit {0}
MayEmit _ = ⊥

-- a first part of what an answer emits
pub record Partly (labels : List (List ℕ)) (answer : Answer) (events : List Event) : Type 0 where
  pub whole : List Event
  pub prints : Prints labels answer whole
  pub begun : Begun events whole
