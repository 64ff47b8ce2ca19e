-- INSERTs that are served together, in the accesses of the first.
use Rattle.std.specs.Prelude.{◌≡◌, ◌<◌, ⊤, ℕ, Bool, true, List, [], ◌∷◌, length, filter_map, Option, None, Some, Result, IfOk}
use Rattle.std.specs.List.{All}
use Rattle.ob_base.specs.declared.config.Public.{Public}
use Rattle.ob_base.specs.declared.refusal.Refusal.{Refusal}
use Rattle.ob_base.specs.declared.refusal.Refusal.TheVariants.{StoreFault}
use Rattle.ob_base.specs.Schemas.{Columns}
use Rattle.ob_base.specs.Stored.{headings_of}
use Rattle.ob_mean.specs.declared.answer.Answer.{Answer}
use Rattle.ob_mean.specs.Batches.{batch_most, begins_batch, inserts_into, verdicts}
use Rattle.ob_mean.specs.Refusals.{early_refusal, limits_of}
use Rattle.ob_mean.specs.Settle.{settle}
use Rattle.ob_mean.specs.Step.{new_row}
use Rattle.ob_mean.specs.Verdict.{Draws, Tables}
use Rattle.ob_mutate.specs.declared.inserting.Inserted.{Inserted}
use Rattle.ob_row.specs.Rows.{Row}
use Rattle.ob_sql.specs.declared.stmt.Stmt.{Stmt}
use Rattle.ob_sql.specs.declared.stmt.Stmt.TheVariants.{Insert}
use Rattle.ob_sql.specs.Skeleton.{skeleton}
use Rattle.ob_store.specs.State.{StoreState}
use Rattle.ob_vault.specs.State.{RevState}
use Rattle.ob_verdict.specs.declared.outcome.Outcome.{Outcome}
use Rattle.ob_verdict.specs.declared.outcome.Outcome.TheVariants.{Inserted as InsertedOut, Refused}
use Rattle.ob_verdict.specs.Outcomes.{by_fault, outcome_of, refusal_now}
use Rattle.ob_tables.specs.declared.engine.Engine.{Engine}
use Rattle.ob_tables.specs.declared.stop.RunStop.{RunStop}
use Rattle.ob_tables.specs.Agreeing.{count_of}
use Rattle.ob_tables.specs.Running.{inserted_as, is_fault}
use Rattle.ob_tables.specs.Serving.{ServesSilently}
use Rattle.ob_tables.specs.Telling.{ReadsTrue}

-- each of them inserts into the table that the first does
abbrev pub InsertAlike : (first : Stmt) → List Stmt → Type 0
InsertAlike first = All (λ stmt. inserts_into (skeleton stmt) ≡ inserts_into (skeleton first))

-- a batch begins with the first, and the others, not too many, go into it
pub record AreBatch (p : Public) (m : ℕ) (first : Stmt) (rest : List Stmt) : Type 0 where
  pub begins : begins_batch p m first ≡ true
  pub alike : InsertAlike first rest
  pub few : length rest < batch_most p

-- ---- what the others are answered
-- as an INSERT is that isn't refused before any access, and that the store didn't fail
pub record AnswersRow (outcome : Outcome) : Type 0 where
  pub inserted : Inserted
  pub is : outcome ≡ inserted_as inserted

-- one of them, by its refusal before any access and whether the store failed the first
abbrev pub IsServedWith : Option Refusal → (failed : Bool) → Outcome → Type 0
IsServedWith (Some r) failed outcome = outcome ≡ Refused r
IsServedWith None failed outcome =
    by_fault failed (outcome ≡ Refused StoreFault) (AnswersRow outcome)

abbrev pub AreServedWith : Public → (m : ℕ) → (failed : Bool) → List Stmt → List Outcome → Type 0
AreServedWith p m failed [] [] = ⊤
AreServedWith p m failed [] (outcome ∷ outcomes) = ⊥
AreServedWith p m failed (stmt ∷ stmts) [] = ⊥
AreServedWith p m failed (stmt ∷ stmts) (outcome ∷ outcomes) =
    IsServedWith (refusal_now p m stmt) failed outcome × AreServedWith p m failed stmts outcomes

-- the outcomes of these answers
abbrev pub outcomes_of : List Stmt → List Answer → List Outcome
outcomes_of [] answers = []
outcomes_of (stmt ∷ stmts) [] = []
outcomes_of (stmt ∷ stmts) (answer ∷ answers) = outcome_of stmt answer ∷ outcomes_of stmts answers

-- those by the meaning, after the first, where nothing is asked between them
abbrev pub outcomes_behind : Draws → Public → (m : ℕ) → (first : Stmt) → (rest : List Stmt) → Tables
    → List Outcome
outcomes_behind d p m first rest tables =
    outcomes_of rest (verdicts d p m rest (settle d p m tables first))

-- ---- a batch was carried out
pub record ServesBatch {R : Type 0} (state : R → RevState) (first : Stmt) (rest : List Stmt)
    (result : Result Outcome RunStop) (outcomes : List Outcome)
    (old : Engine R) (s : StoreState) (new : Engine R) (t : StoreState) : Type 0 where
  -- of the first all that is known of an INSERT, but that the tables are those after all of them
  pub serves : ServesSilently state first rest result old s new t
  -- each other one is answered: as refused before any access, or for its row, or as the store failed them all
  pub others : IfOk result (λ outcome. AreServedWith old.public (count_of old s) (is_fault outcome)
      rest outcomes)
  -- and where the store didn't fail, by its meaning over the tables after those before it
  pub told : (tables : Tables) (d : Draws) → ReadsTrue state old s t tables
      → IfOk result (λ outcome. by_fault (is_fault outcome) ⊤
      (outcomes ≡ outcomes_behind d old.public (count_of old s) first rest tables))

-- ---- the rows of a batch
-- that which an INSERT gives
abbrev pub row_of : Columns → Stmt → Row
row_of cs (Insert table columns values) = new_row cs columns values
row_of cs _ = []

-- its refusal before any access, by what is public and whether it is late
abbrev pub refusal_by : (late : Bool) → Public → Stmt → Option Refusal
refusal_by late p stmt = early_refusal late (limits_of p) (headings_of p.tables) stmt

-- where it isn't refused
abbrev pub row_unless : Option Refusal → Row → Option Row
row_unless (Some r) row = None
row_unless None row = Some row

abbrev pub rows_in : (late : Bool) → Public → Columns → List Stmt → List Row
rows_in late p cs stmts = filter_map (λ stmt. row_unless (refusal_by late p stmt) (row_of cs stmt)) stmts

-- the next answer to a row is given to each that isn't refused
abbrev pub given_next : Option Refusal → List Inserted → Outcome
given_next (Some r) answers = Refused r
given_next None [] = InsertedOut
given_next None (answer ∷ answers) = inserted_as answer

abbrev pub answers_behind : Option Refusal → List Inserted → List Inserted
answers_behind (Some r) answers = answers
answers_behind None [] = []
answers_behind None (answer ∷ answers) = answers

abbrev pub given_all : List Inserted → List (Option Refusal) → List Outcome
given_all answers [] = []
given_all answers (refusal ∷ refusals) =
    given_next refusal answers ∷ given_all (answers_behind refusal answers) refusals

-- or the store's fault
abbrev pub failed_by : Option Refusal → Outcome
failed_by (Some r) = Refused r
failed_by None = Refused StoreFault
