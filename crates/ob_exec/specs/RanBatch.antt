-- What a batch of INSERTs does after which tables are saved where they are to be, whatever they are answered.
use Rattle.std.specs.Prelude.{◌≡◌, ⊤, List, Result, IfOk}
use Rattle.ob_exec.specs.Ran.{CarriedOut, ShowsNothing}
use Rattle.ob_mean.specs.Verdict.{Draws, Tables}
use Rattle.ob_reopen.specs.Keepers.{KeeperState}
use Rattle.ob_sql.specs.declared.stmt.Stmt.{Stmt}
use Rattle.ob_store.specs.State.{StoreState}
use Rattle.ob_tables.specs.Agreeing.{count_of, public_of, seen_of}
use Rattle.ob_tables.specs.Batch.{AreServedWith, outcomes_behind}
use Rattle.ob_tables.specs.Running.{is_fault}
use Rattle.ob_tables.specs.Telling.{ReadsTrue}
use Rattle.ob_tables.specs.declared.engine.Engine.{Engine}
use Rattle.ob_tables.specs.declared.stop.RunStop.{RunStop}
use Rattle.ob_vault.specs.State.{RevState}
use Rattle.ob_verdict.specs.Outcomes.{by_fault}
use Rattle.ob_verdict.specs.declared.outcome.Outcome.{Outcome}

-- the first was answered by the result, and each of the rest by its outcome
pub record RanBatch {R : Type 0} (state : R → RevState) (first : Stmt) (rest : List Stmt)
    (result : Result Outcome RunStop) (outcomes : List Outcome) (old : Engine R) (s : StoreState)
    (new : Engine R) (t : StoreState) (keeper_old keeper_new : KeeperState) : Type 0 where
  -- of the first all is known that is of a statement by itself, but that the tables after it are those after all of them
  pub carried : CarriedOut state first rest ⊥ result old s new t keeper_old keeper_new
  -- it is answered no rows, and nothing except its end is seen
  pub shows : ShowsNothing result (seen_of new)
  -- each of the others is refused before any access, or answered for its row, or the store failed them all
  pub others : IfOk result (λ outcome.
      AreServedWith (public_of old) (count_of old s) (is_fault outcome) rest outcomes)
  -- and where it didn't they are answered as one after the other
  pub told : (tables : Tables) (d : Draws) → ReadsTrue state old s t tables
      → IfOk result (λ outcome. by_fault (is_fault outcome) ⊤
      (outcomes ≡ outcomes_behind d (public_of old) (count_of old s) first rest tables))
