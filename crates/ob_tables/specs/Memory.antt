-- Where want of memory may stop a statement.
use Rattle.std.specs.Prelude.{◌≡◌, ◌⊎◌, List, ◌++◌}
use Rattle.ob_base.specs.declared.access.Access.{Access}
use Rattle.ob_base.specs.declared.config.Public.{Public}
use Rattle.ob_base.specs.declared.seen.Seen.{Seen}
use Rattle.ob_sql.specs.declared.stmt.Stmt.{Stmt}
use Rattle.ob_sql.specs.Skeleton.{skeleton}
use Rattle.ob_script.specs.Saved.{whole_run}
use Rattle.ob_store.specs.State.{StoreState}
use Rattle.ob_select.specs.Memory.{AtMake, AtResult, AtEmission}

-- what was asked of a statement that is stopped so, and what would have followed; while rows are emitted it is the
-- emitter that wants memory, which is this
pub record LacksMemory (p : Public) (stmt : Stmt) (seen : Seen) (s t : StoreState) (Halts : Type 0) : Type 0 where
  pub done : List Access
  pub rest : List Access
  pub split : done ++ rest ≡ whole_run p (skeleton stmt) seen
  pub asked : t.asked ≡ s.asked ++ done
  pub place : AtMake done ⊎ AtResult p stmt seen rest ⊎ (AtEmission p stmt seen rest × Halts)
