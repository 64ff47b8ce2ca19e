-- What closing an engine does.
use Rattle.std.specs.Prelude.{◌≡◌, ◌+◌, ℕ, Bool, true, false, IsTrue, List, ◌++◌, Option, Some, Result, IfOk, IfErr, length}
use Rattle.ob_base.specs.Accesses.{drop_script, writes}
use Rattle.ob_base.specs.declared.access.Access.{Access}
use Rattle.ob_reopen.specs.declared.mark.Mark.{Mark}
use Rattle.ob_tables.specs.Agreeing.{engine_keys, engine_start, opened_from, public_of, world_of}
use Rattle.ob_reopen.specs.Resting.{AcceptsClosings, IsAtRest, by_name}
use Rattle.ob_select.specs.Selecting.{AcceptsRows}
use Rattle.ob_tables.specs.Telling.{Represents}
use Rattle.ob_tables.specs.declared.engine.Engine.{Engine}
use Rattle.ob_mean.specs.Verdict.{Tables}
use Rattle.ob_reopen.specs.Closings.{write_script}
use Rattle.ob_reopen.specs.declared.closing.Closing.{Closing}
use Rattle.ob_reopen.specs.declared.fault.CloseErr.{CloseErr}
use Rattle.ob_store.specs.Runs.{Later}
use Rattle.ob_store.specs.State.{StoreState}
use Rattle.ob_vault.specs.Calls.{Seals, Went}
use Rattle.ob_vault.specs.State.{RevState, World}
use Rattle.ob_vault.specs.Tied.{Untampered}
use Rattle.ob_vault.specs.Words.{SealsAll}
use Rattle.ob_reopen.specs.Closed.{is_used_up, NotClosed, StaysInUse, IsClosedAs}

-- the closing that is made: the next region, and the next write number
abbrev pub next_closing : {R : Type 0} → Engine R → StoreState → Closing
next_closing e s = record {
  region = (public_of e).next_region;
  blocks = length (public_of e).tables + 1;
  number = (engine_start e).writes + writes s.asked + 1;
  pack = (public_of e).pack;
}

-- and the new one is made and written
abbrev pub closing_script : {R : Type 0} → Engine R → StoreState → List Access
closing_script e s = drop_script (opened_from e) ++ write_script (next_closing e s)

-- the closing's region, if there is one, is gone, whatever the store answered
pub record DropsClosing (closing : Option ℕ) (old new : World) : Type 0 where
  pub went : Went (drop_script closing) (λ q. closing ≡ Some q) old new
  pub seals : SealsAll old new

-- an engine was closed, or why not
pub record ClosesEngine {R : Type 0} (state : R → RevState) (result : Result Mark CloseErr)
    (e : Engine R) (s t : StoreState) : Type 0 where
  pub full : is_used_up (next_closing e s) ≡ true → IfOk result (λ mark. StaysInUse mark s t)
  pub gives_up : is_used_up (next_closing e s) ≡ true → IfErr result (λ err. ⊥)
  pub ok : is_used_up (next_closing e s) ≡ false
      → IfOk result (λ mark. IsClosedAs (next_closing e s) (closing_script e s) mark s t)
  pub err : IfErr result (λ err. NotClosed (closing_script e s) err s t)
  pub later : Later s t
  pub calm : Untampered (world_of state e s) → Untampered (world_of state e t)
  -- the tables that the engine held rest in the store
  pub told : IsTrue s.tells → is_used_up (next_closing e s) ≡ false → (tables : Tables)
      → Represents state e s tables
      → IfOk result (λ mark. IsAtRest (engine_keys e) (next_closing e s) t.kept (by_name tables))
  -- and nothing comes to lie in clear: the engine's vault is gone, so this is said of one that has its keys and numbers
  pub sealed : (good : ℕ → List ℕ → Bool) → AcceptsRows good (public_of e).pack
      → AcceptsClosings good → Seals good (world_of state e s) (world_of state e t)
