-- An engine that takes statements.
use Rattle.std.specs.Prelude.{◌≡◌, false, None}
use Rattle.ob_exec.specs.Saving.{MaySave}
use Rattle.ob_store.specs.State.{StoreState}
use Rattle.ob_tables.specs.Agreeing.{Agrees, has_ended, replaced_of}
use Rattle.ob_tables.specs.declared.engine.Engine.{Engine}
use Rattle.ob_vault.specs.State.{RevState}

-- it takes statements, and none of its tables is saved
pub record IsSession {R : Type 0} (state : R → RevState) (e : Engine R) (s : StoreState) : Type 0 where
  pub agrees : Agrees state e s
  pub lives : has_ended e ≡ false
  pub settled : replaced_of e ≡ None
  pub saves : MaySave ⊥ e
