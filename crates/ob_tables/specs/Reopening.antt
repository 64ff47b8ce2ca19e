-- What opening an engine does, from what rests in a store.
use Rattle.std.specs.Prelude.{◌≡◌, ◌⊎◌, ◌<◌, ◌≤◌, ℕ, Bool, false, IsTrue, List, [], None, Some, Result, IfOk, IfErr, MatchResult}
use Rattle.ob_base.specs.declared.config.Config.{Config}
use Rattle.ob_reopen.specs.declared.mark.Mark.{Mark}
use Rattle.ob_reopen.specs.declared.mark.Mark.TheVariants.{Fresh, InUse, Closed, Begun, Saved}
use Rattle.ob_tables.specs.Agreeing.{Agrees, AreDraws, engine_keys, engine_start, first_draws, has_ended, high_of, indexes_of, opened_from, public_of, replaced_of, rows_of, world_of}
use Rattle.ob_reopen.specs.Resting.{AcceptsClosings, IsAtRest}
use Rattle.ob_select.specs.Selecting.{AcceptsRows}
use Rattle.ob_tables.specs.Telling.{Represents}
use Rattle.ob_tables.specs.declared.engine.Engine.{Engine}
use Rattle.ob_mean.specs.Verdict.{Tables}
use Rattle.ob_reopen.specs.Limits.{IsCatalogue, IsMarked}
use Rattle.ob_reopen.specs.declared.closing.Closing.{Closing}
use Rattle.ob_reopen.specs.declared.fault.OpenErr.{OpenErr}
use Rattle.ob_reopen.specs.declared.fault.OpenErr.TheVariants.{Failed, NoMemory}
use Rattle.ob_reopen.specs.declared.listed.Listed.{Listed}
use Rattle.ob_seal.specs.KeySet.{KeySet}
use Rattle.ob_store.specs.Runs.{Did}
use Rattle.ob_store.specs.State.{StoreState}
use Rattle.ob_vault.specs.State.{RevState}
use Rattle.ob_vault.specs.Tied.{AllSealed, Untampered, Scope, next_fault}
use Rattle.ob_reopen.specs.Reopened.{opened_public, opened_start, opening_script, NotOpened}

-- the closing that a mark names, of a pack
abbrev pub IsClosed : Mark → (pack : ℕ) → Closing → Type 0
IsClosed Fresh pack closing = ⊥
IsClosed InUse pack closing = ⊥
IsClosed (Closed region blocks number of) pack closing =
    (of ≡ pack)
    × (closing ≡ record { region = region; blocks = blocks; number = number; pack = of })
    × IsMarked closing
IsClosed Begun pack closing = ⊥
IsClosed (Saved region blocks number of salt check) pack closing = ⊥

-- an engine was opened, whatever the store gave
pub record IsOpened {R : Type 0} (state : R → RevState) (config : Config) (keys : KeySet)
    (closing : Closing) (e : Engine R) (s t : StoreState) : Type 0 where
  pub listed : List Listed
  pub catalogue : IsCatalogue closing listed
  pub agrees : Agrees state e t
  pub public : public_of e ≡ opened_public config closing listed
  pub keyed : engine_keys e ≡ keys
  pub drawn : AreDraws e (first_draws keys)
  pub unindexed : indexes_of e ≡ []
  pub start : engine_start e ≡ opened_start closing listed
  pub from_closing : opened_from e ≡ Some closing.region
  pub settled : replaced_of e ≡ None
  pub alive : has_ended e ≡ false
  pub high : high_of e ≡ 1
  pub rows : rows_of e ≡ config.buffer
  pub did : Did (opening_script closing listed) s t
  pub calm : Untampered (world_of state e t)
  -- no region is live that an earlier run didn't make
  pub earlier : (region : ℕ) → closing.region < region → t.live region ≡ None

-- an engine was opened, or why not
pub record OpensEngine {R : Type 0} (state : R → RevState) (config : Config) (keys : KeySet)
    (closing : Closing) (result : Result (Engine R) OpenErr) (s t : StoreState) : Type 0 where
  pub ok : IfOk result (λ e. IsOpened state config keys closing e s t)
  pub err : IfErr result (λ e. NotOpened closing keys e s t)
  pub log : t.let_go ≡ s.let_go
  pub faults : s.faults ≤ t.faults
  pub tells : t.tells ≡ s.tells
  -- the tables that rest there are those that the engine holds, and no block is taken for a changed one that isn't
  pub told : IsTrue s.tells → t.lie ≡ None → (tables : Tables)
      → IsAtRest keys closing s.kept tables
      → MatchResult result (λ e. Represents state e t tables)
      (λ e. (e ≡ Failed) ⊎ (e ≡ NoMemory))
  -- and no block of a live region lies in clear
  pub sealed : IsTrue s.tells → t.lie ≡ None → (tables : Tables)
      → IsAtRest keys closing s.kept tables
      → IfOk result (λ e. (good : ℕ → List ℕ → Bool) → AcceptsRows good config.pack
      → AcceptsClosings good → (scope : Scope) → scope.below ≤ next_fault s
      → AllSealed good scope (world_of state e t))
