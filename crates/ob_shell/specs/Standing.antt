-- The engine with which a run goes on from a base.
use Rattle.std.specs.Prelude.{ℕ, ◌≡◌, ◌≤◌, ◌<◌, Bool, IsTrue, List, [], Option, None, Some}
use Rattle.std.specs.List.{list_any}
use Rattle.ob_base.specs.Stored.{headings_of}
use Rattle.ob_base.specs.declared.access.Access.{Access}
use Rattle.ob_base.specs.declared.config.Config.{Config}
use Rattle.ob_tables.specs.Agreeing.{AreDraws, count_of, first_draws, engine_keys, engine_start, high_of, indexes_of, public_of, rows_of, world_of}
use Rattle.ob_select.specs.Opening.{is_of_rows}
use Rattle.ob_select.specs.Selecting.{AcceptsRows}
use Rattle.ob_tables.specs.Telling.{Represents}
use Rattle.ob_tables.specs.declared.engine.Engine.{Engine}
use Rattle.ob_headline.specs.Bases.{Base, FromEach, drawing, said_of, start}
use Rattle.ob_headline.specs.Sealing.{PassesFrom}
use Rattle.ob_mean.specs.Flats.{AreFlat}
use Rattle.ob_seal.specs.KeySet.{KeySet}
use Rattle.ob_shell.specs.Steps.{machine_of, no_flights, session_of, told_nothing}
use Rattle.ob_store.specs.Calls.{IsBefore, IsSteady}
use Rattle.ob_store.specs.State.{StoreState}
use Rattle.ob_vault.specs.State.{RevState}
use Rattle.ob_vault.specs.Tied.{AllSealed, Untampered, Scope, next_fault}

-- where a block was read or written, at least one row was open
abbrev pub IsUsed : List Access → ℕ → Type 0
IsUsed asked high = IsTrue (list_any is_of_rows asked) → 1 ≤ high

-- nothing was asked, there are no tables, and the store says what others do
pub record IsFirst {R : Type 0} (state : R → RevState) (settings : Option Config) (keys : KeySet)
    (e : Engine R) (s : StoreState) : Type 0 where
  pub steady : IsSteady s
  pub unasked : s.asked ≡ []
  pub nothing : Represents state e s []
  pub here : session_of (machine_of e s told_nothing no_flights) (first_draws keys) []
      ≡ drawing keys (start settings)

-- an engine and its store are those that a base tells of, with these keys; no table is an index
pub record StandsOn {R : Type 0} (state : R → RevState) (base : Base) (config : Config)
    (keys : KeySet) (e : Engine R) (s : StoreState) : Type 0 where
  pub settings : base.settings ≡ Some config
  pub public : public_of e ≡ base.public
  pub flat : AreFlat (headings_of base.public.tables)
  pub unindexed : indexes_of e ≡ []
  pub pack : base.public.pack ≡ config.pack
  pub buffer : base.public.buffer ≡ config.buffer
  pub keep : base.public.keep ≡ config.keep
  pub save : base.public.save ≡ config.save
  pub rows : rows_of e ≡ config.buffer
  pub count : count_of e s ≡ base.count
  pub start : engine_start e ≡ base.start
  pub asked : s.asked ≡ base.before
  pub keyed : engine_keys e ≡ keys
  pub drawn : AreDraws e (first_draws keys)
  pub calm : Untampered (world_of state e s)
  pub used : IsUsed s.asked (high_of e)
  pub held : FromEach base (λ x. Represents state e s x.tables)
  pub earlier : (region : ℕ) → base.start.region < region → s.live region ≡ None
  pub sealed : IsTrue s.tells → FromEach base (λ x. (good : List ℕ → Bool)
      → PassesFrom base good → (scope : Scope) → scope.below ≤ next_fault s
      → AllSealed (λ r. good) scope (world_of state e s))
  pub passes : (good : List ℕ → Bool) → PassesFrom base good
      → AcceptsRows (λ r. good) config.pack × AcceptsRows (λ r. good) 1
  pub early : (n : ℕ) → IsBefore (said_of base.opened s) n
      → IsFirst state base.settings keys e s × IsBefore s.disturbed n
