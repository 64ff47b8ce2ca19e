-- What saving an engine's tables does, what is discarded then, and how an engine goes on from what was saved.
use Rattle.std.specs.Prelude.{◌≡◌, ◌≢◌, ◌⊎◌, ◌<◌, ◌≤◌, ◌++◌, ℕ, Bool, true, false, IsTrue, List, [], Option, None, Some, Result, Err, OnOk, IfOk, IfErr, MatchResult}
use Rattle.ob_base.specs.Accesses.{drop_script, make_at}
use Rattle.ob_base.specs.declared.access.Access.{Access}
use Rattle.ob_base.specs.declared.config.Config.{Config}
use Rattle.ob_reopen.specs.declared.mark.Mark.{Mark}
use Rattle.ob_reopen.specs.declared.mark.Mark.TheVariants.{Fresh, InUse, Closed, Begun, Saved}
use Rattle.ob_base.specs.declared.schema.Table.{Table}
use Rattle.ob_mean.specs.Verdict.{Tables}
use Rattle.ob_reopen.specs.Closed.{NotClosed, is_used_up}
use Rattle.ob_reopen.specs.Closings.{saved_mark, write_script}
use Rattle.ob_reopen.specs.Keepers.{AreSaltBytes, IsMark}
use Rattle.ob_reopen.specs.Limits.{IsMarked}
use Rattle.ob_reopen.specs.Resting.{AcceptsClosings, IsAtRest, by_name}
use Rattle.ob_reopen.specs.Reopened.{NotOpened}
use Rattle.ob_reopen.specs.Saved.{RestsBy, reopening_keys}
use Rattle.ob_reopen.specs.declared.closing.Closing.{Closing}
use Rattle.ob_reopen.specs.declared.fault.CloseErr.{CloseErr}
use Rattle.ob_reopen.specs.declared.fault.CloseErr.TheVariants as CloseErrs
use Rattle.ob_reopen.specs.declared.fault.OpenErr.{OpenErr}
use Rattle.ob_reopen.specs.declared.fault.OpenErr.TheVariants.{Failed, NoMemory}
use Rattle.ob_script.specs.Saved.{saved_public}
use Rattle.ob_seal.specs.KeySet.{KeySet, pair_of}
use Rattle.ob_select.specs.Opening.{Opens}
use Rattle.ob_select.specs.Selecting.{AcceptsRows}
use Rattle.ob_select.specs.Settings.{IsFree}
use Rattle.ob_store.specs.Calls.{IsLive}
use Rattle.ob_store.specs.Runs.{Began, Did, Later}
use Rattle.ob_store.specs.State.{KeptRegion, StoreState}
use Rattle.ob_vault.specs.Calls.{Seals}
use Rattle.ob_vault.specs.State.{RevState}
use Rattle.ob_vault.specs.Tied.{AllSealed, Untampered, Scope, next_fault}
use Rattle.ob_tables.specs.Agreeing.{Agrees, draws_of, engine_keys, engine_start, has_ended, high_of, indexes_of, opened_from, public_of, replaced_of, seen_of, world_of}
use Rattle.ob_tables.specs.Closing.{next_closing}
use Rattle.ob_tables.specs.Engines.{IsTableRegion}
use Rattle.ob_tables.specs.Reopening.{IsOpened}
use Rattle.ob_tables.specs.Running.{is_stop}
use Rattle.ob_tables.specs.Telling.{Represents}
use Rattle.ob_tables.specs.declared.engine.Engine.{Engine}

-- ---- regions that wait
-- one that the vault has forgotten lies in the store until it is discarded
pub record WaitsAt {R : Type 0} (state : R → RevState) (q : ℕ) (e : Engine R)
    (s : StoreState) : Type 0 where
  pub live : IsLive s q
  pub below : q < e.vault.next
  pub forgotten : (state e.vault.revs).live q ≡ None

-- the region in which a table lay before it was changed, and the closing before the last, if there are such
pub record Waits {R : Type 0} (state : R → RevState) (left : Option ℕ) (e : Engine R)
    (s : StoreState) : Type 0 where
  pub former : (q : ℕ) → left ≡ Some q → WaitsAt state q e s
  pub replaced : (q : ℕ) → replaced_of e ≡ Some q → WaitsAt state q e s
  pub apart : (q : ℕ) → left ≡ Some q → replaced_of e ≡ Some q → ⊥

-- ---- saving
-- the tables are listed in the next closing, and no region that was there before is asked for
abbrev pub save_script : {R : Type 0} → Engine R → StoreState → List Access
save_script e s = write_script (next_closing e s)

-- the closing was written, and the mark names it with the run's salt and its check value; the closing before it waits for being discarded
pub record IsSaved {R : Type 0} (state : R → RevState) (mark : Mark) (e : Engine R) (s : StoreState)
    (saved : Engine R) (t : StoreState) : Type 0 where
  pub salt : List ℕ
  pub of : (pair_of (engine_keys e) (next_closing e s).region).salt ≡ Some salt
  pub is : mark ≡ saved_mark (next_closing e s) salt
      (pair_of (engine_keys e) (next_closing e s).region).check
  pub within : IsMark mark
  pub did : Did (save_script e s) s t
  pub agrees : Agrees state saved t
  pub public : public_of saved ≡ saved_public (public_of e)
  pub closing : opened_from saved ≡ Some (next_closing e s).region
  pub replaced : replaced_of saved ≡ opened_from e
  pub waits : (left : Option ℕ) → Waits state left e s → Waits state left saved t
  -- what waits can be discarded
  pub spare : 2 ≤ t.spare

-- these tables in place rest in the store, for as long as the closing's region and those of an engine's tables are kept as they are
pub record RestsIn (keys : KeySet) (closing : Closing) (kept : ℕ → Option KeptRegion)
    (tables : Tables) (own : List Table) : Type 0 where
  pub rests : (now : ℕ → Option KeptRegion)
      → ((q : ℕ) → (q ≡ closing.region) ⊎ IsTableRegion own q → now q ≡ kept q)
      → IsAtRest keys closing now tables

-- an engine's tables were saved, or why not: then the session has ended
pub record SavesEngine {R : Type 0} (state : R → RevState) (result : Result Mark CloseErr)
    (e : Engine R) (s : StoreState) (saved : Engine R) (t : StoreState) : Type 0 where
  pub ok : IfOk result (λ mark. IsSaved state mark e s saved t)
  -- where the closing would have a number that no mark may name nothing is asked
  pub used_up : is_used_up (next_closing e s) ≡ true → (result ≡ Err CloseErrs.Failed) × (t ≡ s)
  pub err : is_used_up (next_closing e s) ≡ false
      → IfErr result (λ err. NotClosed (save_script e s) err s t)
  -- memory is wanted before the first access, or where the closing's region is made
  pub memory : result ≡ Err CloseErrs.NoMemory
      → Began (make_at (next_closing e s).region (next_closing e s).blocks 1024) s t
  pub ended : has_ended saved ≡ is_stop result
  pub keys : engine_keys saved ≡ engine_keys e
  pub start : engine_start saved ≡ engine_start e
  pub draws : draws_of saved ≡ draws_of e
  pub seen : seen_of saved ≡ seen_of e
  pub indexes : indexes_of saved ≡ indexes_of e
  -- all rows of the room are free again, and one at least was open where anything was asked
  pub room : IsFree (public_of e) saved.room
  pub high : high_of e ≤ high_of saved
  pub some : (t.asked ≡ s.asked → ⊥) → 1 ≤ high_of saved
  pub opened : OnOk result (Opens (save_script e s) (high_of e) (high_of saved))
  pub later : Later s t
  pub calm : Untampered (world_of state e s) → Untampered (world_of state saved t)
  -- whatever comes of it, what is kept of the regions that there were stays: what a mark names that is held goes on to
  -- rest
  pub kept : (q : ℕ) → q ≢ (next_closing e s).region → t.kept q ≡ s.kept q
  -- the tables that the engine holds rest in the store, and it holds them
  pub told : IsTrue s.tells → (tables : Tables) → Represents state e s tables
      → IfOk result (λ mark. RestsIn (engine_keys e) (next_closing e s) t.kept (by_name tables)
      (public_of e).tables × Represents state saved t tables)
  -- and nothing comes to lie in clear
  pub sealed : (good : ℕ → List ℕ → Bool) → AcceptsRows good (public_of e).pack
      → AcceptsClosings good → Seals good (world_of state e s) (world_of state saved t)

-- ---- discarding what the mark doesn't need any more
pub record SettlesEngine {R : Type 0} (state : R → RevState) (left : Option ℕ) (e : Engine R)
    (s : StoreState) (settled : Engine R) (t : StoreState) : Type 0 where
  pub asked : t.asked ≡ s.asked ++ (drop_script left ++ drop_script (replaced_of e))
  pub faults : t.faults ≡ s.faults
  pub later : Later s t
  pub calm : Untampered (world_of state e s) → Untampered (world_of state settled t)
  pub is : settled ≡ record e { replaced = None }
  pub agrees : Agrees state settled t
  pub kept : (q : ℕ) → (left ≡ Some q → ⊥) → (replaced_of e ≡ Some q → ⊥)
      → t.kept q ≡ s.kept q
  pub told : (tables : Tables) → Represents state e s tables → Represents state settled t tables
  pub sealed : (good : ℕ → List ℕ → Bool)
      → Seals good (world_of state e s) (world_of state settled t)

-- ---- going on
-- the closing that a mark names, of a pack, and the salt of the run that wrote it, if it had one
abbrev pub NamesClosing : Mark → (pack : ℕ) → (closed : Option (List ℕ)) → Closing → Type 0
NamesClosing Fresh pack closed closing = ⊥
NamesClosing InUse pack closed closing = ⊥
NamesClosing Begun pack closed closing = ⊥
NamesClosing (Closed region blocks number of) pack closed closing =
    (of ≡ pack) × (closed ≡ None)
    × (closing ≡ record { region = region; blocks = blocks; number = number; pack = of })
    × IsMarked closing
NamesClosing (Saved region blocks number of salt check) pack closed closing =
    (of ≡ pack) × (closed ≡ Some salt) × AreSaltBytes salt
    × (closing ≡ record { region = region; blocks = blocks; number = number; pack = of })
    × IsMarked closing

-- an engine was opened under the keys of the secret, the run's salt, and those that the mark and the closing name
pub record IsOpenedBy {R : Type 0} (state : R → RevState) (config : Config) (secret salt : List ℕ)
    (closed : Option (List ℕ)) (closing : Closing) (e : Engine R) (s t : StoreState) : Type 0 where
  pub keys : KeySet
  pub opened : IsOpened state config keys closing e s t
  pub keyed : keys ≡ reopening_keys secret salt closed closing opened.listed
  -- what rests there under the secret is what was listed
  pub lists : IsTrue s.tells → t.lie ≡ None → (tables : Tables)
      → (by : RestsBy secret closed closing s.kept tables) → by.rests.listed ≡ opened.listed

-- it was opened, or why not
pub record OpensSaved {R : Type 0} (state : R → RevState) (config : Config) (secret salt : List ℕ)
    (closed : Option (List ℕ)) (closing : Closing) (result : Result (Engine R) OpenErr)
    (s t : StoreState) : Type 0 where
  pub ok : IfOk result (λ e. IsOpenedBy state config secret salt closed closing e s t)
  pub err : IfErr result
      (λ e. NotOpened closing (reopening_keys secret salt closed closing []) e s t)
  pub log : t.let_go ≡ s.let_go
  pub faults : s.faults ≤ t.faults
  pub tells : t.tells ≡ s.tells
  -- nothing that is kept has changed: the mark opens again
  pub kept : (q : ℕ) → t.kept q ≡ s.kept q
  -- the tables that rest there are those that the engine holds
  pub told : IsTrue s.tells → t.lie ≡ None → (tables : Tables)
      → RestsBy secret closed closing s.kept tables
      → MatchResult result (λ e. Represents state e t tables)
      (λ e. (e ≡ Failed) ⊎ (e ≡ NoMemory))
  -- and no block of a live region lies in clear
  pub sealed : IsTrue s.tells → t.lie ≡ None → (tables : Tables)
      → RestsBy secret closed closing s.kept tables
      → IfOk result (λ e. (good : ℕ → List ℕ → Bool) → AcceptsRows good config.pack
      → AcceptsClosings good → (scope : Scope) → scope.below ≤ next_fault s
      → AllSealed good scope (world_of state e t))
