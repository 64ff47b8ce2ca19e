-- Why a pass gave up, and what it left.
use Rattle.std.specs.Prelude.{◌≡◌, ◌⊎◌, ◌<◌, ℕ, Bool, true, false, IsTrue, List, length, Result, Ok, Err}
use Rattle.ob_base.specs.declared.access.Access.{Access}
use Rattle.ob_base.specs.Counts.{Rises}
use Rattle.ob_store.specs.Runs.{Began}
use Rattle.ob_vault.specs.declared.fault.VaultErr.{VaultErr}
use Rattle.ob_vault.specs.declared.fault.VaultErr.TheVariants as VaultErrs
use Rattle.ob_vault.specs.State.{World}
use Rattle.ob_vault.specs.Tied.{Untampered, EndsAt}
use Rattle.ob_vault.specs.Calls.{Lasts, EndsRead}
use Rattle.ob_flat.specs.declared.fault.OpErr.{OpErr}
use Rattle.ob_flat.specs.declared.fault.OpErr.TheVariants.{Failed, Tampered, Sink, NoMemory}

-- the same error of a pass
abbrev pub pass_error : VaultErr → OpErr
pass_error VaultErrs.Failed = Failed
pass_error (VaultErrs.Tampered region place) = Tampered region place
pass_error VaultErrs.NoMemory = NoMemory

-- each error's cause: `Failed` comes only where the store's faults rose, and no other where they did
abbrev pub PassCause : OpErr → World → World → Type 0
PassCause Failed old new = Rises old.store.faults new.store.faults × (Untampered old → Untampered new)
PassCause (Tampered q x) old new = (new.store.faults ≡ old.store.faults) × EndsRead q x new × (Untampered old → Untampered new ⊎ EndsAt q x new)
PassCause Sink old new = (new.store.faults ≡ old.store.faults) × (Untampered old → Untampered new)
PassCause NoMemory old new = (new.store.faults ≡ old.store.faults) × (Untampered old → Untampered new)

-- an error of an access, which was not carried out
abbrev pub is_of_access : OpErr → Bool
is_of_access Failed = true
is_of_access (Tampered region place) = true
is_of_access Sink = false
is_of_access NoMemory = false

-- a first part of the script was asked, that access too where it is one of an access, and no other region
-- has changed
pub record PassCut (e : OpErr) (script : List Access) (some : ℕ → Type 0) (old new : World) : Type 0 where
  pub lasts : Lasts some old new
  pub began : Began script old.store new.store
  pub asks : IsTrue (is_of_access e) → length old.store.asked < length new.store.asked
  pub cause : PassCause e old new

-- the emitter's failure comes only where its count of faults rose, and any other answer leaves it
abbrev pub SinkCause : {T : Type 0} → Result T OpErr → ℕ → ℕ → Type 0
SinkCause (Ok x) old new = new ≡ old
SinkCause (Err Failed) old new = new ≡ old
SinkCause (Err (Tampered q p)) old new = new ≡ old
SinkCause (Err Sink) old new = Rises old new
SinkCause (Err NoMemory) old new = new ≡ old
