-- What a call, or a run of calls, does to a vault and its store.
use Rattle.std.specs.Prelude.{◌≡◌, ◌≢◌, ◌⊎◌, ◌≤◌, ◌<◌, ◌+◌, ◌-◌, ℕ, Bool, IsTrue, List, [], ◌∷◌, ◌++◌, None, length, take, drop}
use Rattle.ob_base.specs.declared.access.Access.{Access}
use Rattle.ob_base.specs.declared.access.Access.TheVariants.{Read}
use Rattle.ob_base.specs.Counts.{Rises}
use Rattle.ob_store.specs.Runs.{Did, Began, Later}
use Rattle.ob_vault.specs.declared.fault.VaultErr.{VaultErr}
use Rattle.ob_vault.specs.declared.fault.VaultErr.TheVariants.{Failed, Tampered, NoMemory}
use Rattle.ob_vault.specs.State.{World}
use Rattle.ob_vault.specs.Tied.{Ready, Scope, AllSealed, Untampered, EndsAt, at_of, next_fault}
use Rattle.ob_vault.specs.Numbers.{last_number}
use Rattle.ob_seal.specs.Sealed.{sealed, tag_of}

-- nothing has changed in any other region
pub record Apart (some : ℕ → Type 0) (old new : World) : Type 0 where
  pub live : (q : ℕ) → (some q → ⊥) → new.vault.revs.live q ≡ old.vault.revs.live q
  pub number : (q x : ℕ) → (some q → ⊥) → new.vault.revs.number q x ≡ old.vault.revs.number q x
  pub turn : (q : ℕ) → (some q → ⊥) → new.vault.revs.turn q ≡ old.vault.revs.turn q
  pub kept : (q : ℕ) → (some q → ⊥) → new.store.live q ≡ old.store.live q
  pub last : (q x : ℕ) → (some q → ⊥) → new.store.last q x ≡ old.store.last q x
  pub rests : (q : ℕ) → (some q → ⊥) → new.store.kept q ≡ old.store.kept q

-- no region came or went, and nothing has changed at any other place
pub record Only (q x : ℕ) (old new : World) : Type 0 where
  pub keys : new.vault.keys ≡ old.vault.keys
  pub start : new.vault.start ≡ old.vault.start
  pub live : (r : ℕ) → new.vault.revs.live r ≡ old.vault.revs.live r
  pub number : (r y : ℕ) → (r ≡ q → y ≡ x → ⊥) → new.vault.revs.number r y
      ≡ old.vault.revs.number r y
  pub last : (r y : ℕ) → (r ≡ q → y ≡ x → ⊥) → new.store.last r y ≡ old.store.last r y

-- a region has the shape that it was made with for as long as it lives, and none that is gone comes back
pub record KeepsShapes (old new : World) : Type 0 where
  pub next : old.vault.next ≤ new.vault.next
  pub shapes : (q : ℕ) → q < old.vault.next → (new.vault.revs.live q ≡ None)
      ⊎ (new.vault.revs.live q ≡ old.vault.revs.live q)

-- what lasts over each call, whatever it answers
pub record Lasts (some : ℕ → Type 0) (old new : World) : Type 0 where
  pub ready : Ready new
  pub later : Later old.store new.store
  pub keys : new.vault.keys ≡ old.vault.keys
  pub start : new.vault.start ≡ old.vault.start
  pub shapes : KeepsShapes old new
  pub apart : Apart some old new

-- where all that lay in the store was sealed and good, it is; and under the last numbers until a call fails
pub record Seals (good : ℕ → List ℕ → Bool) (old new : World) : Type 0 where
  pub seals : (scope : Scope) → scope.below ≤ next_fault old.store → IsTrue old.store.tells
      → AllSealed good scope old → AllSealed good scope new

-- all of the script was asked, and no other region has changed
pub record Went (script : List Access) (some : ℕ → Type 0) (old new : World) : Type 0 where
  pub lasts : Lasts some old new
  pub did : Did script old.store new.store
  pub spare : old.store.spare ≤ new.store.spare + length script
  pub calm : Untampered old → Untampered new

-- the last access read this place
pub record EndsRead (q x : ℕ) (w : World) : Type 0 where
  pub before : List Access
  pub asked : w.store.asked ≡ before ++ Read q x ∷ []

-- the block that the last read gave hasn't the tag of the place and the number of its last write
pub record Unfit (q x : ℕ) (w : World) : Type 0 where
  pub differs : drop (length w.store.gave - 32) w.store.gave
      ≢ tag_of w.vault.keys (at_of q x (last_number w q x))
      (take (length w.store.gave - 32) w.store.gave)

-- it is that of these rows, sealed under that number
pub record Unsealed (q x : ℕ) (rows : List ℕ) (w : World) : Type 0 where
  pub gave : w.store.gave ≡ sealed w.vault.keys (at_of q x (last_number w q x)) rows

-- why a call gave up
abbrev pub Cause : VaultErr → World → World → Type 0
Cause Failed old new = Rises old.store.faults new.store.faults × (Untampered old → Untampered new)
Cause (Tampered q x) old new = (new.store.faults ≡ old.store.faults) × EndsRead q x new × Unfit q x new × (Untampered old → Untampered new ⊎ EndsAt q x new)
Cause NoMemory old new = (new.store.faults ≡ old.store.faults) × (Untampered old → Untampered new)

-- a first part of the script was asked, an access at least unless memory was wanted, and no other
-- region has changed
pub record CutShort (e : VaultErr) (script : List Access) (some : ℕ → Type 0) (old new : World) : Type 0 where
  pub lasts : Lasts some old new
  pub began : Began script old.store new.store
  pub asks : (e ≡ NoMemory → ⊥) → length old.store.asked < length new.store.asked
  pub cause : Cause e old new

abbrev pub none : ℕ → Type 0
none q = ⊥

abbrev pub one : ℕ → ℕ → Type 0
one r q = q ≡ r

abbrev pub two : ℕ → ℕ → ℕ → Type 0
two r g q = (q ≡ r) ⊎ (q ≡ g)
