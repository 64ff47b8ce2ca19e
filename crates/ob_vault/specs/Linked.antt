-- Regions whose numbers the blocks above name.
use Rattle.std.specs.Prelude.{◌≡◌, ◌⊎◌, ◌/◌, ℕ, Bool, List, Some, None, Result, Err, IfErr, OnOk, OnErr, MatchResult, length}
use Rattle.ob_base.specs.Accesses.{read_at}
use Rattle.ob_store.specs.Calls.{ReadGives}
use Rattle.ob_seal.specs.Sealed.{sealed}
use Rattle.ob_vault.specs.declared.region.Region.{Region}
use Rattle.ob_vault.specs.declared.fault.VaultErr.{VaultErr}
use Rattle.ob_vault.specs.declared.fault.VaultErr.TheVariants.{Failed, Tampered}
use Rattle.ob_vault.specs.State.{World}
use Rattle.ob_vault.specs.Rows.{joined, Tails}
use Rattle.ob_vault.specs.Tied.{Lives, at_of}
use Rattle.ob_vault.specs.Calls.{Went, CutShort, Seals, Unsealed, none}

-- the block last written at the place is that of these rows, sealed under this number
pub record HoldsAt (q x number : ℕ) (rows : List ℕ) (w : World) : Type 0 where
  pub last : w.store.last q x ≡ Some (sealed w.vault.keys (at_of q x number) rows)

-- the rows of a place are read into some, or these stay as they were
pub record GetsAt {T : Type 0} (q x number : ℕ) (before after : List (List ℕ)) (result : Result T VaultErr)
    (old new : World) : Type 0 where
  pub ok : OnOk result (Went (read_at q x) none old new)
  pub err : IfErr result (λ e. CutShort e (read_at q x) none old new)
  pub never : IfErr result (λ e. (e ≡ Failed) ⊎ (e ≡ Tampered q x))
  pub seals : (good : ℕ → List ℕ → Bool) → Seals good old new
  pub gave : (result ≡ Err Failed → ⊥) → ReadGives q x new.store.gave old.store new.store
  pub opened : OnOk result ((shape : Region) → Lives q shape old
      → Unsealed q x (joined (shape.width / length before) after) new)
  pub tails : OnOk result ((shape : Region) → Lives q shape old
      → Tails (shape.width / length before) after)
  pub kept : OnErr result (after ≡ before)
  pub told : (bytes : List ℕ) (shape : Region) → Lives q shape old → length bytes ≡ shape.width
      → HoldsAt q x number bytes old → new.store.lie ≡ None
      → MatchResult result (λ _. joined (shape.width / length before) after ≡ bytes)
      (λ e. e ≡ Failed)
