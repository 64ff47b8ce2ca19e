-- What each call of a vault promises of it and its store.
use Rattle.std.specs.Prelude.{◌≡◌, ◌⊎◌, ◌+◌, ◌/◌, ℕ, Bool, IsTrue, List, [], None, Result, Err, IfOk, IfErr, OnOk, OnErr, MatchResult, length}
use Rattle.ob_base.specs.Accesses.{read_at, write_at, make_at, discard_at}
use Rattle.ob_base.specs.Counts.{Rises}
use Rattle.ob_store.specs.Calls.{ReadGives}
use Rattle.ob_store.specs.Runs.{Did}
use Rattle.ob_vault.specs.declared.region.Region.{Region}
use Rattle.ob_vault.specs.declared.region.Order.{Order}
use Rattle.ob_vault.specs.declared.fault.VaultErr.{VaultErr}
use Rattle.ob_vault.specs.declared.fault.VaultErr.TheVariants.{Failed, Tampered, NoMemory}
use Rattle.ob_vault.specs.State.{World}
use Rattle.ob_vault.specs.Revs.{turn_after}
use Rattle.ob_vault.specs.Rows.{joined, Tails}
use Rattle.ob_vault.specs.Tied.{Ready, Lives, Written, OnTurn, Holds}
use Rattle.ob_vault.specs.Calls.{Went, CutShort, Only, Seals, Unsealed, none, one}

-- a region is made under the next number, or that number is used up; memory is wanted only once the store was asked
pub record MakesRegion (blocks width : ℕ) (order : Order) (result : Result ℕ VaultErr)
    (old new : World) : Type 0 where
  pub ok : OnOk result (Went (make_at old.vault.next blocks width) (one old.vault.next) old new)
  pub err : IfErr result (λ e.
      CutShort e (make_at old.vault.next blocks width) (one old.vault.next) old new)
  pub never : IfErr result (λ e. (e ≡ Failed) ⊎ (e ≡ NoMemory))
  pub memory : result ≡ Err NoMemory
      → Did (make_at old.vault.next blocks width) old.store new.store
  pub seals : (good : ℕ → List ℕ → Bool) → Seals good old new
  pub number : IfOk result (λ g. g ≡ old.vault.next)
  pub lives : OnOk result
      (Lives old.vault.next (record { blocks = blocks; width = width; order = order }) new)
  pub turn : OnOk result
      (OnTurn old.vault.next (record { blocks = blocks; width = width; order = order }) 0 new)
  pub gone : OnErr result (new.vault.revs.live old.vault.next ≡ None)

-- the rows of a place are read into some, or these stay as they were
pub record Gets {T : Type 0} (q x : ℕ) (before after : List (List ℕ)) (result : Result T VaultErr)
    (old new : World) : Type 0 where
  pub ok : OnOk result (Went (read_at q x) none old new)
  pub err : IfErr result (λ e. CutShort e (read_at q x) none old new)
  pub never : IfErr result (λ e. (e ≡ Failed) ⊎ (e ≡ Tampered q x))
  pub seals : (good : ℕ → List ℕ → Bool) → Seals good old new
  pub turns : (r y : ℕ) (shape : Region) → OnTurn r shape y old → OnTurn r shape y new
  -- what the store gave, unless it failed
  pub gave : (result ≡ Err Failed → ⊥) → ReadGives q x new.store.gave old.store new.store
  -- over any store the rows are those of a block that was sealed for the place and its number
  pub opened : OnOk result ((shape : Region) → Lives q shape old
      → Unsealed q x (joined (shape.width / length before) after) new)
  pub tails : OnOk result ((shape : Region) → Lives q shape old
      → Tails (shape.width / length before) after)
  -- no byte of a block that is refused reaches them
  pub kept : OnErr result (after ≡ before)
  -- they are those that were put last, where no read gave another block
  pub told : (bytes : List ℕ) (shape : Region) → Lives q shape old → length bytes ≡ shape.width
      → Holds q x bytes old → new.store.lie ≡ None
      → MatchResult result (λ _. joined (shape.width / length before) after ≡ bytes)
      (λ e. e ≡ Failed)

-- rows are put at a place under the next write number
pub record Puts {T : Type 0} (q x : ℕ) (rows : List (List ℕ)) (result : Result T VaultErr)
    (old new : World) : Type 0 where
  pub ok : OnOk result (Went (write_at q x) (one q) old new)
  pub err : IfErr result (λ e. CutShort e (write_at q x) (one q) old new)
  pub never : IfErr result (λ e. e ≡ Failed)
  pub only : Only q x old new
  pub number : new.vault.revs.number q x ≡ old.vault.count + 1
  pub written : Written q x new
  pub turn : (shape : Region) → Lives q shape old → OnTurn q shape (turn_after shape x) new
  pub seals : (good : ℕ → List ℕ → Bool) (shape : Region) → Lives q shape old
      → IsTrue (good q (joined (shape.width / length rows) rows)) → Seals good old new
  pub told : OnOk result (IsTrue old.store.tells → (shape : Region) → Lives q shape old
      → Holds q x (joined (shape.width / length rows) rows) new)
  -- a write that failed leaves the old block there, or the new one
  pub failed : OnErr result (IsTrue old.store.tells → (shape : Region) → Lives q shape old
      → (new.store.last q x ≡ old.store.last q x)
      ⊎ Holds q x (joined (shape.width / length rows) rows) new)

-- a region is taken out of the vault, and out of the store unless it answers otherwise
pub record DropsRegion {T : Type 0} (q : ℕ) (result : Result T VaultErr)
    (old new : World) : Type 0 where
  pub went : Went (discard_at q) (one q) old new
  pub never : IfErr result (λ e. e ≡ Failed)
  pub seals : (good : ℕ → List ℕ → Bool) → Seals good old new
  pub turns : (r y : ℕ) (shape : Region) → (r ≡ q → ⊥)
      → OnTurn r shape y old → OnTurn r shape y new
  pub gone : new.vault.revs.live q ≡ None
  pub slips : OnErr result (Rises old.store.slips new.store.slips)
  pub stays : OnOk result (new.store.slips ≡ old.store.slips)

-- a region is taken out of the vault alone
pub record Forgets (q : ℕ) (old new : World) : Type 0 where
  pub went : Ready old → Went [] (one q) old new
  pub seals : (good : ℕ → List ℕ → Bool) → Seals good old new
  pub gone : new.vault.revs.live q ≡ None
