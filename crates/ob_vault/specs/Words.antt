-- The words of contracts over a vault and its store.
use Rattle.std.specs.Prelude.{◌≡◌, ◌<◌, ◌≤◌, ◌+◌, ◌^◌, ℕ, Bool, IsTrue, List, None}
use Rattle.ob_vault.specs.State.{World, earlier}
use Rattle.ob_vault.specs.Numbers.{spent}
use Rattle.ob_vault.specs.Tied.{Ready}
use Rattle.ob_vault.specs.Calls.{Seals}

-- a vault that belongs to its store, which may be asked n more times
pub record MayAsk (n : ℕ) (w : World) : Type 0 where
  pub ready : Ready w
  pub spare : n ≤ w.store.spare
  pub few : spent w + n < 2 ^ 63 + 2 ^ 60

-- the same before a whole operation
pub record MayStart (n : ℕ) (w : World) : Type 0 where
  pub ready : Ready w
  pub spare : n ≤ w.store.spare
  pub few : spent w < 2 ^ 63 + 2 ^ 59

-- a vault that goes on from no number of an earlier run, and belongs to its store
pub record StartsAnew (w : World) : Type 0 where
  pub ready : Ready w
  pub first : earlier w.vault.start ≡ 0

-- the store says what was written to it, and no block that was read is another
pub record IsHonest (old new : World) : Type 0 where
  pub tells : IsTrue old.store.tells
  pub nolie : new.store.lie ≡ None

-- where all was sealed and good, it is
pub record SealsAll (old new : World) : Type 0 where
  pub seals : (good : ℕ → List ℕ → Bool) → Seals good old new
