-- Sealing: no block of a live region lies in clear.
use Rattle.std.specs.Prelude.{ℕ, ◌≡◌, ◌≢◌, ◌≤◌, ◌+◌, ◌-◌, ◌⊎◌, Bool, true, List, IsTrue, Option, Some, None}
use Rattle.ob_base.specs.Accesses.{nth_write}
use Rattle.ob_base.specs.Counts.{Rises}
use Rattle.ob_base.specs.declared.access.Access.{Access}
use Rattle.ob_reopen.specs.Resting.{AcceptsClosings}
use Rattle.ob_select.specs.Selecting.{AcceptsRows}
use Rattle.ob_headline.specs.Bases.{Base, FromEach, Opened}
use Rattle.ob_seal.specs.KeySet.{KeySet}
use Rattle.ob_seal.specs.Sealed.{sealed}
use Rattle.ob_store.specs.State.{StoreState}
use Rattle.ob_vault.specs.Numbers.{number_after}
use Rattle.ob_vault.specs.State.{Start}
use Rattle.ob_vault.specs.Tied.{at_of}

-- blocks of this many rows or dummies pass this test of bytes
abbrev pub PassesRows : (good : List ℕ → Bool) → (pack : ℕ) → Type 0
PassesRows good pack = AcceptsRows (λ region. good) pack × AcceptsRows (λ region. good) 1

-- and so do those of closings, where one was opened
abbrev pub PassesWith : Option Opened → (pack : ℕ) → (good : List ℕ → Bool) → Type 0
PassesWith None pack good = PassesRows good pack
PassesWith (Some o) pack good = PassesRows good pack × AcceptsClosings (λ region. good)

-- and where tables are saved: then closings are written
abbrev pub PassesSaved : (saves : Bool) → (good : List ℕ → Bool) → Type 0
PassesSaved saves good = saves ≡ true → AcceptsClosings (λ region. good)

abbrev pub PassesFrom : Base → (good : List ℕ → Bool) → Type 0
PassesFrom base good =
    PassesWith base.opened base.public.pack good × PassesSaved base.public.save good

-- those that the statements write pass it
abbrev pub PassesHere : Base → (good : List ℕ → Bool) → Type 0
PassesHere base good = PassesRows good base.public.pack × PassesSaved base.public.save good

-- the number of a write to a place: of one of these, which count on from an earlier run's, or of its last one there
abbrev pub IsWriteTo : Start → List Access → (region place number : ℕ) → Type 0
IsWriteTo start asked region place number =
    (nth_write (number - start.writes) asked ≡ Some (region, place))
    ⊎ ((number ≡ start.given region place) × (number ≢ 0))

-- a block is sealed under its place and the number of a write to it, of the last one unless a call has failed, and its
-- clear bytes pass
pub record IsSealedAt (good : List ℕ → Bool) (keys : KeySet) (start : Start)
    (old new : StoreState) (region place : ℕ) (block : List ℕ) : Type 0 where
  pub number : ℕ
  pub written : IsWriteTo start new.asked region place number
  pub newest : ¬ Rises old.faults new.faults
      → number ≡ number_after start new.asked region place
  pub clear : List ℕ
  pub sealed : block ≡ sealed keys (at_of region place number) clear
  pub passes : IsTrue (good clear)

-- each block of a live region is, from this one on, by every test that rows and dummies pass
pub record IsSealed (Passes : (List ℕ → Bool) → Type 0) (keys : KeySet) (start : Start)
    (from : ℕ) (old new : StoreState) : Type 0 where
  pub each : (region place : ℕ) (block : List ℕ) → from ≤ region → new.live region ≢ None
      → new.last region place ≡ Some block → (good : List ℕ → Bool) → Passes good
      → IsSealedAt good keys start old new region place block

-- of the regions that were made in this run, over every store that tells what it holds
abbrev pub SealsOwn : ((List ℕ → Bool) → Type 0) → Base → KeySet → (old new : StoreState) → Type 0
SealsOwn Passes base keys old new =
    IsTrue old.tells → IsSealed Passes keys base.start (base.start.region + 1) old new

-- of all regions, where the tables that they go on from rested
abbrev pub SealsEach : ((List ℕ → Bool) → Type 0) → Base → KeySet → (old new : StoreState) → Type 0
SealsEach Passes base keys old new =
    IsTrue old.tells → FromEach base (λ s. IsSealed Passes keys base.start 0 old new)

-- Of a store that tells what it holds no block lies in clear of a live region that was made in this run; and of none at all,
-- where the tables that the statements go on from rested.
pub record Sealing (base : Base) (keys : KeySet) (old new : StoreState) : Type 0 where
  pub sealed : SealsOwn (PassesHere base) base keys old new
  pub sealed_before : SealsEach (PassesFrom base) base keys old new
