-- How a vault and its store belong together.
use Rattle.std.specs.Prelude.{◌≡◌, ◌≢◌, ◌<◌, ◌≤◌, ◌+◌, ◌-◌, ◌^◌, min, ℕ, Bool, IsTrue, List, [], ◌∷◌, ◌++◌, length, take, drop, Some, None}
use Rattle.ob_base.specs.Accesses.{AllBelow}
use Rattle.ob_base.specs.declared.access.Access.{Access}
use Rattle.ob_base.specs.declared.access.Access.TheVariants.{Read}
use Rattle.ob_store.specs.State.{FalseRead, StoreState}
use Rattle.ob_store.specs.Calls.{IsRegion}
use Rattle.ob_seal.specs.KeySet.{KeySet}
use Rattle.ob_seal.specs.Sealed.{sealed, tag_of}
use Rattle.ob_seal.specs.declared.At.{At}
use Rattle.ob_vault.specs.declared.region.Region.{Region}
use Rattle.ob_vault.specs.declared.region.Order.TheVariants.{Round}
use Rattle.ob_vault.specs.State.{RevState, Start, World}
use Rattle.ob_vault.specs.Numbers.{number_after, last_number, IsNumber, IsStart, WritesBehind}
use Rattle.ob_base.specs.Accesses.{writes, makes}

-- the vault's numbers are those of the accesses, its regions are live in the store, and no region of an earlier run was
-- written, except one that is linked
pub record Tied (w : World) : Type 0 where
  pub start : IsStart w.vault.start
  pub count : w.vault.count ≡ w.vault.start.writes + writes w.store.asked
  pub next : w.vault.next ≡ w.vault.start.region + 1 + makes w.store.asked
  pub above : AllBelow w.vault.next w.store.asked
  pub own : WritesBehind w.vault.start w.store.asked
  pub live : (q : ℕ) (shape : Region) → w.vault.revs.live q ≡ Some shape
      → IsRegion q shape.blocks (shape.width + 32) w.store
  pub numbers : (q x : ℕ) (shape : Region) → w.vault.revs.live q ≡ Some shape → x < shape.blocks
      → w.vault.revs.number q x ≡ last_number w q x

-- a place of a round region has the number after that of the place before it, unless it is the next one in turn or
-- nothing was written before it
pub record InLaps (q : ℕ) (shape : Region) (revs : RevState) : Type 0 where
  pub runs : (x : ℕ) → x + 1 < shape.blocks → x + 1 ≢ revs.turn q → revs.number q x ≢ 0
      → revs.number q (x + 1) ≡ revs.number q x + 1

-- what each call asks of a vault and a store, and leaves
pub record Ready (w : World) : Type 0 where
  pub tied : Tied w
  pub below : (q : ℕ) (shape : Region) → w.vault.revs.live q ≡ Some shape → q < w.vault.next
  pub fits : (q : ℕ) (shape : Region) → w.vault.revs.live q ≡ Some shape → (1 ≤ shape.width)
      × (shape.width ≤ 16384)
  pub laps : (q : ℕ) (shape : Region) → w.vault.revs.live q ≡ Some shape → shape.order ≡ Round
      → InLaps q shape w.vault.revs

-- a region of the vault
pub record Lives (q : ℕ) (shape : Region) (w : World) : Type 0 where
  pub live : w.vault.revs.live q ≡ Some shape

-- a place that was written
pub record Written (q x : ℕ) (w : World) : Type 0 where
  pub number : w.vault.revs.number q x ≢ 0

-- no earlier run has made the region: it is this one's, once it is made
pub record IsOwn (q : ℕ) (w : World) : Type 0 where
  pub above : w.vault.start.region < q

-- a write to the place is in turn
pub record OnTurn (q : ℕ) (shape : Region) (x : ℕ) (w : World) : Type 0 where
  pub turn : shape.order ≡ Round → x ≡ w.vault.revs.turn q
  pub run : shape.order ≡ Round → x ≢ 0 → w.vault.revs.number q (x - 1) ≡ w.vault.count

abbrev pub at_of : ℕ → ℕ → ℕ → At
at_of q x n = record { region = q; place = x; number = n }

-- the block last written at the place is that of these rows, sealed under the number that the vault
-- keeps of it
pub record Holds (q x : ℕ) (rows : List ℕ) (w : World) : Type 0 where
  pub last : w.store.last q x ≡ Some
      (sealed w.vault.keys (at_of q x (w.vault.revs.number q x)) rows)

-- what the count of a store's faults is below until a call fails
abbrev pub next_fault : StoreState → ℕ
next_fault s = min (s.faults + 1) (2 ^ 64 - 1)

-- of which blocks it is said that they are sealed: of regions from this one on; and under the number of the last write
-- to their place for as long as the store's faults are below this
pub record Scope : Type 0 where
  pub from : ℕ
  pub below : ℕ

-- a block is some rows' that are good for its region, sealed under the number of a write to its place
pub record SealedAt (good : ℕ → List ℕ → Bool) (scope : Scope) (w : World) (q x : ℕ)
    (block : List ℕ) : Type 0 where
  pub number : ℕ
  pub rows : List ℕ
  pub is : block ≡ sealed w.vault.keys (at_of q x number) rows
  pub went : IsNumber w q x number
  pub newest : w.store.faults < scope.below → number ≡ last_number w q x
  pub fine : IsTrue (good q rows)

-- nothing lies in clear
pub record AllSealed (good : ℕ → List ℕ → Bool) (scope : Scope) (w : World) : Type 0 where
  pub all : (q x : ℕ) (block : List ℕ) → scope.from ≤ q → w.store.live q ≢ None
      → w.store.last q x ≡ Some block → SealedAt good scope w q x block

-- the place of a lie and the number of its last write then
abbrev pub at_lie : Start → FalseRead → At
at_lie start lie = at_of lie.region lie.place (number_after start lie.before lie.region lie.place)

-- the block of a lie has the tag of its place and number
pub record TagFits (keys : KeySet) (start : Start) (lie : FalseRead) : Type 0 where
  pub tag : drop (length lie.bytes - 32) lie.bytes
      ≡ tag_of keys (at_lie start lie) (take (length lie.bytes - 32) lie.bytes)

-- the read of a lie is one of these accesses
pub record ReadsIn (lie : FalseRead) (accesses : List Access) : Type 0 where
  pub rest : List Access
  pub is : lie.before ++ Read lie.region lie.place ∷ rest ≡ accesses

-- no lie is told, or one that was read and fits
pub record Untampered (w : World) : Type 0 where
  pub calm : (lie : FalseRead) → w.store.lie ≡ Some lie → TagFits w.vault.keys w.vault.start lie
  pub within : (lie : FalseRead) → w.store.lie ≡ Some lie → ReadsIn lie w.store.asked

-- of the first changed block that was read, if there is one, the tag doesn't fit
pub record IsUnfit (w : World) : Type 0 where
  pub unfit : (lie : FalseRead) → w.store.lie ≡ Some lie → ¬ TagFits w.vault.keys w.vault.start lie

-- the last access was the first lie
pub record EndsAt (q x : ℕ) (w : World) : Type 0 where
  pub lie : FalseRead
  pub told : w.store.lie ≡ Some lie
  pub asked : w.store.asked ≡ lie.before ++ Read lie.region lie.place ∷ []
  pub at_region : lie.region ≡ q
  pub at_place : lie.place ≡ x
