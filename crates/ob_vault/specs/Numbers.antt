-- The numbers of writes and of places, where a run goes on from an earlier one.
use Rattle.std.specs.Prelude.{true, ◌≡◌, ◌≢◌, ◌⊎◌, ◌<◌, ◌≤◌, ◌+◌, ◌-◌, ℕ, List, [], ◌∷◌, Some, length, slice_get, take}
use Rattle.ob_base.specs.declared.access.Access.{Access}
use Rattle.ob_base.specs.declared.access.Access.TheVariants.{Make, Read, Write, Discard, Open}
use Rattle.ob_base.specs.Accesses.{writes, number_from, nth_write}
use Rattle.ob_vault.specs.State.{Start, World, earlier}

-- the number of the last write to a place: that of a write of this run, or the one that was given
abbrev pub number_after : Start → List Access → ℕ → ℕ → ℕ
number_after start asked q x = number_from start.writes (start.given q x) q x asked

abbrev pub last_number : World → ℕ → ℕ → ℕ
last_number w q x = number_after w.vault.start w.store.asked q x

-- whether a number is that of a write to the place: of this run, whose writes count on from 1 after those
-- of the earlier one, or of the last one before it
abbrev pub IsNumber : World → ℕ → ℕ → ℕ → Type 0
IsNumber w q x n = (nth_write (n - w.vault.start.writes) w.store.asked ≡ Some (q, x))
    ⊎ ((n ≡ w.vault.start.given q x) × (n ≢ 0))

-- what an earlier run may leave: its regions and its writes are those that it counted, and no two places have
-- one number
pub record IsStart (start : Start) : Type 0 where
  pub fresh : (q x : ℕ) → start.region < q → start.given q x ≡ 0
  pub within : (q x : ℕ) → start.given q x ≤ start.writes
  pub alone : (q x r y : ℕ) → start.given q x ≡ start.given r y → start.given q x ≢ 0 → (q ≡ r)
      × (x ≡ y)

-- the access at a position, from 0, is a write to this place
pub record IsWrite (i q x : ℕ) (w : World) : Type 0 where
  pub is : slice_get w.store.asked i ≡ Some (Write q x)

-- its number
abbrev pub write_number : ℕ → World → ℕ
write_number i w = w.vault.start.writes + (writes (take i w.store.asked) + 1)

-- a run may write to a region that is its own, or linked
abbrev pub MayWrite : Start → ℕ → Type 0
MayWrite start q = (start.region < q) ⊎ (start.linked q ≡ true)

-- each write is to such a region
abbrev pub WritesBehind : Start → List Access → Type 0
WritesBehind start [] = Unit {0}
WritesBehind start (Write q x ∷ rest) = MayWrite start q × WritesBehind start rest
WritesBehind start (Make q blocks len ∷ rest) = WritesBehind start rest
WritesBehind start (Read q x ∷ rest) = WritesBehind start rest
WritesBehind start (Discard q ∷ rest) = WritesBehind start rest
WritesBehind start (Open q blocks len ∷ rest) = WritesBehind start rest

-- the accesses so far, counted on from where an earlier run's numbers are: no number of a write or a region is above it
abbrev pub spent : World → ℕ
spent w = earlier w.vault.start + length w.store.asked
