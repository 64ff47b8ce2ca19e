-- What a call does that makes the region of a table, or fills it.
use Rattle.std.specs.Prelude.{◌≡◌, ◌⊎◌, ◌<◌, ◌*◌, ℕ, Bool, List, IsTrue, None, Result, OnOk, OnErr, IfOk, IfErr}
use Rattle.ob_base.specs.declared.access.Access.{Access}
use Rattle.ob_base.specs.Accesses.{make_at, write_at}
use Rattle.ob_base.specs.Lists.{each}
use Rattle.ob_base.specs.Schemas.{Columns, width}
use Rattle.ob_script.specs.Parts.{create_part}
use Rattle.ob_vault.specs.declared.fault.VaultErr.{VaultErr}
use Rattle.ob_vault.specs.declared.fault.VaultErr.TheVariants as VaultErrs
use Rattle.ob_vault.specs.declared.region.Region.{Region}
use Rattle.ob_vault.specs.declared.region.Order.{Order}
use Rattle.ob_vault.specs.State.{World}
use Rattle.ob_vault.specs.Tied.{Lives, Written, OnTurn, Holds}
use Rattle.ob_vault.specs.Calls.{Went, CutShort, Seals, one}
use Rattle.ob_vault.specs.Words.{SealsAll}
use Rattle.ob_row.specs.Slots.{empty_slots}
use Rattle.ob_flat.specs.declared.flat.Flat.{Flat}
use Rattle.ob_flat.specs.declared.fault.OpErr.{OpErr}
use Rattle.ob_flat.specs.declared.fault.OpErr.TheVariants.{Failed, NoMemory}
use Rattle.ob_flat.specs.Flats.{IsMade, IsFlat, Represents, table_region}
use Rattle.ob_flat.specs.Words.{PassRan, SealsTable, Makes, NoMemoryBehind, blocks_of}

-- a table, by its parts
abbrev pub table_of : Columns → (capacity region : ℕ) → Flat
table_of columns capacity region = record {
  schema = columns;
  capacity = capacity;
  region = region;
}

-- what is asked to make its region, and to fill that with dummies
abbrev pub make_script : ℕ → Flat → List Access
make_script pack flat = make_at flat.region (blocks_of pack flat) (pack * width flat.schema)

abbrev pub create_script : ℕ → Flat → List Access
create_script pack flat =
    create_part flat.region (blocks_of pack flat) (pack * width flat.schema)

-- the region of a table was made, and nothing written to it, or it is gone
pub record MakesTable (order : Order) (pack : ℕ) (flat : Flat)
    (result : Result ℕ OpErr) (old new : World) : Type 0 where
  pub ran : PassRan (make_script pack flat) (one flat.region) result old new
  pub never : IfErr result (λ e. (e ≡ Failed) ⊎ (e ≡ NoMemory))
  pub memory : NoMemoryBehind (make_script pack flat) result old new
  pub number : IfOk result (λ region. region ≡ flat.region)
  pub lives : OnOk result
      (Lives flat.region (table_region order pack flat.schema flat.capacity) new)
  pub turn : OnOk result
      (OnTurn flat.region (table_region order pack flat.schema flat.capacity) 0 new)
  pub made : OnOk result (IsMade pack flat new)
  pub gone : OnErr result (new.vault.revs.live flat.region ≡ None)
  pub seals : SealsAll old new

-- each place of a region was written, and the first is in turn
pub record IsFilled (region : ℕ) (shape : Region) (w : World) : Type 0 where
  pub lives : Lives region shape w
  pub turn : OnTurn region shape 0 w
  pub written : (p : ℕ) → p < shape.blocks → Written region p w

-- the same bytes were written to each place of a region, in order
pub record FillsRegion {T : Type 0} (region : ℕ) (shape : Region) (bytes : List ℕ)
    (result : Result T VaultErr) (old new : World) : Type 0 where
  pub ok : OnOk result (Went (each shape.blocks (write_at region)) (one region) old new)
  pub err : IfErr result (λ e. CutShort e (each shape.blocks (write_at region)) (one region) old new)
  pub never : IfErr result (λ e. e ≡ VaultErrs.Failed)
  pub seals : (good : ℕ → List ℕ → Bool) → IsTrue (good region bytes) → Seals good old new
  pub filled : OnOk result (IsFilled region shape new)
  pub told : OnOk result (IsTrue old.store.tells
      → (p : ℕ) → p < shape.blocks → Holds region p bytes new)

-- the region of a table was made and filled with dummies, or it is gone
pub record CreatesRegion (order : Order) (pack : ℕ) (flat : Flat)
    (result : Result ℕ OpErr) (old new : World) : Type 0 where
  pub ran : PassRan (create_script pack flat) (one flat.region) result old new
  pub never : IfErr result (λ e. (e ≡ Failed) ⊎ (e ≡ NoMemory))
  pub memory : NoMemoryBehind (make_script pack flat) result old new
  pub number : IfOk result (λ region. region ≡ flat.region)
  pub lives : OnOk result
      (Lives flat.region (table_region order pack flat.schema flat.capacity) new)
  pub table : OnOk result (IsFlat pack flat new)
  pub gone : OnErr result (new.vault.revs.live flat.region ≡ None)
  pub seals : SealsTable pack flat.schema flat.region old new
  pub told : OnOk result (IsTrue old.store.tells
      → Represents pack flat (empty_slots flat.capacity) new)

-- a table of empty slots was made, or its region is gone
pub record Creates (order : Order) (pack : ℕ) (flat : Flat)
    (result : Result Flat OpErr) (old new : World) : Type 0 where
  pub ran : PassRan (create_script pack flat) (one flat.region) result old new
  pub never : IfErr result (λ e. (e ≡ Failed) ⊎ (e ≡ NoMemory))
  pub memory : NoMemoryBehind (make_script pack flat) result old new
  pub makes : Makes order pack flat result old new
  pub told : IfOk result (λ fresh. IsTrue old.store.tells
      → Represents pack fresh (empty_slots flat.capacity) new)
