-- The words of the passes' contracts.
use Rattle.std.specs.Prelude.{◌≡◌, ◌⊎◌, ◌<◌, ◌≤◌, ◌*◌, ℕ, Bool, List, None, Result, Err, OnOk, OnErr, IfOk, IfErr, length}
use Rattle.ob_base.specs.declared.access.Access.{Access}
use Rattle.ob_base.specs.Numbers.{blocks_for}
use Rattle.ob_base.specs.Schemas.{Columns, width}
use Rattle.ob_store.specs.Runs.{Did}
use Rattle.ob_vault.specs.declared.region.Order.{Order}
use Rattle.ob_vault.specs.State.{World}
use Rattle.ob_vault.specs.Tied.{Ready, Lives}
use Rattle.ob_vault.specs.Calls.{Went, Seals, Unfit, Unsealed}
use Rattle.ob_vault.specs.Places.{RowsFit}
use Rattle.ob_flat.specs.declared.flat.Flat.{Flat}
use Rattle.ob_flat.specs.declared.fault.OpErr.{OpErr}
use Rattle.ob_flat.specs.declared.fault.OpErr.TheVariants.{Tampered, NoMemory}
use Rattle.std.specs.List.{All}
use Rattle.ob_row.specs.Slots.{Slots}
use Rattle.ob_flat.specs.Slots.{FitsSlot, block_bytes}
use Rattle.ob_flat.specs.Flats.{IsSized, IsFlat, Accepts, table_region}
use Rattle.ob_flat.specs.Passes.{PassCut}

-- a vault that belongs to its store, which has n accesses left
pub record HasSpare (n : ℕ) (w : World) : Type 0 where
  pub ready : Ready w
  pub spare : n ≤ w.store.spare

-- on `Ok` all of the script was asked, and on an error a first part of it
pub record PassRan {T : Type 0} (script : List Access) (some : ℕ → Type 0)
    (result : Result T OpErr) (old new : World) : Type 0 where
  pub ok : OnOk result (Went script some old new)
  pub err : IfErr result (λ e. PassCut e script some old new)

-- how many blocks a table has
abbrev pub blocks_of : ℕ → Flat → ℕ
blocks_of pack flat = blocks_for pack flat.capacity

-- under the number of its last write something was sealed for this place of which a part is no row and
-- no dummy
pub record IsMalformed (pack : ℕ) (flat : Flat) (place : ℕ) (w : World) : Type 0 where
  pub bytes : List ℕ
  pub opened : Unsealed flat.region place bytes w
  pub none : (slots : Slots) → length slots ≡ pack → All (FitsSlot flat.schema) slots
      → bytes ≡ block_bytes flat.schema slots → ⊥

-- the block that was read at this place hasn't the tag of its last write, or has a malformed row
pub record TamperedAt (pack : ℕ) (flat : Flat) (place : ℕ) (e : OpErr) (w : World) : Type 0 where
  pub is : e ≡ Tampered flat.region place
  pub why : Unfit flat.region place w ⊎ IsMalformed pack flat place w

-- at some place of the table
pub record TamperedIn (pack : ℕ) (flat : Flat) (e : OpErr) (w : World) : Type 0 where
  pub place : ℕ
  pub below : place < blocks_of pack flat
  pub is : e ≡ Tampered flat.region place
  pub why : Unfit flat.region place w ⊎ IsMalformed pack flat place w

-- the same table in another region
abbrev pub moved : Flat → ℕ → Flat
moved flat region = record flat { region = region }

-- a table that a pass may go through
pub record IsTable (pack : ℕ) (flat : Flat) (w : World) : Type 0 where
  pub some : 1 ≤ pack
  pub most : pack ≤ 16
  pub size : IsSized flat.schema flat.capacity
  pub written : IsFlat pack flat w

-- rows that are as wide as a block's of this schema
abbrev pub FitBlock : Columns → List (List ℕ) → Type 0
FitBlock columns rows = RowsFit rows (length rows * width columns)

-- the same if blocks of such rows are good for this region
pub record SealsTable (pack : ℕ) (columns : Columns) (region : ℕ) (old new : World) : Type 0 where
  pub seals : (good : ℕ → List ℕ → Bool) → Accepts good pack columns region → Seals good old new

-- on `Ok` a table was made, each of whose places was written, and on an error its region is gone
pub record Makes (order : Order) (pack : ℕ) (made : Flat)
    (result : Result Flat OpErr) (old new : World) : Type 0 where
  pub value : IfOk result (λ fresh. fresh ≡ made)
  pub lives : OnOk result
      (Lives made.region (table_region order pack made.schema made.capacity) new)
  pub flat : IfOk result (λ fresh. IsFlat pack fresh new)
  pub gone : OnErr result (new.vault.revs.live made.region ≡ None)
  pub seals : SealsTable pack made.schema made.region old new

-- memory is wanted only once all of this part of the script was asked
pub record NoMemoryBehind {T : Type 0} (script : List Access)
    (result : Result T OpErr) (old new : World) : Type 0 where
  pub did : result ≡ Err NoMemory → Did script old.store new.store
