-- What reading and writing the blocks of a walk does.
use Rattle.std.specs.Prelude.{◌≡◌, ◌≢◌, ◌<◌, ◌^◌, ℕ, zero, suc, IsTrue, List, Option, None, Result, OnOk, IfOk, IfErr, MatchResult, map, slice_index_or}
use Rattle.ob_base.specs.declared.access.Access.{Access}
use Rattle.ob_base.specs.declared.access.Access.TheVariants.{Read, Write}
use Rattle.ob_base.specs.Accesses.{read_at, write_at}
use Rattle.ob_store.specs.Calls.{ReadGives}
use Rattle.ob_vault.specs.declared.region.Region.{Region}
use Rattle.ob_vault.specs.declared.region.Order.{Order}
use Rattle.ob_vault.specs.declared.region.Order.TheVariants.{Round, Any}
use Rattle.ob_vault.specs.State.{World}
use Rattle.ob_vault.specs.Tied.{Lives, Written, OnTurn, Holds}
use Rattle.ob_vault.specs.Revs.{turn_after}
use Rattle.ob_vault.specs.Calls.{Went, Only, Unsealed, none, one}
use Rattle.ob_vault.specs.Words.{SealsAll}
use Rattle.ob_row.specs.Rows.{Row}
use Rattle.ob_row.specs.Slots.{Slots}
use Rattle.ob_row.specs.Spelling.{Begins, slot_bytes}
use Rattle.ob_tree.specs.Scripts.{numbers, path_places}
use Rattle.ob_flat.specs.declared.flat.Flat.{Flat}
use Rattle.ob_flat.specs.declared.fault.OpErr.TheVariants as OpErrs
use Rattle.ob_flat.specs.Flats.{IsInTurn, IsWritten, Represents}
use Rattle.ob_flat.specs.Passes.{PassCut}
use Rattle.ob_flat.specs.Slots.{FitsSlot, Spelt}
use Rattle.ob_flat.specs.Words.{SealsTable, TamperedAt, TamperedIn}
use Rattle.ob_oram.specs.declared.fault.OramErr.{OramErr}
use Rattle.ob_oram.specs.declared.fault.OramErr.TheVariants.{Failed, Tampered, StashFull}
use Rattle.ob_oram.specs.declared.held.Held.{Held}
use Rattle.ob_oram.specs.declared.held.Remap.{Remap}
use Rattle.ob_oram.specs.declared.index.Index.{Index}
use Rattle.ob_oram.specs.declared.walk.Walk.{Walk}
use Rattle.ob_oram.specs.declared.walk.Walk.TheVariants.{Stash, Path}
use Rattle.ob_oram.specs.Walks.{blocks_in, place_in, slot_in}
use Rattle.ob_oram.specs.Indexes.{tree_of, stash_of}
use Rattle.ob_oram.specs.Opens.{OpensRow, keyed_slot}

-- the walk goes through the index
abbrev pub IsWalkOf : Index → Walk → Type 0
IsWalkOf index (Stash slots height) = (slots ≡ index.slots) × (height ≡ index.height)
IsWalkOf index (Path height leaf) = (height ≡ index.height) × (leaf < 2 ^ height)

-- the table that it goes through, and in which order that is written
abbrev pub table_in : Index → Walk → Flat
table_in index (Stash slots height) = stash_of index
table_in index (Path height leaf) = tree_of index

abbrev pub order_in : Walk → Order
order_in (Stash slots height) = Round
order_in (Path height leaf) = Any

abbrev pub region_in : Index → Walk → ℕ
region_in index walk = (table_in index walk).region

-- the places of its blocks
abbrev pub places_in : Walk → List ℕ
places_in (Stash slots height) = numbers 0 slots
places_in (Path height leaf) = path_places height leaf

abbrev pub walk_reads : Index → Walk → List Access
walk_reads index walk = map (λ place. Read (region_in index walk) place) (places_in walk)

abbrev pub walk_writes : Index → Walk → List Access
walk_writes index walk = map (λ place. Write (region_in index walk) place) (places_in walk)

-- a block of a walk was read and opened under its tag as some slot, of which this was kept: a row that has no key of
-- the index is left out
pub record OpensBlock (index : Index) (walk : Walk) (c : ℕ) (kept : Option Row)
    (old new : World) : Type 0 where
  pub went : Went (read_at (region_in index walk) (place_in walk c)) none old new
  pub gives : ReadGives (region_in index walk) (place_in walk c) new.store.gave old.store new.store
  pub slot : Option Row
  pub fits : FitsSlot index.schema slot
  pub opened : Unsealed (region_in index walk) (place_in walk c)
      (slot_bytes index.schema slot) new
  pub is : kept ≡ keyed_slot index slot

-- so were the first n blocks, one after the other, into their slots of the buffer
abbrev pub OpensFirst : Index → Walk → Slots → ℕ → World → World → Type 0
OpensFirst index walk slots zero old new = old ≡ new
OpensFirst index walk slots (suc c) old new = (mid : World)
    × OpensFirst index walk slots c old mid
    × OpensBlock index walk c (slice_index_or slots (slot_in walk c) None) mid new

-- the store failed, or the block is not what was written there last, or malformed
abbrev pub RefusesRow : OramErr → Index → Walk → ℕ → World → World → Type 0
RefusesRow Failed index walk c old new =
    PassCut OpErrs.Failed (read_at (region_in index walk) (place_in walk c)) none old new
RefusesRow (Tampered q x) index walk c old new =
    PassCut (OpErrs.Tampered q x) (read_at (region_in index walk) (place_in walk c)) none old new
    × TamperedAt 1 (table_in index walk) (place_in walk c) (OpErrs.Tampered q x) new
RefusesRow StashFull index walk c old new = ⊥

-- a block was read, and its row opened, unless that has no key of the index
pub record ReadsRow (index : Index) (remap : Remap) (walk : Walk) (c : ℕ)
    (result : Result (Option Held) OramErr) (bytes : List ℕ) (old new : World) : Type 0 where
  pub ok : OnOk result (Went (read_at (region_in index walk) (place_in walk c)) none old new)
  pub err : IfErr result (λ e. RefusesRow e index walk c old new)
  pub seals : SealsAll old new
  pub opens : IfOk result (λ held. (slot : Option Row)
      × OpensRow index remap (keyed_slot index slot) held bytes
      × OpensBlock index walk c (keyed_slot index slot) old new)
  pub told : (slot : Option Row) → FitsSlot index.schema slot
      → Holds (region_in index walk) (place_in walk c) (slot_bytes index.schema slot) old
      → new.store.lie ≡ None → MatchResult result
      (λ held. OpensRow index remap (keyed_slot index slot) held bytes)
      (λ e. e ≡ Failed)

-- the same of the block that was read last
abbrev pub RefusesWalk : OramErr → Index → Walk → World → World → Type 0
RefusesWalk Failed index walk old new = PassCut OpErrs.Failed (walk_reads index walk) none old new
RefusesWalk (Tampered q x) index walk old new =
    PassCut (OpErrs.Tampered q x) (walk_reads index walk) none old new
    × TamperedIn 1 (table_in index walk) (OpErrs.Tampered q x) new
RefusesWalk StashFull index walk old new = ⊥

-- each block was read, in order
pub record ReadsWalk {T : Type 0} (index : Index) (walk : Walk) (result : Result T OramErr)
    (old new : World) : Type 0 where
  pub ok : OnOk result (Went (walk_reads index walk) none old new)
  pub err : IfErr result (λ e. RefusesWalk e index walk old new)
  pub seals : SealsAll old new
  pub told : (table : Slots) → Represents 1 (table_in index walk) table old
      → new.store.lie ≡ None → IfErr result (λ e. e ≡ Failed)

-- the first n into their slots of the buffer, where rows that have no key of the index are left out
pub record OpensWalk (index : Index) (walk : Walk) (n : ℕ) (slots after : Slots)
    (old new : World) : Type 0 where
  pub others : (j : ℕ) → ((c : ℕ) → c < n → slot_in walk c ≢ j)
      → slice_index_or after j None ≡ slice_index_or slots j None
  pub blocks : OpensFirst index walk after n old new
  pub told : (table : Slots) → Represents 1 (table_in index walk) table old
      → new.store.lie ≡ None → (c : ℕ) → c < n
      → slice_index_or after (slot_in walk c) None
      ≡ keyed_slot index (slice_index_or table (place_in walk c) None)

-- a block was written from a row
pub record WritesRow {T : Type 0} (index : Index) (walk : Walk) (c : ℕ) (bytes : List ℕ)
    (result : Result T OramErr) (old new : World) : Type 0 where
  pub ok : OnOk result (Went (write_at (region_in index walk) (place_in walk c))
      (one (region_in index walk)) old new)
  pub err : IfErr result (λ e. (e ≡ Failed) × PassCut OpErrs.Failed
      (write_at (region_in index walk) (place_in walk c)) (one (region_in index walk)) old new)
  pub only : Only (region_in index walk) (place_in walk c) old new
  pub seals : SealsTable 1 index.schema (region_in index walk) old new
  pub written : Written (region_in index walk) (place_in walk c) new
  pub turn : (shape : Region) → Lives (region_in index walk) shape old
      → OnTurn (region_in index walk) shape (turn_after shape (place_in walk c)) new
  pub told : OnOk result (IsTrue old.store.tells → (slot : Option Row)
      → Begins index.schema slot bytes
      → Holds (region_in index walk) (place_in walk c) (slot_bytes index.schema slot) new)

-- each block was written from its row of the buffer, in order
pub record WritesWalk {T : Type 0} (index : Index) (walk : Walk) (rows : List (List ℕ))
    (result : Result T OramErr) (old new : World) : Type 0 where
  pub ok : OnOk result (Went (walk_writes index walk) (one (region_in index walk)) old new)
  pub err : IfErr result (λ e. (e ≡ Failed)
      × PassCut OpErrs.Failed (walk_writes index walk) (one (region_in index walk)) old new)
  pub seals : SealsTable 1 index.schema (region_in index walk) old new
  pub turn : OnOk result (IsInTurn (order_in walk) 1 (table_in index walk) 0 new)
  pub written : IsWritten 1 (table_in index walk) new
  pub told : OnOk result (IsTrue old.store.tells → (slots : Slots) → Spelt index.schema slots rows
      → (c : ℕ) → c < blocks_in walk → Holds (region_in index walk) (place_in walk c)
      (slot_bytes index.schema (slice_index_or slots (slot_in walk c) None)) new)
  pub others : OnOk result ((p : ℕ) (bytes : List ℕ)
      → ((c : ℕ) → c < blocks_in walk → place_in walk c ≢ p)
      → Holds (region_in index walk) p bytes old → Holds (region_in index walk) p bytes new)
